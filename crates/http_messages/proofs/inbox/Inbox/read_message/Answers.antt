use Rattle.std.proofs.Common.{◌≡◌, ◌≤◌, ◌+◌, length, List, ℕ, Option, Some, None, option_map, take, sym, ap, ◌∙◌}
use Rattle.http_messages.specs.Streams.{first_head}
use Rattle.http_messages.proofs.FrontLemmas.{no_head, refused_head, cut_short, whole_message}
use Rattle.http_messages.proofs.ReadingLemmas.{more_behind, fault_behind, head_or_long, body_at_hand, wants_so_many, wanted_both}
use Rattle.http_messages.proofs.inbox.Inbox.read_message.Goals as goal

-- the head that was found
found : (bytes : List ℕ) (r : Option ℕ) (n : ℕ) → r ≡ Some n → option_map (λ k. take k bytes) r ≡ first_head bytes → Some (take n bytes) ≡ first_head bytes
found bytes r n is cut = sym (ap (option_map (λ k. take k bytes)) is) ∙ cut

none_found : (bytes : List ℕ) (r : Option ℕ) → r ≡ None → option_map (λ k. take k bytes) r ≡ first_head bytes → first_head bytes ≡ None
none_found bytes r is cut = sym cut ∙ ap (option_map (λ k. take k bytes)) is

pub returns-in_default-clause-arrives : goal.returns-in_default-clause-arrives
returns-in_default-clause-arrives g c =
    no_head (g.R.ByteSource.left c.read_head.new.source) c.read_head.new.self c.in_ok-_more._more (none_found c.read_head.new.self c.head_end.result c.in_default.is c.head_end.ensures.cut)
    c.in_ok-_more.ensures.whole c.in_ok-_more.ensures.end c.without_head.result c.without_head.ensures

pub returns-in-Err-clause-arrives : goal.returns-in-Err-clause-arrives
returns-in-Err-clause-arrives g c =
    refused_head (g.R.ByteSource.left c.read_head.new.source) c.read_head.new.self c.in-Some.head c.in-Err.refusal (found c.read_head.new.self c.head_end.result c.in-Some.head c.in-Some.is c.head_end.ensures.cut)
    c.in-Some.ensures.within c.in-Err.ensures.err

pub returns-in_err-read_up_to-clause-fault : goal.returns-in_err-read_up_to-clause-fault
returns-in_err-read_up_to-clause-fault g c =
    fault_behind c.in_err-read_up_to.field-0.0 c.from_residual-in_err-read_up_to.result c.from_residual-in_err-read_up_to.ensures.1 c.in_ok-_more.ensures.read c.in_err-read_up_to.ensures.fault

pub returns-then-not-branch-clause-arrives : goal.returns-then-not-branch-clause-arrives
returns-then-not-branch-clause-arrives g c =
    cut_short (g.R.ByteSource.left c.read_up_to.new.source) c.read_head.new.self c.in_ok-read_up_to.ensures.read.piece c.read_up_to.new.self c.in-Some.head c.in-Ok.size
    (found c.read_head.new.self c.head_end.result c.in-Some.head c.in-Some.is c.head_end.ensures.cut) c.in-Some.ensures.within c.in-Ok.ensures.ok c.in_ok-read_up_to.ensures.read.behind
    (c.in_ok-read_up_to.ensures.short c.if-not-branch.true) (c.in_ok-read_up_to.ensures.end c.if-not-branch.true)

pub returns-clause-read : goal.returns-clause-read
returns-clause-read g c = more_behind c.in_ok-_more.ensures.read c.in_ok-read_up_to.ensures.read

pub returns-clause-arrives : goal.returns-clause-arrives
returns-clause-arrives g c =
    whole_message (g.R.ByteSource.left c.read_up_to.new.source) c.read_head.new.self c.in_ok-read_up_to.ensures.read.piece c.read_up_to.new.self c.in-Some.head c.in-Ok.size
    (found c.read_head.new.self c.head_end.result c.in-Some.head c.in-Some.is c.head_end.ensures.cut) c.in-Some.ensures.within c.in-Ok.ensures.ok c.in_ok-read_up_to.ensures.read.behind
    (c.in_ok-read_up_to.ensures.whole c.if-not-branch.false)

pub returns-in_err-_more-clause-at_hand : goal.returns-in_err-_more-clause-at_hand
returns-in_err-_more-clause-at_hand g c = λ holds. c.read_head.ensures.at_hand (head_or_long c.args.self.now holds)

pub returns-in_default-clause-at_hand : goal.returns-in_default-clause-at_hand
returns-in_default-clause-at_hand g c = λ holds. c.read_head.ensures.at_hand (head_or_long c.args.self.now holds)

pub returns-in-Err-clause-at_hand : goal.returns-in-Err-clause-at_hand
returns-in-Err-clause-at_hand g c = λ holds. c.read_head.ensures.at_hand (head_or_long c.args.self.now holds)

pub returns-in_err-read_up_to-clause-at_hand : goal.returns-in_err-read_up_to-clause-at_hand
returns-in_err-read_up_to-clause-at_hand g c = λ holds.
    let front = c.read_head.ensures.at_hand (head_or_long c.args.self.now holds) in
    let enough : c.in-Some.head + c.in-Ok.size ≤ length c.read_head.new.self =
    body_at_hand c.args.self.now c.read_head.new.self c.in-Some.head c.in-Ok.size holds front.1
    (found c.read_head.new.self c.head_end.result c.in-Some.head c.in-Some.is c.head_end.ensures.cut) c.in-Some.ensures.within c.in-Ok.ensures.least in
    let behind = c.read_up_to.ensures.at_hand enough in
    (behind.0 ∙ front.0, behind.1 ∙ front.1)

pub returns-then-not-branch-clause-at_hand : goal.returns-then-not-branch-clause-at_hand
returns-then-not-branch-clause-at_hand g c = λ holds.
    let front = c.read_head.ensures.at_hand (head_or_long c.args.self.now holds) in
    let enough : c.in-Some.head + c.in-Ok.size ≤ length c.read_head.new.self =
    body_at_hand c.args.self.now c.read_head.new.self c.in-Some.head c.in-Ok.size holds front.1
    (found c.read_head.new.self c.head_end.result c.in-Some.head c.in-Some.is c.head_end.ensures.cut) c.in-Some.ensures.within c.in-Ok.ensures.least in
    let behind = c.read_up_to.ensures.at_hand enough in
    (behind.0 ∙ front.0, behind.1 ∙ front.1)

pub returns-clause-at_hand : goal.returns-clause-at_hand
returns-clause-at_hand g c = λ holds.
    let front = c.read_head.ensures.at_hand (head_or_long c.args.self.now holds) in
    let enough : c.in-Some.head + c.in-Ok.size ≤ length c.read_head.new.self =
    body_at_hand c.args.self.now c.read_head.new.self c.in-Some.head c.in-Ok.size holds front.1
    (found c.read_head.new.self c.head_end.result c.in-Some.head c.in-Some.is c.head_end.ensures.cut) c.in-Some.ensures.within c.in-Ok.ensures.least in
    let behind = c.read_up_to.ensures.at_hand enough in
    (behind.0 ∙ front.0, behind.1 ∙ front.1)

pub returns-then-not-branch-clause-wanted : goal.returns-then-not-branch-clause-wanted
returns-then-not-branch-clause-wanted g c =
    wanted_both c.in_ok-_more.ensures.read c.in_ok-_more.ensures.wanted
    (c.in_ok-read_up_to.ensures.wanted (wants_so_many c.read_head.new.self c.in-Some.head c.in-Ok.size
    (found c.read_head.new.self c.head_end.result c.in-Some.head c.in-Some.is c.head_end.ensures.cut) c.in-Some.ensures.within c.in-Ok.ensures.least))

pub returns-clause-wanted : goal.returns-clause-wanted
returns-clause-wanted g c =
    wanted_both c.in_ok-_more.ensures.read c.in_ok-_more.ensures.wanted
    (c.in_ok-read_up_to.ensures.wanted (wants_so_many c.read_head.new.self c.in-Some.head c.in-Ok.size
    (found c.read_head.new.self c.head_end.result c.in-Some.head c.in-Some.is c.head_end.ensures.cut) c.in-Some.ensures.within c.in-Ok.ensures.least))
