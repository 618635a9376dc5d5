-- Pieces of a stream, one behind another.
use Rattle.std.proofs.Common.{◌≡◌, ◌≤◌, ◌<◌, ◌+◌, ℕ, List, [], ◌++◌, length, take, drop, Bool, true, false, Option, Some, None, option_map, refl, sym, ap, subst, ◌∙◌, arith, append_assoc, append-nil, length-append, length-drop, length-take-le}
use Rattle.std.specs.Prelude.{Result, Ok, Err, IfErr, IsErrAnd, is_some, not}
use Rattle.byte_streams.specs.Streams.{prepend_known}
use Rattle.http_messages.specs.Heads.{head_of}
use Rattle.http_messages.specs.Streams.{head_limit, first_head}
use Rattle.http_messages.specs.Arrivals.{ReadBehind, CauseOf, WasCutOff, HasBody, HoldsBehind, HoldsFirst, piece_limit, WasWanted, nothing_read as read_nothing, last_piece}
use Rattle.http_messages.specs.declared.inbox.ReadFault.{ReadFault}
use Rattle.http_messages.proofs.FrontLemmas.{head_stays}

pub nothing_read : (left : Option (List ℕ)) → left ≡ prepend_known [] left
nothing_read None = refl
nothing_read (Some xs) = refl

pub read_both : (old mid new : Option (List ℕ)) (a b : List ℕ) → old ≡ prepend_known a mid → mid ≡ prepend_known b new → old ≡ prepend_known (a ++ b) new
read_both old mid None a b first second = first ∙ ap (prepend_known a) second
read_both old mid (Some xs) a b first second = first ∙ ap (prepend_known a) second ∙ ap Some (sym (append_assoc a b xs))

pub none_behind : (left : Option (List ℕ)) (failed : ℕ) (bytes : List ℕ) → ReadBehind left left failed failed bytes bytes
none_behind left failed bytes = record { piece = []; read = nothing_read left; behind = sym (append-nil bytes); count = refl }

pub more_behind : {l0 l1 l2 : Option (List ℕ)} {f0 f1 f2 : ℕ} {b0 b1 b2 : List ℕ} → ReadBehind l0 l1 f0 f1 b0 b1 → ReadBehind l1 l2 f1 f2 b1 b2 → ReadBehind l0 l2 f0 f2 b0 b2
more_behind {l0} {l1} {l2} {b0 = b0} first then = record {
  piece = first.piece ++ then.piece;
  read = read_both l0 l1 l2 first.piece then.piece first.read then.read;
  behind = then.behind ∙ ap (λ bs. bs ++ then.piece) first.behind ∙ append_assoc b0 first.piece then.piece;
  count = then.count ∙ first.count;
}

pub cut_off_behind : {l0 l1 l2 : Option (List ℕ)} {f0 f1 f2 : ℕ} {b0 b1 : List ℕ} (fault : ReadFault) → ReadBehind l0 l1 f0 f1 b0 b1 → WasCutOff l1 l2 f1 f2 fault → WasCutOff l0 l2 f0 f2 fault
cut_off_behind {l0} {l1} {l2} {f2 = f2} fault first then = record {
  piece = first.piece ++ then.piece;
  read = read_both l0 l1 l2 first.piece then.piece first.read then.read;
  cause = subst (λ f. CauseOf fault f f2) first.count then.cause;
}

-- the same of a fault that is handed on
pub fault_behind : {T : Type 0} {l0 l1 l2 : Option (List ℕ)} {f0 f1 f2 : ℕ} {b0 b1 : List ℕ} (fault : ReadFault) (r : Result T ReadFault) → IsErrAnd r (λ e. e ≡ fault)
    → ReadBehind l0 l1 f0 f1 b0 b1 → WasCutOff l1 l2 f1 f2 fault → IfErr r (WasCutOff l0 l2 f0 f2)
fault_behind fault (Ok x) is first then = tt
fault_behind {l0 = l0} {l2 = l2} {f0 = f0} {f2 = f2} fault (Err e) is first then = subst (WasCutOff l0 l2 f0 f2) (sym is) (cut_off_behind fault first then)

-- ---- nothing more is read

none_is : (r : Option ℕ) (none : Bool) → is_some r ≡ not none → none ≡ true → r ≡ None
none_is None none is given = refl
none_is (Some n) none is given = absurd (let no : true ≡ false = is ∙ ap not given in cc)

-- where a head is looked for, there was none, nor too many bytes for one
pub no_head_at_hand : (old now : List ℕ) (r : Option ℕ) (none : Bool) → (first_head old ≡ None → head_limit ≤ length old) → now ≡ old → length now < head_limit → is_some r ≡ not none → none ≡ true
    → option_map (λ k. take k now) r ≡ first_head now → ⊥
no_head_at_hand old now r none stands same short told given cut =
    let is : first_head now ≡ None = sym cut ∙ ap (option_map (λ k. take k now)) (none_is r none told given) in
    let long : head_limit ≤ length old = stands (subst (λ b. first_head b ≡ None) same is) in
    let again : head_limit ≤ length now = subst (λ b. head_limit ≤ length b) (sym same) long in
    omega arith

-- bytes that hold their first message have a head, or too many bytes for one
pub head_or_long : (bytes : List ℕ) → HoldsFirst bytes → first_head bytes ≡ None → head_limit ≤ length bytes
head_or_long bytes holds none = subst (λ found. HoldsBehind found bytes) none holds

-- behind its head they have so many bytes as it wants at least
pub body_at_hand : (old now : List ℕ) (n size : ℕ) → HoldsFirst old → now ≡ old → Some (take n now) ≡ first_head now → n ≤ length now
    → ((behind : List ℕ) → HasBody (head_of (take n now)) behind → size ≤ length behind) → n + size ≤ length now
body_at_hand old now n size holds same is within least =
    let here : HoldsFirst now = subst HoldsFirst (sym same) holds in
    let behind : HasBody (head_of (take n now)) (drop (length (take n now)) now) = subst (λ found. HoldsBehind found now) (sym is) here in
    let enough : size ≤ length (drop n now) = least (drop n now) (subst (λ k. HasBody (head_of (take n now)) (drop k now)) (length-take-le n now within) behind) in
    let left = length-drop n now in
    omega arith

-- no more is read than is wanted: one read more, where the first message isn't there
pub wanted_more : {l0 l1 l2 : Option (List ℕ)} {f0 f1 f2 : ℕ} {b0 b1 b2 : List ℕ} → ReadBehind l0 l1 f0 f1 b0 b1 → ReadBehind l1 l2 f1 f2 b1 b2 → length b2 ≤ length b1 + piece_limit → (HoldsFirst b1 → ⊥) → WasWanted b0 b2
wanted_more {b0 = b0} {b1 = b1} {b2 = b2} first then most short =
    last_piece first.piece then.piece (then.behind ∙ ap (λ bs. bs ++ then.piece) first.behind ∙ append_assoc b0 first.piece then.piece)
    (let both = length-append b1 then.piece in let all = ap length then.behind in omega arith) (λ holds. short (subst HoldsFirst (sym first.behind) holds))

-- where no head ends and there is room for one, no message is there
pub no_message : (now : List ℕ) (r : Option ℕ) (none : Bool) → length now < head_limit → is_some r ≡ not none → none ≡ true → option_map (λ k. take k now) r ≡ first_head now → HoldsFirst now → ⊥
no_message now r none short told given cut holds =
    let is : first_head now ≡ None = sym cut ∙ ap (option_map (λ k. take k now)) (none_is r none told given) in
    let long : head_limit ≤ length now = head_or_long now holds is in
    omega arith

-- a head and so many bytes behind it are wanted
pub wants_so_many : (now : List ℕ) (n size : ℕ) → Some (take n now) ≡ first_head now → n ≤ length now → ((behind : List ℕ) → HasBody (head_of (take n now)) behind → size ≤ length behind)
    → (more : List ℕ) → length (now ++ more) < n + size → HoldsFirst (now ++ more) → ⊥
wants_so_many now n size is within least more few holds =
    let head : first_head (now ++ more) ≡ Some (take n now) = head_stays now more (take n now) (sym is) in
    let behind : HasBody (head_of (take n now)) (drop (length (take n now)) (now ++ more)) = subst (λ found. HoldsBehind found (now ++ more)) head holds in
    let enough : size ≤ length (drop n (now ++ more)) = least (drop n (now ++ more)) (subst (λ k. HasBody (head_of (take n now)) (drop k (now ++ more))) (length-take-le n now within) behind) in
    let left = length-drop n (now ++ more) in
    let both = length-append now more in
    omega arith

-- a head's bytes, and then a body's
pub wanted_both : {l0 l1 : Option (List ℕ)} {f0 f1 : ℕ} {b0 b1 b2 : List ℕ} → ReadBehind l0 l1 f0 f1 b0 b1 → WasWanted b0 b1 → WasWanted b1 b2 → WasWanted b0 b2
wanted_both {b0 = b0} {b1 = b1} {b2 = b2} read first (read_nothing same) = subst (WasWanted b0) (sym same) first
wanted_both {b0 = b0} {b1 = b1} {b2 = b2} read first (last_piece front last is most short) =
    let whole : b0 ++ (read.piece ++ front) ≡ b1 ++ front = sym (append_assoc b0 read.piece front) ∙ ap (λ bs. bs ++ front) (sym read.behind) in
    last_piece (read.piece ++ front) last
    (is ∙ ap (λ bs. bs ++ (front ++ last)) read.behind ∙ append_assoc b0 read.piece (front ++ last) ∙ ap (λ bs. b0 ++ bs) (sym (append_assoc read.piece front last)))
    most (λ holds. short (subst HoldsFirst whole holds))
