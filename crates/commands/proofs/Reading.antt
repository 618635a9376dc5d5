-- A source that is read piece by piece, and its lines answered on the way.
use Rattle.std.proofs.Common.{◌≡◌, ℕ, ◌+◌, ◌-◌, ◌^◌, ◌<◌, ◌≤◌, List, [], ◌++◌, ◌⊎◌, inl, inr, Bool, true, false, Option, Result, Ok, Err, length, refl, sym, subst, ◌∙◌, append-nil, arith, length-append}
use Rattle.std.specs.Prelude.{flat_map, IfSome}
use Rattle.std.specs.List.{AllByRecursion}
use Rattle.byte_streams.specs.Streams.{prepend_known, RoseOrStands}
use Rattle.commands.specs.declared.lines.Line.{Line}
use Rattle.commands.specs.TextLines.{HasNoEnd, with_end, with_rest, AreLinesOf}
use Rattle.office.specs.Exchanges.{Exchange, Answered}
use Rattle.commands.specs.declared.deliver.AtLost.{AtLost}
use Rattle.commands.specs.declared.deliver.AtLost.TheVariants.{End}
use Rattle.commands.specs.declared.deliver.Broken.{Broken}
use Rattle.commands.specs.declared.deliver.Broken.TheVariants.{Stream, Lost}
use Rattle.commands.specs.LostLines.{GoingOn, BrokenOff, EndedAt}
use Rattle.commands.specs.Gathering.{Gathers, Passed, ReadOn, ReadOff, ReadsOff, EndsBy, LinesAnswered}
use Rattle.office.specs.Writers.{Writer, TakesAll, TakesPart}
use Rattle.commands.specs.DeliverLines.{SomeAnswered, Stopped, no_source, no_sink, endless}
use Rattle.office.proofs.Streaming.{took_all, took_part, nothing_read, read_more, all_read, given}
use Rattle.office.proofs.Going.{answered_further, none_answered}
use Rattle.commands.proofs.Gathered.{answered_so, answered_did, IsErrOf}
use Rattle.commands.proofs.Losing.{breaks_behind, ends_lost_behind, going_breaks}
use Rattle.commands.proofs.Cutting.{nothing_cut, cut_further, whole_further, each_further, lines_at_end, lines_in_front}

-- so many times was read so far
pub record Along (Did : List Exchange → Type 0) (Wrote : List ℕ → Type 0) (left_old left_now : Option (List ℕ)) (failed_old failed_now reads : ℕ) (line : Line) : Type 0 where
  pub got : List ℕ
  pub read : left_old ≡ prepend_known got left_now
  pub count : failed_now ≡ failed_old
  pub long : reads ≤ length got
  pub passed : Passed Did Wrote got line

pub begins : {Did : List Exchange → Type 0} {Wrote : List ℕ → Type 0} (left : Option (List ℕ)) (failed : ℕ) (line : Line) → Did [] → Wrote [] → Gathers line [] → Along Did Wrote left left failed failed 0 line
begins left failed line did wrote gathers = record {
  got = [];
  read = nothing_read left;
  count = refl;
  long = omega arith;
  passed = record { lines = []; rest = []; cut = nothing_cut [] tt; gathers = gathers; answered = none_answered did wrote };
}

-- what was passed of a text, and then of what came behind it
pub passes : {Did DidThen DidAll : List Exchange → Type 0} {Wrote WroteThen WroteAll : List ℕ → Type 0} {text : List ℕ} {line next : Line} (piece : List ℕ) →
    ((xs ys : List Exchange) → Did xs → DidThen ys → DidAll (xs ++ ys)) → ((a b : List ℕ) → Wrote a → WroteThen b → WroteAll (a ++ b)) →
    (so_far : Passed Did Wrote text line) → Passed DidThen WroteThen (so_far.rest ++ piece) next → Passed DidAll WroteAll (text ++ piece) next
passes piece did wrote so_far then = record {
  lines = so_far.lines ++ then.lines;
  rest = then.rest;
  cut = cut_further piece so_far.cut then.cut;
  gathers = then.gathers;
  answered = answered_further did wrote so_far.answered then.answered;
}

-- ---- one more read

pub goes_along : {Did DidThen DidAll : List Exchange → Type 0} {Wrote WroteThen WroteAll : List ℕ → Type 0} {l0 l1 l2 : Option (List ℕ)} {f0 f1 f2 reads : ℕ} {line next : Line} {more : Bool} →
    (so_far : Along Did Wrote l0 l1 f0 f1 reads line) → ReadOn l1 l2 f1 f2 DidThen WroteThen so_far.passed.rest next more → more ≡ true →
    ((xs ys : List Exchange) → Did xs → DidThen ys → DidAll (xs ++ ys)) → ((a b : List ℕ) → Wrote a → WroteThen b → WroteAll (a ++ b)) →
    Along DidAll WroteAll l0 l2 f0 f2 (reads + 1) next
goes_along {l0 = l0} {l1 = l1} {l2 = l2} so_far on is did wrote = record {
  got = so_far.got ++ on.piece;
  read = read_more l0 l1 l2 so_far.got on.piece so_far.read on.read;
  count = on.count ∙ so_far.count;
  long = let more : 0 < length on.piece = on.some is in let both = length-append so_far.got on.piece in let far = so_far.long in omega arith;
  passed = passes on.piece did wrote so_far.passed on.passed;
}

-- ---- all was read, and the last line answered

pub record Ends (Did : List Exchange → Type 0) (Wrote : List ℕ → Type 0) (left_old : Option (List ℕ)) : Type 0 where
  pub text : List ℕ
  pub lines : List (List ℕ)
  pub given : IfSome left_old (λ all. text ≡ all)
  pub are : AreLinesOf text lines
  pub answered : Answered Did Wrote lines

ends_with : {Did DidLast DidAll : List Exchange → Type 0} {Wrote WroteLast WroteAll : List ℕ → Type 0} {left_old : Option (List ℕ)} {line : Line} (text : List ℕ) → IfSome left_old (λ all. text ≡ all) →
    ((xs ys : List Exchange) → Did xs → DidLast ys → DidAll (xs ++ ys)) → ((a b : List ℕ) → Wrote a → WroteLast b → WroteAll (a ++ b)) →
    Passed Did Wrote text line → ((rest : List ℕ) → Gathers line rest → Answered DidLast WroteLast (with_rest [] rest)) → Ends DidAll WroteAll left_old
ends_with text given did wrote passed last = record {
  text = text;
  lines = passed.lines ++ with_rest [] passed.rest;
  given = given;
  are = lines_at_end text passed.lines passed.rest passed.cut;
  answered = answered_further did wrote passed.answered (last passed.rest passed.gathers);
}

pub ends : {Did DidThen DidBoth DidLast DidAll : List Exchange → Type 0} {Wrote WroteThen WroteBoth WroteLast WroteAll : List ℕ → Type 0} {l0 l1 l2 : Option (List ℕ)} {f0 f1 f2 reads : ℕ} {line next : Line} {more : Bool} →
    (so_far : Along Did Wrote l0 l1 f0 f1 reads line) → ReadOn l1 l2 f1 f2 DidThen WroteThen so_far.passed.rest next more → more ≡ false →
    ((rest : List ℕ) → Gathers next rest → Answered DidLast WroteLast (with_rest [] rest)) →
    ((xs ys : List Exchange) → Did xs → DidThen ys → DidBoth (xs ++ ys)) → ((a b : List ℕ) → Wrote a → WroteThen b → WroteBoth (a ++ b)) →
    ((xs ys : List Exchange) → DidBoth xs → DidLast ys → DidAll (xs ++ ys)) → ((a b : List ℕ) → WroteBoth a → WroteLast b → WroteAll (a ++ b)) →
    Ends DidAll WroteAll l0
ends {l0 = l0} {l1 = l1} {l2 = l2} so_far on is last did wrote did_last wrote_last =
    ends_with (so_far.got ++ on.piece) (all_read l0 l2 (so_far.got ++ on.piece) (read_more l0 l1 l2 so_far.got on.piece so_far.read on.read) (on.end is))
    did_last wrote_last (passes on.piece did wrote so_far.passed on.passed) last

pub all_answered : {T : Type 0} {at : AtLost} {HandedOn : Type 0} {Did : List Exchange → Type 0} {left : Option (List ℕ)} {f0 f1 : ℕ} {w0 w1 : Writer} (x : T) → Ends (GoingOn at Did) (TakesAll w0 w1) left → LinesAnswered at HandedOn Did left f0 f1 w0 w1 (Ok x)
all_answered x e = record { text = e.text; given = e.given; outcome = record { lines = e.lines; are = e.are; answered = e.answered } }

-- ---- no further line is taken

-- what came of the first lines of a text
record FirstAnswered (Did : List Exchange → Type 0) (Wrote : List ℕ → List ℕ → Type 0) (left_old : Option (List ℕ)) : Type 0 where
  text : List ℕ
  given : IfSome left_old (λ all. text ≡ all)
  some : SomeAnswered Did (Wrote text) text

-- a stream failed behind them
first_stops : {T : Type 0} {at : AtLost} {HandedOn : Type 0} {Did : List Exchange → Type 0} {left : Option (List ℕ)} {f0 f1 : ℕ} {w0 w1 : Writer} (r : Result T Broken) → IsErrOf Stream r →
    FirstAnswered (BrokenOff at Did) (λ text. Stopped HandedOn text f0 f1 w0 w1) left → LinesAnswered at HandedOn Did left f0 f1 w0 w1 r
first_stops (Ok x) err first = absurd err
first_stops {at = at} {HandedOn = HandedOn} {Did = Did} {f0 = f0} {f1 = f1} {w0 = w0} {w1 = w1} (Err why) err first = record {
  text = first.text;
  given = first.given;
  outcome = let P : Broken → Type 0 = λ b. EndsBy b at HandedOn Did f0 f1 w0 w1 first.text in subst P (sym err) first.some;
}

-- or the last of them is lost
first_lost : {T : Type 0} {at : AtLost} {HandedOn : Type 0} {Did : List Exchange → Type 0} {left : Option (List ℕ)} {f0 f1 : ℕ} {w0 w1 : Writer} (r : Result T Broken) → IsErrOf Lost r → at ≡ End →
    FirstAnswered (EndedAt Did) (λ text. TakesAll w0 w1) left → LinesAnswered at HandedOn Did left f0 f1 w0 w1 r
first_lost (Ok x) err is first = absurd err
first_lost {at = at} {HandedOn = HandedOn} {Did = Did} {f0 = f0} {f1 = f1} {w0 = w0} {w1 = w1} (Err why) err is first = record {
  text = first.text;
  given = first.given;
  outcome = let P : Broken → Type 0 = λ b. EndsBy b at HandedOn Did f0 f1 w0 w1 first.text in subst P (sym err) (is, first.some);
}

-- these are all lines
all_first : {Did : List Exchange → Type 0} {Wrote : List ℕ → Type 0} {WroteAs : List ℕ → List ℕ → Type 0} {left : Option (List ℕ)} → ((text a : List ℕ) → Wrote a → WroteAs text a) →
    Ends Did Wrote left → FirstAnswered Did WroteAs left
all_first so e = record {
  text = e.text;
  given = e.given;
  some = record { lines = e.lines; are = e.are; front = e.lines; back = []; cut = sym (append-nil e.lines); answered = answered_so (so e.text) e.answered };
}

-- the writer failed at the last line
pub last_broke : {T : Type 0} {at : AtLost} {HandedOn : Type 0} {Did : List Exchange → Type 0} {left : Option (List ℕ)} {f0 f1 : ℕ} {w0 w1 : Writer} (r : Result T Broken) → IsErrOf Stream r →
    Ends (BrokenOff at Did) (TakesPart w0 w1) left → LinesAnswered at HandedOn Did left f0 f1 w0 w1 r
last_broke r err e = first_stops r err (all_first (λ text a part. no_sink part) e)

-- the last line is lost
pub last_lost : {T : Type 0} {at : AtLost} {HandedOn : Type 0} {Did : List Exchange → Type 0} {left : Option (List ℕ)} {f0 f1 : ℕ} {w0 w1 : Writer} → at ≡ End →
    Ends (EndedAt Did) (TakesAll w0 w1) left → LinesAnswered {T = T} at HandedOn Did left f0 f1 w0 w1 (Err Lost)
last_lost is e = first_lost (Err Lost) refl is (all_first (λ text a all. all) e)

-- some lines stand in front of what is left
in_front : {Did : List Exchange → Type 0} {Wrote : List ℕ → List ℕ → Type 0} {left_old : Option (List ℕ)} (left_new : Option (List ℕ)) (got rest : List ℕ) (front : List (List ℕ)) →
    left_old ≡ prepend_known got left_new → got ≡ flat_map with_end front ++ rest → AllByRecursion HasNoEnd front →
    ((later : List ℕ) → Answered Did (Wrote (got ++ later)) front) → FirstAnswered Did Wrote left_old
in_front {left_old = left_old} left_new got rest front read whole each answered =
    let g = given left_old left_new got read in
    let f = lines_in_front got g.later rest front whole each in
    record { text = got ++ g.later; given = g.all; some = record { lines = f.lines; are = f.are; front = front; back = f.back; cut = f.cut; answered = answered g.later } }

-- a stream failed at a read or at an answer
broke_stops : {HandedOn : Type 0} (f0 f1 f2 : ℕ) (w0 w1 w2 : Writer) (text a b : List ℕ) → f1 ≡ f0 → TakesAll w0 w1 a → (RoseOrStands f1 f2 × TakesAll w1 w2 b × HandedOn) ⊎ TakesPart w1 w2 b → Stopped HandedOn text f0 f2 w0 w2 (a ++ b)
broke_stops f0 f1 f2 w0 w1 w2 text a b same first (inl (rose, then, on)) = no_source (let P : ℕ → Type 0 = λ f. RoseOrStands f f2 in subst P same rose) (took_all a b first then) on
broke_stops f0 f1 f2 w0 w1 w2 text a b same first (inr then) = no_sink (took_part a b first then)

-- behind what was passed so far, some lines of what was read next
further : {Did DidThen DidAll : List Exchange → Type 0} {Wrote WroteThen : List ℕ → Type 0} {WroteAll : List ℕ → List ℕ → Type 0} {l0 l1 l2 : Option (List ℕ)} {f0 f1 reads : ℕ} {line : Line} →
    (so_far : Along Did Wrote l0 l1 f0 f1 reads line) → ReadOff l1 l2 DidThen WroteThen so_far.passed.rest →
    ((xs ys : List Exchange) → Did xs → DidThen ys → DidAll (xs ++ ys)) → ((text a b : List ℕ) → Wrote a → WroteThen b → WroteAll text (a ++ b)) →
    FirstAnswered DidAll WroteAll l0
further {l0 = l0} {l1 = l1} {l2 = l2} so_far off did wrote =
    let got = so_far.got ++ off.piece in
    in_front l2 got off.broke.rest (so_far.passed.lines ++ off.broke.lines)
    (read_more l0 l1 l2 so_far.got off.piece so_far.read off.read)
    (whole_further so_far.got off.piece so_far.passed.rest off.broke.rest so_far.passed.lines off.broke.lines so_far.passed.cut.whole off.broke.whole)
    (each_further so_far.passed.lines off.broke.lines so_far.passed.cut.each off.broke.each)
    (λ later. answered_further did (wrote (got ++ later)) so_far.passed.answered off.broke.answered)

-- what stands behind `?` of a read
pub breaks_off : {T : Type 0} {at : AtLost} {HandedOn : Type 0} {Did : List Exchange → Type 0} (DidThen : List Exchange → Type 0) {DidAll : List Exchange → Type 0} {l0 l1 : Option (List ℕ)} (l2 : Option (List ℕ)) {f0 f1 f2 reads : ℕ} {w0 w1 w2 : Writer} {line : Line} (r : Result T Broken) (why : Broken) → IsErrOf why r →
    (so_far : Along (GoingOn at Did) (TakesAll w0 w1) l0 l1 f0 f1 reads line) →
    ReadsOff why at HandedOn l1 l2 f1 f2 DidThen w1 w2 so_far.passed.rest →
    ((xs ys : List Exchange) → Did xs → DidThen ys → DidAll (xs ++ ys)) →
    LinesAnswered at HandedOn DidAll l0 f0 f2 w0 w2 r
breaks_off {at = at} DidThen l2 {f0 = f0} {f1 = f1} {f2 = f2} {w0 = w0} {w1 = w1} {w2 = w2} r Stream err so_far off did =
    first_stops r err (further so_far off (breaks_behind at did) (λ text a b first then. broke_stops f0 f1 f2 w0 w1 w2 text a b so_far.count first then))
breaks_off {at = at} DidThen l2 r Lost err so_far off did = first_lost r err off.0 (further so_far off.1 (ends_lost_behind at off.0 did) (λ text a b. took_all a b))

-- there were more reads than a number counts
pub never_ends : {T : Type 0} {at : AtLost} {HandedOn : Type 0} {Did : List Exchange → Type 0} {l0 l1 : Option (List ℕ)} {f0 f1 reads : ℕ} {w0 w1 : Writer} {line : Line} → 2 ^ 64 - 1 ≤ reads →
    Along (GoingOn at Did) (TakesAll w0 w1) l0 l1 f0 f1 reads line → LinesAnswered {T = T} at HandedOn Did l0 f0 f1 w0 w1 (Err Stream)
never_ends {at = at} {l1 = l1} many so_far =
    first_stops (Err Stream) refl
    (in_front l1 so_far.got so_far.passed.rest so_far.passed.lines so_far.read so_far.passed.cut.whole so_far.passed.cut.each
    (λ later. answered_did (going_breaks at) (answered_so (λ a all. endless (let far = so_far.long in let both = length-append so_far.got later in omega arith) all) so_far.passed.answered)))
