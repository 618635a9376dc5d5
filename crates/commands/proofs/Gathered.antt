-- Lines that are gathered from pieces, and answered on the way.
use Rattle.std.proofs.Common.{◌≡◌, ◌≢◌, ℕ, List, [], ◌∷◌, ◌++◌, inr, refl, sym, ap, subst, ◌∙◌, append_assoc, append-nil}
use Rattle.std.specs.Prelude.{◌⊎◌, flat_map, Option, Result, Ok, Err, IsErrAnd, MatchResult}
use Rattle.byte_streams.specs.Streams.{prepend_known, RoseOrStands}
use Rattle.commands.specs.declared.deliver.AtLost.{AtLost}
use Rattle.commands.specs.declared.deliver.Broken.{Broken}
use Rattle.commands.specs.declared.deliver.Broken.TheVariants.{Stream, Lost}
use Rattle.commands.specs.declared.lines.Line.{Line}
use Rattle.commands.specs.TextLines.{HasNoEnd, with_end, IsCut, with_rest}
use Rattle.office.specs.Exchanges.{Exchange, IsLine, exchange_line, Answered}
use Rattle.commands.specs.LostLines.{BrokenOff}
use Rattle.commands.specs.Gathering.{Gathers, Passed, BrokeOff, BreaksOff, ReadsOff}
use Rattle.office.specs.Writers.{Writer, TakesAll, TakesPart}
use Rattle.office.proofs.Going.{answered_further, one_answered, none_answered}
use Rattle.office.proofs.Streaming.{took_all, took_part}
use Rattle.commands.proofs.Losing.{where_it_ends}
use Rattle.commands.proofs.Cutting.{no_end-append, nothing_cut, one_cut, cut_further, whole_further, each_further}

-- ---- one line

-- what came of a line that ends
pub record OneAnswered (Did : List Exchange → Type 0) (Wrote : List ℕ → Type 0) (line : List ℕ) : Type 0 where
  pub x : Exchange
  pub is : IsLine line x
  pub did : Did (x ∷ [])
  pub wrote : Wrote (exchange_line x)

one_of : {Did : List Exchange → Type 0} {Wrote : List ℕ → Type 0} {line : List ℕ} → OneAnswered Did Wrote line → Answered Did Wrote (line ∷ [])
one_of one = one_answered one.x one.is one.did one.wrote

-- what stands behind the last line end, if anything
pub last_answered : {Did : List Exchange → Type 0} {Wrote : List ℕ → Type 0} (rest : List ℕ) → rest ≢ [] → OneAnswered Did Wrote rest → Answered Did Wrote (with_rest [] rest)
last_answered [] some one = absurd (some refl)
last_answered (b ∷ rest) some one = one_of one

-- ---- a piece

-- some of a piece is behind: its lines that end were answered, and the rest of it is to be looked through
pub record Through (Did : List Exchange → Type 0) (Wrote : List ℕ → Type 0) (bytes rest : List ℕ) (old now : Line) : Type 0 where
  pub front : List ℕ
  pub cut : bytes ≡ front ++ rest
  pub passed : (begun : List ℕ) → Gathers old begun → HasNoEnd begun → Passed Did Wrote (begun ++ front) now

pub none_passed : {Did : List Exchange → Type 0} {Wrote : List ℕ → Type 0} (begun : List ℕ) (line : Line) → Did [] → Wrote [] → Gathers line begun → HasNoEnd begun → Passed Did Wrote (begun ++ []) line
none_passed begun line did wrote gathers none = record {
  lines = [];
  rest = begun;
  cut = let P : List ℕ → Type 0 = λ text. IsCut text [] begun in subst P (sym (append-nil begun)) (nothing_cut begun none);
  gathers = gathers;
  answered = none_answered did wrote;
}

pub through_none : {Did : List Exchange → Type 0} {Wrote : List ℕ → Type 0} (bytes : List ℕ) (line : Line) → Did [] → Wrote [] → Through Did Wrote bytes bytes line line
through_none bytes line did wrote = record { front = []; cut = refl; passed = λ begun gathers none. none_passed begun line did wrote gathers none }

-- one more line ended
ends : (begun front rest piece : List ℕ) (lines : List (List ℕ)) → IsCut (begun ++ front) lines rest → HasNoEnd piece → IsCut (begun ++ (front ++ (piece ++ 10 ∷ []))) (lines ++ (rest ++ piece) ∷ []) []
ends begun front rest piece lines cut none =
    let P : List ℕ → Type 0 = λ text. IsCut text (lines ++ (rest ++ piece) ∷ []) [] in
    let Q : List ℕ → Type 0 = λ text. IsCut text ((rest ++ piece) ∷ []) [] in
    let one : IsCut (rest ++ (piece ++ 10 ∷ [])) ((rest ++ piece) ∷ []) [] = subst Q (append_assoc rest piece (10 ∷ [])) (one_cut (rest ++ piece) (no_end-append rest piece cut.last none)) in
    subst P (append_assoc begun front (piece ++ 10 ∷ [])) (cut_further (piece ++ 10 ∷ []) cut one)

pub through_more : {Did DidOne DidAll : List Exchange → Type 0} {Wrote WroteOne WroteAll : List ℕ → Type 0} {bytes rest : List ℕ} (piece behind : List ℕ) {old now next : Line} →
    Through Did Wrote bytes rest old now → rest ≡ piece ++ 10 ∷ behind → HasNoEnd piece →
    ((begun : List ℕ) → Gathers now begun → OneAnswered DidOne WroteOne (begun ++ piece)) → Gathers next [] →
    ((xs ys : List Exchange) → Did xs → DidOne ys → DidAll (xs ++ ys)) → ((a b : List ℕ) → Wrote a → WroteOne b → WroteAll (a ++ b)) →
    Through DidAll WroteAll bytes behind old next
through_more piece behind so_far cut none one begins did wrote = record {
  front = so_far.front ++ (piece ++ 10 ∷ []);
  cut = so_far.cut ∙ ap (λ t. so_far.front ++ t) (cut ∙ sym (append_assoc piece (10 ∷ []) behind)) ∙ sym (append_assoc so_far.front (piece ++ 10 ∷ []) behind);
  passed = λ begun gathers no_end.
      let before = so_far.passed begun gathers no_end in
      record {
        lines = before.lines ++ (before.rest ++ piece) ∷ [];
        rest = [];
        cut = ends begun so_far.front before.rest piece before.lines before.cut none;
        gathers = begins;
        answered = answered_further did wrote before.answered (one_of (one before.rest before.gathers));
      };
}

-- the writer failed at the answer of a line
pub through_broke : {Did DidOne DidAll : List Exchange → Type 0} {Wrote WroteOne WroteAll : List ℕ → Type 0} {bytes rest : List ℕ} (piece behind : List ℕ) {old now : Line} →
    Through Did Wrote bytes rest old now → rest ≡ piece ++ 10 ∷ behind → HasNoEnd piece →
    ((begun : List ℕ) → Gathers now begun → OneAnswered DidOne WroteOne (begun ++ piece)) →
    ((xs ys : List Exchange) → Did xs → DidOne ys → DidAll (xs ++ ys)) → ((a b : List ℕ) → Wrote a → WroteOne b → WroteAll (a ++ b)) →
    (begun : List ℕ) → Gathers old begun → HasNoEnd begun → BrokeOff DidAll WroteAll (begun ++ bytes)
through_broke {bytes = bytes} piece behind so_far cut none one did wrote begun gathers no_end =
    let before = so_far.passed begun gathers no_end in
    let line = before.rest ++ piece in
    let one_line : before.rest ++ (piece ++ 10 ∷ behind) ≡ flat_map with_end (line ∷ []) ++ behind =
    sym (append_assoc before.rest piece (10 ∷ behind)) ∙ (sym (append_assoc line (10 ∷ []) behind) ∙ ap (λ t. t ++ behind) (sym (append-nil (with_end line)))) in
    let whole : (begun ++ so_far.front) ++ (piece ++ 10 ∷ behind) ≡ flat_map with_end (before.lines ++ line ∷ []) ++ behind =
    whole_further (begun ++ so_far.front) (piece ++ 10 ∷ behind) before.rest behind before.lines (line ∷ []) before.cut.whole one_line in
    record {
      lines = before.lines ++ line ∷ [];
      rest = behind;
      whole = ap (λ t. begun ++ t) (so_far.cut ∙ ap (λ t. so_far.front ++ t) cut) ∙ (sym (append_assoc begun so_far.front (piece ++ 10 ∷ behind)) ∙ whole);
      each = each_further before.lines (line ∷ []) before.cut.each (no_end-append before.rest piece before.cut.last none, tt);
      answered = answered_further did wrote before.answered (one_of (one before.rest before.gathers));
    }

-- what is left has no line end
pub through_all : {Did : List Exchange → Type 0} {Wrote : List ℕ → Type 0} {bytes rest : List ℕ} {old now next : Line} →
    Through Did Wrote bytes rest old now → HasNoEnd rest → ((text : List ℕ) → Gathers now text → Gathers next (text ++ rest)) →
    (begun : List ℕ) → Gathers old begun → HasNoEnd begun → Passed Did Wrote (begun ++ bytes) next
through_all {bytes = bytes} {rest = rest} so_far none adds begun gathers no_end =
    let before = so_far.passed begun gathers no_end in
    let P : List ℕ → Type 0 = λ text. IsCut text before.lines (before.rest ++ rest) in
    let whole : (begun ++ so_far.front) ++ rest ≡ flat_map with_end before.lines ++ (before.rest ++ rest) =
    ap (λ t. t ++ rest) before.cut.whole ∙ append_assoc (flat_map with_end before.lines) before.rest rest in
    record {
      lines = before.lines;
      rest = before.rest ++ rest;
      cut = record {
        whole = ap (λ t. begun ++ t) so_far.cut ∙ (sym (append_assoc begun so_far.front rest) ∙ whole);
        each = before.cut.each;
        last = no_end-append before.rest rest before.cut.last none;
      };
      gathers = adds before.rest before.gathers;
      answered = before.answered;
    }

-- ---- the same by other words for what was written

pub answered_so : {Did : List Exchange → Type 0} {Wrote WroteAs : List ℕ → Type 0} {lines : List (List ℕ)} → ((a : List ℕ) → Wrote a → WroteAs a) → Answered Did Wrote lines → Answered Did WroteAs lines
answered_so so it = record { exchanges = it.exchanges; are = it.are; did = it.did; wrote = so _ it.wrote }

pub passed_so : {Did : List Exchange → Type 0} {Wrote WroteAs : List ℕ → Type 0} {text : List ℕ} {line : Line} → ((a : List ℕ) → Wrote a → WroteAs a) → Passed Did Wrote text line → Passed Did WroteAs text line
passed_so so it = record { lines = it.lines; rest = it.rest; cut = it.cut; gathers = it.gathers; answered = answered_so so it.answered }

broke_so : {Did : List Exchange → Type 0} {Wrote WroteAs : List ℕ → Type 0} {text : List ℕ} → ((a : List ℕ) → Wrote a → WroteAs a) → BrokeOff Did Wrote text → BrokeOff Did WroteAs text
broke_so so it = record { lines = it.lines; rest = it.rest; whole = it.whole; each = it.each; answered = answered_so so it.answered }

broke_at_once : (Did : List Exchange → Type 0) (Wrote : List ℕ → Type 0) (begun : List ℕ) → Did [] → Wrote [] → BrokeOff Did Wrote (begun ++ [])
broke_at_once Did Wrote begun did wrote = record { lines = []; rest = begun; whole = append-nil begun; each = tt; answered = none_answered did wrote }

-- the same by other words for what was done
pub answered_did : {Did DidAs : List Exchange → Type 0} {Wrote : List ℕ → Type 0} {lines : List (List ℕ)} → ((xs : List Exchange) → Did xs → DidAs xs) → Answered Did Wrote lines → Answered DidAs Wrote lines
answered_did so it = record { exchanges = it.exchanges; are = it.are; did = so it.exchanges it.did; wrote = it.wrote }

-- ---- what stands behind `?`

-- why it isn't Ok
abbrev pub IsErrOf : {T : Type 0} → Broken → Result T Broken → Type 0
IsErrOf why r = IsErrAnd r (λ e. e ≡ why)

pub failed : {T : Type 0} (r : Result T Broken) (why : Broken) (All : T → Type 0) (Part : Broken → Type 0) → IsErrOf why r → Part why → MatchResult r All Part
failed (Ok x) why All Part err part = absurd err
failed (Err e) why All Part err part = subst Part (sym err) part

-- ---- one read

-- a stream failed before anything came
pub off_at_once : {T HandedOn : Type 0} (r : Result T Broken) (at : AtLost) (All : T → Type 0) (Did : List Exchange → Type 0) (left_old left_new : Option (List ℕ)) (f0 f1 : ℕ) (w0 w1 : Writer) (begun : List ℕ) → IsErrOf Stream r → left_old ≡ prepend_known [] left_new →
    Did [] → (RoseOrStands f0 f1 × TakesAll w0 w1 [] × HandedOn) ⊎ TakesPart w0 w1 [] → MatchResult r All (λ why. ReadsOff why at HandedOn left_old left_new f0 f1 Did w0 w1 begun)
off_at_once {HandedOn = HandedOn} r at All Did left_old left_new f0 f1 w0 w1 begun err read did wrote =
    failed r Stream All (λ why. ReadsOff why at HandedOn left_old left_new f0 f1 Did w0 w1 begun) err
    (record { piece = []; read = read; broke = broke_at_once (BrokenOff at Did) (λ a. (RoseOrStands f0 f1 × TakesAll w0 w1 a × HandedOn) ⊎ TakesPart w0 w1 a) begun (record { did = did; behind = where_it_ends at tt }) wrote })

-- no further line is taken behind some of a piece
pub off_behind : {T : Type 0} (HandedOn : Type 0) (r : Result T Broken) (why : Broken) (at : AtLost) (All : T → Type 0) (Did : List Exchange → Type 0) (left_old left_new : Option (List ℕ)) (f0 f1 : ℕ) (w0 w1 w2 : Writer) (begun piece : List ℕ) → IsErrOf why r → left_old ≡ prepend_known piece left_new →
    TakesAll w0 w1 [] → BreaksOff why at Did (TakesAll w1 w2) (TakesPart w1 w2) (begun ++ piece) → MatchResult r All (λ e. ReadsOff e at HandedOn left_old left_new f0 f1 Did w0 w2 begun)
off_behind HandedOn r Stream at All Did left_old left_new f0 f1 w0 w1 w2 begun piece err read first broke =
    failed r Stream All (λ e. ReadsOff e at HandedOn left_old left_new f0 f1 Did w0 w2 begun) err (record { piece = piece; read = read; broke = broke_so (λ a part. inr (took_part [] a first part)) broke })
off_behind HandedOn r Lost at All Did left_old left_new f0 f1 w0 w1 w2 begun piece err read first broke =
    failed r Lost All (λ e. ReadsOff e at HandedOn left_old left_new f0 f1 Did w0 w2 begun) err (broke.0, record { piece = piece; read = read; broke = broke_so (λ a all. took_all [] a first all) broke.1 })
