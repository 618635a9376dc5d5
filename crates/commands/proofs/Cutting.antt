-- How a text is cut into lines.
use Rattle.std.proofs.Common.{◌≡◌, ◌≢◌, ℕ, List, [], ◌∷◌, ◌++◌, Bool, true, false, eqb, refl, sym, ap, ◌∙◌, append_assoc, append-nil}
use Rattle.std.proofs.lemmas.Bool.{eqb-true, eq-eqb}
use Rattle.std.specs.Prelude.{flat_map}
use Rattle.std.specs.List.{AllByRecursion}
use Rattle.commands.specs.TextLines.{HasNoEnd, with_end, IsCut, with_rest, AreLinesOf}

all-append : {X : Type 0} (P : X → Type 0) (xs ys : List X) → AllByRecursion P xs → AllByRecursion P ys → AllByRecursion P (xs ++ ys)
all-append P [] ys all more = more
all-append P (x ∷ xs) ys all more = (all.0, all-append P xs ys all.1 more)

pub no_end-append : (a b : List ℕ) → HasNoEnd a → HasNoEnd b → HasNoEnd (a ++ b)
no_end-append a b = all-append (λ byte. byte ≢ 10) a b

ended-append : (lines more : List (List ℕ)) → flat_map with_end (lines ++ more) ≡ flat_map with_end lines ++ flat_map with_end more
ended-append [] more = refl
ended-append (l ∷ lines) more = ap (λ t. with_end l ++ t) (ended-append lines more) ∙ sym (append_assoc (with_end l) (flat_map with_end lines) (flat_map with_end more))

-- what stands behind some lines is cut further
pub whole_further : (text piece rest behind : List ℕ) (lines more : List (List ℕ)) → text ≡ flat_map with_end lines ++ rest → rest ++ piece ≡ flat_map with_end more ++ behind
    → text ++ piece ≡ flat_map with_end (lines ++ more) ++ behind
whole_further text piece rest behind lines more first then =
    ap (λ t. t ++ piece) first ∙ append_assoc (flat_map with_end lines) rest piece ∙ ap (λ t. flat_map with_end lines ++ t) then
    ∙ sym (append_assoc (flat_map with_end lines) (flat_map with_end more) behind) ∙ ap (λ t. t ++ behind) (sym (ended-append lines more))

pub each_further : (lines more : List (List ℕ)) → AllByRecursion HasNoEnd lines → AllByRecursion HasNoEnd more → AllByRecursion HasNoEnd (lines ++ more)
each_further lines more = all-append HasNoEnd lines more

pub cut_further : {text rest last : List ℕ} {lines more : List (List ℕ)} (piece : List ℕ) → IsCut text lines rest → IsCut (rest ++ piece) more last → IsCut (text ++ piece) (lines ++ more) last
cut_further {text} {rest} {last} {lines} {more} piece first then = record {
  whole = whole_further text piece rest last lines more first.whole then.whole;
  each = each_further lines more first.each then.each;
  last = then.last;
}

pub nothing_cut : (rest : List ℕ) → HasNoEnd rest → IsCut rest [] rest
nothing_cut rest none = record { whole = refl; each = tt; last = none }

pub one_cut : (line : List ℕ) → HasNoEnd line → IsCut (line ++ 10 ∷ []) (line ∷ []) []
one_cut line none = record { whole = sym (append-nil (with_end line ++ []) ∙ append-nil (with_end line)); each = (none, tt); last = tt }

-- ---- each text is cut in some way

record Cuts (text : List ℕ) : Type 0 where
  lines : List (List ℕ)
  rest : List ℕ
  cut : IsCut text lines rest

cut_before : (b : ℕ) (text : List ℕ) (lines : List (List ℕ)) (rest : List ℕ) → b ≢ 10 → IsCut text lines rest → Cuts (b ∷ text)
cut_before b text [] rest other cut = record { lines = []; rest = b ∷ rest; cut = record { whole = ap (λ t. b ∷ t) cut.whole; each = tt; last = (other, cut.last) } }
cut_before b text (line ∷ lines) rest other cut = record {
  lines = (b ∷ line) ∷ lines;
  rest = rest;
  cut = record { whole = ap (λ t. b ∷ t) cut.whole; each = ((other, cut.each.0), cut.each.1); last = cut.last };
}

cut_at : (b : ℕ) (text : List ℕ) → Cuts text → (is : Bool) → eqb b 10 ≡ is → Cuts (b ∷ text)
cut_at b text later true is = record {
  lines = [] ∷ Cuts.lines later;
  rest = Cuts.rest later;
  cut = record { whole = ap (λ c. c ∷ text) (eqb-true b 10 is) ∙ ap (λ t. 10 ∷ t) (IsCut.whole (Cuts.cut later)); each = (tt, IsCut.each (Cuts.cut later)); last = IsCut.last (Cuts.cut later) };
}
cut_at b text later false is = cut_before b text (Cuts.lines later) (Cuts.rest later) (λ same. let equal = eq-eqb b 10 same in cc) (Cuts.cut later)

cuts : (text : List ℕ) → Cuts text
cuts [] = record { lines = []; rest = []; cut = nothing_cut [] tt }
cuts (b ∷ text) = cut_at b text (cuts text) (eqb b 10) refl

-- ---- the lines of a whole text

with_rest-append : (lines more : List (List ℕ)) (rest : List ℕ) → with_rest (lines ++ more) rest ≡ lines ++ with_rest more rest
with_rest-append lines more [] = refl
with_rest-append lines more (b ∷ rest) = append_assoc lines more ((b ∷ rest) ∷ [])

pub lines_at_end : (text : List ℕ) (lines : List (List ℕ)) (rest : List ℕ) → IsCut text lines rest → AreLinesOf text (lines ++ with_rest [] rest)
lines_at_end text lines rest cut = record {
  ended = lines;
  rest = rest;
  cut = cut;
  all = sym (with_rest-append lines [] rest) ∙ ap (λ ls. with_rest ls rest) (append-nil lines);
}

-- some lines stand before others, whatever follows the text so far
pub record Front (text : List ℕ) (front : List (List ℕ)) : Type 0 where
  pub lines : List (List ℕ)
  pub are : AreLinesOf text lines
  pub back : List (List ℕ)
  pub cut : lines ≡ front ++ back

pub lines_in_front : (text later rest : List ℕ) (front : List (List ℕ)) → text ≡ flat_map with_end front ++ rest → AllByRecursion HasNoEnd front → Front (text ++ later) front
lines_in_front text later rest front whole each =
    let behind = cuts (rest ++ later) in
    record {
      lines = with_rest (front ++ Cuts.lines behind) (Cuts.rest behind);
      are = record {
        ended = front ++ Cuts.lines behind;
        rest = Cuts.rest behind;
        cut = record {
          whole = whole_further text later rest (Cuts.rest behind) front (Cuts.lines behind) whole (IsCut.whole (Cuts.cut behind));
          each = each_further front (Cuts.lines behind) each (IsCut.each (Cuts.cut behind));
          last = IsCut.last (Cuts.cut behind);
        };
        all = refl;
      };
      back = with_rest (Cuts.lines behind) (Cuts.rest behind);
      cut = with_rest-append front (Cuts.lines behind) (Cuts.rest behind);
    }
