-- A suggestion and its votes, once the caller's vote is replaced.
use Rattle.std.proofs.Common.{◌≡◌, ◌+◌, ◌-◌, Bool, true, false, cond, List, [], ◌∷◌, map, refl, sym, ap, ◌∙◌, Option, Some, None, if◌then◌else◌}
use Rattle.std.specs.Prelude.{find, option_map, is_some}
use Rattle.std.specs.FinMap.{FinMap, get, len, len-insert, len-remove}
use Rattle.po_text.specs.Texts.{Text, text_cmp}
use Rattle.units.specs.declared.unit.Suggestion.{Suggestion}
use Rattle.units.specs.declared.unit.Unit.{Unit}
use Rattle.units.specs.declared.votes.VoteValue.{VoteValue}
use Rattle.units.specs.Units.{has_number, suggestion_of}
use Rattle.units.specs.Orders.{text_total}
use Rattle.review.specs.UnitStep.{set_vote, with_vote}

-- how many votes are left when the caller's is taken back, and how many there are with the caller's
pub len-set_vote-none : (votes : FinMap text_cmp VoteValue) (caller : Text) (own : Option VoteValue) → get votes caller ≡ own →
    len (set_vote caller None votes) ≡ (if is_some own then len votes - 1 else len votes)
len-set_vote-none votes caller own found = len-remove text_total votes caller ∙ ap (λ o. cond (is_some o) (len votes - 1) (len votes)) found

pub len-set_vote-some : (votes : FinMap text_cmp VoteValue) (caller : Text) (value : VoteValue) (own : Option VoteValue) → get votes caller ≡ own →
    len (set_vote caller (Some value) votes) ≡ (if is_some own then len votes else len votes + 1)
len-set_vote-some votes caller value own found = len-insert text_total votes caller value ∙ ap (λ o. cond (is_some o) (len votes) (len votes + 1)) found

abbrev pub with_votes : Text → Option VoteValue → Suggestion → Suggestion
with_votes caller value s = record s { votes = set_vote caller value s.votes }

abbrev voted : Text → Text → Option VoteValue → Suggestion → Suggestion
voted number caller value s = if has_number number s then with_votes caller value s else s

found_voted : (number caller : Text) (value : Option VoteValue) (all : List Suggestion) →
    find (has_number number) (map (voted number caller value) all) ≡ option_map (with_votes caller value) (find (has_number number) all)
found_voted number caller value [] = refl
found_voted number caller value (s ∷ all) = by (has_number number s) refl (found_voted number caller value all)
  where
    rest : Option Suggestion
    rest = find (has_number number) (map (voted number caller value) all)

    by : (b : Bool) → has_number number s ≡ b → rest ≡ option_map (with_votes caller value) (find (has_number number) all) →
        find (has_number number) (voted number caller value s ∷ map (voted number caller value) all)
        ≡ option_map (with_votes caller value) (find (has_number number) (s ∷ all))
    by true own later =
        ap (λ b. let v : Suggestion = cond b (with_votes caller value s) s in cond (has_number number v) (Some v) rest) own
        ∙ ap (λ b. cond b (Some (with_votes caller value s)) rest) own
        ∙ sym (ap (λ b. option_map (with_votes caller value) (cond b (Some s) (find (has_number number) all))) own)
    by false other later =
        ap (λ b. let v : Suggestion = cond b (with_votes caller value s) s in cond (has_number number v) (Some v) rest) other
        ∙ ap (λ b. cond b (Some s) rest) other
        ∙ later
        ∙ sym (ap (λ b. option_map (with_votes caller value) (cond b (Some s) (find (has_number number) all))) other)

-- the suggestion that was voted on, with the vote
pub suggestion_of-with_vote : (number caller : Text) (value : Option VoteValue) (unit : Unit) →
    suggestion_of number (with_vote number caller value unit) ≡ option_map (with_votes caller value) (suggestion_of number unit)
suggestion_of-with_vote number caller value unit = found_voted number caller value unit.suggestions
