-- What the tests of a unit tell.
use Rattle.std.proofs.Common.{◌≡◌, ◌≤◌, ℕ, List, [], ◌∷◌, Bool, true, not, ◌&&◌, ◌||◌, length, Option, Some, None, is_some, refl, ◌∙◌, ap, IsTrue, arith}
use Rattle.std.specs.Bool.{Decides}
use Rattle.std.specs.List.{list_all}
use Rattle.std.specs.FinMap as maps
use Rattle.std.specs.Prelude.{◌==◌, nat_le, All}
use Rattle.std.proofs.lemmas.Bool.Decides.{Decides-at, Decides-eqb, nat_tests}
use Rattle.po_lex.specs.Lines.{is_comment_text}
use Rattle.po_text.specs.Strings.{form_limit}
use Rattle.po_text.specs.Texts.{is_empty}
use Rattle.plural_expr.specs.Values.{Rule}
use Rattle.units.specs.Limits.{suggestion_limit, vote_limit, is_revision, revision_limit}
use Rattle.units.specs.Units.{forms_needed}
use Rattle.units.specs.Projects.{IsUnit}
use Rattle.units.specs.declared.unit.Unit.{Unit}
use Rattle.units.specs.declared.unit.Suggestion.{Suggestion}
use Rattle.rule_tests.specs.Parts.{HasForms, IsPutAway, HasItsForms, KeepsPrevious, HasItsTexts, HasFewSuggestions}
use Rattle.rule_tests.proofs.Tests.{holds, three_tell, all_tell, all_tell_by_recursion}

pub Decides-le : (m n : ℕ) → Decides (nat_le m n) (m ≤ n)
Decides-le m n = (λ e. grind (arith, nat_tests), λ h. grind (arith, nat_tests))

pub forms_told : (rule : Rule) (unit : Unit) (count : ℕ) (r a b : Bool) → r ≡ (a && (b && true)) → count ≡ forms_needed rule unit.plural → a ≡ (length unit.forms == count) →
    b ≡ list_all (λ s. length s.forms == count) unit.suggestions → Decides r (HasForms rule unit)
forms_told rule unit count r a b e is own all =
    three_tell {P = length unit.forms ≡ forms_needed rule unit.plural} {Q = All (λ s. length s.forms ≡ forms_needed rule unit.plural) unit.suggestions} r a b true e
    (λ h. (h.0, h.1.0)) (λ h. (h.0, (h.1, tt)))
    (Decides-at a (length unit.forms == forms_needed rule unit.plural) (own ∙ ap (λ n. length unit.forms == n) is) (Decides-eqb (length unit.forms) (forms_needed rule unit.plural)))
    (Decides-at b (list_all (λ s. length s.forms == forms_needed rule unit.plural) unit.suggestions) (all ∙ ap (λ n. list_all (λ (s : Suggestion). length s.forms == n) unit.suggestions) is)
    (all_tell (λ s. length s.forms == forms_needed rule unit.plural) (λ s. length s.forms ≡ forms_needed rule unit.plural) (λ s. Decides-eqb (length s.forms) (forms_needed rule unit.plural)) unit.suggestions))
    holds

pub empty_tells : {X : Type 0} (xs : List X) → Decides (length xs == 0) (xs ≡ [])
empty_tells [] = (λ e. refl, λ e. refl)
empty_tells (x ∷ xs) = (λ e. let none : length (x ∷ xs) ≡ 0 = (Decides-eqb (length (x ∷ xs)) 0).0 e in absurd (omega arith), λ e. cc)

single_tells : {X : Type 0} (plural : Option X) (n : ℕ) → Decides (is_some plural || (n == 1)) (plural ≡ None → n ≡ 1)
single_tells None n = (λ e _. (Decides-eqb n 1).0 e, λ h. (Decides-eqb n 1).1 (h refl))
single_tells (Some x) n = (λ e h. cc, λ h. refl)

pub put_away_told : (unit : Unit) (r a b : Bool) → r ≡ (a && (b && true)) → 1 ≤ length unit.forms → length unit.forms ≤ form_limit → a ≡ (length unit.suggestions == 0) →
    b ≡ (is_some unit.plural || (length unit.forms == 1)) → Decides r (IsPutAway unit)
put_away_told unit r a b e some most none single =
    three_tell {P = unit.suggestions ≡ []} {Q = unit.plural ≡ None → length unit.forms ≡ 1} r a b true e (λ h. (h.0, some, most, h.1.0)) (λ h. (h.0, (h.3, tt)))
    (Decides-at a (length unit.suggestions == 0) none (empty_tells unit.suggestions))
    (Decides-at b (is_some unit.plural || (length unit.forms == 1)) single (single_tells unit.plural (length unit.forms)))
    holds

named_tells : {X Y : Type 0} (ctx : Option X) (id : List Y) → Decides (is_some ctx || not (is_empty id)) (ctx ≡ None → IsTrue (not (is_empty id)))
named_tells None id = (λ e _. e, λ h. h refl)
named_tells (Some x) id = (λ e h. cc, λ h. refl)

pub texts_told : (unit : Unit) (r a b c : Bool) → r ≡ (a && (b && c)) → a ≡ (is_some unit.key.ctx || not (is_empty unit.key.id)) → Decides b (KeepsPrevious unit) →
    c ≡ list_all is_comment_text unit.comment → Decides r (HasItsTexts unit)
texts_told unit r a b c e named previous commented =
    three_tell {P = unit.key.ctx ≡ None → IsTrue (not (is_empty unit.key.id))} {Q = KeepsPrevious unit} r a b c e
    (λ h. record { named = h.0; previous = h.1.0; commented = h.1.1 }) (λ h. (h.named, (h.previous, h.commented)))
    (Decides-at a (is_some unit.key.ctx || not (is_empty unit.key.id)) named (named_tells unit.key.ctx unit.key.id))
    previous
    (Decides-at c (list_all is_comment_text unit.comment) commented (all_tell_by_recursion is_comment_text (λ line. IsTrue (is_comment_text line)) (λ line. (λ h. h, λ h. h)) unit.comment))

pub few_told : (unit : Unit) (r a b : Bool) → r ≡ (a && (b && true)) → a ≡ nat_le (length unit.suggestions) suggestion_limit →
    b ≡ list_all (λ s. nat_le (maps.len s.votes) vote_limit) unit.suggestions → Decides r (HasFewSuggestions unit)
few_told unit r a b e few votes =
    three_tell {P = length unit.suggestions ≤ suggestion_limit} {Q = All (λ s. maps.len s.votes ≤ vote_limit) unit.suggestions} r a b true e
    (λ h. record { suggested = h.0; voted = h.1.0 }) (λ h. (h.suggested, (h.voted, tt)))
    (Decides-at a (nat_le (length unit.suggestions) suggestion_limit) few (Decides-le (length unit.suggestions) suggestion_limit))
    (Decides-at b (list_all (λ s. nat_le (maps.len s.votes) vote_limit) unit.suggestions) votes
    (all_tell (λ s. nat_le (maps.len s.votes) vote_limit) (λ s. maps.len s.votes ≤ vote_limit) (λ s. Decides-le (maps.len s.votes) vote_limit) unit.suggestions))
    holds

revision_of : (n : ℕ) → is_revision n ≡ true → (1 ≤ n) × (n ≤ revision_limit)
revision_of n e = grind (arith, nat_tests)

pub unit_told : (rule : Rule) (unit : Unit) (r a b c : Bool) → r ≡ (a && (b && c)) → is_revision unit.revision ≡ true → Decides a (HasItsForms rule unit) → Decides b (HasItsTexts unit) →
    Decides c (HasFewSuggestions unit) → Decides r (IsUnit rule unit)
unit_told rule unit r a b c e revised forms texts few =
    three_tell {P = HasItsForms rule unit} {Q = HasItsTexts unit} {R = HasFewSuggestions unit} r a b c e
    (λ h. record {
      current = h.0.current;
      put_away = h.0.put_away;
      named = h.1.0.named;
      previous = h.1.0.previous;
      revised = revision_of unit.revision revised;
      commented = h.1.0.commented;
      suggested = h.1.1.suggested;
      voted = h.1.1.voted;
    })
    (λ h. (
      record { current = h.current; put_away = h.put_away },
      (record { named = h.named; previous = h.previous; commented = h.commented }, record { suggested = h.suggested; voted = h.voted }),
    ))
    forms texts few
