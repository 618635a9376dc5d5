-- An act that isn't refused keeps the rules of its unit. Its suggestions' numbers stay, but for some that go or the act's own that comes.
use Rattle.std.proofs.Common.{◌≡◌, ◌+◌, ◌<◌, ◌≤◌, ℕ, List, [], ◌∷◌, ◌++◌, Bool, true, false, cond, not, ◌&&◌, IsTrue, Option, Some, None, refl, sym, ap, subst, length, map, inl, inr, arith, length-append}
use Rattle.std.specs.Prelude.{◌⊎◌, ⊤, MatchOption, ◌==◌, nat_lt, filter}
use Rattle.std.specs.Option.{option_map_or}
use Rattle.std.specs.List.{IsDistinct, AllByRecursion, list_all}
use Rattle.std.specs.FinMap as maps
use Rattle.std.proofs.lemmas.Bool.{eqb-true, ltb-false, leb-false}
use Rattle.std.proofs.lemmas.List.{length-map, map_push}
use Rattle.std.proofs.lemmas.List.Sums.{length-filter, count_by-le-length}
use Rattle.std.proofs.lemmas.List.Elements.{All-push, All-filter, All-map}
use Rattle.po_lex.specs.Lines.{is_comment_text}
use Rattle.po_text.specs.Texts.{Text, text_cmp, text_eq}
use Rattle.po_text.specs.declared.entry.Previous.{Previous}
use Rattle.plural_expr.specs.Values.{Rule}
use Rattle.template_update.proofs.Listed.{clash}
use Rattle.units.specs.Limits.{is_comment_line, is_comment_lines, revision_limit, suggestion_limit, vote_limit}
use Rattle.units.specs.Units.{forms_needed, is_approved, is_needs_editing, no_previous, has_number, suggestion_of, without_suggestion}
use Rattle.units.specs.Projects.{IsUnit}
use Rattle.units.specs.declared.unit.Unit.{Unit}
use Rattle.units.specs.declared.unit.Suggestion.{Suggestion}
use Rattle.units.specs.declared.unit.UnitState.{UnitState}
use Rattle.units.specs.declared.unit.UnitState.TheVariants.{Untranslated, NeedsEditing, Translated, Approved}
use Rattle.units.specs.declared.unit.UnitView.{UnitView}
use Rattle.units.specs.declared.unit.UnitAction.{UnitAction}
use Rattle.units.specs.declared.unit.UnitAction.TheVariants.{Suggest, Vote, Accept, Dismiss, Translate, Comment, Approve, SendBack}
use Rattle.units.specs.declared.unit.Policy.{Policy}
use Rattle.units.specs.declared.unit.Role.{Role}
use Rattle.units.specs.declared.unit.Refusal.{Refusal}
use Rattle.units.specs.declared.votes.VoteValue.{VoteValue}
use Rattle.checks.specs.Result.{result_state}
use Rattle.review.specs.UnitStep.{unit_after, refusals, first_refusal, state_of, is_full, with_forms, with_suggestion, with_accepted, with_vote, set_vote, after_vote, is_due}
use Rattle.request_book.specs.Acts.{lines_in}
use Rattle.office_specification.proofs.rules.Numbers.{Part, part-self, part-filter, found_holds, none_passes}

-- ---- none of the refusals applies

abbrev pub NoneApplies : List (Bool × Refusal) → Type 0
NoneApplies [] = Prim.Unit {0}
NoneApplies (t ∷ ts) = (t.0 ≡ false) × NoneApplies ts

pub none_applies : (ts : List (Bool × Refusal)) → first_refusal ts ≡ None → NoneApplies ts
none_applies [] e = tt
none_applies (t ∷ ts) e = by_test t.0 refl e (none_applies ts)
  where
    by_test : (c : Bool) → t.0 ≡ c → cond c (Some t.1) (first_refusal ts) ≡ None → (first_refusal ts ≡ None → NoneApplies ts) → NoneApplies (t ∷ ts)
    by_test true is e rest = cc
    by_test false is e rest = (is, rest e)

not_false : (b : Bool) → not b ≡ false → b ≡ true
not_false true e = refl
not_false false e = cc

-- ---- how a unit's new value stands to the old one

abbrev pub numbers_of : Unit → List Text
numbers_of unit = map (λ s. s.number) unit.suggestions

-- some numbers may have gone, or one came
abbrev pub Renumbered : Text → List Text → List Text → Type 0
Renumbered number old new = Part new old ⊎ (new ≡ old ++ number ∷ [])

pub record Follows (policy : Policy) (rule : Rule) (number : Text) (old new : Unit) : Type 0 where
  pub key : new.key ≡ old.key
  pub plural : new.plural ≡ old.plural
  pub obsolete : new.obsolete ≡ old.obsolete
  pub rules : IsUnit rule new
  pub reviewed : policy.reviews ≡ false → is_approved new.state ≡ false
  pub numbers : Renumbered number (numbers_of old) (numbers_of new)

-- the unit keeps the rules, and isn't approved while there are no reviews
pub record Stands (policy : Policy) (rule : Rule) (unit : Unit) : Type 0 where
  pub current : unit.obsolete ≡ false
  pub rules : IsUnit rule unit
  pub reviewed : policy.reviews ≡ false → is_approved unit.state ≡ false

abbrev HasCount : Rule → Unit → Suggestion → Type 0
HasCount rule unit s = length s.forms ≡ forms_needed rule unit.plural

abbrev HasFewVotes : Suggestion → Type 0
HasFewVotes s = maps.len s.votes ≤ vote_limit

-- ---- forms

-- no act of a translation approves its unit
never_approved : (policy : Policy) (rule : Rule) (view : UnitView) (forms : List Text) → is_approved (state_of policy rule view forms) ≡ false
unfolding result_state
never_approved policy rule view forms = by_tests _ _
  where
    by_tests : (a b : Bool) → is_approved (cond a Untranslated (cond b NeedsEditing Translated)) ≡ false
    by_tests true b = refl
    by_tests false true = refl
    by_tests false false = refl

with_forms_rules : (policy : Policy) (rule : Rule) (view : UnitView) (forms : List Text) → view.unit.obsolete ≡ false → IsUnit rule view.unit →
    length forms ≡ forms_needed rule view.unit.plural → view.unit.revision + 1 ≤ revision_limit → IsUnit rule (with_forms policy rule view forms)
with_forms_rules policy rule view forms current rules count limit = record {
  current = λ _. (count, (rules.current current).1);
  put_away = λ e. clash view.unit.obsolete current e;
  named = rules.named;
  previous = λ e. ap (λ c. cond c view.unit.previous no_previous) e;
  revised = (omega arith, limit);
  commented = rules.commented;
  suggested = rules.suggested;
  voted = rules.voted;
}

translate_follows : (policy : Policy) (rule : Rule) (number : Text) (view : UnitView) (forms : List Text) → Stands policy rule view.unit →
    length forms ≡ forms_needed rule view.unit.plural → view.unit.revision + 1 ≤ revision_limit → Follows policy rule number view.unit (with_forms policy rule view forms)
translate_follows policy rule number view forms stands count limit = record {
  key = refl;
  plural = refl;
  obsolete = refl;
  rules = with_forms_rules policy rule view forms stands.current stands.rules count limit;
  reviewed = λ _. never_approved policy rule view forms;
  numbers = inl (part-self (numbers_of view.unit));
}

-- ---- suggestions

few_filtered : (p : Suggestion → Bool) (ss : List Suggestion) → length ss ≤ suggestion_limit → length (filter p ss) ≤ suggestion_limit
few_filtered p ss h = rw (length-filter p ss) (let k = count_by-le-length p ss in omega arith)

without_rules : (rule : Rule) (number : Text) (unit : Unit) → IsUnit rule unit → IsUnit rule (without_suggestion number unit)
without_rules rule number unit rules = record {
  current = λ e. let h = rules.current e in (h.0, All-filter (λ s. not (has_number number s)) (HasCount rule unit) unit.suggestions h.1);
  put_away = λ e. let h = rules.put_away e in (ap (λ ss. filter (λ s. not (has_number number s)) ss) h.0, h.1, h.2, h.3);
  named = rules.named;
  previous = rules.previous;
  revised = rules.revised;
  commented = rules.commented;
  suggested = few_filtered (λ s. not (has_number number s)) unit.suggestions rules.suggested;
  voted = All-filter (λ s. not (has_number number s)) HasFewVotes unit.suggestions rules.voted;
}

dismiss_follows : (policy : Policy) (rule : Rule) (number named : Text) (unit : Unit) → Stands policy rule unit → Follows policy rule number unit (without_suggestion named unit)
dismiss_follows policy rule number named unit stands = record {
  key = refl;
  plural = refl;
  obsolete = refl;
  rules = without_rules rule named unit stands.rules;
  reviewed = stands.reviewed;
  numbers = inl (part-filter (λ (s : Suggestion). s.number) (λ s. not (has_number named s)) unit.suggestions);
}

suggest_follows : (policy : Policy) (rule : Rule) (caller number : Text) (forms : List Text) (unit : Unit) → Stands policy rule unit →
    length forms ≡ forms_needed rule unit.plural → length unit.suggestions < suggestion_limit → Follows policy rule number unit (with_suggestion caller number forms unit)
suggest_follows policy rule caller number forms unit stands count room =
    let made : Suggestion = record { number = number; suggester = caller; forms = forms; votes = maps.empty } in
    let none : maps.len made.votes ≤ vote_limit = rw (maps.len-empty text_cmp VoteValue) (omega arith) in
    record {
      key = refl;
      plural = refl;
      obsolete = refl;
      rules = record {
        current = λ e. let h = stands.rules.current e in (h.0, All-push (HasCount rule unit) unit.suggestions made h.1 count);
        put_away = λ e. clash unit.obsolete stands.current e;
        named = stands.rules.named;
        previous = stands.rules.previous;
        revised = stands.rules.revised;
        commented = stands.rules.commented;
        suggested = omega (arith, length-append unit.suggestions (made ∷ []));
        voted = All-push HasFewVotes unit.suggestions made stands.rules.voted none;
      };
      reviewed = stands.reviewed;
      numbers = inr (map_push (λ (s : Suggestion). s.number) unit.suggestions made);
    }

-- the unit takes a suggestion's forms, or stays where there is none
accept_follows : (policy : Policy) (rule : Rule) (number named : Text) (view : UnitView) → Stands policy rule view.unit →
    (with_accepted policy rule view named).revision ≤ revision_limit → Follows policy rule number view.unit (with_accepted policy rule view named)
accept_follows policy rule number named view stands = by_found (suggestion_of named view.unit) refl
  where
    by_found : (found : Option Suggestion) → suggestion_of named view.unit ≡ found →
        let new : Unit = option_map_or (λ s. without_suggestion named (with_forms policy rule view s.forms)) found view.unit in
        new.revision ≤ revision_limit → Follows policy rule number view.unit new
    by_found None e limit = record {
      key = refl;
      plural = refl;
      obsolete = refl;
      rules = stands.rules;
      reviewed = stands.reviewed;
      numbers = inl (part-self (numbers_of view.unit));
    }
    by_found (Some s) e limit =
        let count : length s.forms ≡ forms_needed rule view.unit.plural =
        found_holds (HasCount rule view.unit) (has_number named) view.unit.suggestions s (stands.rules.current stands.current).1 e in
        record {
          key = refl;
          plural = refl;
          obsolete = refl;
          rules = without_rules rule named (with_forms policy rule view s.forms) (with_forms_rules policy rule view s.forms stands.current stands.rules count limit);
          reviewed = λ _. never_approved policy rule view s.forms;
          numbers = inl (part-filter (λ (t : Suggestion). t.number) (λ t. not (has_number named t)) view.unit.suggestions);
        }

-- ---- votes

abbrev voted_on : Text → Text → Option VoteValue → Suggestion → Suggestion
voted_on named caller value s = cond (has_number named s) (record s { votes = set_vote caller value s.votes }) s

abbrev passes_limit : Text → Option VoteValue → Suggestion → Bool
passes_limit caller value s = nat_lt vote_limit (maps.len (set_vote caller value s.votes))

same_count : (rule : Rule) (unit : Unit) (named caller : Text) (value : Option VoteValue) (s : Suggestion) → HasCount rule unit s → HasCount rule unit (voted_on named caller value s)
same_count rule unit named caller value s h = by_test (has_number named s)
  where
    by_test : (c : Bool) → HasCount rule unit (cond c (record s { votes = set_vote caller value s.votes }) s)
    by_test true = h
    by_test false = h

same_number : (named caller : Text) (value : Option VoteValue) (s : Suggestion) → (voted_on named caller value s).number ≡ s.number
same_number named caller value s = by_test (has_number named s)
  where
    by_test : (c : Bool) → (cond c (record s { votes = set_vote caller value s.votes }) s).number ≡ s.number
    by_test true = refl
    by_test false = refl

few_votes : (named caller : Text) (value : Option VoteValue) (s : Suggestion) → HasFewVotes s → (has_number named s ≡ true → passes_limit caller value s ≡ false) → HasFewVotes (voted_on named caller value s)
few_votes named caller value s few room = by_test (has_number named s) refl
  where
    by_test : (c : Bool) → has_number named s ≡ c → HasFewVotes (cond c (record s { votes = set_vote caller value s.votes }) s)
    by_test true t = ltb-false _ _ (room t)
    by_test false t = few

same_numbers : (named caller : Text) (value : Option VoteValue) (ss : List Suggestion) → map (λ (s : Suggestion). s.number) (map (voted_on named caller value) ss) ≡ map (λ s. s.number) ss
same_numbers named caller value [] = refl
same_numbers named caller value (s ∷ ss) = rw (same_number named caller value s, same_numbers named caller value ss) refl

with_vote_follows : (policy : Policy) (rule : Rule) (number named caller : Text) (value : Option VoteValue) (unit : Unit) → Stands policy rule unit → IsDistinct text_eq (numbers_of unit) →
    is_full caller unit (Vote named value) ≡ false → Follows policy rule number unit (with_vote named caller value unit)
with_vote_follows policy rule number named caller value unit stands distinct room =
    let rooms = none_passes (λ (s : Suggestion). s.number) named (passes_limit caller value) unit.suggestions distinct room in
    record {
      key = refl;
      plural = refl;
      obsolete = refl;
      rules = record {
        current = λ e.
            let h = stands.rules.current e in
            (h.0, All-map (HasCount rule unit) (voted_on named caller value) unit.suggestions (λ k d within. same_count rule unit named caller value _ (h.1 k d within)));
        put_away = λ e. clash unit.obsolete stands.current e;
        named = stands.rules.named;
        previous = stands.rules.previous;
        revised = stands.rules.revised;
        commented = stands.rules.commented;
        suggested = rw (length-map unit.suggestions (voted_on named caller value)) stands.rules.suggested;
        voted = All-map HasFewVotes (voted_on named caller value) unit.suggestions (λ k d within. few_votes named caller value _ (stands.rules.voted k d within) (rooms k d within));
      };
      reviewed = stands.reviewed;
      numbers = inl (subst (λ ns. Part ns (numbers_of unit)) (sym (same_numbers named caller value unit.suggestions)) (part-self (numbers_of unit)));
    }

vote_follows : (policy : Policy) (rule : Rule) (number named caller : Text) (value : Option VoteValue) (view : UnitView) → Stands policy rule view.unit → IsDistinct text_eq (numbers_of view.unit) →
    is_full caller view.unit (Vote named value) ≡ false →
    let new : Unit = after_vote policy rule view named (with_vote named caller value view.unit) in
    new.revision ≤ revision_limit → Follows policy rule number view.unit new
vote_follows policy rule number named caller value view stands distinct room = by_due (is_due policy named (with_vote named caller value view.unit))
  where
    by_due : (due : Bool) →
        let new : Unit = cond due (with_accepted policy rule (record view { unit = with_vote named caller value view.unit }) named) (with_vote named caller value view.unit) in
        new.revision ≤ revision_limit → Follows policy rule number view.unit new
    by_due false limit = with_vote_follows policy rule number named caller value view.unit stands distinct room
    by_due true limit =
        let first = with_vote_follows policy rule number named caller value view.unit stands distinct room in
        let then = accept_follows policy rule number named (record view { unit = with_vote named caller value view.unit })
        (record { current = stands.current; rules = first.rules; reviewed = first.reviewed }) limit in
        record {
          key = then.key;
          plural = then.plural;
          obsolete = then.obsolete;
          rules = then.rules;
          reviewed = then.reviewed;
          numbers = subst (λ ns. Renumbered number ns (numbers_of (with_accepted policy rule (record view { unit = with_vote named caller value view.unit }) named)))
              (same_numbers named caller value view.unit.suggestions) then.numbers;
        }

-- ---- comments and reviews

abbrev AreCommentLines : List Text → Type 0
AreCommentLines lines = AllByRecursion (λ line. IsTrue (is_comment_text line)) lines

each_comment_line : (lines : List Text) → list_all is_comment_line lines ≡ true → AreCommentLines lines
each_comment_line [] e = tt
each_comment_line (line ∷ lines) e = by_line _ _ _ e (each_comment_line lines)
  where
    by_line : (few text rest : Bool) → ((few && text) && rest) ≡ true → (rest ≡ true → AreCommentLines lines) → IsTrue text × AreCommentLines lines
    by_line true true rest e more = (refl, more e)
    by_line true false rest e more = cc
    by_line false text rest e more = cc

given_lines : (lines : List Text) → is_comment_lines lines ≡ true → AreCommentLines lines
given_lines lines e = each_comment_line lines (right_true _ _ e)
  where
    right_true : (a b : Bool) → (a && b) ≡ true → b ≡ true
    right_true true b e = e
    right_true false b e = cc

changed_follows : (policy : Policy) (rule : Rule) (number : Text) (unit : Unit) (state : UnitState) (previous : Previous) (comment : List Text) → Stands policy rule unit →
    (is_needs_editing state ≡ false → previous ≡ no_previous) → (policy.reviews ≡ false → is_approved state ≡ false) → unit.revision + 1 ≤ revision_limit → AreCommentLines comment →
    Follows policy rule number unit (record unit { state = state; previous = previous; comment = comment; revision = unit.revision + 1 })
changed_follows policy rule number unit state previous comment stands kept reviewed limit commented = record {
  key = refl;
  plural = refl;
  obsolete = refl;
  rules = record {
    current = stands.rules.current;
    put_away = stands.rules.put_away;
    named = stands.rules.named;
    previous = kept;
    revised = (omega arith, limit);
    commented = commented;
    suggested = stands.rules.suggested;
    voted = stands.rules.voted;
  };
  reviewed = reviewed;
  numbers = inl (part-self (numbers_of unit));
}

-- ---- all acts

right_part : (b : Bool) → (true && b) ≡ false → b ≡ false
right_part b e = e

count_is : (forms : List Text) (n : ℕ) → not (length forms == n) ≡ false → length forms ≡ n
count_is forms n e = eqb-true (length forms) n (not_false (length forms == n) e)

pub act_follows : (policy : Policy) (rule : Rule) (role : Role) (caller number : Text) (view : UnitView) (seen : ℕ) (action : UnitAction) → IsUnit rule view.unit →
    (policy.reviews ≡ false → is_approved view.unit.state ≡ false) → IsDistinct text_eq (numbers_of view.unit) →
    NoneApplies (refusals policy rule role caller number view (record { seen = seen; action = action })) →
    MatchOption (lines_in action) ⊤ (λ lines. is_comment_lines lines ≡ true) → Follows policy rule number view.unit (unit_after policy rule caller number view action)
unfolding refusals unit_after
act_follows policy rule role caller number view seen (Suggest forms) rules reviewed distinct none given =
    suggest_follows policy rule caller number forms view.unit (record { current = none.0; rules = rules; reviewed = reviewed })
    (count_is forms _ none.1.1.1.1.1.0) (leb-false _ _ none.1.1.1.1.1.1.1.1.1.0)
act_follows policy rule role caller number view seen (Vote named value) rules reviewed distinct none given =
    vote_follows policy rule number named caller value view (record { current = none.0; rules = rules; reviewed = reviewed }) distinct
    none.1.1.1.1.1.1.1.1.1.0 (ltb-false _ _ none.1.1.1.1.1.1.1.1.1.1.1.1.0)
act_follows policy rule role caller number view seen (Accept named) rules reviewed distinct none given =
    accept_follows policy rule number named view (record { current = none.0; rules = rules; reviewed = reviewed }) (ltb-false _ _ none.1.1.1.1.1.1.1.1.1.1.1.1.0)
act_follows policy rule role caller number view seen (Dismiss named) rules reviewed distinct none given =
    dismiss_follows policy rule number named view.unit (record { current = none.0; rules = rules; reviewed = reviewed })
act_follows policy rule role caller number view seen (Translate forms) rules reviewed distinct none given =
    translate_follows policy rule number view forms (record { current = none.0; rules = rules; reviewed = reviewed })
    (count_is forms _ none.1.1.1.1.1.0) (ltb-false _ _ none.1.1.1.1.1.1.1.1.1.1.1.1.0)
act_follows policy rule role caller number view seen (Comment lines) rules reviewed distinct none given =
    changed_follows policy rule number view.unit view.unit.state view.unit.previous lines (record { current = none.0; rules = rules; reviewed = reviewed })
    rules.previous reviewed (ltb-false _ _ none.1.1.1.1.1.1.1.1.1.1.1.1.0) (given_lines lines given)
act_follows policy rule role caller number view seen Approve rules reviewed distinct none given =
    changed_follows policy rule number view.unit Approved no_previous view.unit.comment (record { current = none.0; rules = rules; reviewed = reviewed })
    (λ _. refl) (λ off. let on : policy.reviews ≡ true = not_false policy.reviews none.1.1.1.1.1.1.1.1.0 in clash policy.reviews off on) (ltb-false _ _ none.1.1.1.1.1.1.1.1.1.1.1.1.0) rules.commented
act_follows policy rule role caller number view seen SendBack rules reviewed distinct none given =
    changed_follows policy rule number view.unit NeedsEditing view.unit.previous view.unit.comment (record { current = none.0; rules = rules; reviewed = reviewed })
    (λ e. cc) (λ off. refl) (ltb-false _ _ none.1.1.1.1.1.1.1.1.1.1.1.1.0) rules.commented
