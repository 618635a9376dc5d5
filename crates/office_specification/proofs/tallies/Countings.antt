-- A tally of units, one unit after another, and how large its numbers are.
use Rattle.std.proofs.Common.{◌≡◌, ℕ, ◌+◌, ◌*◌, ◌≤◌, Bool, true, false, not, cond, List, [], ◌∷◌, filter, length, refl, sym, ap, ◌∙◌, add_assoc, add-zero, zero-add, arith, count_by}
use Rattle.std.specs.Prelude.{sum_by}
use Rattle.std.proofs.lemmas.List.Sums.{count_by-le-length, sum_by-cons}
use Rattle.po_text.specs.declared.entry.Entry.{Entry}
use Rattle.std.specs.List.{AllByRecursion}
use Rattle.units.specs.Limits.{suggestion_limit, unit_limit}
use Rattle.units.specs.Units.{shown_state}
use Rattle.units.specs.Project.{entry_of}
use Rattle.units.specs.declared.unit.Unit.{Unit}
use Rattle.units.specs.declared.unit.ShownState.{ShownState}
use Rattle.units.specs.declared.unit.ShownState.TheVariants.{Untranslated, NeedsEditing, Translated, Approved, ReadOnly}
use Rattle.office_specification.specs.declared.tally.Tally.{Tally}
use Rattle.office_specification.specs.Tally.{current, shown_in, is_state, counts_in}
use Rattle.office_specification.specs.Counting.{none_counted, plus, one_more, AreWithin}

-- ---- one unit and more

pub none_and : (counts : Tally) → plus none_counted counts ≡ counts
none_and counts = simp zero-add refl

pub and_none : (counts : Tally) (template : List Entry) → plus counts (counts_in template []) ≡ counts
and_none counts template = simp add-zero refl

pub plus_assoc : (a b c : Tally) → plus (plus a b) c ≡ plus a (plus b c)
plus_assoc a b c = λ i. record {
  approved = add_assoc a.approved b.approved c.approved i;
  needs_editing = add_assoc a.needs_editing b.needs_editing c.needs_editing i;
  obsolete = add_assoc a.obsolete b.obsolete c.obsolete i;
  read_only = add_assoc a.read_only b.read_only c.read_only i;
  suggestions = add_assoc a.suggestions b.suggestions c.suggestions i;
  translated = add_assoc a.translated b.translated c.translated i;
  untranslated = add_assoc a.untranslated b.untranslated c.untranslated i;
}

-- a sum over one and more
one_and : {X : Type 0} (f : X → ℕ) (x : X) (xs : List X) → sum_by f (x ∷ xs) ≡ sum_by f (x ∷ []) + sum_by f xs
one_and f x xs = sum_by-cons f x xs ∙ ap (λ n. n + sum_by f xs) (sym (zero-add (f x)))

-- over what a test lets pass
sum_more : {X : Type 0} (f : X → ℕ) (passes : X → Bool) (x : X) (xs : List X) → sum_by f (filter passes (x ∷ xs)) ≡ sum_by f (filter passes (x ∷ [])) + sum_by f (filter passes xs)
sum_more f passes x xs = by (passes x)
  where
    by : (b : Bool) → sum_by f (cond b (x ∷ filter passes xs) (filter passes xs)) ≡ sum_by f (cond b (x ∷ []) []) + sum_by f (filter passes xs)
    by true = one_and f x (filter passes xs)
    by false = sym (zero-add (sum_by f (filter passes xs)))

pub counts_more : (template : List Entry) (unit : Unit) (units : List Unit) → counts_in template (unit ∷ units) ≡ plus (counts_in template (unit ∷ [])) (counts_in template units)
counts_more template unit units = λ i. record {
  approved = shown Approved i;
  needs_editing = shown NeedsEditing i;
  obsolete = one_and (λ u. cond u.obsolete 1 0) unit units i;
  read_only = shown ReadOnly i;
  suggestions = sum_more (λ u. length u.suggestions) (λ u. not u.obsolete) unit units i;
  translated = shown Translated i;
  untranslated = shown Untranslated i;
}
  where
    shown : (state : ShownState) → shown_in template state (current (unit ∷ units)) ≡ shown_in template state (current (unit ∷ [])) + shown_in template state (current units)
    shown state = sum_more (λ u. cond (is_state state (shown_state (entry_of template u.key) u)) 1 0) (λ u. not u.obsolete) unit units

-- what is counted so far with the next unit, and the rest
pub next_counted : (counts : Tally) (template : List Entry) (unit : Unit) (units all : List Unit) → all ≡ unit ∷ units
    → plus (plus counts (counts_in template (unit ∷ []))) (counts_in template units) ≡ plus counts (counts_in template all)
next_counted counts template unit units all is =
    plus_assoc counts (counts_in template (unit ∷ [])) (counts_in template units)
    ∙ (ap (plus counts) (sym (counts_more template unit units)) ∙ ap (λ us. plus counts (counts_in template us)) (sym is))

-- ---- what one unit adds

-- what a unit adds that is obsolete or not
abbrev of_one : List Entry → Unit → Bool → Tally
of_one template unit obsolete = record {
  approved = shown_in template Approved (cond (not obsolete) (unit ∷ []) []);
  needs_editing = shown_in template NeedsEditing (cond (not obsolete) (unit ∷ []) []);
  obsolete = 0 + cond obsolete 1 0;
  read_only = shown_in template ReadOnly (cond (not obsolete) (unit ∷ []) []);
  suggestions = sum_by (λ u. length u.suggestions) (cond (not obsolete) (unit ∷ []) []);
  translated = shown_in template Translated (cond (not obsolete) (unit ∷ []) []);
  untranslated = shown_in template Untranslated (cond (not obsolete) (unit ∷ []) []);
}

pub adds_obsolete : (counts : Tally) (template : List Entry) (unit : Unit) → unit.obsolete ≡ true → record counts { obsolete = counts.obsolete + 1 } ≡ plus counts (counts_in template (unit ∷ []))
adds_obsolete counts template unit is = added ∙ ap (λ b. plus counts (of_one template unit b)) (sym is)
  where
    added : record counts { obsolete = counts.obsolete + 1 } ≡ plus counts (of_one template unit true)
    added = simp (add-zero, zero-add) refl

-- what a unit adds that is shown in a state
abbrev of_state : Tally → ShownState → ℕ → Tally
of_state counts state n = plus counts (record {
  approved = 0 + cond (is_state Approved state) 1 0;
  needs_editing = 0 + cond (is_state NeedsEditing state) 1 0;
  obsolete = 0;
  read_only = 0 + cond (is_state ReadOnly state) 1 0;
  suggestions = 0 + n;
  translated = 0 + cond (is_state Translated state) 1 0;
  untranslated = 0 + cond (is_state Untranslated state) 1 0;
})

state_added : (counts : Tally) (n : ℕ) (state : ShownState) → one_more state (record counts { suggestions = counts.suggestions + n }) ≡ of_state counts state n
state_added counts n Untranslated = simp (add-zero, zero-add) refl
state_added counts n NeedsEditing = simp (add-zero, zero-add) refl
state_added counts n Translated = simp (add-zero, zero-add) refl
state_added counts n Approved = simp (add-zero, zero-add) refl
state_added counts n ReadOnly = simp (add-zero, zero-add) refl

pub adds_shown : (counts : Tally) (template : List Entry) (unit : Unit) → unit.obsolete ≡ false →
    one_more (shown_state (entry_of template unit.key) unit) (record counts { suggestions = counts.suggestions + length unit.suggestions }) ≡ plus counts (counts_in template (unit ∷ []))
adds_shown counts template unit is = state_added counts (length unit.suggestions) (shown_state (entry_of template unit.key) unit) ∙ ap (λ b. plus counts (of_one template unit b)) (sym is)

-- ---- how large they are

-- a sum over what a test lets pass is at most that of all
sum_of_some : {X : Type 0} (f : X → ℕ) (passes : X → Bool) (xs : List X) → sum_by f (filter passes xs) ≤ sum_by f xs
sum_of_some f passes [] = omega arith
sum_of_some f passes (x ∷ xs) = by (passes x) (sum_of_some f passes xs)
  where
    by : (b : Bool) → sum_by f (filter passes xs) ≤ sum_by f xs → sum_by f (cond b (x ∷ filter passes xs) (filter passes xs)) ≤ sum_by f (x ∷ xs)
    by true h = rw (sum_by-cons f x (filter passes xs), sum_by-cons f x xs) (omega (arith, h))
    by false h = rw (sum_by-cons f x xs) (omega (arith, h))

-- a sum of numbers with a bound
sum_bounded : {X : Type 0} (f : X → ℕ) (most : ℕ) (xs : List X) → AllByRecursion (λ x. f x ≤ most) xs → sum_by f xs ≤ most * length xs
sum_bounded f most [] h = omega arith
sum_bounded f most (x ∷ xs) h = rw (sum_by-cons f x xs) (omega (arith, h.0, sum_bounded f most xs h.1))

shown_few : (template : List Entry) (state : ShownState) (units : List Unit) → shown_in template state (current units) ≤ length units
shown_few template state units =
    let test : Unit → Bool = λ u. is_state state (shown_state (entry_of template u.key) u) in
    let some : shown_in template state (current units) ≤ count_by test units = sum_of_some (λ u. cond (test u) 1 0) (λ u. not u.obsolete) units in
    omega (arith, some, count_by-le-length test units)

-- 150,000 units with 100 suggestions each
pub counts_within : (template : List Entry) (units : List Unit) → length units ≤ unit_limit → AllByRecursion (λ unit. length unit.suggestions ≤ suggestion_limit) units → AreWithin (counts_in template units)
counts_within template units few each = record {
  approved = omega (arith, few, shown_few template Approved units);
  needs_editing = omega (arith, few, shown_few template NeedsEditing units);
  obsolete = omega (arith, few, count_by-le-length (λ (u : Unit). u.obsolete) units);
  read_only = omega (arith, few, shown_few template ReadOnly units);
  suggestions = omega (arith, few, sum_of_some (λ u. length u.suggestions) (λ u. not u.obsolete) units, sum_bounded (λ u. length u.suggestions) suggestion_limit units each);
  translated = omega (arith, few, shown_few template Translated units);
  untranslated = omega (arith, few, shown_few template Untranslated units);
}
