-- Of the rules of an office with its book there is one proof at most, so a struct can keep them in a ghost field.
use mathlib.Core.Path.{◌≡◌, sym, ◌∙◌, path_j}
use base.Stored.{Coded-set, coded_ℕ, coded_list}
use Rattle.std.specs.Coded.{coded_option}
use Rattle.po_text.specs.declared.string.PoString.{PoString}
use Rattle.std.specs.Prelude.{List, [], ◌∷◌, Option, Some, false}
use Rattle.std.proofs.Props.{props}
use Rattle.po_text.specs.declared.entry.Entry.{Entry}
use Rattle.po_text.specs.declared.entry.Previous.{Previous}
use Rattle.po_text.specs.contracts.entry.Previous as previous
use Rattle.po_text.specs.Texts.{Text}
use Rattle.po_text.specs.Valid.{HasUniqueKeys, HasHeaderFirst, AreDistinct}
use Rattle.units.specs.contracts.unit.Unit as unit
use Rattle.units.specs.contracts.unit.Suggestion as suggestion
use Rattle.units.specs.contracts.unit.Key as key
use Rattle.units.specs.declared.unit.Key.{Key}
use Rattle.units.specs.declared.unit.Unit.{Unit}
use Rattle.units.specs.declared.unit.Suggestion.{Suggestion}
use Rattle.request_book.specs.Book.{OfficeWithBook}
use Rattle.office_specification.specs.OfficeRules.{KeepsRules}

-- what an option has, if anything, is one thing
abbrev HasOne : {U : Type 0} → (U → Type 0) → (U → Type 0) → Option U → Type 0
HasOne {U} P Q o = (u : U) × (o ≡ Some u) × P u × Q u

only_one : {U : Type 0} (P Q : U → Type 0) → IsSet U → ((u : U) → IsProp (P u)) → ((u : U) → IsProp (Q u)) → (o : Option U) → IsProp (HasOne P Q o)
only_one {U} P Q set p q o x y =
    let some_set : IsSet (Option U) = hlevel (props, set) in
    let both : Some x.0 ≡ Some y.0 = sym x.1 ∙ y.1 in
    let same : x.0 ≡ y.0 = cc in
    path_j (λ u (e : x.0 ≡ u). (is : o ≡ Some u) (a : P u) (b : Q u) → ◌≡◌ {A = HasOne P Q o} (x.0, x.1, x.2, x.3) (u, is, a, b))
    (λ is a b i. (x.0, some_set o (Some x.0) x.1 is i, p x.0 x.2 a i, q x.0 x.3 b i)) same y.1 y.2 y.3

Text-set : IsSet Text
Text-set = Coded-set (coded_list coded_ℕ)

Unit-set : IsSet Unit
Unit-set = Coded-set (unit.the_row).coded

Key-set : IsSet Key
Key-set = Coded-set (key.the_row).coded

Previous-set : IsSet Previous
Previous-set = Coded-set (previous.the_row).coded

Suggestions-set : IsSet (List Suggestion)
Suggestions-set = Coded-set (coded_list (suggestion.the_row).coded)

Texts-set : IsSet (List Text)
Texts-set = Coded-set (coded_list (coded_list coded_ℕ))

distinct-prop : (texts : List Text) → IsProp (AreDistinct texts)
distinct-prop [] = hlevel props
distinct-prop (t ∷ texts) = hlevel (props, distinct-prop texts)

unique-prop : (es : List Entry) → IsProp (HasUniqueKeys es)
unique-prop [] = hlevel props
unique-prop (e ∷ es) = hlevel (props, unique-prop es)

first-prop : (es : List Entry) → IsProp (HasHeaderFirst es)
first-prop [] = hlevel props
first-prop (e ∷ es) = hlevel (props, Text-set)

Plural-set : IsSet (Option PoString)
Plural-set = Coded-set (coded_option (coded_list coded_ℕ))

unit-prop : (o : Option Unit) (plural : Option PoString) → IsProp ((unit : Unit) × (o ≡ Some unit) × (unit.obsolete ≡ false) × (unit.plural ≡ plural))
unit-prop o plural = only_one (λ u. u.obsolete ≡ false) (λ u. u.plural ≡ plural) Unit-set (λ u. hlevel props) (λ u. hlevel Plural-set) o

pub rules_prop : (m : OfficeWithBook) → IsProp (KeepsRules m)
rules_prop m = hlevel (props, distinct-prop, unique-prop, first-prop, unit-prop, Text-set, Texts-set, Unit-set, Key-set, Previous-set, Suggestions-set)
