-- No two suggestions of an office by domains have one number, since each row has its own.
use Rattle.std.proofs.Common.{◌≡◌, ℤ, List, [], ◌∷◌, map, filter, false, Option, Some, None, refl, sym, ap, subst, ◌∙◌, codes}
use Rattle.std.specs.Prelude.{⊤, IsSome, flat_map}
use Rattle.std.specs.Option.{option_map_or}
use Rattle.std.specs.List.{AllByRecursion, IsDistinct}
use Rattle.std.specs.declared.cmp.Ordering.{Ordering}
use Rattle.std.specs.Ordering.{eq_by_cmp, int_cmp}
use Rattle.std.specs.Cmp.{IsTotalOrder, eq_by_cmp_equiv, int_cmp_total}
use Rattle.std.specs.Cmp.Lexicographic.{bytes_decides}
use Rattle.std.specs.FinMap as maps
use Rattle.std.specs.FinMap.{IsAntisymmetric, int_cmp-IsAntisymmetric}
use Rattle.std.proofs.lemmas.Bool.{and_parts, false_from_ne_true, false≢true}
use Rattle.sqlite.specs.Effect.{Database}
use Rattle.sqlite.specs.Order.{Row, column}
use Rattle.sqlite_rules.specs.Lists.{Has}
use Rattle.sql_laws.specs.RowMaps.{map_of, IsFound}
use Rattle.sql_laws.proofs.RowMaps.{get-found, texts_are_one}
use Rattle.sqlite_rules.proofs.ListLemmas.{has_filtered}
use Rattle.po_text.specs.Texts.{Text, text_cmp, text_eq}
use Rattle.units.specs.Project.{Place, place_cmp}
use Rattle.units.specs.Orders.{text_total, text_IsAntisymmetric, place_total, place_IsAntisymmetric}
use Rattle.units.specs.declared.unit.Suggestion.{Suggestion}
use Rattle.request_book.specs.Words.{number_text}
use Rattle.office_specification.specs.OfficeRules.{numbers_in, all_numbers}
use Rattle.office_specification.proofs.rules.UnitRules.{numbers_of}
use Rattle.office_specification.proofs.rules.Numbering.{AreApart, all_from, distinct_from}
use Rattle.sql_columns.specs.Readings.{number_read, key_parts}
use Rattle.sql_schema.specs.Keys.{text_at, first_text, has_text, is_on_unit}
use Rattle.sql_schema.specs.Inside.{AreOfficeTablesOf}
use Rattle.sql_schema.specs.Layouts.{NamedRows, by_domain, rows_named}
use Rattle.sql_schema.specs.SeenRows.{seen_in, suggestion_seen}
use Rattle.sql_schema.proofs.DomainRows.{one_d_number}
use Rattle.sql_schema.proofs.SeenRows.{from_seen}
use Rattle.sql_meaning.specs.Values.{integer_at}
use Rattle.sql_meaning.specs.Meaning.{number_at, key_at, suggestion_of_row, suggestions_in, place_of_row, unit_of_row}
use Rattle.sql_meaning.specs.Domains.{domain_of_rows, office_of_rows}
use Rattle.sql_decoding.specs.RowTests.{is_suggestion_row}
use Rattle.sql_adoption.specs.Adoption.{Each}
use Rattle.sql_adoption.proofs.WholeBook.{holds_number, named}

-- ---- numbers that owners tell apart

module _ (P Q : Text → Type 0) (differ : (m n : Text) → P m → Q n → text_eq m n ≡ false) where
  one_apart : (m : Text) → P m → (ns : List Text) → AllByRecursion Q ns → AllByRecursion (λ n. text_eq m n ≡ false) ns
  one_apart m own [] all = tt
  one_apart m own (n ∷ ns) all = (differ m n own all.0, one_apart m own ns all.1)

  apart_by : (ms ns : List Text) → AllByRecursion P ms → AllByRecursion Q ns → AreApart ms ns
  apart_by [] ns own all = tt
  apart_by (m ∷ ms) ns own all = (one_apart m own.0 ns all, apart_by ms ns own.1 all)

-- those of a map's values, each of which is a row's
module _ {K X : Type 0} (R : K → K → Ordering) (total : IsTotalOrder R) (same : IsAntisymmetric R) (key : Row → K) (value : Row → X) (g : X → List Text) (rows : List Row) where
  abbrev of_all : List Text
  of_all = flat_map (λ e. g e.1) (maps.entries (map_of R key value rows))

  found : (P : List Text → Type 0) → P [] → (k : K) → ((r : Row) → Has rows r → key r ≡ k → P (g (value r))) → P (option_map_or g (maps.get (map_of R key value rows) k) [])
  found P none k each = by (maps.get (map_of R key value rows) k) (get-found R total same key value rows k)
    where
      by : (o : Option X) → IsFound key value rows k o → P (option_map_or g o [])
      by None f = none
      by (Some x) f = subst (λ (y : X). P (g y)) f.3 (each f.0 f.1 f.2)

  pub all_numbered : (P : Text → Type 0) → ((r : Row) → Has rows r → AllByRecursion P (g (value r))) → AllByRecursion P of_all
  all_numbered P each = all_from R total g P (map_of R key value rows) (λ k. found (AllByRecursion P) tt k (λ r there e. each r there))

  module _ (Owns : K → Text → Type 0) (one : (p q : K) (m n : Text) → Owns p m → Owns q n → m ≡ n → p ≡ q) where
    differ : (p q : K) → eq_by_cmp R p q ≡ false → (m n : Text) → Owns p m → Owns q n → text_eq m n ≡ false
    differ p q apart m n own other = false_from_ne_true (text_eq m n) (λ e. false≢true (sym apart ∙ ap (λ k. eq_by_cmp R k q) (one p q m n own other ((bytes_decides m n).0 e)) ∙ (eq_by_cmp_equiv total).refl q))

    pub numbers_distinct : ((r : Row) → Has rows r → IsDistinct text_eq (g (value r))) → ((r : Row) → Has rows r → AllByRecursion (Owns (key r)) (g (value r))) → IsDistinct text_eq of_all
    unfolding IsDistinct
    numbers_distinct own owned = distinct_from R total g (map_of R key value rows) (record {
      each = λ p. found (IsDistinct text_eq) tt p (λ r there e. own r there);
      apart = λ p q n. apart_by (Owns p) (Owns q) (differ p q n) _ _ (owners p) (owners q);
    })
      where
        owners : (p : K) → AllByRecursion (Owns p) (option_map_or g (maps.get (map_of R key value rows) p) [])
        owners p = found (AllByRecursion (Owns p)) tt p (λ r there e. subst (λ k. AllByRecursion (Owns k) (g (value r))) e (owned r there))

-- ---- those of an office

module _ (db : Database) (ready : AreOfficeTablesOf by_domain db) (stands : (domain : Text) → Each (codes "suggestion") (1 ∷ 4 ∷ 5 ∷ 6 ∷ 2 ∷ 3 ∷ []) is_suggestion_row (seen_in domain (rows_named db))) where
  abbrev rows : NamedRows
  rows = rows_named db

  abbrev suggestions : Text → List Row
  suggestions domain = seen_in domain rows (codes "suggestion")

  is_numbered : (domain : Text) (x : Row) → Has (suggestions domain) x → IsSome (number_read (first_text x))
  is_numbered domain x there = holds_number (column x 1) (and_parts _ _ (and_parts _ _ (stands domain x there)).1).0

  -- a number tells the row and its domain
  one_row : (d e : Text) (x y : Row) → Has (suggestions d) x → Has (suggestions e) y → number_at 1 x ≡ number_at 1 y → (x ≡ y) × (d ≡ e)
  one_row d e x y in_x in_y is =
      let r = from_seen (has_text 2 d) suggestion_seen (rows (codes "d_suggestion")) x in_x in
      let s = from_seen (has_text 2 e) suggestion_seen (rows (codes "d_suggestion")) y in_y in
      let texts : first_text x ≡ first_text y = named x (is_numbered d x in_x) ∙ (ap number_text is ∙ sym (named y (is_numbered e y in_y))) in
      let number : text_at 1 r.0 ≡ text_at 1 s.0 = ap first_text (sym r.3) ∙ texts ∙ ap first_text s.3 in
      let one : r.0 ≡ s.0 = one_d_number db ready.schema ready.sound (ready.tables (codes "d_suggestion") refl) r.0 s.0 r.1 s.1 number in
      (r.3 ∙ ap suggestion_seen one ∙ sym s.3, sym (texts_are_one (text_at 2 r.0) d r.2) ∙ ap (text_at 2) one ∙ texts_are_one (text_at 2 s.0) e s.2)

  -- a suggestion of a domain that something is told of has the number
  abbrev Among : Text → (Row → Type 0) → Text → Type 0
  Among domain Told number = (x : Row) × Has (suggestions domain) x × Told x × (number ≡ number_at 1 x)

  -- the place of a suggestion's unit
  abbrev unit_place : Row → Place
  unit_place x = (text_at 2 x, key_at 3 x)

  abbrev place_named : Text → Text → Place
  place_named lang key = (lang, key_parts key)

  module _ (domain : Text) where
    abbrev tables : NamedRows
    tables = seen_in domain rows

    -- ---- a unit's

    module _ (lang key : Text) where
      abbrev on_it : List Row
      on_it = filter (is_on_unit lang key) (suggestions domain)

      abbrev number_alone : Suggestion → List Text
      number_alone s = s.number ∷ []

      alone : (es : List (ℤ × Suggestion)) → flat_map (λ e. number_alone e.1) es ≡ map (λ (s : Suggestion). s.number) (map (λ (e : ℤ × Suggestion). e.1) es)
      alone [] = refl
      alone (e ∷ es) = ap (λ ns. e.1.number ∷ ns) (alone es)

      its_place : (x : Row) → Has on_it x → Has (suggestions domain) x × (unit_place x ≡ place_named lang key)
      its_place x there =
          let kept = has_filtered (is_on_unit lang key) (suggestions domain) x there in
          let parts = and_parts (has_text 2 lang x) (has_text 3 key x) kept.1 in
          (kept.0, λ i. (texts_are_one (text_at 2 x) lang parts.0 i, key_parts (texts_are_one (text_at 3 x) key parts.1 i)))

      unit_distinct : IsDistinct text_eq (map (λ (s : Suggestion). s.number) (suggestions_in tables lang key))
      unfolding IsDistinct
      unit_distinct = subst (IsDistinct text_eq) (alone _)
          (numbers_distinct int_cmp int_cmp_total int_cmp-IsAntisymmetric (integer_at 4) (suggestion_of_row tables) number_alone on_it (λ place. Among domain (λ x. integer_at 4 x ≡ place))
          (λ p q m n own other e. sym own.2 ∙ ap (integer_at 4) (one_row domain domain own.0 other.0 own.1 other.1 (sym own.3 ∙ e ∙ other.3)).0 ∙ other.2)
          (λ x there. (tt, tt)) (λ x there. ((x, (its_place x there).0, refl, refl), tt)))

      unit_owns : AllByRecursion (Among domain (λ x. unit_place x ≡ place_named lang key)) (map (λ (s : Suggestion). s.number) (suggestions_in tables lang key))
      unit_owns = subst (AllByRecursion (Among domain (λ x. unit_place x ≡ place_named lang key))) (alone _)
          (all_numbered int_cmp int_cmp_total int_cmp-IsAntisymmetric (integer_at 4) (suggestion_of_row tables) number_alone on_it (Among domain (λ x. unit_place x ≡ place_named lang key))
          (λ x there. ((x, (its_place x there).0, (its_place x there).1, refl), tt)))

    -- ---- a domain's

    domain_distinct : IsDistinct text_eq (numbers_in (domain_of_rows rows domain))
    domain_distinct =
        numbers_distinct place_cmp place_total place_IsAntisymmetric place_of_row (unit_of_row tables) numbers_of (tables (codes "unit")) (λ place. Among domain (λ x. unit_place x ≡ place))
        (λ p q m n own other e. sym own.2 ∙ ap unit_place (one_row domain domain own.0 other.0 own.1 other.1 (sym own.3 ∙ e ∙ other.3)).0 ∙ other.2)
        (λ u there. unit_distinct (text_at 1 u) (text_at 2 u)) (λ u there. unit_owns (text_at 1 u) (text_at 2 u))

    domain_owns : AllByRecursion (Among domain (λ x. ⊤)) (numbers_in (domain_of_rows rows domain))
    domain_owns = all_numbered place_cmp place_total place_IsAntisymmetric place_of_row (unit_of_row tables) numbers_of (tables (codes "unit")) (Among domain (λ x. ⊤))
        (λ u there. any (text_at 1 u) (text_at 2 u) _ (unit_owns (text_at 1 u) (text_at 2 u)))
      where
        any : (lang key : Text) (ns : List Text) → AllByRecursion (Among domain (λ x. unit_place x ≡ place_named lang key)) ns → AllByRecursion (Among domain (λ x. ⊤)) ns
        any lang key [] all = tt
        any lang key (n ∷ ns) all = ((all.0.0, all.0.1, tt, all.0.3), any lang key ns all.1)

  pub numbers_own : IsDistinct text_eq (all_numbers (office_of_rows rows))
  numbers_own =
      numbers_distinct text_cmp text_total text_IsAntisymmetric first_text (λ row. domain_of_rows rows (first_text row)) numbers_in (rows (codes "domain")) (λ domain. Among domain (λ x. ⊤))
      (λ d e m n own other is. (one_row d e own.0 other.0 own.1 other.1 (sym own.3 ∙ is ∙ other.3)).1)
      (λ row there. domain_distinct (first_text row)) (λ row there. domain_owns (first_text row))
