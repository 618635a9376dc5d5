-- A domain's rows keep the rules exactly where those of each of its languages do, its frame does, and few votes are on its suggestions.
use Rattle.std.proofs.Common.{◌≡◌, ◌≤◌, ◌&&◌, List, [], ◌∷◌, map, filter, length, cond, Bool, true, false, Option, Some, None, inl, inr, refl, sym, ap, subst, ◌∙◌, codes, arith}
use Rattle.std.specs.Prelude.{IsSome}
use Rattle.std.specs.FinMap as maps
use Rattle.std.proofs.lemmas.Bool.{and_parts, and_from}
use Rattle.std.proofs.lemmas.List.Sorted.{IsPermutation-sym}
use Rattle.sqlite.specs.Effect.{Database}
use Rattle.sqlite.specs.Order.{Row}
use Rattle.sqlite_rules.specs.Lists.{Has}
use Rattle.sqlite_rules.proofs.ListLemmas.{has_filtered, has_kept}
use Rattle.sql_laws.specs.RowMaps.{IsFound}
use Rattle.sql_laws.proofs.RemovedRows.{to_mapped, has_permuted}
use Rattle.sql_laws.proofs.RowMaps.{get-found, texts_are_one}
use Rattle.po_text.specs.declared.entry.Entry.{Entry}
use Rattle.po_text.specs.Texts.{Text, text_cmp}
use Rattle.units.specs.Limits.{unit_limit, vote_limit}
use Rattle.units.specs.Orders.{text_total, text_IsAntisymmetric}
use Rattle.units.specs.Project.{Project}
use Rattle.units.specs.Rules.{rule_at}
use Rattle.rule_tests.specs.Parts.{IsBareProject}
use Rattle.sql_schema.specs.Inside.{AreOfficeTablesOf}
use Rattle.sql_schema.specs.Keys.{text_at, first_text, has_text, columns}
use Rattle.sql_schema.specs.Layouts.{by_domain, NamedRows, rows_named}
use Rattle.sql_schema.specs.SeenRows.{seen_in, language_seen}
use Rattle.sql_schema.proofs.DomainsSeen.{is_text}
use Rattle.sql_schema.proofs.SeenRows.{from_seen, to_seen}
use Rattle.sql_meaning.specs.Meaning.{header_of_row, project_of_rows}
use Rattle.sql_statements.specs.WalkedRows.{is_empty, is_unplaced, is_unit_of, suggestion_beside, ShowsUnplaced}
use Rattle.sql_figures.specs.KeptSums.{votes_among}
use Rattle.sql_adoption.specs.LanguagesKept.{IsLanguageKept}
use Rattle.sql_adoption.specs.WalkedUnits.{IsKeptSuggestion}
use Rattle.sql_adoption.proofs.DomainByWalks.{KeepByWalks}
use Rattle.sql_adoption.proofs.SuggestionRows.{on_some_unit}

some_row : (xs : List Row) → is_empty xs ≡ false → (x : Row) × Has xs x
some_row [] e = absurd (let no : true ≡ false = e in cc)
some_row (x ∷ xs) e = (x, inl refl)

not_empty : (xs : List Row) (x : Row) → Has xs x → is_empty xs ≡ false
not_empty [] x there = absurd there
not_empty (y ∷ xs) x there = refl

none_pass : (p : Row → Bool) (xs : List Row) → ((x : Row) → Has xs x → p x ≡ true → ⊥) → length (filter p xs) ≡ 0
none_pass p [] none = refl
none_pass p (x ∷ xs) none = by (p x) refl (none_pass p xs (λ y there. none y (inr there)))
  where
    by : (b : Bool) → p x ≡ b → length (filter p xs) ≡ 0 → length (cond b (x ∷ filter p xs) (filter p xs)) ≡ 0
    by true e behind = absurd (none x (inl refl) e)
    by false e behind = behind

abbrev lone_of : Database → List Row
lone_of db = filter (is_unplaced (rows_named db)) (rows_named db (codes "d_unit"))

-- a language's row is that of a unit's
abbrev language_of : Row → Row → Bool
language_of u l = has_text 1 (text_at 1 u) l && has_text 2 (text_at 2 u) l

-- each unit has its language where a walk shows none that hasn't
pub each_placed : (db : Database) (shown : List Row) → ShowsUnplaced db shown → shown ≡ [] → (u : Row) → Has (rows_named db (codes "d_unit")) u → is_unplaced (rows_named db) u ≡ false
each_placed db shown shows none u there = by (is_unplaced (rows_named db) u) refl
  where
    by : (b : Bool) → is_unplaced (rows_named db) u ≡ b → b ≡ false
    by false e = refl
    by true e =
        let x = columns (1 ∷ 2 ∷ []) u in
        let here : Has shown x = has_permuted shown (map (columns (1 ∷ 2 ∷ [])) (lone_of db)) x (IsPermutation-sym (map (columns (1 ∷ 2 ∷ [])) (lone_of db)) shown shows)
        (to_mapped (columns (1 ∷ 2 ∷ [])) (lone_of db) u (has_kept (is_unplaced (rows_named db)) (rows_named db (codes "d_unit")) u there e)) in
        absurd (subst (λ l. Has l x) none here)

module _ (db : Database) (ready : AreOfficeTablesOf by_domain db) (domain : Text) where
  abbrev rows : NamedRows
  rows = rows_named db

  abbrev tables : NamedRows
  tables = seen_in domain rows

  abbrev project : Project
  project = project_of_rows tables

  -- a unit whose language has a row has a language
  pub has_header : (u : Row) → is_unplaced rows u ≡ false → has_text 1 domain u ≡ true → IsSome (maps.get project.headers (text_at 2 u))
  has_header u placed own = by (maps.get project.headers (text_at 2 u)) (get-found text_cmp text_total text_IsAntisymmetric first_text header_of_row (tables (codes "language")) (text_at 2 u))
    where
      l : (x : Row) × Has (filter (language_of u) (rows (codes "d_language"))) x
      l = some_row (filter (language_of u) (rows (codes "d_language"))) placed

      kept : Has (rows (codes "d_language")) l.0 × ((language_of u) l.0 ≡ true)
      kept = has_filtered (language_of u) (rows (codes "d_language")) l.0 l.1

      at : (has_text 1 (text_at 1 u) l.0 ≡ true) × (has_text 2 (text_at 2 u) l.0 ≡ true)
      at = and_parts (has_text 1 (text_at 1 u) l.0) (has_text 2 (text_at 2 u) l.0) kept.1

      seen : Has (tables (codes "language")) (language_seen l.0)
      seen = to_seen (has_text 1 domain) language_seen (rows (codes "d_language")) l.0 kept.0 (is_text 1 domain l.0 (texts_are_one (text_at 1 l.0) (text_at 1 u) at.0 ∙ texts_are_one (text_at 1 u) domain own))

      by : (o : Option Entry) → IsFound first_text header_of_row (tables (codes "language")) (text_at 2 u) o → IsSome o
      by (Some header) found = refl
      by None found = absurd (found (language_seen l.0) seen (texts_are_one (text_at 2 l.0) (text_at 2 u) at.1))

  module _ (placed : (u : Row) → Has (rows (codes "d_unit")) u → is_unplaced rows u ≡ false) where
    pub languages_kept : IsBareProject project → ((lang : Text) → IsSome (maps.get project.headers lang) → IsLanguageKept db project domain lang)
        → ((s : Row) → Has (rows (codes "d_suggestion")) s → has_text 2 domain s ≡ true → maps.len (votes_among (rows (codes "d_vote")) (first_text s)) ≤ vote_limit)
        → KeepByWalks db ready domain
    languages_kept bare each voted = record {
      frame = bare.frame;
      headed = λ lang header is. bare.headed lang header is;
      units = λ u there own. (each (text_at 2 u) (has_header u (placed u there) own)).units u there (and_from (has_text 1 domain u) (has_text 2 (text_at 2 u) u) own (is_text 2 (text_at 2 u) u refl));
      suggestions = λ s there own.
          let u = on_some_unit db ready domain s there own in
          let parts = and_parts (has_text 2 domain s) (has_text 3 (text_at 2 u.0) s && has_text 4 (text_at 3 u.0) s) u.3 in
          let at = and_parts (has_text 3 (text_at 2 u.0) s) (has_text 4 (text_at 3 u.0) s) parts.1 in
          let lang : text_at 2 u.0 ≡ text_at 3 s = sym (texts_are_one (text_at 3 s) (text_at 2 u.0) at.0) in
          (each (text_at 3 s) (subst (λ l. IsSome (maps.get project.headers l)) lang (has_header u.0 (placed u.0 u.1) u.2))).suggestions s there
          (and_from (has_text 2 domain s) (has_text 3 (text_at 3 s) s) own (is_text 3 (text_at 3 s) s refl));
      voted = voted;
      few = λ lang. by lang (maps.get project.headers lang) refl;
      as_many = λ lang header. (each lang header).as_many;
    }
      where
        by : (lang : Text) (o : Option Entry) → maps.get project.headers lang ≡ o → length (filter (is_unit_of domain lang) (rows (codes "d_unit"))) ≤ unit_limit
        by lang (Some header) is = (each lang (subst IsSome (sym is) refl)).few
        by lang None is =
            let none : length (filter (is_unit_of domain lang) (rows (codes "d_unit"))) ≡ 0 = none_pass (is_unit_of domain lang) (rows (codes "d_unit")) (λ u there passes.
            let parts = and_parts (has_text 1 domain u) (has_text 2 lang u) passes in
            let header : IsSome (maps.get project.headers lang) = subst (λ l. IsSome (maps.get project.headers l)) (texts_are_one (text_at 2 u) lang parts.1) (has_header u (placed u there) parts.0) in
            absurd (let no : IsSome {T = Entry} None = subst IsSome is header in cc)) in
            omega arith

  -- and back
  pub keeps_language : KeepByWalks db ready domain → (lang : Text) → IsSome (maps.get project.headers lang) → IsLanguageKept db project domain lang
  keeps_language keep lang header = record {
    units = λ u there passes. keep.units u there (and_parts (has_text 1 domain u) (has_text 2 lang u) passes).0;
    suggestions = λ s there passes.
        let parts = and_parts (has_text 2 domain s) (has_text 3 lang s) passes in
        subst (λ l. IsKeptSuggestion (rule_at project l) (suggestion_beside rows s)) (texts_are_one (text_at 3 s) lang parts.1) (keep.suggestions s there parts.0);
    few = keep.few lang;
    as_many = keep.as_many lang header;
  }

  pub keeps_bare : KeepByWalks db ready domain → IsBareProject project
  keeps_bare keep = record { frame = keep.frame; headed = λ lang header is. keep.headed lang header is }

  -- no unit is without its language
  pub placed_where_kept : KeepByWalks db ready domain → (u : Row) → Has (rows (codes "d_unit")) u → has_text 1 domain u ≡ true → is_unplaced rows u ≡ false
  placed_where_kept keep u there own =
      by (maps.get project.headers (text_at 2 u)) (get-found text_cmp text_total text_IsAntisymmetric first_text header_of_row (tables (codes "language")) (text_at 2 u)) (keep.units u there own).placed.language
    where
      by : (o : Option Entry) → IsFound first_text header_of_row (tables (codes "language")) (text_at 2 u) o → IsSome o → is_unplaced rows u ≡ false
      by None found some = absurd (let no : false ≡ true = some in cc)
      by (Some header) found some =
          let l = from_seen (has_text 1 domain) language_seen (rows (codes "d_language")) found.0 found.1 in
          let of_domain : text_at 1 l.0 ≡ text_at 1 u = texts_are_one (text_at 1 l.0) domain l.2 ∙ sym (texts_are_one (text_at 1 u) domain own) in
          let of_lang : text_at 2 l.0 ≡ text_at 2 u = ap first_text (sym l.3) ∙ found.2 in
          not_empty (filter (language_of u) (rows (codes "d_language"))) l.0
          (has_kept (language_of u) (rows (codes "d_language")) l.0 l.1 (and_from (has_text 1 (text_at 1 u) l.0) (has_text 2 (text_at 2 u) l.0) (is_text 1 (text_at 1 u) l.0 of_domain) (is_text 2 (text_at 2 u) l.0 of_lang)))
