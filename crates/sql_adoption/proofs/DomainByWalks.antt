-- A domain's project keeps its rules exactly where the rows do that walks show of its units, their suggestions and the votes on these.
use Rattle.std.proofs.Common.{◌≡◌, ◌≤◌, ◌&&◌, ℕ, List, [], ◌∷◌, filter, length, Bool, true, false, not, cond, Some, refl, sym, ap, subst, ◌∙◌, codes, All, arith}
use Rattle.std.specs.Prelude.{IsSome, min}
use Rattle.std.specs.Cmp.Lexicographic.{slice_cmp, bytes_decides}
use Rattle.std.specs.FinMap as maps
use Rattle.std.specs.Ordering.{is_eq, nat_cmp}
use Rattle.std.proofs.lemmas.Bool.{and_parts}
use Rattle.std.proofs.lemmas.List.Elements.{All-nil}
use Rattle.sqlite.specs.Effect.{Database}
use Rattle.sqlite.specs.declared.types.Value.{Value}
use Rattle.sqlite.specs.declared.types.Value.TheVariants.{Null, Int, Real, Text as Words, Blob}
use Rattle.sqlite.specs.Order.{Row, column}
use Rattle.sqlite_rules.specs.Lists.{Has}
use Rattle.sql_laws.specs.ApartRows.{AreOnce}
use Rattle.sql_laws.proofs.RowMaps.{texts_are_one, text_ties_itself}
use Rattle.plural_expr.specs.Values.{Rule}
use Rattle.po_text.specs.declared.entry.Entry.{Entry}
use Rattle.po_text.specs.Texts.{Text, text_eq}
use Rattle.units.specs.Limits.{suggestion_limit, unit_limit, vote_limit}
use Rattle.units.specs.Project.{Project}
use Rattle.units.specs.Projects.{IsProject}
use Rattle.units.specs.Rules.{rule_at}
use Rattle.units.specs.Units.{forms_needed}
use Rattle.units.specs.declared.unit.Suggestion.{Suggestion}
use Rattle.rule_tests.specs.Bare.{bare, FitsEntry, SuggestionsKeep}
use Rattle.rule_tests.specs.Parts.{IsFrame, IsLanguage, IsPlaced}
use Rattle.sql_schema.specs.Inside.{AreOfficeTablesOf}
use Rattle.sql_schema.specs.Keys.{text_at, first_text, has_text}
use Rattle.sql_schema.specs.Layouts.{by_domain, NamedRows, rows_named}
use Rattle.sql_schema.specs.SeenRows.{seen_in, unit_seen}
use Rattle.sql_schema.proofs.Queries.{filtered_same}
use Rattle.sql_schema.proofs.SeenRows.{from_seen, to_seen}
use Rattle.sql_statements.specs.DomainCleared.{is_on_domain_unit}
use Rattle.sql_statements.specs.SummedVotes.{most_counted}
use Rattle.sql_statements.specs.WalkedRows.{suggestions_on, unit_counted, suggestion_beside, is_unit_of, is_unit_under, is_textual, has_plural, plurals_under}
use Rattle.sql_meaning.specs.Meaning.{key_at, place_of_row, suggestions_in, unit_of_row, project_of_rows}
use Rattle.sql_meaning.specs.RowKeys.{AreOfficeRows}
use Rattle.sql_meaning.specs.Values.{flag_at, natural_at, texts_at, text_of, text_or_null_at}
use Rattle.sql_meaning.proofs.DomainOfficeRows.{domain_rows}
use Rattle.sql_figures.specs.KeptSums.{votes_among}
use Rattle.sql_adoption.specs.WalkedUnits.{IsKeptUnit, IsKeptSuggestion, forms_with}
use Rattle.sql_adoption.proofs.CountedValues.{filtered_both, mapped_passing}
use Rattle.sql_adoption.proofs.FewVotes.{votes_of_row}
use Rattle.sql_adoption.proofs.ProjectByRows.{KeepByRows, is_current, kept_by_rows, rows_keep}
use Rattle.sql_adoption.proofs.SuggestionsCounted.{suggestions_counted, each_suggestion, every_row}
use Rattle.sql_adoption.proofs.SuggestionRows.{on_some_unit, unit_under, units_once}

-- what SQL counts is few where what there is is few, and the other way round
few_counted : (n : ℕ) → min most_counted n ≤ suggestion_limit → n ≤ suggestion_limit
few_counted n few = omega arith

few_told : (n : ℕ) → n ≤ suggestion_limit → min most_counted n ≤ suggestion_limit
few_told n few = omega arith

none_counted : (n : ℕ) → min most_counted n ≡ 0 → n ≡ 0
none_counted n none = omega arith

none_told : (n : ℕ) → n ≡ 0 → min most_counted n ≡ 0
none_told n none = omega arith

three_tests : (a b c : Bool) → ((a && b) && c) ≡ (a && (b && c))
three_tests true b c = refl
three_tests false b c = refl

-- two tests of one fact
tests_alike : (p q : Bool) → (p ≡ true → q ≡ true) → (q ≡ true → p ≡ true) → p ≡ q
tests_alike true q forth back = sym (forth refl)
tests_alike false true forth back = back refl
tests_alike false false forth back = refl

pub texts_tested : (a b : Text) → text_eq a b ≡ is_eq (slice_cmp nat_cmp b a)
texts_tested a b =
    tests_alike (text_eq a b) (is_eq (slice_cmp nat_cmp b a)) (λ e. ap (λ t. is_eq (slice_cmp nat_cmp b t)) ((bytes_decides a b).0 e) ∙ text_ties_itself b) (λ e. (bytes_decides a b).1 (sym (texts_are_one b a e)))

nothing_long : {X : Type 0} (xs : List X) → length xs ≡ 0 → xs ≡ []
nothing_long [] e = refl
nothing_long (x ∷ xs) e = absurd (omega arith)

-- a unit needs as many forms as its plurals tell, one or none
forms_told : (rule : Rule) (u : Row) (v : Value) → forms_with rule (min most_counted (length (cond (is_textual v) (u ∷ []) []))) ≡ forms_needed rule (text_of v)
forms_told rule u Null = refl
forms_told rule u (Int n) = refl
forms_told rule u (Real x) = refl
forms_told rule u (Words t) = refl
forms_told rule u (Blob b) = refl

module _ (db : Database) (ready : AreOfficeTablesOf by_domain db) (domain : Text) where
  abbrev rows : NamedRows
  rows = rows_named db

  abbrev tables : NamedRows
  tables = seen_in domain rows

  abbrev project : Project
  project = project_of_rows tables

  abbrev own_units : List Row
  own_units = filter (has_text 1 domain) (rows (codes "d_unit"))

  are : AreOfficeRows tables
  are = domain_rows db ready domain

  once : AreOnce (tables (codes "unit"))
  once = units_once db ready domain

  -- What is told of the rows, beside the frame.
  pub record KeepByWalks : Type 0 where
    pub frame : IsFrame project
    pub headed : (lang : Text) (header : Entry) → maps.get project.headers lang ≡ Some header → IsLanguage header
    pub units : (u : Row) → Has (rows (codes "d_unit")) u → has_text 1 domain u ≡ true → IsKeptUnit project (unit_counted rows u)
    pub suggestions : (s : Row) → Has (rows (codes "d_suggestion")) s → has_text 2 domain s ≡ true → IsKeptSuggestion (rule_at project (text_at 3 s)) (suggestion_beside rows s)
    pub voted : (s : Row) → Has (rows (codes "d_suggestion")) s → has_text 2 domain s ≡ true → maps.len (votes_among (rows (codes "d_vote")) (first_text s)) ≤ vote_limit
    pub few : (lang : Text) → length (filter (is_unit_of domain lang) (rows (codes "d_unit"))) ≤ unit_limit
    pub as_many : (lang : Text) → IsSome (maps.get project.headers lang) → length project.template ≤ length (filter (λ u. is_unit_of domain lang u && not (flag_at 7 u)) (rows (codes "d_unit")))

  -- ---- a unit and its suggestions

  module _ (u : Row) (there : Has (rows (codes "d_unit")) u) (own : has_text 1 domain u ≡ true) where
    abbrev lang : Text
    lang = text_at 2 u

    abbrev key : Text
    key = text_at 3 u

    named : text_at 1 u ≡ domain
    named = texts_are_one (text_at 1 u) domain own

    -- how many there are
    long : length (suggestions_in tables lang key) ≡ suggestions_on rows u
    long = suggestions_counted db ready domain lang key ∙ ap (λ name. length (filter (is_on_domain_unit name lang key) (rows (codes "d_suggestion")))) (sym named)

    -- the suggestion's unit is this one
    its_plurals : (s : Row) → is_on_domain_unit domain lang key s ≡ true → plurals_under rows s ≡ length (filter has_plural (u ∷ []))
    its_plurals s passes = filtered_both (is_unit_under s) has_plural (rows (codes "d_unit")) ∙ ap (λ us. length (filter has_plural us)) (unit_under db ready domain u there own s passes)

    forms_are : (s : Row) → is_on_domain_unit domain lang key s ≡ true → (rule : Rule) → forms_with rule (natural_at 6 (suggestion_beside rows s)) ≡ forms_needed rule (text_or_null_at 4 u)
    forms_are s passes rule = ap (λ n. forms_with rule (min most_counted n)) (its_plurals s passes) ∙ forms_told rule u (column u 4)

    keep_them : KeepByWalks → SuggestionsKeep (rule_at project lang) (unit_of_row tables (unit_seen u)) (suggestions_in tables lang key)
    keep_them keep = record {
      formed = λ current. each_suggestion db ready domain lang key (λ t. length t.forms ≡ forms_needed (rule_at project lang) (text_or_null_at 4 u)) (λ s listed passes.
          let parts = and_parts (has_text 2 domain s) (has_text 3 lang s && has_text 4 key s) passes in
          let at = and_parts (has_text 3 lang s) (has_text 4 key s) parts.1 in
          let kept : length (texts_at 7 s) ≡ forms_with (rule_at project (text_at 3 s)) (natural_at 6 (suggestion_beside rows s)) = keep.suggestions s listed parts.0 in
          kept ∙ (forms_are s passes (rule_at project (text_at 3 s)) ∙ (λ i. forms_needed (rule_at project (texts_are_one (text_at 3 s) lang at.0 i)) (text_or_null_at 4 u))));
      none = λ obsolete. nothing_long (suggestions_in tables lang key) (long ∙ none_counted (suggestions_on rows u) (it.none obsolete));
      few = subst (λ n. n ≤ suggestion_limit) (sym long) (few_counted (suggestions_on rows u) it.few);
      voted = each_suggestion db ready domain lang key (λ t. maps.len t.votes ≤ vote_limit) (λ s listed passes.
          let parts = and_parts (has_text 2 domain s) (has_text 3 lang s && has_text 4 key s) passes in
          subst (λ m. maps.len m ≤ vote_limit) (sym (votes_of_row db ready domain s listed parts.0)) (keep.voted s listed parts.0));
    }
      where
        it : IsKeptUnit project (unit_counted rows u)
        it = keep.units u there own

  -- as many of what the domain sees are of a language as of its rows, and as many aren't obsolete
  seen_few : (lang : Text) → length (filter (λ x. text_eq lang (text_at 1 x)) (tables (codes "unit"))) ≡ length (filter (is_unit_of domain lang) (rows (codes "d_unit")))
  seen_few lang =
      mapped_passing (λ x. text_eq lang (text_at 1 x)) unit_seen own_units
      ∙ ap length (filtered_same (λ u. text_eq lang (text_at 2 u)) (has_text 2 lang) own_units (λ u listed. texts_tested lang (text_at 2 u)))
      ∙ sym (filtered_both (has_text 1 domain) (has_text 2 lang) (rows (codes "d_unit")))

  seen_current : (lang : Text) → length (filter (is_current lang) (tables (codes "unit"))) ≡ length (filter (λ u. is_unit_of domain lang u && not (flag_at 7 u)) (rows (codes "d_unit")))
  seen_current lang =
      mapped_passing (is_current lang) unit_seen own_units
      ∙ ap length (filtered_same (λ u. is_current lang (unit_seen u)) (λ u. has_text 2 lang u && not (flag_at 7 u)) own_units (λ u listed. ap (λ b. b && not (flag_at 7 u)) (texts_tested lang (text_at 2 u))))
      ∙ sym (filtered_both (has_text 1 domain) (λ u. has_text 2 lang u && not (flag_at 7 u)) (rows (codes "d_unit")))
      ∙ ap length (filtered_same (λ u. has_text 1 domain u && (has_text 2 lang u && not (flag_at 7 u))) (λ u. is_unit_of domain lang u && not (flag_at 7 u)) (rows (codes "d_unit"))
      (λ u listed. sym (three_tests (has_text 1 domain u) (has_text 2 lang u) (not (flag_at 7 u)))))

  pub walks_keep : KeepByWalks → IsProject project
  walks_keep keep = kept_by_rows tables are once (record {
    frame = keep.frame;
    headed = keep.headed;
    alone = of_unit (λ x. IsPlaced project (place_of_row x) (bare (unit_of_row tables x))) (λ u there own. (keep.units u there own).placed);
    fits = of_unit (λ x. FitsEntry project.template (key_at 2 x) (unit_of_row tables x)) (λ u there own. (keep.units u there own).fits);
    suggestions = of_unit (λ x. SuggestionsKeep (rule_at project (text_at 1 x)) (unit_of_row tables x) (suggestions_in tables (text_at 1 x) (text_at 2 x))) (λ u there own. keep_them u there own keep);
    few = λ lang. subst (λ n. n ≤ unit_limit) (sym (seen_few lang)) (keep.few lang);
    as_many = λ lang header. subst (λ n. length project.template ≤ n) (sym (seen_current lang)) (keep.as_many lang header);
  })
    where
      of_unit : (P : Row → Type 0) → ((u : Row) → Has (rows (codes "d_unit")) u → has_text 1 domain u ≡ true → P (unit_seen u)) → (x : Row) → Has (tables (codes "unit")) x → P x
      of_unit P each x at = let u = from_seen (has_text 1 domain) unit_seen (rows (codes "d_unit")) x at in subst P (sym u.3) (each u.0 u.1 u.2)

  -- ---- and back

  module _ (rules : IsProject project) where
    by_rows : KeepByRows tables are once
    by_rows = rows_keep tables are once rules

    seen_unit : (u : Row) → Has (rows (codes "d_unit")) u → has_text 1 domain u ≡ true → Has (tables (codes "unit")) (unit_seen u)
    seen_unit u there own = to_seen (has_text 1 domain) unit_seen (rows (codes "d_unit")) u there own

    its_suggestions : (u : Row) → Has (rows (codes "d_unit")) u → has_text 1 domain u ≡ true → SuggestionsKeep (rule_at project (text_at 2 u)) (unit_of_row tables (unit_seen u)) (suggestions_in tables (text_at 2 u) (text_at 3 u))
    its_suggestions u there own = by_rows.suggestions (unit_seen u) (seen_unit u there own)

    unit_so : (u : Row) → Has (rows (codes "d_unit")) u → has_text 1 domain u ≡ true → IsKeptUnit project (unit_counted rows u)
    unit_so u there own = record {
      placed = by_rows.alone (unit_seen u) (seen_unit u there own);
      fits = by_rows.fits (unit_seen u) (seen_unit u there own);
      few = few_told (suggestions_on rows u) (subst (λ n. n ≤ suggestion_limit) (long u there own) (its_suggestions u there own).few);
      none = λ obsolete. none_told (suggestions_on rows u) (sym (long u there own) ∙ ap length ((its_suggestions u there own).none obsolete));
    }

    suggestion_so : (s : Row) → Has (rows (codes "d_suggestion")) s → has_text 2 domain s ≡ true → IsKeptSuggestion (rule_at project (text_at 3 s)) (suggestion_beside rows s)
    suggestion_so s there own = by (flag_at 7 u.0) refl
      where
        u : (u : Row) × Has (rows (codes "d_unit")) u × (has_text 1 domain u ≡ true) × (is_on_domain_unit domain (text_at 2 u) (text_at 3 u) s ≡ true)
        u = on_some_unit db ready domain s there own

        keep : SuggestionsKeep (rule_at project (text_at 2 u.0)) (unit_of_row tables (unit_seen u.0)) (suggestions_in tables (text_at 2 u.0) (text_at 3 u.0))
        keep = its_suggestions u.0 u.1 u.2

        by : (b : Bool) → flag_at 7 u.0 ≡ b → IsKeptSuggestion (rule_at project (text_at 3 s)) (suggestion_beside rows s)
        by true obsolete = absurd (every_row db ready domain (text_at 2 u.0) (text_at 3 u.0) (λ t. ⊥) (subst (All (λ (t : Suggestion). ⊥)) (sym (keep.none obsolete)) (All-nil (λ (t : Suggestion). ⊥))) s there u.3)
        by false current =
            let formed : length (texts_at 7 s) ≡ forms_needed (rule_at project (text_at 2 u.0)) (text_or_null_at 4 u.0) =
            every_row db ready domain (text_at 2 u.0) (text_at 3 u.0) (λ t. length t.forms ≡ forms_needed (rule_at project (text_at 2 u.0)) (text_or_null_at 4 u.0)) (keep.formed current) s there u.3 in
            let at = and_parts (has_text 3 (text_at 2 u.0) s) (has_text 4 (text_at 3 u.0) s) (and_parts (has_text 2 domain s) (has_text 3 (text_at 2 u.0) s && has_text 4 (text_at 3 u.0) s) u.3).1 in
            formed ∙ ((λ i. forms_needed (rule_at project (sym (texts_are_one (text_at 3 s) (text_at 2 u.0) at.0) i)) (text_or_null_at 4 u.0)) ∙ sym (forms_are u.0 u.1 u.2 s u.3 (rule_at project (text_at 3 s))))

    voted_so : (s : Row) → Has (rows (codes "d_suggestion")) s → has_text 2 domain s ≡ true → maps.len (votes_among (rows (codes "d_vote")) (first_text s)) ≤ vote_limit
    voted_so s there own =
        let u = on_some_unit db ready domain s there own in
        subst (λ m. maps.len m ≤ vote_limit) (votes_of_row db ready domain s there own)
        (every_row db ready domain (text_at 2 u.0) (text_at 3 u.0) (λ t. maps.len t.votes ≤ vote_limit) (its_suggestions u.0 u.1 u.2).voted s there u.3)

    pub keeps_walks : KeepByWalks
    keeps_walks = record {
      frame = by_rows.frame;
      headed = by_rows.headed;
      units = unit_so;
      suggestions = suggestion_so;
      voted = voted_so;
      few = λ lang. subst (λ n. n ≤ unit_limit) (seen_few lang) (by_rows.few lang);
      as_many = λ lang header. subst (λ n. length project.template ≤ n) (seen_current lang) (by_rows.as_many lang header);
    }
