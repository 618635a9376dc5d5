-- The tables by domains as each domain sees them: by which keys, and what a row that is put into one makes of what its domain and the others see.
use Rattle.std.proofs.Common.{◌≡◌, ◌≢◌, ℕ, List, [], ◌∷◌, Bool, true, false, cond, Option, codes, refl, sym, ap, subst, ◌∙◌}
use Rattle.std.proofs.lemmas.Bool.{false_from_ne_true}
use Rattle.std.specs.Ordering.{nat_cmp, is_eq}
use Rattle.std.specs.Cmp.Lexicographic.{slice_cmp}
use Rattle.sqlite.specs.Order.{Row}
use Rattle.sqlite.specs.Effect.{Database}
use Rattle.sqlite_rules.specs.Lists.{Has}
use Rattle.sql_laws.specs.RowMaps.{IsFound}
use Rattle.sql_laws.proofs.RowMaps.{texts_are_one, text_ties_itself}
use Rattle.sql_schema.specs.Layouts.{NamedRows, rows_named}
use Rattle.sql_schema.specs.Keys.{text_at, key_texts, first_text, first_texts, first_three, has_text, columns}
use Rattle.sql_schema.specs.Inside.{PutsRow, PutsIn, ShowsKey}
use Rattle.sql_schema.specs.SeenRows.{rows_seen, entry_seen, unit_seen, language_seen, suggestion_seen, is_vote_in, vote_seen, named_so, seen_in, AreSame, AreSameByName}
use Rattle.sql_schema.proofs.Layouts.{by_name, names_differ}
use Rattle.sql_schema.proofs.SeenRows.{IsKeyedAlike, put_seen, put_unseen, found_seen}

of_text : (place : ℕ) (text : List ℕ) (r : Row) → has_text place text r ≡ true → text_at place r ≡ text
of_text place text r e = texts_are_one (text_at place r) text e

pub is_text : (place : ℕ) (text : List ℕ) (r : Row) → text_at place r ≡ text → has_text place text r ≡ true
is_text place text r e = rw e (text_ties_itself text)

pub not_text : (place : ℕ) (text : List ℕ) (r : Row) → text_at place r ≢ text → has_text place text r ≡ false
not_text place text r differ = false_from_ne_true (has_text place text r) (λ e. differ (of_text place text r e))

-- ---- d_unit

pub units_alike : (domain : List ℕ) → IsKeyedAlike (has_text 1 domain) unit_seen first_three first_texts
units_alike domain = record {
  alike = λ r s e. let same : text_at 1 r ≡ text_at 1 s = cc in ap (λ t. is_eq (slice_cmp nat_cmp t domain)) same;
  forth = λ r s e.
      let lang : text_at 2 r ≡ text_at 2 s = cc in
      let key : text_at 3 r ≡ text_at 3 s = cc in
      λ i. lang i ∷ key i ∷ [];
  back = λ r s in_r in_s e.
      let same = of_text 1 domain r in_r ∙ sym (of_text 1 domain s in_s) in
      let lang : text_at 2 r ≡ text_at 2 s = cc in
      let key : text_at 3 r ≡ text_at 3 s = cc in
      λ i. same i ∷ lang i ∷ key i ∷ [];
}

-- ---- d_language

pub languages_alike : (domain : List ℕ) → IsKeyedAlike (has_text 1 domain) language_seen (key_texts (1 ∷ 2 ∷ [])) first_text
languages_alike domain = record {
  alike = λ r s e. let same : text_at 1 r ≡ text_at 1 s = cc in ap (λ t. is_eq (slice_cmp nat_cmp t domain)) same;
  forth = λ r s e. cc;
  back = λ r s in_r in_s e.
      let same = of_text 1 domain r in_r ∙ sym (of_text 1 domain s in_s) in
      let lang : text_at 2 r ≡ text_at 2 s = e in
      λ i. same i ∷ lang i ∷ [];
}

-- ---- a unit's row is put

-- where the tables but that of units stay, what is seen of each name but that of units does
module _ (old new : NamedRows) (others : (name : List ℕ) → name ≢ codes "d_unit" → new name ≡ old name) (domain : List ℕ) where
  other_than_units : (name : List ℕ) → name ≢ codes "unit" → seen_in domain new name ≡ seen_in domain old name
  other_than_units name differ =
      let records = others (codes "record") (names_differ refl) in
      let team = others (codes "team") (names_differ refl) in
      let policy = others (codes "policy") (names_differ refl) in
      let template = others (codes "d_template") (names_differ refl) in
      let languages = others (codes "d_language") (names_differ refl) in
      let suggestions = others (codes "d_suggestion") (names_differ refl) in
      let votes = others (codes "d_vote") (names_differ refl) in
      let not : is_eq (slice_cmp nat_cmp name (codes "unit")) ≡ false = false_from_ne_true _ (λ e. differ (texts_are_one name (codes "unit") e)) in
      (λ i. named_so (records i) (team i) (policy i) (rows_seen (has_text 1 domain) entry_seen (template i)) (rows_seen (has_text 1 domain) language_seen (languages i))
      (rows_seen (has_text 1 domain) unit_seen (new (codes "d_unit"))) (rows_seen (has_text 2 domain) suggestion_seen (suggestions i)) (rows_seen (is_vote_in domain (suggestions i)) vote_seen (votes i)) name)
      ∙ passed (rows_seen (has_text 1 domain) unit_seen (new (codes "d_unit"))) not ∙ sym (passed (rows_seen (has_text 1 domain) unit_seen (old (codes "d_unit"))) not)
    where
      both : (b : Bool) (x y rest : List Row) → b ≡ false → cond b x rest ≡ cond b y rest
      both b x y rest e = ap (λ c. cond c x rest) e ∙ sym (ap (λ c. cond c y rest) e)

      passed : (units : List Row) → is_eq (slice_cmp nat_cmp name (codes "unit")) ≡ false
          → named_so (old (codes "record")) (old (codes "team")) (old (codes "policy")) (rows_seen (has_text 1 domain) entry_seen (old (codes "d_template")))
          (rows_seen (has_text 1 domain) language_seen (old (codes "d_language"))) units (rows_seen (has_text 2 domain) suggestion_seen (old (codes "d_suggestion")))
          (rows_seen (is_vote_in domain (old (codes "d_suggestion"))) vote_seen (old (codes "d_vote"))) name
          ≡ named_so (old (codes "record")) (old (codes "team")) (old (codes "policy")) (rows_seen (has_text 1 domain) entry_seen (old (codes "d_template")))
          (rows_seen (has_text 1 domain) language_seen (old (codes "d_language"))) [] (rows_seen (has_text 2 domain) suggestion_seen (old (codes "d_suggestion")))
          (rows_seen (is_vote_in domain (old (codes "d_suggestion"))) vote_seen (old (codes "d_vote"))) name
      passed units e = both _ units [] _ e

module _ (IsRow : Row → Type 0) (domain : List ℕ) (old new : Database) (put : PutsRow (codes "d_unit") first_three IsRow old new) (own : text_at 1 put.row ≡ domain) where
  -- its domain sees the row put
  pub unit_put_seen : (IsSeen : Row → Type 0) → ((row : Row) → IsRow row → IsSeen (unit_seen row)) → PutsIn (codes "unit") first_texts IsSeen (seen_in domain (rows_named old)) (seen_in domain (rows_named new))
  unit_put_seen IsSeen is_seen = record {
    row = unit_seen put.row;
    is_row = is_seen put.row put.is_row;
    put = put_seen (units_alike domain) (rows_named old (codes "d_unit")) (rows_named new (codes "d_unit")) put.row put.put (is_text 1 domain put.row own);
    others = other_than_units (rows_named old) (rows_named new) put.others domain;
  }

  -- and each other domain what it saw
  pub units_stay_seen : (other : List ℕ) → other ≢ domain → AreSameByName (seen_in other (rows_named old)) (seen_in other (rows_named new))
  units_stay_seen other differ name = by_name name (codes "unit") (λ is. subst (λ n. AreSame (seen_in other (rows_named old) n) (seen_in other (rows_named new) n)) (sym is) units) (λ apart.
      same (seen_in other (rows_named old) name) (seen_in other (rows_named new) name) (other_than_units (rows_named old) (rows_named new) put.others other name apart))
    where
      units : AreSame (seen_in other (rows_named old) (codes "unit")) (seen_in other (rows_named new) (codes "unit"))
      units = put_unseen (units_alike other) (rows_named old (codes "d_unit")) (rows_named new (codes "d_unit")) put.row put.put (not_text 1 other put.row (λ e. differ (sym e ∙ own)))

      same : (were are : List Row) → are ≡ were → AreSame were are
      same were are e = record { only = λ x there. subst (λ rows. Has rows x) e there; kept = λ x there. subst (λ rows. Has rows x) (sym e) there }

-- ---- a look at a unit

pub unit_found_seen : (domain lang key : List ℕ) (db : Database) (found : Option Row)
    → ShowsKey (codes "d_unit") first_three (columns (4 ∷ 5 ∷ 6 ∷ 7 ∷ 8 ∷ 9 ∷ 10 ∷ [])) (domain ∷ lang ∷ key ∷ []) db found
    → (rows : List Row) → rows ≡ seen_in domain (rows_named db) (codes "unit")
    → IsFound first_texts (columns (3 ∷ 4 ∷ 5 ∷ 6 ∷ 7 ∷ 8 ∷ 9 ∷ [])) rows (lang ∷ key ∷ []) found
unit_found_seen domain lang key db found it rows is =
    subst (λ l. IsFound first_texts (columns (3 ∷ 4 ∷ 5 ∷ 6 ∷ 7 ∷ 8 ∷ 9 ∷ [])) l (lang ∷ key ∷ []) found) (sym is)
    (found_seen (units_alike domain) (columns (4 ∷ 5 ∷ 6 ∷ 7 ∷ 8 ∷ 9 ∷ 10 ∷ [])) (columns (3 ∷ 4 ∷ 5 ∷ 6 ∷ 7 ∷ 8 ∷ 9 ∷ [])) (rows_named db (codes "d_unit")) (domain ∷ lang ∷ key ∷ []) (lang ∷ key ∷ [])
    (λ r e. let name : text_at 1 r ≡ domain = cc in let of_lang : text_at 2 r ≡ lang = cc in let of_key : text_at 3 r ≡ key = cc in (is_text 1 domain r name, λ i. of_lang i ∷ of_key i ∷ []))
    (λ r passes e. let name = of_text 1 domain r passes in let of_lang : text_at 2 r ≡ lang = cc in let of_key : text_at 3 r ≡ key = cc in λ i. name i ∷ of_lang i ∷ of_key i ∷ [])
    (λ r. refl) found it)
