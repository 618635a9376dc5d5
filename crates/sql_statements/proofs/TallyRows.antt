-- The table of tallies: what a look at one shows and what one at a domain's, and what the upsert of one does.
use Rattle.std.proofs.Common.{◌≡◌, ℕ, ℤ, List, [], ◌∷◌, ◌++◌, codes, true, Some, refl, ap, ◌∙◌}
use Rattle.sqlite.specs.declared.types.Value.{Value}
use Rattle.sqlite.specs.declared.types.Value.TheVariants.{Null, Int, Text}
use Rattle.sqlite.specs.Order.{Row, column}
use Rattle.sqlite_value.specs.Keys.{plain, joined}
use Rattle.sqlite.specs.Cast.{cast, cast_row}
use Rattle.sqlite.specs.Kind.TheVariants as kind
use Rattle.sqlite.specs.Tree.{rowid}
use Rattle.sqlite.specs.Term.{Term, lit, col}
use Rattle.sqlite.specs.Effect.{Database, IsDatabase}
use Rattle.sqlite.specs.Rows.{shown}
use Rattle.sqlite.specs.Listing.{understood}
use Rattle.sqlite_tied.specs.Compute.{everything}
use Rattle.sqlite_schema.specs.Names.{same_name}
use Rattle.sqlite_schema.specs.Rules.{agree}
use Rattle.sqlite_rules.specs.Keys.{conflicts}
use Rattle.sqlite_rules.specs.Lists.{Has}
use Rattle.sql_laws.specs.PlainQueries.{shows}
use Rattle.sql_schema.specs.Keys.{text_at, key_texts}
use Rattle.sql_schema.specs.Inside.{HoldsValues}
use Rattle.sql_schema.specs.Layouts.{by_domain, Layout, made_last, from_first, from_second, schema_of, HasLayoutOf, placed, rows_named}
use Rattle.sql_schema.specs.Schema.{d_tally_table}
use Rattle.sql_schema.proofs.Insertions.{PutsOf, cast_int}
use Rattle.sql_schema.proofs.Layouts.{d_tally_placed}
use Rattle.sql_schema.proofs.Queries.{IsQueryOf, ReadsLastOf, ReadsAllOf, is_given}
use Rattle.sql_schema.proofs.TextLists.{texts_of_row, agreed_texts}
use Rattle.sql_schema.proofs.TextQueries.{are_given, reads_by_all}
use Rattle.sql_schema.proofs.DomainRows.{d_tally_texts, one_d_tally}
use Rattle.sql_statements.specs.DomainAnswers.{ShowsTally, ShowsTallies}
use Rattle.sql_statements.proofs.Untouched.{none_refers, drop_false}
use Rattle.sql_statements.proofs.TableQueries.{IsPartQueryOf}
use Rattle.sql_statements.proofs.Seen.{reads_of_domain}
use Rattle.sql_statements.proofs.Upserts.{IsUpsert, puts_or_renews_values}
use Rattle.sql_statements.proofs.ReadsUnread.{IsAcceptedBy, IsUnreadBy, unread_by}

-- ---- a look

abbrev find_text : List ℕ
find_text = codes "SELECT untranslated, needs_editing, translated, approved, read_only, suggestions, obsolete FROM d_tally WHERE domain = ?1 AND lang = ?2"

find_is : IsQueryOf by_domain find_text d_tally_table (are_given 0 (1 ∷ 2 ∷ [])) (3 ∷ 4 ∷ 5 ∷ 6 ∷ 7 ∷ 8 ∷ 9 ∷ [])
    (codes "untranslated" ∷ codes "needs_editing" ∷ codes "translated" ∷ codes "approved" ∷ codes "read_only" ∷ codes "suggestions" ∷ codes "obsolete" ∷ [])
unfolding understood everything
find_is made_last = record { command = refl; own_tables = refl; plain = (refl, refl) }
find_is from_first = record { command = refl; own_tables = refl; plain = (refl, refl) }
find_is from_second = record { command = refl; own_tables = refl; plain = (refl, refl) }

find_accepted : (domain lang : List ℕ) → IsAcceptedBy by_domain find_text (Text domain ∷ Text lang ∷ [])
unfolding understood everything
find_accepted domain lang made_last = refl
find_accepted domain lang from_first = refl
find_accepted domain lang from_second = refl

pub find_unread : (domain lang : List ℕ) → IsUnreadBy by_domain find_text (Text domain ∷ Text lang ∷ [])
find_unread domain lang = unread_by find_text (Text domain ∷ Text lang ∷ []) _ _ find_is (find_accepted domain lang)

pub finds_tally : (domain lang : List ℕ) → ReadsLastOf by_domain find_text (Text domain ∷ Text lang ∷ []) (ShowsTally domain lang)
finds_tally domain lang =
    reads_by_all find_text d_tally_table d_tally_placed (1 ∷ 2 ∷ []) (3 ∷ 4 ∷ 5 ∷ 6 ∷ 7 ∷ 8 ∷ 9 ∷ []) _ find_is d_tally_texts (domain ∷ lang ∷ []) (Text domain ∷ Text lang ∷ []) (refl, (refl, tt))

-- ---- those of a domain

abbrev domain_text : List ℕ
domain_text = codes "SELECT untranslated, needs_editing, translated, approved, read_only, suggestions, obsolete, lang FROM d_tally WHERE domain = ?1 ORDER BY lang"

domain_is : IsPartQueryOf by_domain domain_text d_tally_table (is_given 1 0 ∷ []) (3 ∷ 4 ∷ 5 ∷ 6 ∷ 7 ∷ 8 ∷ 9 ∷ 2 ∷ []) (2 ∷ [])
    (codes "untranslated" ∷ codes "needs_editing" ∷ codes "translated" ∷ codes "approved" ∷ codes "read_only" ∷ codes "suggestions" ∷ codes "obsolete" ∷ codes "lang" ∷ [])
unfolding understood everything
domain_is made_last = record { command = refl; own_tables = refl; plain = (refl, refl) }
domain_is from_first = record { command = refl; own_tables = refl; plain = (refl, refl) }
domain_is from_second = record { command = refl; own_tables = refl; plain = (refl, refl) }

domain_accepted : (domain : List ℕ) → IsAcceptedBy by_domain domain_text (Text domain ∷ [])
unfolding understood everything
domain_accepted domain made_last = refl
domain_accepted domain from_first = refl
domain_accepted domain from_second = refl

pub domain_unread : (domain : List ℕ) → IsUnreadBy by_domain domain_text (Text domain ∷ [])
domain_unread domain = unread_by domain_text (Text domain ∷ []) _ _ domain_is (domain_accepted domain)

pub reads_tallies : (domain : List ℕ) → ReadsAllOf by_domain domain_text (Text domain ∷ []) (ShowsTallies domain)
reads_tallies domain = reads_of_domain domain_text d_tally_table d_tally_placed 1 (3 ∷ 4 ∷ 5 ∷ 6 ∷ 7 ∷ 8 ∷ 9 ∷ 2 ∷ []) (2 ∷ []) (7 ∷ []) _ domain_is d_tally_texts.0 domain (λ tree r s. refl)

-- ---- an upsert

abbrev pub upsert_text : List ℕ
upsert_text = codes "INSERT INTO d_tally (domain, lang, untranslated, needs_editing, translated, approved, read_only, suggestions, obsolete) VALUES (?1, ?2, ?3, ?4, ?5, ?6, ?7, ?8, ?9) ON CONFLICT (domain, lang) DO UPDATE SET untranslated = excluded.untranslated, needs_editing = excluded.needs_editing, translated = excluded.translated, approved = excluded.approved, read_only = excluded.read_only, suggestions = excluded.suggestions, obsolete = excluded.obsolete"

abbrev upsert_terms : List Term
upsert_terms = lit Null ∷ col 0 0 ∷ col 0 1 ∷ col 0 2 ∷ col 0 3 ∷ col 0 4 ∷ col 0 5 ∷ col 0 6 ∷ col 0 7 ∷ col 0 8 ∷ []

abbrev becomes : List Term
becomes = col 1 0 ∷ col 1 0 ∷ col 1 1 ∷ col 1 2 ∷ col 0 13 ∷ col 0 14 ∷ col 0 15 ∷ col 0 16 ∷ col 0 17 ∷ col 0 18 ∷ col 0 19 ∷ []

upsert_is : (layout : Layout by_domain) → IsUpsert layout upsert_text 10 9 d_tally_table upsert_terms (1 ∷ 2 ∷ []) becomes
unfolding understood same_name joined everything
upsert_is made_last = record { is_placed = d_tally_placed made_last; uncounted = refl; is = refl; plain = (refl, refl); none = none_refers (schema_of made_last) (placed made_last d_tally_table).tree (λ olds news. refl) }
upsert_is from_first = record { is_placed = d_tally_placed from_first; uncounted = refl; is = refl; plain = (refl, refl); none = none_refers (schema_of from_first) (placed from_first d_tally_table).tree (λ olds news. refl) }
upsert_is from_second = record { is_placed = d_tally_placed from_second; uncounted = refl; is = refl; plain = (refl, refl); none = none_refers (schema_of from_second) (placed from_second d_tally_table).tree (λ olds news. refl) }

module _ (domain lang : List ℕ) (untranslated needs_editing translated approved read_only suggestions obsolete : ℤ) where
  abbrev pub values : Row
  values = Text domain ∷ Text lang ∷ Int untranslated ∷ Int needs_editing ∷ Int translated ∷ Int approved ∷ Int read_only ∷ Int suggestions ∷ Int obsolete ∷ []

  pub cast_tally : (v : Value) → cast kind.Integer v ≡ v → cast_row d_tally_table (v ∷ values) ≡ v ∷ values
  cast_tally v h = rw (h, cast_int untranslated, cast_int needs_editing, cast_int translated, cast_int approved, cast_int read_only, cast_int suggestions, cast_int obsolete) refl

  conflict_is : (layout : Layout by_domain) (r : Row) (id : ℤ) → conflicts (Some (1 ∷ 2 ∷ [])) (schema_of layout).indexes (placed layout d_tally_table) (Int id ∷ values) r ≡ true
      → agree plain (1 ∷ 2 ∷ []) r (1 ∷ 2 ∷ []) (Int id ∷ values) ≡ true
  conflict_is made_last r id h = drop_false (agree plain (1 ∷ 2 ∷ []) r (1 ∷ 2 ∷ []) (Int id ∷ values)) h
  conflict_is from_first r id h = drop_false (agree plain (1 ∷ 2 ∷ []) r (1 ∷ 2 ∷ []) (Int id ∷ values)) h
  conflict_is from_second r id h = drop_false (agree plain (1 ∷ 2 ∷ []) r (1 ∷ 2 ∷ []) (Int id ∷ values)) h

  same_language : (db : Database) (has : HasLayoutOf by_domain db) → IsDatabase db → (r : Row) → Has (rows_named db (codes "d_tally")) r → (id : ℤ)
      → conflicts (Some (1 ∷ 2 ∷ [])) (schema_of has.0).indexes (placed has.0 d_tally_table) (Int id ∷ values) r ≡ true → (column r 1 ≡ Text domain) × (column r 2 ≡ Text lang)
  same_language db has sound r there id h =
      let hold = texts_of_row by_domain (codes "d_tally") (1 ∷ 2 ∷ []) d_tally_texts db has sound r there in
      let same = agreed_texts (1 ∷ 2 ∷ []) r (Int id ∷ values) hold (refl, (refl, tt)) (conflict_is has.0 r id h) in
      let first : text_at 1 r ≡ domain = cc in
      let second : text_at 2 r ≡ lang = cc in
      (hold.0 ∙ ap Text first, hold.1.0 ∙ ap Text second)

  keyed : (r : Row) → column r 1 ≡ Text domain → column r 2 ≡ Text lang → key_texts (1 ∷ 2 ∷ []) r ≡ key_texts (1 ∷ 2 ∷ []) (rowid r ∷ values)
  keyed r first second = rw (first, second) refl

  shows_it : (r : Row) (id : ℤ) → column r 1 ≡ Text domain → column r 2 ≡ Text lang → shows (values ++ rowid r ∷ shown d_tally_table (Int id ∷ values)) becomes r ≡ rowid r ∷ rowid r ∷ values
  shows_it r id first second = rw (first, second) refl

  pub puts_tally : PutsOf by_domain upsert_text values (codes "d_tally") (key_texts (1 ∷ 2 ∷ [])) (HoldsValues values)
  puts_tally = puts_or_renews_values upsert_is values (key_texts (1 ∷ 2 ∷ [])) refl (λ v rest. refl) cast_tally
      (λ db has sound r there id h. let same = same_language db has sound r there id h in (keyed r same.0 same.1, shows_it r id same.0 same.1)) one_d_tally
