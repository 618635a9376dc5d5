-- The texts that read what a domain sees of each table, in the order of its key.
use Rattle.std.proofs.Common.{ℕ, List, [], ◌∷◌, codes, refl}
use Rattle.sqlite.specs.declared.types.Value.TheVariants.{Text}
use Rattle.sqlite.specs.Listing.{understood}
use Rattle.sqlite_tied.specs.Compute.{everything}
use Rattle.sql_schema.specs.Layouts.{by_domain, made_last, from_first, from_second, rows_named}
use Rattle.sql_schema.specs.Schema.{d_template_table, d_language_table, d_unit_table, d_suggestion_table}
use Rattle.sql_schema.specs.SeenRows.{entry_seen, language_seen, unit_seen, suggestion_seen, seen_in}
use Rattle.sql_schema.proofs.Layouts.{d_template_placed, d_language_placed, d_unit_placed, d_suggestion_placed}
use Rattle.sql_schema.proofs.Queries.{ReadsAllOf, is_given}
use Rattle.sql_schema.proofs.DomainRows.{d_entry_texts, d_language_texts, d_unit_texts, d_suggestion_units}
use Rattle.sql_statements.specs.Tables.{ShowsTemplateIn, ShowsLanguagesIn, ShowsUnitsIn, ShowsSuggestionsIn}
use Rattle.sql_statements.proofs.TableQueries.{IsPartQueryOf}
use Rattle.sql_statements.proofs.Seen.{reads_seen}
use Rattle.sql_statements.proofs.ReadsUnread.{IsAcceptedBy, IsUnreadBy, unread_by}

abbrev entries_text : List ℕ
entries_text = codes "SELECT plural, extracted, refs, flags, key, place FROM d_template WHERE domain = ?1 ORDER BY place"

entries_are : IsPartQueryOf by_domain entries_text d_template_table (is_given 1 0 ∷ []) (4 ∷ 5 ∷ 6 ∷ 7 ∷ 3 ∷ 2 ∷ []) (2 ∷ [])
    (codes "plural" ∷ codes "extracted" ∷ codes "refs" ∷ codes "flags" ∷ codes "key" ∷ codes "place" ∷ [])
unfolding understood everything
entries_are made_last = record { command = refl; own_tables = refl; plain = (refl, refl) }
entries_are from_first = record { command = refl; own_tables = refl; plain = (refl, refl) }
entries_are from_second = record { command = refl; own_tables = refl; plain = (refl, refl) }

entries_accepted : (domain : List ℕ) → IsAcceptedBy by_domain entries_text (Text domain ∷ [])
unfolding understood everything
entries_accepted domain made_last = refl
entries_accepted domain from_first = refl
entries_accepted domain from_second = refl

pub entries_unread : (domain : List ℕ) → IsUnreadBy by_domain entries_text (Text domain ∷ [])
entries_unread domain = unread_by entries_text (Text domain ∷ []) _ _ entries_are (entries_accepted domain)

pub reads_entries : (domain : List ℕ) → ReadsAllOf by_domain entries_text (Text domain ∷ []) (λ db rows. ShowsTemplateIn (seen_in domain (rows_named db)) rows)
reads_entries domain = reads_seen entries_text d_template_table d_template_placed 1 (4 ∷ 5 ∷ 6 ∷ 7 ∷ 3 ∷ 2 ∷ []) (2 ∷ []) (5 ∷ []) _ entries_are d_entry_texts.0 domain (λ tree r s. refl)
    (codes "template") entry_seen (3 ∷ 4 ∷ 5 ∷ 6 ∷ 2 ∷ 0 ∷ []) (λ tables. refl) (λ row. refl)

abbrev languages_text : List ℕ
languages_text = codes "SELECT header, plural, lang FROM d_language WHERE domain = ?1 ORDER BY lang"

languages_are : IsPartQueryOf by_domain languages_text d_language_table (is_given 1 0 ∷ []) (3 ∷ 4 ∷ 2 ∷ []) (2 ∷ [])
    (codes "header" ∷ codes "plural" ∷ codes "lang" ∷ [])
unfolding understood everything
languages_are made_last = record { command = refl; own_tables = refl; plain = (refl, refl) }
languages_are from_first = record { command = refl; own_tables = refl; plain = (refl, refl) }
languages_are from_second = record { command = refl; own_tables = refl; plain = (refl, refl) }

languages_accepted : (domain : List ℕ) → IsAcceptedBy by_domain languages_text (Text domain ∷ [])
unfolding understood everything
languages_accepted domain made_last = refl
languages_accepted domain from_first = refl
languages_accepted domain from_second = refl

pub languages_unread : (domain : List ℕ) → IsUnreadBy by_domain languages_text (Text domain ∷ [])
languages_unread domain = unread_by languages_text (Text domain ∷ []) _ _ languages_are (languages_accepted domain)

pub reads_languages : (domain : List ℕ) → ReadsAllOf by_domain languages_text (Text domain ∷ []) (λ db rows. ShowsLanguagesIn (seen_in domain (rows_named db)) rows)
reads_languages domain = reads_seen languages_text d_language_table d_language_placed 1 (3 ∷ 4 ∷ 2 ∷ []) (2 ∷ []) (2 ∷ []) _ languages_are d_language_texts.0 domain (λ tree r s. refl)
    (codes "language") language_seen (2 ∷ 3 ∷ 1 ∷ []) (λ tables. refl) (λ row. refl)

abbrev units_text : List ℕ
units_text = codes "SELECT plural, forms, state, obsolete, revision, comment, previous, lang, key FROM d_unit WHERE domain = ?1 ORDER BY lang, key"

units_are : IsPartQueryOf by_domain units_text d_unit_table (is_given 1 0 ∷ []) (4 ∷ 5 ∷ 6 ∷ 7 ∷ 8 ∷ 9 ∷ 10 ∷ 2 ∷ 3 ∷ []) (2 ∷ 3 ∷ [])
    (codes "plural" ∷ codes "forms" ∷ codes "state" ∷ codes "obsolete" ∷ codes "revision" ∷ codes "comment" ∷ codes "previous" ∷ codes "lang" ∷ codes "key" ∷ [])
unfolding understood everything
units_are made_last = record { command = refl; own_tables = refl; plain = (refl, refl) }
units_are from_first = record { command = refl; own_tables = refl; plain = (refl, refl) }
units_are from_second = record { command = refl; own_tables = refl; plain = (refl, refl) }

units_accepted : (domain : List ℕ) → IsAcceptedBy by_domain units_text (Text domain ∷ [])
unfolding understood everything
units_accepted domain made_last = refl
units_accepted domain from_first = refl
units_accepted domain from_second = refl

pub units_unread : (domain : List ℕ) → IsUnreadBy by_domain units_text (Text domain ∷ [])
units_unread domain = unread_by units_text (Text domain ∷ []) _ _ units_are (units_accepted domain)

pub reads_units : (domain : List ℕ) → ReadsAllOf by_domain units_text (Text domain ∷ []) (λ db rows. ShowsUnitsIn (seen_in domain (rows_named db)) rows)
reads_units domain = reads_seen units_text d_unit_table d_unit_placed 1 (4 ∷ 5 ∷ 6 ∷ 7 ∷ 8 ∷ 9 ∷ 10 ∷ 2 ∷ 3 ∷ []) (2 ∷ 3 ∷ []) (7 ∷ 8 ∷ []) _ units_are d_unit_texts.0 domain (λ tree r s. refl)
    (codes "unit") unit_seen (3 ∷ 4 ∷ 5 ∷ 6 ∷ 7 ∷ 8 ∷ 9 ∷ 1 ∷ 2 ∷ []) (λ tables. refl) (λ row. refl)

abbrev suggestions_text : List ℕ
suggestions_text = codes "SELECT number, place, suggester, forms, lang, key FROM d_suggestion WHERE domain = ?1 ORDER BY lang, key, place"

suggestions_are : IsPartQueryOf by_domain suggestions_text d_suggestion_table (is_given 2 0 ∷ []) (1 ∷ 5 ∷ 6 ∷ 7 ∷ 3 ∷ 4 ∷ []) (3 ∷ 4 ∷ 5 ∷ [])
    (codes "number" ∷ codes "place" ∷ codes "suggester" ∷ codes "forms" ∷ codes "lang" ∷ codes "key" ∷ [])
unfolding understood everything
suggestions_are made_last = record { command = refl; own_tables = refl; plain = (refl, refl) }
suggestions_are from_first = record { command = refl; own_tables = refl; plain = (refl, refl) }
suggestions_are from_second = record { command = refl; own_tables = refl; plain = (refl, refl) }

suggestions_accepted : (domain : List ℕ) → IsAcceptedBy by_domain suggestions_text (Text domain ∷ [])
unfolding understood everything
suggestions_accepted domain made_last = refl
suggestions_accepted domain from_first = refl
suggestions_accepted domain from_second = refl

pub suggestions_unread : (domain : List ℕ) → IsUnreadBy by_domain suggestions_text (Text domain ∷ [])
suggestions_unread domain = unread_by suggestions_text (Text domain ∷ []) _ _ suggestions_are (suggestions_accepted domain)

pub reads_suggestions : (domain : List ℕ) → ReadsAllOf by_domain suggestions_text (Text domain ∷ []) (λ db rows. ShowsSuggestionsIn (seen_in domain (rows_named db)) rows)
reads_suggestions domain = reads_seen suggestions_text d_suggestion_table d_suggestion_placed 2 (1 ∷ 5 ∷ 6 ∷ 7 ∷ 3 ∷ 4 ∷ []) (3 ∷ 4 ∷ 5 ∷ []) (4 ∷ 5 ∷ 1 ∷ []) _ suggestions_are d_suggestion_units.0 domain (λ tree r s. refl)
    (codes "suggestion") suggestion_seen (1 ∷ 4 ∷ 5 ∷ 6 ∷ 2 ∷ 3 ∷ []) (λ tables. refl) (λ row. refl)
