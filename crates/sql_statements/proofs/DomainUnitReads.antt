-- What is read of a domain's units: a unit by its domain, language and key, and a language's units.
use Rattle.std.proofs.Common.{ℕ, List, [], ◌∷◌, ◌&&◌, codes, refl, ap}
use Rattle.std.proofs.Math.Bool.{and-true}
use Rattle.sqlite.specs.declared.types.Value.TheVariants.{Text}
use Rattle.sqlite.specs.Order.{Row}
use Rattle.sqlite.specs.Listing.{understood}
use Rattle.sqlite_tied.specs.Compute.{everything}
use Rattle.sql_schema.specs.Layouts.{by_domain, made_last, from_first, from_second}
use Rattle.sql_schema.specs.Keys.{has_text}
use Rattle.sql_schema.specs.Schema.{d_unit_table}
use Rattle.sql_schema.proofs.Layouts.{d_unit_placed}
use Rattle.sql_schema.proofs.DomainRows.{d_unit_texts}
use Rattle.sql_schema.proofs.Queries.{IsQueryOf, ReadsLastOf, ReadsAllOf, AreTestsOf, given_is}
use Rattle.sql_schema.proofs.TextQueries.{are_given, reads_by_all}
use Rattle.sql_statements.specs.DomainAnswers.{ShowsDomainUnit, ShowsLanguageUnits}
use Rattle.sql_statements.proofs.TableQueries.{IsPartQueryOf, reads_part}
use Rattle.sql_statements.proofs.ReadsUnread.{IsAcceptedBy, IsUnreadBy, unread_by}

abbrev unit_text : List ℕ
unit_text = codes "SELECT plural, forms, state, obsolete, revision, comment, previous FROM d_unit WHERE domain = ?1 AND lang = ?2 AND key = ?3"

unit_is : IsQueryOf by_domain unit_text d_unit_table (are_given 0 (1 ∷ 2 ∷ 3 ∷ [])) (4 ∷ 5 ∷ 6 ∷ 7 ∷ 8 ∷ 9 ∷ 10 ∷ [])
    (codes "plural" ∷ codes "forms" ∷ codes "state" ∷ codes "obsolete" ∷ codes "revision" ∷ codes "comment" ∷ codes "previous" ∷ [])
unfolding understood everything
unit_is made_last = record { command = refl; own_tables = refl; plain = (refl, refl) }
unit_is from_first = record { command = refl; own_tables = refl; plain = (refl, refl) }
unit_is from_second = record { command = refl; own_tables = refl; plain = (refl, refl) }

unit_accepted : (domain lang key : List ℕ) → IsAcceptedBy by_domain unit_text (Text domain ∷ Text lang ∷ Text key ∷ [])
unfolding understood everything
unit_accepted domain lang key made_last = refl
unit_accepted domain lang key from_first = refl
unit_accepted domain lang key from_second = refl

pub unit_unread : (domain lang key : List ℕ) → IsUnreadBy by_domain unit_text (Text domain ∷ Text lang ∷ Text key ∷ [])
unit_unread domain lang key = unread_by unit_text (Text domain ∷ Text lang ∷ Text key ∷ []) _ _ unit_is (unit_accepted domain lang key)

pub finds_unit : (domain lang key : List ℕ) → ReadsLastOf by_domain unit_text (Text domain ∷ Text lang ∷ Text key ∷ []) (ShowsDomainUnit domain lang key)
finds_unit domain lang key =
    reads_by_all unit_text d_unit_table d_unit_placed (1 ∷ 2 ∷ 3 ∷ []) (4 ∷ 5 ∷ 6 ∷ 7 ∷ 8 ∷ 9 ∷ 10 ∷ []) _ unit_is d_unit_texts (domain ∷ lang ∷ key ∷ [])
    (Text domain ∷ Text lang ∷ Text key ∷ []) (refl, (refl, (refl, tt)))

-- ---- a language's units

abbrev language_text : List ℕ
language_text = codes "SELECT plural, forms, state, obsolete, revision, comment, previous, key FROM d_unit WHERE domain = ?1 AND lang = ?2 ORDER BY key"

language_is : IsPartQueryOf by_domain language_text d_unit_table (are_given 0 (1 ∷ 2 ∷ [])) (4 ∷ 5 ∷ 6 ∷ 7 ∷ 8 ∷ 9 ∷ 10 ∷ 3 ∷ []) (3 ∷ [])
    (codes "plural" ∷ codes "forms" ∷ codes "state" ∷ codes "obsolete" ∷ codes "revision" ∷ codes "comment" ∷ codes "previous" ∷ codes "key" ∷ [])
unfolding understood everything
language_is made_last = record { command = refl; own_tables = refl; plain = (refl, refl) }
language_is from_first = record { command = refl; own_tables = refl; plain = (refl, refl) }
language_is from_second = record { command = refl; own_tables = refl; plain = (refl, refl) }

language_accepted : (domain lang : List ℕ) → IsAcceptedBy by_domain language_text (Text domain ∷ Text lang ∷ [])
unfolding understood everything
language_accepted domain lang made_last = refl
language_accepted domain lang from_first = refl
language_accepted domain lang from_second = refl

pub language_unread : (domain lang : List ℕ) → IsUnreadBy by_domain language_text (Text domain ∷ Text lang ∷ [])
language_unread domain lang = unread_by language_text (Text domain ∷ Text lang ∷ []) _ _ language_is (language_accepted domain lang)

module _ (domain lang : List ℕ) where
  abbrev pub given : Row
  given = Text domain ∷ Text lang ∷ []

  pub of_language : AreTestsOf by_domain (codes "d_unit") given (are_given 0 (1 ∷ 2 ∷ [])) (λ row. has_text 1 domain row && has_text 2 lang row)
  of_language db has sound tables row there =
      rw (given_is given row 1 0 domain (d_unit_texts.0 db has sound row there) refl, given_is given row 2 1 lang (d_unit_texts.1.0 db has sound row there) refl) (ap (λ b. has_text 1 domain row && b) (and-true _))

  pub reads_language : ReadsAllOf by_domain language_text given (ShowsLanguageUnits domain lang)
  reads_language = reads_part language_text d_unit_table d_unit_placed (are_given 0 (1 ∷ 2 ∷ [])) (4 ∷ 5 ∷ 6 ∷ 7 ∷ 8 ∷ 9 ∷ 10 ∷ 3 ∷ []) (3 ∷ []) (7 ∷ []) _ language_is given
      (λ row. has_text 1 domain row && has_text 2 lang row) of_language (λ tree r s. refl)
