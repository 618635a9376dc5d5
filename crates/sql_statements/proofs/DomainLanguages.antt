-- The table of the languages of all domains: what an insertion does, and a look at a language.
use Rattle.std.proofs.Common.{ℕ, List, [], ◌∷◌, codes, refl}
use Rattle.sqlite.specs.declared.types.Value.TheVariants.{Null, Text}
use Rattle.sqlite.specs.Order.{Row}
use Rattle.sqlite.specs.Term.{Term, lit, col}
use Rattle.sqlite.specs.Listing.{understood}
use Rattle.sqlite_tied.specs.Compute.{everything}
use Rattle.sql_schema.specs.Keys.{key_texts}
use Rattle.sql_schema.specs.Inside.{HoldsValues}
use Rattle.sql_schema.specs.Schema.{d_language_table}
use Rattle.sql_schema.specs.Layouts.{by_domain, Layout, made_last, from_first, from_second}
use Rattle.sql_schema.proofs.Layouts.{d_language_placed}
use Rattle.sql_schema.proofs.Insertions.{IsInsertion, PutsOf, puts_values, cast_null}
use Rattle.sql_schema.proofs.Queries.{IsQueryOf, ReadsLastOf}
use Rattle.sql_schema.proofs.TextQueries.{are_given, reads_by_all}
use Rattle.sql_schema.proofs.DomainRows.{d_language_texts, one_d_language}
use Rattle.sql_statements.specs.DomainAnswers.{ShowsDomainLanguage}
use Rattle.sql_statements.proofs.ReadsUnread.{IsAcceptedBy, IsUnreadBy, unread_by}

abbrev pub insert_text : List ℕ
insert_text = codes "INSERT INTO d_language (domain, lang, header, plural) VALUES (?1, ?2, ?3, ?4)"

abbrev insert_terms : List Term
insert_terms = lit Null ∷ col 0 0 ∷ col 0 1 ∷ col 0 2 ∷ col 0 3 ∷ []

insert_is : (layout : Layout by_domain) → IsInsertion layout insert_text 5 d_language_table insert_terms
unfolding understood everything
insert_is made_last = record { is_placed = d_language_placed made_last; uncounted = refl; is = refl; plain = (refl, refl); none = λ news. refl }
insert_is from_first = record { is_placed = d_language_placed from_first; uncounted = refl; is = refl; plain = (refl, refl); none = λ news. refl }
insert_is from_second = record { is_placed = d_language_placed from_second; uncounted = refl; is = refl; plain = (refl, refl); none = λ news. refl }

module _ (domain lang header plural : List ℕ) where
  abbrev pub values : Row
  values = Text domain ∷ Text lang ∷ Text header ∷ Text plural ∷ []

  pub puts_language : PutsOf by_domain insert_text values (codes "d_language") (key_texts (1 ∷ 2 ∷ [])) (HoldsValues values)
  puts_language = puts_values insert_is values (key_texts (1 ∷ 2 ∷ [])) refl (rw cast_null refl) one_d_language

abbrev find_text : List ℕ
find_text = codes "SELECT header, plural FROM d_language WHERE domain = ?1 AND lang = ?2"

find_is : IsQueryOf by_domain find_text d_language_table (are_given 0 (1 ∷ 2 ∷ [])) (3 ∷ 4 ∷ []) (codes "header" ∷ codes "plural" ∷ [])
unfolding understood everything
find_is made_last = record { command = refl; own_tables = refl; plain = (refl, refl) }
find_is from_first = record { command = refl; own_tables = refl; plain = (refl, refl) }
find_is from_second = record { command = refl; own_tables = refl; plain = (refl, refl) }

find_accepted : (domain lang : List ℕ) → IsAcceptedBy by_domain find_text (Text domain ∷ Text lang ∷ [])
unfolding understood everything
find_accepted domain lang made_last = refl
find_accepted domain lang from_first = refl
find_accepted domain lang from_second = refl

pub find_unread : (domain lang : List ℕ) → IsUnreadBy by_domain find_text (Text domain ∷ Text lang ∷ [])
find_unread domain lang = unread_by find_text (Text domain ∷ Text lang ∷ []) _ _ find_is (find_accepted domain lang)

pub finds_language : (domain lang : List ℕ) → ReadsLastOf by_domain find_text (Text domain ∷ Text lang ∷ []) (ShowsDomainLanguage domain lang)
finds_language domain lang =
    reads_by_all find_text d_language_table d_language_placed (1 ∷ 2 ∷ []) (3 ∷ 4 ∷ []) _ find_is d_language_texts (domain ∷ lang ∷ []) (Text domain ∷ Text lang ∷ []) (refl, (refl, tt))
