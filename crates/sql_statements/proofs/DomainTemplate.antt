-- The table of the templates of all domains: what an insertion of an entry does, what taking a domain's entries out does, and a look at an entry.
use Rattle.std.proofs.Common.{ℕ, ℤ, List, [], ◌∷◌, ◌&&◌, codes, Option, refl, ap}
use Rattle.std.proofs.Math.Bool.{and-true}
use Rattle.sqlite.specs.declared.types.Value.TheVariants.{Null, Int, Text}
use Rattle.sqlite.specs.Order.{Row}
use Rattle.sqlite.specs.Term.{Term, lit, col}
use Rattle.sqlite.specs.Listing.{understood}
use Rattle.sqlite_schema.specs.Names.{same_name}
use Rattle.sqlite_value.specs.Keys.{joined}
use Rattle.sqlite_tied.specs.Compute.{everything}
use Rattle.sql_schema.specs.Keys.{has_text, domain_place}
use Rattle.sql_schema.specs.Rows.{text_or_null}
use Rattle.sql_schema.specs.Inside.{HoldsValues}
use Rattle.sql_schema.specs.Schema.{d_template_table}
use Rattle.sql_schema.specs.Layouts.{by_domain, Layout, made_last, from_first, from_second}
use Rattle.sql_schema.proofs.Layouts.{d_template_placed}
use Rattle.sql_schema.proofs.Insertions.{IsInsertion, PutsOf, puts_values, cast_null, cast_int, cast_text_or_null}
use Rattle.sql_schema.proofs.Queries.{IsQueryOf, ReadsLastOf, is_given, given_is}
use Rattle.sql_schema.proofs.TextQueries.{are_given, reads_by_all}
use Rattle.sql_schema.proofs.DomainRows.{d_entry_texts, one_d_entry_place}
use Rattle.sql_statements.specs.DomainAnswers.{ShowsDomainEntry}
use Rattle.sql_statements.specs.DomainEntries.{is_entry_of}
use Rattle.sql_statements.proofs.Removals.{IsRemoval, TakesOf, takes_rows}
use Rattle.sql_statements.proofs.ReadsUnread.{IsAcceptedBy, IsUnreadBy, unread_by}

-- ---- an entry goes in

abbrev pub insert_text : List ℕ
insert_text = codes "INSERT INTO d_template (domain, place, key, plural, extracted, refs, flags) VALUES (?1, ?2, ?3, ?4, ?5, ?6, ?7)"

abbrev insert_terms : List Term
insert_terms = lit Null ∷ col 0 0 ∷ col 0 1 ∷ col 0 2 ∷ col 0 3 ∷ col 0 4 ∷ col 0 5 ∷ col 0 6 ∷ []

insert_is : (layout : Layout by_domain) → IsInsertion layout insert_text 8 d_template_table insert_terms
unfolding understood everything
insert_is made_last = record { is_placed = d_template_placed made_last; uncounted = refl; is = refl; plain = (refl, refl); none = λ news. refl }
insert_is from_first = record { is_placed = d_template_placed from_first; uncounted = refl; is = refl; plain = (refl, refl); none = λ news. refl }
insert_is from_second = record { is_placed = d_template_placed from_second; uncounted = refl; is = refl; plain = (refl, refl); none = λ news. refl }

module _ (domain : List ℕ) (place : ℤ) (key : List ℕ) (plural : Option (List ℕ)) (extracted refs flags : List ℕ) where
  abbrev pub values : Row
  values = Text domain ∷ Int place ∷ Text key ∷ text_or_null plural ∷ Text extracted ∷ Text refs ∷ Text flags ∷ []

  pub puts_entry : PutsOf by_domain insert_text values (codes "d_template") domain_place (HoldsValues values)
  puts_entry = puts_values insert_is values domain_place refl (rw (cast_null, cast_int place, cast_text_or_null plural) refl) one_d_entry_place

-- ---- a domain's entries go

abbrev pub delete_text : List ℕ
delete_text = codes "DELETE FROM d_template WHERE domain = ?1"

delete_is : (layout : Layout by_domain) → IsRemoval layout delete_text d_template_table (is_given 1 0 ∷ [])
unfolding understood same_name joined everything
delete_is made_last = record { is_placed = d_template_placed made_last; is = refl; plain = (refl, refl); none = λ olds. refl }
delete_is from_first = record { is_placed = d_template_placed from_first; is = refl; plain = (refl, refl); none = λ olds. refl }
delete_is from_second = record { is_placed = d_template_placed from_second; is = refl; plain = (refl, refl); none = λ olds. refl }

pub takes_entries : (domain : List ℕ) → TakesOf by_domain delete_text (Text domain ∷ []) (codes "d_template") (has_text 1 domain)
takes_entries domain = takes_rows delete_is (Text domain ∷ []) (has_text 1 domain)
    (λ db has sound row there. rw (given_is (Text domain ∷ []) row 1 0 domain (d_entry_texts.0 db has sound row there) refl) (and-true _))

-- ---- an entry goes

abbrev take_text : List ℕ
take_text = codes "DELETE FROM d_template WHERE domain = ?1 AND key = ?2"

take_is : (layout : Layout by_domain) → IsRemoval layout take_text d_template_table (is_given 1 0 ∷ is_given 3 1 ∷ [])
unfolding understood same_name joined everything
take_is made_last = record { is_placed = d_template_placed made_last; is = refl; plain = (refl, refl); none = λ olds. refl }
take_is from_first = record { is_placed = d_template_placed from_first; is = refl; plain = (refl, refl); none = λ olds. refl }
take_is from_second = record { is_placed = d_template_placed from_second; is = refl; plain = (refl, refl); none = λ olds. refl }

pub takes_entry : (domain key : List ℕ) → TakesOf by_domain take_text (Text domain ∷ Text key ∷ []) (codes "d_template") (is_entry_of domain key)
takes_entry domain key = takes_rows take_is (Text domain ∷ Text key ∷ []) (is_entry_of domain key)
    (λ db has sound row there. rw (given_is (Text domain ∷ Text key ∷ []) row 1 0 domain (d_entry_texts.0 db has sound row there) refl, given_is (Text domain ∷ Text key ∷ []) row 3 1 key (d_entry_texts.1.0 db has sound row there) refl)
    (ap (λ b. has_text 1 domain row && b) (and-true _)))

-- ---- a look at an entry

abbrev find_text : List ℕ
find_text = codes "SELECT plural, extracted, refs, flags FROM d_template WHERE domain = ?1 AND key = ?2"

find_is : IsQueryOf by_domain find_text d_template_table (are_given 0 (1 ∷ 3 ∷ [])) (4 ∷ 5 ∷ 6 ∷ 7 ∷ []) (codes "plural" ∷ codes "extracted" ∷ codes "refs" ∷ codes "flags" ∷ [])
unfolding understood everything
find_is made_last = record { command = refl; own_tables = refl; plain = (refl, refl) }
find_is from_first = record { command = refl; own_tables = refl; plain = (refl, refl) }
find_is from_second = record { command = refl; own_tables = refl; plain = (refl, refl) }

find_accepted : (domain key : List ℕ) → IsAcceptedBy by_domain find_text (Text domain ∷ Text key ∷ [])
unfolding understood everything
find_accepted domain key made_last = refl
find_accepted domain key from_first = refl
find_accepted domain key from_second = refl

pub find_unread : (domain key : List ℕ) → IsUnreadBy by_domain find_text (Text domain ∷ Text key ∷ [])
find_unread domain key = unread_by find_text (Text domain ∷ Text key ∷ []) _ _ find_is (find_accepted domain key)

pub finds_entry : (domain key : List ℕ) → ReadsLastOf by_domain find_text (Text domain ∷ Text key ∷ []) (ShowsDomainEntry domain key)
finds_entry domain key =
    reads_by_all find_text d_template_table d_template_placed (1 ∷ 3 ∷ []) (4 ∷ 5 ∷ 6 ∷ 7 ∷ []) _ find_is d_entry_texts (domain ∷ key ∷ []) (Text domain ∷ Text key ∷ []) (refl, (refl, tt))
