-- The table of domains: what an insertion does, a look at a domain, and all names.
use Rattle.std.proofs.Common.{ℕ, List, [], ◌∷◌, codes, refl}
use Rattle.sqlite.specs.declared.types.Value.TheVariants.{Null, Text}
use Rattle.sqlite.specs.Term.{lit, col}
use Rattle.sqlite.specs.Listing.{understood}
use Rattle.sqlite_tied.specs.Compute.{everything}
use Rattle.sql_schema.specs.Keys.{first_text}
use Rattle.sql_schema.specs.Inside.{HoldsValues}
use Rattle.sql_schema.specs.Schema.{domain_table}
use Rattle.sql_schema.specs.Layouts.{by_domain, Layout, made_last, from_first, from_second}
use Rattle.sql_schema.proofs.Layouts.{domain_placed}
use Rattle.sql_schema.proofs.Insertions.{IsInsertion, PutsOf, puts_values, cast_null}
use Rattle.sql_schema.proofs.Queries.{IsQueryOf, ReadsLastOf, ReadsAllOf, is_given, reads_by_text}
use Rattle.sql_schema.proofs.DomainRows.{domain_names, one_domain_name}
use Rattle.sql_statements.specs.DomainAnswers.{ShowsDomain, ShowsDomains}
use Rattle.sql_statements.proofs.TableQueries.{IsTableQueryOf, reads_table}
use Rattle.sql_statements.proofs.ReadsUnread.{IsAcceptedBy, IsUnreadBy, unread_by}

abbrev pub insert_text : List ℕ
insert_text = codes "INSERT INTO domain (name) VALUES (?1)"

insert_is : (layout : Layout by_domain) → IsInsertion layout insert_text 2 domain_table (lit Null ∷ col 0 0 ∷ [])
unfolding understood everything
insert_is made_last = record { is_placed = domain_placed made_last; uncounted = refl; is = refl; plain = (refl, refl); none = λ news. refl }
insert_is from_first = record { is_placed = domain_placed from_first; uncounted = refl; is = refl; plain = (refl, refl); none = λ news. refl }
insert_is from_second = record { is_placed = domain_placed from_second; uncounted = refl; is = refl; plain = (refl, refl); none = λ news. refl }

pub puts_domain : (name : List ℕ) → PutsOf by_domain insert_text (Text name ∷ []) (codes "domain") first_text (HoldsValues (Text name ∷ []))
puts_domain name = puts_values insert_is (Text name ∷ []) first_text refl (rw cast_null refl) one_domain_name

abbrev find_text : List ℕ
find_text = codes "SELECT name FROM domain WHERE name = ?1"

find_is : IsQueryOf by_domain find_text domain_table (is_given 1 0 ∷ []) (1 ∷ []) (codes "name" ∷ [])
unfolding understood everything
find_is made_last = record { command = refl; own_tables = refl; plain = (refl, refl) }
find_is from_first = record { command = refl; own_tables = refl; plain = (refl, refl) }
find_is from_second = record { command = refl; own_tables = refl; plain = (refl, refl) }

find_accepted : (name : List ℕ) → IsAcceptedBy by_domain find_text (Text name ∷ [])
unfolding understood everything
find_accepted name made_last = refl
find_accepted name from_first = refl
find_accepted name from_second = refl

pub find_unread : (name : List ℕ) → IsUnreadBy by_domain find_text (Text name ∷ [])
find_unread name = unread_by find_text (Text name ∷ []) _ _ find_is (find_accepted name)

pub finds_domain : (name : List ℕ) → ReadsLastOf by_domain find_text (Text name ∷ []) (ShowsDomain name)
finds_domain name = reads_by_text find_text domain_table domain_placed 1 (1 ∷ []) _ find_is domain_names.0 name

abbrev names_text : List ℕ
names_text = codes "SELECT name FROM domain ORDER BY name"

names_are : IsTableQueryOf by_domain names_text domain_table (1 ∷ []) (1 ∷ []) (codes "name" ∷ [])
unfolding understood everything
names_are made_last = record { command = refl; own_tables = refl; plain = (refl, refl) }
names_are from_first = record { command = refl; own_tables = refl; plain = (refl, refl) }
names_are from_second = record { command = refl; own_tables = refl; plain = (refl, refl) }

names_accepted : IsAcceptedBy by_domain names_text []
unfolding understood everything
names_accepted made_last = refl
names_accepted from_first = refl
names_accepted from_second = refl

pub names_unread : IsUnreadBy by_domain names_text []
names_unread = unread_by names_text [] _ _ names_are names_accepted

pub reads_domains : ReadsAllOf by_domain names_text [] ShowsDomains
reads_domains = reads_table names_text domain_table domain_placed (1 ∷ []) (1 ∷ []) (0 ∷ []) _ names_are (λ tree r s. refl)
