-- The table of the suggestions of all domains: what an insertion does, and what is read of a unit's and of the one of a number.
use Rattle.std.proofs.Common.{◌≡◌, ℕ, ℤ, List, [], ◌∷◌, ◌&&◌, codes, Bool, true, refl, ap}
use Rattle.std.proofs.Math.Bool.{and-true}
use Rattle.std.proofs.lemmas.Bool.{and_parts, and_from}
use Rattle.sqlite.specs.Collation.TheVariants.{Binary}
use Rattle.sqlite.specs.declared.types.Value.TheVariants.{Null, Int, Text}
use Rattle.sqlite.specs.Order.{Row, column}
use Rattle.sqlite.specs.Ops.{binary}
use Rattle.sqlite.specs.Term.{Term, lit, col, op2}
use Rattle.sqlite.specs.Listing.{understood}
use Rattle.sqlite_sql.specs.Term.{holds}
use Rattle.sqlite_sql.specs.declared.ops.CompareOp.TheVariants as compare
use Rattle.sqlite_sql.specs.declared.ops.BinaryOp.TheVariants as by
use Rattle.sqlite_tied.specs.Compute.{everything}
use Rattle.sql_laws.proofs.Comparisons.{texts_compared}
use Rattle.sql_laws.proofs.RowMaps.{texts_are_one}
use Rattle.sql_schema.specs.Keys.{text_at, key_texts, first_text, has_text, columns}
use Rattle.sql_schema.specs.Inside.{HoldsValues}
use Rattle.sql_schema.specs.Schema.{d_suggestion_table}
use Rattle.sql_schema.specs.Layouts.{by_domain, Layout, made_last, from_first, from_second}
use Rattle.sql_schema.proofs.Layouts.{d_suggestion_placed}
use Rattle.sql_schema.proofs.Insertions.{IsInsertion, cast_null, cast_int}
use Rattle.sql_schema.proofs.Queries.{IsQueryOf, ReadsAllOf, ReadsLastOf, AreTestsOf, is_given, given_is, reads_all, reads_key}
use Rattle.sql_schema.proofs.OrderedQueries.{IsOrderedQueryOf, reads_in_order}
use Rattle.sql_schema.proofs.TextLists.{texts_of_row}
use Rattle.sql_schema.proofs.TextQueries.{are_given}
use Rattle.sql_schema.proofs.DomainsSeen.{is_text}
use Rattle.sql_schema.proofs.DomainRows.{one_d_number, d_suggestion_texts, d_suggestion_units}
use Rattle.sql_statements.specs.DomainCleared.{is_on_domain_unit}
use Rattle.sql_statements.specs.DomainAnswers.{ShowsDomainSuggestions, ShowsPlaces, ShowsSuggestionOf, ShowsPlaceOf}
use Rattle.sql_statements.proofs.Additions.{AddsOf, adds_values}
use Rattle.sql_statements.proofs.ReadsUnread.{IsAcceptedBy, IsUnreadBy, unread_by}

-- ---- a suggestion is added

abbrev pub insert_text : List ℕ
insert_text = codes "INSERT INTO d_suggestion (number, domain, lang, key, place, suggester, forms) VALUES (?1, ?2, ?3, ?4, ?5, ?6, ?7)"

abbrev insert_terms : List Term
insert_terms = lit Null ∷ col 0 0 ∷ col 0 1 ∷ col 0 2 ∷ col 0 3 ∷ col 0 4 ∷ col 0 5 ∷ col 0 6 ∷ []

insert_is : (layout : Layout by_domain) → IsInsertion layout insert_text 8 d_suggestion_table insert_terms
unfolding understood everything
insert_is made_last = record { is_placed = d_suggestion_placed made_last; uncounted = refl; is = refl; plain = (refl, refl); none = λ news. refl }
insert_is from_first = record { is_placed = d_suggestion_placed from_first; uncounted = refl; is = refl; plain = (refl, refl); none = λ news. refl }
insert_is from_second = record { is_placed = d_suggestion_placed from_second; uncounted = refl; is = refl; plain = (refl, refl); none = λ news. refl }

module _ (number domain lang key : List ℕ) (place : ℤ) (suggester forms : List ℕ) where
  abbrev pub values : Row
  values = Text number ∷ Text domain ∷ Text lang ∷ Text key ∷ Int place ∷ Text suggester ∷ Text forms ∷ []

  pub adds_suggestion : AddsOf by_domain insert_text values (codes "d_suggestion") first_text (HoldsValues values)
  adds_suggestion = adds_values insert_is values first_text refl (rw (cast_null, cast_int place) refl) one_d_number

-- ---- those of a unit

abbrev unit_text : List ℕ
unit_text = codes "SELECT number, place, suggester, forms FROM d_suggestion WHERE domain = ?1 AND lang = ?2 AND key = ?3 ORDER BY place"

unit_is : IsOrderedQueryOf by_domain unit_text d_suggestion_table (are_given 0 (2 ∷ 3 ∷ 4 ∷ [])) (1 ∷ 5 ∷ 6 ∷ 7 ∷ []) 5 (codes "number" ∷ codes "place" ∷ codes "suggester" ∷ codes "forms" ∷ [])
unfolding understood everything
unit_is made_last = record { command = refl; own_tables = refl; plain = (refl, refl) }
unit_is from_first = record { command = refl; own_tables = refl; plain = (refl, refl) }
unit_is from_second = record { command = refl; own_tables = refl; plain = (refl, refl) }

unit_accepted : (domain lang key : List ℕ) → IsAcceptedBy by_domain unit_text (Text domain ∷ Text lang ∷ Text key ∷ [])
unfolding understood everything
unit_accepted domain lang key made_last = refl
unit_accepted domain lang key from_first = refl
unit_accepted domain lang key from_second = refl

pub unit_unread : (domain lang key : List ℕ) → IsUnreadBy by_domain unit_text (Text domain ∷ Text lang ∷ Text key ∷ [])
unit_unread domain lang key = unread_by unit_text (Text domain ∷ Text lang ∷ Text key ∷ []) _ _ unit_is (unit_accepted domain lang key)

abbrev places_text : List ℕ
places_text = codes "SELECT place FROM d_suggestion WHERE domain = ?1 AND lang = ?2 AND key = ?3 ORDER BY place"

places_are : IsOrderedQueryOf by_domain places_text d_suggestion_table (are_given 0 (2 ∷ 3 ∷ 4 ∷ [])) (5 ∷ []) 5 (codes "place" ∷ [])
unfolding understood everything
places_are made_last = record { command = refl; own_tables = refl; plain = (refl, refl) }
places_are from_first = record { command = refl; own_tables = refl; plain = (refl, refl) }
places_are from_second = record { command = refl; own_tables = refl; plain = (refl, refl) }

places_accepted : (domain lang key : List ℕ) → IsAcceptedBy by_domain places_text (Text domain ∷ Text lang ∷ Text key ∷ [])
unfolding understood everything
places_accepted domain lang key made_last = refl
places_accepted domain lang key from_first = refl
places_accepted domain lang key from_second = refl

pub places_unread : (domain lang key : List ℕ) → IsUnreadBy by_domain places_text (Text domain ∷ Text lang ∷ Text key ∷ [])
places_unread domain lang key = unread_by places_text (Text domain ∷ Text lang ∷ Text key ∷ []) _ _ places_are (places_accepted domain lang key)

module _ (domain lang key : List ℕ) where
  abbrev given : Row
  given = Text domain ∷ Text lang ∷ Text key ∷ []

  on_unit : AreTestsOf by_domain (codes "d_suggestion") given (are_given 0 (2 ∷ 3 ∷ 4 ∷ [])) (is_on_domain_unit domain lang key)
  on_unit db has sound tables row there =
      let hold = texts_of_row by_domain (codes "d_suggestion") (2 ∷ 3 ∷ 4 ∷ []) d_suggestion_units db has sound row there in
      rw (given_is given row 2 0 domain hold.0 refl, given_is given row 3 1 lang hold.1.0 refl, given_is given row 4 2 key hold.1.1.0 refl)
      (ap (λ b. has_text 2 domain row && (has_text 3 lang row && b)) (and-true _))

  pub reads_suggestions : ReadsAllOf by_domain unit_text given (ShowsDomainSuggestions domain lang key)
  reads_suggestions = reads_in_order unit_text d_suggestion_table d_suggestion_placed (are_given 0 (2 ∷ 3 ∷ 4 ∷ [])) (1 ∷ 5 ∷ 6 ∷ 7 ∷ []) 5 1 _ unit_is (λ row. refl) given (is_on_domain_unit domain lang key) on_unit

  pub reads_places : ReadsAllOf by_domain places_text given (ShowsPlaces domain lang key)
  reads_places = reads_in_order places_text d_suggestion_table d_suggestion_placed (are_given 0 (2 ∷ 3 ∷ 4 ∷ [])) (5 ∷ []) 5 0 _ places_are (λ row. refl) given (is_on_domain_unit domain lang key) on_unit

-- ---- the one of a number, on a unit

-- a column equals a parameter, for which no index is asked
abbrev is_given_too : ℕ → ℕ → Term
is_given_too place at = op2 (by.Compare compare.Eq Binary) (op2 by.Coalesce (col 1 place) (lit Null)) (col 0 at)

abbrev one_terms : List Term
one_terms = is_given 1 0 ∷ is_given_too 2 1 ∷ is_given_too 3 2 ∷ is_given_too 4 3 ∷ []

abbrev one_text : List ℕ
one_text = codes "SELECT number, place, suggester, forms FROM d_suggestion WHERE number = ?1 AND +domain = ?2 AND +lang = ?3 AND +key = ?4"

one_is : IsQueryOf by_domain one_text d_suggestion_table one_terms (1 ∷ 5 ∷ 6 ∷ 7 ∷ []) (codes "number" ∷ codes "place" ∷ codes "suggester" ∷ codes "forms" ∷ [])
unfolding understood everything
one_is made_last = record { command = refl; own_tables = refl; plain = (refl, refl) }
one_is from_first = record { command = refl; own_tables = refl; plain = (refl, refl) }
one_is from_second = record { command = refl; own_tables = refl; plain = (refl, refl) }

one_accepted : (number domain lang key : List ℕ) → IsAcceptedBy by_domain one_text (Text number ∷ Text domain ∷ Text lang ∷ Text key ∷ [])
unfolding understood everything
one_accepted number domain lang key made_last = refl
one_accepted number domain lang key from_first = refl
one_accepted number domain lang key from_second = refl

pub one_unread : (number domain lang key : List ℕ) → IsUnreadBy by_domain one_text (Text number ∷ Text domain ∷ Text lang ∷ Text key ∷ [])
one_unread number domain lang key = unread_by one_text (Text number ∷ Text domain ∷ Text lang ∷ Text key ∷ []) _ _ one_is (one_accepted number domain lang key)

abbrev place_text : List ℕ
place_text = codes "SELECT place FROM d_suggestion WHERE number = ?1 AND +domain = ?2 AND +lang = ?3 AND +key = ?4"

place_is : IsQueryOf by_domain place_text d_suggestion_table one_terms (5 ∷ []) (codes "place" ∷ [])
unfolding understood everything
place_is made_last = record { command = refl; own_tables = refl; plain = (refl, refl) }
place_is from_first = record { command = refl; own_tables = refl; plain = (refl, refl) }
place_is from_second = record { command = refl; own_tables = refl; plain = (refl, refl) }

place_accepted : (number domain lang key : List ℕ) → IsAcceptedBy by_domain place_text (Text number ∷ Text domain ∷ Text lang ∷ Text key ∷ [])
unfolding understood everything
place_accepted number domain lang key made_last = refl
place_accepted number domain lang key from_first = refl
place_accepted number domain lang key from_second = refl

pub place_unread : (number domain lang key : List ℕ) → IsUnreadBy by_domain place_text (Text number ∷ Text domain ∷ Text lang ∷ Text key ∷ [])
place_unread number domain lang key = unread_by place_text (Text number ∷ Text domain ∷ Text lang ∷ Text key ∷ []) _ _ place_is (place_accepted number domain lang key)

-- a text is not null
text_stays : (text : List ℕ) → binary by.Coalesce (Text text) Null ≡ Text text
unfolding binary
text_stays text = refl

given_too_is : (params row : Row) (place at : ℕ) (text : List ℕ) → column row place ≡ Text (text_at place row) → column params at ≡ Text text
    → holds (params ∷ row ∷ []) (is_given_too place at) ≡ has_text place text row
given_too_is params row place at text is given = rw (is, given, text_stays (text_at place row)) (texts_compared (text_at place row) text)

module _ (domain lang key number : List ℕ) where
  abbrev these : Row
  these = Text number ∷ Text domain ∷ Text lang ∷ Text key ∷ []

  abbrev is_it : Row → Bool
  is_it row = has_text 1 number row && is_on_domain_unit domain lang key row

  tests_it : AreTestsOf by_domain (codes "d_suggestion") these one_terms is_it
  tests_it db has sound tables row there =
      let hold = texts_of_row by_domain (codes "d_suggestion") (2 ∷ 3 ∷ 4 ∷ []) d_suggestion_units db has sound row there in
      rw (
        given_is these row 1 0 number (d_suggestion_texts.0 db has sound row there) refl,
        given_too_is these row 2 1 domain hold.0 refl,
        given_too_is these row 3 2 lang hold.1.0 refl,
        given_too_is these row 4 3 key hold.1.1.0 refl,
      ) (ap (λ b. has_text 1 number row && (has_text 2 domain row && (has_text 3 lang row && b))) (and-true _))

  abbrev four_texts : Row → List (List ℕ)
  four_texts = key_texts (1 ∷ 2 ∷ 3 ∷ 4 ∷ [])

  of_these : (row : Row) → is_it row ≡ true → four_texts row ≡ number ∷ domain ∷ lang ∷ key ∷ []
  of_these row e =
      let on = and_parts _ _ (and_parts _ _ e).1 in
      let of_number = texts_are_one (text_at 1 row) number (and_parts _ _ e).0 in
      let of_domain = texts_are_one (text_at 2 row) domain on.0 in
      let of_lang = texts_are_one (text_at 3 row) lang (and_parts _ _ on.1).0 in
      let of_key = texts_are_one (text_at 4 row) key (and_parts _ _ on.1).1 in
      λ i. of_number i ∷ of_domain i ∷ of_lang i ∷ of_key i ∷ []

  passes_so : (row : Row) → four_texts row ≡ number ∷ domain ∷ lang ∷ key ∷ [] → is_it row ≡ true
  passes_so row e =
      let of_number : text_at 1 row ≡ number = cc in
      let of_domain : text_at 2 row ≡ domain = cc in
      let of_lang : text_at 3 row ≡ lang = cc in
      let of_key : text_at 4 row ≡ key = cc in
      and_from _ _ (is_text 1 number row of_number) (and_from _ _ (is_text 2 domain row of_domain) (and_from _ _ (is_text 3 lang row of_lang) (is_text 4 key row of_key)))

  pub finds_suggestion : ReadsLastOf by_domain one_text these (ShowsSuggestionOf domain lang key number)
  finds_suggestion = reads_key (codes "d_suggestion") is_it (columns (1 ∷ 5 ∷ 6 ∷ 7 ∷ [])) four_texts (number ∷ domain ∷ lang ∷ key ∷ []) of_these passes_so one_text these
      (reads_all one_text d_suggestion_table d_suggestion_placed one_terms (1 ∷ 5 ∷ 6 ∷ 7 ∷ []) _ one_is these is_it tests_it)

  pub finds_place : ReadsLastOf by_domain place_text these (ShowsPlaceOf domain lang key number)
  finds_place = reads_key (codes "d_suggestion") is_it (columns (5 ∷ [])) four_texts (number ∷ domain ∷ lang ∷ key ∷ []) of_these passes_so place_text these
      (reads_all place_text d_suggestion_table d_suggestion_placed one_terms (5 ∷ []) _ place_is these is_it tests_it)
