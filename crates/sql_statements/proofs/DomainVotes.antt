-- The table of the votes on suggestions of all domains: what the upsert of one does, what taking one away does, and what is read of a suggestion's.
use Rattle.std.proofs.Common.{◌≡◌, ℕ, ℤ, List, [], ◌∷◌, ◌++◌, ◌&&◌, codes, true, Some, refl, ap, ◌∙◌}
use Rattle.std.proofs.Math.Bool.{and-true}
use Rattle.sqlite.specs.declared.types.Value.{Value}
use Rattle.sqlite.specs.declared.types.Value.TheVariants.{Null, Int, Text}
use Rattle.sqlite.specs.Order.{Row, column}
use Rattle.sqlite_value.specs.Keys.{plain, joined}
use Rattle.sqlite.specs.Cast.{cast, cast_row}
use Rattle.sqlite.specs.Kind.TheVariants as kind
use Rattle.sqlite.specs.Tree.{rowid}
use Rattle.sqlite.specs.Term.{Term, lit, col}
use Rattle.sqlite.specs.Effect.{Database, IsDatabase}
use Rattle.sqlite.specs.Rows.{shown}
use Rattle.sqlite.specs.Listing.{understood}
use Rattle.sqlite_tied.specs.Compute.{everything}
use Rattle.sqlite_schema.specs.Names.{same_name}
use Rattle.sqlite_schema.specs.Rules.{agree}
use Rattle.sqlite_rules.specs.Keys.{conflicts}
use Rattle.sqlite_rules.specs.Lists.{Has}
use Rattle.sql_laws.specs.PlainQueries.{shows}
use Rattle.sql_schema.specs.Keys.{text_at, first_texts, has_text}
use Rattle.sql_schema.specs.Inside.{HoldsValues}
use Rattle.sql_schema.specs.Schema.{d_vote_table}
use Rattle.sql_schema.specs.Layouts.{by_domain, Layout, made_last, from_first, from_second, schema_of, HasLayoutOf, placed, rows_named}
use Rattle.sql_schema.proofs.Layouts.{d_vote_placed}
use Rattle.sql_schema.proofs.Insertions.{PutsOf, cast_int}
use Rattle.sql_schema.proofs.Queries.{IsQueryOf, ReadsAllOf, is_given, given_is, reads_with_text}
use Rattle.sql_schema.proofs.TextLists.{texts_of_row, agreed_texts}
use Rattle.sql_schema.proofs.DomainRows.{d_vote_texts, one_d_vote}
use Rattle.sql_statements.specs.DomainAnswers.{ShowsDomainVotes}
use Rattle.sql_statements.specs.DomainVotes.{is_vote_of}
use Rattle.sql_statements.proofs.Removals.{IsRemoval, TakesOf, takes_rows}
use Rattle.sql_statements.proofs.Untouched.{none_refers, drop_false}
use Rattle.sql_statements.proofs.Upserts.{IsUpsert, puts_or_renews_values}
use Rattle.sql_statements.proofs.ReadsUnread.{IsAcceptedBy, IsUnreadBy, unread_by}

-- ---- an upsert

abbrev pub upsert_text : List ℕ
upsert_text = codes "INSERT INTO d_vote (number, voter, value) VALUES (?1, ?2, ?3) ON CONFLICT (number, voter) DO UPDATE SET value = excluded.value"

abbrev upsert_terms : List Term
upsert_terms = lit Null ∷ col 0 0 ∷ col 0 1 ∷ col 0 2 ∷ []

abbrev becomes : List Term
becomes = col 1 0 ∷ col 1 0 ∷ col 1 1 ∷ col 1 2 ∷ col 0 7 ∷ []

upsert_is : (layout : Layout by_domain) → IsUpsert layout upsert_text 4 3 d_vote_table upsert_terms (1 ∷ 2 ∷ []) becomes
unfolding understood same_name joined everything
upsert_is made_last = record { is_placed = d_vote_placed made_last; uncounted = refl; is = refl; plain = (refl, refl); none = none_refers (schema_of made_last) (placed made_last d_vote_table).tree (λ olds news. refl) }
upsert_is from_first = record { is_placed = d_vote_placed from_first; uncounted = refl; is = refl; plain = (refl, refl); none = none_refers (schema_of from_first) (placed from_first d_vote_table).tree (λ olds news. refl) }
upsert_is from_second = record { is_placed = d_vote_placed from_second; uncounted = refl; is = refl; plain = (refl, refl); none = none_refers (schema_of from_second) (placed from_second d_vote_table).tree (λ olds news. refl) }

module _ (number voter : List ℕ) (value : ℤ) where
  abbrev pub values : Row
  values = Text number ∷ Text voter ∷ Int value ∷ []

  cast_vote : (v : Value) → cast kind.Integer v ≡ v → cast_row d_vote_table (v ∷ values) ≡ v ∷ values
  cast_vote v h = rw (h, cast_int value) refl

  conflict_is : (layout : Layout by_domain) (r : Row) (id : ℤ) → conflicts (Some (1 ∷ 2 ∷ [])) (schema_of layout).indexes (placed layout d_vote_table) (Int id ∷ values) r ≡ true
      → agree plain (1 ∷ 2 ∷ []) r (1 ∷ 2 ∷ []) (Int id ∷ values) ≡ true
  conflict_is made_last r id h = drop_false (agree plain (1 ∷ 2 ∷ []) r (1 ∷ 2 ∷ []) (Int id ∷ values)) h
  conflict_is from_first r id h = drop_false (agree plain (1 ∷ 2 ∷ []) r (1 ∷ 2 ∷ []) (Int id ∷ values)) h
  conflict_is from_second r id h = drop_false (agree plain (1 ∷ 2 ∷ []) r (1 ∷ 2 ∷ []) (Int id ∷ values)) h

  -- a row that conflicts is of the same suggestion and voter
  same_vote : (db : Database) (has : HasLayoutOf by_domain db) → IsDatabase db → (r : Row) → Has (rows_named db (codes "d_vote")) r → (id : ℤ)
      → conflicts (Some (1 ∷ 2 ∷ [])) (schema_of has.0).indexes (placed has.0 d_vote_table) (Int id ∷ values) r ≡ true → (column r 1 ≡ Text number) × (column r 2 ≡ Text voter)
  same_vote db has sound r there id h =
      let hold = texts_of_row by_domain (codes "d_vote") (1 ∷ 2 ∷ []) d_vote_texts db has sound r there in
      let same = agreed_texts (1 ∷ 2 ∷ []) r (Int id ∷ values) hold (refl, (refl, tt)) (conflict_is has.0 r id h) in
      let first : text_at 1 r ≡ number = cc in
      let second : text_at 2 r ≡ voter = cc in
      (hold.0 ∙ ap Text first, hold.1.0 ∙ ap Text second)

  keyed : (r : Row) → column r 1 ≡ Text number → column r 2 ≡ Text voter → first_texts r ≡ first_texts (rowid r ∷ values)
  keyed r first second = rw (first, second) refl

  shows_it : (r : Row) (id : ℤ) → column r 1 ≡ Text number → column r 2 ≡ Text voter → shows (values ++ rowid r ∷ shown d_vote_table (Int id ∷ values)) becomes r ≡ rowid r ∷ rowid r ∷ values
  shows_it r id first second = rw (first, second) refl

  pub puts_vote : PutsOf by_domain upsert_text values (codes "d_vote") first_texts (HoldsValues values)
  puts_vote = puts_or_renews_values upsert_is values first_texts refl (λ v rest. refl) cast_vote
      (λ db has sound r there id h. let same = same_vote db has sound r there id h in (keyed r same.0 same.1, shows_it r id same.0 same.1)) one_d_vote

-- ---- a vote goes

abbrev take_text : List ℕ
take_text = codes "DELETE FROM d_vote WHERE number = ?1 AND voter = ?2"

take_is : (layout : Layout by_domain) → IsRemoval layout take_text d_vote_table (is_given 1 0 ∷ is_given 2 1 ∷ [])
unfolding understood same_name joined everything
take_is made_last = record { is_placed = d_vote_placed made_last; is = refl; plain = (refl, refl); none = λ olds. refl }
take_is from_first = record { is_placed = d_vote_placed from_first; is = refl; plain = (refl, refl); none = λ olds. refl }
take_is from_second = record { is_placed = d_vote_placed from_second; is = refl; plain = (refl, refl); none = λ olds. refl }

pub takes_vote : (number voter : List ℕ) → TakesOf by_domain take_text (Text number ∷ Text voter ∷ []) (codes "d_vote") (is_vote_of number voter)
takes_vote number voter = takes_rows take_is (Text number ∷ Text voter ∷ []) (is_vote_of number voter)
    (λ db has sound row there. rw (given_is (Text number ∷ Text voter ∷ []) row 1 0 number (d_vote_texts.0 db has sound row there) refl, given_is (Text number ∷ Text voter ∷ []) row 2 1 voter (d_vote_texts.1.0 db has sound row there) refl)
    (ap (λ b. has_text 1 number row && b) (and-true _)))

-- ---- those on a suggestion

abbrev votes_text : List ℕ
votes_text = codes "SELECT voter, value FROM d_vote WHERE number = ?1"

votes_are : IsQueryOf by_domain votes_text d_vote_table (is_given 1 0 ∷ []) (2 ∷ 3 ∷ []) (codes "voter" ∷ codes "value" ∷ [])
unfolding understood everything
votes_are made_last = record { command = refl; own_tables = refl; plain = (refl, refl) }
votes_are from_first = record { command = refl; own_tables = refl; plain = (refl, refl) }
votes_are from_second = record { command = refl; own_tables = refl; plain = (refl, refl) }

votes_accepted : (number : List ℕ) → IsAcceptedBy by_domain votes_text (Text number ∷ [])
unfolding understood everything
votes_accepted number made_last = refl
votes_accepted number from_first = refl
votes_accepted number from_second = refl

pub votes_unread : (number : List ℕ) → IsUnreadBy by_domain votes_text (Text number ∷ [])
votes_unread number = unread_by votes_text (Text number ∷ []) _ _ votes_are (votes_accepted number)

pub reads_votes : (number : List ℕ) → ReadsAllOf by_domain votes_text (Text number ∷ []) (ShowsDomainVotes number)
reads_votes = reads_with_text votes_text d_vote_table d_vote_placed 1 (2 ∷ 3 ∷ []) _ votes_are d_vote_texts.0
