-- What the query over the obsolete units of a domain's language answers.
use Rattle.std.proofs.Common.{◌≡◌, ℕ, List, [], ◌∷◌, ◌++◌, ◌&&◌, pos, map, filter, codes, refl, sym, ap, subst, ◌∙◌}
use Rattle.std.proofs.Math.Path.{fun_ext}
use Rattle.std.proofs.Math.Bool.{and-true}
use Rattle.std.specs.List.Sorted.{IsPermutation}
use Rattle.sqlite.specs.Collation.TheVariants.{Binary}
use Rattle.sqlite.specs.declared.types.Value.TheVariants.{Null, Int, Text}
use Rattle.sqlite.specs.Order.{Row}
use Rattle.sqlite.specs.Term.{Term, lit, col, op2}
use Rattle.sqlite_sql.specs.declared.ops.CompareOp.TheVariants as compare
use Rattle.sqlite_sql.specs.declared.ops.BinaryOp.TheVariants as by
use Rattle.sqlite.specs.Program.{overlay}
use Rattle.sqlite.specs.Query.{IsAnswer}
use Rattle.sqlite.specs.State.{State, Begins, Shown}
use Rattle.sqlite.specs.Listing.{understood}
use Rattle.sqlite.proofs.Callers.{IsPlain, reads_as, begins_as}
use Rattle.sqlite_tied.specs.Compute.{everything}
use Rattle.sqlite_rules.specs.Lists.{Has}
use Rattle.sql_laws.specs.PlainQueries.{passes, shows}
use Rattle.sql_laws.specs.OrderedQueries.{ordered_query}
use Rattle.sql_laws.proofs.PlainQueries.{ordered_permuted}
use Rattle.sql_laws.proofs.OrderedQueries.{answers_in_order}
use Rattle.sql_laws.proofs.Comparisons.{ints_compared}
use Rattle.sql_schema.specs.Layouts.{by_domain, Layout, made_last, from_first, from_second, schema_of, placed, rows_named}
use Rattle.sql_schema.specs.Schema.{d_unit_table}
use Rattle.sql_schema.specs.Keys.{has_text, columns}
use Rattle.sql_schema.specs.SeenRows.{unit_seen, seen_in}
use Rattle.sql_schema.specs.Inside.{IsReadyFor}
use Rattle.sql_schema.proofs.Layouts.{d_unit_placed}
use Rattle.sql_schema.proofs.OrderedQueries.{IsOrderedQueryOf}
use Rattle.sql_schema.proofs.Queries.{rows_read, shows_columns, filtered_same, is_given, given_is}
use Rattle.sql_schema.proofs.TextKeys.{holds_int}
use Rattle.sql_schema.proofs.DomainRows.{d_unit_texts}
use Rattle.sql_statements.specs.Queries.{ShowsObsoleteIn, is_obsolete_of}
use Rattle.sql_statements.proofs.Seen.{mapped_seen, filtered_seen}
use Rattle.sql_statements.proofs.ReadsUnread.{IsAcceptedBy, IsUnreadBy, unread_by}

abbrev pub obsolete_text : List ℕ
obsolete_text = codes "SELECT plural, forms, state, comment, previous, key FROM d_unit WHERE domain = ?1 AND lang = ?2 AND obsolete = 1 ORDER BY key"

abbrev terms : List Term
terms = is_given 1 0 ∷ is_given 2 1 ∷ op2 (by.Compare compare.Eq Binary) (col 1 7) (lit (Int (pos 1))) ∷ []

abbrev places : List ℕ
places = 4 ∷ 5 ∷ 6 ∷ 9 ∷ 10 ∷ 3 ∷ []

obsolete_is : IsOrderedQueryOf by_domain obsolete_text d_unit_table terms places 3 (codes "plural" ∷ codes "forms" ∷ codes "state" ∷ codes "comment" ∷ codes "previous" ∷ codes "key" ∷ [])
unfolding understood everything
obsolete_is made_last = record { command = refl; own_tables = refl; plain = (refl, refl) }
obsolete_is from_first = record { command = refl; own_tables = refl; plain = (refl, refl) }
obsolete_is from_second = record { command = refl; own_tables = refl; plain = (refl, refl) }

obsolete_accepted : (domain lang : List ℕ) → IsAcceptedBy by_domain obsolete_text (Text domain ∷ Text lang ∷ [])
unfolding understood everything
obsolete_accepted domain lang made_last = refl
obsolete_accepted domain lang from_first = refl
obsolete_accepted domain lang from_second = refl

pub obsolete_unread : (domain lang : List ℕ) → IsUnreadBy by_domain obsolete_text (Text domain ∷ Text lang ∷ [])
obsolete_unread domain lang = unread_by obsolete_text (Text domain ∷ Text lang ∷ []) _ _ obsolete_is (obsolete_accepted domain lang)

module _ (domain lang : List ℕ) (s : State) (ready : IsReadyFor by_domain s) where
  abbrev params : Row
  params = Text domain ∷ Text lang ∷ []

  abbrev layout : Layout by_domain
  layout = ready.schema.0

  abbrev tree : ℕ
  tree = (placed layout d_unit_table).tree

  abbrev units : List Row
  units = rows_named s.now (codes "d_unit")

  tests : (row : Row) → Has units row → passes params terms row ≡ (has_text 1 domain row && is_obsolete_of lang (unit_seen row))
  tests row there =
      let whole = holds_int d_unit_table d_unit_placed 6 (codes "obsolete") refl s.now ready.schema ready.sound row there refl in
      rw (
        given_is params row 1 0 domain (d_unit_texts.0 s.now ready.schema ready.sound row there) refl,
        given_is params row 2 1 lang (d_unit_texts.1.0 s.now ready.schema ready.sound row there) refl,
        whole,
      ) (rw (ints_compared (Int _) (Int (pos 1)) refl refl) (ap (λ b. has_text 1 domain row && (has_text 2 lang row && b)) (and-true _)))

  obsolete_shown : (rows : List Row) → IsAnswer (ordered_query tree terms (map (col 1) places) (col 1 3)) (overlay s.now.trees []) params rows → ShowsObsoleteIn lang (seen_in domain (rows_named s.now)) rows
  obsolete_shown rows answer = record {
    all = subst (λ l. IsPermutation l rows)
        (ap (λ l. map (shows params (map (col 1) places)) (filter (passes params terms) l)) (rows_read layout d_unit_table (d_unit_placed layout) s.now ready.schema.1)
        ∙ ap (λ (f : Row → Row). map f (filter (passes params terms) units)) (fun_ext (shows_columns params places))
        ∙ ap (map (columns places)) (filtered_same (passes params terms) (λ row. has_text 1 domain row && is_obsolete_of lang (unit_seen row)) units tests)
        ∙ mapped_seen (columns places) (columns (3 ∷ 4 ∷ 5 ∷ 8 ∷ 9 ∷ 2 ∷ [])) unit_seen (filter (λ row. has_text 1 domain row && is_obsolete_of lang (unit_seen row)) units) (λ row there. refl)
        ∙ ap (map (columns (3 ∷ 4 ∷ 5 ∷ 8 ∷ 9 ∷ 2 ∷ []))) (filtered_seen (has_text 1 domain) (is_obsolete_of lang) unit_seen units))
        (ordered_permuted tree terms (map (col 1) places) _ (overlay s.now.trees []) params rows answer);
    in_order = answers_in_order tree 5 terms (map (col 1) places) (col 1 3) (overlay s.now.trees []) params rows (λ row. refl) answer;
  }

  pub obsolete_all : (rows : List Row) → Shown obsolete_text params s s rows → ShowsObsoleteIn lang (seen_in domain (rows_named s.now)) rows
  obsolete_all rows h = obsolete_shown rows ((reads_as obsolete_text params s s (schema_of layout) ready.schema.1 _ (obsolete_is layout).command (obsolete_is layout).plain (obsolete_is layout).own_tables rows h).answer Null)

  pub obsolete_begun : (rows : List Row) → Begins obsolete_text params s rows → (tail : List Row) × ShowsObsoleteIn lang (seen_in domain (rows_named s.now)) (rows ++ tail)
  obsolete_begun rows h =
      let read = begins_as obsolete_text params s s (schema_of layout) ready.schema.1 _ (obsolete_is layout).command (obsolete_is layout).plain (obsolete_is layout).own_tables rows h in
      (read.1.0, obsolete_shown (rows ++ read.1.0) (read.1.1 Null))

pub obsolete_plain : (s : State) → IsReadyFor by_domain s → IsPlain (understood s.now.schema obsolete_text)
obsolete_plain s ready = subst (λ t. IsPlain (understood t obsolete_text)) (sym ready.schema.1) (obsolete_is ready.schema.0).plain
