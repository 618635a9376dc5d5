-- What queries show of the rows of a domain, as it sees them.
use Rattle.std.proofs.Common.{◌≡◌, ℕ, List, [], ◌∷◌, ◌&&◌, map, filter, Bool, true, false, cond, Result, Ok, Err, IfOk, inl, inr, refl, ap, subst, ◌∙◌}
use Rattle.std.proofs.Math.Bool.{and-true}
use Rattle.std.specs.List.Sorted.{IsPermutation}
use Rattle.sqlite.specs.declared.types.Value.TheVariants.{Text}
use Rattle.sqlite.specs.declared.error.Error.{Error}
use Rattle.sqlite.specs.Order.{Row}
use Rattle.sqlite.specs.Effect.{Database}
use Rattle.sqlite.specs.Query.{output, output_cmp}
use Rattle.sqlite.specs.Table.{Table}
use Rattle.sqlite_rules.specs.Lists.{Has}
use Rattle.sql_schema.specs.Layouts.{Form, by_domain, Layout, NamedRows, rows_named, IsPlaced}
use Rattle.sql_schema.specs.Keys.{has_text, columns}
use Rattle.sql_schema.specs.SeenRows.{rows_seen, seen_in}
use Rattle.sql_schema.proofs.TextKeys.{HoldsTextsOf}
use Rattle.sql_schema.proofs.Queries.{ReadsAllOf, is_given, given_is}
use Rattle.sql_statements.specs.Tables.{by_columns, ShowsTableIn, ShowsPart}
use Rattle.sql_statements.proofs.TableQueries.{IsPartQueryOf, part_query, reads_part}

-- ---- lists

-- what is shown of rows is what is shown of them as they are seen
pub mapped_seen : (shown own seen : Row → Row) (rows : List Row) → ((row : Row) → Has rows row → shown row ≡ own (seen row)) → map shown rows ≡ map own (map seen rows)
mapped_seen shown own seen [] same = refl
mapped_seen shown own seen (row ∷ rows) same =
    let first = same row (inl refl) in
    let rest = mapped_seen shown own seen rows (λ r there. same r (inr there)) in
    λ i. first i ∷ rest i

-- those that pass two tests, the second of what is seen of them
pub filtered_seen : (test own : Row → Bool) (seen : Row → Row) (rows : List Row) → map seen (filter (λ row. test row && own (seen row)) rows) ≡ filter own (rows_seen test seen rows)
filtered_seen test own seen [] = refl
filtered_seen test own seen (row ∷ rows) = by (test row) (own (seen row)) refl (filtered_seen test own seen rows)
  where
    by : (a b : Bool) → own (seen row) ≡ b → map seen (filter (λ row. test row && own (seen row)) rows) ≡ filter own (rows_seen test seen rows)
        → map seen (cond (a && b) (row ∷ filter (λ row. test row && own (seen row)) rows) (filter (λ row. test row && own (seen row)) rows)) ≡ filter own (map seen (cond a (row ∷ filter test rows) (filter test rows)))
    by false b e rest = rest
    by true true e rest = rw e (ap (λ more. seen row ∷ more) rest)
    by true false e rest = rw e rest

-- ---- answers

-- what follows from an answer
pub answers_mapped : {form : Form} (text : List ℕ) (params : Row) (P Q : Database → List Row → Type 0) → ((db : Database) (rows : List Row) → P db rows → Q db rows)
    → ReadsAllOf form text params P → ReadsAllOf form text params Q
answers_mapped text params P Q made reads A rows_of old new r steady shown failed survives =
    let it = reads A rows_of old new r steady shown failed survives in
    record {
      answer = λ clean. on r (it.answer clean);
      same = it.same;
      ready = it.ready;
      stays = it.stays;
      kept = it.kept;
      survives = it.survives;
    }
  where
    on : (r : Result A Error) → IfOk r (λ a. P old.now (rows_of a)) → IfOk r (λ a. Q old.now (rows_of a))
    on (Ok a) h = made old.now (rows_of a) h
    on (Err e) h = tt

-- the rows of a table that are a domain's, which is the first parameter
module _ (text : List ℕ) (table : Table) (is_placed : (layout : Layout by_domain) → IsPlaced layout table) (place : ℕ) (places by order : List ℕ) (names : List (List ℕ))
    (means : IsPartQueryOf by_domain text table (is_given place 0 ∷ []) places by names) (texts : HoldsTextsOf by_domain table.name place) (domain : List ℕ)
    (alike : (tree : ℕ) (r s : Row) → output_cmp (part_query tree (is_given place 0 ∷ []) places by) (output (part_query tree (is_given place 0 ∷ []) places by) ((Text domain ∷ []) ∷ r ∷ []))
    (output (part_query tree (is_given place 0 ∷ []) places by) ((Text domain ∷ []) ∷ s ∷ [])) ≡ by_columns order (columns places r) (columns places s)) where
  pub reads_of_domain : ReadsAllOf by_domain text (Text domain ∷ []) (ShowsPart table.name (has_text place domain) places order)
  reads_of_domain = reads_part text table is_placed (is_given place 0 ∷ []) places by order names means (Text domain ∷ []) (has_text place domain)
      (λ db has sound tables row there. rw (given_is (Text domain ∷ []) row place 0 domain (texts db has sound row there) refl) (and-true _)) alike

  -- are a table that the domain sees
  module _ (name : List ℕ) (seen : Row → Row) (own : List ℕ) (is_seen : (tables : NamedRows) → rows_seen (has_text place domain) seen (tables table.name) ≡ seen_in domain tables name)
      (same : (row : Row) → columns places row ≡ columns own (seen row)) where
    pub reads_seen : ReadsAllOf by_domain text (Text domain ∷ []) (λ db rows. ShowsTableIn name own order (seen_in domain (rows_named db)) rows)
    reads_seen = answers_mapped text (Text domain ∷ []) (ShowsPart table.name (has_text place domain) places order) (λ db rows. ShowsTableIn name own order (seen_in domain (rows_named db)) rows)
        (λ db rows it. record {
          all = subst (λ l. IsPermutation l rows)
              (mapped_seen (columns places) (columns own) seen (filter (has_text place domain) (rows_named db table.name)) (λ row there. same row) ∙ ap (map (columns own)) (is_seen (rows_named db))) it.all;
          in_order = it.in_order;
        }) reads_of_domain
