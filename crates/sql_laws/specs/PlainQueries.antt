-- A query over one table, with no groups, subqueries or pages: the rows that pass its tests, and what it shows of each.
use Rattle.std.specs.Prelude.{List, [], ◌∷◌, Bool, None, ℕ, pos, negsuc, false}
use Rattle.std.specs.List.{list_all}
use Rattle.sqlite.specs.Order.{Row}
use Rattle.sqlite.specs.Term.{Term, lit}
use Rattle.sqlite_sql.specs.Term.{eval_all, holds}
use Rattle.sqlite.specs.Query.{Query, inner, end}
use Rattle.sqlite.specs.declared.types.Value.TheVariants.{Int}

abbrev pub plain_query : ℕ → List Term → List Term → Query
plain_query tree filter project = record {
  from = inner tree end;
  filter = filter;
  group = None;
  project = project;
  distinct = false;
  collations = [];
  order = [];
  limit = lit (Int (negsuc 0));
  offset = lit (Int (pos 0));
}

abbrev pub passes : Row → List Term → Row → Bool
passes params filter row = list_all (holds (params ∷ row ∷ [])) filter

abbrev pub shows : Row → List Term → Row → Row
shows params project row = eval_all project (params ∷ row ∷ [])
