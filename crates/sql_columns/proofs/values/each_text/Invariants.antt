use Rattle.std.proofs.Common.{◌≡◌, ◌++◌, option_map, drop}
use Rattle.serde_json.specs.Find.{as_str}
use Rattle.serde_json.specs.View.{items_view}
use Rattle.request_book.specs.Fields.{each_of}
use Rattle.sql_columns.proofs.values.each_text.Given as goal

-- the texts so far and those of the rest are all texts
abbrev pub invariant-loop-value : goal.invariant-loop-value
invariant-loop-value l = each_of as_str (items_view l.values) ≡ option_map (λ ts. l.texts ++ ts) (each_of as_str (items_view (drop l.value-index l.values)))
