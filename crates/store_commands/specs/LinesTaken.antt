-- What was taken in two parts was taken.
use Rattle.std.proofs.Common.{ℕ, List, [], ◌++◌, Option, refl, sym, subst, ◌∙◌}
use Rattle.std.specs.Borrow.{MutBor}
use Rattle.std.proofs.lemmas.List.Concat.{flat_map-append}
use Rattle.sqlite.specs.Order.{Row}
use Rattle.office.specs.Writers.{writer_at, TakesAll}
use Rattle.office.proofs.Streaming.{took_none, took_all}
use Rattle.store_commands.specs.Records.{row_line, lines_of}
use Rattle.store_commands.specs.RecordLines.{TookLines}

module _ {W : Type 0} (taken : W → Option (List ℕ)) (failed : W → ℕ) where
  pub took_no_lines : (s : MutBor W) → TookLines taken failed s [] s
  took_no_lines s = record { same_reference = refl; lines = took_none (taken s.now) (failed s.now) }

  pub took_more_lines : (a b c : MutBor W) (xs ys : List Row) → TookLines taken failed a xs b → TookLines taken failed b ys c → TookLines taken failed a (xs ++ ys) c
  took_more_lines a b c xs ys one two = record {
    same_reference = two.same_reference ∙ one.same_reference;
    lines = subst (TakesAll (writer_at taken failed a.now) (writer_at taken failed c.now)) (sym (flat_map-append row_line xs ys)) (took_all (lines_of xs) (lines_of ys) one.lines two.lines);
  }
