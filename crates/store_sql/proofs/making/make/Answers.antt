use Rattle.std.proofs.Common.{rules, sym, ◌∙◌}
use Rattle.sqlite.specs.Held.{state}
use Rattle.store_sql.proofs.Made.{failed_back}
use Rattle.sql_conversion.proofs.TakenOver.{disk_told}
use Rattle.store_sql.proofs.making.make.Goals as goal

pub returns-in-Err-clause-handed_back : goal.returns-in-Err-clause-handed_back
returns-in-Err-clause-handed_back g c =
    failed_back c.args.start.now (state g.S.Store c.args.connection.now) (state g.S.Store c.create_start.new.connection) c.in-Err.failure (search rules) c.in-Err.ensures.committed

pub returns-in-Some-clause-disk : goal.returns-in-Some-clause-disk
returns-in-Some-clause-disk g c = λ clean disk. absurd (c.in-Some.ensures.disk disk)

pub returns-in-Err-clause-disk : goal.returns-in-Err-clause-disk
returns-in-Err-clause-disk g c = λ clean disk. c.in-Err.ensures.disk clean (disk_told c.in-Err.failure.lost (sym c.from.ensures ∙ disk))
