use Rattle.std.proofs.Common.{Some, None, refl, sym, ◌∙◌, ◌≡◌, ◌≢◌, Result, Ok, Err}
use Rattle.office_maps.specs.OfficeIn.{office_in}
use Rattle.sql_conversion.proofs.LanguagesCounted.{tally_looked_up}
use Rattle.std.specs.Prelude.{IsErrAnd, IfErr}
use Rattle.tables.specs.declared.faults.Lost.TheVariants.{Memory, Disk}
use Rattle.sql_decoding.specs.declared.faults.Failure.{Failure}
use Rattle.sql_conversion.proofs.writing.tally_of.Goals as goal

-- want of memory tells of no disk
memory_handed : {A : Type 0} (given : Result A Failure) → IsErrAnd given (λ failure. failure.lost ≡ Memory) → IfErr given (λ failure. failure.lost ≢ Disk)
memory_handed (Ok x) told = tt
memory_handed (Err failure) told = λ disk. let never : Memory ≡ Disk = sym told ∙ disk in cc

pub returns-in-Some-clause-tally : goal.returns-in-Some-clause-tally
returns-in-Some-clause-tally c = tally_looked_up (office_in c.args.maps.now) c.args.domain.now c.args.lang.now (Some c.in-Some.tally) c.in-Some.tally refl (λ kept. sym c.in-Some.is ∙ c.in_ok-tally.ensures kept)

pub returns-in-None-clause-tally : goal.returns-in-None-clause-tally
returns-in-None-clause-tally c = tally_looked_up (office_in c.args.maps.now) c.args.domain.now c.args.lang.now None c.none.result c.none.ensures (λ kept. sym c.in-None.is ∙ c.in_ok-tally.ensures kept)

pub returns-in_err-tally-clause-disk : goal.returns-in_err-tally-clause-disk
returns-in_err-tally-clause-disk c = memory_handed c.from_residual.result c.from_residual.ensures.1
