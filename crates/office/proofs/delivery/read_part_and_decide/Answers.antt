use Rattle.std.proofs.Common.{ap, subst}
use Rattle.std.proofs.lemmas.Result.{err_from_is_err_and}
use Rattle.units.specs.Office.{Office}
use Rattle.request_book.specs.Book.{OfficeWithBook}
use Rattle.office_specification.specs.Parts.{AreAlikeIn}
use Rattle.office_specification.specs.declared.parts.Part.{Part}
use Rattle.office_maps.specs.OfficeIn.{office_in}
use Rattle.office.proofs.Stopped.{read_done, read_failed, read_then_memory}
use Rattle.office.proofs.delivery.read_part_and_decide.Goals as goal

pub office-requires : goal.office-requires
office-requires g c = record { loaded = (c.args.part, c.in_ok-load_part.ensures.loaded) }

pub returns-clause-answer : goal.returns-clause-answer
returns-clause-answer g c = λ honest.
    let whole = c.in_ok-load_part.ensures.kept.open_still honest in
    let shown = office_in c.office.result.now in
    let was = ap (λ (m : OfficeWithBook). m.office) (c.load_part.ensures.same honest whole) in
    let alike : AreAlikeIn c.args.part shown (g.T.Tables.means c.args.tables.now).office =
    subst (λ (o : Office). AreAlikeIn c.args.part shown o) was (c.office.ensures honest whole c.args.part c.in_ok-load_part.ensures.loaded) in
    c.in_ok-outcome.ensures (g.T.Tables.means c.args.tables.now).office (subst (λ (p : Part). AreAlikeIn p shown (g.T.Tables.means c.args.tables.now).office) c.requires.part alike)

pub returns-clause-kept : goal.returns-clause-kept
returns-clause-kept g c = read_done c.in_ok-load_part.ensures.kept

pub returns-in_err-load_part-clause-kept : goal.returns-in_err-load_part-clause-kept
returns-in_err-load_part-clause-kept g c =
    let p = err_from_is_err_and c.from_residual.result c.from_residual.ensures.1 in rw (p.1, p.2) (read_failed c.in_err-load_part.ensures.kept)

pub returns-in_err-outcome-clause-kept : goal.returns-in_err-outcome-clause-kept
returns-in_err-outcome-clause-kept g c =
    let p = err_from_is_err_and c.from_residual-in_err-outcome.result c.from_residual-in_err-outcome.ensures.1 in rw (p.1, p.2) (read_then_memory c.in_ok-load_part.ensures.kept)
