use Rattle.std.proofs.Common.{◌∙◌, ap, subst}
use Rattle.std.specs.FinMap as maps
use Rattle.std.proofs.lemmas.Result.{err_from_is_err_and}
use Rattle.po_text.specs.Texts.{Text, text_cmp}
use Rattle.po_text.specs.declared.entry.Entry.{Entry}
use Rattle.units.specs.Office.{Office}
use Rattle.request_book.specs.Book.{OfficeWithBook}
use Rattle.office_specification.specs.Parts.{AreAlikeIn}
use Rattle.office_specification.specs.declared.parts.Part.TheVariants as parts
use Rattle.office_maps.specs.OfficeIn.{office_in}
use Rattle.office.proofs.Stopped.{read_done, read_failed, read_then_memory, unasked}
use Rattle.office.proofs.questions.languages_of.Goals as goal

pub office-requires : goal.office-requires
office-requires g c = record { loaded = (parts.Languages c.in_ok-own.own, c.in_ok-load_part.ensures.loaded) }

pub returns-clause-answer : goal.returns-clause-answer
returns-clause-answer g c = λ honest.
    let whole = c.in_ok-load_part.ensures.kept.open_still honest in
    let shown = office_in c.office.result.now in
    let meant = (g.T.Tables.means c.args.tables.now).office in
    let was = ap (λ (m : OfficeWithBook). m.office) (c.load_part.ensures.same honest whole) in
    let alike : AreAlikeIn (parts.Languages c.args.domain.now) shown meant =
    subst (λ (d : Text). AreAlikeIn (parts.Languages d) shown meant) c.in_ok-own.ensures
    (subst (λ (o : Office). AreAlikeIn (parts.Languages c.in_ok-own.own) shown o) was (c.office.ensures honest whole (parts.Languages c.in_ok-own.own) c.in_ok-load_part.ensures.loaded)) in
    c.in_ok-all.ensures ∙ ap (λ (headers : maps.FinMap text_cmp Entry). maps.keys headers) alike.1.headers

pub returns-clause-kept : goal.returns-clause-kept
returns-clause-kept g c = read_done c.in_ok-load_part.ensures.kept

pub returns-in_err-own-clause-kept : goal.returns-in_err-own-clause-kept
returns-in_err-own-clause-kept g c =
    let p = err_from_is_err_and c.from_residual.result c.from_residual.ensures.1 in rw (p.1, p.2) (unasked c.stopped.result c.stopped.ensures c.if-stopped.false)

pub returns-in_err-load_part-clause-kept : goal.returns-in_err-load_part-clause-kept
returns-in_err-load_part-clause-kept g c =
    let p = err_from_is_err_and c.from_residual-in_err-load_part.result c.from_residual-in_err-load_part.ensures.1 in rw (p.1, p.2) (read_failed c.in_err-load_part.ensures.kept)

pub returns-in_err-all-clause-kept : goal.returns-in_err-all-clause-kept
returns-in_err-all-clause-kept g c =
    let p = err_from_is_err_and c.from_residual-in_err-all.result c.from_residual-in_err-all.ensures.1 in rw (p.1, p.2) (read_then_memory c.in_ok-load_part.ensures.kept)
