use Rattle.std.proofs.Common.{rules, subst, sym}
use Rattle.office_specification.specs.ExportText.{export_text}
use Rattle.office_specification.specs.OfficeRules.{KeepsRules}
use Rattle.office_specification.proofs.rules.DomainsKept.{any_project}
use Rattle.units.specs.Office.{project_in}
use Rattle.tables.specs.Entries.{entries_of}
use Rattle.office.specs.declared.export.ExportReceipt.{ExportReceipt}
use Rattle.office.specs.declared.faults.ExportFault.TheVariants as fault
use Rattle.office.specs.Exports.{WasExported, WasCut}
use Rattle.office.specs.Faults.{fault_of}
use Rattle.office.proofs.Exported.{text_there, all_exported, none_exported, sink_cut, told_on}
use Rattle.office.proofs.Spelled.{spells_its_catalogue, exports_the_same}
use Rattle.office.proofs.export.export.Goals as goal

pub returns-in-Err-clause-err : goal.returns-in-Err-clause-err
returns-in-Err-clause-err g c = λ honest.
    let project = project_in (g.T.Tables.means c.args.tables.now).office c.args.domain.now in
    let lang = c.args.lang.now in
    let taken = g.W.ByteSink.taken in
    let failed = g.W.ByteSink.failed in
    let now = c.each_entry-sent.new.sink.w.now in
    let old = c.args.w.now in
    let each = c.in-Err.fault in
    let cut : WasCut (export_text project lang) (taken old) (taken now) (failed old) (failed now) (fault_of each) =
    subst (λ t. WasCut t (taken old) (taken now) (failed old) (failed now) (fault_of each)) (sym (text_there project lang))
    (sink_cut (λ s. s.w.ghost_name) (λ s. taken s.w.now) (λ s. failed s.w.now) (λ s. s.checksum) (λ s. s.text.now.begun) (λ s. s.begun) _ _ _ each c.text_writer-text.ensures c.new.ensures (c.in-Err.ensures.cut honest)) in
    told_on (export_text project lang) (taken old) (failed old) (fault_of each) c.from.result c.fault_to_tell.result (search rules) (search rules)
    c.failures-before.ensures c.failures-after.ensures c.from.ensures cut c.fault_to_tell.ensures.failed c.fault_to_tell.ensures.others

pub returns-then-not-begun-clause-err : goal.returns-then-not-begun-clause-err
returns-then-not-begun-clause-err g c = λ honest.
    let project = project_in (g.T.Tables.means c.args.tables.now).office c.args.domain.now in
    let lang = c.args.lang.now in
    let taken = g.W.ByteSink.taken in
    let failed = g.W.ByteSink.failed in
    let now = c.each_entry-sent.new.sink.w.now in
    let old = c.args.w.now in
    let all = c.in_default.ensures.all honest in
    let was : WasCut (export_text project lang) (taken old) (taken now) (failed old) (failed now) fault.NoLanguage =
    subst (λ text. WasCut text (taken old) (taken now) (failed old) (failed now) fault.NoLanguage) (sym (text_there project lang))
    (none_exported (entries_of project lang) c.if-not-begun.true all.2 all.1) in
    search rules

pub returns-clause-text : goal.returns-clause-text
returns-clause-text g c = λ honest.
    let project = project_in (g.T.Tables.means c.args.tables.now).office c.args.domain.now in
    let lang = c.args.lang.now in
    let old = g.W.ByteSink.taken c.args.w.now in
    let now = g.W.ByteSink.taken c.each_entry-sent.new.sink.w.now in
    let receipt : ExportReceipt = record { bytes = c.each_entry-sent.new.sink.checksum.bytes; sha256 = c.finalize.result } in
    let all = c.in_default.ensures.all honest in
    let was : WasExported (export_text project lang) old now receipt =
    subst (λ text. WasExported text old now receipt) (sym (text_there project lang))
    (all_exported (entries_of project lang) c.finalize.result c.new.ensures c.text_writer-text.ensures c.if-not-begun.false all.2 all.1 c.finalize.ensures) in
    subst (λ t. WasExported (export_text project lang) old t receipt) (search rules) was

pub returns-clause-spelled : goal.returns-clause-spelled
returns-clause-spelled g c = λ honest.
    let whole = c.in_default.ensures.kept.open_still honest in
    let keeps = subst KeepsRules (c.each_entry-sent.ensures.same honest whole) (g.met.T.Tables.rules c.each_entry-sent.new.self honest whole) in
    spells_its_catalogue (project_in (g.T.Tables.means c.args.tables.now).office c.args.domain.now) c.args.lang.now (g.W.ByteSink.taken c.args.w.now) _ _ (any_project (g.T.Tables.means c.args.tables.now).office keeps.office c.args.domain.now)
    (c.in_default.ensures.all honest).1.strings (returns-clause-text g c honest)

pub returns-clause-commuting : goal.returns-clause-commuting
returns-clause-commuting g c = λ honest.
    exports_the_same (g.T.Tables.means c.args.tables.now).office c.args.domain.now c.args.lang.now (g.W.ByteSink.taken c.args.w.now) _ _ (returns-clause-text g c honest)
