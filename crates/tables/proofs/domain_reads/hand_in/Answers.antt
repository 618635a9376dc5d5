use Rattle.std.proofs.Common.{List, sym, subst}
use Rattle.po_text.specs.declared.entry.Entry.{Entry}
use Rattle.units.specs.Project.{Project}
use Rattle.tables.specs.Entries.{entries_of}
use Rattle.office_maps.specs.OfficeIn.{office_in}
use Rattle.tables.specs.Handing.{Hands}
use Rattle.tables.proofs.NothingFound.{nothing_handed}
use Rattle.tables.proofs.domain_reads.hand_in.Goals as goal

pub returns-in-Some : goal.returns-in-Some
returns-in-Some g c = subst (λ (p : Project). Hands g.S.EntrySink.Took g.S.EntrySink.Refuses c.args.sink.now c.hand_entries.new.sink (entries_of p c.args.lang.now) c.hand_entries.result) c.in-Some.ensures.its c.hand_entries.ensures

pub returns-in-None : goal.returns-in-None
returns-in-None g c = subst (λ (es : List Entry). g.S.EntrySink.Took c.args.sink.now es c.args.sink.now) (sym (nothing_handed (office_in c.args.office.now) c.args.domain.now c.in-None.ensures.none c.args.lang.now)) (g.met.S.EntrySink.none c.args.sink.now)
