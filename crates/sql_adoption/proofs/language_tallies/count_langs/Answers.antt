use Rattle.std.proofs.Common.{rules, ◌≡◌, ◌++◌, map, subst}
use Rattle.office_maps.specs.OfficeIn.{office_in}
use Rattle.sql_figures.specs.KeptTallies.{office_counts}
use Rattle.sql_adoption.specs.FigureRows.{AreCounted}
use Rattle.sql_adoption.proofs.TalliesTold.{no_lang, one_counted, all_counted}
use Rattle.sql_adoption.proofs.language_tallies.count_langs.Goals as goal

pub loop-lang-init : goal.loop-lang-init
loop-lang-init c = λ is_office before are. no_lang (office_counts (office_in c.args.read.now.maps)) before c.args.domain.now c.as_slice-langs.result.now c.args.counted.now.items are

pub loop-lang-preserved : goal.loop-lang-preserved
loop-lang-preserved c = λ is_office before are.
    one_counted (office_counts (office_in c.args.read.now.maps)) before c.args.domain.now c.as_slice-langs.result.now c.loop-lang.lang-index c.lang-item.result c.loop-lang.counted.items c.count_lang.new.counted.items
    c.loop-lang-test.true c.lang-item.is (c.loop-lang.invariant is_office before are) (c.in_ok-count_lang.ensures is_office)

pub returns : goal.returns
returns c = λ is_office before are.
    let counts = office_counts (office_in c.args.read.now.maps) in
    let same : c.as_slice-langs.result.now ≡ c.args.read.now.langs.items = search rules in
    subst (λ langs. AreCounted counts (before ++ map (λ lang. (c.args.domain.now, lang)) langs) c.loop-lang.counted.items) same
    (all_counted counts before c.args.domain.now c.as_slice-langs.result.now c.loop-lang.lang-index c.loop-lang.counted.items c.loop-lang-test.false (c.loop-lang.invariant is_office before are))
