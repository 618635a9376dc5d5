use Rattle.std.proofs.Common.{rules, ◌≡◌, ap, ◌∙◌}
use Rattle.office_maps.specs.OfficeIn.{office_in}
use Rattle.sql_adoption.specs.FigureRows.{are_rows_of}
use Rattle.sql_adoption.proofs.TalliesTold.{tallies_told}
use Rattle.sql_adoption.proofs.language_tallies.are_tallies.Goals as goal

pub returns : goal.returns
returns c = λ is_office.
    let read = c.args.read.now in
    let rows = c.args.rows.now in
    let same : c.as_slice.result.now ≡ c.in_ok-counted.counted.items = search rules in
    tallies_told (office_in read.maps) read.domains.items read.langs.items c.requires.holds c.in_ok-counted.counted.items (c.in_ok-counted.ensures is_office) rows c.are_rows_of.result
    (c.are_rows_of.ensures ∙ ap (λ counted. are_rows_of counted rows) same)
