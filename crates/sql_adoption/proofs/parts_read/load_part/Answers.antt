use Rattle.std.proofs.Common.{sym, subst}
use Rattle.sqlite.specs.Held.{state}
use Rattle.office_specification.specs.Parts.{AreAlikeIn}
use Rattle.office_specification.specs.declared.parts.Part.{Part}
use Rattle.office_maps.specs.OfficeIn.{office_in}
use Rattle.sql_schema.specs.Layouts.{rows_named}
use Rattle.sql_schema.specs.Whole.{IsLookUp}
use Rattle.sql_meaning.specs.Domains.{office_of_rows}
use Rattle.sql_adoption.proofs.parts_read.load_part.Goals as goal

pub returns-in-Team : goal.returns-in-Team
returns-in-Team g c = record {
  found = subst (λ (part : Part). IsLookUp (state g.S.Store c.args.connection.now) (state g.S.Store c.load_shared.new.connection) c.load_shared.result (λ db maps. AreAlikeIn part (office_in maps) (office_of_rows (rows_named db))))
      (sym c.in-Team.is) c.load_shared.ensures.found;
  disk = c.load_shared.ensures.disk;
}

pub returns-in-Languages : goal.returns-in-Languages
returns-in-Languages g c = record {
  found = subst (λ (part : Part). IsLookUp (state g.S.Store c.args.connection.now) (state g.S.Store c.load_languages.new.connection) c.load_languages.result (λ db maps. AreAlikeIn part (office_in maps) (office_of_rows (rows_named db))))
      (sym c.in-Languages.is) c.load_languages.ensures.found;
  disk = c.load_languages.ensures.disk;
}

pub returns-in-Domain : goal.returns-in-Domain
returns-in-Domain g c = record {
  found = subst (λ (part : Part). IsLookUp (state g.S.Store c.args.connection.now) (state g.S.Store c.load_domain.new.connection) c.load_domain.result (λ db maps. AreAlikeIn part (office_in maps) (office_of_rows (rows_named db))))
      (sym c.in-Domain.is) c.load_domain.ensures.found;
  disk = c.load_domain.ensures.disk;
}
