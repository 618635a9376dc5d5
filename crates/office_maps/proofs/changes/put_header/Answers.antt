use Rattle.std.proofs.Common.{List, String, string_bytes, ap}
use Rattle.std.specs.FinMap as maps
use Rattle.po_text.specs.Texts.{text_cmp}
use Rattle.office_specification.specs.declared.values.Language.{Language}
use Rattle.office_maps.specs.MapEntries.{mapped}
use Rattle.office_maps.proofs.changes.put_header.Goals as goal

pub returns-in-Err-clause-no_header : goal.returns-in-Err-clause-no_header
returns-in-Err-clause-no_header c = ap (λ (rows : List (String _ × Language)). maps.from_entries {R = text_cmp} (mapped string_bytes (λ (language : Language). language.header) rows)) c.in-Err.ensures.err

pub returns-in-Err-clause-no_units : goal.returns-in-Err-clause-no_units
returns-in-Err-clause-no_units c = c.put_back.ensures
