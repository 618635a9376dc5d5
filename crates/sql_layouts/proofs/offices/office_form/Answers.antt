use Rattle.std.proofs.Common.{subst}
use Rattle.sqlite.specs.Schema.{Schema}
use Rattle.sql_schema.specs.Layouts.{Form, IsLaidOut}
use Rattle.sql_layouts.proofs.offices.office_form.Goals as goal

pub is_no_office-requires-clause-other : goal.is_no_office-requires-clause-other
is_no_office-requires-clause-other g c = subst (λ (schema : Schema). (form : Form) → ¬ IsLaidOut form schema) c.schema.ensures.value (c.form_of.ensures.none c.in-None.is)
