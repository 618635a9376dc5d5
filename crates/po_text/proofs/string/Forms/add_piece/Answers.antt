use Rattle.std.proofs.Common.{ap}
use Rattle.po_text.specs.Strings.{is_string}
use Rattle.po_text.proofs.LastTexts.{forms_put, more_at, last_place}
use Rattle.po_text.proofs.string.Forms.add_piece.Goals as goal

pub invariant_of-self : goal.invariant_of-self
invariant_of-self c = forms_put c.self.inside.strings c.replace_at-form.new.self _ c.empty.result c.replace_at-form.ensures.now c.self.invariant (ap is_string c.empty.ensures)

pub invariant_of-self-2 : goal.invariant_of-self-2
invariant_of-self-2 c =
    let emptied = forms_put c.self.inside.strings c.replace_at-form.new.self _ c.empty.result c.replace_at-form.ensures.now c.self.invariant (ap is_string c.empty.ensures) in
    forms_put c.replace_at-form.new.self c.replace_at.new.self _ c.add_piece.new.self c.replace_at.ensures.now emptied c.as_str.ensures.fits

pub returns-clause-more : goal.returns-clause-more
returns-clause-more c =
    rw (c.replace_at.ensures.now, c.in_ok-add_piece.ensures, c.replace_at-form.ensures.now, ← c.self.view_is)
    (more_at c.self.inside.strings _ _ _ _ (last_place c.self.inside.strings c.as_slice.result.now c.as_slice.ensures c.self.invariant) c.replace_at-form.ensures.was)
