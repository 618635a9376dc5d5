-- What the demo office's header says, computed by the definitions.
use Rattle.std.proofs.Common.{◌≡◌, [], Some, Ok, Err, true, false, refl, sym, ap, ◌∙◌}
use Rattle.std.specs.Prelude.{codes, is_ok}
use Rattle.plural_expr.specs.declared.fault.PluralFault.{PluralFault}
use Rattle.plural_expr.specs.Tokens.{tokens_behind, token_at}
use Rattle.plural_expr.specs.Values.{Rule, value_of}
use Rattle.plural_expr.specs.Plain.{rule_of, rule_at, operand_at, behind}
use Rattle.plural_expr.specs.Faults.{values_fault, reading_of}
use Rattle.po_lex.specs.Lines.{lines_of}
use Rattle.po_text.specs.declared.entry.Entry.{Entry}
use Rattle.po_text.specs.Header.{field_value}
use Rattle.units.specs.Rules.{rule_in, rule_of_field, by_result}
use Rattle.units.specs.Openings.{plain_entry, demo_header}

sound : is_ok (reading_of (codes "nplurals=2; plural=n != 1;")) ≡ true
unfolding reading_of values_fault rule_of rule_at operand_at behind tokens_behind token_at value_of
sound = refl

pub no_fault : (fault : PluralFault) → reading_of (codes "nplurals=2; plural=n != 1;") ≡ Err fault → ⊥
no_fault fault e = let wrong : true ≡ false = sym sound ∙ ap is_ok e in cc

field : field_value (codes "Plural-Forms") demo_header ≡ Some (codes "nplurals=2; plural=n != 1;")
unfolding field_value lines_of
field = refl

pub ruled : (header : Entry) (rule : Rule) → header ≡ plain_entry [] demo_header → reading_of (codes "nplurals=2; plural=n != 1;") ≡ Ok rule → rule_in (Some header) ≡ Ok rule
ruled header rule is read =
    ap (λ h. rule_in (Some h)) is ∙ ap rule_of_field field ∙ ap (by_result (λ fault. Err (Some fault)) Ok) read
