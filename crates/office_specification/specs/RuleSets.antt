-- Plural rules and their faults are sets: of an equation between two of them there is one proof.
use base.Stored.{Coded-set}
use Rattle.plural_expr.specs.Values.{Rule}
use Rattle.plural_expr.specs.Codes.{coded_rule}
use Rattle.plural_expr.specs.declared.fault.PluralFault.{PluralFault}
use Rattle.plural_expr.specs.contracts.fault.PluralFault as plural_fault

pub Rule-set : IsSet Rule
Rule-set = Coded-set coded_rule

pub PluralFault-set : IsSet PluralFault
PluralFault-set = Coded-set (plural_fault.the_row).coded
