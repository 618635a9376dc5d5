-- Changes of an office that an adoption can read back of their rows. This project's own rule.
use Rattle.std.specs.Prelude.{⊤}
use Rattle.office_specification.specs.declared.values.Change.{Change}
use Rattle.office_specification.specs.declared.values.Change.TheVariants.{OneRole, NewPolicy, NewDomain, InDomain}
use Rattle.office_specification.specs.declared.values.DomainChange.{DomainChange}
use Rattle.office_specification.specs.declared.values.DomainChange.TheVariants.{NewLanguage, NewTemplate}
use Rattle.sql_keepable.specs.Keepable.{IsNamed, AreKeepableUnits, AreKeepablePlans, IsKeepableLanguage, AreKeepableEntries}

abbrev pub IsKeepableDomainChange : DomainChange → Type 0
IsKeepableDomainChange (NewLanguage lang language plan tally) = IsKeepableLanguage lang language.header × AreKeepableUnits lang plan.units
IsKeepableDomainChange (NewTemplate template plans tallies) = AreKeepableEntries template × AreKeepablePlans plans.items

abbrev pub IsKeepableChange : Change → Type 0
IsKeepableChange (OneRole name role) = IsNamed name
IsKeepableChange (NewPolicy policy) = ⊤
IsKeepableChange (NewDomain domain) = IsNamed domain
IsKeepableChange (InDomain domain change) = IsKeepableDomainChange change
