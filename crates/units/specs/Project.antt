-- A project: one domain of an office, with the team and the policy of the office. An act on a unit, a template and a language read
-- and change one project. There is no row, record or cached sum. Units are those of Weblate's documentation ("Translation
-- workflows"), entries those of the GNU gettext manual ("The Format of PO Files").
use Rattle.std.specs.Prelude.{List, Bool, Option, unwrap_or, find, filter, option_map, map}
use Rattle.std.specs.declared.cmp.Ordering.{Ordering}
use Rattle.std.specs.Ordering.{on, then_cmp, eq_by_cmp}
use Rattle.std.specs.FinMap as maps
use Rattle.po_text.specs.declared.entry.Entry.{Entry}
use Rattle.units.specs.declared.unit.Key.{Key}
use Rattle.units.specs.declared.unit.Unit.{Unit}
use Rattle.units.specs.declared.unit.UnitView.{UnitView}
use Rattle.units.specs.declared.unit.Policy.{Policy}
use Rattle.units.specs.declared.unit.Role.{Role}
use Rattle.units.specs.declared.unit.Role.TheVariants.{Guest}
use Rattle.po_text.specs.Texts.{Text, text_cmp, text_eq}
use Rattle.units.specs.Units.{key_cmp, key_of}

-- a unit's place in its domain: its language and its key
abbrev pub Place : Type 0
Place = Text × Key

-- by language, then by key
abbrev pub place_cmp : Place → Place → Ordering
place_cmp = then_cmp (on (λ place. place.0) text_cmp) (on (λ place. place.1) key_cmp)

abbrev pub place_eq : Place → Place → Bool
place_eq = eq_by_cmp place_cmp

pub record Project : Type 0 where
  pub template : List Entry  -- in the template's order
  pub headers : maps.FinMap text_cmp Entry  -- each language's header entry
  pub units : maps.FinMap place_cmp Unit  -- with their suggestions and votes
  pub team : maps.FinMap text_cmp Role
  pub policy : Policy

-- a caller who isn't in the team is a guest
abbrev pub role_in : maps.FinMap text_cmp Role → Text → Role
role_in team name = unwrap_or (maps.get team name) Guest

abbrev pub role_of : Project → Text → Role
role_of project name = role_in project.team name

-- the entry of a list that has a key
abbrev pub entry_of : List Entry → Key → Option Entry
entry_of entries key = find (λ entry. eq_by_cmp key_cmp key (key_of entry)) entries

abbrev pub view_of : Project → Place → Option UnitView
view_of project place = option_map (λ unit. record { unit = unit; source = entry_of project.template place.1 }) (maps.get project.units place)

abbrev pub languages : Project → List Text
languages project = maps.keys project.headers

-- a language's units, in the order of their keys
abbrev pub units_of : Project → Text → List Unit
units_of project lang = map (λ e. e.1) (filter (λ e. text_eq lang e.0.0) (maps.entries project.units))

-- the project with a unit at its place
abbrev pub with_unit : Project → Place → Unit → Project
with_unit project place unit = record project { units = maps.insert project.units place unit }
