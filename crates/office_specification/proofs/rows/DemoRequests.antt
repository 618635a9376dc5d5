-- What is found in the demo office, and a few requests.
use Rattle.std.specs.Prelude.{◌≡◌, ℕ, List, [], ◌∷◌, flat_map, Option, Some, None, codes, unwrap_or}
use Rattle.std.proofs.Common.{◌∙◌, ap}
use Rattle.std.specs.FinMap as maps
use Rattle.po_text.specs.Texts.{Text, text_cmp}
use Rattle.po_write.specs.Text.{ended}
use Rattle.units.specs.declared.unit.Key.{Key}
use Rattle.units.specs.declared.unit.Role.TheVariants.{Manager, Translator}
use Rattle.units.specs.declared.unit.UnitAction.TheVariants.{Translate}
use Rattle.units.specs.declared.unit.UnitAction.{UnitAction}
use Rattle.units.specs.Orders.{text_total, place_total}
use Rattle.request_book.specs.declared.act.Act.TheVariants.{OnUnit}
use Rattle.request_book.specs.declared.act.Request.{Request}
use Rattle.units.specs.Project.{Project}
use Rattle.units.specs.Office.{Office, Domain, main, empty_domain, as_project, project_in, with_project}
use Rattle.units.specs.Openings.{demo, demo_domain, demo_unit, demo_header, plain_entry}
use Rattle.request_book.specs.Book.{OfficeWithBook}
use Rattle.request_book.specs.Replies.{Reply}
use Rattle.office_specification.specs.Step.{step}
use Rattle.office_specification.proofs.domains.InDomains.{with_project-same}

-- the demo office, with nothing recorded
abbrev pub begun : OfficeWithBook
begun = record { office = demo; book = maps.empty }

abbrev pub de : Text
de = codes "de"

abbrev pub hello : Key
hello = record { ctx = None; id = codes "Hello" }

abbrev pub ann : Text
ann = codes "ann"

abbrev pub root : Text
root = codes "root"

-- the number 00000000-0000-4000-8000-000000000001 and its like
abbrev pub numbered : ℕ → Text
numbered n = 0 ∷ 0 ∷ 0 ∷ 0 ∷ 0 ∷ 0 ∷ 64 ∷ 0 ∷ 128 ∷ 0 ∷ 0 ∷ 0 ∷ 0 ∷ 0 ∷ 0 ∷ n ∷ []

abbrev pub told : ℕ → Text → Reply
told status body = record { status = status; body = body }

-- the lines of a text
abbrev pub lines : List Text → Text
lines ls = flat_map ended ls

abbrev pub act_on : Key → Text → ℕ → ℕ → UnitAction → Request
act_on key caller n seen action = record { number = numbered n; caller = caller; act = OnUnit main de key (record { seen = seen; action = action }) }

-- `Hello` to `Hallo`
abbrev pub first_line : Request
first_line = act_on hello ann 1 1 (Translate (codes "Hallo" ∷ []))

-- its one domain, with team and policy
abbrev pub demo_project : Project
demo_project = as_project demo demo_domain

pub domain_main : maps.get demo.domains main ≡ Some demo_domain
domain_main = maps.get-insert text_total maps.empty main demo_domain main

pub project_main : project_in demo main ≡ demo_project
project_main = ap (λ (o : Option Domain). as_project demo (unwrap_or o empty_domain)) domain_main

pub header_de : maps.get demo_domain.headers de ≡ Some (plain_entry [] demo_header)
header_de = maps.get-insert text_total maps.empty de (plain_entry [] demo_header) de

pub unit_hello : maps.get demo_domain.units (de, hello) ≡ Some demo_unit
unit_hello = maps.get-insert place_total maps.empty (de, hello) demo_unit (de, hello)

pub role_ann : maps.get demo.team ann ≡ Some Translator
role_ann = maps.get-insert text_total _ ann Translator ann

pub role_root : maps.get demo.team root ≡ Some Manager
role_root = maps.get-insert text_total _ ann Translator root ∙ maps.get-insert text_total _ root Manager root

pub role_zed : maps.get demo.team (codes "zed") ≡ None
role_zed = maps.get-insert text_total _ ann Translator (codes "zed") ∙ (maps.get-insert text_total _ root Manager (codes "zed") ∙ maps.get-empty text_cmp (codes "zed"))

-- ---- offices that come of it

-- an office with this for its `main`
abbrev pub with_main : Office → Domain → Office
with_main office domain = record office { domains = maps.insert office.domains main domain }

pub main_of : (office : Office) (domain : Domain) → maps.get (with_main office domain).domains main ≡ Some domain
main_of office domain = maps.get-insert text_total office.domains main domain main

-- where an act leaves the project of `main`, the office is as it was
pub left_alone : (office : Office) (request : Request) (reply : Reply) → step office request ≡ (with_project office main (project_in office main), reply) → step office request ≡ (office, reply)
left_alone office request reply is = is ∙ (λ i. (with_project-same office main i, reply))
