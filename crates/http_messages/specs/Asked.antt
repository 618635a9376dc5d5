-- What a message asks: the tests that a message passes, in their order, each with the answer to one that fails it and with whether the
-- connection ends there; and the question of a message that passes all. This project's own rule.
use Rattle.std.specs.Prelude.{ℕ, ◌&&◌, nat_lt, not, List, [], ◌∷◌, codes, Option, Some, None, is_none, Bool, true, false, if◌then◌else◌}
use Rattle.std.specs.Option.{option_and_then, option_zip}
use Rattle.std.specs.Str.{bytes_eq}
use Rattle.po_text.specs.Texts.{Text}
use Rattle.units.specs.Limits.{is_name, is_lang}
use Rattle.units.specs.Office.{main}
use Rattle.http_messages.specs.declared.head.BodyLength.{BodyLength}
use Rattle.http_messages.specs.declared.head.BodyLength.TheVariants.{Absent, Bad, Given}
use Rattle.http_messages.specs.Heads.{Head}
use Rattle.http_messages.specs.Framing.{values_of, body_length, closes}
use Rattle.http_messages.specs.declared.refusal.Refusal.{Refusal}
use Rattle.http_messages.specs.declared.refusal.Refusal.TheVariants.{Malformed, TooLarge, NoRoute, Method, NoLength}
use Rattle.http_messages.specs.declared.route.RouteKind.TheVariants.{Requests, Export, Unit, Stats}
use Rattle.http_messages.specs.Targets.{path_of, query_of}
use Rattle.http_messages.specs.Routes.{RoutePart, route_of, allowed, method_of}
use Rattle.http_messages.specs.Queries.{UnitName, unit_of}

-- ---- the tests

pub record Test : Type 0 where
  -- whether the message fails it
  pub fails : Bool
  pub refusal : Refusal
  -- whether the connection ends
  pub ends : Bool

abbrev pub test : Bool → Refusal → Bool → Test
test fails refusal ends = record { fails = fails; refusal = refusal; ends = ends }

-- the first that fails
abbrev pub first_failed : List Test → Option Test
first_failed [] = None
first_failed (t ∷ ts) = if t.fails then Some t else first_failed ts

abbrev pub is_bad : BodyLength → Bool
is_bad Absent = false
is_bad Bad = true
is_bad (Given n) = false

abbrev pub is_absent : BodyLength → Bool
is_absent Absent = true
is_absent Bad = false
is_absent (Given n) = false

-- a body has no bytes where no length is given
abbrev pub size : BodyLength → ℕ
size Absent = 0
size Bad = 0
size (Given n) = n

abbrev pub body_limit : ℕ
body_limit = 20971520

abbrev pub body_size : Head → ℕ
body_size head = size (body_length head)

-- those of the head alone: its body's length is there once in digits, and isn't over the limit
abbrev pub head_tests : Head → List Test
head_tests head =
    test (is_bad (body_length head)) Malformed true
    ∷ test (nat_lt body_limit (body_size head)) TooLarge true
    ∷ []

-- the target's route, if it has no query or may have one
abbrev pub target_route : Head → Option RoutePart
target_route head = option_and_then (λ route. allowed route (query_of head.target)) (route_of (path_of head.target))

abbrev pub takes_method : Option RoutePart → List ℕ → Bool
takes_method None method = false
takes_method (Some route) method = bytes_eq method (method_of route.0)

abbrev pub wants_length : Option RoutePart → Bool
wants_length None = false
wants_length (Some (Requests, parts)) = true
wants_length (Some (Export, parts)) = false
wants_length (Some (Unit, parts)) = false
wants_length (Some (Stats, parts)) = false

-- those of a head whose body is there: a route, its method, and for a request a length
abbrev pub route_tests : Head → List Test
route_tests head =
    test (is_none (target_route head)) NoRoute false
    ∷ test (not (takes_method (target_route head) head.method)) Method false
    ∷ test (wants_length (target_route head) && is_absent (body_length head)) NoLength true
    ∷ []

-- ---- the questions

-- a language by its domain and its code
abbrev pub LanguageName : Type 0
LanguageName = Text × Text

pub data Asked : Type 0 where
  refused : Refusal → Asked
  -- the part of the path that numbers a request, the values of `X-Office-Caller`, and the body
  request : List ℕ → List (List ℕ) → List ℕ → Asked
  export : LanguageName → Asked
  unit : UnitName → Asked
  -- a unit, by a query that names none
  unnamed : Asked
  stats : LanguageName → Asked

-- what is asked of a language, where there is one
abbrev pub asked_of : (LanguageName → Asked) → Option LanguageName → Asked
asked_of ask None = refused Malformed
asked_of ask (Some x) = ask x

abbrev pub lang_in : List ℕ → Option Text
lang_in part = if is_lang part then Some part else None

-- where the path names none, it is the one that is always there
abbrev pub domain_in : Option (List ℕ) → Option Text
domain_in None = Some main
domain_in (Some part) = if is_name part then Some part else None

abbrev pub language_in : Option (List ℕ) × List ℕ → Option LanguageName
language_in parts = option_zip (domain_in parts.0) (lang_in parts.1)

abbrev pub named : Option UnitName → Asked
named None = unnamed
named (Some name) = unit name

-- without a query there is nothing to read
abbrev pub unit_in_query : Option (List ℕ) → Asked
unit_in_query None = refused Malformed
unit_in_query (Some query) = named (unit_of query)

abbrev pub question : Option RoutePart → Head → List ℕ → Asked
question None head body = refused NoRoute
question (Some (Requests, parts)) head body = request parts.1 (values_of (codes "X-Office-Caller") head.fields) body
question (Some (Export, parts)) head body = asked_of export (language_in parts)
question (Some (Unit, parts)) head body = unit_in_query (query_of head.target)
question (Some (Stats, parts)) head body = asked_of stats (language_in parts)

-- ---- a message

-- what is asked, and whether the connection ends
pub record Asking : Type 0 where
  pub asked : Asked
  pub ends : Bool

abbrev pub ending : Refusal → Asking
ending refusal = record { asked = refused refusal; ends = true }

-- a message whose body is there
abbrev pub routed : Option Test → Head → List ℕ → Asking
routed None head body = record { asked = question (target_route head) head body; ends = closes head }
routed (Some t) head body = record { asked = refused t.refusal; ends = if t.ends then true else closes head }

abbrev pub asking_of : Head → List ℕ → Asking
asking_of head body = routed (first_failed (route_tests head)) head body
