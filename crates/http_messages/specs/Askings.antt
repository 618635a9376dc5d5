-- What a message asks, as the code says it. This project's own words, for the code's own types.
use Rattle.std.specs.Prelude.{◌≡◌, ℕ, List, option_map, ⊤}
use Rattle.http_messages.specs.Values.{AreValues}
use Rattle.http_messages.specs.declared.route.Route.{Route}
use Rattle.http_messages.specs.declared.message.LanguageName.{LanguageName as LanguageValue}
use Rattle.http_messages.specs.declared.message.Asked.{Asked as AskedValue}
use Rattle.http_messages.specs.declared.message.Asked.TheVariants as told
use Rattle.http_messages.specs.declared.message.Asking.{Asking as AskingValue}
use Rattle.http_messages.specs.Routes.{RoutePart}
use Rattle.http_messages.specs.Pairs.{name_of}
use Rattle.http_messages.specs.Asked.{LanguageName, Asked, refused, request, export, unit, unnamed, stats, Asking}

abbrev pub route_at : Route → RoutePart
route_at route = (route.kind, (option_map (λ domain. domain.now) route.domain, route.part.now))

abbrev pub language_at : LanguageValue → LanguageName
language_at name = (name.domain, name.lang)

abbrev pub IsAsked : AskedValue → Asked → Type 0
IsAsked (told.Refused refusal) asked = asked ≡ refused refusal
IsAsked (told.Request parts) asked = (values : List (List ℕ)) × AreValues parts.callers values × (asked ≡ request parts.number.now values parts.body.now)
IsAsked (told.Export name) asked = asked ≡ export (language_at name)
IsAsked (told.Unit name) asked = asked ≡ unit (name_of name)
IsAsked told.Unnamed asked = asked ≡ unnamed
IsAsked (told.Stats name) asked = asked ≡ stats (language_at name)

pub record IsAsking (asking : AskingValue) (is : Asking) : Type 0 where
  pub asked : IsAsked asking.asked is.asked
  pub ends : asking.ends ≡ is.ends

-- what takes memory to be read: a unit's query
abbrev pub MayTakeMemory : Asked → Type 0
MayTakeMemory (refused _) = ⊥
MayTakeMemory (request number callers body) = ⊥
MayTakeMemory (export name) = ⊥
MayTakeMemory (unit name) = ⊤
MayTakeMemory unnamed = ⊤
MayTakeMemory (stats name) = ⊥
