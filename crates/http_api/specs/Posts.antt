-- The request that a message brings: its number in the path, its caller in the one header `X-Office-Caller`, its act in the body. This project's
-- own rule.
use Rattle.std.specs.Prelude.{◌≡◌, List, [], ◌∷◌, ℕ, IsUtf8}
use Rattle.request_book.specs.Acts.{IsActText, IsRequest}
use Rattle.request_book.specs.Words.{number_text}
use Rattle.request_book.specs.declared.act.Request.{Request}

pub record IsPosted (number : List ℕ) (callers : List (List ℕ)) (body : List ℕ) (request : Request) : Type 0 where
  pub named : number ≡ number_text request.number
  pub caller : callers ≡ request.caller ∷ []
  pub text : IsUtf8 body
  pub act : IsActText body request.act
  pub limits : IsRequest request
