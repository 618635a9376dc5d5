-- Fields as the tokens that they are written with. Only private clauses and proofs cite this file.
use Rattle.std.specs.Prelude.{List, [], ◌∷◌, ◌++◌}
use Rattle.json.specs.Token.{Token, key}
use Rattle.json.specs.Tree.{json_tokens}
use Rattle.serde_json.specs.Written.{outline}
use Rattle.request_book.specs.Words.{Fields}

-- each field's member, one after another
abbrev pub tokens_of : Fields → List Token
tokens_of [] = []
tokens_of (f ∷ fs) = key f.0 ∷ (json_tokens (outline f.1) ++ tokens_of fs)
