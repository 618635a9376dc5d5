-- Members as the tokens that they are written with. Only private clauses and proofs cite this file.
use Rattle.std.specs.Prelude.{◌≡◌, List, [], ◌∷◌, ◌++◌, Bool, Option, Some, None, option_map}
use Rattle.json.specs.Token.{Token, key, end_object}
use Rattle.json.specs.Tree.{json_tokens}
use Rattle.serde_json.specs.Data.{Data}
use Rattle.serde_json.specs.Written.{outline}
use Rattle.po_text.specs.Texts.{Text}
use Rattle.request_book.specs.Words.{Field}
use Rattle.request_book.specs.Fields.{unit_fields, UnitFits}
use Rattle.request_book.specs.declared.parts.UnitMembers.{UnitMembers}
use Rattle.request_book.specs.declared.straight.Rest.{Rest}

abbrev pub data_tokens : Data → List Token
data_tokens d = json_tokens (outline d)

-- a member, where it has a value
abbrev pub member_tokens : Text → Option Data → List Token
member_tokens k None = []
member_tokens k (Some d) = key k ∷ data_tokens d

-- an object's members, one after another
abbrev pub body_tokens : List Field → List Token
body_tokens [] = []
body_tokens (f ∷ fs) = member_tokens f.0 f.1 ++ body_tokens fs

-- ---- what is read of them

-- the token of a key, or of the end of the object
abbrev pub key_token : Option Text → Token
key_token None = end_object
key_token (Some k) = key k

-- the tokens that are still to come
abbrev pub left : Rest → List Token
left rest = key_token (option_map (λ k. k.now) rest.key) ∷ rest.reader

-- the tokens are those of these members behind `act`, the domain `main` left out or written out, and of the end of the object
pub record ReadsUnit (ts : List Token) (m : UnitMembers) : Type 0 where
  pub out : Bool
  pub tokens : ts ≡ body_tokens (unit_fields out m) ++ end_object ∷ []
  pub fits : UnitFits m
