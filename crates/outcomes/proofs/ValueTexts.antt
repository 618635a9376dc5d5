-- The values of an act, written in the order of their keys, are their object's text.
use Rattle.std.proofs.Common.{◌≡◌, ℤ, pos, negsuc, List, [], ◌∷◌, ◌++◌, refl, ap, ◌∙◌}
use Rattle.std.specs.Fmt.{signed_decimal}
use Rattle.json.specs.Token.{Token, begin_object, end_object}
use Rattle.json.specs.Print.{print}
use Rattle.json.specs.Tree.{json_tokens}
use Rattle.serde_json.specs.Find.{of_integer}
use Rattle.serde_json.specs.Written.{number_text, outline}
use Rattle.serde_json.proofs.Texts.{print-outline}
use Rattle.review.specs.declared.decision.Values.{Values}
use Rattle.review.specs.declared.decision.Values.TheVariants.{Plain, Suggested, Voted}
use Rattle.request_book.specs.Words.{object_of}
use Rattle.replies.specs.Bodies.{done, value_fields}
use Rattle.outcomes.specs.ValueTokens.{tokens_of}

pub whole_text : (z : ℤ) → number_text (of_integer z) ≡ signed_decimal z
whole_text (pos n) = refl
whole_text (negsuc n) = refl

object_tokens : (values : Values) → ((begin_object ∷ []) ++ tokens_of (value_fields values)) ++ end_object ∷ [] ≡ json_tokens (outline (object_of (value_fields values)))
object_tokens (Plain revision state) = refl
object_tokens (Suggested revision state suggestion votes) = refl
object_tokens (Voted accepted revision state votes) = refl

-- the values written between braces are the body
pub print_values : (values : Values) (ts : List Token) → ts ≡ ((begin_object ∷ []) ++ tokens_of (value_fields values)) ++ end_object ∷ [] → print ts ≡ (done values).body
print_values values ts is = ap print (is ∙ object_tokens values) ∙ print-outline (object_of (value_fields values))
