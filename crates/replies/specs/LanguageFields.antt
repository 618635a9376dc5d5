-- The fields of the object that tells each language's counts. This project's own words.
use Rattle.std.specs.Prelude.{List, map}
use Rattle.po_text.specs.Texts.{Text}
use Rattle.template_update.specs.declared.plans.Plan.{Plan}
use Rattle.request_book.specs.Words.{Fields, object_of}
use Rattle.replies.specs.Bodies.{count_fields}

-- each language's counts
abbrev pub language_fields : List (Text × Plan) → Fields
language_fields plans = map (λ p. (p.0, object_of (count_fields p.1.counts))) plans
