use Rattle.std.proofs.Common.{◌≡◌, false, length}
use Rattle.serde_json.specs.Data.{object, no_members}
use Rattle.serde_json.specs.View.{members_view}
use Rattle.serde_json.specs.Written.{has_float}
use Rattle.request_book.specs.Words.{with_fields}
use Rattle.replies.specs.LanguageFields.{language_fields}
use Rattle.outcomes.proofs.bodies.languages.Given as goal

-- with the languages that are left, the members are those of all
abbrev pub invariant-loop-last : goal.invariant-loop-last
invariant-loop-last l = record {
  value : with_fields (language_fields l.left) (members_view l.body.map.entries) ≡ with_fields (language_fields l.fn.plans) no_members;
  flat : has_float (object (members_view l.body.map.entries)) ≡ false;
}

abbrev pub decreases-loop-last : goal.decreases-loop-last
decreases-loop-last l = length l.left
