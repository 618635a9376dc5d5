-- Worked rows of suggestions, votes and reviews on the demo office's one unit, in order, by the definitions alone.
use Rattle.std.specs.Prelude.{◌≡◌, [], ◌∷◌, Some, codes, refl}
use Rattle.std.specs.Fmt.{digits}
use Rattle.std.specs.FinMap as maps
use Rattle.units.specs.Project.{Place}
use Rattle.units.specs.Office.{Office, Domain, main}
use Rattle.units.specs.Openings.{demo, demo_domain, demo_unit}
use Rattle.units.specs.declared.unit.Suggestion.{Suggestion}
use Rattle.units.specs.declared.unit.Unit.{Unit}
use Rattle.units.specs.declared.unit.UnitAction.TheVariants.{Suggest, Vote, Accept, Approve}
use Rattle.units.specs.declared.unit.UnitState.TheVariants.{Translated}
use Rattle.units.specs.declared.votes.VoteValue.TheVariants.{For}
use Rattle.units.specs.Orders.{place_total}
use Rattle.uuid.specs.Text.{by_index}
use Rattle.serde_json.proofs.OnLiterals.{serde_json_on_literals}
use Rattle.checks.specs.Result.{result_state}
use Rattle.review.specs.UnitStep.{unit_step, refusals, unit_after}
use Rattle.office_specification.specs.Step.{step, act_step}
use Rattle.request_book.specs.declared.act.Request.{Request}
use Rattle.request_book.specs.Replies.{Reply}
use Rattle.office_specification.proofs.rows.DemoRequests.{told, domain_main, with_main, main_of, left_alone, header_de, unit_hello, role_ann, role_root, act_on, numbered, de, hello, ann, root}

abbrev place : Place
place = (de, hello)

-- the number 00000000-0000-4000-8000-000000000020 has this last byte
abbrev first_suggestion : Suggestion
first_suggestion = record { number = numbered 32; suggester = ann; forms = codes "Hallo" ∷ []; votes = maps.empty }

abbrev suggested_unit : Unit
suggested_unit = record demo_unit { suggestions = first_suggestion ∷ [] }

abbrev with_suggestion : Domain
with_suggestion = record demo_domain { units = maps.insert demo_domain.units place suggested_unit }

abbrev suggested : Office
suggested = with_main demo with_suggestion

abbrev accepted_unit : Unit
accepted_unit = record demo_unit { forms = codes "Hallo" ∷ []; state = Translated; revision = 2 }

abbrev with_acceptance : Domain
with_acceptance = record demo_domain { units = maps.insert with_suggestion.units place accepted_unit }

abbrev accepted : Office
accepted = with_main suggested with_acceptance

unit_suggested : maps.get with_suggestion.units place ≡ Some suggested_unit
unit_suggested = maps.get-insert place_total demo_domain.units place suggested_unit place

unit_accepted : maps.get with_acceptance.units place ≡ Some accepted_unit
unit_accepted = maps.get-insert place_total with_suggestion.units place accepted_unit place

main_suggested : maps.get suggested.domains main ≡ Some with_suggestion
main_suggested = main_of demo with_suggestion

main_accepted : maps.get accepted.domains main ≡ Some with_acceptance
main_accepted = main_of suggested with_acceptance

-- ---- the rows

-- the forms that stand there
abbrev same : Request
same = act_on hello ann 33 1 (Suggest ([] ∷ []))

abbrev is_same : Reply
is_same = told 409 (codes "{\"refusal\":\"same\",\"rule\":12}")

pub same_suggestion : step demo same ≡ (demo, is_same)
unfolding act_step unit_step refusals unit_after result_state serde_json_on_literals digits
same_suggestion = left_alone demo same is_same (rw (domain_main, header_de, unit_hello, role_ann) refl)

pub suggests : step demo (act_on hello ann 32 1 (Suggest (codes "Hallo" ∷ [])))
    ≡ (suggested, told 200 (codes "{\"revision\":1,\"state\":\"untranslated\",\"suggestion\":\"00000000-0000-4000-8000-000000000020\",\"votes\":1}"))
unfolding act_step unit_step refusals unit_after result_state serde_json_on_literals digits by_index
suggests = rw (domain_main, header_de, unit_hello, role_ann) refl

abbrev vote_for : Request
vote_for = act_on hello root 34 1 (Vote (numbered 32) (Some For))

abbrev is_off : Reply
is_off = told 409 (codes "{\"refusal\":\"voting-off\",\"rule\":9}")

pub voting_is_off : step suggested vote_for ≡ (suggested, is_off)
unfolding act_step unit_step refusals unit_after result_state serde_json_on_literals digits
voting_is_off = left_alone suggested vote_for is_off (rw (main_suggested, header_de, unit_suggested, role_root) refl)

abbrev approval : Request
approval = act_on hello root 36 1 Approve

abbrev no_reviews : Reply
no_reviews = told 409 (codes "{\"refusal\":\"reviews-off\",\"rule\":10}")

pub reviews_are_off : step suggested approval ≡ (suggested, no_reviews)
unfolding act_step unit_step refusals unit_after result_state serde_json_on_literals digits
reviews_are_off = left_alone suggested approval no_reviews (rw (main_suggested, header_de, unit_suggested, role_root) refl)

pub accepts : step suggested (act_on hello root 37 1 (Accept (numbered 32))) ≡ (accepted, told 200 (codes "{\"revision\":2,\"state\":\"translated\"}"))
unfolding act_step unit_step refusals unit_after result_state serde_json_on_literals digits
accepts = rw (main_suggested, header_de, unit_suggested, role_root) refl

abbrev empty_suggestion : Request
empty_suggestion = act_on hello ann 39 2 (Suggest ([] ∷ []))

abbrev is_unfit : Reply
is_unfit = told 422 (codes "{\"refusal\":\"unfit\",\"rule\":13}")

pub empty_suggestion_is_unfit : step accepted empty_suggestion ≡ (accepted, is_unfit)
unfolding act_step unit_step refusals unit_after result_state serde_json_on_literals digits
empty_suggestion_is_unfit = left_alone accepted empty_suggestion is_unfit (rw (main_accepted, header_de, unit_accepted, role_ann) refl)
