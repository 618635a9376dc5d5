-- Worked rows from the demo office, by the definitions alone.
use Rattle.std.specs.Prelude.{◌≡◌, [], ◌∷◌, None, codes, refl}
use Rattle.std.proofs.Common.{ap, ◌∙◌}
use Rattle.std.specs.Fmt.{digits}
use Rattle.std.specs.FinMap as maps
use Rattle.po_text.specs.Texts.{Text, text_cmp}
use Rattle.units.specs.Office.{Office}
use Rattle.units.specs.Openings.{demo}
use Rattle.units.specs.declared.unit.UnitAction.TheVariants.{Translate}
use Rattle.request_book.specs.Replies.{Reply}
use Rattle.request_book.specs.declared.act.Request.{Request}
use Rattle.request_book.specs.Acts.{content_text}
use Rattle.serde_json.proofs.OnLiterals.{serde_json_on_literals}
use Rattle.checks.specs.Result.{result_state}
use Rattle.review.specs.UnitStep.{unit_step, refusals, unit_after}
use Rattle.replies.specs.Bodies.{Stepped, number_used}
use Rattle.office_specification.specs.Step.{step, act_step}
use Rattle.office_specification.specs.Deliveries.{reply_at, answers_of, first_of}
use Rattle.office_specification.proofs.rows.DemoRequests.{begun, told, first_line, domain_main, left_alone, header_de, unit_hello, role_ann, role_zed, act_on, hello, ann, root}

no_record : (number : Text) → maps.get begun.book number ≡ None
no_record number = maps.get-empty text_cmp number

-- ---- first translation

abbrev pub first_reply : Reply
first_reply = told 200 (codes "{\"revision\":2,\"state\":\"translated\"}")

pub first_line_step : (step demo first_line).1 ≡ first_reply
unfolding act_step unit_step refusals unit_after result_state serde_json_on_literals digits
first_line_step = rw (domain_main, header_de, unit_hello, role_ann) refl

first_line_reply : reply_at begun [] first_line ≡ first_reply
unfolding reply_at content_text serde_json_on_literals digits
first_line_reply = rw (maps.get-empty text_cmp) first_line_step

pub first_translation : answers_of begun (first_line ∷ []) ≡ first_reply ∷ []
first_translation = ap (λ r. r ∷ []) first_line_reply

-- ---- the same line twice

first_line_again : reply_at begun (first_line ∷ []) first_line ≡ first_reply
unfolding reply_at content_text serde_json_on_literals digits
first_line_again = rw (maps.get-empty text_cmp) first_line_step

pub same_line_twice : answers_of begun (first_line ∷ first_line ∷ []) ≡ first_reply ∷ first_reply ∷ []
same_line_twice = λ i. first_line_reply i ∷ first_line_again i ∷ []

-- the second changes nothing
first_of_twice : first_of begun.book (first_line ∷ first_line ∷ []) ≡ first_of begun.book (first_line ∷ [])
first_of_twice = rw (maps.get-empty text_cmp) refl

-- ---- a stale refusal, repeated: the same refusal, though the revision is now 2

abbrev pub stale : Request
stale = act_on hello ann 2 2 (Translate (codes "Servus" ∷ []))

abbrev pub stale_reply : Reply
stale_reply = told 409 (codes "{\"refusal\":\"stale\",\"rule\":5}")

stale_step : step demo stale ≡ (demo, stale_reply)
unfolding act_step unit_step refusals unit_after result_state serde_json_on_literals digits
stale_step = left_alone demo stale stale_reply (rw (domain_main, header_de, unit_hello, role_ann) refl)

stale_is_refused : reply_at begun [] stale ≡ stale_reply
unfolding reply_at content_text serde_json_on_literals digits
stale_is_refused = rw (maps.get-empty text_cmp) (ap (λ (s : Stepped Office). s.1) stale_step)

first_line_after_stale : reply_at begun (stale ∷ []) first_line ≡ first_reply
unfolding reply_at content_text serde_json_on_literals digits
first_line_after_stale = rw (no_record first_line.number, no_record stale.number) (ap (λ (s : Stepped Office). (step s.0 first_line).1) stale_step ∙ first_line_step)

stale_again : reply_at begun (stale ∷ first_line ∷ []) stale ≡ stale_reply
unfolding reply_at content_text serde_json_on_literals digits
stale_again = rw (maps.get-empty text_cmp) (ap (λ (s : Stepped Office). s.1) stale_step)

pub stale_refusal_repeated : answers_of begun (stale ∷ first_line ∷ stale ∷ []) ≡ stale_reply ∷ first_reply ∷ stale_reply ∷ []
stale_refusal_repeated = λ i. stale_is_refused i ∷ first_line_after_stale i ∷ stale_again i ∷ []

-- ---- a number used with another content, or by another caller

pub number_used_text : number_used ≡ told 409 (codes "{\"error\":\"number-used\"}")
unfolding serde_json_on_literals digits
number_used_text = refl

abbrev pub other_forms : Request
other_forms = act_on hello ann 1 1 (Translate (codes "Moin" ∷ []))

other_forms_reply : reply_at begun (first_line ∷ []) other_forms ≡ number_used
unfolding reply_at content_text serde_json_on_literals digits
other_forms_reply = rw (maps.get-empty text_cmp) refl

first_line_after_other : reply_at begun (first_line ∷ other_forms ∷ []) first_line ≡ first_reply
unfolding reply_at content_text serde_json_on_literals digits
first_line_after_other = rw (maps.get-empty text_cmp) first_line_step

pub number_used_with_another_content : answers_of begun (first_line ∷ other_forms ∷ first_line ∷ []) ≡ first_reply ∷ number_used ∷ first_reply ∷ []
number_used_with_another_content = λ i. first_line_reply i ∷ other_forms_reply i ∷ first_line_after_other i ∷ []

-- the unit still has the first forms
first_of_other : first_of begun.book (first_line ∷ other_forms ∷ first_line ∷ []) ≡ first_of begun.book (first_line ∷ [])
first_of_other = rw (maps.get-empty text_cmp) refl

abbrev pub other_caller : Request
other_caller = act_on hello root 1 1 (Translate (codes "Hallo" ∷ []))

other_caller_reply : reply_at begun (first_line ∷ []) other_caller ≡ number_used
unfolding reply_at content_text serde_json_on_literals digits
other_caller_reply = rw (maps.get-empty text_cmp) refl

pub number_used_by_another_caller : answers_of begun (first_line ∷ other_caller ∷ []) ≡ first_reply ∷ number_used ∷ []
number_used_by_another_caller = λ i. first_line_reply i ∷ other_caller_reply i ∷ []

-- ---- refusals

-- a caller who isn't in the team
pub role_is_refused : (step demo (act_on hello (codes "zed") 4 1 (Translate (codes "Hallo" ∷ [])))).1 ≡ told 403 (codes "{\"refusal\":\"role\",\"rule\":3}")
unfolding act_step unit_step refusals unit_after result_state serde_json_on_literals digits
role_is_refused = rw (domain_main, header_de, unit_hello, role_zed) refl

-- nothing would change
pub same_is_refused : (step demo (act_on hello ann 5 1 (Translate ([] ∷ [])))).1 ≡ told 409 (codes "{\"refusal\":\"same\",\"rule\":12}")
unfolding act_step unit_step refusals unit_after result_state serde_json_on_literals digits
same_is_refused = rw (domain_main, header_de, unit_hello, role_ann) refl

-- two forms where one is needed
pub plural_count_is_refused : (step demo (act_on hello ann 5 1 (Translate (codes "a" ∷ codes "b" ∷ [])))).1 ≡ told 422 (codes "{\"refusal\":\"plural-count\",\"rule\":7}")
unfolding act_step unit_step refusals unit_after result_state serde_json_on_literals digits
plural_count_is_refused = rw (domain_main, header_de, unit_hello, role_ann) refl
