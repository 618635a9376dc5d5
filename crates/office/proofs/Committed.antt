-- What was read, decided and committed is what the delivery of a new number leaves, and keeps the rules.
use Rattle.std.proofs.Common.{◌≡◌, ◌∙◌, sym, ap, subst, Option, Some, None, IsTrue, Result, Ok, Err, refl}
use Rattle.std.specs.Prelude.{is_none, option_map, option_and_then, [], ◌∷◌, IfOk, IfSome, OnOk}
use Rattle.std.specs.FinMap as maps
use Rattle.po_text.specs.Texts.{Text}
use Rattle.po_text.specs.declared.entry.Entry.{Entry}
use Rattle.units.specs.Office.{Office, project_in}
use Rattle.units.specs.Project.{Project, role_of, view_of}
use Rattle.units.specs.Rules.{rule_at}
use Rattle.units.specs.declared.unit.Key.{Key}
use Rattle.units.specs.declared.unit.UnitAct.{UnitAct}
use Rattle.units.specs.declared.unit.UnitView.{UnitView}
use Rattle.request_book.specs.declared.act.Act.TheVariants.{OnUnit}
use Rattle.request_book.specs.declared.act.Request.{Request}
use Rattle.request_book.specs.declared.book.Record.{Record}
use Rattle.request_book.specs.Replies.{Reply}
use Rattle.request_book.specs.Acts.{IsRequest, content_text}
use Rattle.request_book.specs.Book.{OfficeWithBook, Recorded, with_record}
use Rattle.replies.specs.Bodies.{Stepped}
use Rattle.office_specification.specs.declared.values.Outcome.{Outcome}
use Rattle.office_specification.specs.declared.values.UnitOutcome.{UnitOutcome}
use Rattle.office_specification.specs.declared.values.UnitWrite.{UnitWrite}
use Rattle.office_specification.specs.declared.values.ActContext.{ActContext}
use Rattle.office_specification.specs.UnitAccess.{context_of, view_written, written_at, with_write_in, IsWriteOver, IsPossibleWrite}
use Rattle.office_specification.specs.UnitOutcomes.{outcome_of, context_view, IsOutcomeBy}
use Rattle.office_specification.specs.OfficeChanges.{changed_by}
use Rattle.office_specification.specs.OfficeRules.{KeepsRules}
use Rattle.office_specification.specs.Step.{step}
use Rattle.office_specification.specs.Deliveries.{first_delivered, left_by, reply_from}
use Rattle.office_specification.proofs.acts.UnitActs.{recorded_unit_act}
use Rattle.office_specification.proofs.retries.Delivered.{first_time, IsDelivery}
use Rattle.office_specification.proofs.rules.KeptRules.{kept_rules}
use Rattle.outcomes.specs.declared.outcome.OfficeOutcome.{OfficeOutcome}
use Rattle.outcomes.specs.Settled.{IsSettled}
use Rattle.office.specs.UnitReads.{found_for, Decides}

-- ---- a new number

not_known : (o : Option Recorded) (x : Request) → IsTrue (is_none o) → None ≡ option_map (λ recorded. reply_from recorded x) o
not_known None x fresh = refl
not_known (Some recorded) x fresh = cc

first_keeps : (m : OfficeWithBook) (x : Request) → IsRequest x → IsTrue (is_none (maps.get m.book x.number)) → KeepsRules m → KeepsRules (first_delivered m x).0
first_keeps m x given fresh start =
    let leaves : (first_delivered m x).0 ≡ left_by m (x ∷ []) =
    IsDelivery.tables (first_time m m (first_delivered m x).0 x (first_delivered m x).1 refl (not_known (maps.get m.book x.number) x fresh) refl) in
    subst KeepsRules (sym leaves) (kept_rules m x given start)

-- a commit that hands its reply on leaves and answers what the delivery does
pub handed_on : {E : Type 0} (r : Result Reply E) (reply : Reply) (now : OfficeWithBook) (Left : Type 0) (delivered : OfficeWithBook × Reply) → IfOk r (λ x. x ≡ reply) → OnOk r Left →
    (Left → ◌≡◌ {A = OfficeWithBook × Reply} (now, reply) delivered) → IfOk r (λ x. (now, x) ≡ delivered)
handed_on (Ok x) reply now Left delivered is left leads = subst (λ y. ◌≡◌ {A = OfficeWithBook × Reply} (now, y) delivered) (sym is) (leads left)
handed_on (Err e) reply now Left delivered is left leads = tt

-- ---- an act on a unit

module _ (project : Project) (lang : Text) (key : Key) (caller : Text) where
  abbrev found : Entry → ActContext
  found header = record { rule = rule_at project lang; policy = project.policy; role = role_of project caller; view = view_of project (lang, key) }

  -- the view that was found is that of the unit
  view_there : (view : UnitView) → context_view (context_of project lang key caller) ≡ Some view → view_of project (lang, key) ≡ Some view
  view_there view = by (maps.get project.headers lang)
    where
      by : (o : Option Entry) → context_view (option_map found o) ≡ Some view → view_of project (lang, key) ≡ Some view
      by None e = let never : ◌≡◌ {A = Option UnitView} None (Some view) = e in cc
      by (Some header) e = e

  abbrev There : UnitWrite → Type 0
  There w = (view : UnitView) × (context_view (context_of project lang key caller) ≡ Some view) × IsWriteOver view w

  -- what an act writes is of the unit that is there
  pub act_possible : (whole : Outcome) (outcome : UnitOutcome) → IsOutcomeBy (context_view (context_of project lang key caller)) whole outcome → IsPossibleWrite project lang key outcome.write
  act_possible whole outcome decides = by outcome.write decides.over
    where
      by : (o : Option UnitWrite) → IfSome o There → IsPossibleWrite project lang key o
      by None h = tt
      by (Some w) h = (h.0, view_there h.0 h.1, h.2)

  -- what is written is the view that the act makes
  act_written : (whole : Outcome) (outcome : UnitOutcome) → IsOutcomeBy (context_view (context_of project lang key caller)) whole outcome → written_at project lang key outcome.write ≡ whole.view
  act_written whole outcome decides = by outcome.write decides.over ∙ decides.view
    where
      by : (o : Option UnitWrite) → IfSome o There → written_at project lang key o ≡ option_and_then (λ w. option_map (view_written w) (context_view (context_of project lang key caller))) o
      by None h = refl
      by (Some w) h = ap (option_map (view_written w)) (view_there h.0 h.1 ∙ sym h.1)

  pub act_decided : (whole : Outcome) (outcome : UnitOutcome) → IsOutcomeBy (context_view (context_of project lang key caller)) whole outcome →
      ◌≡◌ {A = Outcome} (record { view = written_at project lang key outcome.write; reply = outcome.reply }) whole
  act_decided whole outcome decides = λ i. record { view = act_written whole outcome decides i; reply = decides.reply i }

-- what was found, decided and committed is the step with its record
pub unit_act_delivered : (old mid new : OfficeWithBook) (request : Request) (domain lang : Text) (key : Key) (act : UnitAct) (outcome : UnitOutcome) (content : Text) (row : Record) →
    request.act ≡ OnUnit domain lang key act → mid ≡ old → Decides (found_for old.office domain lang key request) request act outcome →
    content ≡ content_text request → row ≡ record { number = request.number; content = content; reply = outcome.reply } →
    new ≡ record { office = with_write_in mid.office domain lang key outcome.write; book = with_record mid.book row } →
    ◌≡◌ {A = OfficeWithBook × Reply} (new, outcome.reply) (first_delivered old request)
unit_act_delivered old mid new request domain lang key act outcome content row is same decides text made commits =
    recorded_unit_act old old new request domain lang key act (found_for old.office domain lang key request) (written_at (project_in old.office domain) lang key outcome.write) outcome.reply outcome.reply content
    is refl refl (act_decided (project_in old.office domain) lang key request.caller (outcome_of (found_for old.office domain lang key request) request.caller request.number act) outcome decides) refl text
    (commits ∙ (λ i. record { office = with_write_in (same i).office domain lang key outcome.write; book = with_record (same i).book (made i) }))

-- and keeps the rules
pub unit_act_keeps : (old mid : OfficeWithBook) (request : Request) (domain lang : Text) (key : Key) (act : UnitAct) (outcome : UnitOutcome) (content : Text) (row : Record) →
    request.act ≡ OnUnit domain lang key act → mid ≡ old → Decides (found_for old.office domain lang key request) request act outcome →
    content ≡ content_text request → row ≡ record { number = request.number; content = content; reply = outcome.reply } →
    IsRequest request → IsTrue (is_none (maps.get old.book request.number)) → KeepsRules old →
    KeepsRules (record { office = with_write_in mid.office domain lang key outcome.write; book = with_record mid.book row })
unit_act_keeps old mid request domain lang key act outcome content row is same decides text made given fresh start =
    subst KeepsRules (sym (ap (λ (p : OfficeWithBook × Reply). p.0) (unit_act_delivered old mid _ request domain lang key act outcome content row is same decides text made refl)))
    (first_keeps old request given fresh start)

-- and what is written is of the unit that is there
pub unit_act_possible : (old mid : OfficeWithBook) (request : Request) (domain lang : Text) (key : Key) (act : UnitAct) (outcome : UnitOutcome) → mid ≡ old →
    Decides (found_for old.office domain lang key request) request act outcome → IsPossibleWrite (project_in mid.office domain) lang key outcome.write
unit_act_possible old mid request domain lang key act outcome same decides =
    subst (λ (m : OfficeWithBook). IsPossibleWrite (project_in m.office domain) lang key outcome.write) (sym same)
    (act_possible (project_in old.office domain) lang key request.caller (outcome_of (found_for old.office domain lang key request) request.caller request.number act) outcome decides)

-- ---- an act on the office

-- what was decided at the office at hand and committed is the step with its record
pub office_act_delivered : (old mid new : OfficeWithBook) (office : Office) (request : Request) (outcome : OfficeOutcome) (content : Text) (row : Record) →
    mid ≡ old → office ≡ mid.office → IsSettled office outcome (step office request) →
    content ≡ content_text request → row ≡ record { number = request.number; content = content; reply = outcome.reply } →
    new ≡ record { office = changed_by mid.office outcome.change; book = with_record mid.book row } →
    ◌≡◌ {A = OfficeWithBook × Reply} (new, outcome.reply) (first_delivered old request)
office_act_delivered old mid new office request outcome content row same at_hand settles text made commits =
    let was : office ≡ old.office = at_hand ∙ ap (λ (m : OfficeWithBook). m.office) same in
    let steps : ◌≡◌ {A = Stepped Office} (changed_by old.office outcome.change, outcome.reply) (step old.office request) =
    IsSettled.is (subst (λ (o : Office). IsSettled o outcome (step o request)) was settles) in
    let now : new ≡ record { office = (step old.office request).0; book = with_record old.book (record { number = request.number; content = content_text request; reply = (step old.office request).1 }) } =
    commits ∙ ((λ i. record { office = changed_by (same i).office outcome.change; book = with_record (same i).book (made i) })
    ∙ (λ i. record { office = (steps i).0; book = with_record old.book (record { number = request.number; content = text i; reply = (steps i).1 }) })) in
    λ i. (now i, (steps i).1)

-- and keeps the rules
pub office_act_keeps : (old mid : OfficeWithBook) (office : Office) (request : Request) (outcome : OfficeOutcome) (content : Text) (row : Record) →
    mid ≡ old → office ≡ mid.office → IsSettled office outcome (step office request) →
    content ≡ content_text request → row ≡ record { number = request.number; content = content; reply = outcome.reply } →
    IsRequest request → IsTrue (is_none (maps.get old.book request.number)) → KeepsRules old →
    KeepsRules (record { office = changed_by mid.office outcome.change; book = with_record mid.book row })
office_act_keeps old mid office request outcome content row same at_hand settles text made given fresh start =
    subst KeepsRules (sym (ap (λ (p : OfficeWithBook × Reply). p.0) (office_act_delivered old mid _ office request outcome content row same at_hand settles text made refl)))
    (first_keeps old request given fresh start)
