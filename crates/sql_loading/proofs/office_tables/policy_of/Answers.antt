use Rattle.std.proofs.Common.{◌≡◌, sym, ap, ◌∙◌}
use Rattle.std.proofs.lemmas.Result.{IfOk-weaker}
use Rattle.units.specs.Office.{Office}
use Rattle.sql_meaning.specs.OfficeShown.{policy_shown}
use Rattle.sql_loading.proofs.office_tables.policy_of.Goals as goal

pub returns-in-Some-clause-shown : goal.returns-in-Some-clause-shown
returns-in-Some-clause-shown c = IfOk-weaker c.policy_in.result _ (λ policy. policy ≡ policy_shown c.args.row.now) (λ policy is. is ∙ ap policy_shown (sym c.in-Some.is)) c.policy_in.ensures.shown

pub returns-in_ok-bare-in-None-clause-shown : goal.returns-in_ok-bare-in-None-clause-shown
returns-in_ok-bare-in-None-clause-shown c = ap (λ (o : Office). o.policy) c.in_ok-bare-in-None.ensures ∙ ap policy_shown (sym c.in-None.is)
