use Rattle.std.proofs.Common.{ap}
use Rattle.units.specs.Office.{Office, project_in}
use Rattle.office_specification.specs.ExportText.{export_text}
use Rattle.office_laws.proofs.AlongHistories.{right_reply, all_replies, right_office, right_order}
use Rattle.office_laws.proofs.histories.sender_over_a_desk.Goals as goal

pub returns-clause-replies : goal.returns-clause-replies
returns-clause-replies g c = λ old new requests last come honest. right_reply (g.T.Tables.means old) (g.T.Tables.means new) requests last come honest

pub returns-clause-finished : goal.returns-clause-finished
returns-clause-finished g c = λ old new requests last come honest. all_replies (g.T.Tables.means old) (g.T.Tables.means new) requests last come honest

pub returns-clause-office : goal.returns-clause-office
returns-clause-office g c = λ old new requests last come honest. right_office (g.T.Tables.means old) (g.T.Tables.means new) requests last come honest

pub returns-clause-exports : goal.returns-clause-exports
returns-clause-exports g c = λ old new requests last come honest whole finished domain lang.
    ap (λ (office : Office). export_text (project_in office domain) lang) (right_office (g.T.Tables.means old) (g.T.Tables.means new) requests last come honest whole finished)

pub returns-clause-order : goal.returns-clause-order
returns-clause-order g c = λ old new requests last come honest. right_order (g.T.Tables.means old) (g.T.Tables.means new) requests last come honest
