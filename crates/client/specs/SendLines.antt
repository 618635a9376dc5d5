-- What comes of sending the requests of a text's lines over a link: what is told, and where. This project's own rule.
use Rattle.std.specs.Prelude.{⊤, ◌≡◌, ◌⊎◌, ℕ, List, [], ◌++◌, flat_map, codes, decimal, cond, Option, Some, None, IfSome}
use Rattle.po_text.specs.Texts.{Text}
use Rattle.request_book.specs.declared.act.Request.{Request}
use Rattle.request_book.specs.Replies.{Reply}
use Rattle.sender.specs.Sending.{Sending, HasDistinctNumbers, unanswered, is_finished}
use Rattle.client.specs.declared.fault.SendFault.{SendFault}
use Rattle.client.specs.declared.fault.SendFault.TheVariants.{Unread, Malformed, Twice, Memory}
use Rattle.client.specs.Lists.{lines_of, AreRequests, IsFirstMalformed}

-- ---- lines

-- `STATUS BODY`
abbrev pub reply_line : Reply → Text
reply_line reply = decimal reply.status ++ (codes " " ++ (reply.body ++ codes "\n"))

-- the same of what is held for a request, or `none`
abbrev pub told_line : Option Reply → Text
told_line None = codes "none\n"
told_line (Some reply) = reply_line reply

-- a line for each request, in their order
abbrev pub told_lines : Sending → Text
told_lines sending = flat_map (λ exchange. told_line exchange.reply) sending

abbrev pub malformed_line : ℕ → Text
malformed_line number = codes "line " ++ (decimal number ++ codes " malformed\n")

-- a line on the second output
abbrev pub fault_line : SendFault → Text
fault_line Unread = []
fault_line (Malformed number) = malformed_line number
fault_line Twice = codes "sender fault 1\n"
fault_line Memory = codes "sender fault 2\n"

-- ---- what they say

-- the whole text that a source gives, where that is known
abbrev pub IsAllOf : Option (List ℕ) → Text → Type 0
IsAllOf left text = IfSome left (λ all. text ≡ all)

-- the source's lines are these requests'
pub record IsListOf (left : Option (List ℕ)) (requests : List Request) : Type 0 where
  pub text : Text
  pub all : IsAllOf left text
  pub are : AreRequests (lines_of text) requests

-- a line of the source isn't a request's, the first of that kind
pub record IsMalformedIn (left : Option (List ℕ)) (number : ℕ) : Type 0 where
  pub text : Text
  pub all : IsAllOf left text
  pub is : IsFirstMalformed (lines_of text) number

-- a number of the source's requests stands twice
pub record IsTwiceIn (left : Option (List ℕ)) : Type 0 where
  pub requests : List Request
  pub list : IsListOf left requests
  pub twice : ¬ HasDistinctNumbers requests

-- what is so when nothing was sent
abbrev pub IsFaultOf : Option (List ℕ) → Type 0 → SendFault → Type 0
IsFaultOf left Failed Unread = Failed
IsFaultOf left Failed (Malformed number) = IsMalformedIn left number
IsFaultOf left Failed Twice = IsTwiceIn left
IsFaultOf left Failed Memory = ⊤

-- ---- how it ends

-- 0 where each request has a reply
abbrev pub exit_status : Sending → ℕ
exit_status sending = cond (is_finished sending) 0 1

-- all lines were written, with their exit status, or a write failed behind a beginning
abbrev pub IsTold : (Text → Type 0) → (Text → Type 0) → Sending → ℕ → Type 0
IsTold Wrote WrotePart sending status = (Wrote (told_lines sending) × (status ≡ exit_status sending)) ⊎ (WrotePart (told_lines sending) × (status ≡ 1))

-- A sender of these requests talked over a link, and what it holds was told.
pub record WasSent (Talks : Sending → Sending → Type 0) (Wrote WrotePart : Text → Type 0) (requests : List Request) (status : ℕ) : Type 0 where
  pub distinct : HasDistinctNumbers requests
  pub sending : Sending
  pub talked : Talks (unanswered requests) sending
  pub told : IsTold Wrote WrotePart sending status

-- the same of a source's requests
pub record WasSentFrom (left : Option (List ℕ)) (Talks : Sending → Sending → Type 0) (Wrote WrotePart : Text → Type 0) (status : ℕ) : Type 0 where
  pub requests : List Request
  pub list : IsListOf left requests
  pub sent : WasSent Talks Wrote WrotePart requests status

-- The requests of a source's lines were sent, and nothing stands on the second output; or nothing was sent and nothing written, since the
-- source failed, or for a fault that the second output tells, wholly or after a failed write in part.
pub data SentLines (left : Option (List ℕ)) (Failed Unsent Untold : Type 0) (Talks : Sending → Sending → Type 0) (Wrote WrotePart Told : Text → Type 0) (status : ℕ) : Type 0 where
  sent : WasSentFrom left Talks Wrote WrotePart status → Untold → SentLines left Failed Unsent Untold Talks Wrote WrotePart Told status
  refused : (fault : SendFault) → IsFaultOf left Failed fault → Unsent → Told (fault_line fault) → status ≡ 1 → SentLines left Failed Unsent Untold Talks Wrote WrotePart Told status
