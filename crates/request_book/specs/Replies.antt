-- Replies: a status of HTTP (RFC 9110, "Status Codes") and a body in JSON (RFC 8259). This project's own rule.
use Rattle.std.specs.Prelude.{ℕ}
use Rattle.po_text.specs.Texts.{Text}

pub record Reply : Type 0 where
  pub status : ℕ
  pub body : Text
