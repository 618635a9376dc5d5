-- The contents that records keep. This project's own rule.
use Rattle.std.specs.Prelude.{◌≡◌}
use Rattle.po_text.specs.Texts.{Text}
use Rattle.request_book.specs.declared.act.Request.{Request}
use Rattle.request_book.specs.Acts.{IsRequest, content_text}

-- some request has this text as its content
abbrev pub IsContent : Text → Type 0
IsContent text = (request : Request) × IsRequest request × (content_text request ≡ text)
