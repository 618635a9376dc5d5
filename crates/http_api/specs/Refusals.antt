-- The answers that are errors: a status of HTTP, and a body in JSON (RFC 8259) of one word. This project's own rule.
use Rattle.std.specs.Prelude.{ℕ, List, ◌++◌, codes}
use Rattle.http_messages.specs.declared.refusal.Refusal.{Refusal}
use Rattle.http_messages.specs.declared.refusal.Refusal.TheVariants.{LongHead, Malformed, TooLarge, NoRoute, Method, NoLength, NoLanguage, NoUnit, Memory, Disk, Refused, LongExport}

abbrev pub refusal_status : Refusal → ℕ
refusal_status LongHead = 431
refusal_status Malformed = 400
refusal_status TooLarge = 413
refusal_status NoRoute = 404
refusal_status Method = 405
refusal_status NoLength = 411
refusal_status NoLanguage = 404
refusal_status NoUnit = 404
refusal_status Memory = 503
refusal_status Disk = 507
refusal_status Refused = 500
refusal_status LongExport = 507

abbrev pub refusal_word : Refusal → List ℕ
refusal_word LongHead = codes "head"
refusal_word Malformed = codes "malformed"
refusal_word TooLarge = codes "too-large"
refusal_word NoRoute = codes "no-route"
refusal_word Method = codes "method"
refusal_word NoLength = codes "length"
refusal_word NoLanguage = codes "no-language"
refusal_word NoUnit = codes "no-unit"
refusal_word Memory = codes "memory"
refusal_word Disk = codes "disk"
refusal_word Refused = codes "refused"
refusal_word LongExport = codes "long"

-- `{"error":WORD}`
abbrev pub refusal_body : Refusal → List ℕ
refusal_body refusal = codes "{\"error\":\"" ++ (refusal_word refusal ++ codes "\"}")
