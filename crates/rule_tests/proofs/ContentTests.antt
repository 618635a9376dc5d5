-- A text is some request's content where the canonical text of what is read of it is this text.
use Rattle.std.proofs.Common.{◌≡◌, Bool, false, Result, Ok, Err, IfOk, sym, ◌∙◌}
use Rattle.std.specs.Bool.{Decides}
use Rattle.std.proofs.lemmas.Bool.{false≢true}
use Rattle.po_text.specs.Texts.{Text}
use Rattle.request_book.specs.declared.act.Request.{Request}
use Rattle.request_book.specs.Acts.{IsRequest, IsContentText, canon_text, content_text}
use Rattle.request_book.specs.Contents.{IsContent}
use Rattle.request_book.proofs.PartsLemmas.{content_reads}

-- requests with one caller and act have one content
same_content : (r s : Request) → r.caller ≡ s.caller → r.act ≡ s.act → content_text r ≡ content_text s
unfolding content_text
same_content r s caller act = λ i. canon_text (caller i) (act i)

pub content_told : {E : Type 0} (content : Text) (request : Request) (r : Result Bool E) → ((other : Request) → IsContentText content other → (other.caller ≡ request.caller) × (other.act ≡ request.act)) →
    IfOk r (λ has. Decides has (content_text request ≡ content)) → IfOk r (λ _. IsRequest request) → IfOk r (λ is. Decides is (IsContent content))
content_told content request (Ok has) one told fits = (
  λ yes. (request, fits, told.0 yes),
  λ found.
      let same = one found.0 (content_reads content found.0 found.1 found.2) in
      told.1 (same_content request found.0 (sym same.0) (sym same.1) ∙ found.2),
)
content_told content request (Err e) one told fits = tt

pub no_content : (content : Text) → ((request : Request) → IsContentText content request → ⊥) → Decides false (IsContent content)
no_content content none = (λ e. absurd (false≢true e), λ found. absurd (none found.0 (content_reads content found.0 found.1 found.2)))
