-- Texts of an answer, one behind another.
use Rattle.std.proofs.Common.{◌≡◌, ◌<◌, ◌+◌, ℕ, suc, Bool, true, false, List, [], ◌++◌, length, drop, get_or, Option, Some, None, refl, ap, ◌∙◌, append_assoc, arith}
use denote.Ref.{Bor}
use Rattle.std.specs.Prelude.{codes, decimal, flat_map, option_map, unwrap_or}
use Rattle.std.proofs.lemmas.Bool.Decides.{nat_tests}
use Rattle.std.proofs.Math.Seq.{drop-cons}
use Rattle.http_api.specs.declared.answer_bytes.AnswerHead.{AnswerHead}
use Rattle.http.specs.StatusCode.{IsStatusCode, code_digits, reason_phrase}
use Rattle.http_api.specs.Statuses.{phrase, is_status}
use Rattle.http_api.specs.Answers.{line_end, media_type, digest_line, close_line, head_text}

abbrev pub joined : List (Bor (List ℕ)) → List ℕ
joined texts = flat_map (λ (text : Bor (List ℕ)). text.now) texts

pub text_left : (texts : List (Bor (List ℕ))) (i : ℕ) (d : Bor (List ℕ)) (text : List ℕ) → i < length texts → text ≡ (get_or texts i d).now → joined (drop i texts) ≡ text ++ joined (drop (i + 1) texts)
text_left texts i d text within is =
    let more : i + 1 ≡ suc i = omega arith in rw (more, is) (ap joined (drop-cons texts i d within))

-- what stands before the digest
abbrev pub head_front : List ℕ → List ℕ → List ℕ → List ℕ → List ℕ
head_front status reason media size =
    codes "HTTP/1.1 " ++ (status ++ (codes " " ++ (reason ++ (codes "\r\nContent-Type: " ++ (media ++ (codes "\r\nContent-Length: " ++ (size ++ line_end)))))))

regroup : (version status space reason end kind colon media size digits rest : List ℕ)
    → (version ++ (status ++ (space ++ (reason ++ end)))) ++ ((kind ++ (colon ++ (media ++ end))) ++ ((size ++ (colon ++ (digits ++ end))) ++ rest))
    ≡ (version ++ (status ++ (space ++ (reason ++ ((end ++ (kind ++ colon)) ++ (media ++ ((end ++ (size ++ colon)) ++ (digits ++ end)))))))) ++ rest
regroup version status space reason end kind colon media size digits rest = simp append_assoc

pub head_cut : (head : AnswerHead) (status reason media size : List ℕ) → status ≡ code_digits head.status → reason ≡ phrase head.status → media ≡ media_type head.content → size ≡ decimal head.length
    → head_text head ≡ head_front status reason media size ++ (digest_line head.content ++ (close_line head.last ++ line_end))
head_cut head status reason media size s r m l =
    let rest = digest_line head.content ++ (close_line head.last ++ line_end) in
    let same =
    regroup (codes "HTTP/1.1 ") (code_digits head.status) (codes " ") (phrase head.status) line_end (codes "Content-Type") (codes ": ") (media_type head.content) (codes "Content-Length") (decimal head.length) rest in
    rw (s, r, m, l) same

-- the numbers that are a status
pub status_is : (n : ℕ) → IsStatusCode n → is_status n ≡ true
status_is n is = let low = is.0 in let high = is.1 in grind (arith, nat_tests)

pub status_isnt : (n : ℕ) → ¬ IsStatusCode n → is_status n ≡ false
status_isnt n none = by (is_status n) refl
  where
    by : (t : Bool) → is_status n ≡ t → is_status n ≡ false
    by true is = absurd (none (grind (arith, nat_tests), grind (arith, nat_tests)))
    by false is = is

-- a phrase, or none
told_phrase : (o : Option (Bor (List ℕ))) (other : Bor (List ℕ)) → other.now ≡ [] → (unwrap_or o other).now ≡ unwrap_or (option_map (λ text. text.now) o) []
told_phrase None other none = none
told_phrase (Some text) other none = refl

pub phrase_is : (o : Option (Bor (List ℕ))) (told other : Bor (List ℕ)) (status : ℕ) → option_map (λ text. text.now) o ≡ reason_phrase status → told ≡ unwrap_or o other → other.now ≡ [] → told.now ≡ phrase status
unfolding phrase
phrase_is o told other status is same none = ap (λ (text : Bor (List ℕ)). text.now) same ∙ told_phrase o other none ∙ ap (λ x. unwrap_or x []) is
