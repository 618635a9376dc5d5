-- Numbers in a path.
use Rattle.std.proofs.Common.{◌≡◌, ◌≢◌, ℕ, List, Option, Some, None, Bool, true, false, Err, IsOk, ◌↔◌, true≢false, inl, refl, sym, ◌∙◌, ap}
use Rattle.std.specs.Str.{bytes_eq}
use Rattle.std.proofs.lemmas.Slice.Eq.{bytes_eq-Decides}
use Rattle.uuid.specs.Text.{parsed, lower, hyphenated_text}
use Rattle.uuid.proofs.RoundTrips.{parses_hyphenated}
use Rattle.request_book.specs.Acts.{IsNumber}
use Rattle.request_book.specs.Words.{number_text}

pub none_at_err : {E : Type 0} (e : E) (o : Option (List ℕ)) → (IsOk {T = List ℕ} (Err e) ↔ ((u : List ℕ) × (o ≡ Some u))) → None ≡ o
none_at_err e None ok = refl
none_at_err e (Some u) ok = absurd (true≢false (sym (ok.1 (u, refl))))

read_back : (part number : List ℕ) → IsNumber number → part ≡ number_text number → Some number ≡ parsed part
read_back part number fit is = parses_hyphenated lower number (inl refl) fit.0 fit.1 ∙ ap parsed (sym is)

pub no_number : (part : List ℕ) → None ≡ parsed part → (number : List ℕ) → IsNumber number → part ≢ number_text number
no_number part none number fit = λ is. let both : None ≡ Some number = none ∙ sym (read_back part number fit is) in absurd cc

same_inside : (a b : List ℕ) → Some a ≡ Some b → a ≡ b
same_inside a b e = cc

pub another_number : (part u : List ℕ) → Some u ≡ parsed part → part ≢ number_text u → (number : List ℕ) → IsNumber number → part ≢ number_text number
another_number part u is other number fit = λ same.
    let one : u ≡ number = same_inside u number (is ∙ sym (read_back part number fit same)) in
    other (same ∙ ap number_text (sym one))

-- ---- a number's text, compared

same_bytes : (a b : List ℕ) → bytes_eq a b ≡ true → a ≡ b
same_bytes a b e = (bytes_eq-Decides a b).0 e

pub is_written : (part written number u : List ℕ) (t : Bool) → t ≡ true → t ≡ bytes_eq written part → written ≡ hyphenated_text lower u → u ≡ number → part ≡ number_text number
is_written part written number u t is eq text same = sym (same_bytes written part (sym eq ∙ is)) ∙ text ∙ ap number_text same

pub not_written : (part written number u : List ℕ) (t : Bool) → t ≡ false → t ≡ bytes_eq written part → written ≡ hyphenated_text lower u → u ≡ number → part ≢ number_text number
not_written part written number u t is eq text same = λ e.
    let equal : written ≡ part = text ∙ ap number_text same ∙ sym e in
    let found : bytes_eq written part ≡ true = (bytes_eq-Decides written part).1 equal in
    true≢false (sym found ∙ (sym eq ∙ is))
