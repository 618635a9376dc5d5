-- A search for the end of a head, place by place.
use Rattle.std.proofs.Common.{◌≡◌, ◌<◌, ◌≤◌, ℕ, ◌+◌, List, [], ◌∷◌, ◌++◌, length, take, drop, Option, Some, None, option_map, true, nat_lt, get_or, append_assoc, add-one, refl, sym, ap, ap₂, ◌∙◌, arith}
use Rattle.std.specs.Prelude.{if◌then◌else◌}
use Rattle.std.proofs.lemmas.List.{take-append-drop, take_more, length-take-le}
use Rattle.std.proofs.Math.ListN.{drop_of_length-le}
use Rattle.std.proofs.Math.Seq.{drop-cons, take-append-add}
use Rattle.std.proofs.lemmas.Bool.Decides.{nat_tests}
use Rattle.http_messages.specs.Cut.{head_cut, end_length}

-- the same with the bytes before this place in front
abbrev pub CutFrom : List ℕ → ℕ → Type 0
CutFrom bytes i = head_cut bytes ≡ option_map (λ h. take i bytes ++ h) (head_cut (drop i bytes))

map_same : (o : Option (List ℕ)) → o ≡ option_map (λ h. h) o
map_same None = refl
map_same (Some h) = refl

pub cut_start : (bytes : List ℕ) → CutFrom bytes 0
cut_start bytes = map_same (head_cut bytes)

pick : {A : Type 0} (n : ℕ) (a b : A) → 0 < n → (if nat_lt 0 n then a else b) ≡ a
pick n a b h = let t : nat_lt 0 n ≡ true = grind (arith, nat_tests) in rw t refl

skip : {A : Type 0} (n : ℕ) (a b : A) → n ≡ 0 → (if nat_lt 0 n then a else b) ≡ b
skip n a b h = rw h refl

cut_here : (bytes : List ℕ) → 0 < end_length bytes → head_cut bytes ≡ Some (take (end_length bytes) bytes)
unfolding head_cut
cut_here [] h = absurd (omega arith)
cut_here (b ∷ bytes) h = pick (end_length (b ∷ bytes)) _ _ h

cut_not : (b : ℕ) (bytes : List ℕ) → end_length (b ∷ bytes) ≡ 0 → head_cut (b ∷ bytes) ≡ option_map (λ h. b ∷ h) (head_cut bytes)
unfolding head_cut
cut_not b bytes h = skip (end_length (b ∷ bytes)) _ _ h

take_plus : (l : List ℕ) (i n : ℕ) → i ≤ length l → take (i + n) l ≡ take i l ++ take n (drop i l)
take_plus l i n h =
    let len : length (take i l) ≡ i = length-take-le i l h in
    ap₂ (λ k m. take (k + n) m) (sym len) (sym (take-append-drop i l)) ∙ take-append-add (take i l) (drop i l) n

pub cut_found : (bytes : List ℕ) (i : ℕ) → CutFrom bytes i → i ≤ length bytes → 0 < end_length (drop i bytes) → Some (take (i + end_length (drop i bytes)) bytes) ≡ head_cut bytes
cut_found bytes i so_far within h =
    ap Some (take_plus bytes i (end_length (drop i bytes)) within) ∙ sym (so_far ∙ ap (option_map (λ h. take i bytes ++ h)) (cut_here (drop i bytes) h))

map_twice : (f g k : List ℕ → List ℕ) (o : Option (List ℕ)) → ((h : List ℕ) → f (g h) ≡ k h) → option_map f (option_map g o) ≡ option_map k o
map_twice f g k None same = refl
map_twice f g k (Some h) same = ap Some (same h)

pub cut_past : (bytes : List ℕ) (i : ℕ) → CutFrom bytes i → i < length bytes → end_length (drop i bytes) ≡ 0 → CutFrom bytes (i + 1)
cut_past bytes i so_far within h =
    let b = get_or bytes i 0 in
    let next : drop i bytes ≡ b ∷ drop (i + 1) bytes = rw add-one (drop-cons bytes i 0 within) in
    let not : end_length (b ∷ drop (i + 1) bytes) ≡ 0 = ap end_length (sym next) ∙ h in
    let step : head_cut (drop i bytes) ≡ option_map (λ h. b ∷ h) (head_cut (drop (i + 1) bytes)) = ap head_cut next ∙ cut_not b (drop (i + 1) bytes) not in
    so_far ∙ ap (option_map (λ h. take i bytes ++ h)) step
    ∙ map_twice (λ h. take i bytes ++ h) (λ h. b ∷ h) (λ h. take (i + 1) bytes ++ h) (head_cut (drop (i + 1) bytes)) (λ h. rw (take_more bytes i 0) (sym (append_assoc (take i bytes) (b ∷ []) h)))

nothing_left : (bytes rest : List ℕ) → rest ≡ [] → (f : List ℕ → List ℕ) → option_map f (head_cut rest) ≡ None
unfolding head_cut
nothing_left bytes rest e f = rw e refl

pub cut_over : (bytes : List ℕ) (i : ℕ) → CutFrom bytes i → length bytes ≤ i → None ≡ head_cut bytes
cut_over bytes i so_far past = sym (so_far ∙ nothing_left bytes (drop i bytes) (drop_of_length-le bytes past) (λ h. take i bytes ++ h))
