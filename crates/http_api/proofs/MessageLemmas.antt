-- A whole message asks what it asks, whatever follows it.
use Rattle.std.proofs.Common.{◌≡◌, ◌<◌, ◌≤◌, ◌+◌, ℕ, zero, suc, List, [], ◌∷◌, ◌++◌, length, take, drop, Option, Some, None, option_map, Bool, true, false, nat_lt, refl, sym, ap, ap₂, subst, ◌∙◌, arith, append_assoc, append-nil, length-append, length-drop}
use Rattle.std.specs.Prelude.{if◌then◌else◌}
use Rattle.std.proofs.lemmas.List.{take-append-drop}
use Rattle.std.proofs.Math.Seq.{drop-drop}
use Rattle.std.proofs.lemmas.Bool.Decides.{nat_tests}
use Rattle.http_messages.specs.Cut.{end_length, head_cut}
use Rattle.http_messages.specs.Heads.{Head, head_of}
use Rattle.http_messages.specs.declared.refusal.Refusal.TheVariants.{Malformed}
use Rattle.http_messages.specs.Asked.{Asked, Asking, Test, first_failed, head_tests, body_size, ending, asking_of}
use Rattle.http_messages.specs.Streams.{head_limit, first_head, Step, step, with_tests, with_head, with_front, first_step, Item, items_within}
use Rattle.http_messages.specs.Arrivals.{WantsBody, asking_with, asking_in}
use Rattle.http_messages.proofs.FrontLemmas.{whole_message}
use Rattle.http_api.specs.Messages.{AreMessages, nothing, one_more}
use Rattle.http_api.proofs.ItemLemmas.{item_of, none_left, items-one, tail-more}

-- ---- a head stands at the front

pick : {A : Type 0} (n : ℕ) (a b : A) → 0 < n → (if nat_lt 0 n then a else b) ≡ a
pick n a b h = let t : nat_lt 0 n ≡ true = grind (arith, nat_tests) in rw t refl

skip : {A : Type 0} (n : ℕ) (a b : A) → n ≡ 0 → (if nat_lt 0 n then a else b) ≡ b
skip n a b h = rw h refl

some_same : {a b : List ℕ} → Some a ≡ Some b → a ≡ b
some_same e = cc

inner : (b : ℕ) (o : Option (List ℕ)) (h : List ℕ) → option_map (λ head. b ∷ head) o ≡ Some h → (g : List ℕ) × (o ≡ Some g) × (h ≡ b ∷ g)
inner b None h e = absurd cc
inner b (Some g) h e = (g, refl, sym (some_same e))

cut_front : (bytes head : List ℕ) → head_cut bytes ≡ Some head → (more : List ℕ) × (bytes ≡ head ++ more)
unfolding head_cut
cut_front [] head is = absurd cc
cut_front (b ∷ bytes) head is = by (end_length (b ∷ bytes)) refl (λ g e. cut_front bytes g e)
  where
    by : (n : ℕ) → end_length (b ∷ bytes) ≡ n → ((g : List ℕ) → head_cut bytes ≡ Some g → (more : List ℕ) × (bytes ≡ g ++ more)) → (more : List ℕ) × (b ∷ bytes ≡ head ++ more)
    by zero e go_on =
        let found = inner b (head_cut bytes) head (sym (skip (end_length (b ∷ bytes)) (Some (take (end_length (b ∷ bytes)) (b ∷ bytes))) (option_map (λ h. b ∷ h) (head_cut bytes)) e) ∙ is) in
        let later = go_on found.0 found.1 in
        (later.0, ap (λ l. b ∷ l) later.1 ∙ ap (λ l. l ++ later.0) (sym found.2))
    by (suc n) e go_on =
        let some : 0 < end_length (b ∷ bytes) = omega arith in
        let same : take (end_length (b ∷ bytes)) (b ∷ bytes) ≡ head = some_same (sym (pick (end_length (b ∷ bytes)) (Some (take (end_length (b ∷ bytes)) (b ∷ bytes))) (option_map (λ h. b ∷ h) (head_cut bytes)) some) ∙ is) in
        (drop (end_length (b ∷ bytes)) (b ∷ bytes), sym (take-append-drop (end_length (b ∷ bytes)) (b ∷ bytes)) ∙ ap (λ l. l ++ drop (end_length (b ∷ bytes)) (b ∷ bytes)) same)

take_front : (front more : List ℕ) → take (length front) (front ++ more) ≡ front
take_front [] more = refl
take_front (b ∷ front) more = ap (λ l. b ∷ l) (take_front front more)

head_front : (bytes head : List ℕ) → first_head bytes ≡ Some head → (Some (take (length head) bytes) ≡ first_head bytes) × (length head ≤ length bytes)
head_front bytes head is =
    let cut = cut_front (take head_limit bytes) head is in
    let more = cut.0 ++ drop head_limit bytes in
    let whole : bytes ≡ head ++ more = sym (take-append-drop head_limit bytes) ∙ ap (λ l. l ++ drop head_limit bytes) cut.1 ∙ append_assoc head cut.0 (drop head_limit bytes) in
    let both = length-append head more in
    let same : length bytes ≡ length (head ++ more) = ap length whole in
    (ap (λ l. Some (take (length head) l)) whole ∙ ap Some (take_front head more) ∙ sym is, omega arith)

-- ---- the first message

wants : (head : Head) → first_failed (head_tests head) ≡ None → WantsBody (Some head) (body_size head)
wants head passed = record {
  whole = λ behind enough. let t : nat_lt (length behind) (body_size head) ≡ false = grind (arith, nat_tests) in ap (λ test. with_tests test head behind) passed ∙ rw t refl;
  short = λ behind few. let t : nat_lt (length behind) (body_size head) ≡ true = grind (arith, nat_tests) in ap (λ test. with_tests test head behind) passed ∙ rw t refl;
}

abbrev step_of : Asked → Option (List ℕ) → Step
step_of asked more = record { asked = asked; more = more }

no_more : {T : Type 0} (s : Step) (asked : Asked) (behind : List ℕ) → s ≡ step_of asked (Some behind) → s.more ≡ None → T
no_more s asked behind is none = absurd (let both : None ≡ Some behind = sym none ∙ ap (λ step. step.more) is in cc)

goes_on : (asking : Asking) (xs behind : List ℕ) (asked : Asked) → step asking xs ≡ step_of asked (Some behind) → (rest : List ℕ) → step asking (xs ++ rest) ≡ step_of asked (Some (behind ++ rest))
goes_on asking xs behind asked is rest = ap₂ step_of (ap (λ s. s.asked) is) (by asking.ends (ap (λ s. s.more) is))
  where
    by : (ends : Bool) → (if ends then None else Some xs) ≡ Some behind → (if ends then None else Some (xs ++ rest)) ≡ Some (behind ++ rest)
    by true e = absurd (let both : None ≡ Some behind = e in cc)
    by false e = ap (λ l. Some (l ++ rest)) (some_same e)

first_stays : (bytes behind : List ℕ) (asked : Asked) → first_step bytes ≡ step_of asked (Some behind) → (rest : List ℕ) → first_step (bytes ++ rest) ≡ step_of asked (Some (behind ++ rest))
first_stays bytes behind asked is rest = by (first_head bytes) refl is
  where
    sized : (front : List ℕ) (head : Head) → first_head bytes ≡ Some front → head_of front ≡ Some head → first_failed (head_tests head) ≡ None → (short : Bool) → nat_lt (length (drop (length front) bytes)) (body_size head) ≡ short
        → (if short then step (ending Malformed) (drop (length front) bytes) else step (asking_of head (take (body_size head) (drop (length front) bytes))) (drop (body_size head) (drop (length front) bytes))) ≡ step_of asked (Some behind)
        → first_step (bytes ++ rest) ≡ step_of asked (Some (behind ++ rest))
    sized front head e f passed true short w = no_more (step (ending Malformed) (drop (length front) bytes)) asked behind w refl
    sized front head e f passed false long w =
        let n = length front in
        let size = body_size head in
        let there = head_front bytes front e in
        let same : take n bytes ≡ front = some_same (there.0 ∙ e) in
        let is_head : head_of (take n bytes) ≡ Some head = ap head_of same ∙ f in
        let enough : n + size ≤ length bytes = (
        let least : size ≤ length (drop n bytes) = grind (arith, nat_tests) in
        let within = there.1 in
        let len = length-drop n bytes in omega arith
        ) in
        let arrives = whole_message None bytes [] bytes n size there.0 there.1 (subst (λ o. WantsBody o size) (sym is_head) (wants head passed)) (sym (append-nil bytes)) enough in
        let asks : asking_in bytes n size ≡ asking_of head (take size (drop n bytes)) = ap (λ o. asking_with o (take size (drop n bytes))) is_head in
        arrives.2 rest ∙ ap (λ asking. step asking (drop (n + size) bytes ++ rest)) asks
        ∙ ap (λ l. step (asking_of head (take size (drop n bytes))) (l ++ rest)) (sym (drop-drop size n bytes))
        ∙ goes_on (asking_of head (take size (drop n bytes))) (drop size (drop n bytes)) behind asked w rest

    tested : (front : List ℕ) (head : Head) → first_head bytes ≡ Some front → head_of front ≡ Some head → (t : Option Test) → first_failed (head_tests head) ≡ t → with_tests t head (drop (length front) bytes) ≡ step_of asked (Some behind)
        → first_step (bytes ++ rest) ≡ step_of asked (Some (behind ++ rest))
    tested front head e f (Some t) g w = no_more (step (ending t.refusal) (drop (length front) bytes)) asked behind w refl
    tested front head e f None g w = sized front head e f g (nat_lt (length (drop (length front) bytes)) (body_size head)) refl w

    headed : (front : List ℕ) → first_head bytes ≡ Some front → (head : Option Head) → head_of front ≡ head → with_head head (drop (length front) bytes) ≡ step_of asked (Some behind)
        → first_step (bytes ++ rest) ≡ step_of asked (Some (behind ++ rest))
    headed front e None f w = no_more (step (ending Malformed) (drop (length front) bytes)) asked behind w refl
    headed front e (Some head) f w = tested front head e f (first_failed (head_tests head)) refl w

    by : (front : Option (List ℕ)) → first_head bytes ≡ front → with_front front bytes ≡ step_of asked (Some behind) → first_step (bytes ++ rest) ≡ step_of asked (Some (behind ++ rest))
    by None e w = no_more (with_front None bytes) asked behind w refl
    by (Some front) e w = headed front e (head_of front) refl w

-- ---- messages one behind another

more_left : (n m : ℕ) → 0 < n → none_left (m + n) ≡ false
more_left zero m some = absurd (omega arith)
more_left (suc n) m some = let same : m + suc n ≡ suc (m + n) = omega arith in ap none_left same

pub stand_alone : (bytes : List ℕ) (items : List Item) (n : ℕ) (behind : List ℕ) → AreMessages bytes items → 0 < n → items_within (length items + n) (bytes ++ behind) ≡ items ++ items_within n behind
stand_alone _ _ n behind nothing some = let same : 0 + n ≡ n = omega arith in ap (λ k. items_within k behind) same
stand_alone _ _ n behind (one_more asked bytes after items least is are) some =
    let asking : Asking = record { asked = asked; ends = false } in
    let count : suc (length items) + n ≡ suc (length items + n) = omega arith in
    let longer : 0 < length (bytes ++ behind) = (let both = length-append bytes behind in omega arith) in
    let more = more_left n (length items) some in
    ap (λ k. items_within k (bytes ++ behind)) count
    ∙ items-one (length items + n) (bytes ++ behind) asking (after ++ behind) longer (first_stays bytes after asked is behind)
    ∙ ap₂ (λ last rest. item_of asking last ∷ rest) more (tail-more (length items + n) false (after ++ behind) more)
    ∙ ap (λ rest. item_of asking false ∷ rest) (stand_alone after items n behind are some)
