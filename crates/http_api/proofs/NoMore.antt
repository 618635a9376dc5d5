-- No more of a stream is read than the messages want that are answered.
use Rattle.std.proofs.Common.{◌≡◌, ◌<◌, ◌≤◌, ◌+◌, ℕ, zero, suc, List, [], ◌++◌, length, take, drop, Bool, true, false, Option, Some, None, nat_lt, refl, sym, ap, subst, ◌∙◌, append_assoc, append-nil, arith}
use Rattle.std.specs.Prelude.{if◌then◌else◌, IsSomeAnd}
use Rattle.std.specs.Option.{option_and_then}
use Rattle.std.proofs.lemmas.Bool.Decides.{nat_tests}
use Rattle.std.proofs.lemmas.List.{append_cancel_left}
use Rattle.byte_streams.specs.Streams.{prepend_known}
use Rattle.http_messages.specs.Heads.{Head, head_of}
use Rattle.http_messages.specs.declared.refusal.Refusal.TheVariants.{Malformed}
use Rattle.http_messages.specs.Asked.{Asking, body_size, ending, asking_of}
use Rattle.http_messages.specs.Streams.{first_head, step, with_body, with_tests, with_head, with_front, first_step}
use Rattle.http_messages.specs.Arrivals.{HasBody, HoldsBehind, HoldsFirst, WasWanted, nothing_read, last_piece, piece_limit}
use Rattle.http_api.specs.Connection.{behind, HoldsNext, ReadsNoMore}

-- ---- a message that others follow is there

module _ (c : List ℕ) where
  sized : (head : Head) (bytes : List ℕ) → (with_body head bytes).more ≡ Some c → body_size head ≤ length bytes
  sized head bytes is = by (nat_lt (length bytes) (body_size head)) refl is
    where
      by : (t : Bool) → nat_lt (length bytes) (body_size head) ≡ t
          → (if t then step (ending Malformed) bytes else step (asking_of head (take (body_size head) bytes)) (drop (body_size head) bytes)).more ≡ Some c → body_size head ≤ length bytes
      by true e more = absurd (let none : None ≡ Some c = more in cc)
      by false e more = grind (arith, nat_tests)

  headed : (head : Option Head) (bytes : List ℕ) → (with_head head bytes).more ≡ Some c → HasBody head bytes
  headed None bytes is = tt
  headed (Some head) bytes is = λ passed. sized head bytes (subst (λ test. (with_tests test head bytes).more ≡ Some c) passed is)

  fronted : (front : Option (List ℕ)) (bytes : List ℕ) → (with_front front bytes).more ≡ Some c → HoldsBehind front bytes
  fronted None bytes is = absurd (let none : None ≡ Some c = is in cc)
  fronted (Some front) bytes is = headed (head_of front) (drop (length front) bytes) is

  goes_on : (bytes : List ℕ) → (first_step bytes).more ≡ Some c → HoldsFirst bytes
  goes_on bytes is = fronted (first_head bytes) bytes is

-- where one message more stands, each before it does
one_less : (n : ℕ) (bytes : List ℕ) → HoldsNext (suc n) bytes → HoldsNext n bytes
one_less zero bytes holds = by (first_step bytes).more refl holds
  where
    by : (more : Option (List ℕ)) → (first_step bytes).more ≡ more → IsSomeAnd (option_and_then (behind zero) more) HoldsFirst → HoldsFirst bytes
    by None is never = absurd never
    by (Some c) is holds = goes_on c bytes is
one_less (suc n) bytes holds = by (first_step bytes).more (λ c. one_less n c) holds
  where
    by : (more : Option (List ℕ)) → ((c : List ℕ) → HoldsNext (suc n) c → HoldsNext n c) → IsSomeAnd (option_and_then (behind (suc n)) more) HoldsFirst → IsSomeAnd (option_and_then (behind n) more) HoldsFirst
    by None less never = never
    by (Some c) less holds = less c holds

-- behind one message more
behind_more : (n : ℕ) (bytes : List ℕ) → behind (suc n) bytes ≡ option_and_then (λ rest. (first_step rest).more) (behind n bytes)
behind_more zero bytes = by (first_step bytes).more
  where
    by : (more : Option (List ℕ)) → option_and_then (behind zero) more ≡ more
    by None = refl
    by (Some c) = refl
behind_more (suc n) bytes = by (first_step bytes).more (λ c. behind_more n c)
  where
    by : (more : Option (List ℕ)) → ((c : List ℕ) → behind (suc n) c ≡ option_and_then (λ rest. (first_step rest).more) (behind n c))
        → option_and_then (behind (suc n)) more ≡ option_and_then (λ rest. (first_step rest).more) (option_and_then (behind n) more)
    by None later = refl
    by (Some c) later = later c

pub behind_none : (held rest : List ℕ) → held ≡ [] → behind 0 ([] ++ rest) ≡ Some (held ++ rest)
behind_none held rest none = ap (λ h. Some (h ++ rest)) (sym none)

-- what stands behind a message that doesn't end the connection
pub behind_one : (n : ℕ) (got held piece at_hand after rest : List ℕ) (asking : Asking) → behind n (got ++ (piece ++ rest)) ≡ Some (held ++ (piece ++ rest)) → at_hand ≡ held ++ piece
    → first_step (at_hand ++ rest) ≡ step asking (after ++ rest) → asking.ends ≡ false → behind (n + 1) ((got ++ piece) ++ rest) ≡ Some (after ++ rest)
behind_one n got held piece at_hand after rest asking so_far is first on =
    let count : n + 1 ≡ suc n = omega arith in
    ap (λ k. behind k ((got ++ piece) ++ rest)) count
    ∙ behind_more n ((got ++ piece) ++ rest)
    ∙ ap (λ bytes. option_and_then (λ rest. (first_step rest).more) (behind n bytes)) (append_assoc got piece rest)
    ∙ ap (option_and_then (λ rest. (first_step rest).more)) (so_far ∙ ap Some (sym (append_assoc held piece rest) ∙ ap (λ bytes. bytes ++ rest) (sym is)))
    ∙ ap (λ s. s.more) first
    ∙ ap (λ ends. if ends then None else Some (after ++ rest)) on

-- ---- what was read so far

pub record ReadSoFar (answered : ℕ) (got : List ℕ) : Type 0 where
  pub before : List ℕ
  pub last : List ℕ
  pub cut : got ≡ before ++ last
  pub piece : length last ≤ piece_limit
  pub wanted : (n : ℕ) → answered ≡ suc n → HoldsNext n before → ⊥
  pub none : answered ≡ 0 → got ≡ []

pub nothing_so_far : ReadSoFar 0 []
nothing_so_far = record { before = []; last = []; cut = refl; piece = omega arith; wanted = λ n is. absurd (omega arith); none = λ _. refl }

pub reads_no_more : {left_old left_new : Option (List ℕ)} {answered : ℕ} (got : List ℕ) → left_old ≡ prepend_known got left_new → ReadSoFar answered got → ReadsNoMore left_old left_new answered
reads_no_more {left_new = left_new} got read so_far = record {
  before = so_far.before;
  last = so_far.last;
  read = read ∙ ap (λ bytes. prepend_known bytes left_new) so_far.cut;
  piece = so_far.piece;
  wanted = so_far.wanted;
}

some_same : {a b : List ℕ} → Some a ≡ Some b → a ≡ b
some_same is = cc

-- the message that is answered next, where nothing was read for it
nothing_more : (answered : ℕ) (got held : List ℕ) (so_far : ReadSoFar answered got) → behind answered (got ++ []) ≡ Some (held ++ []) → 0 < length held → HoldsNext answered so_far.before → ⊥
nothing_more zero got held so_far stands some holds =
    let none : held ≡ [] = sym (append-nil held) ∙ sym (some_same stands) ∙ append-nil got ∙ so_far.none refl in
    let few : length held ≡ 0 = ap length none in
    omega arith
nothing_more (suc n) got held so_far stands some holds = so_far.wanted n refl (one_less n so_far.before holds)

pub one_more_read : (answered : ℕ) (got held piece at_hand : List ℕ) → ReadSoFar answered got → ((rest : List ℕ) → behind answered (got ++ rest) ≡ Some (held ++ rest)) → at_hand ≡ held ++ piece → 0 < length at_hand
    → WasWanted held at_hand → ReadSoFar (answered + 1) (got ++ piece)
one_more_read answered got held piece at_hand so_far stands is some (nothing_read same) =
    let none : piece ≡ [] = append_cancel_left held piece [] (sym is ∙ same ∙ sym (append-nil held)) in
    let some_held : 0 < length held = subst (λ bytes. 0 < length bytes) same some in
    record {
      before = so_far.before;
      last = so_far.last;
      cut = ap (λ p. got ++ p) none ∙ append-nil got ∙ so_far.cut;
      piece = so_far.piece;
      wanted = λ n count holds.
          let last : n ≡ answered = omega arith in
          nothing_more answered got held so_far (stands []) some_held (subst (λ k. HoldsNext k so_far.before) last holds);
      none = λ count. absurd (omega arith);
    }
one_more_read answered got held piece at_hand so_far stands is some (last_piece first last cut most short) =
    let parts : piece ≡ first ++ last = append_cancel_left held piece (first ++ last) (sym is ∙ cut) in
    record {
      before = got ++ first;
      last = last;
      cut = ap (λ p. got ++ p) parts ∙ sym (append_assoc got first last);
      piece = most;
      wanted = λ n count holds.
          let same : n ≡ answered = omega arith in
          let here : HoldsNext answered (got ++ first) = subst (λ k. HoldsNext k (got ++ first)) same holds in
          short (subst (λ found. IsSomeAnd found HoldsFirst) (stands first) here);
      none = λ count. absurd (omega arith);
    }
