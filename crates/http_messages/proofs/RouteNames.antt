-- What the names of a route take of a path that is of its text.
use Rattle.std.proofs.Common.{◌≡◌, ◌≤◌, ℕ, ◌+◌, ◌-◌, ◌==◌, List, [], ◌∷◌, ◌++◌, length, drop, get_or, Bool, true, false, cond, refl, sym, ap, ap₂, ◌∙◌, arith, ltb, leb, ◌&&◌, append_assoc}
use Rattle.std.proofs.lemmas.Bool.Decides.{nat_tests}
use Rattle.std.proofs.Math.Seq.{drop-append_seam, take-append_seam, drop-append-add}
use Rattle.std.proofs.lemmas.List.{length-append, take_all}
use Rattle.matchit.specs.Rows.{param_token}
use Rattle.matchit.specs.Level.{IsText}
use Rattle.matchit.specs.Seek.{segment}
use Rattle.matchit.specs.Params.{wild_from, wild_stop, part_of, after_token, walk}

-- bytes alone stand in front of the next name
pub literals : (front rest : List ℕ) (n token at : ℕ) → IsText front → at + length front ≤ n → wild_from (front ++ param_token ∷ rest) n token at ≡ (token + length front, at + length front)
literals [] rest n token at text fits = ap₂ (λ x y. (let pair : ℕ × ℕ = (x, y) in pair)) (omega arith) (omega arith)
literals (b ∷ front) rest n token at text fits =
    let small : ltb b param_token ≡ true = (let h = text.0 in grind (arith, nat_tests)) in
    let more : ltb at n ≡ true = grind (arith, nat_tests) in
    rw (small, more) (literals front rest n (token + 1) (at + 1) text.1 (omega arith) ∙ ap₂ (λ x y. (let pair : ℕ × ℕ = (x, y) in pair)) (omega arith) (omega arith))

pub last_part : (front part : List ℕ) → part_of (front ++ part) (length front) (length (front ++ part)) ≡ part
last_part front part =
    let long = length-append front part in
    let a : leb (length front) (length (front ++ part)) ≡ true = grind (arith, nat_tests) in
    let b : leb (length (front ++ part)) (length (front ++ part)) ≡ true = grind (arith, nat_tests) in
    let c : length (front ++ part) - length front ≡ length part = omega arith in
    rw (a, b, c, drop-append_seam front part) (take_all (length part) part (omega arith))

pub middle_part : (front part rest : List ℕ) → part_of (front ++ (part ++ rest)) (length front) (length front + length part) ≡ part
middle_part front part rest =
    let long = length-append front (part ++ rest) in
    let more = length-append part rest in
    let a : leb (length front) (length front + length part) ≡ true = grind (arith, nat_tests) in
    let b : leb (length front + length part) (length (front ++ (part ++ rest))) ≡ true = grind (arith, nat_tests) in
    let c : (length front + length part) - length front ≡ length part = omega arith in
    rw (a, b, c, drop-append_seam front (part ++ rest)) (take-append_seam part rest)

-- ---- one name, at the end

-- the token behind some bytes
token_behind : (front rest : List ℕ) → get_or (front ++ param_token ∷ rest) (length front) 0 ≡ param_token
token_behind [] rest = refl
token_behind (b ∷ front) rest = token_behind front rest

stops_at_end : (pattern : List ℕ) (token : ℕ) (path : List ℕ) (at : ℕ) → length pattern ≤ token + 1 → wild_stop pattern token path at ≡ length path
stops_at_end pattern token path at end =
    let a : ltb (token + 1) (length pattern) ≡ false = grind (arith, nat_tests) in
    rw a (by (ltb token (length pattern)) (get_or pattern token 0 == param_token))
  where
    by : (u v : Bool) → cond (u && v && false) (at + length (segment (drop at path)) - length (segment (drop (token + 1) pattern))) (length path) ≡ length path
    by true true = refl
    by true false = refl
    by false v = refl

pub walk_one : (front part text : List ℕ) (name : ℕ × ℕ) → IsText front → walk (front ++ param_token ∷ []) text (front ++ part) (name ∷ []) 0 0 ≡ (part_of text name.0 name.1, part) ∷ []
walk_one front part text name bytes =
    let long = length-append front part in
    let all = length-append front (param_token ∷ []) in
    let from : wild_from (front ++ param_token ∷ []) (length (front ++ part)) 0 0 ≡ (length front, length front) = literals front [] (length (front ++ part)) 0 0 bytes (omega arith) ∙ ap₂ (λ x y. (let pair : ℕ × ℕ = (x, y) in pair)) (omega arith) (omega arith) in
    let stop : wild_stop (front ++ param_token ∷ []) (length front) (front ++ part) (length front) ≡ length (front ++ part) = stops_at_end (front ++ param_token ∷ []) (length front) (front ++ part) (length front) (omega arith) in
    rw (from, stop, last_part front part) refl

-- ---- two names, with a slash behind the first
first_stops : (front mid part path : List ℕ) (at : ℕ) → length (segment (drop at path)) ≡ length part + 1 → wild_stop (front ++ param_token ∷ ((47 ∷ mid) ++ param_token ∷ [])) (length front) path at ≡ at + length part
first_stops front mid part path at long =
    let whole = length-append front (param_token ∷ ((47 ∷ mid) ++ param_token ∷ [])) in
    let back = length-append (47 ∷ mid) (param_token ∷ []) in
    let a : ltb (length front) (length (front ++ param_token ∷ ((47 ∷ mid) ++ param_token ∷ []))) ≡ true = grind (arith, nat_tests) in
    let b : ltb (length front + 1) (length (front ++ param_token ∷ ((47 ∷ mid) ++ param_token ∷ []))) ≡ true = grind (arith, nat_tests) in
    let behind : drop (length front + 1) (front ++ param_token ∷ ((47 ∷ mid) ++ param_token ∷ [])) ≡ (47 ∷ mid) ++ param_token ∷ [] = drop-append-add front (param_token ∷ ((47 ∷ mid) ++ param_token ∷ [])) 1 in
    rw (a, token_behind front ((47 ∷ mid) ++ param_token ∷ []), b, behind) (omega arith)

pub walk_two : (front mid domain part text : List ℕ) (first second : ℕ × ℕ) → IsText front → IsText mid → after_token (length front) ≡ length front + 1 → segment (domain ++ ((47 ∷ mid) ++ part)) ≡ domain ++ 47 ∷ []
    → walk (front ++ param_token ∷ ((47 ∷ mid) ++ param_token ∷ [])) text (front ++ (domain ++ ((47 ∷ mid) ++ part))) (first ∷ second ∷ []) 0 0 ≡ (part_of text first.0 first.1, domain) ∷ (part_of text second.0 second.1, part) ∷ []
walk_two front mid domain part text first second bytes mid_bytes fits cut =
    let path = front ++ (domain ++ ((47 ∷ mid) ++ part)) in
    let pattern = front ++ param_token ∷ ((47 ∷ mid) ++ param_token ∷ []) in
    let l0 = length-append front (domain ++ ((47 ∷ mid) ++ part)) in
    let l1 = length-append domain ((47 ∷ mid) ++ part) in
    let l2 = length-append (47 ∷ mid) part in
    let p0 = length-append front (param_token ∷ ((47 ∷ mid) ++ param_token ∷ [])) in
    let p1 = length-append (47 ∷ mid) (param_token ∷ []) in
    let from : wild_from pattern (length path) 0 0 ≡ (length front, length front) = literals front ((47 ∷ mid) ++ param_token ∷ []) (length path) 0 0 bytes (omega arith) ∙ ap₂ (λ x y. (let pair : ℕ × ℕ = (x, y) in pair)) (omega arith) (omega arith) in
    let rest : segment (drop (length front) path) ≡ domain ++ 47 ∷ [] = ap segment (drop-append_seam front (domain ++ ((47 ∷ mid) ++ part))) ∙ cut in
    let stop : wild_stop pattern (length front) path (length front) ≡ length front + length domain = first_stops front mid domain path (length front) (ap length rest ∙ length-append domain (47 ∷ [])) in
    let behind : drop (length front + 1) pattern ≡ (47 ∷ mid) ++ param_token ∷ [] = drop-append-add front (param_token ∷ ((47 ∷ mid) ++ param_token ∷ [])) 1 in
    let slash : IsText (47 ∷ mid) = (omega arith, mid_bytes) in
    let again : wild_from ((47 ∷ mid) ++ param_token ∷ []) (length path) (length front + 1) (length front + length domain) ≡ ((length front + 1) + length (47 ∷ mid), (length front + length domain) + length (47 ∷ mid)) = literals (47 ∷ mid) [] (length path) (length front + 1) (length front + length domain) slash (omega arith) in
    let end : wild_stop pattern ((length front + 1) + length (47 ∷ mid)) path ((length front + length domain) + length (47 ∷ mid)) ≡ length path = stops_at_end pattern ((length front + 1) + length (47 ∷ mid)) path ((length front + length domain) + length (47 ∷ mid)) (omega arith) in
    let whole : path ≡ (front ++ (domain ++ (47 ∷ mid))) ++ part = ap (λ x. front ++ x) (sym (append_assoc domain (47 ∷ mid) part)) ∙ sym (append_assoc front (domain ++ (47 ∷ mid)) part) in
    let m0 = length-append front (domain ++ (47 ∷ mid)) in
    let m1 = length-append domain (47 ∷ mid) in
    let place : (length front + length domain) + length (47 ∷ mid) ≡ length (front ++ (domain ++ (47 ∷ mid))) = omega arith in
    let last : part_of path ((length front + length domain) + length (47 ∷ mid)) (length path) ≡ part = ap₂ (λ x y. part_of x y (length x)) whole place ∙ last_part (front ++ (domain ++ (47 ∷ mid))) part in
    let one : part_of path (length front) (length front + length domain) ≡ domain = middle_part front domain ((47 ∷ mid) ++ part) in
    rw (from, stop, fits, behind, again, end, last, one) refl
