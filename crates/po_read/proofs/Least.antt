-- The fault that is computed is the one at the least line where a test fails.
use Rattle.std.proofs.Common.{◌≡◌, ℕ, ◌+◌, ◌≤◌, List, [], ◌∷◌, ◌++◌, Bool, true, false, not, cond, map, length, refl, sym, ◌∙◌, ap, Option, Some, None, arith, nat_lt, ◌⊎◌, inl, inr}
use Rattle.std.specs.Str.{is_utf8}
use Rattle.std.specs.List.{fold}
use Rattle.std.proofs.lemmas.Bool.{ltb-false, le-ltb}
use Rattle.std.proofs.lemmas.Bool.Decides.{nat_tests}
use Rattle.po_lex.specs.declared.fault.FaultKind.{FaultKind}
use Rattle.po_lex.specs.declared.fault.FaultKind.TheVariants as kinds
use Rattle.po_lex.specs.Lines.{line_of, lines_of}
use Rattle.po_read.specs.Spells.{Limits}
use Rattle.po_read.specs.Faults.{Lines, fault_at_end, no_lines, add_line, line_fault, Passes, Fault, IsFault, too_long, not_utf8, at_line, at_end, or_later, fault_from, fault_of}

abbrev behind : Lines → List (List ℕ) → Lines
behind s texts = fold add_line s (map line_of texts)

record AtLine (most : Limits) (n : ℕ) (s : Lines) (texts : List (List ℕ)) (fault : Fault) : Type 0 where
  front : List (List ℕ)
  line : List ℕ
  rest : List (List ℕ)
  kind : FaultKind
  cut : texts ≡ front ++ line ∷ rest
  passes : Passes most s front
  fails : line_fault most (behind s front) (line_of line) ≡ Some kind
  is : fault ≡ (length front + n, kind)

record AtEnd (most : Limits) (n : ℕ) (s : Lines) (texts : List (List ℕ)) (fault : Fault) : Type 0 where
  kind : FaultKind
  passes : Passes most s texts
  fails : fault_at_end (behind s texts) ≡ Some kind
  is : fault ≡ (length texts + n, kind)

moved : (n m : ℕ) (kind : FaultKind) (fault : Fault) → fault ≡ (n, kind) → n ≡ m → fault ≡ (m, kind)
moved n m kind fault e f = e ∙ ap (λ k. (k, kind)) f

found : (most : Limits) (n : ℕ) (s : Lines) (texts : List (List ℕ)) (fault : Fault) → fault_from most n s texts ≡ Some fault → AtLine most n s texts fault ⊎ AtEnd most n s texts fault
unfolding fault_from
found most n s [] fault h = inr (by (fault_at_end s) refl h)
  where
    by : (o : Option FaultKind) → fault_at_end s ≡ o → or_later n o None ≡ Some fault → AtEnd most n s [] fault
    by None e h = cc
    by (Some kind) e h = let same : fault ≡ (n, kind) = cc in record { kind = kind; passes = tt; fails = e; is = moved n (0 + n) kind fault same (omega arith) }
found most n s (text ∷ texts) fault h = by (line_fault most s (line_of text)) refl h (found most (n + 1) (add_line s (line_of text)) texts fault)
  where
    later : line_fault most s (line_of text) ≡ None → AtLine most (n + 1) (add_line s (line_of text)) texts fault ⊎ AtEnd most (n + 1) (add_line s (line_of text)) texts fault → AtLine most n s (text ∷ texts) fault ⊎ AtEnd most n s (text ∷ texts) fault
    later none (inl a) = inl (record {
      front = text ∷ a.front;
      line = a.line;
      rest = a.rest;
      kind = a.kind;
      cut = ap (λ ts. text ∷ ts) a.cut;
      passes = (none, a.passes);
      fails = a.fails;
      is = moved (length a.front + (n + 1)) (length (text ∷ a.front) + n) a.kind fault a.is (omega arith);
    })
    later none (inr a) = inr (record { kind = a.kind; passes = (none, a.passes); fails = a.fails; is = moved (length texts + (n + 1)) (length (text ∷ texts) + n) a.kind fault a.is (omega arith) })

    by : (o : Option FaultKind) → line_fault most s (line_of text) ≡ o → or_later n o (fault_from most (n + 1) (add_line s (line_of text)) texts) ≡ Some fault
        → (fault_from most (n + 1) (add_line s (line_of text)) texts ≡ Some fault → AtLine most (n + 1) (add_line s (line_of text)) texts fault ⊎ AtEnd most (n + 1) (add_line s (line_of text)) texts fault) → AtLine most n s (text ∷ texts) fault ⊎ AtEnd most n s (text ∷ texts) fault
    by None e h rest = later e (rest h)
    by (Some kind) e h rest = let same : fault ≡ (n, kind) = cc in inl (record { front = []; line = text; rest = texts; kind = kind; cut = refl; passes = tt; fails = e; is = moved n (0 + n) kind fault same (omega arith) })

pub least : (most : Limits) (bytes : List ℕ) (fault : Fault) → fault_of most bytes ≡ Some fault → IsFault most bytes fault
unfolding fault_of
least most bytes fault h = by (nat_lt most.bytes (length bytes)) (is_utf8 bytes) refl refl h
  where
    from : length bytes ≤ most.bytes → is_utf8 bytes ≡ true → AtLine most 1 no_lines (lines_of bytes) fault ⊎ AtEnd most 1 no_lines (lines_of bytes) fault → IsFault most bytes fault
    from small text (inl a) = at_line small text a.front a.line a.rest a.kind a.cut a.passes a.fails a.is
    from small text (inr a) = at_end small text a.kind a.passes a.fails a.is

    by : (a b : Bool) → nat_lt most.bytes (length bytes) ≡ a → is_utf8 bytes ≡ b → cond a (Some (0, kinds.Limit)) (cond (not b) (Some (0, kinds.NotUtf8)) (fault_from most 1 no_lines (lines_of bytes))) ≡ Some fault → IsFault most bytes fault
    by true b e f h = let same : fault ≡ (0, kinds.Limit) = cc in too_long (grind (arith, nat_tests)) same
    by false false e f h = let same : fault ≡ (0, kinds.NotUtf8) = cc in not_utf8 (ltb-false most.bytes (length bytes) e) f same
    by false true e f h = from (ltb-false most.bytes (length bytes) e) f (found most 1 no_lines (lines_of bytes) fault h)

-- ---- and the other way

at_front : (most : Limits) (n : ℕ) (s : Lines) (front : List (List ℕ)) (line : List ℕ) (rest : List (List ℕ)) (kind : FaultKind) → Passes most s front → line_fault most (behind s front) (line_of line) ≡ Some kind → fault_from most n s (front ++ line ∷ rest) ≡ Some (length front + n, kind)
unfolding fault_from
at_front most n s [] line rest kind p h = ap (λ o. or_later n o (fault_from most (n + 1) (add_line s (line_of line)) rest)) h ∙ ap (λ k. Some (k, kind)) (let e : n ≡ 0 + n = omega arith in e)
at_front most n s (text ∷ front) line rest kind p h =
    ap (λ o. or_later n o (fault_from most (n + 1) (add_line s (line_of text)) (front ++ line ∷ rest))) p.0
    ∙ at_front most (n + 1) (add_line s (line_of text)) front line rest kind p.1 h
    ∙ ap (λ k. Some (k, kind)) (let e : length front + (n + 1) ≡ length (text ∷ front) + n = omega arith in e)

at_back : (most : Limits) (n : ℕ) (s : Lines) (texts : List (List ℕ)) (kind : FaultKind) → Passes most s texts → fault_at_end (behind s texts) ≡ Some kind → fault_from most n s texts ≡ Some (length texts + n, kind)
unfolding fault_from
at_back most n s [] kind p h = ap (λ o. or_later n o None) h ∙ ap (λ k. Some (k, kind)) (let e : n ≡ 0 + n = omega arith in e)
at_back most n s (text ∷ texts) kind p h =
    ap (λ o. or_later n o (fault_from most (n + 1) (add_line s (line_of text)) texts)) p.0
    ∙ at_back most (n + 1) (add_line s (line_of text)) texts kind p.1 h
    ∙ ap (λ k. Some (k, kind)) (let e : length texts + (n + 1) ≡ length (text ∷ texts) + n = omega arith in e)

pub computed : (most : Limits) (bytes : List ℕ) (fault : Fault) → IsFault most bytes fault → fault_of most bytes ≡ Some fault
unfolding fault_of
computed most bytes fault (too_long h is) = let long : nat_lt most.bytes (length bytes) ≡ true = grind (arith, nat_tests) in rw long (ap Some (sym is))
computed most bytes fault (not_utf8 small none is) = let short : nat_lt most.bytes (length bytes) ≡ false = le-ltb most.bytes (length bytes) small in rw (short, none) (ap Some (sym is))
computed most bytes fault (at_line small text front line rest kind cut passes fails is) =
    let short : nat_lt most.bytes (length bytes) ≡ false = le-ltb most.bytes (length bytes) small in
    let from : fault_from most 1 no_lines (lines_of bytes) ≡ Some fault = ap (fault_from most 1 no_lines) cut ∙ at_front most 1 no_lines front line rest kind passes fails ∙ ap Some (sym is) in
    rw (short, text) from
computed most bytes fault (at_end small text kind passes fails is) =
    let short : nat_lt most.bytes (length bytes) ≡ false = le-ltb most.bytes (length bytes) small in
    let from : fault_from most 1 no_lines (lines_of bytes) ≡ Some fault = at_back most 1 no_lines (lines_of bytes) kind passes fails ∙ ap Some (sym is) in
    rw (short, text) from
