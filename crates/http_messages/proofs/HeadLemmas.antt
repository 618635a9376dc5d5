-- What a head says by its lines is what the grammar's head says.
use Rattle.std.proofs.Common.{◌≡◌, ◌≤◌, ◌<◌, ℕ, zero, suc, Bool, true, false, List, [], ◌∷◌, ◌++◌, length, map, refl, sym, ap, ap₂, ◌∙◌, append_assoc, append-nil, Option, Some, None, option_map, All, arith}
use Rattle.std.specs.Prelude.{◌==◌, ◌&&◌, nat_le, nat_lt, ⊤, if◌then◌else◌, codes, IsUtf8}
use Rattle.std.specs.Option.{option_and_then}
use Rattle.std.specs.List.{list_all}
use Rattle.std.proofs.lemmas.Bool.Decides.{nat_tests}
use Rattle.std.proofs.lemmas.Str.{IsUtf8-from_is_utf8, is_utf8-from_IsUtf8}
use Rattle.std.proofs.lemmas.Slice.Eq.{bytes_eq-Decides}
use Rattle.std.specs.Bool.{Decides}
use Rattle.std.proofs.lemmas.List.Elements.{All-cons, All-nil, All-head, All-tail}
use Rattle.std.proofs.lemmas.List.Sums.{AllPass-from_list_all, list_all-from_AllPass}
use Rattle.httparse.specs.Grammar.{is_token_byte, is_token, is_uri_byte, is_value_byte, trim_ows, LineEnd, crlf, lf, print_end, print_blank, print_version, Field, IsField, IsToken, AllPass, print_section, RequestHead, print_request}
use Rattle.httparse.specs.Spans.{name_and_value}
use Rattle.httparse.proofs.GrammarLemmas.{print_request-append, cons-append}
use Rattle.http_messages.specs.Heads.{FieldLine, Head, text_lines, cut_at, is_target, minor_of, RequestLine, line_with, request_line, field_with, field_line, add_field, no_fields, field_lines, field_limit, head_with, head_in, head_of}
use Rattle.http_messages.specs.Grammar.{IsHead, said}
use Rattle.http_messages.proofs.LineLemmas.{and_true, both_true, if_some, apart, IsClean, clean, clean_append, text_lines-print, Spelled, spelled}

-- ---- options

and_then_some : {A B : Type 0} (f : A → Option B) (o : Option A) (y : B) → option_and_then f o ≡ Some y → (x : A) × (o ≡ Some x) × (f x ≡ Some y)
and_then_some f None y h = absurd (cc)
and_then_some f (Some x) y h = (x, refl, h)

map_some : {A B : Type 0} (f : A → B) (o : Option A) (y : B) → option_map f o ≡ Some y → (x : A) × (o ≡ Some x) × (f x ≡ y)
map_some f None y h = absurd (cc)
map_some f (Some x) y h = (x, refl, cc)

-- ---- the first byte of a kind

abbrev HasNone : ℕ → List ℕ → Type 0
HasNone c [] = ⊤
HasNone c (b ∷ bytes) = ((b == c) ≡ false) × HasNone c bytes

has_none : (test : ℕ → Bool) (c : ℕ) → test c ≡ false → (bytes : List ℕ) → list_all test bytes ≡ true → HasNone c bytes
has_none test c fails [] h = tt
has_none test c fails (b ∷ bytes) h =
    let both = and_true (test b) (list_all test bytes) h in (apart test b c fails both.0, has_none test c fails bytes both.1)

same_byte : (c : ℕ) → (c == c) ≡ true
same_byte c = grind (arith, nat_tests)

cut_at-found : (c : ℕ) (a b : List ℕ) → HasNone c a → cut_at c (a ++ c ∷ b) ≡ Some (a, b)
cut_at-found c [] b h = rw (same_byte c) refl
cut_at-found c (x ∷ a) b h = rw (h.0, cut_at-found c a b h.1) refl

abbrev Parts : Type 0
Parts = List ℕ × List ℕ

abbrev under : ℕ → Parts → Parts
under b parts = (b ∷ parts.0, parts.1)

abbrev choose : Bool → Option Parts → Option Parts → Option Parts
choose true o p = o
choose false o p = p

byte_is : (b c : ℕ) (t : Bool) → (b == c) ≡ t → (bytes : List ℕ) (found : Parts) (o : Option Parts)
    → ((found : Parts) → o ≡ Some found → bytes ≡ found.0 ++ c ∷ found.1)
    → choose t (Some ([], bytes)) (option_map (under b) o) ≡ Some found → b ∷ bytes ≡ found.0 ++ c ∷ found.1
byte_is b c true is bytes found o more h =
    let same : b ≡ c = grind (arith, nat_tests) in
    let whole : Parts = ([], bytes) in
    let e : whole ≡ found = cc in
    rw (← e, same) refl
byte_is b c false is bytes found o more h =
    let inner = map_some (under b) o found h in
    rw (← inner.2) (ap (λ t. b ∷ t) (more inner.0 inner.1))

cut_at-is : (c : ℕ) (bytes : List ℕ) (found : Parts) → cut_at c bytes ≡ Some found → bytes ≡ found.0 ++ c ∷ found.1
cut_at-is c [] found h = absurd (cc)
cut_at-is c (b ∷ bytes) found h = byte_is b c (b == c) refl bytes found (cut_at c bytes) (cut_at-is c bytes) h

-- ---- classes of bytes

pub token_space : is_token_byte 32 ≡ false
unfolding is_token_byte
token_space = refl

pub token_colon : is_token_byte 58 ≡ false
unfolding is_token_byte
token_colon = refl

pub token_lf : is_token_byte 10 ≡ false
unfolding is_token_byte
token_lf = refl

pub token_cr : is_token_byte 13 ≡ false
unfolding is_token_byte
token_cr = refl

token_all : (bytes : List ℕ) → IsToken bytes → list_all is_token_byte bytes ≡ true
token_all bytes h = list_all-from_AllPass is_token_byte bytes h.1

nonempty : (bytes : List ℕ) → 0 < length bytes → nat_lt 0 (length bytes) ≡ true
nonempty bytes h = grind (arith, nat_tests)

token_test : (bytes : List ℕ) → IsToken bytes → is_token bytes ≡ true
token_test bytes h = both_true _ _ (nonempty bytes h.0) (token_all bytes h)

some_bytes : (bytes : List ℕ) → nat_lt 0 (length bytes) ≡ true → 0 < length bytes
some_bytes bytes h = grind (arith, nat_tests)

token_is : (bytes : List ℕ) → is_token bytes ≡ true → IsToken bytes
token_is bytes h =
    let both = and_true _ _ h in (some_bytes bytes both.0, AllPass-from_list_all is_token_byte bytes both.1)

token_clean : (bytes : List ℕ) → IsToken bytes → IsClean bytes
token_clean bytes h = clean is_token_byte token_lf token_cr bytes (token_all bytes h)

abbrev IsTarget : List ℕ → Type 0
IsTarget bytes = (0 < length bytes) × AllPass is_uri_byte bytes × IsUtf8 bytes

target_test : (bytes : List ℕ) → IsTarget bytes → is_target bytes ≡ true
target_test bytes h =
    both_true _ _ (both_true _ _ (nonempty bytes h.0) (list_all-from_AllPass is_uri_byte bytes h.1)) (is_utf8-from_IsUtf8 bytes h.2)

target_is : (bytes : List ℕ) → is_target bytes ≡ true → IsTarget bytes
target_is bytes h =
    let both = and_true _ _ h in
    let first = and_true _ _ both.0 in
    (some_bytes bytes first.0, AllPass-from_list_all is_uri_byte bytes first.1, IsUtf8-from_is_utf8 bytes both.1)

-- ---- the request line

abbrev line_text : List ℕ → List ℕ → ℕ → List ℕ
line_text method target minor = method ++ 32 ∷ (target ++ 32 ∷ print_version minor)

minor_of-print : (minor : ℕ) → minor ≤ 1 → minor_of (print_version minor) ≡ Some minor
minor_of-print zero h = refl
minor_of-print (suc zero) h = refl
minor_of-print (suc (suc n)) h = absurd (omega arith)

version_clean : (minor : ℕ) → minor ≤ 1 → IsClean (print_version minor)
version_clean zero h = (refl, refl, (refl, refl, (refl, refl, (refl, refl, (refl, refl, (refl, refl, (refl, refl, (refl, refl, tt))))))))
version_clean (suc zero) h = (refl, refl, (refl, refl, (refl, refl, (refl, refl, (refl, refl, (refl, refl, (refl, refl, (refl, refl, tt))))))))
version_clean (suc (suc n)) h = absurd (omega arith)

line_clean : (method target : List ℕ) (minor : ℕ) → IsToken method → IsTarget target → minor ≤ 1 → IsClean (line_text method target minor)
line_clean method target minor m t v =
    clean_append method _ (token_clean method m)
    (refl, refl, clean_append target _ (clean is_uri_byte refl refl target (list_all-from_AllPass is_uri_byte target t.1)) (refl, refl, version_clean minor v))

request_line-print : (method target : List ℕ) (minor : ℕ) → IsToken method → IsTarget target → minor ≤ 1
    → request_line (line_text method target minor) ≡ Some (record { method = method; target = target; minor = minor })
request_line-print method target minor m t v =
    rw (
      cut_at-found 32 method (target ++ 32 ∷ print_version minor) (has_none is_token_byte 32 token_space method (token_all method m)),
      cut_at-found 32 target (print_version minor) (has_none is_uri_byte 32 refl target (list_all-from_AllPass is_uri_byte target t.1)),
      token_test method m,
      target_test target t,
      minor_of-print minor v,
    ) refl

minor_is : (version : List ℕ) (a b : Bool) → Decides a (version ≡ codes "HTTP/1.1") → Decides b (version ≡ codes "HTTP/1.0") → (minor : ℕ)
    → (if a then Some 1 else if b then Some 0 else None) ≡ Some minor → (version ≡ print_version minor) × (minor ≤ 1)
minor_is version true b p q minor h = let e : 1 ≡ minor = cc in rw (← e) (p.0 refl, omega arith)
minor_is version false true p q minor h = let e : 0 ≡ minor = cc in rw (← e) (q.0 refl, omega arith)
minor_is version false false p q minor h = absurd (cc)

abbrev line_when : Bool → List ℕ → List ℕ → Option ℕ → Option RequestLine
line_when t method target o = if t then option_map (λ minor. record { method = method; target = target; minor = minor }) o else None

line_when-is : (t : Bool) (method target : List ℕ) (o : Option ℕ) (found : RequestLine) → line_when t method target o ≡ Some found
    → (t ≡ true) × (found.method ≡ method) × (found.target ≡ target) × (o ≡ Some found.minor)
line_when-is true method target None found h = absurd (cc)
line_when-is true method target (Some minor) found h =
    let made : RequestLine = record { method = method; target = target; minor = minor } in
    let e : made ≡ found = cc in
    (refl, ap (λ (l : RequestLine). l.method) (sym e), ap (λ (l : RequestLine). l.target) (sym e), ap (λ (l : RequestLine). Some l.minor) e)
line_when-is false method target o found h = absurd (cc)

line_with-is : (method : List ℕ) (rest : Parts) (found : RequestLine) → line_with method rest ≡ Some found
    → (method ++ 32 ∷ (rest.0 ++ 32 ∷ rest.1) ≡ line_text found.method found.target found.minor) × IsToken found.method × IsTarget found.target × (found.minor ≤ 1)
line_with-is method rest found h =
    let it = line_when-is (is_token method && is_target rest.0) method rest.0 (minor_of rest.1) found h in
    let both = and_true (is_token method) (is_target rest.0) it.0 in
    let version = minor_is rest.1 _ _ (bytes_eq-Decides rest.1 (codes "HTTP/1.1")) (bytes_eq-Decides rest.1 (codes "HTTP/1.0")) found.minor it.3 in (
      rw (it.1, it.2, version.0) refl,
      rw it.1 (token_is method both.0),
      rw it.2 (target_is rest.0 both.1),
      version.1,
    )

request_line-is : (line : List ℕ) (found : RequestLine) → request_line line ≡ Some found
    → (line ≡ line_text found.method found.target found.minor) × IsToken found.method × IsTarget found.target × (found.minor ≤ 1)
request_line-is line found h =
    let first = and_then_some (λ (parts : Parts). option_and_then (line_with parts.0) (cut_at 32 parts.1)) (cut_at 32 line) found h in
    let second = and_then_some (line_with first.0.0) (cut_at 32 first.0.1) found first.2 in
    let it = line_with-is first.0.0 second.0 found second.2 in (
      cut_at-is 32 line first.0 first.1 ∙ ap (λ t. first.0.0 ++ 32 ∷ t) (cut_at-is 32 first.0.1 second.0 second.1) ∙ it.0,
      it.1,
      it.2,
      it.3,
    )

-- ---- field lines

abbrev field_text : Field → List ℕ
field_text f = f.name ++ 58 ∷ f.raw

field_clean : (f : Field) → IsField f → IsClean (field_text f)
field_clean f h =
    clean_append f.name _ (token_clean f.name h.name) (refl, refl, clean is_value_byte refl refl f.raw (list_all-from_AllPass is_value_byte f.raw h.raw))

field_line-print : (f : Field) → IsField f → field_line (field_text f) ≡ Some (name_and_value f)
field_line-print f h =
    rw (
      cut_at-found 58 f.name f.raw (has_none is_token_byte 58 token_colon f.name (token_all f.name h.name)),
      token_test f.name h.name,
      list_all-from_AllPass is_value_byte f.raw h.raw,
    ) refl

section-nil : (last : LineEnd) → text_lines (print_section [] last) ≡ Some ([] ∷ [])
section-nil crlf = refl
section-nil lf = refl

section-cons : (f : Field) (fields : List Field) (last : LineEnd) → print_section (f ∷ fields) last ≡ field_text f ++ (print_end f.end ++ print_section fields last)
section-cons f fields last = regroup (field_text f) (print_end f.end) _ (print_end last)
  where
    regroup : (a b c d : List ℕ) → ((a ++ b) ++ c) ++ d ≡ a ++ (b ++ (c ++ d))
    regroup a b c d = simp append_assoc

section-lines : (fields : List Field) (last : LineEnd) → All IsField fields → text_lines (print_section fields last) ≡ Some (map field_text fields ++ [] ∷ [])
section-lines [] last h = section-nil last
section-lines (f ∷ fields) last h =
    ap text_lines (section-cons f fields last)
    ∙ text_lines-print (field_text f) f.end (print_section fields last) (field_clean f (All-head IsField f fields h))
    ∙ ap (option_map (λ lines. field_text f ∷ lines)) (section-lines fields last (All-tail IsField f fields h))

field_lines-more : (line last : List ℕ) (lines : List (List ℕ)) → field_lines (line ∷ (lines ++ last ∷ [])) ≡ add_field (field_line line) (field_lines (lines ++ last ∷ []))
field_lines-more line last [] = refl
field_lines-more line last (next ∷ lines) = refl

field_lines-print : (fields : List Field) → All IsField fields → field_lines (map field_text fields ++ [] ∷ []) ≡ Some (map name_and_value fields)
field_lines-print [] h = refl
field_lines-print (f ∷ fields) h =
    field_lines-more (field_text f) [] (map field_text fields)
    ∙ ap₂ add_field (field_line-print f (All-head IsField f fields h)) (field_lines-print fields (All-tail IsField f fields h))

abbrev IsSection : List ℕ → List FieldLine → Type 0
IsSection bytes lines = (fields : List Field) × (last : LineEnd) × All IsField fields × (bytes ≡ print_section fields last) × (map name_and_value fields ≡ lines)

added : (o : Option FieldLine) (p : Option (List FieldLine)) (lines : List FieldLine) → add_field o p ≡ Some lines
    → (line : FieldLine) × (more : List FieldLine) × (o ≡ Some line) × (p ≡ Some more) × (line ∷ more ≡ lines)
added None p lines h = absurd (cc)
added (Some line) None lines h = absurd (cc)
added (Some line) (Some more) lines h = (line, more, refl, refl, cc)

field_with-is : (parts : Parts) (line : FieldLine) → field_with parts ≡ Some line → IsToken parts.0 × AllPass is_value_byte parts.1 × ((parts.0, trim_ows parts.1) ≡ line)
field_with-is parts line h =
    let it = if_some (is_token parts.0 && list_all is_value_byte parts.1) (parts.0, trim_ows parts.1) line h in
    let both = and_true (is_token parts.0) (list_all is_value_byte parts.1) it.0 in
    (token_is parts.0 both.0, AllPass-from_list_all is_value_byte parts.1 both.1, it.1)

abbrev FieldOf : List ℕ → FieldLine → LineEnd → Type 0
FieldOf bytes line end = (f : Field) × IsField f × (field_text f ≡ bytes) × (name_and_value f ≡ line) × (f.end ≡ end)

field_line-is : (bytes : List ℕ) (line : FieldLine) (end : LineEnd) → field_line bytes ≡ Some line → FieldOf bytes line end
field_line-is bytes line end h =
    let cut = and_then_some field_with (cut_at 58 bytes) line h in
    let it = field_with-is cut.0 line cut.2 in (
      record { name = cut.0.0; raw = cut.0.1; end = end },
      record { name = it.0; raw = it.1 },
      sym (cut_at-is 58 bytes cut.0 cut.1),
      it.2,
      refl,
    )

last_line-is : (text : List ℕ) (lines : List FieldLine) (end : LineEnd) (bytes rest : List ℕ) → bytes ≡ text ++ (print_end end ++ rest) → rest ≡ []
    → no_fields text ≡ Some lines → IsSection bytes lines
last_line-is [] lines end bytes rest e over h = ([], end, All-nil IsField, e ∙ ap (λ t. print_end end ++ t) over ∙ append-nil (print_end end), cc)
last_line-is (b ∷ text) lines end bytes rest e over h = absurd (cc)

field_lines-is : (texts : List (List ℕ)) (bytes : List ℕ) (lines : List FieldLine) → Spelled texts bytes → field_lines texts ≡ Some lines → IsSection bytes lines
field_lines-is [] bytes lines s h = absurd (cc)
field_lines-is (text ∷ []) bytes lines s h = last_line-is text lines s.0 bytes s.1 s.2 s.3 h
field_lines-is (text ∷ next ∷ texts) bytes lines s h =
    let it = added (field_line text) (field_lines (next ∷ texts)) lines h in
    let first = field_line-is text it.0 s.0 it.2 in
    let others = field_lines-is (next ∷ texts) s.1 it.1 s.3 it.3 in (
      first.0 ∷ others.0,
      others.1,
      All-cons IsField first.0 others.0 first.1 others.2,
      s.2 ∙ ap₂ (λ t e. t ++ (print_end e ++ s.1)) (sym first.2) (sym first.4) ∙ ap (λ t. field_text first.0 ++ (print_end first.0.end ++ t)) others.3
          ∙ sym (section-cons first.0 others.0 others.1),
      ap₂ (λ line more. line ∷ more) first.3 others.4 ∙ it.4,
    )

-- ---- whole heads

abbrev reading : List ℕ → Option Head
reading bytes = option_and_then head_in (text_lines bytes)

past_empty : (o : Option (List (List ℕ))) → option_and_then head_in (option_map (λ lines. [] ∷ lines) o) ≡ option_and_then head_in o
past_empty None = refl
past_empty (Some lines) = refl

reading-blank : (blank : List LineEnd) (rest : List ℕ) → reading (print_blank blank ++ rest) ≡ reading rest
reading-blank [] rest = refl
reading-blank (e ∷ blank) rest =
    ap reading (append_assoc (print_end e) (print_blank blank) rest)
    ∙ ap (option_and_then head_in) (text_lines-print [] e (print_blank blank ++ rest) tt)
    ∙ past_empty (text_lines (print_blank blank ++ rest))
    ∙ reading-blank blank rest

few_test : (n : ℕ) → n ≤ field_limit → nat_le n field_limit ≡ true
few_test n h = grind (arith, nat_tests)

few_is : (n : ℕ) → nat_le n field_limit ≡ true → n ≤ field_limit
few_is n h = grind (arith, nat_tests)

length-fields : (fields : List Field) → length (map name_and_value fields) ≡ length fields
length-fields [] = refl
length-fields (f ∷ fields) = ap suc (length-fields fields)

start-lines : (method target : List ℕ) (minor : ℕ) (line_end : LineEnd) (fields : List Field) (last : LineEnd)
    → IsToken method → IsTarget target → minor ≤ 1 → All IsField fields
    → text_lines (line_text method target minor ++ (print_end line_end ++ print_section fields last)) ≡ Some (line_text method target minor ∷ (map field_text fields ++ [] ∷ []))
start-lines method target minor line_end fields last m t v h =
    text_lines-print (line_text method target minor) line_end (print_section fields last) (line_clean method target minor m t v)
    ∙ ap (option_map (λ lines. line_text method target minor ∷ lines)) (section-lines fields last h)

head_in-line : (method target : List ℕ) (minor : ℕ) (lines : List (List ℕ)) → 0 < length method
    → head_in (line_text method target minor ∷ lines) ≡ option_and_then (λ first. option_and_then (head_with first) (field_lines lines)) (request_line (line_text method target minor))
head_in-line [] target minor lines some = absurd (omega arith)
head_in-line (b ∷ method) target minor lines some = refl

reading-start : (method target : List ℕ) (minor : ℕ) (line_end : LineEnd) (fields : List Field) (last : LineEnd)
    → IsToken method → IsTarget target → minor ≤ 1 → All IsField fields → length fields ≤ field_limit
    → reading (line_text method target minor ++ (print_end line_end ++ print_section fields last))
    ≡ Some (record { method = method; target = target; minor = minor; fields = map name_and_value fields })
reading-start method target minor line_end fields last m t v h few =
    ap (option_and_then head_in) (start-lines method target minor line_end fields last m t v h)
    ∙ head_in-line method target minor (map field_text fields ++ [] ∷ []) m.0
    ∙ rw (request_line-print method target minor m t v, field_lines-print fields h, length-fields fields, few_test (length fields) few) refl

whole-text : (h : RequestHead) → print_request h ++ []
    ≡ print_blank h.blank ++ (line_text h.method h.target h.minor ++ (print_end h.line_end ++ print_section h.fields h.last))
whole-text h =
    print_request-append h []
    ∙ regroup (print_blank h.blank) h.method h.target (print_version h.minor) (print_end h.line_end) (print_section h.fields h.last)
  where
    regroup : (a b c d e f : List ℕ) → a ++ (b ++ 32 ∷ (c ++ 32 ∷ (d ++ (e ++ (f ++ []))))) ≡ a ++ ((b ++ 32 ∷ (c ++ 32 ∷ d)) ++ (e ++ f))
    regroup a b c d e f = simp (append_assoc, cons-append, append-nil {A = ℕ})

-- the head of the grammar is the head by lines
pub head_of-said : (bytes : List ℕ) (h : RequestHead) → IsHead bytes h → head_of bytes ≡ Some (said h)
unfolding head_of
head_of-said bytes h is =
    ap reading (is.whole.1 ∙ whole-text h)
    ∙ reading-blank h.blank _
    ∙ reading-start h.method h.target h.minor h.line_end h.fields h.last is.whole.0.method (is.whole.0.target.0, is.whole.0.target.1, is.whole.0.target_text) is.whole.0.minor is.whole.0.fields is.few

-- and the other way: where the lines give a head, the grammar has one
abbrev HasHead : List ℕ → Type 0
HasHead bytes = (h : RequestHead) × IsHead bytes h

with_blank : (e : LineEnd) (bytes rest : List ℕ) → bytes ≡ print_end e ++ rest → HasHead rest → HasHead bytes
with_blank e bytes rest same h =
    let more : RequestHead = record h.0 { blank = e ∷ h.0.blank } in (
      more,
      record {
        whole = (
          record {
            method = h.1.whole.0.method;
            target = h.1.whole.0.target;
            target_text = h.1.whole.0.target_text;
            minor = h.1.whole.0.minor;
            fields = h.1.whole.0.fields;
          },
          same ∙ ap (λ t. print_end e ++ t) (h.1.whole.1 ∙ whole-text h.0)
              ∙ sym (append_assoc (print_end e) (print_blank h.0.blank) _) ∙ sym (whole-text more),
        );
        few = h.1.few;
      },
    )

head_line : (text bytes rest : List ℕ) (e : LineEnd) (texts : List (List ℕ)) (head : Head) → bytes ≡ text ++ (print_end e ++ rest) → Spelled texts rest
    → option_and_then (λ first. option_and_then (head_with first) (field_lines texts)) (request_line text) ≡ Some head → HasHead bytes
head_line text bytes rest e texts head same s h =
    let first = and_then_some (λ (first : RequestLine). option_and_then (head_with first) (field_lines texts)) (request_line text) head h in
    let line = request_line-is text first.0 first.1 in
    let second = and_then_some (head_with first.0) (field_lines texts) head first.2 in
    let section = field_lines-is texts rest second.0 s second.1 in
    let few = if_some (nat_le (length second.0) field_limit) _ head second.2 in
    let it : RequestHead = record {
      blank = [];
      method = first.0.method;
      target = first.0.target;
      minor = first.0.minor;
      line_end = e;
      fields = section.0;
      last = section.1;
    } in (
      it,
      record {
        whole = (
          record {
            method = line.1;
            target = (line.2.0, line.2.1);
            target_text = line.2.2;
            minor = line.3;
            fields = section.2;
          },
          same ∙ ap₂ (λ t u. t ++ (print_end e ++ u)) line.0 section.3 ∙ sym (whole-text it),
        );
        few = rw (← length-fields section.0, section.4) (few_is (length second.0) few.0);
      },
    )

head_in-has : (texts : List (List ℕ)) (bytes : List ℕ) (head : Head) → Spelled texts bytes → head_in texts ≡ Some head → HasHead bytes
head_in-has [] bytes head s h = absurd (cc)
head_in-has ([] ∷ texts) bytes head s h = with_blank s.0 bytes s.1 s.2 (head_in-has texts s.1 head s.3 h)
head_in-has ((b ∷ text) ∷ texts) bytes head s h = head_line (b ∷ text) bytes s.1 s.0 texts head s.2 s.3 h

head_of-has : (bytes : List ℕ) (head : Head) → head_of bytes ≡ Some head → HasHead bytes
unfolding head_of
head_of-has bytes head h =
    let it = and_then_some head_in (text_lines bytes) head h in
    head_in-has it.0 bytes head (spelled bytes it.0 it.1) it.2

no_head : (bytes : List ℕ) (o : Option Head) → head_of bytes ≡ o → ((h : RequestHead) → ¬ IsHead bytes h) → None ≡ o
no_head bytes None e none = refl
no_head bytes (Some head) e none = let it = head_of-has bytes head e in absurd (none it.0 it.1)

pub head_of_none : (bytes : List ℕ) → ((h : RequestHead) → ¬ IsHead bytes h) → None ≡ head_of bytes
head_of_none bytes none = no_head bytes (head_of bytes) refl none
