-- How a path is read by the texts of routes, over whole segments; and that the walk of a router agrees with it.
use Rattle.std.proofs.Common.{◌≡◌, ℕ, ◌==◌, List, [], ◌∷◌, ◌++◌, length, Option, Some, None, Bool, true, false, refl, sym, ap, ◌∙◌, arith}
use Rattle.std.specs.Prelude.{nat_lt, if◌then◌else◌, option_map, ⊤}
use Rattle.std.specs.Str.{bytes_eq}
use Rattle.std.specs.Cmp.Lexicographic.{bytes_decides}
use Rattle.std.proofs.lemmas.Bool.Decides.{nat_tests}
use Rattle.http_messages.specs.Heads.{cut_at}
use Rattle.http_messages.specs.declared.route.RouteKind.{RouteKind}
use Rattle.http_messages.specs.Routes.{segments, onto_first, in_braces, name_in, Parts, parts_in, Texts, or_else, first_of}
use Rattle.http_messages.proofs.RouteWalks.{cut_more, is_word, word_cut, behind_word, behind_part, at_end}

-- ---- segments, by the first slash

abbrev pub by_cut : List ℕ → Option (List ℕ × List ℕ) → List (List ℕ)
by_cut p None = p ∷ []
by_cut p (Some parts) = parts.0 ∷ segments parts.1

pub segments_cut : (p : List ℕ) → segments p ≡ by_cut p (cut_at 47 p)
segments_cut [] = refl
segments_cut (b ∷ p) = by (b == 47) (cut_at 47 p) (segments_cut p)
  where
    by : (t : Bool) (o : Option (List ℕ × List ℕ)) → segments p ≡ by_cut p o
        → (if t then [] ∷ segments p else onto_first b (segments p)) ≡ by_cut (b ∷ p) (cut_more b p t o)
    by true o ih = refl
    by false None ih = rw ih refl
    by false (Some parts) ih = rw ih refl

-- ---- texts with a segment in front

abbrev pub behind : List ℕ → Texts → Texts
behind t [] = []
behind t ((text, kind) ∷ texts) = (t ∷ text, kind) ∷ behind t texts

-- each has a segment
abbrev pub AllMore : Texts → Type 0
AllMore [] = ⊤
AllMore (([], kind) ∷ texts) = ⊥
AllMore ((t ∷ text, kind) ∷ texts) = AllMore texts

-- a path of one segment is of none that has another behind it
one_segment : (t s : List ℕ) (found : Parts) (texts : Texts) → AllMore texts → first_of found (behind t texts) (s ∷ []) ≡ None
one_segment t s found [] more = refl
one_segment t s found (([], kind) ∷ texts) more = absurd more
one_segment t s found ((u ∷ text, kind) ∷ texts) more = by (in_braces t) (nat_lt 0 (length s)) (bytes_eq s t) (one_segment t s found texts more)
  where
    by : (a b c : Bool) → first_of found (behind t texts) (s ∷ []) ≡ None
        → or_else (option_map (λ parts. (kind, parts)) (if a then (if b then None else None) else (if c then None else None))) (first_of found (behind t texts) (s ∷ [])) ≡ None
    by true true c ih = ih
    by true false c ih = ih
    by false b true ih = ih
    by false b false ih = ih

word_segment : (t s : List ℕ) (path : List (List ℕ)) (found : Parts) (texts : Texts) → in_braces t ≡ false → first_of found (behind t texts) (s ∷ path) ≡ (if bytes_eq s t then first_of found texts path else None)
word_segment t s path found [] plain = by (bytes_eq s t)
  where
    by : (c : Bool) → first_of found [] path ≡ (if c then first_of found [] path else None)
    by true = refl
    by false = refl
word_segment t s path found ((text, kind) ∷ texts) plain = rw plain (by (bytes_eq s t) (word_segment t s path found texts plain))
  where
    by : (c : Bool) → first_of found (behind t texts) (s ∷ path) ≡ (if c then first_of found texts path else None)
        → or_else (option_map (λ parts. (kind, parts)) (if c then parts_in found text path else None)) (first_of found (behind t texts) (s ∷ path)) ≡ (if c then or_else (option_map (λ parts. (kind, parts)) (parts_in found text path)) (first_of found texts path) else None)
    by true ih = rw ih refl
    by false ih = ih

part_segment : (t s : List ℕ) (path : List (List ℕ)) (found : Parts) (texts : Texts) → in_braces t ≡ true → first_of found (behind t texts) (s ∷ path) ≡ (if nat_lt 0 (length s) then first_of (found ++ (name_in t, s) ∷ []) texts path else None)
part_segment t s path found [] braces = by (nat_lt 0 (length s))
  where
    by : (c : Bool) → first_of found [] path ≡ (if c then first_of found [] path else None)
    by true = refl
    by false = refl
part_segment t s path found ((text, kind) ∷ texts) braces = rw braces (by (nat_lt 0 (length s)) (part_segment t s path found texts braces))
  where
    by : (c : Bool) → first_of found (behind t texts) (s ∷ path) ≡ (if c then first_of (found ++ (name_in t, s) ∷ []) texts path else None)
        → or_else (option_map (λ parts. (kind, parts)) (if c then parts_in (found ++ (name_in t, s) ∷ []) text path else None)) (first_of found (behind t texts) (s ∷ path))
        ≡ (if c then or_else (option_map (λ parts. (kind, parts)) (parts_in (found ++ (name_in t, s) ∷ []) text path)) (first_of (found ++ (name_in t, s) ∷ []) texts path) else None)
    by true ih = rw ih refl
    by false ih = ih

pub read_word : (t : List ℕ) (found : Parts) (texts : Texts) (p : List ℕ) → in_braces t ≡ false → AllMore texts → first_of found (behind t texts) (segments p) ≡ behind_word t (cut_at 47 p) (λ rest. first_of found texts (segments rest))
read_word t found texts p plain more = ap (first_of found (behind t texts)) (segments_cut p) ∙ by (cut_at 47 p)
  where
    by : (o : Option (List ℕ × List ℕ)) → first_of found (behind t texts) (by_cut p o) ≡ behind_word t o (λ rest. first_of found texts (segments rest))
    by None = one_segment t p found texts more
    by (Some parts) = word_segment t parts.0 (segments parts.1) found texts plain

pub read_part : (t : List ℕ) (found : Parts) (texts : Texts) (p : List ℕ) → in_braces t ≡ true → AllMore texts
    → first_of found (behind t texts) (segments p) ≡ behind_part (cut_at 47 p) (λ s rest. first_of (found ++ (name_in t, s) ∷ []) texts (segments rest))
read_part t found texts p braces more = ap (first_of found (behind t texts)) (segments_cut p) ∙ by (cut_at 47 p)
  where
    by : (o : Option (List ℕ × List ℕ)) → first_of found (behind t texts) (by_cut p o) ≡ behind_part o (λ s rest. first_of (found ++ (name_in t, s) ∷ []) texts (segments rest))
    by None = one_segment t p found texts more
    by (Some ([], rest)) = part_segment t [] (segments rest) found texts braces
    by (Some (b ∷ s, rest)) = part_segment t (b ∷ s) (segments rest) found texts braces ∙ (let is : nat_lt 0 (length (b ∷ s)) ≡ true = grind (arith, nat_tests) in rw is refl)

no_parts : (kind : RouteKind) (c : Bool) (parts : Option Parts) → parts ≡ None → or_else (option_map (λ found. (kind, found)) (if c then parts else None)) None ≡ None
no_parts kind true parts is = rw is refl
no_parts kind false parts is = refl

-- a path has a segment
some_segment : (found : Parts) (p : List ℕ) → parts_in found [] (segments p) ≡ None
some_segment found p = ap (parts_in found []) (segments_cut p) ∙ by (cut_at 47 p)
  where
    by : (o : Option (List ℕ × List ℕ)) → parts_in found [] (by_cut p o) ≡ None
    by None = refl
    by (Some parts) = refl

pub read_last : (t : List ℕ) (found : Parts) (kind : RouteKind) (p : List ℕ) → in_braces t ≡ true → first_of found ((t ∷ [], kind) ∷ []) (segments p) ≡ at_end p (cut_at 47 p) (kind, found ++ (name_in t, p) ∷ [])
read_last t found kind p braces = ap (first_of found ((t ∷ [], kind) ∷ [])) (segments_cut p) ∙ by p (cut_at 47 p)
  where
    by : (q : List ℕ) (o : Option (List ℕ × List ℕ)) → first_of found ((t ∷ [], kind) ∷ []) (by_cut q o) ≡ at_end q o (kind, found ++ (name_in t, q) ∷ [])
    by [] None = rw braces refl
    by [] (Some parts) = rw braces (no_parts kind (nat_lt 0 (length parts.0)) _ (some_segment _ parts.1))
    by (b ∷ q) None = let is : nat_lt 0 (length (b ∷ q)) ≡ true = grind (arith, nat_tests) in rw (braces, is) refl
    by (b ∷ q) (Some parts) = rw braces (no_parts kind (nat_lt 0 (length parts.0)) _ (some_segment _ parts.1))

pub read_end : (w : List ℕ) (found : Parts) (kind : RouteKind) (p : List ℕ) → is_word w ≡ true → in_braces w ≡ false → first_of found ((w ∷ [], kind) ∷ []) (segments p) ≡ (if bytes_eq p w then Some (kind, found) else None)
read_end w found kind p word plain = ap (first_of found ((w ∷ [], kind) ∷ [])) (segments_cut p) ∙ by (cut_at 47 p) refl (bytes_eq p w) refl
  where
    by : (o : Option (List ℕ × List ℕ)) → cut_at 47 p ≡ o → (c : Bool) → bytes_eq p w ≡ c → first_of found ((w ∷ [], kind) ∷ []) (by_cut p o) ≡ (if c then Some (kind, found) else None)
    by None cut true is = rw (plain, is) refl
    by None cut false is = rw (plain, is) refl
    by (Some parts) cut true is = let same : p ≡ w = (bytes_decides p w).0 is in let both : Some parts ≡ None = sym cut ∙ (ap (cut_at 47) same ∙ word_cut w word) in absurd cc
    by (Some parts) cut false is = rw plain (no_parts kind (bytes_eq parts.0 w) _ (some_segment found parts.1))
