-- The tokens of an object: those of its members, between its braces.
use Rattle.std.proofs.Common.{◌≡◌, ℕ, ◌≤◌, List, [], ◌∷◌, ◌++◌, length, map, take, Option, Some, None, refl, sym, ap, ◌∙◌, append_assoc, append-nil}
use Rattle.std.proofs.lemmas.List.{take_all}
use Rattle.json.specs.Token.{Token, begin_object, end_object, begin_array, end_array, key, string}
use Rattle.json.specs.Tree.{items_tokens, members_tokens}
use Rattle.json.specs.Print.{print}
use Rattle.serde_json.specs.Data.{Data, Members, object}
use Rattle.serde_json.specs.Written.{items_outline, members_outline, compact_text}
use Rattle.serde_json.proofs.Texts.{print-outline}
use Rattle.request_book.specs.Words.{Field, with_member, members, string_items, strings}
use Rattle.request_book.specs.Tokens.{data_tokens, member_tokens, body_tokens}

member_first : (k : List ℕ) (o : Option Data) (ms : Members) → members_tokens (members_outline (with_member k o ms)) ≡ member_tokens k o ++ members_tokens (members_outline ms)
member_first k None ms = refl
member_first k (Some d) ms = refl

pub members_tokens-body : (fs : List Field) → members_tokens (members_outline (members fs)) ≡ body_tokens fs ++ end_object ∷ []
members_tokens-body [] = refl
members_tokens-body (f ∷ fs) =
    member_first f.0 f.1 (members fs) ∙ ap (λ ts. member_tokens f.0 f.1 ++ ts) (members_tokens-body fs) ∙ sym (append_assoc (member_tokens f.0 f.1) (body_tokens fs) (end_object ∷ []))

-- the members written between braces are the object's text
pub print_body : (fs : List Field) (ts : List Token) → ts ≡ ((begin_object ∷ []) ++ body_tokens fs) ++ end_object ∷ [] → print ts ≡ compact_text (object (members fs))
print_body fs ts is = ap print (is ∙ ap (λ us. begin_object ∷ us) (sym (members_tokens-body fs))) ∙ print-outline (object (members fs))

-- ---- pieces added one after another

pub added_3 : (o a b c : List Token) → ((o ++ a) ++ b) ++ c ≡ o ++ (a ++ (b ++ (c ++ [])))
added_3 o a b c = simp (append_assoc, append-nil)

pub added_4 : (o a b c d : List Token) → (((o ++ a) ++ b) ++ c) ++ d ≡ o ++ (a ++ (b ++ (c ++ (d ++ []))))
added_4 o a b c d = simp (append_assoc, append-nil)

pub added_5 : (o a b c d e : List Token) → ((((o ++ a) ++ b) ++ c) ++ d) ++ e ≡ o ++ (a ++ (b ++ (c ++ (d ++ (e ++ [])))))
added_5 o a b c d e = simp (append_assoc, append-nil)

pub added_8 : (o a b c d e f g h : List Token) → (((((((o ++ a) ++ b) ++ c) ++ d) ++ e) ++ f) ++ g) ++ h ≡ o ++ (a ++ (b ++ (c ++ (d ++ (e ++ (f ++ (g ++ (h ++ []))))))))
added_8 o a b c d e f g h = simp (append_assoc, append-nil)

pub added_11 : (o a b c d e f g h i j k : List Token) → ((((((((((o ++ a) ++ b) ++ c) ++ d) ++ e) ++ f) ++ g) ++ h) ++ i) ++ j) ++ k ≡ o ++ (a ++ (b ++ (c ++ (d ++ (e ++ (f ++ (g ++ (h ++ (i ++ (j ++ (k ++ [])))))))))))
added_11 o a b c d e f g h i j k = simp (append_assoc, append-nil)

-- ---- lists of strings

pub items_tokens-strings : (ts : List (List ℕ)) → items_tokens (items_outline (string_items ts)) ≡ map string ts ++ end_array ∷ []
items_tokens-strings [] = refl
items_tokens-strings (t ∷ ts) = ap (λ us. string t ∷ us) (items_tokens-strings ts)

-- all strings of the list are written
pub all_added : (o : List Token) (k : List ℕ) (ts : List (List ℕ)) (i : ℕ) → length ts ≤ i
    → (((o ++ key k ∷ []) ++ begin_array ∷ []) ++ map string (take i ts)) ++ end_array ∷ [] ≡ o ++ member_tokens k (Some (strings ts))
all_added o k ts i past =
    ap (λ us. (((o ++ key k ∷ []) ++ begin_array ∷ []) ++ map string us) ++ end_array ∷ []) (take_all i ts past)
    ∙ append_assoc ((o ++ key k ∷ []) ++ begin_array ∷ []) (map string ts) (end_array ∷ []) ∙ append_assoc (o ++ key k ∷ []) (begin_array ∷ []) (map string ts ++ end_array ∷ [])
    ∙ append_assoc o (key k ∷ []) (begin_array ∷ (map string ts ++ end_array ∷ [])) ∙ ap (λ us. o ++ (key k ∷ begin_array ∷ us)) (sym (items_tokens-strings ts))
