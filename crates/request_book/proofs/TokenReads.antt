-- What is read of tokens was written with them.
use Rattle.std.proofs.Common.{◌≡◌, ℕ, ◌<◌, List, [], ◌∷◌, ◌++◌, length, map, drop, Bool, true, false, Option, Some, None, MatchOption, IfSome, option_map, flat_map, decimal, refl, sym, ap, ◌∙◌, subst, arith, append_assoc, append-nil, length-append}
use Rattle.std.specs.Prelude.{codes, if◌then◌else◌, All}
use Rattle.std.specs.List.{list_all}
use Rattle.std.specs.Fmt.{digits}
use Rattle.std.proofs.lemmas.List.Concat.{flat_map-append}
use Rattle.std.proofs.lemmas.List.Sums.{list_all-from_AllPass}
use Rattle.json.specs.Token as token
use Rattle.json.specs.Token.{Token}
use Rattle.json.specs.Json.{after_end_array, read_key}
use Rattle.json.specs.Lex.{tokens}
use Rattle.serde_json.specs.Data.{Data, null, boolean, number, string, array, object}
use Rattle.serde_json.specs.Read.{read}
use Rattle.po_text.specs.Strings.{is_string}
use Rattle.request_book.specs.declared.parts.Parts.{Parts}
use Rattle.request_book.specs.declared.parts.UnitMembers.{UnitMembers}
use Rattle.request_book.specs.Acts.{IsNumber, domain_field, vote_data}
use Rattle.request_book.specs.Words.{Field, given, natural, strings, number_text, number_data, members}
use Rattle.request_book.specs.Fields.{number_written, UnitFits, unit_fields, unit_parts, action_of, IsPartsText}
use Rattle.request_book.specs.Tokens.{data_tokens, member_tokens, body_tokens, key_token, ReadsUnit}
use Rattle.request_book.proofs.CanonLemmas.{read_tokens, unit_plain}
use Rattle.request_book.proofs.Objects.{IsUnit, IsParts, action_sound, unit_is_parts}
use Rattle.request_book.proofs.Readers.{only_some, map_some, number_sound}
use Rattle.request_book.proofs.TokenLemmas.{items_tokens-strings, members_tokens-body}

-- ---- single tokens

pub read_key_is : (ts rest : List Token) (o : Option (List ℕ)) → read_key ts ≡ Some (o, rest) → ts ≡ key_token o ∷ rest
read_key_is [] rest o e = absurd cc
read_key_is (token.begin_object ∷ ts) rest o e = absurd cc
read_key_is (token.end_object ∷ ts) rest o e =
    let h : (let p : Option (List ℕ) × List Token = (None, ts) in p ≡ (o, rest)) = cc in
    λ i. key_token (h i).0 ∷ (h i).1
read_key_is (token.begin_array ∷ ts) rest o e = absurd cc
read_key_is (token.end_array ∷ ts) rest o e = absurd cc
read_key_is (token.key s ∷ ts) rest o e =
    let h : (let p : Option (List ℕ) × List Token = (Some s, ts) in p ≡ (o, rest)) = cc in
    λ i. key_token (h i).0 ∷ (h i).1
read_key_is (token.string s ∷ ts) rest o e = absurd cc
read_key_is (token.number s ∷ ts) rest o e = absurd cc
read_key_is (token.boolean b ∷ ts) rest o e = absurd cc
read_key_is (token.null ∷ ts) rest o e = absurd cc
read_key_is (token.bad ∷ ts) rest o e = absurd cc

pub after_end_is : (ts rest : List Token) → after_end_array ts ≡ Some rest → ts ≡ token.end_array ∷ rest
after_end_is [] rest e = absurd cc
after_end_is (token.begin_object ∷ ts) rest e = absurd cc
after_end_is (token.end_object ∷ ts) rest e = absurd cc
after_end_is (token.begin_array ∷ ts) rest e = absurd cc
after_end_is (token.end_array ∷ ts) rest e = let h : ts ≡ rest = cc in ap (λ us. token.end_array ∷ us) h
after_end_is (token.key s ∷ ts) rest e = absurd cc
after_end_is (token.string s ∷ ts) rest e = absurd cc
after_end_is (token.number s ∷ ts) rest e = absurd cc
after_end_is (token.boolean b ∷ ts) rest e = absurd cc
after_end_is (token.null ∷ ts) rest e = absurd cc
after_end_is (token.bad ∷ ts) rest e = absurd cc

-- a value has a token
pub some_tokens : (d : Data) → 0 < length (data_tokens d)
some_tokens null = omega arith
some_tokens (boolean b) = omega arith
some_tokens (number n) = omega arith
some_tokens (string s) = omega arith
some_tokens (array ds) = omega arith
some_tokens (object ms) = omega arith

-- ---- single values

string_is : (s t : List ℕ) → string s ≡ string t → s ≡ t
string_is s t e = cc

number_read : (text u : List ℕ) → number_written text ≡ Some u → (text ≡ number_text u) × IsNumber u
number_read text u e = let h = number_sound (string text) u e in (string_is text (number_text u) h.0, h.1)

-- a number that is written as the text
pub number_tokens : (text : List ℕ) (o : Option (List ℕ)) (old new : List Token) → old ≡ token.string text ∷ new → o ≡ number_written text → IfSome o (λ u. old ≡ token.string (number_text u) ∷ new)
number_tokens text None old new is e = tt
number_tokens text (Some u) old new is e = is ∙ ap (λ (t : List ℕ). token.string t ∷ new) (number_read text u (sym e)).0

pub number_fits : (text : List ℕ) (o : Option (List ℕ)) → o ≡ number_written text → IfSome o IsNumber
number_fits text None e = tt
number_fits text (Some u) e = (number_read text u (sym e)).1

pub zero_digits : decimal 0 ≡ codes "0"
unfolding digits
zero_digits = refl

pub one_digits : decimal 1 ≡ codes "1"
unfolding digits
one_digits = refl

texts_tokens : (ts : List (List ℕ)) → flat_map (λ t. data_tokens (string t)) ts ≡ map token.string ts
texts_tokens [] = refl
texts_tokens (t ∷ ts) = ap (λ us. token.string t ∷ us) (texts_tokens ts)

-- a list of strings
pub list_tokens : (ts : List (List ℕ)) (rest : List Token) → token.begin_array ∷ (flat_map (λ t. data_tokens (string t)) ts ++ token.end_array ∷ rest) ≡ data_tokens (strings ts) ++ rest
list_tokens ts rest =
    ap (λ us. token.begin_array ∷ us)
    (ap (λ us. us ++ token.end_array ∷ rest) (texts_tokens ts) ∙ sym (append_assoc (map token.string ts) (token.end_array ∷ []) rest) ∙ ap (λ us. us ++ rest) (sym (items_tokens-strings ts)))

-- where these strings pass together, they are the list that was read
pub passed_list : (p : List (List ℕ) → Bool) (ts : List (List ℕ)) (o : Option (List (List ℕ))) (old rest : List Token)
    → old ≡ token.begin_array ∷ (flat_map (λ t. data_tokens (string t)) ts ++ token.end_array ∷ rest) → o ≡ (if p ts then Some ts else None) → IfSome o (λ own. old ≡ data_tokens (strings own) ++ rest)
passed_list p ts None old rest is e = tt
passed_list p ts (Some own) old rest is e =
    let h = only_some p ts own (sym e) in
    is ∙ list_tokens ts rest ∙ ap (λ (us : List (List ℕ)). data_tokens (strings us) ++ rest) h.0

pub all_strings : (ts : List (List ℕ)) → All (λ t. is_string t ≡ true) ts → list_all is_string ts ≡ true
all_strings ts all = list_all-from_AllPass is_string ts all

-- one more item is read
pub next_item : {A : Type 0} (f : A → List Token) (start past left rest : List Token) (xs ys : List A) (x : A) → start ≡ flat_map f xs ++ past → left ≡ past → left ≡ f x ++ rest → ys ≡ xs ++ x ∷ [] → start ≡ flat_map f ys ++ rest
next_item f start past left rest xs ys x so_far same here more =
    so_far ∙ ap (λ us. flat_map f xs ++ us) (sym same ∙ here ∙ ap (λ us. us ++ rest) (sym (append-nil (f x)))) ∙ sym (append_assoc (flat_map f xs) (f x ++ []) rest)
    ∙ ap (λ us. us ++ rest) (sym (flat_map-append f xs (x ∷ []))) ∙ ap (λ zs. flat_map f zs ++ rest) (sym more)

-- and takes a token
pub fewer_tokens : (d : Data) (past left rest : List Token) → left ≡ past → left ≡ data_tokens d ++ rest → length rest < length past
fewer_tokens d past left rest same here =
    let some = some_tokens d in
    let long = length-append (data_tokens d) rest in
    let whole : length past ≡ length (data_tokens d ++ rest) = ap length (sym same ∙ here) in
    omega (arith, some, long, whole)

-- ---- members one after another

-- these tokens, and behind them those of other members and of the end
pub then_read : (ts us past rest end : List Token) → past ≡ ts ++ rest → rest ≡ us ++ end → past ≡ (ts ++ us) ++ end
then_read ts us past rest end first later = first ∙ ap (λ l. ts ++ l) later ∙ sym (append_assoc ts us end)

-- all members behind `act`, one after another; the domain as it was written
pub unit_reads : (out : Bool) (m : UnitMembers) (domain : Option (List ℕ)) (l0 l1 l2 l3 l4 l5 l6 l7 l8 l9 l10 l11 : List Token) → domain_field out m.domain ≡ domain
    → l0 ≡ member_tokens (codes "caller") (option_map string m.caller) ++ l1
    → l1 ≡ member_tokens (codes "ctx") (option_map string m.ctx) ++ l2
    → l2 ≡ member_tokens (codes "domain") (option_map string domain) ++ l3
    → l3 ≡ member_tokens (codes "forms") (option_map strings m.forms) ++ l4
    → l4 ≡ member_tokens (codes "id") (Some (string m.id)) ++ l5
    → l5 ≡ member_tokens (codes "lang") (Some (string m.lang)) ++ l6
    → l6 ≡ member_tokens (codes "lines") (option_map strings m.lines) ++ l7
    → l7 ≡ member_tokens (codes "number") (option_map number_data m.number) ++ l8
    → l8 ≡ member_tokens (codes "seen") (Some (natural m.seen)) ++ l9
    → l9 ≡ member_tokens (codes "suggestion") (option_map number_data m.suggestion) ++ l10
    → l10 ≡ member_tokens (codes "value") (option_map vote_data m.vote) ++ l11
    → l11 ≡ token.end_object ∷ [] → l0 ≡ body_tokens (unit_fields out m) ++ token.end_object ∷ []
unit_reads out m domain l0 l1 l2 l3 l4 l5 l6 l7 l8 l9 l10 l11 same e0 e1 e2 e3 e4 e5 e6 e7 e8 e9 e10 over =
    let end = token.end_object ∷ [] in
    let domain_read = e2 ∙ ap (λ o. member_tokens (codes "domain") (option_map string o) ++ l3) (sym same) in
    then_read (member_tokens (codes "caller") (option_map string m.caller)) (body_tokens (drop 1 (unit_fields out m))) l0 l1 end e0
    (then_read (member_tokens (codes "ctx") (option_map string m.ctx)) (body_tokens (drop 2 (unit_fields out m))) l1 l2 end e1
    (then_read (member_tokens (codes "domain") (option_map string (domain_field out m.domain))) (body_tokens (drop 3 (unit_fields out m))) l2 l3 end domain_read
    (then_read (member_tokens (codes "forms") (option_map strings m.forms)) (body_tokens (drop 4 (unit_fields out m))) l3 l4 end e3
    (then_read (member_tokens (codes "id") (Some (string m.id))) (body_tokens (drop 5 (unit_fields out m))) l4 l5 end e4
    (then_read (member_tokens (codes "lang") (Some (string m.lang))) (body_tokens (drop 6 (unit_fields out m))) l5 l6 end e5
    (then_read (member_tokens (codes "lines") (option_map strings m.lines)) (body_tokens (drop 7 (unit_fields out m))) l6 l7 end e6
    (then_read (member_tokens (codes "number") (option_map number_data m.number)) (body_tokens (drop 8 (unit_fields out m))) l7 l8 end e7
    (then_read (member_tokens (codes "seen") (Some (natural m.seen))) (body_tokens (drop 9 (unit_fields out m))) l8 l9 end e8
    (then_read (member_tokens (codes "suggestion") (option_map number_data m.suggestion)) (body_tokens (drop 10 (unit_fields out m))) l9 l10 end e9
    (then_read (member_tokens (codes "value") (option_map vote_data m.vote)) (body_tokens (drop 11 (unit_fields out m))) l10 l11 end e10 over))))))))))

-- an act on a unit whose members stand in the order of their keys
pub read_unit : (text word : List ℕ) (ts : List Token) (m : UnitMembers) → tokens text ≡ token.begin_object ∷ token.key (codes "act") ∷ token.string word ∷ ts → ReadsUnit ts m
    → IfSome (option_map (unit_parts m) (action_of word m)) (IsPartsText text)
read_unit text word ts m is reads = by_parts (option_map (unit_parts m) (action_of word m)) refl
  where
    fields : List Field
    fields = given (codes "act") (string word) ∷ unit_fields reads.out m

    object_read : read text ≡ Some (object (members fields))
    object_read =
        read_tokens fields refl (unit_plain reads.out word m reads.fits) text
        (is ∙ ap (λ us. token.begin_object ∷ token.key (codes "act") ∷ token.string word ∷ us) reads.tokens ∙ ap (λ us. token.begin_object ∷ us) (sym (members_tokens-body fields)))

    by_parts : (o : Option Parts) → option_map (unit_parts m) (action_of word m) ≡ o → IfSome o (IsPartsText text)
    by_parts None e = tt
    by_parts (Some p) e =
        let a = map_some (unit_parts m) (action_of word m) p e in
        let u : IsUnit (members (unit_fields reads.out m)) m = record { out = reads.out; members = refl; fits = reads.fits } in
        let h : IsParts (members fields) p = subst (IsParts (members fields)) a.2 (unit_is_parts word _ m a.0 u (action_sound word m.forms m.lines m.suggestion m.vote a.0 a.1)) in
        ((h.out, object_read ∙ ap (λ s. Some (object s)) h.members), h.caller, h.number, h.fit)
