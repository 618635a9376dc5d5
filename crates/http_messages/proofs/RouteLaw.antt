-- The law of the routes: the route that the router finds for a path is the one whose text the path is of, and its names take the same parts.
use Rattle.std.proofs.Common.{All, Bor, Fits, w8, slice_index_or, ◌≡◌, ◌<◌, ℕ, suc, ◌+◌, List, [], ◌∷◌, ◌++◌, length, get_or, Option, Some, None, Bool, true, false, refl, sym, ap, ap₂, subst, ◌∙◌, arith}
use Rattle.std.specs.Prelude.{codes, cond, MatchOption, unwrap_or, nat_lt, if◌then◌else◌, IsUtf8, ⊤, option_map}
use Rattle.std.specs.Str.{bytes_eq}
use Rattle.std.specs.List.{list_all}
use Rattle.std.proofs.lemmas.Bool.Decides.{nat_tests}
use Rattle.matchit.proofs.ConflictLemmas.{and-cases}
use Rattle.std.specs.Cmp.Lexicographic.{bytes_decides}
use Rattle.std.proofs.lemmas.Str.{IsUtf8-take, IsUtf8-drop, IsCharBoundary-before_ascii, IsCharBoundary-after_ascii, IsUtf8-from_ascii}
use Rattle.std.proofs.lemmas.Str.Ascii.{IsAscii-from_all}
use Rattle.std.proofs.lemmas.List.Elements.{All-cons, All-nil}
use Rattle.std.proofs.Math.Facts.{Fits-lt-pow}
use Rattle.std.proofs.lemmas.List.{length-append}
use Rattle.std.proofs.Math.Seq.{take-append_seam, drop-append-add}
use Rattle.matchit.specs.Rows.{Rows, RowsOf, prepend, param_token}
use Rattle.matchit.specs.Level.{IsText}
use Rattle.matchit.specs.Seek.{first, segment}
use Rattle.matchit.specs.Seek as seek
use Rattle.matchit.specs.Params.{walk, part_of as part_at, after_token, named, AllText}
use Rattle.matchit.specs.Router.{RouteOf, rename, map_key}
use Rattle.matchit.proofs.RenameLemmas.{first-rename}
use Rattle.http_messages.specs.Heads.{cut_at}
use Rattle.http_messages.specs.declared.route.RouteKind.{RouteKind}
use Rattle.http_messages.specs.declared.route.RouteKind.TheVariants.{Requests, Export, Unit as UnitKind, Stats}
use Rattle.http_messages.specs.Routes.{segments, in_braces, name_in, Parts, parts_in, Named, Texts, or_else, first_of, texts_of, route_texts, named_in, RoutePart, part_named, part_name, part_of, route_of}
use Rattle.http_messages.specs.Routers.{office_rows, Spells, Finds}
use Rattle.http_messages.proofs.RouteWalks.{cut_is, cut_segment, is_word, behind_word, behind_part, at_end, first_word, first_part, first_last, first_end, first_either}
use Rattle.http_messages.proofs.RouteSegments.{behind, AllMore, read_word, read_part, read_last, read_end}
use Rattle.http_messages.proofs.RouteNames.{walk_one, walk_two}

-- ---- texts behind a slash

-- bytes of UTF-8
pub record IsPath (p : List ℕ) : Type 0 where
  pub bytes : IsText p
  pub text : IsUtf8 p

text_behind : (w rest : List ℕ) → IsText (w ++ rest) → IsText rest
text_behind [] rest h = h
text_behind (b ∷ w) rest h = text_behind w rest h.1

slash_at : (w rest : List ℕ) → get_or (w ++ 47 ∷ rest) (length w) 0 ≡ 47
slash_at [] rest = refl
slash_at (b ∷ w) rest = slash_at w rest

front_text : (w rest : List ℕ) → IsUtf8 (w ++ 47 ∷ rest) → IsUtf8 w
front_text w rest h =
    let long = length-append w (47 ∷ rest) in
    let is = slash_at w rest in
    subst IsUtf8 (take-append_seam w (47 ∷ rest)) (IsUtf8-take (w ++ 47 ∷ rest) (length w) h (IsCharBoundary-before_ascii (w ++ 47 ∷ rest) (length w) (omega arith) (omega arith)))

back_text : (w rest : List ℕ) → IsUtf8 (w ++ 47 ∷ rest) → IsUtf8 rest
back_text w rest h =
    let long = length-append w (47 ∷ rest) in
    let is = slash_at w rest in
    subst IsUtf8 (drop-append-add w (47 ∷ rest) 1) (IsUtf8-drop (w ++ 47 ∷ rest) (length w + 1) h (IsCharBoundary-after_ascii (w ++ 47 ∷ rest) (length w) h (omega arith) (omega arith)))

path_behind : (p w rest : List ℕ) → p ≡ w ++ 47 ∷ rest → IsPath p → IsPath rest
path_behind p w rest e is = record {
  bytes = (text_behind w (47 ∷ rest) (subst IsText e is.bytes)).1;
  text = back_text w rest (subst IsUtf8 e is.text);
}

-- ---- the router and the texts agree, where each route that it finds is said of the parts

first_append : (found : Parts) (a b : Texts) (path : List (List ℕ)) → first_of found (a ++ b) path ≡ or_else (first_of found a path) (first_of found b path)
first_append found [] b path = refl
first_append found ((text, kind) ∷ a) b path = by (option_map (λ parts. (let named : Named = (kind, parts) in named)) (parts_in found text path)) (first_append found a b path)
  where
    by : (o : Option Named) → first_of found (a ++ b) path ≡ or_else (first_of found a path) (first_of found b path) → or_else o (first_of found (a ++ b) path) ≡ or_else (or_else o (first_of found a path)) (first_of found b path)
    by None ih = ih
    by (Some x) ih = refl

module _ (Says : ℕ → Named → Type 0) where
  abbrev pub Agrees : Option ℕ → Option Named → Type 0
  Agrees None None = ⊤
  Agrees None (Some named) = ⊥
  Agrees (Some k) None = ⊥
  Agrees (Some k) (Some named) = Says k named

  agree_or : (a b : Option ℕ) (x y : Option Named) → Agrees a x → Agrees b y → Agrees (seek.or_else a b) (or_else x y)
  agree_or None b None y h k = k
  agree_or None b (Some x) y h k = absurd h
  agree_or (Some a) b None y h k = absurd h
  agree_or (Some a) b (Some x) y h k = h

  word_agrees : (w : List ℕ) (r : Rows) (texts : Texts) (found : Parts) (p : List ℕ) → is_word w ≡ true → in_braces w ≡ false → AllMore texts
      → ((rest : List ℕ) → p ≡ w ++ 47 ∷ rest → Agrees (first r rest) (first_of found texts (segments rest)))
      → Agrees (first (prepend (w ++ 47 ∷ []) r) p) (first_of found (behind w texts) (segments p))
  word_agrees w r texts found p word plain more hit = subst (λ x. Agrees x (first_of found (behind w texts) (segments p))) (sym (first_word w r p word))
      (subst (λ x. Agrees (behind_word w (cut_at 47 p) (λ rest. first r rest)) x) (sym (read_word w found texts p plain more)) (by (cut_at 47 p) refl))
    where
      is_hit : (s rest : List ℕ) → cut_at 47 p ≡ Some (s, rest) → (t : Bool) → bytes_eq s w ≡ t → Agrees (if t then first r rest else None) (if t then first_of found texts (segments rest) else None)
      is_hit s rest cut true same = hit rest (cut_is p s rest cut ∙ ap (λ x. x ++ 47 ∷ rest) ((bytes_decides s w).0 same))
      is_hit s rest cut false same = tt

      by : (o : Option (List ℕ × List ℕ)) → cut_at 47 p ≡ o → Agrees (behind_word w o (λ rest. first r rest)) (behind_word w o (λ rest. first_of found texts (segments rest)))
      by None cut = tt
      by (Some parts) cut = is_hit parts.0 parts.1 cut (bytes_eq parts.0 w) refl

  part_agrees : (t : List ℕ) (r : Rows) (texts : Texts) (found : Parts) (p : List ℕ) → 0 < length r → IsText p → in_braces t ≡ true → AllMore texts
      → ((s rest : List ℕ) → cut_at 47 p ≡ Some (s, rest) → Agrees (first r rest) (first_of (found ++ (name_in t, s) ∷ []) texts (segments rest)))
      → Agrees (first (prepend (param_token ∷ 47 ∷ []) r) p) (first_of found (behind t texts) (segments p))
  part_agrees t r texts found p some bytes braces more hit = subst (λ x. Agrees x (first_of found (behind t texts) (segments p))) (sym (first_part r p some bytes))
      (subst (λ x. Agrees (behind_part (cut_at 47 p) (λ s rest. first r rest)) x) (sym (read_part t found texts p braces more)) (by (cut_at 47 p) refl))
    where
      by : (o : Option (List ℕ × List ℕ)) → cut_at 47 p ≡ o → Agrees (behind_part o (λ s rest. first r rest)) (behind_part o (λ s rest. first_of (found ++ (name_in t, s) ∷ []) texts (segments rest)))
      by None cut = tt
      by (Some ([], rest)) cut = tt
      by (Some (b ∷ s, rest)) cut = hit (b ∷ s) rest cut

  last_agrees : (t : List ℕ) (k : ℕ) (kind : RouteKind) (found : Parts) (p : List ℕ) → IsText p → in_braces t ≡ true → Says k (kind, found ++ (name_in t, p) ∷ [])
      → Agrees (first ((param_token ∷ [], k) ∷ []) p) (first_of found ((t ∷ [], kind) ∷ []) (segments p))
  last_agrees t k kind found p bytes braces says = subst (λ x. Agrees x (first_of found ((t ∷ [], kind) ∷ []) (segments p))) (sym (first_last k p bytes))
      (subst (λ x. Agrees (at_end p (cut_at 47 p) k) x) (sym (read_last t found kind p braces)) (by p (cut_at 47 p) says))
    where
      by : (q : List ℕ) (o : Option (List ℕ × List ℕ)) → Says k (kind, found ++ (name_in t, q) ∷ []) → Agrees (at_end q o k) (at_end q o (kind, found ++ (name_in t, q) ∷ []))
      by [] o h = tt
      by (b ∷ q) None h = h
      by (b ∷ q) (Some parts) h = tt

  end_agrees : (w : List ℕ) (k : ℕ) (kind : RouteKind) (found : Parts) (p : List ℕ) → is_word w ≡ true → in_braces w ≡ false → (p ≡ w → Says k (kind, found))
      → Agrees (first (prepend w (([], k) ∷ [])) p) (first_of found ((w ∷ [], kind) ∷ []) (segments p))
  end_agrees w k kind found p word plain says = subst (λ x. Agrees x (first_of found ((w ∷ [], kind) ∷ []) (segments p))) (sym (first_end w k p word))
      (subst (λ x. Agrees (if bytes_eq p w then Some k else None) x) (sym (read_end w found kind p word plain)) (by (bytes_eq p w) refl))
    where
      named : Named
      named = (kind, found)

      by : (t : Bool) → bytes_eq p w ≡ t → Agrees (if t then Some k else None) (if t then Some named else None)
      by true same = says ((bytes_decides p w).0 same)
      by false same = tt

  -- a word's routes and others, none of which begins as the word does
  either_agrees : (a : ℕ) (w : List ℕ) (r s : Rows) (x y : Texts) (found : Parts) (p : List ℕ) → a < 256 → seek.own s ≡ None → seek.step param_token s ≡ [] → seek.step 257 s ≡ [] → seek.step a s ≡ []
      → Agrees (first (prepend (a ∷ w) r) p) (first_of found x (segments p)) → Agrees (first s p) (first_of found y (segments p))
      → Agrees (first (prepend (a ∷ w) r ++ s) p) (first_of found (x ++ y) (segments p))
  either_agrees a w r s x y found p small own h1 h2 h3 one other = subst (λ z. Agrees z (first_of found (x ++ y) (segments p))) (sym (first_either a w r s p small own h1 h2 h3))
      (subst (λ z. Agrees (seek.or_else (first (prepend (a ∷ w) r) p) (first s p)) z) (sym (first_append found x y (segments p)))
      (agree_or (first (prepend (a ∷ w) r) p) (first s p) (first_of found x (segments p)) (first_of found y (segments p)) one other))

-- ---- the office's routes

abbrev last : ℕ → Rows
last k = (param_token ∷ [], k) ∷ []

-- by their numbers in the order of the rows
abbrev in_domain : Rows
in_domain = prepend (codes "export" ++ 47 ∷ []) (last 0) ++ prepend (codes "stats" ++ 47 ∷ []) (last 1)

abbrev rows_unit : Rows
rows_unit = prepend (codes "unit") (([], 5) ∷ [])

abbrev rows_stats : Rows
rows_stats = prepend (codes "stats" ++ 47 ∷ []) (last 4) ++ rows_unit

abbrev rows_requests : Rows
rows_requests = prepend (codes "requests" ++ 47 ∷ []) (last 3) ++ rows_stats

abbrev rows_export : Rows
rows_export = prepend (codes "export" ++ 47 ∷ []) (last 2) ++ rows_requests

abbrev rows_below : Rows
rows_below = prepend (codes "domains" ++ 47 ∷ []) (prepend (param_token ∷ 47 ∷ []) in_domain) ++ rows_export

abbrev pub number_rows : Rows
number_rows = prepend ([] ++ 47 ∷ []) (prepend (codes "v1" ++ 47 ∷ []) rows_below)

abbrev pub no_route : List ℕ × RouteOf RouteKind
no_route = ([], record { pattern = []; text = []; names = []; value = UnitKind })

abbrev pub look : ℕ → RouteOf RouteKind
look k = (get_or office_rows k no_route).1

numbered : office_rows ≡ rename look number_rows
numbered = refl

-- ---- their texts

abbrev text_last : List ℕ → RouteKind → Texts
text_last name kind = (name ∷ [], kind) ∷ []

abbrev texts_in_domain : Texts
texts_in_domain = behind (codes "export") (text_last (codes "{lang}") Export) ++ behind (codes "stats") (text_last (codes "{lang}") Stats)

abbrev texts_unit : Texts
texts_unit = text_last (codes "unit") UnitKind

abbrev texts_stats : Texts
texts_stats = behind (codes "stats") (text_last (codes "{lang}") Stats) ++ texts_unit

abbrev texts_requests : Texts
texts_requests = behind (codes "requests") (text_last (codes "{number}") Requests) ++ texts_stats

abbrev texts_export : Texts
texts_export = behind (codes "export") (text_last (codes "{lang}") Export) ++ texts_requests

abbrev texts_below : Texts
texts_below = behind (codes "domains") (behind (codes "{domain}") texts_in_domain) ++ texts_export

spelled : texts_of route_texts ≡ behind [] (behind (codes "v1") texts_below)
spelled = refl

-- ---- what a route that is found says of the parts

bytes_of : (w : List ℕ) → list_all (λ b. nat_lt b 256) w ≡ true → IsText w
bytes_of [] h = tt
bytes_of (b ∷ w) h =
    let both = and-cases (nat_lt b 256) (list_all (λ c. nat_lt c 256) w) h in
    let small = both.0 in
    (grind (arith, nat_tests), bytes_of w both.1)

ascii_of : (w : List ℕ) → list_all (λ b. nat_lt b 128) w ≡ true → All (λ b. b < 128) w
ascii_of [] h = All-nil (λ b. b < 128)
ascii_of (b ∷ w) h =
    let both = and-cases (nat_lt b 128) (list_all (λ c. nat_lt c 128) w) h in
    let small = both.0 in
    All-cons (λ b. b < 128) b w (grind (arith, nat_tests)) (ascii_of w both.1)

name_utf8 : (w : List ℕ) → list_all (λ b. nat_lt b 128) w ≡ true → IsUtf8 w
name_utf8 w h = IsUtf8-from_ascii w (IsAscii-from_all w (ascii_of w h))

module _ (path : List ℕ) where
  spells_one : (front text name : List ℕ) (place : ℕ × ℕ) (kind : RouteKind) (part : List ℕ) → list_all (λ b. nat_lt b 256) front ≡ true → list_all (λ b. nat_lt b 128) name ≡ true → part_at text place.0 place.1 ≡ name
      → path ≡ front ++ part → IsUtf8 part → Spells path (record { pattern = front ++ param_token ∷ []; text = text; names = place ∷ []; value = kind }) (kind, (name, part) ∷ [])
  spells_one front text name place kind part bytes name_text name_is whole part_text = record {
    value = refl;
    parts = ap (λ x. walk (front ++ param_token ∷ []) text x (place ∷ []) 0 0) whole ∙ walk_one front part text place (bytes_of front bytes) ∙ ap (λ x. (x, part) ∷ []) name_is;
    text = (name_utf8 name name_text, part_text, tt);
  }

  spells_two : (front mid text domain_name name : List ℕ) (first_place place : ℕ × ℕ) (kind : RouteKind) (domain part : List ℕ) → list_all (λ b. nat_lt b 256) front ≡ true → list_all (λ b. nat_lt b 256) mid ≡ true
      → after_token (length front) ≡ length front + 1 → list_all (λ b. nat_lt b 128) domain_name ≡ true → list_all (λ b. nat_lt b 128) name ≡ true → part_at text first_place.0 first_place.1 ≡ domain_name → part_at text place.0 place.1 ≡ name
      → path ≡ front ++ (domain ++ ((47 ∷ mid) ++ part)) → segment (domain ++ ((47 ∷ mid) ++ part)) ≡ domain ++ 47 ∷ [] → IsUtf8 domain → IsUtf8 part
      → Spells path (record { pattern = front ++ param_token ∷ ((47 ∷ mid) ++ param_token ∷ []); text = text; names = first_place ∷ place ∷ []; value = kind }) (kind, (domain_name, domain) ∷ (name, part) ∷ [])
  spells_two front mid text domain_name name first_place place kind domain part front_bytes mid_bytes fits domain_name_text name_text domain_name_is name_is whole cut domain_text part_text = record {
    value = refl;
    parts = ap (λ x. walk (front ++ param_token ∷ ((47 ∷ mid) ++ param_token ∷ [])) text x (first_place ∷ place ∷ []) 0 0) whole
        ∙ walk_two front mid domain part text first_place place (bytes_of front front_bytes) (bytes_of mid mid_bytes) fits cut
        ∙ ap₂ (λ x y. (x, domain) ∷ (y, part) ∷ []) domain_name_is name_is;
    text = (name_utf8 domain_name domain_name_text, domain_text, (name_utf8 name name_text, part_text, tt));
  }

  abbrev pub Spelled : ℕ → Named → Type 0
  Spelled k named = Spells path (look k) named

  -- behind `/v1/`
  module _ (is : IsPath path) (p1 p2 : List ℕ) (e1 : path ≡ [] ++ 47 ∷ p1) (e2 : p1 ≡ codes "v1" ++ 47 ∷ p2) where
    is_below : IsPath p2
    is_below = path_behind p1 (codes "v1") p2 e2 (path_behind path [] p1 e1 is)

    -- the path behind a word
    whole : (w rest : List ℕ) → p2 ≡ w ++ 47 ∷ rest → path ≡ 47 ∷ (codes "v1" ++ 47 ∷ (w ++ 47 ∷ rest))
    whole w rest e = e1 ∙ ap (λ x. 47 ∷ x) (e2 ∙ ap (λ x. codes "v1" ++ 47 ∷ x) e)

    unit_agrees : Agrees Spelled (first rows_unit p2) (first_of [] texts_unit (segments p2))
    unit_agrees = end_agrees Spelled (codes "unit") 5 UnitKind [] p2 refl refl (λ e. record { value = refl; parts = refl; text = tt })

    stats_agrees : Agrees Spelled (first rows_stats p2) (first_of [] texts_stats (segments p2))
    stats_agrees = either_agrees Spelled 115 (codes "tats" ++ 47 ∷ []) (last 4) rows_unit (behind (codes "stats") (text_last (codes "{lang}") Stats)) texts_unit [] p2 (omega arith) refl refl refl refl
        (word_agrees Spelled (codes "stats") (last 4) (text_last (codes "{lang}") Stats) [] p2 refl refl tt (λ p3 e3.
        let below = path_behind p2 (codes "stats") p3 e3 is_below in
        last_agrees Spelled (codes "{lang}") 4 Stats [] p3 below.bytes refl (spells_one (codes "/v1/stats/") (codes "/v1/stats/{lang}") (codes "lang") (11, 15) Stats p3 refl refl refl (whole (codes "stats") p3 e3) below.text)))
        unit_agrees

    requests_agrees : Agrees Spelled (first rows_requests p2) (first_of [] texts_requests (segments p2))
    requests_agrees = either_agrees Spelled 114 (codes "equests" ++ 47 ∷ []) (last 3) rows_stats (behind (codes "requests") (text_last (codes "{number}") Requests)) texts_stats [] p2 (omega arith) refl refl refl refl
        (word_agrees Spelled (codes "requests") (last 3) (text_last (codes "{number}") Requests) [] p2 refl refl tt (λ p3 e3.
        let below = path_behind p2 (codes "requests") p3 e3 is_below in
        last_agrees Spelled (codes "{number}") 3 Requests [] p3 below.bytes refl (spells_one (codes "/v1/requests/") (codes "/v1/requests/{number}") (codes "number") (14, 20) Requests p3 refl refl refl (whole (codes "requests") p3 e3) below.text)))
        stats_agrees

    export_agrees : Agrees Spelled (first rows_export p2) (first_of [] texts_export (segments p2))
    export_agrees = either_agrees Spelled 101 (codes "xport" ++ 47 ∷ []) (last 2) rows_requests (behind (codes "export") (text_last (codes "{lang}") Export)) texts_requests [] p2 (omega arith) refl refl refl refl
        (word_agrees Spelled (codes "export") (last 2) (text_last (codes "{lang}") Export) [] p2 refl refl tt (λ p3 e3.
        let below = path_behind p2 (codes "export") p3 e3 is_below in
        last_agrees Spelled (codes "{lang}") 2 Export [] p3 below.bytes refl (spells_one (codes "/v1/export/") (codes "/v1/export/{lang}") (codes "lang") (12, 16) Export p3 refl refl refl (whole (codes "export") p3 e3) below.text)))
        requests_agrees

    module _ (p3 domain p4 : List ℕ) (e3 : p2 ≡ codes "domains" ++ 47 ∷ p3) (cut : cut_at 47 p3 ≡ Some (domain, p4)) where
      e4 : p3 ≡ domain ++ 47 ∷ p4
      e4 = cut_is p3 domain p4 cut

      in_text : IsPath p3
      in_text = path_behind p2 (codes "domains") p3 e3 is_below

      domain_text : IsUtf8 domain
      domain_text = front_text domain p4 (subst IsUtf8 e4 in_text.text)

      is_inside : IsPath p4
      is_inside = path_behind p3 domain p4 e4 in_text

      whole_in : (w rest : List ℕ) → p4 ≡ w ++ 47 ∷ rest → path ≡ codes "/v1/domains/" ++ (domain ++ 47 ∷ (w ++ 47 ∷ rest))
      whole_in w rest e = whole (codes "domains") p3 e3 ∙ ap (λ x. codes "/v1/domains/" ++ x) (e4 ∙ ap (λ x. domain ++ 47 ∷ x) e)

      cut_in : (w rest : List ℕ) → p4 ≡ w ++ 47 ∷ rest → segment (domain ++ 47 ∷ (w ++ 47 ∷ rest)) ≡ domain ++ 47 ∷ []
      cut_in w rest e = ap segment (sym (e4 ∙ ap (λ x. domain ++ 47 ∷ x) e)) ∙ (cut_segment p3 domain p4 cut).0

      domain_agrees : Agrees Spelled (first in_domain p4) (first_of ((codes "domain", domain) ∷ []) texts_in_domain (segments p4))
      domain_agrees = either_agrees Spelled 101 (codes "xport" ++ 47 ∷ []) (last 0) (prepend (codes "stats" ++ 47 ∷ []) (last 1)) (behind (codes "export") (text_last (codes "{lang}") Export)) (behind (codes "stats") (text_last (codes "{lang}") Stats))
          ((codes "domain", domain) ∷ []) p4 (omega arith) refl refl refl refl
          (word_agrees Spelled (codes "export") (last 0) (text_last (codes "{lang}") Export) ((codes "domain", domain) ∷ []) p4 refl refl tt (λ p5 e5.
          let below = path_behind p4 (codes "export") p5 e5 is_inside in
          last_agrees Spelled (codes "{lang}") 0 Export ((codes "domain", domain) ∷ []) p5 below.bytes refl
          (spells_two (codes "/v1/domains/") (codes "export/") (codes "/v1/domains/{domain}/export/{lang}") (codes "domain") (codes "lang") (13, 19) (29, 33) Export domain p5 refl refl refl refl refl refl refl (whole_in (codes "export") p5 e5) (cut_in (codes "export") p5 e5) domain_text below.text)))
          (word_agrees Spelled (codes "stats") (last 1) (text_last (codes "{lang}") Stats) ((codes "domain", domain) ∷ []) p4 refl refl tt (λ p5 e5.
          let below = path_behind p4 (codes "stats") p5 e5 is_inside in
          last_agrees Spelled (codes "{lang}") 1 Stats ((codes "domain", domain) ∷ []) p5 below.bytes refl
          (spells_two (codes "/v1/domains/") (codes "stats/") (codes "/v1/domains/{domain}/stats/{lang}") (codes "domain") (codes "lang") (13, 19) (28, 32) Stats domain p5 refl refl refl refl refl refl refl (whole_in (codes "stats") p5 e5) (cut_in (codes "stats") p5 e5) domain_text below.text)))

    below_agrees : Agrees Spelled (first rows_below p2) (first_of [] texts_below (segments p2))
    below_agrees = either_agrees Spelled 100 (codes "omains" ++ 47 ∷ []) (prepend (param_token ∷ 47 ∷ []) in_domain) rows_export (behind (codes "domains") (behind (codes "{domain}") texts_in_domain)) texts_export [] p2 (omega arith) refl refl refl refl
        (word_agrees Spelled (codes "domains") (prepend (param_token ∷ 47 ∷ []) in_domain) (behind (codes "{domain}") texts_in_domain) [] p2 refl refl tt (λ p3 e3.
        part_agrees Spelled (codes "{domain}") in_domain texts_in_domain [] p3 (omega arith) (path_behind p2 (codes "domains") p3 e3 is_below).bytes refl tt (λ domain p4 cut. domain_agrees p3 domain p4 e3 cut)))
        export_agrees

  pub routes_agree : IsPath path → Agrees Spelled (first number_rows path) (named_in path)
  unfolding named_in
  routes_agree is = word_agrees Spelled [] (prepend (codes "v1" ++ 47 ∷ []) rows_below) (behind (codes "v1") texts_below) [] path refl refl tt (λ p1 e1.
      word_agrees Spelled (codes "v1") rows_below texts_below [] p1 refl refl tt (λ p2 e2. below_agrees is p1 p2 e1 e2))

-- ---- the route that the router finds

finds_renamed : (path : List ℕ) (o : Option ℕ) (named : Option Named) → Agrees (Spelled path) o named → Finds path (map_key look o) named
finds_renamed path None None h = tt
finds_renamed path None (Some named) h = absurd h
finds_renamed path (Some k) None h = absurd h
finds_renamed path (Some k) (Some named) h = h

-- the law
pub router_finds : (path : List ℕ) → IsPath path → Finds path (first office_rows path) (named_in path)
router_finds path is = subst (λ o. Finds path o (named_in path)) (sym (ap (λ rows. first rows path) numbered ∙ first-rename look number_rows path)) (finds_renamed path (first number_rows path) (named_in path) (routes_agree path is))

-- ---- the same, as the code tells it

bytes_fit : (p : List ℕ) → ((i : ℕ) → Fits w8 (slice_index_or p i 0)) → IsText p
bytes_fit [] h = tt
bytes_fit (b ∷ p) h = (Fits-lt-pow (h 0), bytes_fit p (λ i. h (suc i)))

pub is_path : (p : List ℕ) → ((i : ℕ) → Fits w8 (slice_index_or p i 0)) → IsUtf8 p → IsPath p
is_path p fit text = record { bytes = bytes_fit p fit; text = text }

none_named : (path : List ℕ) (o : Option Named) → Finds path None o → None ≡ option_map part_of o
none_named path None h = refl
none_named path (Some named) h = absurd h

pub not_found : (path : List ℕ) (rows : RowsOf (RouteOf RouteKind)) → IsPath path → rows ≡ office_rows → first rows path ≡ None → None ≡ route_of path
not_found path rows is same none = none_named path (named_in path) (subst (λ o. Finds path o (named_in path)) (sym (ap (λ r. first r path) same) ∙ none) (router_finds path is))

same_named : (name : List ℕ) (parts : Parts) → named name parts ≡ part_named name parts
same_named name [] = refl
same_named name (part ∷ parts) = ap (λ x. cond (bytes_eq part.0 name) (Some part.1) x) (same_named name parts)

got : (o : Option (Bor (List ℕ))) (x : Option (List ℕ)) → MatchOption o (x ≡ None) (λ v. x ≡ Some v.now) → option_map (λ v. v.now) o ≡ x
got None x h = sym h
got (Some v) x h = sym h

or_empty : (o : Option (Bor (List ℕ))) (other : Bor (List ℕ)) (x : Option (List ℕ)) → other.now ≡ [] → MatchOption o (x ≡ None) (λ v. x ≡ Some v.now) → (unwrap_or o other).now ≡ unwrap_or x []
or_empty None other x e h = e ∙ sym (ap (λ y. unwrap_or y []) h)
or_empty (Some v) other x e h = sym (ap (λ y. unwrap_or y []) h)

-- what a name gets of what the route's names took
abbrev pub Gets : List ℕ → RouteOf RouteKind → List ℕ → Option (Bor (List ℕ)) → Type 0
Gets path route name o = AllText (walk route.pattern route.text path route.names 0 0)
    → MatchOption o (named name (walk route.pattern route.text path route.names 0 0) ≡ None) (λ v. named name (walk route.pattern route.text path route.names 0 0) ≡ Some v.now)

named_so : (path : List ℕ) (route : RouteOf RouteKind) (domain part : Option (Bor (List ℕ))) (other : Bor (List ℕ)) → other.now ≡ [] → Gets path route (codes "domain") domain → Gets path route (part_name route.value) part
    → (o : Option Named) → Finds path (Some route) o → Some (route.value, (option_map (λ v. v.now) domain, (unwrap_or part other).now)) ≡ option_map part_of o
named_so path route domain part other empty first_gets gets None finds = absurd finds
named_so path route domain part other empty first_gets gets (Some found) finds =
    let text : AllText (walk route.pattern route.text path route.names 0 0) = subst AllText (sym finds.parts) finds.text in
    let front : option_map (λ v. v.now) domain ≡ part_named (codes "domain") found.1 = got domain (named (codes "domain") (walk route.pattern route.text path route.names 0 0)) (first_gets text) ∙ same_named (codes "domain") (walk route.pattern route.text path route.names 0 0) ∙ ap (part_named (codes "domain")) finds.parts in
    let back : (unwrap_or part other).now ≡ unwrap_or (part_named (part_name found.0) found.1) [] = or_empty part other (named (part_name route.value) (walk route.pattern route.text path route.names 0 0)) empty (gets text)
    ∙ ap (λ x. unwrap_or x []) (same_named (part_name route.value) (walk route.pattern route.text path route.names 0 0) ∙ ap₂ (λ kind parts. part_named (part_name kind) parts) finds.value finds.parts) in
    rw (front, back, finds.value) refl

pub found_so : (path : List ℕ) (rows : RowsOf (RouteOf RouteKind)) (route : RouteOf RouteKind) (taken name : List ℕ) (domain part : Option (Bor (List ℕ))) (end other : Bor (List ℕ)) → IsPath path → rows ≡ office_rows → first rows path ≡ Some route
    → taken ≡ path → name ≡ part_name route.value → end ≡ unwrap_or part other → other.now ≡ [] → Gets taken route (codes "domain") domain → Gets taken route name part
    → Some (route.value, (option_map (λ v. v.now) domain, end.now)) ≡ route_of path
found_so path rows route taken name domain part end other is same found from name_is end_is empty first_gets gets =
    ap (λ (v : Bor (List ℕ)). (let told : RoutePart = (route.value, (option_map (λ w. w.now) domain, v.now)) in Some told)) end_is
    ∙ named_so path route domain part other empty (subst (λ p. Gets p route (codes "domain") domain) from first_gets) (subst (λ p. Gets p route (part_name route.value) part) from (subst (λ n. Gets taken route n part) name_is gets)) (named_in path)
    (subst (λ o. Finds path o (named_in path)) (sym (ap (λ r. first r path) same) ∙ found) (router_finds path is))
