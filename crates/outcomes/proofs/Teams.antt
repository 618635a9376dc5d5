-- A team where a name has another role: how many names it has, and whether one is a manager's. Whether an office has a language.
use Rattle.std.proofs.Common.{◌≡◌, ◌+◌, ◌-◌, Bor, Bool, true, false, cond, ◌&&◌, ◌||◌, not, List, [], ◌∷◌, Option, Some, None, option_map, is_some, map, length, refl, sym, ap, ◌∙◌, string_bytes}
use Rattle.std.specs.Prelude.{String, T}
use Rattle.std.specs.List.{list_any}
use Rattle.std.specs.Option.{option_copied}
use Rattle.std.specs.BTreeMap.{BTreeMap, get_by, IsOrdered}
use Rattle.std.specs.Ordering.{is_eq, is_lt, eq_by_cmp}
use Rattle.std.specs.declared.cmp.Ordering.{Ordering}
use Rattle.std.specs.declared.cmp.Ordering.TheVariants.{Less, Equal, Greater}
use Rattle.std.specs.Cmp.{IsTotalOrder, eq_by_cmp_equiv}
use Rattle.std.specs.Cmp.Lexicographic.{texts_ties}
use Rattle.std.specs.FinMap as maps
use Rattle.std.specs.FinMap.{IsAntisymmetric}
use Rattle.std.specs.FinMap.Entries.{by_order, put, where_key, below_all, is_sorted, find-where_key, is_sorted-where_key}
use Rattle.po_text.specs.Texts.{Text, text_cmp, text_eq}
use Rattle.units.specs.Changes.{set_role}
use Rattle.units.specs.declared.unit.Role.{Role}
use Rattle.units.specs.declared.unit.Role.TheVariants.{Guest, Translator, Reviewer, Manager}
use Rattle.units.specs.Orders.{text_total, text_IsAntisymmetric}
use Rattle.office_maps.specs.Rows.{team_in, headers_in}
use Rattle.office_specification.specs.declared.values.Language.{Language}
use Rattle.office_specification.specs.OfficeActs.{is_manager}
use Rattle.office_maps.specs.MapEntries.{mapped}
use Rattle.office_maps.proofs.MapEntries.{get-mapped}
use Rattle.office_maps.proofs.Teams.{team_entries, team_len}
use Rattle.office_maps.proofs.AfterChanges.{no_guest}

first : (a b : Bool) → T (a && b) → T a
first true b p = tt
first false b p = p

second : (a b : Bool) → T (a && b) → T b
second true b p = p
second false b p = absurd p

less : (r : Ordering) → T (is_lt r) → r ≡ Less
less Less p = refl
less Equal p = absurd p
less Greater p = absurd p

later : (a b c : Bool) → (a || (b || c)) ≡ (b || (a || c))
later true true c = refl
later true false c = refl
later false b c = refl

module _ {K X : Type 0} {R : K → K → Ordering} (o : IsTotalOrder R) (p : X → Bool) (k : K) where
  -- a value of another key passes
  abbrev pub others : List (K × X) → Bool
  others es = list_any (λ (e : K × X). not (eq_by_cmp R k e.0) && p e.1) es

  abbrev pub all : List (K × X) → Bool
  all es = list_any (λ (e : K × X). p e.1) es

  -- keys above one that isn't below k are all other keys
  above : (x : K) (es : List (K × X)) → ((y : K) → R x y ≡ Less → R k y ≡ Less) → T (below_all R x es) → others es ≡ all es
  above x [] up h = refl
  above x (e ∷ es) up h =
      let apart : eq_by_cmp R k e.0 ≡ false = ap is_eq (up e.0 (less (R x e.0) (first (is_lt (R x e.0)) (below_all R x es) h))) in
      (λ i. (not (apart i) && p e.1) || above x es up (second (is_lt (R x e.0)) (below_all R x es) h) i)

  pub put-any : (v : X) (es : List (K × X)) → T (is_sorted R es) → all (put R k v es) ≡ (p v || others es)
  put-any v [] h = refl
  put-any v (e ∷ es) h =
      elim (R k e.0) as (λ r. R k e.0 ≡ r → all (by_order r ((k, v) ∷ e ∷ es) ((e.0, v) ∷ es) (e ∷ put R k v es)) ≡ (p v || ((not (is_eq r) && p e.1) || others es))) [
        | Less ↦ λ t. ap (λ b. p v || (p e.1 || b)) (sym (above e.0 es (λ y. o.trans k e.0 y t) (first (below_all R e.0 es) (is_sorted R es) h)))
        | Equal ↦ λ t. ap (λ b. p v || b) (sym (above e.0 es (λ y l. o.congr k e.0 y t ∙ l) (first (below_all R e.0 es) (is_sorted R es) h)))
        | Greater ↦ λ t. ap (λ b. p e.1 || b) (put-any v es (second (below_all R e.0 es) (is_sorted R es) h)) ∙ later (p e.1) (p v) (others es)
      ] refl

  pub where-any : (es : List (K × X)) → all (where_key R (λ x. not (eq_by_cmp R k x)) es) ≡ others es
  where-any [] = refl
  where-any (e ∷ es) =
      elim (eq_by_cmp R k e.0) as (λ b. all (cond (not b) (e ∷ where_key R (λ x. not (eq_by_cmp R k x)) es) (where_key R (λ x. not (eq_by_cmp R k x)) es)) ≡ ((not b && p e.1) || others es)) [
        | true ↦ where-any es
        | false ↦ ap (λ b. p e.1 || b) (where-any es)
      ]

turned : {A : Type 0} (b : Bool) (x y : A) → cond b x y ≡ cond (not b) y x
turned true x y = refl
turned false x y = refl

-- what stays when a key is taken out
pub entries-remove : {K X : Type 0} {R : K → K → Ordering} (o : IsTotalOrder R) → IsAntisymmetric R → (m : maps.FinMap R X) (k : K)
    → maps.entries (maps.remove m k) ≡ where_key R (λ x. not (eq_by_cmp R k x)) (maps.entries m)
entries-remove {R = R} o same m k =
    let kept = where_key R (λ x. not (eq_by_cmp R k x)) (maps.entries m) in
    let sorted : T (is_sorted R kept) = is_sorted-where_key R (λ x. not (eq_by_cmp R k x)) (maps.entries m) (maps.entries_sorted m) in
    let laws = eq_by_cmp_equiv o in
    ap maps.entries (maps.same_map o same (maps.remove m k) (maps.from_sorted kept) (λ q.
    maps.get-remove o m k q
    ∙ (turned (eq_by_cmp R q k) None (maps.get m q)
    ∙ ((λ i. cond (not (laws.symm q k i)) (maps.get-entries m q i) None)
    ∙ (sym (find-where_key R (λ x. not (eq_by_cmp R k x)) q (λ x t. ap not (laws.symm k x ∙ (sym (laws.congr q x k (ap is_eq t)) ∙ laws.symm q k))) (maps.entries m))
    ∙ sym (maps.get-from_sorted R kept q sorted))))))
    ∙ maps.entries-from_sorted R kept sorted

values-any : {K X : Type 0} (p : X → Bool) (es : List (K × X)) → list_any p (map (λ (e : K × X). e.1) es) ≡ list_any (λ (e : K × X). p e.1) es
values-any p [] = refl
values-any p (e ∷ es) = ap (λ b. p e.1 || b) (values-any p es)

-- ---- whether a manager is left

put-managers : (team : maps.FinMap text_cmp Role) (name : Text) (role : Role) → list_any is_manager (maps.values (maps.insert team name role))
    ≡ (is_manager role || others text_total is_manager name (maps.entries team))
put-managers team name role =
    values-any is_manager (maps.entries (maps.insert team name role))
    ∙ (ap (list_any (λ (e : Text × Role). is_manager e.1)) (maps.entries-insert text_total team name role) ∙ put-any text_total is_manager name role (maps.entries team) (maps.entries_sorted team))

managers-by : (team : maps.FinMap text_cmp Role) (name : Text) (role : Role) → list_any is_manager (maps.values (set_role name role team))
    ≡ (is_manager role || others text_total is_manager name (maps.entries team))
managers-by team name Guest =
    values-any is_manager (maps.entries (maps.remove team name))
    ∙ (ap (list_any (λ (e : Text × Role). is_manager e.1)) (entries-remove text_total text_IsAntisymmetric team name) ∙ where-any text_total is_manager name (maps.entries team))
managers-by team name Translator = put-managers team name Translator
managers-by team name Reviewer = put-managers team name Reviewer
managers-by team name Manager = put-managers team name Manager

-- a name with a manager's role is one
pub own_manager : (team : maps.FinMap text_cmp Role) (name : Text) (role : Role) → is_manager role ≡ true → true ≡ list_any is_manager (maps.values (set_role name role team))
own_manager team name role own = sym (managers-by team name role ∙ ap (λ b. b || others text_total is_manager name (maps.entries team)) own)

module _ {A : Type 0} (team : BTreeMap (String A) Role) (ordered : IsOrdered (λ x y. text_cmp (string_bytes x) (string_bytes y)) team) where
  abbrev others_in : Text → List (String A × Role) → Bool
  others_in name es = list_any (λ (e : String A × Role). not (text_eq (string_bytes e.0) name) && is_manager e.1) es

  others-mapped : (name : Text) (es : List (String A × Role)) → others text_total is_manager name (mapped string_bytes (λ role. role) es) ≡ others_in name es
  others-mapped name [] = refl
  others-mapped name (e ∷ es) =
      let laws = eq_by_cmp_equiv text_total in
      let tie : eq_by_cmp text_cmp name (string_bytes e.0) ≡ text_eq (string_bytes e.0) name = laws.symm name (string_bytes e.0) ∙ sym (texts_ties (string_bytes e.0) name) in
      λ i. (not (tie i) && is_manager e.1) || others-mapped name es i

  pub manager_left : (name : Text) (role : Role) → (is_manager role || others_in name team.entries) ≡ list_any is_manager (maps.values (set_role name role (team_in team)))
  manager_left name role =
      sym (managers-by (team_in team) name role ∙ ap (λ b. is_manager role || b) (ap (others text_total is_manager name) (team_entries team ordered) ∙ others-mapped name team.entries))

  pub manager_among_others : (name : Text) (role : Role) → is_manager role ≡ false
      → list_any (λ (e : String A × Role). not (text_eq (string_bytes e.0) name) && is_manager e.1) team.entries ≡ list_any is_manager (maps.values (set_role name role (team_in team)))
  manager_among_others name role other = sym (ap (λ b. b || others_in name team.entries) other) ∙ manager_left name role

some_map : {X Y : Type 0} (f : X → Y) (o : Option X) → is_some (option_map f o) ≡ is_some o
some_map f None = refl
some_map f (Some x) = refl

pub is_copied : {X : Type 0} (o : Option (Bor X)) → is_some (option_copied o) ≡ is_some o
is_copied None = refl
is_copied (Some x) = refl

pub has_name : {A : Type 0} (team : BTreeMap (String A) Role) (name : Text) → maps.contains_key (team_in team) name ≡ is_some (get_by (λ k. text_cmp name (string_bytes k)) team)
has_name team name = ap is_some (get-mapped text_cmp string_bytes (λ role. role) text_total team name) ∙ some_map _ _

pub size_without : (team : maps.FinMap text_cmp Role) (name : Text) → maps.len (set_role name Guest team) ≡ cond (maps.contains_key team name) (maps.len team - 1) (maps.len team)
size_without team name = maps.len-remove text_total team name

pub size_with : (team : maps.FinMap text_cmp Role) (name : Text) (role : Role) → (role ≡ Guest → ⊥) → maps.len (set_role name role team) ≡ cond (maps.contains_key team name) (maps.len team) (maps.len team + 1)
size_with team name role other = ap maps.len (no_guest name role team other) ∙ maps.len-insert text_total team name role

module _ {A : Type 0} (team : BTreeMap (String A) Role) (ordered : IsOrdered (λ x y. text_cmp (string_bytes x) (string_bytes y)) team) (name : Text) (there : Bool) where
  -- by how many names there are, and whether the name is one of them
  pub size_as_guest : there ≡ is_some (get_by (λ k. text_cmp name (string_bytes k)) team) → (role : Role) → role ≡ Guest
      → cond there (length team.entries - 1) (length team.entries) ≡ maps.len (set_role name role (team_in team))
  size_as_guest is role guest =
      (λ i. cond ((is ∙ sym (has_name team name)) i) (sym (team_len team ordered) i - 1) (sym (team_len team ordered) i))
      ∙ (sym (size_without (team_in team) name) ∙ ap (λ r. maps.len (set_role name r (team_in team))) (sym guest))

  pub size_in_team : there ≡ is_some (get_by (λ k. text_cmp name (string_bytes k)) team) → (role : Role) → (role ≡ Guest → ⊥)
      → cond there (length team.entries) (length team.entries + 1) ≡ maps.len (set_role name role (team_in team))
  size_in_team is role other =
      (λ i. cond ((is ∙ sym (has_name team name)) i) (sym (team_len team ordered) i) (sym (team_len team ordered) i + 1)) ∙ sym (size_with (team_in team) name role other)

-- whether a language is there
pub has_code : {A : Type 0} (rows : BTreeMap (String A) Language) (lang : Text) → maps.contains_key (headers_in rows) lang ≡ is_some (get_by (λ k. text_cmp lang (string_bytes k)) rows)
has_code rows lang = ap is_some (get-mapped text_cmp string_bytes (λ language. language.header) text_total rows lang) ∙ some_map _ _
