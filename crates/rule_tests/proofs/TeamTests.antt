-- What the tests of a team tell.
use Rattle.std.proofs.Common.{◌≡◌, ◌≤◌, Bool, true, not, ◌&&◌, List, [], ◌∷◌, length, map, Some, refl, sym, ap, ◌∙◌, string_bytes, IsTrue}
use Rattle.std.specs.Prelude.{String, nat_le}
use Rattle.std.specs.Bool.{Decides}
use Rattle.std.specs.List.{list_any, list_all, AllByRecursion}
use Rattle.std.specs.Map.{values_of}
use Rattle.std.specs.BTreeMap.{BTreeMap, IsOrdered}
use Rattle.std.specs.FinMap as maps
use Rattle.std.proofs.lemmas.Bool.Decides.{Decides-at, Decides-like, Decides-and}
use Rattle.po_text.specs.Texts.{Text, text_cmp}
use Rattle.units.specs.Limits.{team_limit}
use Rattle.units.specs.Orders.{text_total, text_IsAntisymmetric}
use Rattle.units.specs.Units.{is_below}
use Rattle.units.specs.declared.unit.Role.{Role}
use Rattle.units.specs.declared.unit.Role.TheVariants.{Guest, Manager}
use Rattle.office_maps.specs.MapEntries.{mapped}
use Rattle.office_maps.specs.Rows.{team_in}
use Rattle.office_maps.proofs.OrderedEntries.{entries-mapped}
use Rattle.office_maps.proofs.Teams.{team_len}
use Rattle.rule_tests.specs.Parts.{IsTeam}
use Rattle.rule_tests.proofs.MapRows.{each_found, found_each}
use Rattle.rule_tests.proofs.Tests.{three_tell}
use Rattle.rule_tests.proofs.UnitTests.{Decides-le}

-- the roles of a team's rows
pub roles : {A : Type 0} (team : BTreeMap (String A) Role) → IsOrdered (λ x y. text_cmp (string_bytes x) (string_bytes y)) team → maps.values (team_in team) ≡ values_of team.entries
roles {A} team ordered = ap (λ (es : List (Text × Role)). map (λ (e : Text × Role). e.1) es) (entries-mapped text_total text_IsAntisymmetric string_bytes (λ role. role) team ordered) ∙ unviewed team.entries
  where
    unviewed : (es : List (String A × Role)) → map (λ (e : Text × Role). e.1) (mapped string_bytes (λ (role : Role). role) es) ≡ values_of es
    unviewed [] = refl
    unviewed (e ∷ es) = ap (λ rs. e.1 ∷ rs) (unviewed es)

abbrev HasNoGuest : {A : Type 0} → BTreeMap (String A) Role → Type 0
HasNoGuest team = (name : Text) (role : Role) → maps.get (team_in team) name ≡ Some role → is_below Guest role ≡ true

values_all : {A : Type 0} (es : List (String A × Role)) → Decides (list_all (is_below Guest) (values_of es)) (AllByRecursion (λ e. is_below Guest e.1 ≡ true) es)
values_all [] = (λ e. tt, λ h. refl)
values_all (e ∷ es) =
    Decides-like (is_below Guest e.1 && list_all (is_below Guest) (values_of es)) (λ h. (h.0, h.1)) (λ h. (h.0, h.1))
    (Decides-and (is_below Guest e.1) (list_all (is_below Guest) (values_of es)) ((λ h. h), (λ h. h)) (values_all es))

guests_tell : {A : Type 0} (team : BTreeMap (String A) Role) → IsOrdered (λ x y. text_cmp (string_bytes x) (string_bytes y)) team → Decides (list_all (is_below Guest) (values_of team.entries)) (HasNoGuest team)
guests_tell team ordered =
    Decides-like (list_all (is_below Guest) (values_of team.entries))
    (each_found text_total text_IsAntisymmetric string_bytes (λ role. role) (λ name role. is_below Guest role ≡ true) team)
    (found_each text_total text_IsAntisymmetric string_bytes (λ role. role) (λ name role. is_below Guest role ≡ true) team ordered)
    (values_all team.entries)

pub team_told : {A : Type 0} (team : BTreeMap (String A) Role) (r a b c : Bool) → IsOrdered (λ x y. text_cmp (string_bytes x) (string_bytes y)) team → r ≡ (a && (b && c)) →
    a ≡ list_any (λ role. not (is_below role Manager)) (maps.values (team_in team)) → b ≡ list_all (is_below Guest) (maps.values (team_in team)) → c ≡ nat_le (length team.entries) team_limit →
    Decides r (IsTeam (team_in team))
team_told team r a b c ordered e managed members few =
    three_tell {P = IsTrue (list_any (λ role. not (is_below role Manager)) (maps.values (team_in team)))} {Q = HasNoGuest team} {R = maps.len (team_in team) ≤ team_limit} r a b c e
    (λ h. record { managed = h.0; members = h.1.0; few = h.1.1 }) (λ h. (h.managed, (h.members, h.few)))
    (Decides-at a (list_any (λ role. not (is_below role Manager)) (maps.values (team_in team))) managed (λ h. h, λ h. h))
    (Decides-at b (list_all (is_below Guest) (values_of team.entries)) (members ∙ ap (list_all (is_below Guest)) (roles team ordered)) (guests_tell team ordered))
    (Decides-at c (nat_le (maps.len (team_in team)) team_limit) (few ∙ ap (λ n. nat_le n team_limit) (sym (team_len team ordered))) (Decides-le (maps.len (team_in team)) team_limit))
