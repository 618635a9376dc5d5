-- Rows that are put one after the other: what is there afterwards.
use Rattle.std.proofs.Common.{◌≡◌, ◌⊎◌, inl, inr, ℤ, pos, List, [], ◌∷◌, ◌++◌, refl, sym, ap, subst, ◌∙◌}
use Rattle.std.specs.Prelude.{⊤}
use Rattle.sqlite.specs.declared.types.Value.TheVariants.{Int}
use Rattle.sqlite.specs.Order.{Row}
use Rattle.sqlite_rules.specs.Lists.{Has}
use Rattle.sql_laws.specs.RowMaps.{IsPut}
use Rattle.sql_schema.specs.Inside.{HoldsValues}

module _ {K : Type 0} (key : Row → K) where
  -- rows of these cells are put into a list of rows, one after the other
  abbrev pub ArePutInTurn : List Row → List Row → List Row → Type 0
  ArePutInTurn [] old new = new ≡ old
  ArePutInTurn (cells ∷ more) old new = (mid : List Row) × (row : Row) × HoldsValues cells row × IsPut key old mid row × ArePutInTurn more mid new

  -- the key of a row of these cells
  abbrev pub key_of_cells : Row → K
  key_of_cells cells = key (Int (pos 0) ∷ cells)

  -- whatever its rowid
  abbrev pub IgnoresRowid : Type 0
  IgnoresRowid = (id : ℤ) (cells : Row) → key (Int id ∷ cells) ≡ key_of_cells cells

  abbrev pub IsOther : List Row → K → Type 0
  IsOther cells k = (c : Row) → Has cells c → key_of_cells c ≡ k → ⊥

  -- no two of them have one key
  abbrev pub AreDistinct : List Row → Type 0
  AreDistinct [] = ⊤
  AreDistinct (cells ∷ more) = IsOther more (key_of_cells cells) × AreDistinct more

  -- a row of each of these cells, and the old rows that have other keys
  pub record ArePut (all old new : List Row) : Type 0 where
    pub only : (x : Row) → Has new x → ((cells : Row) × Has all cells × HoldsValues cells x) ⊎ Has old x
    pub here : (cells : Row) → Has all cells → (x : Row) × Has new x × HoldsValues cells x
    pub kept : (x : Row) → Has old x → IsOther all (key x) → Has new x

  module _ (free : IgnoresRowid) where
    pub keyed : (cells row : Row) → HoldsValues cells row → key row ≡ key_of_cells cells
    keyed cells row (id, is) = ap key is ∙ free id cells

    pub are_put : (all old new : List Row) → AreDistinct all → ArePutInTurn all old new → ArePut all old new
    are_put [] old new distinct is = record {
      only = λ x there. inr (subst (λ rows. Has rows x) is there);
      here = λ cells none. absurd none;
      kept = λ x there other. subst (λ rows. Has rows x) (sym is) there;
    }
    are_put (cells ∷ more) old new distinct (mid, row, holds, put, rest) = with_later (are_put more mid new distinct.1 rest)
      where
        own : key row ≡ key_of_cells cells
        own = keyed cells row holds

        with_later : ArePut more mid new → ArePut (cells ∷ more) old new
        with_later later = record {
          only = λ x there. elim (later.only x there) [
            | inl it ↦ inl (it.0, inr it.1, it.2)
            | inr was ↦ elim (put.only x was) [ inl is ↦ inl (cells, inl refl, subst (HoldsValues cells) (sym is) holds) | inr before ↦ inr before.0 ]
          ];
          here = λ c there. elim there [
            | inl is ↦ (row, later.kept row put.here (λ d at e. distinct.0 d at (e ∙ own)), subst (λ z. HoldsValues z row) (sym is) holds)
            | inr further ↦ let it = later.here c further in (it.0, it.1, it.2)
          ];
          kept = λ x there other. later.kept x (put.kept x there (λ e. other cells (inl refl) (sym own ∙ sym e))) (λ d at e. other d (inr at) e);
        }

  pub in_turn_append : (first second old mid new : List Row) → ArePutInTurn first old mid → ArePutInTurn second mid new → ArePutInTurn (first ++ second) old new
  in_turn_append [] second old mid new is rest = subst (λ rows. ArePutInTurn second rows new) is rest
  in_turn_append (cells ∷ more) second old mid new (next, row, holds, put, later) rest = (next, row, holds, put, in_turn_append more second next mid new later rest)

  pub distinct_append : (first second : List Row) → AreDistinct first → AreDistinct second
      → ((c d : Row) → Has first c → Has second d → key_of_cells d ≡ key_of_cells c → ⊥) → AreDistinct (first ++ second)
  distinct_append [] second one two apart = two
  distinct_append (cells ∷ more) second one two apart = (others, distinct_append more second one.1 two (λ c d at_c at_d. apart c d (inr at_c) at_d))
    where
      go : (ms : List Row) → IsOther ms (key_of_cells cells) → IsOther (ms ++ second) (key_of_cells cells)
      go [] o c at e = apart cells c (inl refl) at e
      go (m ∷ ms) o c (inl is) e = o c (inl is) e
      go (m ∷ ms) o c (inr later) e = go ms (λ d there. o d (inr there)) c later e

      others : IsOther (more ++ second) (key_of_cells cells)
      others = go more one.0
