-- Rows of tallies that are put, renewed or looked up: of which counts they are, and what these are.
use Rattle.std.proofs.Common.{◌≡◌, ℕ, ◌+◌, ◌-◌, ℤ, pos, ◌+ℤ◌, inl, inr, List, [], ◌∷◌, Bool, true, false, cond, Option, Some, None, IsSome, option_map, refl, sym, ap, subst, ◌∙◌, arith}
use Rattle.std.proofs.lemmas.Bool.{and_parts, and_from, false_from_ne_true}
use Rattle.std.specs.Prelude.{◌&&◌}
use Rattle.std.specs.Cmp.Lexicographic.{bytes_decides}
use Rattle.sqlite.specs.declared.types.Value.TheVariants.{Int}
use Rattle.sqlite.specs.Order.{Row, column}
use Rattle.sqlite_rules.specs.Edit.{id_in}
use Rattle.sqlite_rules.specs.Lists.{Has}
use Rattle.sql_laws.specs.RowMaps.{IsPut, IsFound}
use Rattle.po_text.specs.Texts.{Text, text_eq}
use Rattle.units.specs.Office.{same_domain}
use Rattle.office_specification.proofs.domains.InDomains.{equal_domains, its_own_domain}
use Rattle.office_specification.specs.declared.tally.Tally.{Tally}
use Rattle.tables.specs.Tallies.{moved, none_approved}
use Rattle.sql_schema.specs.Inside.{HoldsValues}
use Rattle.sql_schema.specs.Keys.{text_at, key_texts, columns}
use Rattle.sql_statements.specs.DomainRenewed.{unapproved_tally}
use Rattle.sql_statements.specs.Renewed.{AreRenewed}
use Rattle.sql_meaning.specs.Cells.{tally_cells}
use Rattle.sql_meaning.specs.Shown.{shown_tally}
use Rattle.sql_figures.specs.Figures.{with_tally, moved_at, turned}
use Rattle.sql_figures.specs.KeptTallies.{Counts, IsTallyOf, HoldsTally, AreTalliesOf}

pub same_text : (a b : Text) → text_eq a b ≡ true → a ≡ b
same_text a b e = (bytes_decides a b).0 e

pub ties_itself : (a : Text) → text_eq a a ≡ true
ties_itself a = (bytes_decides a a).1 refl

-- ---- the language that is meant, and the others

pub is_meant : (domain lang : Text) → (same_domain domain domain && text_eq lang lang) ≡ true
is_meant domain lang = and_from _ _ (its_own_domain domain) (ties_itself lang)

pub is_another : (domain lang d l : Text) → (d ≡ domain → l ≡ lang → ⊥) → (same_domain d domain && text_eq l lang) ≡ false
is_another domain lang d l differ = false_from_ne_true _ (λ e. let both = and_parts _ _ e in differ (equal_domains d domain both.0) (same_text l lang both.1))

-- what holds of both holds of any
pub meant_or_not : (domain lang d l : Text) (P : Type 0) → (d ≡ domain → l ≡ lang → P) → ((d ≡ domain → l ≡ lang → ⊥) → P) → P
meant_or_not domain lang d l P own others = by (same_domain d domain) (text_eq l lang) refl refl
  where
    by : (a b : Bool) → same_domain d domain ≡ a → text_eq l lang ≡ b → P
    by true true of_domain of_lang = own (equal_domains d domain of_domain) (same_text l lang of_lang)
    by false b apart of_lang = others (λ e same. let yes = its_own_domain domain in let no : same_domain domain domain ≡ false = subst (λ (t : Text). same_domain t domain ≡ false) e apart in cc)
    by true false of_domain apart = others (λ e same. let yes = ties_itself lang in let no : text_eq lang lang ≡ false = subst (λ (t : Text). text_eq t lang ≡ false) same apart in cc)

-- ---- a row that holds a tally

pub cells_hold : (domain lang : Text) (tally : Tally) (row : Row) → HoldsValues (tally_cells domain lang tally) row → HoldsTally tally row
cells_hold domain lang tally row (id, is) = subst (HoldsTally tally) (sym is) refl

-- as a query shows it
pub shows_tally : (tally : Tally) (row shown : Row) → HoldsTally tally row → columns (3 ∷ 4 ∷ 5 ∷ 6 ∷ 7 ∷ 8 ∷ 9 ∷ []) row ≡ shown → shown_tally shown ≡ tally
shows_tally tally row shown holds is =
    ap shown_tally (sym is)
    ∙ ap (λ (cells : Row). shown_tally (column cells 2 ∷ column cells 3 ∷ column cells 4 ∷ column cells 5 ∷ column cells 6 ∷ column cells 7 ∷ column cells 8 ∷ [])) holds

-- ---- the same rows

pub tallies_alike : (a b : Counts) (rows : List Row) → ((d l : Text) → b d l ≡ a d l) → AreTalliesOf a rows → AreTalliesOf b rows
tallies_alike a b rows alike are = record {
  counted = λ row there. let it = are.counted row there in (it.0, it.1, alike (text_at 1 row) (text_at 2 row) ∙ it.2);
  all = λ d l some. are.all d l (subst (λ (o : Option Tally). IsSome o) (alike d l) some);
}

-- ---- a language's row is put

module _ (before after : Counts) (old new : List Row) (domain lang : Text) (tally : Tally) (row : Row) (put : IsPut (key_texts (1 ∷ 2 ∷ [])) old new row)
    (is_row : HoldsValues (tally_cells domain lang tally) row) (own : after domain lang ≡ Some tally)
    (others : (d l : Text) → (d ≡ domain → l ≡ lang → ⊥) → after d l ≡ before d l) (are : AreTalliesOf before old) where
  row_named : IsTallyOf domain lang row
  row_named = (ap (text_at 1) is_row.1, ap (text_at 2) is_row.1)

  -- one key is one language
  one_key : (r : Row) → text_at 1 r ≡ domain → text_at 2 r ≡ lang → key_texts (1 ∷ 2 ∷ []) r ≡ key_texts (1 ∷ 2 ∷ []) row
  one_key r d l = let first = d ∙ sym row_named.0 in let second = l ∙ sym row_named.1 in λ i. first i ∷ second i ∷ []

  of_key : (r : Row) → key_texts (1 ∷ 2 ∷ []) r ≡ key_texts (1 ∷ 2 ∷ []) row → IsTallyOf domain lang r
  of_key r e =
      let first : text_at 1 r ≡ text_at 1 row = cc in
      let second : text_at 2 r ≡ text_at 2 row = cc in
      (first ∙ row_named.0, second ∙ row_named.1)

  pub tallies_put : AreTalliesOf after new
  tallies_put = record { counted = counted_so; all = all_so }
    where
      counted_so : (r : Row) → Has new r → (t : Tally) × HoldsTally t r × (after (text_at 1 r) (text_at 2 r) ≡ Some t)
      counted_so r there = elim (put.only r there) [
        | inl is ↦
            subst (λ (x : Row). (t : Tally) × HoldsTally t x × (after (text_at 1 x) (text_at 2 x) ≡ Some t)) (sym is)
            (tally, cells_hold domain lang tally row is_row, (λ i. after (row_named.0 i) (row_named.1 i)) ∙ own)
        | inr was ↦ let it = are.counted r was.0 in (it.0, it.1, others (text_at 1 r) (text_at 2 r) (λ d l. was.1 (one_key r d l)) ∙ it.2)
      ]

      all_so : (d l : Text) → IsSome (after d l) → (r : Row) × Has new r × IsTallyOf d l r
      all_so d l some =
          meant_or_not domain lang d l ((r : Row) × Has new r × IsTallyOf d l r) (λ of_domain of_lang. (row, put.here, (row_named.0 ∙ sym of_domain, row_named.1 ∙ sym of_lang)))
          (λ differ.
          let it = are.all d l (subst (λ (o : Option Tally). IsSome o) (others d l differ) some) in
          (it.0, put.kept it.0 it.1 (λ e. let named = of_key it.0 e in differ (sym it.2.0 ∙ named.0) (sym it.2.1 ∙ named.1)), it.2))

-- whatever it counted
pub tally_put : (counts : Counts) (old new : List Row) (domain lang : Text) (tally : Tally) (row : Row) → IsPut (key_texts (1 ∷ 2 ∷ [])) old new row → HoldsValues (tally_cells domain lang tally) row
    → AreTalliesOf counts old → AreTalliesOf (with_tally domain lang tally counts) new
tally_put counts old new domain lang tally row put is_row are =
    tallies_put counts (with_tally domain lang tally counts) old new domain lang tally row put is_row
    (ap (λ b. cond b (Some tally) (counts domain lang)) (is_meant domain lang)) (λ d l differ. ap (λ b. cond b (Some tally) (counts d l)) (is_another domain lang d l differ)) are

-- ---- a language's row is looked up

pub tally_found : (counts : Counts) (rows : List Row) (domain lang : Text) (found : Option Row) → IsFound (key_texts (1 ∷ 2 ∷ [])) (columns (3 ∷ 4 ∷ 5 ∷ 6 ∷ 7 ∷ 8 ∷ 9 ∷ [])) rows (domain ∷ lang ∷ []) found
    → AreTalliesOf counts rows → counts domain lang ≡ option_map shown_tally found
tally_found counts rows domain lang (Some shown) it are =
    let own = are.counted it.0 it.1 in
    let of_domain : text_at 1 it.0 ≡ domain = let key = it.2 in cc in
    let of_lang : text_at 2 it.0 ≡ lang = let key = it.2 in cc in
    (λ i. counts (sym of_domain i) (sym of_lang i)) ∙ own.2 ∙ ap Some (sym (shows_tally own.0 it.0 shown own.1 it.3))
tally_found counts rows domain lang None it are = by (counts domain lang) refl
  where
    by : (o : Option Tally) → counts domain lang ≡ o → o ≡ None
    by None is = refl
    by (Some tally) is =
        let there = are.all domain lang (subst (λ (o : Option Tally). IsSome o) (sym is) refl) in
        absurd (it there.0 there.1 (λ i. there.2.0 i ∷ there.2.1 i ∷ []))

-- it is put, moved
pub tally_moved : (counts : Counts) (old new : List Row) (domain lang : Text) (shown : Row) (was is : Tally) (row : Row)
    → IsFound (key_texts (1 ∷ 2 ∷ [])) (columns (3 ∷ 4 ∷ 5 ∷ 6 ∷ 7 ∷ 8 ∷ 9 ∷ [])) old (domain ∷ lang ∷ []) (Some shown) → IsPut (key_texts (1 ∷ 2 ∷ [])) old new row
    → HoldsValues (tally_cells domain lang (moved (shown_tally shown) was is)) row → AreTalliesOf counts old → AreTalliesOf (moved_at domain lang was is counts) new
tally_moved counts old new domain lang shown was is row found put is_row are =
    tallies_put counts (moved_at domain lang was is counts) old new domain lang (moved (shown_tally shown) was is) row put is_row
    (ap (λ b. cond b (option_map (λ tally. moved tally was is) (counts domain lang)) (counts domain lang)) (is_meant domain lang)
    ∙ ap (option_map (λ tally. moved tally was is)) (tally_found counts old domain lang (Some shown) found are))
    (λ d l differ. ap (λ b. cond b (option_map (λ tally. moved tally was is) (counts d l)) (counts d l)) (is_another domain lang d l differ)) are

-- what counts the same moves nothing
pub stays_same : (tally was : Tally) → moved tally was was ≡ tally
stays_same tally was = λ i. record {
  approved = taken tally.approved was.approved i;
  needs_editing = taken tally.needs_editing was.needs_editing i;
  obsolete = taken tally.obsolete was.obsolete i;
  read_only = taken tally.read_only was.read_only i;
  suggestions = taken tally.suggestions was.suggestions i;
  translated = taken tally.translated was.translated i;
  untranslated = taken tally.untranslated was.untranslated i;
}
  where
    taken : (a b : ℕ) → a + b - b ≡ a
    taken a b = omega arith

pub nothing_moved : (counts : Counts) (domain lang : Text) (was is : Tally) → was ≡ is → (d l : Text) → moved_at domain lang was is counts d l ≡ counts d l
nothing_moved counts domain lang was is same d l = ap (λ t. moved_at domain lang was t counts d l) (sym same) ∙ by (same_domain d domain && text_eq l lang) (counts d l)
  where
    by : (b : Bool) (o : Option Tally) → cond b (option_map (λ tally. moved tally was was) o) o ≡ o
    by true None = refl
    by true (Some tally) = ap Some (stays_same tally was)
    by false o = refl

-- ---- no tally counts a unit as approved

-- as the statement writes a row
abbrev turned_cells : Row → Row
turned_cells cells =
    column cells 0 ∷ column cells 1 ∷ column cells 2 ∷ column cells 3 ∷ Int (id_in (column cells 4) +ℤ id_in (column cells 5)) ∷ Int (pos 0) ∷ column cells 6 ∷ column cells 7 ∷ column cells 8 ∷ []

turned_holds : (tally : Tally) (row : Row) → HoldsTally tally row → HoldsTally (none_approved tally) (unapproved_tally row)
turned_holds tally row holds = ap turned_cells holds

pub tallies_turned : (counts : Counts) (old new : List Row) → AreRenewed (λ row. true) unapproved_tally old new → AreTalliesOf counts old → AreTalliesOf (turned counts) new
tallies_turned counts old new renewed are = record { counted = counted_so; all = all_so }
  where
    counted_so : (x : Row) → Has new x → (t : Tally) × HoldsTally t x × (turned counts (text_at 1 x) (text_at 2 x) ≡ Some t)
    counted_so x there = elim (renewed.only x there) [
      | inl was ↦ absurd (let no : true ≡ false = was.1 in cc)
      | inr made ↦
          let it = are.counted made.0 made.1 in
          subst (λ (y : Row). (t : Tally) × HoldsTally t y × (turned counts (text_at 1 y) (text_at 2 y) ≡ Some t)) (sym made.3)
          (none_approved it.0, turned_holds it.0 made.0 it.1, ap (option_map none_approved) it.2)
    ]

    had : (o : Option Tally) → IsSome (option_map none_approved o) → IsSome o
    had None none = none
    had (Some tally) some = refl

    all_so : (d l : Text) → IsSome (turned counts d l) → (r : Row) × Has new r × IsTallyOf d l r
    all_so d l some = let it = are.all d l (had (counts d l) some) in (unapproved_tally it.0, renewed.made it.0 it.1 refl, it.2)

-- 64 bits hold each sum, where they hold those of the counts
pub sums_fit : (tally : Tally) (row : Row) → HoldsTally tally row → id_in (column row 5) +ℤ id_in (column row 6) ≡ pos (tally.translated + tally.approved)
sums_fit tally row holds = ap (λ (cells : Row). id_in (column cells 4) +ℤ id_in (column cells 5)) holds
