-- What a walk over the units of a language tells: whether they keep the rules, and what they count. This project's own words.
use Rattle.std.proofs.Common.{◌≡◌, ◌⊎◌, inl, inr, ◌+◌, ◌<◌, ◌≤◌, ℕ, Bool, true, false, not, cond, List, [], ◌∷◌, ◌++◌, filter, fold, length, All, refl, sym, ap, subst, ◌∙◌, arith, length-append}
use Rattle.std.proofs.lemmas.List.Elements.{All-nil, All-append, filter-append}
use Rattle.std.proofs.lemmas.List.Sums.{fold-append}
use Rattle.sqlite.specs.Order.{Row}
use Rattle.sqlite_rules.specs.Lists.{Has}
use Rattle.sqlite_rules.proofs.ListLemmas.{has_left, has_right}
use Rattle.po_text.specs.declared.entry.Entry.{Entry}
use Rattle.units.specs.Limits.{unit_limit}
use Rattle.units.specs.Project.{Project}
use Rattle.office_specification.specs.Counting.{plus}
use Rattle.office_specification.specs.Tally.{counts_in}
use Rattle.office_specification.specs.declared.tally.Tally.{Tally}
use Rattle.sql_meaning.specs.Values.{flag_at, natural_at}
use Rattle.sql_decoding.specs.RowTests.{is_unit_row}
use Rattle.sql_adoption.specs.WalkedUnits.{unit_alone, IsKeptUnit}
use Rattle.sql_adoption.specs.declared.unit_sinks.Told.{Told}

-- what one unit counts, with its suggestions
abbrev pub row_counts : List Entry → Row → Tally
row_counts template row = record (counts_in template (unit_alone row ∷ [])) { suggestions = cond (flag_at 3 row) 0 (natural_at 9 row) }

abbrev pub with_counts : List Entry → Tally → Row → Tally
with_counts template tally row = plus tally (row_counts template row)

-- the unit isn't obsolete
abbrev pub is_in_use : Row → Bool
is_in_use row = not (flag_at 3 row)

-- All kept the rules, also those before: so many more units there are.
pub record CountedUnits (project : Project) (before : Told) (rows : List Row) (after : Told) : Type 0 where
  pub kept : before.kept ≡ true
  pub each : All (IsKeptUnit project) rows
  pub units : after.units ≡ before.units + length rows
  pub few : before.units ≤ unit_limit → after.units ≤ unit_limit
  pub current : after.current ≡ before.current + length (filter is_in_use rows)
  pub tally : after.tally ≡ fold (with_counts project.template) before.tally rows

-- one of these units doesn't keep the rules, or they are too many
abbrev pub BrokenUnits : Project → ℕ → List Row → Type 0
BrokenUnits project before rows = ((row : Row) × Has rows row × ¬ IsKeptUnit project row) ⊎ (unit_limit < before + length rows)

pub record TookUnits (project : Project) (before : Told) (rows : List Row) (after : Told) : Type 0 where
  pub stand : All (λ row. is_unit_row row ≡ true) rows
  pub counted : after.kept ≡ true → CountedUnits project before rows after
  pub broken : after.kept ≡ false → before.kept ≡ true → BrokenUnits project before.units rows

pub took_none : (project : Project) (told : Told) → TookUnits project told [] told
took_none project told = record {
  stand = All-nil (λ row. is_unit_row row ≡ true);
  counted = λ kept. record { kept = kept; each = All-nil (IsKeptUnit project); units = omega arith; few = λ few. few; current = omega arith; tally = refl };
  broken = λ broken kept. let no : true ≡ false = sym kept ∙ broken in cc;
}

pub took_more : (project : Project) (a b c : Told) (xs ys : List Row) → TookUnits project a xs b → TookUnits project b ys c → TookUnits project a (xs ++ ys) c
took_more project a b c xs ys one two = record {
  stand = All-append (λ row. is_unit_row row ≡ true) xs ys one.stand two.stand;
  counted = λ kept.
      let later = two.counted kept in
      let first = one.counted later.kept in
      record {
        kept = first.kept;
        each = All-append (IsKeptUnit project) xs ys first.each later.each;
        units = let long = length-append xs ys in let f = first.units in let l = later.units in omega arith;
        few = λ few. later.few (first.few few);
        current =
            let parts = ap length (filter-append is_in_use xs ys) in
            let long = length-append (filter is_in_use xs) (filter is_in_use ys) in
            let f = first.current in
            let l = later.current in
            omega arith;
        tally = later.tally ∙ ap (λ t. fold (with_counts project.template) t ys) first.tally ∙ sym (fold-append (with_counts project.template) a.tally xs ys);
      };
  broken = λ broken kept. by b.kept refl broken kept;
}
  where
    later_too : BrokenUnits project b.units ys → b.units ≡ a.units + length xs → BrokenUnits project a.units (xs ++ ys)
    later_too (inl it) units = inl (it.0, has_right xs ys it.0 it.1, it.2)
    later_too (inr many) units = inr (let long = length-append xs ys in omega arith)

    first_too : BrokenUnits project a.units xs → BrokenUnits project a.units (xs ++ ys)
    first_too (inl it) = inl (it.0, has_left xs ys it.0 it.1, it.2)
    first_too (inr many) = inr (let long = length-append xs ys in omega arith)

    by : (kept : Bool) → b.kept ≡ kept → c.kept ≡ false → a.kept ≡ true → BrokenUnits project a.units (xs ++ ys)
    by true is broken kept = later_too (two.broken broken is) (one.counted is).units
    by false is broken kept = first_too (one.broken is kept)

-- The same, of a project that stays.
pub record TakesUnits (project : Project) (before : Told) (rows : List Row) (same : Project) (after : Told) : Type 0 where
  pub stays : same ≡ project
  pub took : TookUnits project before rows after

pub takes_none : (project : Project) (told : Told) → TakesUnits project told [] project told
takes_none project told = record { stays = refl; took = took_none project told }

pub takes_more : (p q r : Project) (a b c : Told) (xs ys : List Row) → TakesUnits p a xs q b → TakesUnits q b ys r c → TakesUnits p a (xs ++ ys) r c
takes_more p q r a b c xs ys one two = record {
  stays = two.stays ∙ one.stays;
  took = took_more p a b c xs ys one.took (subst (λ o. TookUnits o b ys c) one.stays two.took);
}
