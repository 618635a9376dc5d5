-- What a walk over the suggestions on a language's units tells: whether each has the forms that its unit needs. This project's own words.
use Rattle.std.proofs.Common.{◌≡◌, Bool, true, false, List, [], ◌++◌, All, refl, sym, subst, ◌∙◌}
use Rattle.std.proofs.lemmas.List.Elements.{All-nil, All-append}
use Rattle.sqlite.specs.Order.{Row}
use Rattle.sqlite_rules.specs.Lists.{Has}
use Rattle.sqlite_rules.proofs.ListLemmas.{has_left, has_right}
use Rattle.plural_expr.specs.Values.{Rule}
use Rattle.sql_decoding.specs.RowTests.{is_suggestion_row}
use Rattle.sql_adoption.specs.WalkedUnits.{IsKeptSuggestion}

pub record TookSuggestions (rule : Rule) (before : Bool) (rows : List Row) (after : Bool) : Type 0 where
  pub stand : All (λ row. is_suggestion_row row ≡ true) rows
  pub kept : after ≡ true → (before ≡ true) × All (IsKeptSuggestion rule) rows
  pub broken : after ≡ false → before ≡ true → (row : Row) × Has rows row × ¬ IsKeptSuggestion rule row

-- of a rule that stays
pub record TakesSuggestions (rule : Rule) (before : Bool) (rows : List Row) (same : Rule) (after : Bool) : Type 0 where
  pub stays : same ≡ rule
  pub took : TookSuggestions rule before rows after

pub suggestions_none : (rule : Rule) (told : Bool) → TakesSuggestions rule told [] rule told
suggestions_none rule told = record {
  stays = refl;
  took = record {
    stand = All-nil (λ row. is_suggestion_row row ≡ true);
    kept = λ kept. (kept, All-nil (IsKeptSuggestion rule));
    broken = λ broken kept. absurd (let no : true ≡ false = sym kept ∙ broken in cc);
  };
}

took_more : (rule : Rule) (a b c : Bool) (xs ys : List Row) → TookSuggestions rule a xs b → TookSuggestions rule b ys c → TookSuggestions rule a (xs ++ ys) c
took_more rule a b c xs ys one two = record {
  stand = All-append (λ row. is_suggestion_row row ≡ true) xs ys one.stand two.stand;
  kept = λ kept.
      let later = two.kept kept in
      let first = one.kept later.0 in
      (first.0, All-append (IsKeptSuggestion rule) xs ys first.1 later.1);
  broken = λ broken kept. by b refl broken kept;
}
  where
    by : (kept : Bool) → b ≡ kept → c ≡ false → a ≡ true → (row : Row) × Has (xs ++ ys) row × ¬ IsKeptSuggestion rule row
    by true is broken kept = let it = two.broken broken is in (it.0, has_right xs ys it.0 it.1, it.2)
    by false is broken kept = let it = one.broken is kept in (it.0, has_left xs ys it.0 it.1, it.2)

pub suggestions_more : (p q r : Rule) (a b c : Bool) (xs ys : List Row) → TakesSuggestions p a xs q b → TakesSuggestions q b ys r c → TakesSuggestions p a (xs ++ ys) r c
suggestions_more p q r a b c xs ys one two = record {
  stays = two.stays ∙ one.stays;
  took = took_more p a b c xs ys one.took (subst (λ o. TookSuggestions o b ys c) one.stays two.took);
}
