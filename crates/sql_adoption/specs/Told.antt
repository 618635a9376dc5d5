-- What a walk that tests each row tells: whether all of them pass, also those before. This project's own words.
use Rattle.std.proofs.Common.{◌≡◌, Bool, true, false, ◌&&◌, List, [], ◌∷◌, ◌++◌, refl, sym, ap, ◌∙◌}
use Rattle.std.specs.List.{list_all}
use Rattle.std.proofs.Math.Bool.{and-true}
use Rattle.std.proofs.lemmas.List.Folds.{list_all-append}
use Rattle.sqlite.specs.Order.{Row}

abbrev pub TellsAll : (Row → Bool) → Bool → List Row → Bool → Type 0
TellsAll test before rows after = after ≡ (before && list_all test rows)

pub tells_none : (test : Row → Bool) (told : Bool) → TellsAll test told [] told
tells_none test told = sym (and-true told)

pub tells_one : (test : Row → Bool) (row : Row) (before after : Bool) → after ≡ (before && test row) → TellsAll test before (row ∷ []) after
tells_one test row before after told = told ∙ ap (λ b. before && b) (sym (and-true (test row)))

both : (a b c : Bool) → ((a && b) && c) ≡ (a && (b && c))
both true b c = refl
both false b c = refl

pub tells_more : (test : Row → Bool) (a b c : Bool) (xs ys : List Row) → TellsAll test a xs b → TellsAll test b ys c → TellsAll test a (xs ++ ys) c
tells_more test a b c xs ys one two =
    two ∙ ap (λ d. d && list_all test ys) one ∙ both a (list_all test xs) (list_all test ys) ∙ ap (λ d. a && d) (sym (list_all-append test xs ys))
