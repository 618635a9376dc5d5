-- Rows that are known, computed by the definitions.
use Rattle.std.proofs.Common.{◌≡◌, ℕ, List, [], ◌∷◌, ◌++◌, map, refl, Result, Ok, Err}
use Rattle.std.specs.Prelude.{codes, replicate}
use Rattle.plural_expr.specs.declared.fault.EvalFault.TheVariants as eval
use Rattle.plural_expr.specs.declared.fault.PluralFault.{PluralFault}
use Rattle.plural_expr.specs.declared.fault.PluralFault.TheVariants as faults
use Rattle.plural_expr.specs.Tokens.{tokens_behind, token_at}
use Rattle.plural_expr.specs.Values.{Value, index_of, value_of}
use Rattle.plural_expr.specs.Plain.{rule_of, rule_at, operand_at, behind}
use Rattle.plural_expr.specs.Faults.{reading_of, values_fault}

-- the fault, or the index at each n
unfoldable answers : List ℕ → List ℕ → Result (List Value) PluralFault
answers text ns = elim (reading_of text) [ Err fault ↦ Err fault | Ok rule ↦ Ok (map (index_of rule) ns) ]

russian : answers (codes "nplurals=3; plural=n%10==1 && n%100!=11 ? 0 : n%10>=2 && n%10<=4 && (n%100<10 || n%100>=20) ? 1 : 2;") (1 ∷ 11 ∷ 21 ∷ 22 ∷ 112 ∷ 4294967295 ∷ []) ≡ Ok (Ok 0 ∷ Ok 2 ∷ Ok 0 ∷ Ok 1 ∷ Ok 2 ∷ Ok 2 ∷ [])
unfolding answers index_of reading_of values_fault rule_of rule_at operand_at behind tokens_behind token_at value_of
russian = refl

slovenian : answers (codes "nplurals=4; plural=n%100==1 ? 0 : n%100==2 ? 1 : n%100==3 || n%100==4 ? 2 : 3;") (1 ∷ 2 ∷ 3 ∷ 4 ∷ 5 ∷ 101 ∷ 1002 ∷ []) ≡ Ok (Ok 0 ∷ Ok 1 ∷ Ok 2 ∷ Ok 2 ∷ Ok 3 ∷ Ok 0 ∷ Ok 1 ∷ [])
unfolding answers index_of reading_of values_fault rule_of rule_at operand_at behind tokens_behind token_at value_of
slovenian = refl

one_form : answers (codes "nplurals=1; plural=0;") (0 ∷ 7 ∷ []) ≡ Ok (Ok 0 ∷ Ok 0 ∷ [])
unfolding answers index_of reading_of values_fault rule_of rule_at operand_at behind tokens_behind token_at value_of
one_form = refl

not_one : answers (codes "nplurals=2; plural=n != 1;") (0 ∷ 1 ∷ 2 ∷ []) ≡ Ok (Ok 1 ∷ Ok 0 ∷ Ok 1 ∷ [])
unfolding answers index_of reading_of values_fault rule_of rule_at operand_at behind tokens_behind token_at value_of
not_one = refl

above_one : answers (codes "nplurals=2; plural=n>1;") (0 ∷ 1 ∷ 2 ∷ []) ≡ Ok (Ok 0 ∷ Ok 0 ∷ Ok 1 ∷ [])
unfolding answers index_of reading_of values_fault rule_of rule_at operand_at behind tokens_behind token_at value_of
above_one = refl

below : answers (codes "nplurals=2; plural=n-1;") [] ≡ Err (faults.Faults 0)
unfolding answers index_of reading_of values_fault rule_of rule_at operand_at behind tokens_behind token_at value_of
below = refl

range : answers (codes "nplurals=2; plural=n;") [] ≡ Err (faults.Range 2)
unfolding answers index_of reading_of values_fault rule_of rule_at operand_at behind tokens_behind token_at value_of
range = refl

late_range : answers (codes "nplurals=1; plural=n/1000;") (999 ∷ 1000 ∷ []) ≡ Ok (Ok 0 ∷ Err eval.Range ∷ [])
unfolding answers index_of reading_of values_fault rule_of rule_at operand_at behind tokens_behind token_at value_of
late_range = refl

choice_to_the_right : answers (codes "nplurals=2; plural=1 ? 0 : 0 ? 1 : 1;") (5 ∷ []) ≡ Ok (Ok 0 ∷ [])
unfolding answers index_of reading_of values_fault rule_of rule_at operand_at behind tokens_behind token_at value_of
choice_to_the_right = refl

and_stops : answers (codes "nplurals=2; plural=n!=0 && 10/n>5;") (0 ∷ 1 ∷ 2 ∷ []) ≡ Ok (Ok 0 ∷ Ok 1 ∷ Ok 0 ∷ [])
unfolding answers index_of reading_of values_fault rule_of rule_at operand_at behind tokens_behind token_at value_of
and_stops = refl

zero : answers (codes "nplurals=2; plural=1/n;") (0 ∷ []) ≡ Err (faults.Faults 0)
unfolding answers index_of reading_of values_fault rule_of rule_at operand_at behind tokens_behind token_at value_of
zero = refl

nine : answers (codes "nplurals=9; plural=0;") (0 ∷ []) ≡ Err faults.Count
unfolding answers index_of reading_of values_fault rule_of rule_at operand_at behind tokens_behind token_at value_of
nine = refl

two_digits : answers (codes "nplurals=02; plural=0;") (0 ∷ []) ≡ Err faults.Count
unfolding answers index_of reading_of values_fault rule_of rule_at operand_at behind tokens_behind token_at value_of
two_digits = refl

no_digits : answers (codes "nplurals=; plural=0;") (0 ∷ []) ≡ Err faults.Syntax
unfolding answers index_of reading_of values_fault rule_of rule_at operand_at behind tokens_behind token_at value_of
no_digits = refl

pairs_31 : answers (codes "nplurals=1; plural=(((((((((((((((((((((((((((((((0)))))))))))))))))))))))))))))));") (7 ∷ []) ≡ Ok (Ok 0 ∷ [])
unfolding answers index_of reading_of values_fault rule_of rule_at operand_at behind tokens_behind token_at value_of
pairs_31 = refl

pairs_32 : answers (codes "nplurals=1; plural=((((((((((((((((((((((((((((((((0))))))))))))))))))))))))))))))));") (7 ∷ []) ≡ Err faults.Depth
unfolding answers index_of reading_of values_fault rule_of rule_at operand_at behind tokens_behind token_at value_of
pairs_32 = refl

no_part : answers (codes "nplurals=2; plural=n !=;") (1 ∷ []) ≡ Err faults.Syntax
unfolding answers index_of reading_of values_fault rule_of rule_at operand_at behind tokens_behind token_at value_of
no_part = refl

no_semicolon : answers (codes " nplurals = 2 ; plural = n  != 1 ") (1 ∷ []) ≡ Ok (Ok 0 ∷ [])
unfolding answers index_of reading_of values_fault rule_of rule_at operand_at behind tokens_behind token_at value_of
no_semicolon = refl

two_semicolons : answers (codes "nplurals=2; plural=n;;") (1 ∷ []) ≡ Err faults.Syntax
unfolding answers index_of reading_of values_fault rule_of rule_at operand_at behind tokens_behind token_at value_of
two_semicolons = refl

leading_zero : answers (codes "nplurals=2; plural=01;") (1 ∷ []) ≡ Err faults.Syntax
unfolding answers index_of reading_of values_fault rule_of rule_at operand_at behind tokens_behind token_at value_of
leading_zero = refl

largest : answers (codes "nplurals=2; plural=18446744073709551615 > n;") (1 ∷ []) ≡ Ok (Ok 1 ∷ [])
unfolding answers index_of reading_of values_fault rule_of rule_at operand_at behind tokens_behind token_at value_of
largest = refl

too_large : answers (codes "nplurals=2; plural=18446744073709551616 > n;") (1 ∷ []) ≡ Err faults.Syntax
unfolding answers index_of reading_of values_fault rule_of rule_at operand_at behind tokens_behind token_at value_of
too_large = refl

above : answers (codes "nplurals=2; plural=18446744073709551615 + n > 5;") [] ≡ Err (faults.Faults 1)
unfolding answers index_of reading_of values_fault rule_of rule_at operand_at behind tokens_behind token_at value_of
above = refl

equals_twice : answers (codes "nplurals=2; plural==n;") (1 ∷ []) ≡ Err faults.Syntax
unfolding answers index_of reading_of values_fault rule_of rule_at operand_at behind tokens_behind token_at value_of
equals_twice = refl

minus_to_the_left : answers (codes "nplurals=8; plural=n > 9 ? 0 : 9 - n - 0;") [] ≡ Err (faults.Range 0)
unfolding answers index_of reading_of values_fault rule_of rule_at operand_at behind tokens_behind token_at value_of
minus_to_the_left = refl

left_grouping : answers (codes "nplurals=4; plural=8 - 4 - 2;") (0 ∷ []) ≡ Ok (Ok 2 ∷ [])
unfolding answers index_of reading_of values_fault rule_of rule_at operand_at behind tokens_behind token_at value_of
left_grouping = refl

left_division : answers (codes "nplurals=5; plural=8 / 4 / 2;") (0 ∷ []) ≡ Ok (Ok 1 ∷ [])
unfolding answers index_of reading_of values_fault rule_of rule_at operand_at behind tokens_behind token_at value_of
left_division = refl

not_binds : answers (codes "nplurals=2; plural=!n == 1;") (0 ∷ 1 ∷ 2 ∷ []) ≡ Ok (Ok 1 ∷ Ok 0 ∷ Ok 0 ∷ [])
unfolding answers index_of reading_of values_fault rule_of rule_at operand_at behind tokens_behind token_at value_of
not_binds = refl

mixed : answers (codes "nplurals=2; plural=n > 1 || n == 0 && n < 1;") (0 ∷ 1 ∷ 2 ∷ []) ≡ Ok (Ok 1 ∷ Ok 0 ∷ Ok 1 ∷ [])
unfolding answers index_of reading_of values_fault rule_of rule_at operand_at behind tokens_behind token_at value_of
mixed = refl

inner_choice : answers (codes "nplurals=3; plural=n ? n > 1 ? 2 : 1 : 0;") (0 ∷ 1 ∷ 2 ∷ []) ≡ Ok (Ok 0 ∷ Ok 1 ∷ Ok 2 ∷ [])
unfolding answers index_of reading_of values_fault rule_of rule_at operand_at behind tokens_behind token_at value_of
inner_choice = refl

tab : answers (codes "nplurals=2;" ++ 9 ∷ codes " plural=n>1;") (0 ∷ []) ≡ Err faults.Syntax
unfolding answers index_of reading_of values_fault rule_of rule_at operand_at behind tokens_behind token_at value_of
tab = refl

long : answers (codes "nplurals=2; plural=n>1;" ++ replicate 490 32) (0 ∷ []) ≡ Err faults.Depth
unfolding answers index_of reading_of values_fault rule_of rule_at operand_at behind tokens_behind token_at value_of
long = refl
