-- The tokens of a plural rule: how each is written, and how a text is cut into them.
-- From the GNU gettext manual, "Plural forms", whose expressions have C syntax. This project's own: between tokens stand only
-- spaces (U+0020), tokens are as long as possible, and a number is decimal, `0` or digits not beginning with 0, at most 2^64 - 1.
use Rattle.std.specs.Prelude.{ℕ, zero, suc, ◌+◌, ◌-◌, ◌*◌, ◌^◌, List, [], ◌∷◌, Bool, true, false, ◌&&◌, ◌==◌, not, nat_lt, nat_eq, length, Option, Some, None, if◌then◌else◌, codes}
use Rattle.std.specs.List.{find, fold, starts_with, take_while}
use Rattle.std.specs.Char.{is_ascii_digit}
use Rattle.plural_expr.specs.declared.token.Token.{Token}
use Rattle.plural_expr.specs.declared.token.Token.TheVariants.{Nplurals, Plural, Variable, Operation, Negation, Question, Colon, Left, Right, Assign, Semicolon, Number, Digits}
use Rattle.plural_expr.specs.declared.tree.Operator.TheVariants as op

infixl 10 ◌>>=◌
abbrev pub ◌>>=◌ : {A B : Type 0} → Option A → (A → Option B) → Option B
(Some x) >>= f = f x
None >>= f = None

-- a token and how it is written
abbrev pub Written : Type 0
Written = List ℕ × Token

-- how long it is written, and the token
abbrev pub with_length : Written → ℕ × Token
with_length w = (length w.0, w.1)

-- A token stands before those that begin it, so the first that fits is the longest.
abbrev pub fixed : List Written
fixed =
    (codes "nplurals", Nplurals) ∷ (codes "plural", Plural) ∷ (codes "n", Variable)
    ∷ (codes "||", Operation op.Or) ∷ (codes "&&", Operation op.And)
    ∷ (codes "==", Operation op.Equal) ∷ (codes "!=", Operation op.NotEqual)
    ∷ (codes "<=", Operation op.LessOrEqual) ∷ (codes ">=", Operation op.GreaterOrEqual)
    ∷ (codes "<", Operation op.Less) ∷ (codes ">", Operation op.Greater)
    ∷ (codes "+", Operation op.Add) ∷ (codes "-", Operation op.Subtract)
    ∷ (codes "*", Operation op.Multiply) ∷ (codes "/", Operation op.Divide) ∷ (codes "%", Operation op.Remainder)
    ∷ (codes "!", Negation) ∷ (codes "=", Assign) ∷ (codes ";", Semicolon)
    ∷ (codes "?", Question) ∷ (codes ":", Colon) ∷ (codes "(", Left) ∷ (codes ")", Right) ∷ []

-- the digits at the front
abbrev pub digits_at : List ℕ → List ℕ
digits_at text = take_while is_ascii_digit text

abbrev pub value_of_digits : List ℕ → ℕ
value_of_digits ds = fold (λ n d. n * 10 + (d - 48)) 0 ds

-- one digit, or more that don't begin with 0
abbrev pub begins_well : List ℕ → Bool
begins_well [] = false
begins_well (d ∷ []) = true
begins_well (d ∷ e ∷ ds) = not (d == 48)

abbrev pub digits_token : List ℕ → Token
digits_token ds = if begins_well ds && nat_lt (value_of_digits ds) (2 ^ 64) then Number (value_of_digits ds) else Digits

abbrev pub digits_written : List ℕ → Option Written
digits_written [] = None
digits_written (d ∷ ds) = Some (d ∷ ds, digits_token (d ∷ ds))

abbrev pub or_else : {A : Type 0} → Option A → Option A → Option A
or_else (Some x) other = Some x
or_else None other = other

-- the longest token at the front
unfoldable pub token_at : List ℕ → Option Written
token_at text = or_else (digits_written (digits_at text)) (find (λ written. starts_with nat_eq text written.0) fixed)

-- the tokens behind the first k bytes, with spaces between them
unfoldable pub tokens_behind : ℕ → List ℕ → Option (List Token)
tokens_behind k [] = Some []
tokens_behind (suc k) (b ∷ text) = tokens_behind k text
tokens_behind zero (b ∷ text) = if b == 32 then tokens_behind zero text else (do
  written ← token_at (b ∷ text)
  tokens ← tokens_behind (length written.0 - 1) text
  Some (written.1 ∷ tokens))

abbrev pub tokens_of : List ℕ → Option (List Token)
tokens_of text = tokens_behind 0 text
