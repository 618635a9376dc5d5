-- Which lines are lost, and where a list ends that goes no further than the first lost one. This project's own rule.
use Rattle.std.specs.Prelude.{◌≡◌, Bool, true, false, List, [], ◌∷◌, ◌++◌, Ok, Err, ⊤}
use Rattle.office.specs.Exchanges.{Exchange, asked, malformed, unread}
use Rattle.commands.specs.declared.deliver.AtLost.{AtLost}
use Rattle.commands.specs.declared.deliver.AtLost.TheVariants.{GoOn, End}

-- want of memory, a failed disk or a refusal is told, and no reply; a line that is no request has its answer
abbrev pub is_lost : Exchange → Bool
is_lost (asked request (Ok reply)) = false
is_lost (asked request (Err lost)) = true
is_lost malformed = false
is_lost unread = true

abbrev pub NoneLost : List Exchange → Type 0
NoneLost [] = ⊤
NoneLost (x ∷ xs) = (is_lost x ≡ false) × NoneLost xs

-- the last of them is lost, and it alone
pub record EndsLost (xs : List Exchange) : Type 0 where
  pub front : List Exchange
  pub last : Exchange
  pub cut : xs ≡ front ++ last ∷ []
  pub none : NoneLost front
  pub lost : is_lost last ≡ true

-- none but the last is
abbrev pub NothingBehindLost : List Exchange → Type 0
NothingBehindLost [] = ⊤
NothingBehindLost (x ∷ []) = ⊤
NothingBehindLost (x ∷ y ∷ xs) = (is_lost x ≡ false) × NothingBehindLost (y ∷ xs)

-- what holds where a list is to end at a lost line
abbrev pub WhereItEnds : AtLost → Type 0 → Type 0
WhereItEnds GoOn Holds = ⊤
WhereItEnds End Holds = Holds

-- whether it ends behind a line
abbrev pub ends_behind : AtLost → Bool → Bool
ends_behind GoOn lost = false
ends_behind End lost = lost

-- one line, or none, of which it is told whether it is lost
abbrev pub TellsLost : Bool → List Exchange → Type 0
TellsLost false xs = NoneLost xs
TellsLost true xs = EndsLost xs

-- ---- what lines did, by how their list went on

-- None of them ended it.
pub record GoingOn (at : AtLost) (Did : List Exchange → Type 0) (xs : List Exchange) : Type 0 where
  pub did : Did xs
  pub none : WhereItEnds at (NoneLost xs)

-- No line was taken behind one that ends it.
pub record BrokenOff (at : AtLost) (Did : List Exchange → Type 0) (xs : List Exchange) : Type 0 where
  pub did : Did xs
  pub behind : WhereItEnds at (NothingBehindLost xs)

-- The last of them did.
pub record EndedAt (Did : List Exchange → Type 0) (xs : List Exchange) : Type 0 where
  pub did : Did xs
  pub ends : EndsLost xs
