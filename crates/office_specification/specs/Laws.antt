-- What the laws of deliveries speak of. This project's own.
use Rattle.std.specs.Prelude.{◌≡◌, List, ◌∷◌, ◌++◌, false}
use Rattle.std.specs.FinMap as maps
use Rattle.po_text.specs.Texts.{Text}
use Rattle.units.specs.Project.{Place}
use Rattle.units.specs.Office.{Office, OfficePlace, office_place_eq, same_domain, project_in}
use Rattle.request_book.specs.declared.act.Request.{Request}
use Rattle.request_book.specs.Book.{OfficeWithBook}
use Rattle.request_book.specs.Clash.{clash}
use Rattle.replies.specs.Bodies.{Stepped}
use Rattle.office_specification.specs.declared.parts.Part.{Part}
use Rattle.office_specification.specs.Parts.{AreAlikeIn}
use Rattle.office_specification.specs.Step.{step}
use Rattle.office_specification.specs.Deliveries.{left_by, answers_of}

-- the second office is the first but for the unit at a place
pub record DiffersAt (place : OfficePlace) (old new : Office) : Type 0 where
  pub team : new.team ≡ old.team
  pub policy : new.policy ≡ old.policy
  pub domains : (domain : Text) → maps.contains_key new.domains domain ≡ maps.contains_key old.domains domain
  pub template : (domain : Text) → (project_in new domain).template ≡ (project_in old domain).template
  pub headers : (domain : Text) → (project_in new domain).headers ≡ (project_in old domain).headers
  pub others : (domain : Text) (other : Place) → office_place_eq (domain, other) place ≡ false →
      maps.get (project_in new domain).units other ≡ maps.get (project_in old domain).units other

-- the second office is the first but for a domain
pub record DiffersIn (domain : Text) (old new : Office) : Type 0 where
  pub team : new.team ≡ old.team
  pub policy : new.policy ≡ old.policy
  pub others : (other : Text) → same_domain other domain ≡ false → maps.get new.domains other ≡ maps.get old.domains other

-- two steps have one reply, and leave offices that are alike in a part
pub record IsStepAlike (part : Part) (x y : Stepped Office) : Type 0 where
  pub reply : x.1 ≡ y.1
  pub left : AreAlikeIn part x.0 y.0

-- two requests leave one office in either order, and get the same two replies
pub record GoInEitherOrder (office : Office) (x y : Request) : Type 0 where
  pub left : (step (step office x).0 y).0 ≡ (step (step office y).0 x).0
  pub second : (step (step office x).0 y).1 ≡ (step office y).1
  pub first : (step (step office y).0 x).1 ≡ (step office x).1

-- the lists from which swaps of neighbours that don't clash lead to a list
pub data Swaps (zs : List Request) : List Request → Type 0 where
  same : Swaps zs zs
  swap : (front : List Request) (x y : Request) (back : List Request) → clash x y ≡ false → Swaps zs (front ++ y ∷ x ∷ back) → Swaps zs (front ++ x ∷ y ∷ back)

-- a list leaves what its second part leaves after its first, and is answered with their answers
abbrev pub IsJoined : OfficeWithBook → List Request → List Request → Type 0
IsJoined start xs ys = (left_by start (xs ++ ys) ≡ left_by (left_by start xs) ys) × (answers_of start (xs ++ ys) ≡ answers_of start xs ++ answers_of (left_by start xs) ys)
