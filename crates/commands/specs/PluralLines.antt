-- What `office plural` prints: this project's own rule. The rules and their faults are those of the GNU gettext manual,
-- "Plural forms", as the crate of plural rules defines them.
use Rattle.std.specs.Prelude.{◌≡◌, ◌⊎◌, ℕ, List, [], ◌∷◌, ◌++◌, codes, decimal, Option, Some, None, Result, Ok, Err}
use Rattle.plural_expr.specs.declared.fault.EvalFault.{EvalFault}
use Rattle.plural_expr.specs.declared.fault.PluralFault.{PluralFault}
use Rattle.plural_expr.specs.declared.fault.PluralFault.TheVariants.{Memory}
use Rattle.plural_expr.specs.Values.{Rule, Value, index_of}
use Rattle.plural_expr.specs.Faults.{reading_of, fault_number, fault_at, eval_fault_number}
use Rattle.office.specs.Writers.{Writer, TakesAll, TakesPart}

-- a line `N INDEX`
abbrev pub index_line : ℕ → ℕ → List ℕ
index_line n form = decimal n ++ (codes " " ++ (decimal form ++ 10 ∷ []))

-- ` at N` and the end of the line
abbrev pub place : ℕ → List ℕ
place n = codes " at " ++ (decimal n ++ 10 ∷ [])

abbrev pub place_of : Option ℕ → List ℕ
place_of None = 10 ∷ []
place_of (Some n) = place n

-- a line `plural fault K` or `plural fault K at n`
abbrev pub plural_fault_line : PluralFault → List ℕ
plural_fault_line fault = codes "plural fault " ++ (decimal (fault_number fault) ++ place_of (fault_at fault))

-- a line `index fault K at N`
abbrev pub index_fault_line : EvalFault → ℕ → List ℕ
index_fault_line fault n = codes "index fault " ++ (decimal (eval_fault_number fault) ++ place n)

-- the lines up to the first n with no index, and that n with its fault
abbrev pub line_then : ℕ → Value → List ℕ → List ℕ
line_then n (Ok form) lines = index_line n form ++ lines
line_then n (Err fault) lines = []

abbrev pub lines_of : Rule → List ℕ → List ℕ
lines_of rule [] = []
lines_of rule (n ∷ ns) = line_then n (index_of rule n) (lines_of rule ns)

abbrev pub fault_then : ℕ → Value → Option (EvalFault × ℕ) → Option (EvalFault × ℕ)
fault_then n (Ok form) later = later
fault_then n (Err fault) later = Some (fault, n)

abbrev pub fault_of : Rule → List ℕ → Option (EvalFault × ℕ)
fault_of rule [] = None
fault_of rule (n ∷ ns) = fault_then n (index_of rule n) (fault_of rule ns)

-- what comes on the two outputs, and the exit status
pub record Printed : Type 0 where
  pub out : List ℕ
  pub faults : List ℕ
  pub status : ℕ

abbrev pub ended : List ℕ → Option (EvalFault × ℕ) → Printed
ended lines None = record { out = lines; faults = []; status = 0 }
ended lines (Some (fault, n)) = record { out = lines; faults = index_fault_line fault n; status = 1 }

abbrev pub refused : PluralFault → Printed
refused fault = record { out = []; faults = plural_fault_line fault; status = 1 }

abbrev pub answered : Result Rule PluralFault → List ℕ → Printed
answered (Ok rule) ns = ended (lines_of rule ns) (fault_of rule ns)
answered (Err fault) ns = refused fault

abbrev pub printed : List ℕ → List ℕ → Printed
printed value ns = answered (reading_of value) ns

-- What came of it, on the two outputs and in the exit status:
pub data IsPrinted (whole : Printed) (out_old out_new faults_old faults_new : Writer) (status : ℕ) : Type 0 where
  -- all of it;
  all : TakesAll out_old out_new whole.out → TakesAll faults_old faults_new whole.faults → status ≡ whole.status
      → IsPrinted whole out_old out_new faults_old faults_new status
  -- or a beginning of the lines, behind which the output failed, and no fault;
  cut : TakesPart out_old out_new whole.out → TakesAll faults_old faults_new [] → status ≡ 1
      → IsPrinted whole out_old out_new faults_old faults_new status
  -- or the lines, and a beginning of their fault's;
  untold : TakesAll out_old out_new whole.out → TakesPart faults_old faults_new whole.faults → status ≡ 1
      → IsPrinted whole out_old out_new faults_old faults_new status
  -- or, where memory ran out, only the line of that.
  memory : TakesAll out_old out_new [] → TakesAll faults_old faults_new (plural_fault_line Memory) ⊎ TakesPart faults_old faults_new (plural_fault_line Memory) → status ≡ 1
      → IsPrinted whole out_old out_new faults_old faults_new status
