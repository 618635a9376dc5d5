-- What a schema asks of rows by the names of their tables, wherever these rows are: which columns tell the rows of a table apart, to which rows they
-- refer, and what they hold.
use Rattle.std.specs.Prelude.{◌≡◌, ℕ, pos, true, List, codes}
use Rattle.std.specs.Ordering.{int_cmp, is_le}
use Rattle.sqlite.specs.declared.types.Value.TheVariants.{Int, Text as Words}
use Rattle.sqlite.specs.Order.{Row, column}
use Rattle.sqlite_rules.specs.Lists.{Has}
use Rattle.sql_laws.specs.ApartRows.{AreOnce}
use Rattle.sql_laws.specs.RowMaps.{OneEach}
use Rattle.sql_schema.specs.Keys.{text_at, first_text, first_texts, second_text}
use Rattle.sql_schema.specs.Layouts.{NamedRows}
use Rattle.sql_meaning.specs.Values.{integer_at}

-- ---- keys

-- of suggestions and votes, each of which is on a suggestion
pub record AreKeyed (tables : NamedRows) : Type 0 where
  pub one_number : OneEach first_text (tables (codes "suggestion"))
  pub one_place : (r s : Row) → Has (tables (codes "suggestion")) r → Has (tables (codes "suggestion")) s → text_at 2 r ≡ text_at 2 s → text_at 3 r ≡ text_at 3 s
      → integer_at 4 r ≡ integer_at 4 s → r ≡ s
  pub one_vote : OneEach first_texts (tables (codes "vote"))
  pub has_suggestion : (v : Row) → Has (tables (codes "vote")) v → (s : Row) × Has (tables (codes "suggestion")) s × (first_text v ≡ first_text s)

-- of all
pub record AreKeyedRows (rows : NamedRows) : Type 0 where
  pub one_record : OneEach first_text (rows (codes "record"))
  pub one_member : OneEach first_text (rows (codes "team"))
  pub one_policy : OneEach (integer_at 0) (rows (codes "policy"))
  pub one_entry : OneEach (integer_at 0) (rows (codes "template"))
  pub one_key : OneEach second_text (rows (codes "template"))
  pub one_language : OneEach first_text (rows (codes "language"))
  pub one_unit : OneEach first_texts (rows (codes "unit"))
  pub suggested : AreKeyed rows

-- ---- what columns hold

abbrev pub HoldsIntegers : ℕ → List Row → Type 0
HoldsIntegers place rows = (row : Row) → Has rows row → column row place ≡ Int (integer_at place row)

abbrev pub HoldsWords : ℕ → List Row → Type 0
HoldsWords place rows = (row : Row) → Has rows row → column row place ≡ Words (text_at place row)

pub record AreTypedRows (rows : NamedRows) : Type 0 where
  pub policy_numbers : HoldsIntegers 0 (rows (codes "policy"))
  pub entry_places : HoldsIntegers 0 (rows (codes "template"))
  pub unit_states : HoldsIntegers 5 (rows (codes "unit"))
  pub unit_revisions : HoldsIntegers 7 (rows (codes "unit"))
  -- no state is above that of an approved unit
  pub last_state : (row : Row) → Has (rows (codes "unit")) row → is_le (int_cmp (integer_at 5 row) (pos 3)) ≡ true
  pub suggestion_langs : HoldsWords 2 (rows (codes "suggestion"))
  pub suggestion_keys : HoldsWords 3 (rows (codes "suggestion"))
  pub suggestion_places : HoldsIntegers 4 (rows (codes "suggestion"))

-- ---- all of it

pub record AreOfficeRows (rows : NamedRows) : Type 0 where
  pub keyed : AreKeyedRows rows
  pub typed : AreTypedRows rows
  -- each suggestion is on a unit
  pub has_unit : (s : Row) → Has (rows (codes "suggestion")) s → (u : Row) × Has (rows (codes "unit")) u × (text_at 1 u ≡ text_at 2 s) × (text_at 2 u ≡ text_at 3 s)
  -- no entry and no suggestion stands twice
  pub entries_once : AreOnce (rows (codes "template"))
  pub suggestions_once : AreOnce (rows (codes "suggestion"))
