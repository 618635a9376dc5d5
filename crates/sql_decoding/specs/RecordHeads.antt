-- What a row of the records in their order stands for: the request's number and the reply's status.
use Rattle.std.specs.Prelude.{Bool, ◌&&◌}
use Rattle.sqlite.specs.Order.{Row}
use Rattle.sql_meaning.specs.Meaning.{number_at}
use Rattle.sql_meaning.specs.Values.{natural_at}
use Rattle.sql_decoding.specs.declared.record_heads.RecordHead.{RecordHead}
use Rattle.sql_decoding.specs.RowTests.{holds_text, holds_integer, is_number, is_status}

-- number, status
abbrev pub shown_head : Row → RecordHead
shown_head row = record { number = number_at 0 row; status = natural_at 1 row }

-- the row stands for one
abbrev pub is_head : Row → Bool
is_head row = holds_text is_number 0 row && holds_integer is_status 1 row
