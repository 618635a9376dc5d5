-- The reason phrase of a status, as the crate that knows the statuses writes it down (RFC 9110, section 15; RFC 6585, section 5, for 431;
-- RFC 4918, section 11.5, for 507; those of 413 and 422 are of RFC 7231 and RFC 4918). And which recorded numbers are a status.
use Rattle.std.specs.Prelude.{ℕ, ◌&&◌, nat_le, nat_lt, List, [], unwrap_or, Bool}
use Rattle.http.specs.StatusCode.{reason_phrase}

-- a status that has none has an empty one
unfoldable pub phrase : ℕ → List ℕ
phrase status = unwrap_or (reason_phrase status) []

-- three digits, the first not 0 (RFC 9110, section 15)
abbrev pub is_status : ℕ → Bool
is_status n = nat_le 100 n && nat_lt n 1000
