-- Where a request's head ends. RFC 9112, section 2.1: it ends with an empty line. A line ends with CR LF, or with LF alone
-- (section 2.2). So it is all up to and with the first LF that a line end follows, and that line end.
use Rattle.std.specs.Prelude.{ℕ, ◌+◌, ◌==◌, ◌&&◌, nat_lt, List, [], ◌∷◌, take, Option, Some, None, option_map, Bool, false, if◌then◌else◌}

abbrev pub begins_lf : List ℕ → Bool
begins_lf [] = false
begins_lf (b ∷ bytes) = b == 10

-- how long the line end at the front is, or 0
abbrev pub line_end_length : List ℕ → ℕ
line_end_length [] = 0
line_end_length (b ∷ bytes) = if b == 10 then 1 else if b == 13 && begins_lf bytes then 2 else 0

-- how long the LF and the line end at the front are, or 0
abbrev pub end_length : List ℕ → ℕ
end_length [] = 0
end_length (b ∷ bytes) = if b == 10 && nat_lt 0 (line_end_length bytes) then 1 + line_end_length bytes else 0

-- the head at the front, where one ends
unfoldable pub head_cut : List ℕ → Option (List ℕ)
head_cut [] = None
head_cut (b ∷ bytes) =
    if nat_lt 0 (end_length (b ∷ bytes)) then Some (take (end_length (b ∷ bytes)) (b ∷ bytes))
    else option_map (λ head. b ∷ head) (head_cut bytes)
