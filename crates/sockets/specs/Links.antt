-- What a link over sockets takes: this project's own bound.
use Rattle.std.specs.Prelude.{ℕ}

-- how many bytes an answer has at most
abbrev pub answer_limit : ℕ
answer_limit = 16777216
