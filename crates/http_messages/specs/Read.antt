-- A head by the places of its parts in the bytes that it was read from. This project's own words, for the code's own type.
use Rattle.std.specs.Prelude.{ℕ, List, map, take, IsUtf8}
use Rattle.httparse.specs.declared.spans.HeaderSpan.{HeaderSpan}
use Rattle.httparse.specs.declared.spans.RequestSpans.{RequestSpans}
use Rattle.httparse.specs.Spans.{span_bytes, header_bytes, IsRequestWithin}
use Rattle.http_messages.specs.Heads.{Head}

abbrev pub head_at : List ℕ → RequestSpans → List HeaderSpan → Head
head_at bytes spans lines = record {
  method = span_bytes bytes spans.method;
  target = span_bytes bytes spans.path;
  minor = spans.version;
  fields = map (header_bytes bytes) (take spans.headers lines);
}

pub record IsHeadAt (bytes : List ℕ) (spans : RequestSpans) (lines : List HeaderSpan) : Type 0 where
  pub within : IsRequestWithin bytes lines spans
  pub text : IsUtf8 (span_bytes bytes spans.path)
