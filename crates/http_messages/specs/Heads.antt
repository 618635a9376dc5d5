-- What a request's head says: its method, target and minor version, and the names and values of its field lines. RFC 9112, sections 2
-- to 5, in the words of RFC 9110 for names and values; the classes of bytes are those of the crate that reads heads. A target is
-- taken as it stands, undecoded.
use Rattle.std.specs.Prelude.{ℕ, ◌==◌, ◌&&◌, nat_lt, nat_le, List, [], ◌∷◌, length, map, codes, Option, Some, None, option_map, Bool, if◌then◌else◌}
use Rattle.std.specs.Option.{option_and_then}
use Rattle.std.specs.List.{list_all}
use Rattle.std.specs.Str.{bytes_eq, is_utf8}
use Rattle.httparse.specs.Grammar.{is_token, is_uri_byte, is_value_byte, trim_ows}

-- a name and a value
abbrev pub FieldLine : Type 0
FieldLine = List ℕ × List ℕ

pub record Head : Type 0 where
  pub method : List ℕ
  pub target : List ℕ
  -- of the version HTTP/1.0 or HTTP/1.1
  pub minor : ℕ
  pub fields : List FieldLine

-- ---- lines (RFC 9112, section 2.2)

-- a CR before the LF belongs to the line's end
abbrev pub without_cr : List ℕ → List ℕ
without_cr [] = []
without_cr (b ∷ []) = if b == 13 then [] else b ∷ []
without_cr (b ∷ c ∷ bytes) = b ∷ without_cr (c ∷ bytes)

abbrev pub in_first : ℕ → Option (List (List ℕ)) → Option (List (List ℕ))
in_first b None = None
in_first b (Some []) = None
in_first b (Some (line ∷ lines)) = Some ((b ∷ line) ∷ lines)

-- the bytes before each LF; none where bytes stand behind the last
abbrev pub ended_lines : List ℕ → Option (List (List ℕ))
ended_lines [] = Some []
ended_lines (b ∷ bytes) = if b == 10 then option_map (λ lines. [] ∷ lines) (ended_lines bytes) else in_first b (ended_lines bytes)

abbrev pub text_lines : List ℕ → Option (List (List ℕ))
text_lines bytes = option_map (map without_cr) (ended_lines bytes)

-- ---- the request line (RFC 9112, section 3): method SP request-target SP HTTP-version

-- the bytes before and behind the first of these
abbrev pub cut_at : ℕ → List ℕ → Option (List ℕ × List ℕ)
cut_at c [] = None
cut_at c (b ∷ bytes) = if b == c then Some ([], bytes) else option_map (λ parts. (b ∷ parts.0, parts.1)) (cut_at c bytes)

-- one or more bytes that aren't controls, spaces or DEL, and that are UTF-8 together
abbrev pub is_target : List ℕ → Bool
is_target bytes = nat_lt 0 (length bytes) && list_all is_uri_byte bytes && is_utf8 bytes

abbrev pub minor_of : List ℕ → Option ℕ
minor_of version =
    if bytes_eq version (codes "HTTP/1.1") then Some 1
    else if bytes_eq version (codes "HTTP/1.0") then Some 0
    else None

pub record RequestLine : Type 0 where
  pub method : List ℕ
  pub target : List ℕ
  pub minor : ℕ

abbrev pub line_with : List ℕ → List ℕ × List ℕ → Option RequestLine
line_with method rest =
    if is_token method && is_target rest.0 then option_map (λ minor. record { method = method; target = rest.0; minor = minor }) (minor_of rest.1)
    else None

abbrev pub request_line : List ℕ → Option RequestLine
request_line line = option_and_then (λ parts. option_and_then (line_with parts.0) (cut_at 32 parts.1)) (cut_at 32 line)

-- ---- field lines (RFC 9112, section 5): field-name ":" OWS field-value OWS

abbrev pub field_with : List ℕ × List ℕ → Option FieldLine
field_with parts = if is_token parts.0 && list_all is_value_byte parts.1 then Some (parts.0, trim_ows parts.1) else None

abbrev pub field_line : List ℕ → Option FieldLine
field_line line = option_and_then field_with (cut_at 58 line)

abbrev pub add_field : Option FieldLine → Option (List FieldLine) → Option (List FieldLine)
add_field None fields = None
add_field (Some field) None = None
add_field (Some field) (Some fields) = Some (field ∷ fields)

abbrev pub no_fields : List ℕ → Option (List FieldLine)
no_fields [] = Some []
no_fields (b ∷ line) = None

-- field lines, and the empty line that ends a head
abbrev pub field_lines : List (List ℕ) → Option (List FieldLine)
field_lines [] = None
field_lines (line ∷ []) = no_fields line
field_lines (line ∷ next ∷ lines) = add_field (field_line line) (field_lines (next ∷ lines))

-- ---- heads

abbrev pub field_limit : ℕ
field_limit = 32

abbrev pub head_with : RequestLine → List FieldLine → Option Head
head_with line fields =
    if nat_le (length fields) field_limit
    then Some (record { method = line.method; target = line.target; minor = line.minor; fields = fields })
    else None

-- empty lines in front of the request line are passed over (RFC 9112, section 2.2)
abbrev pub head_in : List (List ℕ) → Option Head
head_in [] = None
head_in ([] ∷ lines) = head_in lines
head_in ((b ∷ line) ∷ lines) = option_and_then (λ first. option_and_then (head_with first) (field_lines lines)) (request_line (b ∷ line))

-- the head that all of these bytes are, of at most 32 field lines
unfoldable pub head_of : List ℕ → Option Head
head_of bytes = option_and_then head_in (text_lines bytes)
