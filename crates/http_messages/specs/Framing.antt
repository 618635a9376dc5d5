-- What the field lines of a head say of its body and of the connection. A name counts in any case of its letters (RFC 9110, section
-- 5.1). A body has the length that `Content-Length` gives (RFC 9112, section 6.2); this project takes no `Transfer-Encoding`
-- (section 6.1), no second `Content-Length`, and at most 9 digits. After a request of HTTP/1.0, after one by HEAD, and after one
-- with `Connection: close`, the connection ends (section 9.6; persistence in HTTP/1.0 is not taken up).
use Rattle.std.specs.Prelude.{ℕ, ◌==◌, ◌&&◌, ◌||◌, nat_le, List, [], ◌∷◌, length, map, filter, codes, Bool, true, false, if◌then◌else◌}
use Rattle.std.specs.List.{list_all, list_any}
use Rattle.std.specs.Char.{is_ascii_digit}
use Rattle.std.specs.Str.{bytes_eq, str_eq_ignore_ascii_case}
use Rattle.std.specs.Str.Parse.{digits_value}
use Rattle.http_messages.specs.declared.head.BodyLength.{BodyLength}
use Rattle.http_messages.specs.declared.head.BodyLength.TheVariants.{Absent, Bad, Given}
use Rattle.http_messages.specs.Heads.{FieldLine, Head}

abbrev pub has_name : List ℕ → FieldLine → Bool
has_name name field = str_eq_ignore_ascii_case field.0 name

-- the values of the field lines of a name, in their order
abbrev pub values_of : List ℕ → List FieldLine → List (List ℕ)
values_of name fields = map (λ field. field.1) (filter (has_name name) fields)

-- ---- the body's length

-- 1 to 9 digits
abbrev pub is_length : List ℕ → Bool
is_length value = nat_le 1 (length value) && nat_le (length value) 9 && list_all is_ascii_digit value

abbrev pub length_in : List (List ℕ) → BodyLength
length_in [] = Absent
length_in (value ∷ []) = if is_length value then Given (digits_value 10 value) else Bad
length_in (value ∷ other ∷ values) = Bad

abbrev pub is_empty : List (List ℕ) → Bool
is_empty [] = true
is_empty (value ∷ values) = false

abbrev pub body_length : Head → BodyLength
body_length head =
    if is_empty (values_of (codes "Transfer-Encoding") head.fields) then length_in (values_of (codes "Content-Length") head.fields)
    else Bad

-- ---- the end of a connection

abbrev pub is_close : List ℕ → Bool
is_close value = str_eq_ignore_ascii_case value (codes "close")

-- Whoever asks by HEAD takes no body from the answer (RFC 9110, 9.3.2), and would take that of a refusal for the next answer.
abbrev pub asks_head : Head → Bool
asks_head head = bytes_eq head.method (codes "HEAD")

-- nothing is read after this request
abbrev pub closes : Head → Bool
closes head = head.minor == 0 || asks_head head || list_any is_close (values_of (codes "Connection") head.fields)
