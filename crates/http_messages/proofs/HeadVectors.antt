-- The definitions at texts that are written out.
use Rattle.std.proofs.Common.{◌≡◌, ℕ, List, [], ◌∷◌, Some, None, true, false, length, refl}
use Rattle.std.specs.Prelude.{codes}
use Rattle.std.specs.Str.{is_utf8, chars}
use lib.Utf8.{encode}
use Rattle.httparse.proofs.OnLiterals.{httparse_on_literals}
use Rattle.http_messages.specs.declared.head.BodyLength.TheVariants.{Bad, Given}
use Rattle.http_messages.specs.Cut.{head_cut}
use Rattle.http_messages.specs.Heads.{Head, head_of}
use Rattle.http_messages.specs.Framing.{length_in, body_length, closes}

-- ---- where a head ends

cut_crlf : head_cut (codes "a\r\n\r\nb") ≡ Some (codes "a\r\n\r\n")
unfolding head_cut
cut_crlf = refl

cut_lf : head_cut (codes "a\n\nb") ≡ Some (codes "a\n\n")
unfolding head_cut
cut_lf = refl

cut_mixed : head_cut (codes "a\n\r\nb") ≡ Some (codes "a\n\r\n")
unfolding head_cut
cut_mixed = refl

-- two empty lines are no head
cut_two_empty : head_cut (codes "\r\n\r\nGET") ≡ Some (codes "\r\n\r\n")
unfolding head_cut
cut_two_empty = refl

cut_none : head_cut (codes "a\r\n\r") ≡ None
unfolding head_cut
cut_none = refl

-- ---- what a head says

-- the head of the worked stream
abbrev post : List ℕ
post = codes "POST /v1/requests/00000000-0000-4000-8000-000000000001 HTTP/1.1\r\nX-Office-Caller: ann\r\nContent-Length: 71\r\n\r\n"

abbrev post_head : Head
post_head = record {
  method = codes "POST";
  target = codes "/v1/requests/00000000-0000-4000-8000-000000000001";
  minor = 1;
  fields = (codes "X-Office-Caller", codes "ann") ∷ (codes "Content-Length", codes "71") ∷ [];
}

post_bytes : length post ≡ 109
post_bytes = refl

post_said : head_of post ≡ Some post_head
unfolding head_of httparse_on_literals is_utf8 chars encode
post_said = refl

post_length : body_length post_head ≡ Given 71
post_length = refl

post_goes_on : closes post_head ≡ false
post_goes_on = refl

-- an empty line in front, lines that end with LF alone, white space around a value
old : head_of (codes "\nGET / HTTP/1.0\nA: \t b c \n\n") ≡ Some (record { method = codes "GET"; target = codes "/"; minor = 0; fields = (codes "A", codes "b c") ∷ [] })
unfolding head_of httparse_on_literals is_utf8 chars encode
old = refl

two_spaces : head_of (codes "GET  / HTTP/1.1\r\n\r\n") ≡ None
unfolding head_of httparse_on_literals is_utf8 chars encode
two_spaces = refl

other_version : head_of (codes "GET / HTTP/2.0\r\n\r\n") ≡ None
unfolding head_of httparse_on_literals is_utf8 chars encode
other_version = refl

folded : head_of (codes "GET / HTTP/1.1\r\nA: b\r\n c\r\n\r\n") ≡ None
unfolding head_of httparse_on_literals is_utf8 chars encode
folded = refl

-- ---- lengths

length_plus : length_in (codes "+7" ∷ []) ≡ Bad
length_plus = refl

length_long : length_in (codes "1234567890" ∷ []) ≡ Bad
length_long = refl

length_nine : length_in (codes "123456789" ∷ []) ≡ Given 123456789
length_nine = refl

length_empty : length_in ([] ∷ []) ≡ Bad
length_empty = refl

length_twice : length_in (codes "1" ∷ codes "1" ∷ []) ≡ Bad
length_twice = refl

-- names and `close` in any case
small_letters : body_length (record { method = codes "GET"; target = codes "/"; minor = 1; fields = (codes "content-LENGTH", codes "3") ∷ (codes "connection", codes "Close") ∷ [] }) ≡ Given 3
small_letters = refl

small_close : closes (record { method = codes "GET"; target = codes "/"; minor = 1; fields = (codes "connection", codes "Close") ∷ [] }) ≡ true
small_close = refl

chunked : body_length (record { method = codes "GET"; target = codes "/"; minor = 1; fields = (codes "Transfer-Encoding", codes "chunked") ∷ (codes "Content-Length", codes "3") ∷ [] }) ≡ Bad
chunked = refl
