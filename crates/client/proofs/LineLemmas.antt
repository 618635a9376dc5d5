-- Lines of a text, and requests of lines.
use Rattle.std.proofs.Common.{◌≡◌, ℕ, zero, suc, ◌+◌, ◌-◌, ◌<◌, ◌==◌, List, [], ◌∷◌, ◌++◌, take, drop, length, Bool, true, false, refl, sym, ap, ◌∙◌, append_assoc, append-nil, add-one, arith, length-drop}
use Rattle.std.proofs.lemmas.List.{take_all, drop_all}
use Rattle.memchr.specs.Find.{Nowhere, NoneBefore, Passes, is_byte}
use Rattle.po_text.specs.Texts.{Text}
use Rattle.request_book.specs.declared.act.Request.{Request}
use Rattle.client.specs.declared.fault.SendFault.{SendFault}
use Rattle.client.specs.declared.fault.SendFault.TheVariants.{Unread, Malformed, Twice, Memory}
use Rattle.client.specs.Lists.{in_front, lines_of, IsRequestLine, AreRequests}
use Rattle.client.specs.TalkSteps.{Pushed, IsLineFault, IsLinesFault}

-- ---- the first line

later : (byte n : ℕ) (text : Text) → Nowhere (Passes (is_byte 10) (byte ∷ text)) 0 (suc n) → Nowhere (Passes (is_byte 10) text) 0 n
later byte n text none k low high is = none (suc k) (omega arith) (omega arith) is

in_front_of : (byte : ℕ) (text : Text) (lines : List Text) → ((byte == 10) ≡ true → ⊥) → in_front byte (lines_of text) ≡ lines → lines_of (byte ∷ text) ≡ lines
in_front_of byte text lines other is = by (byte == 10) refl where
  by : (t : Bool) → (byte == 10) ≡ t → lines_of (byte ∷ text) ≡ lines
  by true e = absurd (other e)
  by false e = rw e is

ended : (text : Text) (n : ℕ) → n < length text → Nowhere (Passes (is_byte 10) text) 0 n → Passes (is_byte 10) text n → lines_of text ≡ take n text ∷ lines_of (drop (suc n) text)
ended [] n high none is = absurd (omega arith)
ended (byte ∷ text) zero high none is = rw is refl
ended (byte ∷ text) (suc n) high none is =
    in_front_of byte text (take (suc n) (byte ∷ text) ∷ lines_of (drop (suc (suc n)) (byte ∷ text))) (none zero (omega arith) (omega arith))
    (ap (in_front byte) (ended text n (omega arith) (later byte n text none) is))

unended : (byte : ℕ) (text : Text) → Nowhere (Passes (is_byte 10) (byte ∷ text)) 0 (length (byte ∷ text)) → lines_of (byte ∷ text) ≡ (byte ∷ text) ∷ []
unended byte [] none = in_front_of byte [] ((byte ∷ []) ∷ []) (none zero (omega arith) (omega arith)) refl
unended byte (next ∷ text) none =
    in_front_of byte (next ∷ text) ((byte ∷ next ∷ text) ∷ []) (none zero (omega arith) (omega arith))
    (ap (in_front byte) (unended next text (later byte (length (next ∷ text)) (next ∷ text) none)))

pub behind_of : (text : Text) (n : ℕ) → take (length text - n) (drop n text) ≡ drop n text
behind_of text n = take_all (length text - n) (drop n text) (simp length-drop (omega arith))

-- a line with its end
pub line_ended : (text : Text) (n : ℕ) → NoneBefore (Passes (is_byte 10) text) 0 (length text) n → Passes (is_byte 10) text n →
    (lines_of text ≡ take n text ∷ lines_of (take (length text - (n + 1)) (drop (n + 1) text))) × (length (take (length text - (n + 1)) (drop (n + 1) text)) < length text)
line_ended text n first is =
    let high : n < length text = first.high in
    (rw (behind_of text (n + 1), add-one n) (ended text n high first.before is), rw (behind_of text (n + 1)) (simp length-drop (omega arith)))

-- the last line has none
pub line_unended : (text : Text) → (length text == 0) ≡ false → Nowhere (Passes (is_byte 10) text) 0 (length text) →
    (lines_of text ≡ text ∷ lines_of (take (length text - length text) (drop (length text) text))) × (length (take (length text - length text) (drop (length text) text)) < length text)
line_unended [] some none = let differs : true ≡ false = some in cc
line_unended (byte ∷ text) some none =
    let nothing : take (length (byte ∷ text) - length (byte ∷ text)) (drop (length (byte ∷ text)) (byte ∷ text)) ≡ [] = behind_of (byte ∷ text) (length (byte ∷ text)) ∙ drop_all (length (byte ∷ text)) (byte ∷ text) (omega arith) in
    (unended byte text none ∙ ap (λ rest. (byte ∷ text) ∷ lines_of rest) (sym nothing), rw nothing (omega arith))

-- ---- requests

pub record Along (text rest : Text) (requests : List Request) : Type 0 where
  pub front : List Text
  pub are : AreRequests front requests
  pub cut : lines_of text ≡ front ++ lines_of rest

pub none_read : (text : Text) → Along text text []
none_read text = record { front = []; are = tt; cut = refl }

one_more : (lines : List Text) (requests : List Request) (line : Text) (request : Request) → AreRequests lines requests → IsRequestLine line request → AreRequests (lines ++ line ∷ []) (requests ++ request ∷ [])
one_more [] [] line request are is = (is, tt)
one_more [] (r ∷ rs) line request are is = absurd are
one_more (l ∷ ls) [] line request are is = absurd are
one_more (l ∷ ls) (r ∷ rs) line request are is = (are.0, one_more ls rs line request are.1 is)

as_many : (lines : List Text) (requests : List Request) → AreRequests lines requests → length lines ≡ length requests
as_many [] [] are = refl
as_many [] (r ∷ rs) are = absurd are
as_many (l ∷ ls) [] are = absurd are
as_many (l ∷ ls) (r ∷ rs) are = ap suc (as_many ls rs are.1)

pub one_read : (text rest line behind : Text) (old new : List Request) → Along text rest old → lines_of rest ≡ line ∷ lines_of behind → Pushed line old new → Along text behind new
one_read text rest line behind old new along first pushed = record {
  front = along.front ++ line ∷ [];
  are = rw pushed.put (one_more along.front old line pushed.request along.are pushed.is);
  cut = along.cut ∙ ap (λ lines. along.front ++ lines) first ∙ sym (append_assoc along.front (line ∷ []) (lines_of behind));
}

pub all_read : (text rest : Text) (requests : List Request) → Along text rest requests → lines_of rest ≡ [] → AreRequests (lines_of text) requests
all_read text rest requests along none =
    let same : lines_of text ≡ along.front = along.cut ∙ ap (λ lines. along.front ++ lines) none ∙ append-nil along.front in
    rw same along.are

-- a line that gave no request
pub none_given : (text rest line behind : Text) (requests : List Request) (fault : SendFault) → Along text rest requests → lines_of rest ≡ line ∷ lines_of behind → IsLineFault line requests fault → IsLinesFault (lines_of text) fault
none_given text rest line behind requests Unread along first is = is
none_given text rest line behind requests Twice along first is = is
none_given text rest line behind requests Memory along first is = tt
none_given text rest line behind requests (Malformed number) along first is = record {
  front = along.front;
  requests = requests;
  are = along.are;
  line = line;
  behind = lines_of behind;
  cut = along.cut ∙ ap (λ lines. along.front ++ lines) first;
  is = is.1;
  place = is.0 ∙ ap (λ n. n + 1) (sym (as_many along.front requests along.are));
}
