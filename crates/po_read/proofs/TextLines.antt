-- Reading line by line: what is left of a text gives what the whole text gives.
use Rattle.std.proofs.Common.{◌≡◌, ℕ, ◌+◌, ◌≤◌, List, [], ◌∷◌, ◌++◌, Bool, true, false, cond, map, length, refl, sym, ◌∙◌, ap, subst, Some, None, Result, Ok, Err, ◌⊎◌, inl, inr, arith, suc, ◌==◌}
use Rattle.std.specs.Prelude.{IsUtf8}
use Rattle.std.specs.List.{fold, AllByRecursion}
use Rattle.po_lex.specs.declared.fault.FaultKind.{FaultKind}
use Rattle.po_lex.specs.declared.fault.FaultKind.TheVariants as kinds
use Rattle.po_lex.specs.Lines.{Line, line_of, lines_of, with_byte}
use Rattle.po_lex.specs.PlainTokens.{Rest, IsNext, Tells, plain_line}
use Rattle.po_lex.specs.declared.line.Token.{Token}
use Rattle.po_lex.specs.declared.fault.PoFault.{PoFault}
use Rattle.po_read.specs.ReaderAnswers.{IsMemory, PassesBefore}
use Rattle.po_text.specs.declared.entry.Entry.{Entry}
use Rattle.po_read.specs.declared.reading.Reader.{Reader}
use Rattle.po_read.specs.Spells.{limits}
use Rattle.po_read.specs.Faults.{Lines, no_lines, add_line, lines_behind, line_fault, Passes, fault_at_end, or_later, fault_from}
use Rattle.po_read.specs.Plain.{entry_of, groups_of, entries_of}
use Rattle.po_read.specs.Drafts.{IsSoundLine}
use Rattle.po_read.specs.SoFar.{Reads, HandsOn}
use Rattle.po_read.proofs.Leaves.{lines_utf8, line_sound}

-- there are no more lines than bytes
with_byte_len : (b : ℕ) (lines : List (List ℕ)) (n : ℕ) → length lines ≤ n → length (with_byte b lines) ≤ n + 1
with_byte_len b [] n h = omega arith
with_byte_len b (line ∷ lines) n h = omega arith

pub lines_len : (bytes : List ℕ) → length (lines_of bytes) ≤ length bytes
unfolding lines_of
lines_len [] = omega arith
lines_len (b ∷ bytes) = by (b == 10) (lines_len bytes)
  where
    by : (t : Bool) → length (lines_of bytes) ≤ length bytes → length (cond t ([] ∷ lines_of bytes) (with_byte b (lines_of bytes))) ≤ suc (length bytes)
    by true h = omega arith
    by false h = let n = with_byte_len b (lines_of bytes) (length bytes) h in omega arith

-- ---- the state of a reader before the lines that are left

pub record Going (text : List ℕ) (reader : Reader) (rest : List ℕ) (line : ℕ) : Type 0 where
  pub lines : Lines
  pub reads : Reads reader lines
  pub faults : fault_from limits 1 no_lines (lines_of text) ≡ fault_from limits line lines (lines_of rest)
  pub behind : lines_behind (lines_of text) ≡ fold add_line lines (map line_of (lines_of rest))
  pub few : line + length (lines_of rest) ≤ length text + 1
  pub utf8 : AllByRecursion (λ t. IsUtf8 t) (lines_of rest)
  -- whatever front of what is left passes, a reader gets to the line behind it
  pub reached : (front behind : List (List ℕ)) → lines_of rest ≡ front ++ behind → Passes limits lines front → PassesBefore limits (lines_of text) (length front + line)

pub begin : (text : List ℕ) (reader : Reader) → IsUtf8 text → Reads reader no_lines → Going text reader text 1
begin text reader u h = record { lines = no_lines; reads = h; faults = refl; behind = refl; few = (let n = lines_len text in omega arith); utf8 = lines_utf8 text u; reached = λ front behind cut passes. record { front = front; rest = behind; cut = cut; passes = passes; is = refl } }

-- the next line, and what is left
abbrev Cut : List ℕ → List ℕ → List ℕ → Type 0
Cut rest line more = lines_of rest ≡ line ∷ lines_of more

first_utf8 : (text : List ℕ) (reader : Reader) (rest line more : List ℕ) (n : ℕ) → Going text reader rest n → Cut rest line more → IsUtf8 line × AllByRecursion (λ t. IsUtf8 t) (lines_of more)
first_utf8 text reader rest line more n g cut = subst (λ (ls : List (List ℕ)). AllByRecursion (λ t. IsUtf8 t) ls) cut g.utf8

pub sound_here : (text : List ℕ) (reader : Reader) (rest line more : List ℕ) (n : ℕ) (l : Line) → Going text reader rest n → Cut rest line more → line_of line ≡ Ok l → IsSoundLine l
sound_here text reader rest line more n l g cut e = line_sound line l (first_utf8 text reader rest line more n g cut).0 e

faults_here : (text : List ℕ) (reader : Reader) (rest line more : List ℕ) (n : ℕ) → (g : Going text reader rest n) → Cut rest line more
    → fault_from limits 1 no_lines (lines_of text) ≡ or_later n (line_fault limits g.lines (line_of line)) (fault_from limits (n + 1) (add_line g.lines (line_of line)) (lines_of more))
unfolding fault_from
faults_here text reader rest line more n g cut = g.faults ∙ ap (fault_from limits n g.lines) cut

pub fault_here : (text : List ℕ) (reader : Reader) (rest line more : List ℕ) (n : ℕ) (kind : FaultKind) → (g : Going text reader rest n) → Cut rest line more → line_fault limits g.lines (line_of line) ≡ Some kind → fault_from limits 1 no_lines (lines_of text) ≡ Some (n, kind)
fault_here text reader rest line more n kind g cut e = faults_here text reader rest line more n g cut ∙ ap (λ o. or_later n o (fault_from limits (n + 1) (add_line g.lines (line_of line)) (lines_of more))) e

pub go_on : (text : List ℕ) (reader new : Reader) (rest line more : List ℕ) (n : ℕ) (l : Line) → (g : Going text reader rest n) → Cut rest line more → line_of line ≡ Ok l → (line_fault limits g.lines (Ok l) ≡ None) × Reads new (add_line g.lines (Ok l)) → Going text new more (n + 1)
go_on text reader new rest line more n l g cut e h = record {
  lines = add_line g.lines (line_of line);
  reads = subst (λ (o : Result Line FaultKind). Reads new (add_line g.lines o)) (sym e) h.1;
  faults = faults_here text reader rest line more n g cut ∙ ap (λ o. or_later n o (fault_from limits (n + 1) (add_line g.lines (line_of line)) (lines_of more))) (ap (line_fault limits g.lines) e ∙ h.0);
  behind = g.behind ∙ ap (λ (ls : List (List ℕ)). fold add_line g.lines (map line_of ls)) cut;
  few = (let c : length (lines_of rest) ≡ length (line ∷ lines_of more) = ap length cut in let f = g.few in omega arith);
  utf8 = (first_utf8 text reader rest line more n g cut).1;
  reached = λ front behind c passes.
      let none : line_fault limits g.lines (line_of line) ≡ None = ap (line_fault limits g.lines) e ∙ h.0 in
      let same : length (line ∷ front) + n ≡ length front + (n + 1) = omega arith in
      subst (λ (k : ℕ). PassesBefore limits (lines_of text) k) same (g.reached (line ∷ front) behind (cut ∙ ap (λ (ls : List (List ℕ)). line ∷ ls) c) (none, passes));
}

-- the next line
pub reached_here : (text : List ℕ) (reader : Reader) (rest : List ℕ) (n : ℕ) → Going text reader rest n → PassesBefore limits (lines_of text) n
reached_here text reader rest n g =
    let same : length (let none : List (List ℕ) = [] in none) + n ≡ n = omega arith in
    subst (λ (k : ℕ). PassesBefore limits (lines_of text) k) same (g.reached [] (lines_of rest) refl tt)

pub room : (text : List ℕ) (reader : Reader) (rest line more : List ℕ) (n : ℕ) → Going text reader rest n → Cut rest line more → n ≤ length text
room text reader rest line more n g cut = let c : length (lines_of rest) ≡ length (line ∷ lines_of more) = ap length cut in let f = g.few in omega arith

-- at the end
ended_faults : (text : List ℕ) (reader : Reader) (rest : List ℕ) (n : ℕ) → (g : Going text reader rest n) → lines_of rest ≡ [] → fault_from limits 1 no_lines (lines_of text) ≡ or_later n (fault_at_end g.lines) None
unfolding fault_from
ended_faults text reader rest n g none = g.faults ∙ ap (fault_from limits n g.lines) none

pub fault_at_last : (text : List ℕ) (reader : Reader) (rest : List ℕ) (n : ℕ) (kind : FaultKind) → (g : Going text reader rest n) → lines_of rest ≡ [] → fault_at_end g.lines ≡ Some kind → fault_from limits 1 no_lines (lines_of text) ≡ Some (n, kind)
fault_at_last text reader rest n kind g none e = ended_faults text reader rest n g none ∙ ap (λ o. or_later n o None) e

pub read_whole : (text : List ℕ) (reader : Reader) (rest : List ℕ) (n : ℕ) (entries : List Entry) → (g : Going text reader rest n) → lines_of rest ≡ [] → (fault_at_end g.lines ≡ None) × (entries ≡ map entry_of (groups_of g.lines)) → (fault_from limits 1 no_lines (lines_of text) ≡ None) × (entries ≡ entries_of text)
unfolding entries_of
read_whole text reader rest n entries g none h = (
  ended_faults text reader rest n g none ∙ ap (λ o. or_later n o None) h.0,
  h.1 ∙ ap (λ (s : Lines). map entry_of (groups_of s)) (sym (g.behind ∙ ap (λ (ls : List (List ℕ)). fold add_line g.lines (map line_of ls)) none)),
)

-- ---- as a reader is told the lines

token_read : (old new : Rest) (told : Result Token PoFault) (token : Token) → (n : IsNext old new told) → told ≡ Ok token → line_of n.line ≡ Ok (plain_line token.line)
token_read old new told token n e = let t : Tells n.line old.number (Ok token) = subst (λ (r : Result Token PoFault). Tells n.line old.number r) e n.tells in t.1

pub token_sound : (text : List ℕ) (reader : Reader) (old new : Rest) (told : Result Token PoFault) (token : Token) (n : ℕ) → Going text reader old.text n → IsNext old new told → told ≡ Ok token → IsSoundLine (plain_line token.line)
token_sound text reader old new told token n g next e = sound_here text reader old.text next.line new.text n (plain_line token.line) g next.cut (token_read old new told token next e)

pub token_fault : (text : List ℕ) (reader : Reader) (old new : Rest) (told : Result Token PoFault) (fault : PoFault) (n : ℕ) → Going text reader old.text n → n ≡ old.number → IsNext old new told → told ≡ Err fault
    → (fault_from limits 1 no_lines (lines_of text) ≡ Some (fault.line, fault.kind)) ⊎ IsMemory fault
token_fault text reader old new told fault n g number next e =
    let t : Tells next.line old.number (Err fault) = subst (λ (r : Result Token PoFault). Tells next.line old.number r) e next.tells in
    inl (fault_here text reader old.text next.line new.text n fault.kind g next.cut (ap (line_fault limits g.lines) t.1) ∙ ap (λ (k : ℕ). Some (k, fault.kind)) (number ∙ sym t.0))

pub token_reached : (text : List ℕ) (reader : Reader) (old new : Rest) (told : Result Token PoFault) (fault : PoFault) (n : ℕ) → Going text reader old.text n → n ≡ old.number → IsNext old new told → told ≡ Err fault → PassesBefore limits (lines_of text) fault.line
token_reached text reader old new told fault n g number next e =
    let t : Tells next.line old.number (Err fault) = subst (λ (r : Result Token PoFault). Tells next.line old.number r) e next.tells in
    subst (λ (k : ℕ). PassesBefore limits (lines_of text) k) (number ∙ sym t.0) (reached_here text reader old.text n g)

pub line_told : (text : List ℕ) (reader : Reader) (old new : Rest) (told : Result Token PoFault) (token : Token) (n : ℕ) (kind : FaultKind) → Going text reader old.text n → IsNext old new told → told ≡ Ok token
    → ((lines : Lines) → Reads reader lines → (line_fault limits lines (Ok (plain_line token.line)) ≡ Some kind) ⊎ (kind ≡ kinds.Memory)) → (fault_from limits 1 no_lines (lines_of text) ≡ Some (n, kind)) ⊎ (kind ≡ kinds.Memory)
line_told text reader old new told token n kind g next e h = by (h g.lines g.reads)
  where
    by : (line_fault limits g.lines (Ok (plain_line token.line)) ≡ Some kind) ⊎ (kind ≡ kinds.Memory) → (fault_from limits 1 no_lines (lines_of text) ≡ Some (n, kind)) ⊎ (kind ≡ kinds.Memory)
    by (inl f) = inl (fault_here text reader old.text next.line new.text n kind g next.cut (ap (line_fault limits g.lines) (token_read old new told token next e) ∙ f))
    by (inr m) = inr m

-- and a sink took the entries of the lines so far
pub record Handing {S : Type 0} (Took : S → List Entry → S → Type 0) (first : S) (text : List ℕ) (reader : Reader) (sink : S) (rest : List ℕ) (line : ℕ) : Type 0 where
  pub going : Going text reader rest line
  pub took : Took first (map entry_of going.lines.whole) sink

pub hand_none : {S : Type 0} (Took : S → List Entry → S → Type 0) → ((s : S) → Took s [] s) → (first : S) (text : List ℕ) (reader : Reader) → IsUtf8 text → Reads reader no_lines → Handing Took first text reader first text 1
unfolding begin
hand_none Took none first text reader u h = record { going = begin text reader u h; took = none first }

pub token_next : {S : Type 0} (Took : S → List Entry → S → Type 0) (first sink sink' : S) (text : List ℕ) (reader reader' : Reader) (old new : Rest) (told : Result Token PoFault) (token : Token) (n : ℕ) → Handing Took first text reader sink old.text n → IsNext old new told → told ≡ Ok token
    → ((first : S) (lines : Lines) → HandsOn Took first reader sink lines → (line_fault limits lines (Ok (plain_line token.line)) ≡ None) × HandsOn Took first reader' sink' (add_line lines (Ok (plain_line token.line)))) → Handing Took first text reader' sink' new.text (n + 1)
unfolding go_on
token_next Took first sink sink' text reader reader' old new told token n w next e h =
    let g = w.going in
    let is = token_read old new told token next e in
    let now = h first g.lines (record { reads = g.reads; took = w.took }) in
    record {
      going = go_on text reader reader' old.text next.line new.text n (plain_line token.line) g next.cut is (now.0, now.1.reads);
      took = subst (λ (o : Result Line FaultKind). Took first (map entry_of (add_line g.lines o).whole) sink') (sym is) now.1.took;
    }

pub handed_whole : {S : Type 0} (Took : S → List Entry → S → Type 0) (first sink sink' : S) (text : List ℕ) (reader : Reader) (rest : List ℕ) (n : ℕ) → Handing Took first text reader sink rest n → lines_of rest ≡ []
    → ((first : S) (lines : Lines) → HandsOn Took first reader sink lines → (fault_at_end lines ≡ None) × Took first (map entry_of (groups_of lines)) sink') → (fault_from limits 1 no_lines (lines_of text) ≡ None) × Took first (entries_of text) sink'
handed_whole Took first sink sink' text reader rest n w none h =
    let g = w.going in
    let now = h first g.lines (record { reads = g.reads; took = w.took }) in
    let whole = read_whole text reader rest n (map entry_of (groups_of g.lines)) g none (now.0, refl) in
    (whole.0, subst (λ (es : List Entry). Took first es sink') whole.1 now.1)

pub end_of_text : (text : List ℕ) (reader : Reader) (rest : List ℕ) (n : ℕ) (kind : FaultKind) → Going text reader rest n → lines_of rest ≡ [] → ((lines : Lines) → Reads reader lines → (fault_at_end lines ≡ Some kind) ⊎ (kind ≡ kinds.Memory))
    → (fault_from limits 1 no_lines (lines_of text) ≡ Some (n, kind)) ⊎ (kind ≡ kinds.Memory)
end_of_text text reader rest n kind g none h = by (h g.lines g.reads)
  where
    by : (fault_at_end g.lines ≡ Some kind) ⊎ (kind ≡ kinds.Memory) → (fault_from limits 1 no_lines (lines_of text) ≡ Some (n, kind)) ⊎ (kind ≡ kinds.Memory)
    by (inl f) = inl (fault_at_last text reader rest n kind g none f)
    by (inr m) = inr m
