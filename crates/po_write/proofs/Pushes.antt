-- What a caller that pushes a list of entries concludes: the sink takes the text of the list, or a beginning of it.
use Rattle.std.proofs.Common.{◌≡◌, List, [], ◌∷◌, ◌++◌, ℕ, ◌+◌, ◌<◌, ◌≤◌, Bool, true, false, not, Option, refl, sym, ◌∙◌, ap, append_assoc, subst, length, drop, get_or, nat_lt, arith}
use Rattle.std.specs.Prelude.{flat_map}
use Rattle.std.proofs.lemmas.List.{append-nil}
use Rattle.byte_streams.specs.Streams.{Took, TookBeginning, RoseOrStands}
use Rattle.byte_streams.proofs.Taking.{append_known-nil, took_both, took_then_beginning, beginning_of_longer}
use Rattle.byte_streams.proofs.Sent.{all_gone}
use Rattle.po_text.specs.declared.entry.Entry.{Entry}
use Rattle.po_text.specs.Texts.{is_empty}
use Rattle.po_write.specs.Pushed.{HasPushed, HasBroken}
use Rattle.byte_streams.specs.Sending.{TookAll, TookPart}
use Rattle.po_write.specs.Text.{entry_text, text_of, separated}
use Rattle.po_write.specs.Writing.{Writing}
use Rattle.po_write.proofs.Pieces.{next_left}

-- The text of a list with one more entry is the text, a blank line where there was an entry, and the entry.
pub text_of-snoc : (es : List Entry) (e : Entry) → text_of (es ++ e ∷ []) ≡ text_of es ++ separated (not (is_empty es)) (entry_text e)
unfolding text_of
text_of-snoc [] e = refl
text_of-snoc (f ∷ []) e = refl
text_of-snoc (f ∷ g ∷ es) e =
    ap (λ text. entry_text f ++ 10 ∷ text) (text_of-snoc (g ∷ es) e)
    ∙ sym (append_assoc (entry_text f) (10 ∷ text_of (g ∷ es)) (10 ∷ entry_text e))

-- The text of a list is a beginning of the text of a longer one.
pub text_of-append : (es fs : List Entry) → (behind : List ℕ) × (text_of (es ++ fs) ≡ text_of es ++ behind)
unfolding text_of
text_of-append [] fs = (text_of fs, refl)
text_of-append (e ∷ []) [] = ([], sym (append-nil (entry_text e)))
text_of-append (e ∷ []) (f ∷ fs) = (10 ∷ text_of (f ∷ fs), refl)
text_of-append (e ∷ f ∷ es) fs =
    let longer = text_of-append (f ∷ es) fs in
    (longer.0, ap (λ text. entry_text e ++ 10 ∷ text) longer.1 ∙ sym (append_assoc (entry_text e) (10 ∷ text_of (f ∷ es)) longer.0))

-- The text of a list is that of its first entry, and each other one behind a blank line.
abbrev pub behind_others : List Entry → List ℕ
behind_others es = flat_map (λ e. separated true (entry_text e)) es

pub text_of-cons : (e : Entry) (es : List Entry) → text_of (e ∷ es) ≡ entry_text e ++ behind_others es
unfolding text_of
text_of-cons e [] = sym (append-nil (entry_text e))
text_of-cons e (f ∷ es) = ap (λ text. entry_text e ++ 10 ∷ text) (text_of-cons f es)

-- what is left to write of a list, behind others or not
abbrev pub left_of : Bool → List Entry → List ℕ
left_of true es = behind_others es
left_of false es = text_of es

next_of : (begun : Bool) (e : Entry) (es : List Entry) → left_of begun (e ∷ es) ≡ separated begun (entry_text e) ++ left_of true es
next_of true e es = refl
next_of false e es = text_of-cons e es

pub entry_left : (es : List Entry) (i : ℕ) (e : Entry) → i < length es → e ≡ get_or es i e → left_of (nat_lt 0 i) (drop i es) ≡ separated (nat_lt 0 i) (entry_text e) ++ left_of (nat_lt 0 (i + 1)) (drop (i + 1) es)
entry_left es i e within is =
    ap (left_of (nat_lt 0 i)) (next_left es i e e within is refl) ∙ next_of (nat_lt 0 i) e (drop (i + 1) es)
    ∙ ap (λ begun. separated (nat_lt 0 i) (entry_text e) ++ left_of begun (drop (i + 1) es)) (let more : true ≡ nat_lt 0 (i + 1) = grind arith in more)

pub no_entry_left : (es : List Entry) (i : ℕ) → length es ≤ i → left_of (nat_lt 0 i) (drop i es) ≡ []
unfolding text_of
no_entry_left es i past = ap (left_of (nat_lt 0 i)) (all_gone es i past) ∙ nothing (nat_lt 0 i)
  where
    nothing : (begun : Bool) → left_of begun [] ≡ []
    nothing true = refl
    nothing false = refl

-- One more entry was pushed.
pub pushed_one_more : (start now new : Option (List ℕ)) (begun : Bool) (es : List Entry) (e : Entry) → begun ≡ not (is_empty es)
    → Took start now (text_of es) → Took now new (separated begun (entry_text e)) → Took start new (text_of (es ++ e ∷ []))
pushed_one_more start now new begun es e same before pushed =
    let P : List ℕ → Type 0 = λ text. Took start new text in
    subst P (ap (λ b. text_of es ++ separated b (entry_text e)) same ∙ sym (text_of-snoc es e))
    (took_both start now new (text_of es) (separated begun (entry_text e)) before pushed)

-- A push failed: a beginning came of the text of any list that goes on with its entry.
pub push_broke : (start now new : Option (List ℕ)) (begun : Bool) (es : List Entry) (e : Entry) (fs : List Entry) → begun ≡ not (is_empty es)
    → Took start now (text_of es) → TookBeginning now new (separated begun (entry_text e)) → TookBeginning start new (text_of (es ++ e ∷ fs))
push_broke start now new begun es e fs same before part =
    let P : List ℕ → Type 0 = λ text. TookBeginning start new text in
    let longer = text_of-append (es ++ e ∷ []) fs in
    subst P (sym (ap text_of (sym (append_assoc es (e ∷ []) fs)) ∙ longer.1))
    (beginning_of_longer start new (text_of (es ++ e ∷ [])) longer.0
    (subst P (ap (λ b. text_of es ++ separated b (entry_text e)) same ∙ sym (text_of-snoc es e))
    (took_then_beginning start now new (text_of es) (separated begun (entry_text e)) before part)))

-- ---- a writer that entries are pushed onto

has_entry : (es : List Entry) (e : Entry) → true ≡ not (is_empty (es ++ e ∷ []))
has_entry [] e = refl
has_entry (f ∷ es) e = refl

-- nothing was pushed
pub pushed_nothing : {W : Type 0} (taken : W → Option (List ℕ)) (failed : W → ℕ) (sink : W) (writer : Writing W) → writer ≡ record { sink = sink; begun = false; failed = false } → HasPushed taken failed sink writer []
unfolding text_of
pushed_nothing taken failed sink writer is =
    subst (λ w. HasPushed taken failed sink w []) (sym is) (record { text = record { taken = sym (append_known-nil (taken sink)); count = refl }; begun = refl; unbroken = refl })

-- one entry more
pub pushed_next : {W : Type 0} (taken : W → Option (List ℕ)) (failed : W → ℕ) (sink : W) (old new : Writing W) (es : List Entry) (e : Entry) → HasPushed taken failed sink old es
    → TookAll (taken old.sink) (taken new.sink) (failed old.sink) (failed new.sink) (separated old.begun (entry_text e)) → new.begun ≡ true → new.failed ≡ false
    → HasPushed taken failed sink new (es ++ e ∷ [])
pushed_next taken failed sink old new es e has all begun unbroken = record {
  text = record {
    taken = pushed_one_more (taken sink) (taken old.sink) (taken new.sink) old.begun es e has.begun has.text.taken all.taken;
    count = all.count ∙ has.text.count;
  };
  begun = begun ∙ has_entry es e;
  unbroken = unbroken;
}

-- one entry more, and its push failed
pub broken_next : {W : Type 0} (taken : W → Option (List ℕ)) (failed : W → ℕ) (sink : W) (old new : Writing W) (es : List Entry) (e : Entry) → HasPushed taken failed sink old es
    → TookPart (taken old.sink) (taken new.sink) (failed old.sink) (failed new.sink) (separated old.begun (entry_text e)) → new.failed ≡ true
    → HasBroken taken failed sink new (es ++ e ∷ [])
broken_next taken failed sink old new es e has part broken = record {
  text = record {
    beginning = push_broke (taken sink) (taken old.sink) (taken new.sink) old.begun es e [] has.begun has.text.taken part.beginning;
    count = let P : ℕ → Type 0 = λ f. RoseOrStands f (failed new.sink) in subst P has.text.count part.count;
  };
  broken = broken;
}
