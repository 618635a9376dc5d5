-- What the bytes of a stream ask, message by message, as it is served.
use Rattle.std.proofs.Common.{◌≡◌, ◌<◌, ◌≤◌, ◌+◌, ℕ, zero, suc, List, [], ◌∷◌, ◌++◌, length, Bool, true, false, Option, Some, refl, sym, ap, ap₂, subst, ◌∙◌, append_assoc, append-nil, arith, length-append}
use Rattle.std.specs.Prelude.{◌||◌, ◌==◌, IfSome}
use Rattle.std.proofs.lemmas.Bool.Decides.{nat_tests}
use Rattle.std.proofs.lemmas.List.{map-append}
use Rattle.byte_streams.specs.Streams.{prepend_known, RoseOrStands}
use Rattle.byte_streams.proofs.Taking.{took_then_beginning}
use Rattle.office.specs.Writers.{Writer, TakesAll}
use Rattle.office.proofs.Streaming.{nothing_read, read_more, all_read, given, took_all}
use Rattle.http_messages.specs.Asked.{Asked, Asking}
use Rattle.http_messages.specs.Streams.{Item, step, first_step, items_within, items_of, answer_limit}
use Rattle.http_messages.specs.Arrivals.{WasCutOff}
use Rattle.http_messages.specs.declared.inbox.ReadFault.{ReadFault}
use Rattle.http_messages.specs.declared.inbox.ReadFault.TheVariants as read
use Rattle.http_api.specs.declared.faults.ServeFault.{ServeFault}
use Rattle.http_api.specs.declared.faults.ServeFault.TheVariants as fault
use Rattle.http_api.specs.Faults.{fault_of}
use Rattle.http_api.specs.Outcomes.{Outcome, IsExported, outcome_answer}
use Rattle.http_api.specs.Answering.{WroteBeginning}
use Rattle.http_api.specs.ConnectionSteps.{IsFirst, whatever_follows, at_the_end, TookOne, Ended}
use Rattle.http_api.proofs.ItemLemmas.{item_of, none_left, tail_of, items-one, items-none, items-full, items-all, tail-last, tail-more}
use Rattle.http_api.proofs.NoMore.{behind_none, behind_one, ReadSoFar, nothing_so_far, reads_no_more, one_more_read}
use Rattle.http_api.specs.Connection.{behind, EndsBehind, ReadsNoMore, questions, answers_to, EndsInExport, GivenUp, no_source, no_sink, no_room, text_without_memory, text_without_disk}

-- ---- room for one answer more

pub record HasRoom (room : ℕ) (full : Bool) : Type 0 where
  pub left : ℕ
  pub is : room ≡ suc left
  pub at_end : full ≡ none_left left

pub has_room : (answered room : ℕ) (full : Bool) → answered + room ≡ answer_limit → answered < answer_limit → full ≡ (answered + 1 == answer_limit) → HasRoom room full
has_room answered zero full within less is = absurd (omega arith)
has_room answered (suc zero) full within less is =
    let last : answered + 1 ≡ answer_limit = omega arith in
    let yes : (answered + 1 == answer_limit) ≡ true = grind (arith, nat_tests) in
    record { left = zero; is = refl; at_end = is ∙ yes }
has_room answered (suc (suc left)) full within less is =
    let more : answered + 1 < answer_limit = omega arith in
    let no : (answered + 1 == answer_limit) ≡ false = grind (arith, nat_tests) in
    record { left = suc left; is = refl; at_end = is ∙ no }

-- ---- so many were answered so far

pub record Along (Served : List Asked → List Outcome → Type 0) (Wrote : List ℕ → Type 0) (left_old left_now : Option (List ℕ)) (failed_old failed_now answered : ℕ) (held : List ℕ) : Type 0 where
  pub got : List ℕ
  pub read : left_old ≡ prepend_known got left_now
  pub count : failed_now ≡ failed_old
  pub items : List Item
  pub outcomes : List Outcome
  pub each : length outcomes ≡ length items
  pub many : length items ≡ answered
  pub room : ℕ
  pub within : answered + room ≡ answer_limit
  pub cut : (rest : List ℕ) → items_of (got ++ rest) ≡ items ++ items_within room (held ++ rest)
  pub stands : (rest : List ℕ) → behind answered (got ++ rest) ≡ Some (held ++ rest)
  pub wanted : ReadSoFar answered got
  pub served : Served (questions items) outcomes
  pub wrote : Wrote (answers_to items outcomes)

pub begins : {Served : List Asked → List Outcome → Type 0} {Wrote : List ℕ → Type 0} (left : Option (List ℕ)) (failed : ℕ) (held : List ℕ) → held ≡ [] → Served [] [] → Wrote [] → Along Served Wrote left left failed failed 0 held
begins left failed held none served wrote = record {
  got = [];
  read = nothing_read left;
  count = refl;
  items = [];
  outcomes = [];
  each = refl;
  many = refl;
  room = answer_limit;
  within = omega arith;
  cut = λ rest. items-all rest ∙ ap (λ h. items_within answer_limit (h ++ rest)) (sym none);
  stands = λ rest. behind_none held rest none;
  wanted = nothing_so_far;
  served = served;
  wrote = wrote;
}

-- ---- one message more

answers-more : (items : List Item) (outcomes : List Outcome) (item : Item) (o : Outcome) → length outcomes ≡ length items → answers_to (items ++ item ∷ []) (outcomes ++ o ∷ []) ≡ answers_to items outcomes ++ outcome_answer o item.last
answers-more [] [] item o same = append-nil (outcome_answer o item.last)
answers-more [] (x ∷ outcomes) item o same = absurd (omega arith)
answers-more (i ∷ items) [] item o same = absurd (omega arith)
answers-more (i ∷ items) (x ∷ outcomes) item o same =
    let less : length outcomes ≡ length items = omega arith in
    ap (λ text. outcome_answer x i.last ++ text) (answers-more items outcomes item o less) ∙ sym (append_assoc (outcome_answer x i.last) (answers_to items outcomes) (outcome_answer o item.last))

module _ {Served : List Asked → List Outcome → Type 0} {Wrote : List ℕ → Type 0} {Came : Asked → Outcome → Type 0} {WroteOne : Outcome → Bool → Type 0} {l0 l1 l2 : Option (List ℕ)} {f0 f1 f2 answered : ℕ} {held : List ℕ} {full : Bool}
    (so_far : Along Served Wrote l0 l1 f0 f1 answered held) (one : TookOne Came WroteOne l1 l2 f1 f2 held full) where
  abbrev got_then : List ℕ
  got_then = so_far.got ++ one.read.piece

  abbrev last_item : Item
  last_item = item_of one.asking (one.asking.ends || full)

  abbrev items_then : List Item
  items_then = so_far.items ++ last_item ∷ []

  abbrev outcomes_then : List Outcome
  outcomes_then = so_far.outcomes ++ one.outcome ∷ []

  read_then : l0 ≡ prepend_known got_then l2
  read_then = read_more l0 l1 l2 so_far.got one.read.piece so_far.read one.read.read

  each_then : length outcomes_then ≡ length items_then
  each_then = let same = so_far.each in let a = length-append so_far.outcomes (one.outcome ∷ []) in let b = length-append so_far.items (last_item ∷ []) in omega arith

  many_then : length items_then ≡ answered + 1
  many_then = let same = so_far.many in let b = length-append so_far.items (last_item ∷ []) in omega arith

  cut_then : (room : HasRoom so_far.room full) (rest more : List ℕ) → first_step (one.at_hand ++ rest) ≡ step one.asking more → items_of (got_then ++ rest) ≡ items_then ++ tail_of room.left one.asking.ends more
  cut_then room rest more first =
      let bytes : held ++ (one.read.piece ++ rest) ≡ one.at_hand ++ rest = sym (append_assoc held one.read.piece rest) ∙ ap (λ xs. xs ++ rest) (sym one.read.behind) in
      let some : 0 < length (one.at_hand ++ rest) = (let least = one.some in let both = length-append one.at_hand rest in omega arith) in
      let listed : items_within so_far.room (held ++ (one.read.piece ++ rest)) ≡ last_item ∷ tail_of room.left one.asking.ends more =
      ap₂ items_within room.is bytes ∙ items-one room.left (one.at_hand ++ rest) one.asking more some first ∙ ap (λ last. item_of one.asking (one.asking.ends || last) ∷ tail_of room.left one.asking.ends more) (sym room.at_end) in
      ap items_of (append_assoc so_far.got one.read.piece rest) ∙ so_far.cut (one.read.piece ++ rest) ∙ ap (λ items. so_far.items ++ items) listed
      ∙ sym (append_assoc so_far.items (last_item ∷ []) (tail_of room.left one.asking.ends more))

  wanted_then : ReadSoFar (answered + 1) got_then
  wanted_then = one_more_read answered so_far.got held one.read.piece one.at_hand so_far.wanted so_far.stands one.read.behind one.some one.wanted

  served_then : (ServedThen : List Asked → List Outcome → Type 0) → ((qs : List Asked) (os : List Outcome) → Served qs os → ServedThen (qs ++ one.asking.asked ∷ []) (os ++ one.outcome ∷ []))
      → ServedThen (questions items_then) outcomes_then
  served_then ServedThen more =
      subst (λ qs. ServedThen qs outcomes_then) (sym (map-append (λ item. item.asked) so_far.items (last_item ∷ []))) (more (questions so_far.items) so_far.outcomes so_far.served)

  wrote_then : (WroteThen : List ℕ → Type 0) → ((text : List ℕ) → Wrote text → WroteThen (text ++ outcome_answer one.outcome (one.asking.ends || full)))
      → WroteThen (answers_to items_then outcomes_then)
  wrote_then WroteThen more =
      subst WroteThen (sym (answers-more so_far.items so_far.outcomes last_item one.outcome so_far.each)) (more (answers_to so_far.items so_far.outcomes) so_far.wrote)

-- whatever follows a message that isn't the last
follows : {left : Option (List ℕ)} {bytes behind : List ℕ} {asking : Asking} → IsFirst left bytes asking behind → asking.ends ≡ false → (rest : List ℕ) → first_step (bytes ++ rest) ≡ step asking (behind ++ rest)
follows (whatever_follows first) on rest = first rest
follows (at_the_end end first over) on rest = let both : true ≡ false = sym over ∙ on in absurd cc

not_last : (ends full : Bool) → (ends || full) ≡ false → ends ≡ false
not_last true full more = more
not_last false full more = refl

pub goes_along : {Served ServedThen : List Asked → List Outcome → Type 0} {Wrote WroteThen : List ℕ → Type 0} {Came : Asked → Outcome → Type 0} {WroteOne : Outcome → Bool → Type 0}
    {l0 l1 l2 : Option (List ℕ)} {f0 f1 f2 answered : ℕ} {held now : List ℕ} {full : Bool} →
    (so_far : Along Served Wrote l0 l1 f0 f1 answered held) → HasRoom so_far.room full → (one : TookOne Came WroteOne l1 l2 f1 f2 held full) → (one.asking.ends || full) ≡ false → now ≡ one.behind →
    ((qs : List Asked) (os : List Outcome) → Served qs os → ServedThen (qs ++ one.asking.asked ∷ []) (os ++ one.outcome ∷ [])) →
    ((text : List ℕ) → Wrote text → WroteThen (text ++ outcome_answer one.outcome (one.asking.ends || full))) →
    Along ServedThen WroteThen l0 l2 f0 f2 (answered + 1) now
goes_along {ServedThen = ServedThen} {WroteThen = WroteThen} {answered = answered} {held = held} {now = now} {full = full} so_far room one more behind served wrote = record {
  got = got_then so_far one;
  read = read_then so_far one;
  count = one.read.count ∙ so_far.count;
  items = items_then so_far one;
  outcomes = outcomes_then so_far one;
  each = each_then so_far one;
  many = many_then so_far one;
  room = room.left;
  within = let is = room.is in let within = so_far.within in omega arith;
  cut = λ rest. cut_then so_far one room rest (one.behind ++ rest) (follows one.first (not_last one.asking.ends full more) rest)
      ∙ ap (λ items. items_then so_far one ++ items) (tail-more room.left one.asking.ends (one.behind ++ rest) (ap (λ last. one.asking.ends || last) (sym room.at_end) ∙ more) ∙ ap (λ h. items_within room.left (h ++ rest)) (sym behind));
  stands = λ rest. behind_one answered so_far.got held one.read.piece one.at_hand now rest one.asking (so_far.stands (one.read.piece ++ rest)) one.read.behind
      (follows one.first (not_last one.asking.ends full more) rest ∙ ap (λ bytes. step one.asking (bytes ++ rest)) (sym behind)) (not_last one.asking.ends full more);
  wanted = wanted_then so_far one;
  served = served_then so_far one ServedThen served;
  wrote = wrote_then so_far one WroteThen wrote;
}

-- ---- all was answered

pub record AllTaken (Served : List Asked → List Outcome → Type 0) (Wrote : List ℕ → Type 0) (left_old : Option (List ℕ)) (answered : ℕ) : Type 0 where
  pub bytes : List ℕ
  pub given : IfSome left_old (λ all. bytes ≡ all)
  pub outcomes : List Outcome
  pub served : Served (questions (items_of bytes)) outcomes
  pub wrote : Wrote (answers_to (items_of bytes) outcomes)
  pub count : answered ≡ length (items_of bytes)

all_taken : {Served : List Asked → List Outcome → Type 0} {Wrote : List ℕ → Type 0} {left_old : Option (List ℕ)} {answered : ℕ} (bytes : List ℕ) (items : List Item) (outcomes : List Outcome) →
    IfSome left_old (λ all. bytes ≡ all) → items_of bytes ≡ items → Served (questions items) outcomes → Wrote (answers_to items outcomes) → length items ≡ answered → AllTaken Served Wrote left_old answered
all_taken {Served = Served} {Wrote = Wrote} bytes items outcomes given is served wrote many = record {
  bytes = bytes;
  given = given;
  outcomes = outcomes;
  served = subst (λ items. Served (questions items) outcomes) (sym is) served;
  wrote = subst (λ items. Wrote (answers_to items outcomes)) (sym is) wrote;
  count = sym many ∙ ap length (sym is);
}

nothing_behind : (old piece : List ℕ) → [] ≡ old ++ piece → (old ≡ []) × (piece ≡ [])
nothing_behind [] piece none = (refl, sym none)
nothing_behind (b ∷ old) piece none = absurd (let no : [] ≡ b ∷ (old ++ piece) = none in cc)

-- the stream has ended
pub ends : {Served ServedThen : List Asked → List Outcome → Type 0} {Wrote WroteThen : List ℕ → Type 0} {Same : Type 0} {l0 l1 l2 : Option (List ℕ)} {f0 f1 f2 answered : ℕ} {held : List ℕ} →
    Along Served Wrote l0 l1 f0 f1 answered held → (end : Ended Same l1 l2 f1 f2 held) → ((qs : List Asked) (os : List Outcome) → Served qs os → ServedThen qs os) → ((text : List ℕ) → Wrote text → WroteThen text) →
    AllTaken ServedThen WroteThen l0 answered
ends {l0 = l0} {l1 = l1} {l2 = l2} {held = held} so_far end served wrote =
    let none = nothing_behind held end.read.piece end.read.behind in
    let got = so_far.got ++ end.read.piece in
    let all : IfSome l0 (λ all. got ≡ all) = all_read l0 l2 got (read_more l0 l1 l2 so_far.got end.read.piece so_far.read end.read.read) end.end in
    let same : got ≡ so_far.got ++ [] = ap (λ xs. so_far.got ++ xs) none.1 in
    let empty : held ++ [] ≡ [] = ap (λ xs. xs ++ []) none.0 in
    all_taken got so_far.items so_far.outcomes all
    (ap items_of same ∙ so_far.cut [] ∙ ap (λ xs. so_far.items ++ items_within so_far.room xs) empty ∙ ap (λ xs. so_far.items ++ xs) (items-none so_far.room) ∙ append-nil so_far.items)
    (served (questions so_far.items) so_far.outcomes so_far.served) (wrote (answers_to so_far.items so_far.outcomes) so_far.wrote) so_far.many

pub ends_behind : {Served : List Asked → List Outcome → Type 0} {Wrote : List ℕ → Type 0} {Same : Type 0} {l0 l1 l2 : Option (List ℕ)} {f0 f1 f2 answered : ℕ} {held : List ℕ} → Along Served Wrote l0 l1 f0 f1 answered held
    → Ended Same l1 l2 f1 f2 held → EndsBehind l0 l2 answered
ends_behind {l0 = l0} {l1 = l1} {l2 = l2} {answered = answered} {held = held} so_far end =
    let none = nothing_behind held end.read.piece end.read.behind in
    record {
      given = so_far.got ++ end.read.piece;
      read = read_more l0 l1 l2 so_far.got end.read.piece so_far.read end.read.read;
      end = end.end;
      none = ap (λ piece. behind answered (so_far.got ++ piece)) none.1 ∙ so_far.stands [] ∙ ap (λ bytes. Some (bytes ++ [])) none.0;
    }

-- no more may be answered
pub is_full : {Served : List Asked → List Outcome → Type 0} {Wrote : List ℕ → Type 0} {l0 l1 : Option (List ℕ)} {f0 f1 answered : ℕ} {held : List ℕ} → (so_far : Along Served Wrote l0 l1 f0 f1 answered held) → answer_limit ≤ answered →
    AllTaken Served Wrote l0 answer_limit
is_full {l0 = l0} {l1 = l1} {answered = answered} {held = held} so_far full =
    let within = so_far.within in
    let none : so_far.room ≡ 0 = omega arith in
    let all : answered ≡ answer_limit = omega arith in
    let g = given l0 l1 so_far.got so_far.read in
    all_taken (so_far.got ++ g.later) so_far.items so_far.outcomes g.all
    (so_far.cut g.later ∙ ap (λ room. so_far.items ++ items_within room (held ++ g.later)) none ∙ ap (λ xs. so_far.items ++ xs) (items-full (held ++ g.later)) ∙ append-nil so_far.items)
    so_far.served so_far.wrote (so_far.many ∙ all)

-- what follows the bytes at hand
record Chosen (left_old : Option (List ℕ)) (got at_hand : List ℕ) (asking : Asking) : Type 0 where
  rest : List ℕ
  more : List ℕ
  all : IfSome left_old (λ all. got ++ rest ≡ all)
  first : first_step (at_hand ++ rest) ≡ step asking more

chosen : {left_new : Option (List ℕ)} {at_hand behind : List ℕ} {asking : Asking} (left_old : Option (List ℕ)) (got : List ℕ) → left_old ≡ prepend_known got left_new → IsFirst left_new at_hand asking behind → Chosen left_old got at_hand asking
chosen {left_new = left_new} {behind = behind} left_old got read (whatever_follows first) =
    let g = given left_old left_new got read in
    record { rest = g.later; more = behind ++ g.later; all = g.all; first = first g.later }
chosen {left_new = left_new} {at_hand = at_hand} {asking = asking} left_old got read (at_the_end end first over) = record {
  rest = [];
  more = [];
  all = subst (λ g. IfSome left_old (λ all. g ≡ all)) (sym (append-nil got)) (all_read left_old left_new got read end);
  first = subst (λ bytes. first_step bytes ≡ step asking []) (sym (append-nil at_hand)) first;
}

-- the answer was the last one
pub lasts : {Served ServedThen : List Asked → List Outcome → Type 0} {Wrote WroteThen : List ℕ → Type 0} {Came : Asked → Outcome → Type 0} {WroteOne : Outcome → Bool → Type 0}
    {l0 l1 l2 : Option (List ℕ)} {f0 f1 f2 answered : ℕ} {held : List ℕ} {full : Bool} →
    (so_far : Along Served Wrote l0 l1 f0 f1 answered held) → HasRoom so_far.room full → (one : TookOne Came WroteOne l1 l2 f1 f2 held full) → (one.asking.ends || full) ≡ true →
    ((qs : List Asked) (os : List Outcome) → Served qs os → ServedThen (qs ++ one.asking.asked ∷ []) (os ++ one.outcome ∷ [])) →
    ((text : List ℕ) → Wrote text → WroteThen (text ++ outcome_answer one.outcome (one.asking.ends || full))) →
    AllTaken ServedThen WroteThen l0 (answered + 1)
lasts {ServedThen = ServedThen} {WroteThen = WroteThen} {l0 = l0} so_far room one last served wrote =
    let c = chosen l0 (got_then so_far one) (read_then so_far one) one.first in
    all_taken (got_then so_far one ++ c.rest) (items_then so_far one) (outcomes_then so_far one) c.all
    (cut_then so_far one room c.rest c.more c.first
    ∙ ap (λ xs. items_then so_far one ++ xs) (tail-last room.left one.asking.ends c.more (ap (λ last. one.asking.ends || last) (sym room.at_end) ∙ last)) ∙ append-nil (items_then so_far one))
    (served_then so_far one ServedThen served) (wrote_then so_far one WroteThen wrote) (many_then so_far one)

-- no more was read
pub lasts_read : {Served : List Asked → List Outcome → Type 0} {Wrote : List ℕ → Type 0} {Came : Asked → Outcome → Type 0} {WroteOne : Outcome → Bool → Type 0}
    {l0 l1 l2 : Option (List ℕ)} {f0 f1 f2 answered : ℕ} {held : List ℕ} {full : Bool} →
    (so_far : Along Served Wrote l0 l1 f0 f1 answered held) → (one : TookOne Came WroteOne l1 l2 f1 f2 held full) → ReadsNoMore l0 l2 (answered + 1)
lasts_read so_far one = reads_no_more (got_then so_far one) (read_then so_far one) (wanted_then so_far one)

pub full_read : {Served : List Asked → List Outcome → Type 0} {Wrote : List ℕ → Type 0} {l0 l1 : Option (List ℕ)} {f0 f1 answered : ℕ} {held : List ℕ} → Along Served Wrote l0 l1 f0 f1 answered held → ReadsNoMore l0 l1 answered
full_read so_far = reads_no_more so_far.got so_far.read so_far.wanted

-- ---- only some was answered

pub record SomeTaken (Served : List Asked → List Outcome → Type 0) (Stopped : List Outcome → List ℕ → Type 0) (left_old : Option (List ℕ)) : Type 0 where
  pub bytes : List ℕ
  pub given : IfSome left_old (λ all. bytes ≡ all)
  pub front : List Item
  pub back : List Item
  pub cut : items_of bytes ≡ front ++ back
  pub outcomes : List Outcome
  pub served : Served (questions front) outcomes
  pub stopped : Stopped outcomes (answers_to front outcomes)

-- nothing more was read to be answered
pub cut_off : {Served ServedThen : List Asked → List Outcome → Type 0} {Wrote : List ℕ → Type 0} {Stopped : List Outcome → List ℕ → Type 0} {l0 l1 l2 : Option (List ℕ)} {f0 f1 f2 answered : ℕ} {held : List ℕ} {cause : ReadFault} →
    Along Served Wrote l0 l1 f0 f1 answered held → WasCutOff l1 l2 f1 f2 cause → ((qs : List Asked) (os : List Outcome) → Served qs os → ServedThen qs os) → ((os : List Outcome) (text : List ℕ) → Wrote text → Stopped os text) →
    SomeTaken ServedThen Stopped l0
cut_off {l0 = l0} {l1 = l1} {l2 = l2} {held = held} so_far off served stopped =
    let g = given l0 l2 (so_far.got ++ off.piece) (read_more l0 l1 l2 so_far.got off.piece so_far.read off.read) in
    record {
      bytes = (so_far.got ++ off.piece) ++ g.later;
      given = g.all;
      front = so_far.items;
      back = items_within so_far.room (held ++ (off.piece ++ g.later));
      cut = ap items_of (append_assoc so_far.got off.piece g.later) ∙ so_far.cut (off.piece ++ g.later);
      outcomes = so_far.outcomes;
      served = served (questions so_far.items) so_far.outcomes so_far.served;
      stopped = stopped so_far.outcomes (answers_to so_far.items so_far.outcomes) so_far.wrote;
    }

-- an answer broke off
pub breaks_off : {Served ServedThen : List Asked → List Outcome → Type 0} {Wrote : List ℕ → Type 0} {Stopped : List Outcome → List ℕ → Type 0} {Came : Asked → Outcome → Type 0} {WroteOne : Outcome → Bool → Type 0}
    {l0 l1 l2 : Option (List ℕ)} {f0 f1 f2 answered : ℕ} {held : List ℕ} {full : Bool} →
    (so_far : Along Served Wrote l0 l1 f0 f1 answered held) → HasRoom so_far.room full → (one : TookOne Came WroteOne l1 l2 f1 f2 held full) →
    ((qs : List Asked) (os : List Outcome) → Served qs os → ServedThen (qs ++ one.asking.asked ∷ []) (os ++ one.outcome ∷ [])) →
    ((os : List Outcome) (text : List ℕ) → Wrote text → Stopped (os ++ one.outcome ∷ []) (text ++ outcome_answer one.outcome (one.asking.ends || full))) →
    SomeTaken ServedThen Stopped l0
breaks_off {ServedThen = ServedThen} {Stopped = Stopped} {l0 = l0} so_far room one served stopped =
    let c = chosen l0 (got_then so_far one) (read_then so_far one) one.first in
    record {
      bytes = got_then so_far one ++ c.rest;
      given = c.all;
      front = items_then so_far one;
      back = tail_of room.left one.asking.ends c.more;
      cut = cut_then so_far one room c.rest c.more c.first;
      outcomes = outcomes_then so_far one;
      served = served_then so_far one ServedThen served;
      stopped = wrote_then so_far one (Stopped (outcomes_then so_far one)) (stopped so_far.outcomes);
    }

-- ---- what was written

-- an answer behind the others
pub wrote_more : {Honest StillHonest : Type 0} {w0 w1 w2 : Writer} (text answer : List ℕ) → (StillHonest → Honest) → (Honest → TakesAll w0 w1 text) → (StillHonest → TakesAll w1 w2 answer) → StillHonest → TakesAll w0 w2 (text ++ answer)
wrote_more text answer honest first then h = took_all text answer (first (honest h)) (then h)

ends_in_export : (os : List Outcome) (o : Outcome) → IsExported o → EndsInExport (os ++ o ∷ [])
ends_in_export [] o is = is
ends_in_export (x ∷ []) o is = is
ends_in_export (x ∷ y ∷ os) o is = ends_in_export (y ∷ os) o is

pub gives_up : {Honest StillHonest Stopped : Type 0} {f0 f2 : ℕ} {w0 w1 w2 : Writer} (o : Outcome) (last : Bool) (f : ServeFault) (os : List Outcome) (text : List ℕ) → (StillHonest → Honest) → (Honest → TakesAll w0 w1 text)
    → (StillHonest → WroteBeginning Stopped w1 w2 o last f) → StillHonest → GivenUp Stopped f0 f2 w0 w2 (os ++ o ∷ []) (text ++ outcome_answer o last) f
gives_up {w0 = w0} {w1 = w1} {w2 = w2} o last fault.Read os text honest first then h = absurd (then h).cause
gives_up {w0 = w0} {w1 = w1} {w2 = w2} o last fault.Write os text honest first then h =
    let all : TakesAll w0 w1 text = first (honest h) in
    let P : ℕ → Type 0 = λ n. RoseOrStands n w2.failed in
    no_sink refl (record { beginning = took_then_beginning w0.taken w1.taken w2.taken text (outcome_answer o last) all.taken (then h).beginning; count = subst P all.count (then h).cause })
gives_up {w0 = w0} {w1 = w1} {w2 = w2} o last fault.Memory os text honest first then h =
    text_without_memory refl (ends_in_export os o (then h).cause) (took_then_beginning w0.taken w1.taken w2.taken text (outcome_answer o last) (first (honest h)).taken (then h).beginning)
gives_up {w0 = w0} {w1 = w1} {w2 = w2} o last fault.Disk os text honest first then h =
    text_without_disk refl (ends_in_export os o (then h).cause.0) (then h).cause.1 (took_then_beginning w0.taken w1.taken w2.taken text (outcome_answer o last) (first (honest h)).taken (then h).beginning)

-- nothing was written behind the answers
pub stops : {Honest StillHonest Stopped : Type 0} {f0 f1 f2 : ℕ} {w0 w1 : Writer} {left_old left_new : Option (List ℕ)} (cause : ReadFault) (os : List Outcome) (text : List ℕ) → (StillHonest → Honest) → f1 ≡ f0 → WasCutOff left_old left_new f1 f2 cause
    → (Honest → TakesAll w0 w1 text) → StillHonest → GivenUp Stopped f0 f2 w0 w1 os text (fault_of cause)
stops {f2 = f2} read.Source os text honest same off all h = no_source refl (let P : ℕ → Type 0 = λ n. RoseOrStands n f2 in subst P same off.cause) (all (honest h))
stops read.Memory os text honest same off all h = no_room refl (all (honest h))
