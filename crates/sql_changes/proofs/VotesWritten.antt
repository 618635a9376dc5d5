-- A vote on a suggestion of a unit is put, or goes: that suggestion has these votes, and all others are as they were.
use Rattle.std.proofs.Common.{◌≡◌, ◌≢◌, List, [], ◌&&◌, map, filter, Bool, true, false, if◌then◌else◌, Option, Some, None, unwrap_or, refl, sym, ap, subst, ◌∙◌, codes}
use Rattle.std.proofs.lemmas.Bool.{and_from}
use Rattle.std.specs.Cmp.Lexicographic.{bytes_decides}
use Rattle.std.specs.Ordering.{int_cmp}
use Rattle.std.specs.Cmp.{int_cmp_total}
use Rattle.std.specs.FinMap as maps
use Rattle.std.specs.FinMap.{int_cmp-IsAntisymmetric}
use Rattle.sqlite.specs.Order.{Row}
use Rattle.sqlite_rules.specs.Lists.{Has}
use Rattle.sqlite_rules.proofs.ListLemmas.{has_filtered, has_found, some_from}
use Rattle.sql_laws.specs.RowMaps.{map_of}
use Rattle.sql_laws.proofs.RowMaps.{text_ties_itself}
use Rattle.po_text.specs.Texts.{Text, text_eq}
use Rattle.units.specs.Units.{has_number, suggestion_of}
use Rattle.units.specs.declared.unit.Suggestion.{Suggestion}
use Rattle.units.specs.declared.unit.Unit.{Unit}
use Rattle.units.specs.declared.votes.VoteValue.{VoteValue}
use Rattle.review.specs.UnitStep.{set_vote, with_vote}
use Rattle.request_book.specs.Acts.{IsNumber}
use Rattle.request_book.specs.Words.{number_text}
use Rattle.sql_columns.proofs.Readers.{number_found}
use Rattle.sql_schema.specs.Keys.{text_at, first_text, has_text, is_on_unit}
use Rattle.sql_schema.specs.Layouts.{NamedRows}
use Rattle.sql_schema.proofs.Layouts.{names_differ}
use Rattle.sql_meaning.specs.Meaning.{number_at, votes_in, suggestion_of_row, suggestions_in}
use Rattle.sql_meaning.specs.RowKeys.{AreKeyed}
use Rattle.sql_meaning.specs.Values.{integer_at}
use Rattle.sql_meaning.proofs.MapEntries.{map_of-agreeing}
use Rattle.sql_meaning.proofs.MapValues.{value_of_row, values_mapped}
use Rattle.sql_meaning.proofs.OneVote.{vote_put, others_at_put, vote_taken, others_at_taken}
use Rattle.sql_meaning.proofs.Suggestions.{off_unit}
use Rattle.sql_meaning.proofs.UniqueKeys.{one_place_each}
use Rattle.sql_meaning.proofs.UnitsWritten.{KeepsOthers, kept_others}
use Rattle.sql_meaning.proofs.UnitValues.{text_of_number, vote_read_back}
use Rattle.sql_changes.specs.OnDomains.{MakesIf}
use Rattle.sql_changes.specs.UnitWrites.{is_suggested, PutsVote, WritesVote}

-- ---- the suggestion of a number has a row

pub row_of_number : (old : NamedRows) (lang key : Text) (unit : Unit) (number : Text) (s : Suggestion) → suggestions_in old lang key ≡ unit.suggestions → IsNumber number → suggestion_of number unit ≡ Some s
    → (row : Row) × Has (old (codes "suggestion")) row × (is_on_unit lang key row ≡ true) × (first_text row ≡ number_text number) × (s ≡ suggestion_of_row old row)
row_of_number old lang key unit number s stand valid found =
    let at = has_found (has_number number) unit.suggestions s found in
    let r =
    value_of_row int_cmp int_cmp_total (integer_at 4) (suggestion_of_row old) (filter (is_on_unit lang key) (old (codes "suggestion"))) s
    (subst (λ (ss : List Suggestion). Has ss s) (sym stand) at.0) in
    let f = has_filtered (is_on_unit lang key) (old (codes "suggestion")) r.0 r.1 in
    let is : number_at 1 r.0 ≡ number = sym (ap (λ (x : Suggestion). x.number) r.2) ∙ sym ((bytes_decides number s.number).0 at.1) in
    (r.0, f.0, f.1, text_of_number (first_text r.0) number valid is, r.2)

-- ---- what is written

-- What a vote leaves of the votes on each suggestion, and of all other rows.
record LeavesVotes (number voter : Text) (value : Option VoteValue) (old new : NamedRows) : Type 0 where
  own : votes_in new (number_text number) ≡ set_vote voter value (votes_in old (number_text number))
  others : (other : Text) → other ≢ number_text number → votes_in new other ≡ votes_in old other
  spares : (name : Text) → name ≢ codes "vote" → new name ≡ old name

leaves_votes : (number voter : Text) (value : Option VoteValue) (old new : NamedRows) → AreKeyed old → PutsVote number voter value old new → LeavesVotes number voter value old new
leaves_votes number voter (Some value) old new keyed put =
    let at : first_text put.row ≡ number_text number = ap first_text put.is_row.1 in
    let by : text_at 2 put.row ≡ voter = ap (text_at 2) put.is_row.1 in
    let says = vote_read_back (number_text number) (voter, value) put.row put.is_row in
    record {
      own =
          (λ i. votes_in new (sym at i)) ∙ vote_put (old (codes "vote")) (new (codes "vote")) keyed.one_vote put.row put.put
          ∙ (λ i. maps.insert (votes_in old (at i)) (by i) (says i));
      others = λ other apart. others_at_put (old (codes "vote")) (new (codes "vote")) keyed.one_vote put.row put.put other (λ e. apart (e ∙ at));
      spares = put.others;
    }
leaves_votes number voter None old new keyed taken = record {
  own = vote_taken (old (codes "vote")) (new (codes "vote")) keyed.one_vote (number_text number) voter taken.rows;
  others = others_at_taken (old (codes "vote")) (new (codes "vote")) keyed.one_vote (number_text number) voter taken.rows;
  spares = taken.others;
}

-- a suggestion with its votes, if it is the one of the number
abbrev voted : Text → Text → Option VoteValue → Suggestion → Suggestion
voted number voter value s = if has_number number s then record s { votes = set_vote voter value s.votes } else s

module _ (old new : NamedRows) (number voter : Text) (value : Option VoteValue) (keyed : AreKeyed old) where
  abbrev on_unit : Text → Text → List Row
  on_unit lang key = filter (is_on_unit lang key) (old (codes "suggestion"))

  module _ (leaves : LeavesVotes number voter value old new) where
    same_rows : (lang key : Text) → suggestions_in new lang key ≡ maps.values (map_of int_cmp (integer_at 4) (suggestion_of_row new) (on_unit lang key))
    same_rows lang key =
        ap (λ (rows : List Row). maps.values (map_of int_cmp (integer_at 4) (suggestion_of_row new) (filter (is_on_unit lang key) rows))) (leaves.spares (codes "suggestion") (names_differ refl))

    other_still : (x : Row) → first_text x ≢ number_text number → suggestion_of_row new x ≡ suggestion_of_row old x
    other_still x apart = λ i. record (suggestion_of_row new x) { votes = leaves.others (first_text x) apart i }

    -- ---- on the unit

    each_voted : IsNumber number → (x : Row) → suggestion_of_row new x ≡ voted number voter value (suggestion_of_row old x)
    each_voted valid x = by (text_eq number (number_at 1 x)) refl
      where
        by : (b : Bool) → text_eq number (number_at 1 x) ≡ b
            → suggestion_of_row new x ≡ (if b then record (suggestion_of_row old x) { votes = set_vote voter value (votes_in old (first_text x)) } else suggestion_of_row old x)
        by true is =
            let at = text_of_number (first_text x) number valid (sym ((bytes_decides number (number_at 1 x)).0 is)) in
            let votes = (λ i. votes_in new (at i)) ∙ leaves.own ∙ (λ i. set_vote voter value (votes_in old (sym at i))) in
            λ i. record (suggestion_of_row new x) { votes = votes i }
        by false apart = other_still x (λ e.
            let same : number_at 1 x ≡ number = ap (λ o. unwrap_or o []) (number_found (first_text x) number valid e) in
            let tied : text_eq number (number_at 1 x) ≡ true = (bytes_decides number (number_at 1 x)).1 (sym same) in
            cc)

    own_voted : IsNumber number → (lang key : Text) → suggestions_in new lang key ≡ map (voted number voter value) (suggestions_in old lang key)
    own_voted valid lang key =
        same_rows lang key
        ∙ values_mapped int_cmp int_cmp_total (integer_at 4) (suggestion_of_row old) (suggestion_of_row new) (voted number voter value) (on_unit lang key) (λ x in_x. each_voted valid x)

    -- ---- on another unit, where no suggestion has the number

    others_stay : (lang key : Text) (row : Row) → Has (old (codes "suggestion")) row → is_on_unit lang key row ≡ true → first_text row ≡ number_text number
        → (l k : Text) → ((l ≡ lang) × (k ≡ key) → ⊥) → suggestions_in new l k ≡ suggestions_in old l k
    others_stay lang key row there on named l k differ =
        same_rows l k
        ∙ ap maps.values (map_of-agreeing int_cmp int_cmp_total int_cmp-IsAntisymmetric (integer_at 4) (suggestion_of_row old) (suggestion_of_row new) (on_unit l k) (on_unit l k)
        (one_place_each old keyed l k) (λ x in_x. in_x) (λ x in_x. in_x) (λ x in_x.
        let f = has_filtered (is_on_unit l k) (old (codes "suggestion")) x in_x in
        other_still x (λ e.
        let one = keyed.one_number x row f.0 there (e ∙ sym named) in
        let out = off_unit lang key l k differ x f.1 in
        let its = subst (λ z. is_on_unit lang key z ≡ true) (sym one) on in
        cc)))

-- What a vote on a suggestion of the unit leaves of the suggestions, and of all rows but those of units, suggestions and votes.
pub record LeavesVote (lang key number voter : Text) (value : Option VoteValue) (unit : Unit) (old new : NamedRows) : Type 0 where
  pub own : suggestions_in new lang key ≡ (with_vote number voter value unit).suggestions
  pub others_stay : (l k : Text) → ((l ≡ lang) × (k ≡ key) → ⊥) → suggestions_in new l k ≡ suggestions_in old l k
  pub units : new (codes "unit") ≡ old (codes "unit")
  pub keeps : KeepsOthers old new

pub leaves_vote : (lang key number voter : Text) (value : Option VoteValue) (unit : Unit) (s : Suggestion) (old new : NamedRows) → AreKeyed old → suggestions_in old lang key ≡ unit.suggestions
    → suggestion_of number unit ≡ Some s → WritesVote lang key number voter value old new → LeavesVote lang key number voter value unit old new
leaves_vote lang key number voter value unit s old new keyed stand found written =
    let r = row_of_number old lang key unit number s stand written.1 found in
    let passes = and_from (has_text 1 (number_text number) r.0) (is_on_unit lang key r.0) (subst (λ t. has_text 1 t r.0 ≡ true) r.3 (text_ties_itself (first_text r.0))) r.2 in
    let is_there : is_suggested lang key number old ≡ true = some_from (λ x. has_text 1 (number_text number) x && is_on_unit lang key x) (old (codes "suggestion")) r.0 r.1 passes in
    let put = subst (λ b. MakesIf b (PutsVote number voter value) (λ before after. after ≡ before) old new) is_there written.0 in
    let leaves = leaves_votes number voter value old new keyed put in
    record {
      own = own_voted old new number voter value keyed leaves written.1 lang key ∙ ap (map (voted number voter value)) stand;
      others_stay = others_stay old new number voter value keyed leaves lang key r.0 r.1 r.2 r.3;
      units = leaves.spares (codes "unit") (names_differ refl);
      keeps = kept_others old new (λ t no_unit no_suggestion no_vote. leaves.spares t no_vote);
    }
