-- What the writing of a unit makes of the units that the rows stand for: the unit at its place, and every other as it was.
use Rattle.std.proofs.Common.{◌≡◌, ◌≢◌, ℕ, refl, sym, subst, ◌∙◌, codes, List}
use Rattle.std.specs.FinMap as maps
use Rattle.sqlite.specs.Order.{Row}
use Rattle.sqlite_rules.specs.Lists.{Has}
use Rattle.sql_laws.specs.ApartRows.{IsRemoved}
use Rattle.sql_laws.specs.RowMaps.{OneEach, IsPut}
use Rattle.po_text.specs.Texts.{Text}
use Rattle.sql_columns.specs.Written.{ArePrevious}
use Rattle.units.specs.KeyTexts.{HasStrings}
use Rattle.units.specs.Units.{key_text}
use Rattle.units.specs.declared.unit.Unit.{Unit}
use Rattle.sql_schema.specs.Keys.{first_text, first_texts, is_on_unit}
use Rattle.sql_schema.specs.Cleared.{IsOn}
use Rattle.sql_schema.specs.Inside.{PutsIn, HoldsValues}
use Rattle.sql_meaning.specs.Cells.{unit_cells}
use Rattle.sql_meaning.specs.Meaning.{units_in, suggestions_in}
use Rattle.sql_meaning.specs.Written.{PutsSuggestions, WritesUnit}
use Rattle.sql_meaning.proofs.RowsInTurn.{ArePut, are_put}
use Rattle.sql_meaning.proofs.Suggestions.{AreCleared, AreFree, suggestions_put, suggestions_kept}
use Rattle.sql_meaning.proofs.UnitsKept.{unit_placed}
use Rattle.sql_meaning.proofs.WrittenRows.{AreNumbers, HaveOwnNumbers, suggestions_spare, suggestions_in_turn, votes_in_turn, suggestions_distinct, votes_distinct, suggestion_rows, vote_rows}
use Rattle.sql_schema.specs.Layouts.{NamedRows}
use Rattle.sql_schema.proofs.Layouts.{names_differ}
use Rattle.sql_meaning.specs.RowKeys.{AreOfficeRows, AreKeyed}
use Rattle.sql_meaning.specs.RowChanges.{ClearsIn}

-- A unit that reads back from its rows, and whose suggestions have numbers that no suggestion of another unit has.
pub record IsWritable (old : NamedRows) (lang : Text) (unit : Unit) : Type 0 where
  pub key : HasStrings unit.key
  pub previous : ArePrevious unit.previous
  pub numbers : AreNumbers unit.suggestions
  pub own : HaveOwnNumbers unit.suggestions
  pub free : AreFree lang (key_text unit.key) unit.suggestions old

-- The rows of the tables that hold no units are the same.
pub record KeepsOthers (old new : NamedRows) : Type 0 where
  pub records : new (codes "record") ≡ old (codes "record")
  pub team : new (codes "team") ≡ old (codes "team")
  pub policy : new (codes "policy") ≡ old (codes "policy")
  pub template : new (codes "template") ≡ old (codes "template")
  pub languages : new (codes "language") ≡ old (codes "language")

pub kept_others : (old new : NamedRows) → ((t : List ℕ) → t ≢ codes "unit" → t ≢ codes "suggestion" → t ≢ codes "vote" → new t ≡ old t) → KeepsOthers old new
kept_others old new spares = record {
  records = spares (codes "record") (names_differ refl) (names_differ refl) (names_differ refl);
  team = spares (codes "team") (names_differ refl) (names_differ refl) (names_differ refl);
  policy = spares (codes "policy") (names_differ refl) (names_differ refl) (names_differ refl);
  template = spares (codes "template") (names_differ refl) (names_differ refl) (names_differ refl);
  languages = spares (codes "language") (names_differ refl) (names_differ refl) (names_differ refl);
}

module _ (old new : NamedRows) (lang : Text) (unit : Unit) (mid cleared : NamedRows) (put : PutsIn (codes "unit") first_texts (HoldsValues (unit_cells lang unit)) old mid)
    (clear : ClearsIn lang (key_text unit.key) mid cleared) (puts : PutsSuggestions lang (key_text unit.key) 0 unit.suggestions cleared new) where
  -- a table that is none of the three stays, and that of units from its row on
  clears_spares : (t : List ℕ) → t ≢ codes "suggestion" → t ≢ codes "vote" → new t ≡ mid t
  clears_spares t no_suggestion no_vote =
      suggestions_spare t lang (key_text unit.key) 0 unit.suggestions cleared new puts no_suggestion no_vote ∙ clear.others t no_suggestion no_vote

  spares : (t : List ℕ) → t ≢ codes "unit" → t ≢ codes "suggestion" → t ≢ codes "vote" → new t ≡ old t
  spares t no_unit no_suggestion no_vote = clears_spares t no_suggestion no_vote ∙ put.others t no_unit

  pub keeps_others : KeepsOthers old new
  keeps_others = kept_others old new spares

  same_units : new (codes "unit") ≡ mid (codes "unit")
  same_units = clears_spares (codes "unit") (names_differ refl) (names_differ refl)

  same_suggestions : mid (codes "suggestion") ≡ old (codes "suggestion")
  same_suggestions = put.others (codes "suggestion") (names_differ refl)

  same_votes : mid (codes "vote") ≡ old (codes "vote")
  same_votes = put.others (codes "vote") (names_differ refl)

  are_cleared : AreCleared lang (key_text unit.key) old cleared
  are_cleared = record {
    suggestions = subst (λ rows. IsRemoved (is_on_unit lang (key_text unit.key)) rows (cleared (codes "suggestion"))) same_suggestions clear.suggestions;
    votes_only = λ v there. let was = clear.votes_only v there in (subst (λ rows. Has rows v) same_votes was.0, λ on. was.1 (moved v on));
    votes_kept = λ v there out. clear.votes_kept v (subst (λ rows. Has rows v) (sym same_votes) there) (λ (on : IsOn mid lang (key_text unit.key) v).
        out (on.0, subst (λ rows. Has rows on.0) same_suggestions on.1, on.2, on.3));
  }
    where
      moved : (v : Row) → IsOn old lang (key_text unit.key) v → IsOn mid lang (key_text unit.key) v
      moved v on = (on.0, subst (λ rows. Has rows on.0) (sym same_suggestions) on.1, on.2, on.3)

  module _ (keyed : AreKeyed old) (one : OneEach first_texts (old (codes "unit"))) (fits : IsWritable old lang unit) where
    suggestions_are_put : ArePut first_text (suggestion_rows lang (key_text unit.key) 0 unit.suggestions) (cleared (codes "suggestion")) (new (codes "suggestion"))
    suggestions_are_put =
        are_put first_text (λ id cells. refl) (suggestion_rows lang (key_text unit.key) 0 unit.suggestions) (cleared (codes "suggestion")) (new (codes "suggestion"))
        (suggestions_distinct lang (key_text unit.key) 0 unit.suggestions fits.numbers fits.own) (suggestions_in_turn lang (key_text unit.key) 0 unit.suggestions cleared new puts)

    votes_are_put : ArePut first_texts (vote_rows unit.suggestions) (cleared (codes "vote")) (new (codes "vote"))
    votes_are_put =
        are_put first_texts (λ id cells. refl) (vote_rows unit.suggestions) (cleared (codes "vote")) (new (codes "vote"))
        (votes_distinct unit.suggestions fits.numbers fits.own) (votes_in_turn lang (key_text unit.key) 0 unit.suggestions cleared new puts)

    own_suggestions : suggestions_in new lang (key_text unit.key) ≡ unit.suggestions
    own_suggestions =
        suggestions_put lang (key_text unit.key) unit.suggestions fits.numbers fits.own old cleared new keyed fits.free are_cleared
        suggestions_are_put votes_are_put

    pub unit_put : units_in new ≡ maps.insert (units_in old) (lang, unit.key) unit
    unit_put =
        unit_placed old new lang unit put.row fits.key fits.previous one put.is_row (subst (λ rows. IsPut first_texts (old (codes "unit")) rows put.row) (sym same_units) put.put) own_suggestions
        (suggestions_kept lang (key_text unit.key) unit.suggestions fits.numbers fits.own old cleared new keyed fits.free are_cleared suggestions_are_put votes_are_put)

pub writes_unit_over : (old new : NamedRows) (lang : Text) (unit : Unit) → AreKeyed old → OneEach first_texts (old (codes "unit")) → IsWritable old lang unit
    → WritesUnit lang unit old new → (units_in new ≡ maps.insert (units_in old) (lang, unit.key) unit) × KeepsOthers old new
writes_unit_over old new lang unit keyed one fits (mid, put, (cleared, clear, puts)) =
    (unit_put old new lang unit mid cleared put clear puts keyed one fits, keeps_others old new lang unit mid cleared put clear puts)

pub writes_unit : (old new : NamedRows) (lang : Text) (unit : Unit) → AreOfficeRows old → IsWritable old lang unit → WritesUnit lang unit old new
    → (units_in new ≡ maps.insert (units_in old) (lang, unit.key) unit) × KeepsOthers old new
writes_unit old new lang unit ready fits written =
    writes_unit_over old new lang unit ready.keyed.suggested ready.keyed.one_unit fits written

-- ---- other tables may differ

pub keyed_same : (old new : NamedRows) → new (codes "suggestion") ≡ old (codes "suggestion") → new (codes "vote") ≡ old (codes "vote") → AreKeyed old → AreKeyed new
keyed_same old new suggestions votes it = record {
  one_number = subst (OneEach first_text) (sym suggestions) it.one_number;
  one_place = λ r s in_r in_s. it.one_place r s (subst (λ rows. Has rows r) suggestions in_r) (subst (λ rows. Has rows s) suggestions in_s);
  one_vote = subst (OneEach first_texts) (sym votes) it.one_vote;
  has_suggestion = λ v there.
      let s = it.has_suggestion v (subst (λ rows. Has rows v) votes there) in
      (s.0, subst (λ rows. Has rows s.0) (sym suggestions) s.1, s.2);
}
