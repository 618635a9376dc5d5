-- What a sink was handed of the records, by what the walk over their rows handed it.
use Rattle.std.proofs.Common.{inl, inr, ◌++◌, List, [], ◌∷◌, Option, refl, sym, subst}
use Rattle.sqlite.specs.Order.{Row}
use Rattle.sqlite.specs.Effect.{Database}
use Rattle.po_text.specs.Texts.{Text}
use Rattle.tables.specs.declared.faults.Lost.{Lost}
use Rattle.sql_streams.specs.Walks.{GaveAll, GaveSome, GaveUpTo, CutShort}
use Rattle.sql_streams.specs.declared.walking.WalkFault.{WalkFault}
use Rattle.sql_streams.specs.declared.walking.WalkFault.TheVariants.{NoRows, NoSink as RowRefused}
use Rattle.store_sql.specs.declared.recorded.HandingFault.{HandingFault}
use Rattle.store_sql.specs.declared.recorded.HandingFault.TheVariants.{NoTables}
use Rattle.store_sql.specs.RecordsBehind.{AreBehind, IsTold, WereCut}

module _ {K R : Type 0} (Took : K → List Row → K → Type 0) (Refuses : K → Row → R → K → Type 0) (after : Option Text) (db : Database) where
  -- nothing was handed
  pub none_handed : ((s : K) → Took s [] s) → (first : K) (lost : Lost) → WereCut Took Refuses after db first first (NoTables lost)
  none_handed none first lost = record { front = []; rest = []; answer = inl refl; took = none first }

  -- `are`: an answer of the query is what is to be handed
  module _ (IsAnswer : List Row → Type 0) (are : (rows : List Row) → IsAnswer rows → AreBehind after db rows) (first last : K) where
    pub all_handed : GaveAll Took IsAnswer first last → GaveAll Took (AreBehind after db) first last
    all_handed h = record { rows = h.rows; answer = are h.rows h.answer; took = h.took }

    some_handed : GaveSome Took IsAnswer first last → GaveSome Took (AreBehind after db) first last
    some_handed h = record {
      front = h.front;
      rest = h.rest;
      answer = elim h.answer [ inl none ↦ inl none | inr answer ↦ inr (are (h.front ++ h.rest) answer) ];
      took = h.took;
    }

    handed_up_to : (refusal : R) → GaveUpTo Took Refuses IsAnswer first last refusal → GaveUpTo Took Refuses (AreBehind after db) first last refusal
    handed_up_to refusal h = record { front = h.front; row = h.row; rest = h.rest; mid = h.mid; answer = are (h.front ++ h.row ∷ h.rest) h.answer; took = h.took; refused = h.refused }

    pub cut_handed : (fault : WalkFault R) (told : HandingFault R) → IsTold fault told → CutShort Took Refuses IsAnswer first last fault → WereCut Took Refuses after db first last told
    cut_handed (NoRows error) told is h = subst (WereCut Took Refuses after db first last) (sym is.1) (some_handed h)
    cut_handed (RowRefused refusal) told is h = subst (WereCut Took Refuses after db first last) (sym is) (handed_up_to refusal h)
