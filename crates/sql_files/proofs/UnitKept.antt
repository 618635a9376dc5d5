-- A unit that is written, with its suggestions and the votes on them, leaves rows that stand for values; so does what an act writes of one, and so do the units of
-- plans.
use Rattle.std.proofs.Common.{◌≡◌, ◌≢◌, inl, inr, ℕ, ◌+◌, pos, List, [], ◌∷◌, map, Bool, true, false, Option, Some, None, arith, refl, sym, subst, codes}
use Rattle.std.specs.Prelude.{IsTrue, IfSome, IsUtf8}
use Rattle.std.specs.FinMap as maps
use Rattle.std.proofs.lemmas.Bool.{and_from}
use Rattle.sqlite.specs.declared.types.Value.TheVariants.{Null, Int, Text as Words}
use Rattle.sqlite.specs.Order.{Row}
use Rattle.sqlite_rules.specs.Lists.{Has}
use Rattle.po_text.specs.Strings.{is_string}
use Rattle.po_text.specs.Texts.{Text}
use Rattle.request_book.specs.Acts.{IsNumber, vote_number}
use Rattle.request_book.specs.Words.{number_text}
use Rattle.office_specification.specs.ProjectActs.{LanguagePlan}
use Rattle.office_specification.specs.declared.values.UnitWrite.{UnitWrite}
use Rattle.office_specification.specs.declared.values.UnitWrite.TheVariants as writes
use Rattle.sql_columns.specs.Numbers.{state_number, flag_number}
use Rattle.sql_columns.specs.Written.{texts_text, previous_text}
use Rattle.units.specs.Limits.{is_name, is_lang, is_revision}
use Rattle.units.specs.Units.{key_text}
use Rattle.units.specs.declared.unit.Key.{Key}
use Rattle.units.specs.declared.unit.Suggestion.{Suggestion}
use Rattle.units.specs.declared.unit.Unit.{Unit}
use Rattle.units.specs.declared.votes.VoteValue.{VoteValue}
use Rattle.sql_schema.specs.Inside.{PutsIn, HoldsValues}
use Rattle.sql_schema.specs.Keys.{first_text, first_texts, columns}
use Rattle.sql_schema.specs.Rows.{text_or_null}
use Rattle.sql_meaning.specs.Cells.{unit_cells, suggestion_cells, vote_cells}
use Rattle.sql_meaning.specs.Written.{PutsRows}
use Rattle.sql_changes.specs.OnDomains.{MakesIf}
use Rattle.sql_changes.specs.UnitWrites.{HaveNumbers, AddsSuggestion, AddsSuggestions, WritesNumberedUnit, PutsVote, is_suggested, WritesOfUnit, WritesUnits, WritesUnitsBack, WritesPlansBack}
use Rattle.sql_decoding.specs.RowTests.{any_text, holds_text_or_null, is_number, is_key, are_texts, are_forms, are_previous, is_state, is_flag, is_vote, natural_passes, is_unit_row, is_suggestion_row, is_vote_row}
use Rattle.sql_decoding.proofs.ColumnsTested.{text_stands, some_stands, null_stands, integer_is, number_stands, key_stands, texts_stand, forms_stand, previous_stand, state_stands, flag_stands, vote_stands, natural_stands}
use Rattle.template_update.specs.Marks.{unmarked}
use Rattle.sql_keepable.specs.Keepable.{IsKeepableUnit, IsKeepableSuggestion, AreKeepableUnits, AreKeepablePlans}
use Rattle.sql_files.specs.Files.{StandForAll, IsKeepableWrite}
use Rattle.sql_files.proofs.Puts.{all_put, template_same, form_same, book_same}
use Rattle.sql_files.proofs.RecordKept.{number_utf8}
use Rattle.sql_schema.specs.Layouts.{NamedRows}
use Rattle.sql_schema.proofs.Layouts.{names_differ}
use Rattle.sql_meaning.specs.RowChanges.{TakesIn, ClearsIn}

abbrev pub UnitStands : Row → Type 0
UnitStands row = IsTrue (is_unit_row (columns (3 ∷ 4 ∷ 5 ∷ 6 ∷ 7 ∷ 8 ∷ 9 ∷ 1 ∷ 2 ∷ []) row))

abbrev pub SuggestionStands : Row → Type 0
SuggestionStands row = IsTrue (is_suggestion_row (columns (1 ∷ 4 ∷ 5 ∷ 6 ∷ 2 ∷ 3 ∷ []) row))

abbrev pub VoteStands : Row → Type 0
VoteStands row = IsTrue (is_vote_row (columns (2 ∷ 3 ∷ 1 ∷ []) row))

-- ---- rows

pub plural_stands : (o : Option Text) (more : Row) → IfSome o (λ text. (is_string text ≡ true) × IsUtf8 text) → holds_text_or_null is_string 0 (text_or_null o ∷ more) ≡ true
plural_stands (Some text) more it = some_stands 0 (Words text ∷ more) text refl is_string (omega arith) it.1 it.0
plural_stands None more it = null_stands 0 (Null ∷ more) (omega arith) refl is_string

module _ (lang : Text) (unit : Unit) (fits : IsKeepableUnit lang unit) where
  abbrev shown_unit : Row
  shown_unit =
      text_or_null unit.plural ∷ Words (texts_text unit.forms) ∷ Int (state_number unit.state) ∷ Int (flag_number unit.obsolete) ∷ Int (pos unit.revision)
      ∷ Words (texts_text unit.comment) ∷ Words (previous_text unit.previous) ∷ Words lang ∷ Words (key_text unit.key) ∷ []

  pub unit_stands : is_unit_row shown_unit ≡ true
  unit_stands =
      and_from _ _
      (and_from _ _ (text_stands 7 shown_unit lang refl is_lang fits.language.1 fits.language.0)
      (text_stands 8 shown_unit (key_text unit.key) refl is_key fits.key_column (key_stands (key_text unit.key) unit.key fits.key refl)))
      (and_from _ _
      (and_from _ _ (integer_is 2 shown_unit (state_number unit.state) refl is_state true (state_stands (state_number unit.state) unit.state refl))
      (and_from _ _ (integer_is 3 shown_unit (flag_number unit.obsolete) refl is_flag true (flag_stands (flag_number unit.obsolete) unit.obsolete refl))
      (integer_is 4 shown_unit (pos unit.revision) refl (natural_passes is_revision) true (natural_stands is_revision (pos unit.revision) unit.revision fits.revision refl))))
      (and_from _ _ (plural_stands unit.plural (Words (texts_text unit.forms) ∷ Int (state_number unit.state) ∷ Int (flag_number unit.obsolete) ∷ Int (pos unit.revision)
      ∷ Words (texts_text unit.comment) ∷ Words (previous_text unit.previous) ∷ Words lang ∷ Words (key_text unit.key) ∷ []) fits.plural)
      (and_from _ _ (text_stands 1 shown_unit (texts_text unit.forms) refl are_forms fits.forms_column (forms_stand (texts_text unit.forms) unit.forms fits.forms refl))
      (and_from _ _ (text_stands 5 shown_unit (texts_text unit.comment) refl are_texts fits.comment_column (texts_stand (texts_text unit.comment) unit.comment refl))
      (text_stands 6 shown_unit (previous_text unit.previous) refl are_previous fits.previous_column (previous_stand (previous_text unit.previous) unit.previous fits.previous refl))))))

module _ (lang key : Text) (lang_text : IsUtf8 lang) (key_column : IsUtf8 key) where
  module _ (place : ℕ) (s : Suggestion) (valid : IsNumber s.number) (fits : IsKeepableSuggestion s) where
    abbrev shown_suggestion : Row
    shown_suggestion = Words (number_text s.number) ∷ Int (pos place) ∷ Words s.suggester ∷ Words (texts_text s.forms) ∷ Words lang ∷ Words key ∷ []

    pub suggestion_stands : is_suggestion_row shown_suggestion ≡ true
    suggestion_stands =
        and_from _ _ (and_from _ _ (text_stands 4 shown_suggestion lang refl any_text lang_text refl) (text_stands 5 shown_suggestion key refl any_text key_column refl))
        (and_from _ _ (text_stands 0 shown_suggestion (number_text s.number) refl is_number (number_utf8 s.number) (number_stands (number_text s.number) s.number valid refl))
        (and_from _ _ (text_stands 2 shown_suggestion s.suggester refl is_name fits.suggester.1 fits.suggester.0)
        (text_stands 3 shown_suggestion (texts_text s.forms) refl are_forms fits.forms_column (forms_stand (texts_text s.forms) s.forms fits.forms refl))))

pub vote_stands_on : (number : Text) (vote : Text × VoteValue) → (is_name vote.0 ≡ true) × IsUtf8 vote.0
    → is_vote_row (Words vote.0 ∷ Int (vote_number (Some vote.1)) ∷ Words (number_text number) ∷ []) ≡ true
vote_stands_on number vote fits =
    let shown : Row = Words vote.0 ∷ Int (vote_number (Some vote.1)) ∷ Words (number_text number) ∷ [] in
    and_from _ _ (text_stands 2 shown (number_text number) refl any_text (number_utf8 number) refl)
    (and_from _ _ (text_stands 0 shown vote.0 refl is_name fits.1 fits.0) (integer_is 1 shown (vote_number (Some vote.1)) refl is_vote true (vote_stands (vote_number (Some vote.1)) vote.1 refl)))

-- ---- steps: what is no unit's stays

module _ (old new : NamedRows) (apart : (t : List ℕ) → t ≢ codes "unit" → t ≢ codes "suggestion" → t ≢ codes "vote" → new t ≡ old t) where
  pub units_step : ((row : Row) → Has (new (codes "unit")) row → UnitStands row) → ((row : Row) → Has (new (codes "suggestion")) row → SuggestionStands row)
      → ((row : Row) → Has (new (codes "vote")) row → VoteStands row) → StandForAll old → StandForAll new
  units_step units suggestions votes it =
      let policy = apart (codes "policy") (names_differ refl) (names_differ refl) (names_differ refl) in
      record {
        form = form_same old new policy it.form;
        office = record {
          members = λ row there. it.office.members row (subst (λ rows. Has rows row) (apart (codes "team") (names_differ refl) (names_differ refl) (names_differ refl)) there);
          policy = λ row there. it.office.policy row (subst (λ rows. Has rows row) policy there);
          entries = λ row there. it.office.entries row (subst (λ rows. Has rows row) (apart (codes "template") (names_differ refl) (names_differ refl) (names_differ refl)) there);
          template = template_same old new (apart (codes "template") (names_differ refl) (names_differ refl) (names_differ refl)) it.office.template;
          languages = λ row there. it.office.languages row (subst (λ rows. Has rows row) (apart (codes "language") (names_differ refl) (names_differ refl) (names_differ refl)) there);
          units = units;
          suggestions = suggestions;
          votes = votes;
        };
        book = book_same old new (apart (codes "record") (names_differ refl) (names_differ refl) (names_differ refl)) it.book;
      }

  still : (name : List ℕ) (P : Row → Type 0) → new name ≡ old name → ((row : Row) → Has (old name) row → P row) → (row : Row) → Has (new name) row → P row
  still name P same each row there = each row (subst (λ rows. Has rows row) same there)

unit_step : (lang : Text) (unit : Unit) → IsKeepableUnit lang unit → (old new : NamedRows) → PutsIn (codes "unit") first_texts (HoldsValues (unit_cells lang unit)) old new
    → StandForAll old → StandForAll new
unit_step lang unit fits old new put it =
    units_step old new (λ t no_unit no_suggestion no_vote. put.others t no_unit)
    (all_put first_texts UnitStands (old (codes "unit")) (new (codes "unit")) put.row put.put it.office.units (subst UnitStands (sym put.is_row.1) (unit_stands lang unit fits)))
    (λ row there. it.office.suggestions row (subst (λ rows. Has rows row) (put.others (codes "suggestion") (names_differ refl)) there))
    (λ row there. it.office.votes row (subst (λ rows. Has rows row) (put.others (codes "vote") (names_differ refl)) there))
    it

suggestion_step : (lang key : Text) → IsUtf8 lang → IsUtf8 key → (place : ℕ) (s : Suggestion) → IsNumber s.number → IsKeepableSuggestion s → (old new : NamedRows)
    → PutsIn (codes "suggestion") first_text (HoldsValues (suggestion_cells lang key place s)) old new → StandForAll old → StandForAll new
suggestion_step lang key lang_text key_column place s valid fits old new put it =
    units_step old new (λ t no_unit no_suggestion no_vote. put.others t no_suggestion)
    (λ row there. it.office.units row (subst (λ rows. Has rows row) (put.others (codes "unit") (names_differ refl)) there))
    (all_put first_text SuggestionStands (old (codes "suggestion")) (new (codes "suggestion")) put.row put.put it.office.suggestions
    (subst SuggestionStands (sym put.is_row.1) (suggestion_stands lang key lang_text key_column place s valid fits)))
    (λ row there. it.office.votes row (subst (λ rows. Has rows row) (put.others (codes "vote") (names_differ refl)) there))
    it

vote_step : (number : Text) (vote : Text × VoteValue) → (is_name vote.0 ≡ true) × IsUtf8 vote.0 → (old new : NamedRows)
    → PutsIn (codes "vote") first_texts (HoldsValues (vote_cells (number_text number) vote)) old new → StandForAll old → StandForAll new
vote_step number vote fits old new put it =
    units_step old new (λ t no_unit no_suggestion no_vote. put.others t no_vote)
    (λ row there. it.office.units row (subst (λ rows. Has rows row) (put.others (codes "unit") (names_differ refl)) there))
    (λ row there. it.office.suggestions row (subst (λ rows. Has rows row) (put.others (codes "suggestion") (names_differ refl)) there))
    (all_put first_texts VoteStands (old (codes "vote")) (new (codes "vote")) put.row put.put it.office.votes (subst VoteStands (sym put.is_row.1) (vote_stands_on number vote fits)))
    it

votes_step : (number : Text) (votes : List (Text × VoteValue)) → ((vote : Text × VoteValue) → Has votes vote → (is_name vote.0 ≡ true) × IsUtf8 vote.0) → (old new : NamedRows)
    → PutsRows (codes "vote") first_texts (map (vote_cells (number_text number)) votes) old new → StandForAll old → StandForAll new
votes_step number [] fits old new is it = subst StandForAll (sym is) it
votes_step number (vote ∷ more) fits old new (mid, put, rest) it =
    votes_step number more (λ v there. fits v (inr there)) mid new rest (vote_step number vote (fits vote (inl refl)) old mid put it)

suggestion_added : (lang key : Text) → IsUtf8 lang → IsUtf8 key → (place : ℕ) (s : Suggestion) → IsNumber s.number → IsKeepableSuggestion s → (old new : NamedRows)
    → AddsSuggestion lang key place s old new → StandForAll old → StandForAll new
suggestion_added lang key lang_text key_column place s valid fits old new (after, adds, votes) it =
    votes_step s.number (maps.entries s.votes) fits.voters after new votes (suggestion_step lang key lang_text key_column place s valid fits old after adds.puts it)

suggestions_step : (lang key : Text) → IsUtf8 lang → IsUtf8 key → (place : ℕ) (ss : List Suggestion) → HaveNumbers ss → ((s : Suggestion) → Has ss s → IsKeepableSuggestion s)
    → (old new : NamedRows) → AddsSuggestions lang key place ss old new → StandForAll old → StandForAll new
suggestions_step lang key lang_text key_column place [] valid fits old new is it = subst StandForAll (sym is) it
suggestions_step lang key lang_text key_column place (s ∷ more) valid fits old new (mid, adds, rest) it =
    suggestions_step lang key lang_text key_column (place + 1) more (λ x there. valid x (inr there)) (λ x there. fits x (inr there)) mid new rest
    (suggestion_added lang key lang_text key_column place s (valid s (inl refl)) (fits s (inl refl)) old mid adds it)

cleared_step : (lang key : Text) (old new : NamedRows) → ClearsIn lang key old new → StandForAll old → StandForAll new
cleared_step lang key old new clears it =
    units_step old new apart
    (λ row there. it.office.units row (subst (λ rows. Has rows row) (same (codes "unit") (names_differ refl) (names_differ refl)) there))
    (λ row there. it.office.suggestions row (clears.suggestions.only row there).0)
    (λ row there. it.office.votes row (clears.votes_only row there).0)
    it
  where
    same : (t : List ℕ) → t ≢ codes "suggestion" → t ≢ codes "vote" → new t ≡ old t
    same t no_suggestion no_vote = clears.others t no_suggestion no_vote

    apart : (t : List ℕ) → t ≢ codes "unit" → t ≢ codes "suggestion" → t ≢ codes "vote" → new t ≡ old t
    apart t no_unit no_suggestion no_vote = same t no_suggestion no_vote

pub unit_keeps : (lang : Text) (unit : Unit) → IsKeepableUnit lang unit → (old new : NamedRows) → WritesNumberedUnit lang unit old new → StandForAll old → StandForAll new
unit_keeps lang unit fits old new (first, put, (second, clears, (adds, valid))) it =
    suggestions_step lang (key_text unit.key) fits.language.1 fits.key_column 0 unit.suggestions valid fits.suggestions second new adds
    (cleared_step lang (key_text unit.key) first second clears (unit_step lang unit fits old first put it))

-- ---- what an act writes of a unit

vote_taken : (test : Row → Bool) (old new : NamedRows) → TakesIn (codes "vote") test old new → StandForAll old → StandForAll new
vote_taken test old new takes it =
    units_step old new (λ t no_unit no_suggestion no_vote. takes.others t no_vote)
    (λ row there. it.office.units row (subst (λ rows. Has rows row) (takes.others (codes "unit") (names_differ refl)) there))
    (λ row there. it.office.suggestions row (subst (λ rows. Has rows row) (takes.others (codes "suggestion") (names_differ refl)) there))
    (λ row there. it.office.votes row (takes.rows.only row there).0)
    it

vote_put : (number voter : Text) (value : Option VoteValue) → (is_name voter ≡ true) × IsUtf8 voter → (old new : NamedRows) → PutsVote number voter value old new → StandForAll old → StandForAll new
vote_put number voter (Some value) fits old new put it = vote_step number (voter, value) fits old new put it
vote_put number voter None fits old new takes it = vote_taken _ old new takes it

vote_written : (number voter : Text) (value : Option VoteValue) → (is_name voter ≡ true) × IsUtf8 voter → (there : Bool) (old new : NamedRows)
    → MakesIf there (PutsVote number voter value) (λ before after. after ≡ before) old new → StandForAll old → StandForAll new
vote_written number voter value fits true old new put it = vote_put number voter value fits old new put it
vote_written number voter value fits false old new is it = subst StandForAll (sym is) it

pub write_keeps : (lang : Text) (key : Key) (write : UnitWrite) → IsKeepableWrite lang key write → (old new : NamedRows) → WritesOfUnit lang key write old new → StandForAll old → StandForAll new
write_keeps lang key (writes.Whole view) fits old new it all = unit_keeps lang view.unit fits old new it all
write_keeps lang key (writes.Row view) fits old new it all = unit_step lang view.unit fits old new it all
write_keeps lang key (writes.Suggested s) fits old new (place, before, (adds, valid)) all = suggestion_added lang (key_text key) fits.0.1 fits.1 place s valid fits.2 old new adds all
write_keeps lang key (writes.Voted number voter value sum) fits old new it all = vote_written number voter value fits (is_suggested lang (key_text key) number old) old new it.0 all

-- ---- units of a plan, one after the other

pub units_keep : (lang : Text) (units : List Unit) → AreKeepableUnits lang units → (old new : NamedRows) → WritesUnits lang units old new → StandForAll old → StandForAll new
units_keep lang [] fits old new is it = subst StandForAll (sym is) it
units_keep lang (unit ∷ more) fits old new (mid, one, rest) it =
    units_keep lang more (λ u there. fits u (inr there)) mid new rest (unit_keeps lang unit (fits unit (inl refl)) old mid one.0.0 it)

units_keep_back : (lang : Text) (units : List Unit) → AreKeepableUnits lang units → (old new : NamedRows) → WritesUnitsBack lang units old new → StandForAll old → StandForAll new
units_keep_back lang [] fits old new is it = subst StandForAll (sym is) it
units_keep_back lang (unit ∷ more) fits old new (mid, rest, one) it =
    unit_keeps lang unit (fits unit (inl refl)) mid new one.0.0 (units_keep_back lang more (λ u there. fits u (inr there)) old mid rest it)

has_unmarked : (units : List Unit) (stays : List Bool) (unit : Unit) → Has (unmarked units stays) unit → Has units unit
has_unmarked [] stays unit there = there
has_unmarked (u ∷ units) [] unit there = there
has_unmarked (u ∷ units) (true ∷ stays) unit there = inr (has_unmarked units stays unit there)
has_unmarked (u ∷ units) (false ∷ stays) unit (inl is) = inl is
has_unmarked (u ∷ units) (false ∷ stays) unit (inr later) = inr (has_unmarked units stays unit later)

pub plans_keep : (plans : List LanguagePlan) → AreKeepablePlans plans → (old new : NamedRows) → WritesPlansBack plans old new
    → StandForAll old → StandForAll new
plans_keep [] fits old new is it = subst StandForAll (sym is) it
plans_keep (p ∷ more) fits old new (mid, rest, own) it =
    units_keep_back p.0 (unmarked p.1.units p.1.stays) (λ unit there. fits p (inl refl) unit (has_unmarked p.1.units p.1.stays unit there)) mid new own (plans_keep more (λ q there. fits q (inr there)) old mid rest it)
