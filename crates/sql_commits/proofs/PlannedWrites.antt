-- Writes that leave rows as a schema asks, and units and entries that are written one after the other.
use Rattle.std.proofs.Common.{◌≡◌, ℕ, ◌+◌, ◌<◌, ℤ, pos, List, [], ◌∷◌, ◌++◌, length, take, drop, get_or, zero, suc, Bool, true, false, cond, Option, Some, Result, unwrap_or, refl, sym, ap, subst, ◌∙◌, arith, codes}
use Rattle.std.proofs.lemmas.List.{take_more, length-take, length-append, append_assoc}
use Rattle.sqlite.specs.declared.types.Value.TheVariants.{Int, Text as Words}
use Rattle.sqlite.specs.State.{State}
use Rattle.po_text.specs.declared.entry.Entry.{Entry}
use Rattle.po_text.specs.Texts.{Text}
use Rattle.units.specs.Rules.{plural_field}
use Rattle.units.specs.Units.{key_of, key_text}
use Rattle.units.specs.declared.unit.Unit.{Unit}
use Rattle.template_update.specs.Marks.{unmarked}
use Rattle.office_specification.specs.ProjectActs.{LanguagePlan}
use Rattle.sql_columns.specs.Numbers.{state_number, flag_number}
use Rattle.sql_columns.specs.Written.{texts_text, previous_text, header_text}
use Rattle.sql_schema.specs.Inside.{AreOfficeTablesOf, IsInsideOf, PutsRow, PutsIn, HoldsValues}
use Rattle.sql_schema.specs.Layouts.{by_domain, NamedRows}
use Rattle.sql_meaning.proofs.DomainOfficeRows.{domain_rows}
use Rattle.sql_schema.specs.Keys.{key_texts, first_text, first_three, row_number, domain_place}
use Rattle.sql_schema.specs.Rows.{text_or_null, d_unit_row}
use Rattle.sql_changes.specs.Commits.{PutsNumberedRecord, PutsPolicy, policy_row, language_cells, entry_row, PutsEntry, PutsEntries}
use Rattle.sql_changes.specs.UnitWrites.{LeavesRows, WritesPlanned, WritesUnits, WritesUnitsBack, WritesPlansBack}
use Rattle.sql_commits.specs.Changes.{WritesUnlessStays}
use Rattle.sql_commits.specs.Rows.{PutsPolicyOf, PutsEntryOf, PutsLanguageOf}
use Rattle.sql_commits.proofs.WritesInTurn.{write_left}
use Rattle.sqlite.specs.Order.{Row}
use Rattle.units.specs.declared.unit.Policy.{Policy}
use Rattle.request_book.specs.Acts.{IsNumber}
use Rattle.request_book.specs.Words.{number_text}
use Rattle.request_book.specs.declared.book.Record.{Record}
use Rattle.sql_meaning.specs.Cells.{record_cells, unit_cells}
use Rattle.sql_changes.proofs.DomainWrites.{on_domain_as, on_each_as, record_on_each, policy_on_each, language_on_domain, entry_on_domain}
use Rattle.sqlite.specs.Effect.{Database}
use Rattle.sql_changes.specs.OnDomains.{OnDomain, OnEach}

-- ---- the rows are as a schema asks

module _ (a b : State) {A E : Type 0} (r : Result A E) (domain : Text) (Makes : NamedRows → NamedRows → Type 0) where
  pub leaves_rows : IsInsideOf by_domain a b r (OnDomain domain Makes) → IsInsideOf by_domain a b r (OnDomain domain (LeavesRows Makes))
  leaves_rows = write_left a b r (OnDomain domain Makes) (OnDomain domain (LeavesRows Makes)) (λ ready. on_domain_as domain Makes (LeavesRows Makes) (λ made. (made, domain_rows b.now ready domain)))

  -- and what is known of the value that is written
  pub leaves_with : (F : Type 0) → F → IsInsideOf by_domain a b r (OnDomain domain Makes) → IsInsideOf by_domain a b r (OnDomain domain (λ old new. LeavesRows Makes old new × F))
  leaves_with F fact = write_left a b r (OnDomain domain Makes) (OnDomain domain (λ old new. LeavesRows Makes old new × F)) (λ ready. on_domain_as domain Makes (λ old new. LeavesRows Makes old new × F) (λ made. ((made, domain_rows b.now ready domain), fact)))

  -- two facts
  pub leaves_with_both : (F G : Type 0) → F → G → IsInsideOf by_domain a b r (OnDomain domain Makes) → IsInsideOf by_domain a b r (OnDomain domain (λ old new. LeavesRows Makes old new × F × G))
  leaves_with_both F G first second =
      write_left a b r (OnDomain domain Makes) (OnDomain domain (λ old new. LeavesRows Makes old new × F × G)) (λ ready. on_domain_as domain Makes (λ old new. LeavesRows Makes old new × F × G) (λ made. ((made, domain_rows b.now ready domain), first, second)))

-- ---- one more at the end

pub units_more : (lang : Text) (units : List Unit) (unit : Unit) (old mid new : NamedRows) → WritesUnits lang units old mid → WritesPlanned lang unit mid new → WritesUnits lang (units ++ unit ∷ []) old new
units_more lang [] unit old mid new is one = (new, subst (λ d. WritesPlanned lang unit d new) is one, refl)
units_more lang (first ∷ more) unit old mid new (next, put, rest) one = (next, put, units_more lang more unit next mid new rest one)

pub units_next : (lang : Text) (units : List Unit) (i : ℕ) (unit : Unit) (old mid new : NamedRows) → i < length units → unit ≡ get_or units i unit
    → WritesUnits lang (take i units) old mid → WritesPlanned lang unit mid new → WritesUnits lang (take (i + 1) units) old new
units_next lang units i unit old mid new within is front one =
    let taken : take (i + 1) units ≡ take i units ++ unit ∷ [] = take_more units i unit within ∙ ap (λ v. take i units ++ v ∷ []) (sym is) in
    subst (λ us. WritesUnits lang us old new) (sym taken) (units_more lang (take i units) unit old mid new front one)

entries_more : (place : ℕ) (es : List Entry) (entry : Entry) (old mid new : NamedRows) → PutsEntries place es old mid → PutsEntry (place + length es) entry mid new → PutsEntries place (es ++ entry ∷ []) old new
entries_more place [] entry old mid new is one =
    (new, subst (λ n. PutsEntry n entry old new) (omega arith) (subst (λ d. PutsEntry (place + 0) entry d new) is one), refl)
entries_more place (first ∷ more) entry old mid new (next, put, rest) one =
    (next, put, entries_more (place + 1) more entry next mid new rest (subst (λ n. PutsEntry n entry mid new) (omega arith) one))

pub entries_next : (es : List Entry) (i : ℕ) (entry : Entry) (old mid new : NamedRows) → i < length es → entry ≡ get_or es i entry
    → PutsEntries 0 (take i es) old mid → PutsEntry i entry mid new → PutsEntries 0 (take (i + 1) es) old new
entries_next es i entry old mid new within is front one =
    let taken : take (i + 1) es ≡ take i es ++ entry ∷ [] = take_more es i entry within ∙ ap (λ v. take i es ++ v ∷ []) (sym is) in
    let place : i ≡ 0 + length (take i es) = omega (arith, length-take i es) in
    subst (λ us. PutsEntries 0 us old new) (sym taken) (entries_more 0 (take i es) entry old mid new front (subst (λ n. PutsEntry n entry mid new) place one))

-- ---- from the last on: those behind are written

-- the list is what is left before what is done
abbrev pub IsRest : {X : Type 0} → List X → List X → List X → Type 0
IsRest all left done = all ≡ left ++ done

pub rest_more : {X : Type 0} (all left others done : List X) (last : X) → IsRest all left done → left ≡ others ++ last ∷ [] → IsRest all others (last ∷ done)
rest_more all left others done last is ends = is ∙ ap (λ l. l ++ done) ends ∙ append_assoc others (last ∷ []) done

-- all of a list without marks
none_marked : {X : Type 0} (xs : List X) → unmarked xs [] ≡ xs
none_marked [] = refl
none_marked (x ∷ xs) = refl

-- one more in front, by the mark at its place
unmarked_next : {X : Type 0} (x : X) (xs : List X) (marks : List Bool) (n : ℕ)
    → unmarked (x ∷ xs) (drop n marks) ≡ cond (get_or marks n false) (unmarked xs (drop (suc n) marks)) (x ∷ unmarked xs (drop (suc n) marks))
unmarked_next x xs [] zero = ap (λ ys. x ∷ ys) (sym (none_marked xs))
unmarked_next x xs [] (suc n) = ap (λ ys. x ∷ ys) (sym (none_marked xs))
unmarked_next x xs (true ∷ marks) zero = refl
unmarked_next x xs (false ∷ marks) zero = refl
unmarked_next x xs (mark ∷ marks) (suc n) = unmarked_next x xs marks n

-- what is written of units so far: those behind that don't stay
abbrev pub UnitsBehind : Text → List Bool → List Unit → List Unit → NamedRows → NamedRows → Type 0
UnitsBehind lang stays all left old new = (done : List Unit) × IsRest all left done × WritesUnitsBack lang (unmarked done (drop (length left) stays)) old new

pub units_behind : (lang : Text) (stays : List Bool) (all left others : List Unit) (last : Unit) (is_still : Bool) (old mid new : NamedRows) → left ≡ others ++ last ∷ []
    → is_still ≡ get_or stays (length others) false → UnitsBehind lang stays all left old mid → WritesUnlessStays is_still lang last mid new → UnitsBehind lang stays all others old new
units_behind lang stays all left others last is_still old mid new ends marked (done, is, written) one =
    let size : length left ≡ suc (length others) = omega (arith, ap length ends, length-append others (last ∷ [])) in
    let behind = unmarked done (drop (suc (length others)) stays) in
    let before : WritesUnitsBack lang behind old mid = subst (λ n. WritesUnitsBack lang (unmarked done (drop n stays)) old mid) size written in
    (last ∷ done, rest_more all left others done last is ends, subst (λ us. WritesUnitsBack lang us old new) (sym (unmarked_next last done stays (length others))) (by behind before (get_or stays (length others) false) (subst (λ b. WritesUnlessStays b lang last mid new) marked one)))
  where
    by : (behind : List Unit) → WritesUnitsBack lang behind old mid → (b : Bool) → WritesUnlessStays b lang last mid new → WritesUnitsBack lang (cond b behind (last ∷ behind)) old new
    by behind before true same = subst (λ d. WritesUnitsBack lang behind old d) (sym same) before
    by behind before false own = (mid, before, own)

none_left : {X : Type 0} (all left done : List X) → IsRest all left done → length left ≡ 0 → done ≡ all
none_left all [] done is e = sym is
none_left all (x ∷ left) done is e = absurd (omega arith)

pub units_all : (lang : Text) (stays : List Bool) (all left : List Unit) (old new : NamedRows) → length left ≡ 0 → UnitsBehind lang stays all left old new → WritesUnitsBack lang (unmarked all stays) old new
units_all lang stays all left old new none (done, is, written) = subst (λ us. WritesUnitsBack lang us old new) (λ i. unmarked (none_left all left done is none i) (drop (none i) stays)) written

-- and of plans
abbrev pub PlansBehind : List LanguagePlan → List LanguagePlan → NamedRows → NamedRows → Type 0
PlansBehind all left old new = (done : List LanguagePlan) × IsRest all left done × WritesPlansBack done old new

pub plans_behind : (all left others : List LanguagePlan) (last : LanguagePlan) (units : List Unit) (stays : List Bool) (old mid new : NamedRows) → left ≡ others ++ last ∷ [] → units ≡ last.1.units
    → stays ≡ last.1.stays → PlansBehind all left old mid → WritesUnitsBack last.0 (unmarked units stays) mid new → PlansBehind all others old new
plans_behind all left others last units stays old mid new ends are stay (done, is, written) own =
    (last ∷ done, rest_more all left others done last is ends, (mid, written, subst (λ us. WritesUnitsBack last.0 us mid new) (λ i. unmarked (are i) (stay i)) own))

pub plans_all : (all left : List LanguagePlan) (old new : NamedRows) → length left ≡ 0 → PlansBehind all left old new → WritesPlansBack all old new
plans_all all left old new none (done, is, written) = subst (λ ps. WritesPlansBack ps old new) (none_left all left done is none) written

-- ---- what is written, by the columns that are given

pub language_row_told : (domain name lang code column rule : Text) (header : Entry) (old new : Database) → name ≡ domain → code ≡ lang → column ≡ header_text header → rule ≡ unwrap_or (plural_field (Some header)) []
    → PutsRow (codes "d_language") (key_texts (1 ∷ 2 ∷ [])) (HoldsValues (Words name ∷ Words code ∷ Words column ∷ Words rule ∷ [])) old new → PutsLanguageOf domain lang header old new
language_row_told domain name lang code column rule header old new is_name is_code is_column is_rule put =
    let same : Words name ∷ Words code ∷ Words column ∷ Words rule ∷ [] ≡ Words domain ∷ language_cells lang header = cc in
    subst (λ cells. PutsRow (codes "d_language") (key_texts (1 ∷ 2 ∷ [])) (HoldsValues cells) old new) same put

pub language_told : (domain name lang code column rule : Text) (header : Entry) (old new : Database) → name ≡ domain → code ≡ lang → column ≡ header_text header → rule ≡ unwrap_or (plural_field (Some header)) []
    → AreOfficeTablesOf by_domain old → PutsRow (codes "d_language") (key_texts (1 ∷ 2 ∷ [])) (HoldsValues (Words name ∷ Words code ∷ Words column ∷ Words rule ∷ [])) old new
    → OnDomain domain (PutsIn (codes "language") first_text (HoldsValues (language_cells lang header))) old new
language_told domain name lang code column rule header old new is_name is_code is_column is_rule ready put =
    language_on_domain ready (language_row_told domain name lang code column rule header old new is_name is_code is_column is_rule put)

pub entry_row_told : (domain name : Text) (place : ℕ) (at : ℤ) (key extracted references flags : Text) (plural : Option Text) (entry : Entry) (old new : Database) → name ≡ domain → at ≡ pos place → key ≡ key_text (key_of entry)
    → plural ≡ entry.plural → extracted ≡ texts_text entry.extracted → references ≡ texts_text entry.references → flags ≡ texts_text entry.flags
    → PutsRow (codes "d_template") domain_place (HoldsValues (Words name ∷ Int at ∷ Words key ∷ text_or_null plural ∷ Words extracted ∷ Words references ∷ Words flags ∷ [])) old new
    → PutsEntryOf domain place entry old new
entry_row_told domain name place at key extracted references flags plural entry old new is_name is_at is_key is_plural is_extracted is_references is_flags put =
    let same : Words name ∷ Int at ∷ Words key ∷ text_or_null plural ∷ Words extracted ∷ Words references ∷ Words flags ∷ []
    ≡ Words domain ∷ Int (pos place) ∷ Words (key_text (key_of entry)) ∷ text_or_null entry.plural ∷ Words (texts_text entry.extracted) ∷ Words (texts_text entry.references) ∷ Words (texts_text entry.flags) ∷ [] = cc in
    subst (λ cells. PutsRow (codes "d_template") domain_place (HoldsValues cells) old new) same put

pub entry_told : (domain name : Text) (place : ℕ) (at : ℤ) (key extracted references flags : Text) (plural : Option Text) (entry : Entry) (old new : Database) → name ≡ domain → at ≡ pos place → key ≡ key_text (key_of entry)
    → plural ≡ entry.plural → extracted ≡ texts_text entry.extracted → references ≡ texts_text entry.references → flags ≡ texts_text entry.flags → AreOfficeTablesOf by_domain old
    → PutsRow (codes "d_template") domain_place (HoldsValues (Words name ∷ Int at ∷ Words key ∷ text_or_null plural ∷ Words extracted ∷ Words references ∷ Words flags ∷ [])) old new
    → OnDomain domain (PutsIn (codes "template") row_number (λ row. row ≡ entry_row place entry)) old new
entry_told domain name place at key extracted references flags plural entry old new is_name is_at is_key is_plural is_extracted is_references is_flags ready put =
    entry_on_domain ready (entry_row_told domain name place at key extracted references flags plural entry old new is_name is_at is_key is_plural is_extracted is_references is_flags put)

pub record_told : (row : Record) (number content body : Text) (status : ℤ) (old new : Database) → number ≡ number_text row.number → content ≡ row.content → status ≡ pos row.reply.status → body ≡ row.reply.body
    → IsNumber row.number → PutsRow (codes "record") first_text (HoldsValues (Words number ∷ Words content ∷ Int status ∷ Words body ∷ [])) old new → OnEach (PutsNumberedRecord row) old new
record_told row number content body status old new is_number is_content is_status is_body valid put =
    let same : Words number ∷ Words content ∷ Int status ∷ Words body ∷ [] ≡ record_cells row = cc in
    on_each_as (PutsIn (codes "record") first_text (HoldsValues (record_cells row))) (PutsNumberedRecord row) (λ d made. (made, valid))
    (record_on_each (subst (λ cells. PutsRow (codes "record") first_text (HoldsValues cells) old new) same put))

pub policy_row_told : (policy : Policy) (row : Row) (old new : Database) → row ≡ policy_row policy → PutsRow (codes "policy") row_number (λ r. r ≡ row) old new → PutsPolicyOf policy old new
policy_row_told policy row old new is put = subst (λ cells. PutsRow (codes "policy") row_number (λ r. r ≡ cells) old new) is put

pub policy_told : (policy : Policy) (row : Row) (old new : Database) → row ≡ policy_row policy → PutsRow (codes "policy") row_number (λ r. r ≡ row) old new → OnEach (PutsPolicy policy) old new
policy_told policy row old new is put = policy_on_each (policy_row_told policy row old new is put)

pub unit_told : (domain lang key : Text) (plural : Option Text) (forms : Text) (stored obsolete revision : ℤ) (comment previous : Text) (unit : Unit) (old new : Database) → key ≡ key_text unit.key
    → plural ≡ unit.plural → forms ≡ texts_text unit.forms → stored ≡ state_number unit.state → obsolete ≡ flag_number unit.obsolete → revision ≡ pos unit.revision → comment ≡ texts_text unit.comment
    → previous ≡ previous_text unit.previous
    → PutsRow (codes "d_unit") first_three (HoldsValues (d_unit_row domain lang key plural forms stored obsolete revision comment previous)) old new
    → PutsRow (codes "d_unit") first_three (HoldsValues (Words domain ∷ unit_cells lang unit)) old new
unit_told domain lang key plural forms stored obsolete revision comment previous unit old new is_key is_plural are_forms is_stored is_obsolete is_revision is_comment is_previous put =
    subst (λ (cells : Row). PutsRow (codes "d_unit") first_three (HoldsValues cells) old new)
    (λ i. d_unit_row domain lang (is_key i) (is_plural i) (are_forms i) (is_stored i) (is_obsolete i) (is_revision i) (is_comment i) (is_previous i)) put
