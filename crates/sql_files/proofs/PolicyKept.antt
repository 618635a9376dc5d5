-- The commit of a policy keeps an office's file one: its row, and the units that it unapproves.
use Rattle.std.proofs.Common.{◌≡◌, ◌≢◌, ℕ, ◌+◌, ◌≤◌, ◌^◌, ℤ, pos, negsuc, ◌+ℤ◌, inl, inr, List, [], ◌∷◌, Bool, true, false, Some, refl, sym, ap, subst, ◌∙◌, arith, codes}
use Rattle.std.specs.Prelude.{IsTrue, ◌&&◌, nat_le}
use Rattle.std.specs.FinMap as maps
use Rattle.std.proofs.lemmas.Bool.{and_from, and_parts, lt-ltb, le-leb, leb-true}
use Rattle.sqlite.specs.declared.types.Value.{Value}
use Rattle.sqlite.specs.declared.types.Value.TheVariants.{Null, Int, Real, Text as Words, Blob}
use Rattle.sqlite.specs.Order.{Row, column}
use Rattle.sqlite_sql.specs.Ops.{fits_i64}
use Rattle.sqlite_rules.specs.Edit.{id_in}
use Rattle.sqlite_rules.specs.Lists.{Has}
use Rattle.sql_laws.specs.RowMaps.{OneEach}
use Rattle.sql_laws.proofs.RowMaps.{get-is}
use Rattle.office_specification.specs.OfficeRules.{KeepsRules}
use Rattle.request_book.specs.declared.book.Record.{Record}
use Rattle.sql_columns.specs.Numbers.{flag_number}
use Rattle.units.specs.Limits.{is_accept_at, is_revision, revision_limit}
use Rattle.units.specs.Project.{place_cmp}
use Rattle.units.specs.Orders.{place_total, place_IsAntisymmetric}
use Rattle.units.specs.declared.unit.Policy.{Policy}
use Rattle.sql_schema.specs.Keys.{row_number, columns}
use Rattle.sql_statements.specs.Renewed.{unapproved_row}
use Rattle.sql_meaning.specs.Meaning.{place_of_row, unit_of_row, units_in, policy_in, project_of_rows}
use Rattle.sql_meaning.specs.Domains.{meaning_by_domain}
use Rattle.sql_meaning.specs.Values.{integer_at, natural, natural_at}
use Rattle.sql_meaning.proofs.Units.{by_place}
use Rattle.sql_changes.specs.Commits.{policy_row, PutsPolicy, UnapprovesUnless, MakesPolicy}
use Rattle.sql_changes.proofs.Changed.{Spares, spares_same}
use Rattle.sql_changes.proofs.Policy.{policy_put}
use Rattle.sql_decoding.specs.RowTests.{integer_passes, holds_integer, natural_passes, is_flag, is_state, has_place, has_unit_numbers, has_unit_texts, is_unit, is_policy_row}
use Rattle.sql_decoding.proofs.ColumnsTested.{integer_is, flag_stands, natural_stands}
use Rattle.units.specs.Projects.{IsProject}
use Rattle.sql_adoption.specs.Adoption.{TellsForm}
use Rattle.sql_figures.specs.Figures.{HasFigures}
use Rattle.sql_files.specs.Files.{IsKeepable, StandForAll, IsOfficeDatabase}
use Rattle.sql_files.proofs.Puts.{all_put, template_same, book_same}
use Rattle.sql_files.proofs.UnitKept.{UnitStands, units_step}
use Rattle.sql_files.proofs.InDomains.{SeesNothing, nothing_more, stand_still}
use Rattle.sql_files.proofs.ActKept.{record_step, record_nothing}
use Rattle.sql_schema.specs.Layouts.{by_domain, NamedRows, rows_named}
use Rattle.sql_schema.proofs.Layouts.{names_differ}
use Rattle.sql_meaning.specs.RowKeys.{AreOfficeRows, HoldsIntegers}
use Rattle.sql_meaning.specs.RowChanges.{HaveNextIn}
use Rattle.sql_schema.specs.Inside.{AreOfficeTablesOf}
use Rattle.sqlite.specs.Effect.{Database}
use Rattle.sql_meaning.proofs.DomainOfficeRows.{domain_rows}
use Rattle.sql_changes.specs.OnDomains.{OnDomainsWhere}
use Rattle.sql_schema.specs.SeenRows.{seen_in}

-- ---- the policy's row

abbrev pub PolicyStands : Row → Type 0
PolicyStands row = row_number row ≡ Int (pos 1) → IsTrue (is_policy_row (columns (2 ∷ 3 ∷ 4 ∷ 5 ∷ 6 ∷ 7 ∷ 8 ∷ []) row))

pub policy_stands : (policy : Policy) → is_accept_at policy.accept_at ≡ true → is_policy_row (columns (2 ∷ 3 ∷ 4 ∷ 5 ∷ 6 ∷ 7 ∷ 8 ∷ []) (policy_row policy)) ≡ true
policy_stands policy accepts =
    let shown : Row = columns (2 ∷ 3 ∷ 4 ∷ 5 ∷ 6 ∷ 7 ∷ 8 ∷ []) (policy_row policy) in
    let flag : (at : ℕ) (b : Bool) → column shown at ≡ Int (flag_number b) → holds_integer is_flag at shown ≡ true =
    (λ at b holds. integer_is at shown (flag_number b) holds is_flag true (flag_stands (flag_number b) b refl)) in
    and_from _ _ (flag 1 policy.reviews refl)
    (and_from _ _ (flag 2 policy.guests_suggest refl)
    (and_from _ _ (flag 3 policy.voting refl)
    (and_from _ _ (integer_is 4 shown (pos policy.accept_at) refl (natural_passes is_accept_at) true (natural_stands is_accept_at (pos policy.accept_at) policy.accept_at accepts refl))
    (and_from _ _ (flag 5 policy.placeholders refl) (flag 6 policy.line_ends refl)))))

policy_step : (old new : NamedRows) → ((t : List ℕ) → t ≢ codes "policy" → new t ≡ old t) → TellsForm by_domain new → ((row : Row) → Has (new (codes "policy")) row → PolicyStands row) → StandForAll old → StandForAll new
policy_step old new apart form policy it =
    let template = apart (codes "template") (names_differ refl) in
    record {
      form = form;
      office = record {
        members = λ row there. it.office.members row (subst (λ rows. Has rows row) (apart (codes "team") (names_differ refl)) there);
        policy = policy;
        entries = λ row there. it.office.entries row (subst (λ rows. Has rows row) template there);
        template = template_same old new template it.office.template;
        languages = λ row there. it.office.languages row (subst (λ rows. Has rows row) (apart (codes "language") (names_differ refl)) there);
        units = λ row there. it.office.units row (subst (λ rows. Has rows row) (apart (codes "unit") (names_differ refl)) there);
        suggestions = λ row there. it.office.suggestions row (subst (λ rows. Has rows row) (apart (codes "suggestion") (names_differ refl)) there);
        votes = λ row there. it.office.votes row (subst (λ rows. Has rows row) (apart (codes "vote") (names_differ refl)) there);
      };
      book = book_same old new (apart (codes "record") (names_differ refl)) it.book;
    }

put_step : (policy : Policy) → is_accept_at policy.accept_at ≡ true → (old new : NamedRows) → PutsPolicy policy old new → StandForAll old → StandForAll new
put_step policy accepts old new put it =
    policy_step old new (λ t apart. put.others t apart)
    (put.row, put.put.here, ap row_number put.is_row, ap (λ r. column r 2) put.is_row)
    (all_put row_number PolicyStands (old (codes "policy")) (new (codes "policy")) put.row put.put it.office.policy
    (λ at_one. ap (λ r. is_policy_row (columns (2 ∷ 3 ∷ 4 ∷ 5 ∷ 6 ∷ 7 ∷ 8 ∷ []) r)) put.is_row ∙ policy_stands policy accepts)) it

-- ---- a unit's row that is unapproved

integer_passed : (p : ℤ → Bool) (v : Value) → integer_passes p v ≡ true → (n : ℤ) × (v ≡ Int n) × (p n ≡ true)
integer_passed p Null h = absurd cc
integer_passed p (Int n) h = (n, refl, h)
integer_passed p (Real x) h = absurd cc
integer_passed p (Words text) h = absurd cc
integer_passed p (Blob b) h = absurd cc

natural_passed : (p : ℕ → Bool) (n : ℤ) → natural_passes p n ≡ true → (k : ℕ) × (n ≡ pos k) × (p k ≡ true)
natural_passed p (pos k) h = (k, refl, h)
natural_passed p (negsuc k) h = absurd cc

abbrev unit_columns : Row → Row
unit_columns row = columns (3 ∷ 4 ∷ 5 ∷ 6 ∷ 7 ∷ 8 ∷ 9 ∷ 1 ∷ 2 ∷ []) row

module _ (row : Row) (stands : UnitStands row) where
  parts : (has_place (unit_columns row) ≡ true) × (is_unit (unit_columns row) ≡ true)
  parts = and_parts (has_place (unit_columns row)) (is_unit (unit_columns row)) stands

  unit_parts : (has_unit_numbers (unit_columns row) ≡ true) × (has_unit_texts (unit_columns row) ≡ true)
  unit_parts = and_parts (has_unit_numbers (unit_columns row)) (has_unit_texts (unit_columns row)) parts.1

  numbers : (integer_passes is_flag (column row 6) ≡ true) × (integer_passes (natural_passes is_revision) (column row 7) ≡ true)
  numbers =
      and_parts (integer_passes is_flag (column row 6)) (integer_passes (natural_passes is_revision) (column row 7))
      (and_parts (integer_passes is_state (column row 5)) (integer_passes is_flag (column row 6) && integer_passes (natural_passes is_revision) (column row 7)) unit_parts.0).1

revision_is : (row : Row) → UnitStands row → (k : ℕ) × (column row 7 ≡ Int (pos k)) × (is_revision k ≡ true)
revision_is row stands =
    let whole = integer_passed (natural_passes is_revision) (column row 7) (numbers row stands).1 in
    let it = natural_passed is_revision whole.0 whole.2 in
    (it.0, whole.1 ∙ ap Int it.1, it.2)

next_fits : (row : Row) → UnitStands row → fits_i64 (id_in (column row 7) +ℤ pos 1) ≡ true
next_fits row stands =
    let it = revision_is row stands in
    let most : it.0 ≤ revision_limit = leb-true it.0 revision_limit (and_parts (nat_le 1 it.0) (nat_le it.0 revision_limit) it.2).1 in
    subst (λ v. fits_i64 (id_in v +ℤ pos 1) ≡ true) (sym it.1) (lt-ltb (it.0 + 1) (2 ^ 63) (omega (arith, most)))

unapproved_stands : (row : Row) → UnitStands row → is_revision (natural_at 7 (unapproved_row row)) ≡ true → UnitStands (unapproved_row row)
unapproved_stands row stands revised =
    let it = revision_is row stands in
    let next : natural_passes is_revision (id_in (column row 7) +ℤ pos 1) ≡ true =
    subst (λ v. natural_passes is_revision (id_in v +ℤ pos 1) ≡ true) (sym it.1) (subst (λ v. is_revision (natural (id_in v +ℤ pos 1)) ≡ true) it.1 revised) in
    and_from _ _ (parts row stands).0 (and_from _ _ (and_from _ _ refl (and_from _ _ (numbers row stands).0 next)) (unit_parts row stands).1)

-- ---- what the rules say of the revision of a unit's row

module _ (db : NamedRows) (ready : AreOfficeRows db) (project : IsProject (project_of_rows db)) (row : Row) (there : Has (db (codes "unit")) row) where
  stands_at : maps.get (units_in db) (place_of_row row) ≡ Some (unit_of_row db row)
  stands_at =
      get-is place_cmp place_total place_IsAntisymmetric place_of_row (unit_of_row db) (db (codes "unit")) (place_of_row row) (Some (unit_of_row db row))
      (λ r s in_r in_s e. ready.keyed.one_unit r s in_r in_s (by_place.back r s tt tt e)) (row, there, refl, refl)

  revised : is_revision (natural_at 7 row) ≡ true
  revised =
      let it = (project.each (place_of_row row) (unit_of_row db row) stands_at).revised in
      and_from _ _ (le-leb 1 (natural_at 7 row) it.0) (le-leb (natural_at 7 row) revision_limit it.1)

-- ---- all units

pub next_revisions : (db : NamedRows) → ((row : Row) → Has (db (codes "unit")) row → UnitStands row) → HaveNextIn db
next_revisions db units row there approved = next_fits row (units row there)

module _ (old new : NamedRows) (units : (row : Row) → Has (old (codes "unit")) row → UnitStands row) where
  unapproves_spare : (reviews : Bool) → UnapprovesUnless reviews old new → Spares (codes "unit") old new
  unapproves_spare true is = spares_same (codes "unit") old new is
  unapproves_spare false unapproves = (unapproves (next_revisions old units)).others

  unapproved_units : (reviews : Bool) → UnapprovesUnless reviews old new → AreOfficeRows new → IsProject (project_of_rows new) → (row : Row) → Has (new (codes "unit")) row → UnitStands row
  unapproved_units true is ready project row there = units row (subst (λ rows. Has rows row) (ap (λ (d : NamedRows). d (codes "unit")) is) there)
  unapproved_units false unapproves ready project row there = elim ((unapproves (next_revisions old units)).rows.only row there) [
    | inl was ↦ units row was.0
    | inr made ↦
        subst UnitStands (sym made.3)
        (unapproved_stands made.0 (units made.0 made.1) (subst (λ r. is_revision (natural_at 7 r) ≡ true) made.3 (revised new ready project row there)))
  ]

unapproved_step : (old new : NamedRows) (reviews : Bool) → UnapprovesUnless reviews old new → AreOfficeRows new → IsProject (project_of_rows new) → StandForAll old → StandForAll new
unapproved_step old new reviews made ready project it =
    let same = unapproves_spare old new it.office.units reviews made in
    units_step old new (λ t no_unit no_suggestion no_vote. same t no_unit) (unapproved_units old new it.office.units reviews made ready project)
    (λ row there. it.office.suggestions row (subst (λ rows. Has rows row) (same (codes "suggestion") (names_differ refl)) there))
    (λ row there. it.office.votes row (subst (λ rows. Has rows row) (same (codes "vote") (names_differ refl)) there))
    it

-- ---- the commit

module _ (mid next after : NamedRows) (policy : Policy) (put : PutsPolicy policy mid next) (made : UnapprovesUnless policy.reviews next after)
    (ready : AreOfficeRows after) (project : IsProject (project_of_rows after))
    (one : OneEach (integer_at 0) (mid (codes "policy"))) (whole : HoldsIntegers 0 (mid (codes "policy"))) where
  units_there_next : StandForAll mid → (row : Row) → Has (next (codes "unit")) row → UnitStands row
  units_there_next it row there = it.office.units row (subst (λ rows. Has rows row) (put.others (codes "unit") (names_differ refl)) there)

  accepts : StandForAll mid → is_accept_at policy.accept_at ≡ true
  accepts it =
      let same = unapproves_spare next after (units_there_next it) policy.reviews made (codes "policy") (names_differ refl) in
      let is : policy_in after ≡ policy = ap (λ (rows : List Row). policy_in (λ name. rows)) same ∙ policy_put mid next policy one whole put in
      subst (λ (p : Policy). is_accept_at p.accept_at ≡ true) is project.accepting

  changed_step : StandForAll mid → StandForAll after
  changed_step it = unapproved_step next after policy.reviews made ready project (put_step policy (accepts it) mid next put it)

stand_after_policy : (old new : NamedRows) (row : Record) (policy : Policy) → MakesPolicy row policy old new → AreOfficeRows old → AreOfficeRows new
    → IsKeepable row → IsProject (project_of_rows new) → StandForAll old → StandForAll new
stand_after_policy old new row policy (mid, recorded, (next, put, made)) ready is_ready keepable project all =
    let policies = sym (recorded.0.others (codes "policy") (names_differ refl)) in
    let one = subst (OneEach (integer_at 0)) policies ready.keyed.one_policy in
    let whole = subst (HoldsIntegers 0) policies ready.typed.policy_numbers in
    changed_step mid next new policy put made is_ready project one whole (record_step old mid row recorded keepable all)

-- where no unit is, none is unapproved
unapproved_nothing : (old new : NamedRows) (reviews : Bool) → UnapprovesUnless reviews old new → SeesNothing old → SeesNothing new
unapproved_nothing old new true is none = subst SeesNothing (sym is) none
unapproved_nothing old new false unapproves none =
    let made = unapproves (λ row there approved. absurd (none.units row there)) in
    record {
      entries = λ row there. none.entries row (subst (λ rows. Has rows row) (made.others (codes "template") (names_differ refl)) there);
      languages = λ row there. none.languages row (subst (λ rows. Has rows row) (made.others (codes "language") (names_differ refl)) there);
      units = λ row there. elim (made.rows.only row there) [ inl was ↦ none.units row was.0 | inr made ↦ none.units made.0 made.1 ];
      suggestions = λ row there. none.suggestions row (subst (λ rows. Has rows row) (made.others (codes "suggestion") (names_differ refl)) there);
    }

policy_nothing : (old new : NamedRows) (row : Record) (policy : Policy) → MakesPolicy row policy old new → SeesNothing old → SeesNothing new
policy_nothing old new row policy (mid, recorded, (next, put, made)) none =
    unapproved_nothing next new policy.reviews made
    (nothing_more mid next (put.others (codes "template") (names_differ refl)) (put.others (codes "language") (names_differ refl)) (put.others (codes "unit") (names_differ refl))
    (put.others (codes "suggestion") (names_differ refl)) (record_nothing old mid row recorded none))

pub policy_keeps : (old new : Database) (row : Record) (policy : Policy) → OnDomainsWhere HaveNextIn (λ domain. MakesPolicy row policy) old new → AreOfficeTablesOf by_domain new
    → IsKeepable row → KeepsRules (meaning_by_domain (rows_named new)) → HasFigures (rows_named new) → IsOfficeDatabase by_domain old → IsOfficeDatabase by_domain new
policy_keeps old new row policy it ready keepable rules figures file =
    stand_still old new ready rules figures file it (λ domain. next_revisions (seen_in domain (rows_named old)) (file.rows.office.each domain).units)
    (λ domain missing made none. policy_nothing (seen_in domain (rows_named old)) (seen_in domain (rows_named new)) row policy made none)
    (λ domain project made.
    stand_after_policy (seen_in domain (rows_named old)) (seen_in domain (rows_named new)) row policy made (domain_rows old file.ready domain) (domain_rows new ready domain) keepable project)
