-- What the commit of a policy makes of the office with its book.
use Rattle.std.proofs.Common.{◌≡◌, List, map, Bool, true, false, if◌then◌else◌, pos, ◌+ℤ◌, sym, ap, subst, ◌∙◌, codes, refl}
use Rattle.std.specs.FinMap as maps
use Rattle.sqlite.specs.Order.{Row, column}
use Rattle.sqlite_sql.specs.Ops.{fits_i64}
use Rattle.sqlite_rules.specs.Edit.{id_in}
use Rattle.sqlite_rules.specs.Lists.{Has}
use Rattle.sql_laws.specs.RowMaps.{OneEach}
use Rattle.sql_meaning.specs.Values.{integer_at}
use Rattle.units.specs.Changes.{unapproved, with_policy, office_under}
use Rattle.units.specs.Project.{Place}
use Rattle.units.specs.declared.unit.Policy.{Policy}
use Rattle.units.specs.declared.unit.Unit.{Unit}
use Rattle.office_specification.specs.MainAlone.{main_alone}
use Rattle.office_specification.specs.OfficeRules.{KeepsRules}
use Rattle.office_specification.proofs.domains.MainAlone.{policy-main}
use Rattle.request_book.specs.Book.{with_record}
use Rattle.request_book.specs.declared.book.Record.{Record}
use Rattle.sql_statements.specs.Renewed.{is_approved_row, unapproved_row, AreRenewed}
use Rattle.sql_meaning.specs.Meaning.{AreNumbered, book_in, template_in, headers_in, team_in, policy_in, units_in, project_of_rows, meaning_in}
use Rattle.sql_changes.specs.Commits.{PutsNumberedRecord, PutsPolicy, UnapprovesUnless, MakesPolicy}
use Rattle.sql_changes.proofs.Changed.{Spares, spares_same, units_same, suggestions_same, commits_change}
use Rattle.sql_changes.proofs.Policy.{policy_put}
use Rattle.sql_changes.proofs.Units.{entries_back, units_unapproved, has_next}
use Rattle.sql_schema.proofs.Layouts.{names_differ}
use Rattle.sql_schema.specs.Layouts.{NamedRows}
use Rattle.sql_meaning.specs.RowKeys.{AreOfficeRows, HoldsIntegers}
use Rattle.sql_meaning.specs.RowChanges.{RenewsIn, UnapprovesIn}

module _ (old mid next after : NamedRows) (row : Record) (policy : Policy) (ready : AreOfficeRows old) (is_ready : AreOfficeRows after) (rules : KeepsRules (meaning_in old))
    (recorded : PutsNumberedRecord row old mid) (put : PutsPolicy policy mid next) where
  units_before : next (codes "unit") ≡ old (codes "unit")
  units_before = put.others (codes "unit") (names_differ refl) ∙ recorded.0.others (codes "unit") (names_differ refl)

  -- the units' rows, where they were renewed or not
  module _ (others : Spares (codes "unit") next after) where
    suggestions_stay : after (codes "suggestion") ≡ old (codes "suggestion")
    suggestions_stay = others (codes "suggestion") (names_differ refl) ∙ put.others (codes "suggestion") (names_differ refl) ∙ recorded.0.others (codes "suggestion") (names_differ refl)

    votes_stay : after (codes "vote") ≡ old (codes "vote")
    votes_stay = others (codes "vote") (names_differ refl) ∙ put.others (codes "vote") (names_differ refl) ∙ recorded.0.others (codes "vote") (names_differ refl)

    office_is : units_in after ≡ (with_policy (project_of_rows old) policy).units → project_of_rows after ≡ with_policy (project_of_rows old) policy
    office_is units =
        let team : team_in after ≡ team_in old = ap (λ (rows : List Row). team_in (λ name. rows)) (others (codes "team") (names_differ refl) ∙ put.others (codes "team") (names_differ refl) ∙ recorded.0.others (codes "team") (names_differ refl)) in
        let template : template_in after ≡ template_in old =
        ap (λ (rows : List Row). template_in (λ name. rows)) (others (codes "template") (names_differ refl) ∙ put.others (codes "template") (names_differ refl) ∙ recorded.0.others (codes "template") (names_differ refl)) in
        let headers : headers_in after ≡ headers_in old =
        ap (λ (rows : List Row). headers_in (λ name. rows)) (others (codes "language") (names_differ refl) ∙ put.others (codes "language") (names_differ refl) ∙ recorded.0.others (codes "language") (names_differ refl)) in
        let policies = sym (recorded.0.others (codes "policy") (names_differ refl)) in
        let one = subst (OneEach (integer_at 0)) policies ready.keyed.one_policy in
        let numbers = subst (HoldsIntegers 0) policies ready.typed.policy_numbers in
        let is : policy_in after ≡ policy = ap (λ (rows : List Row). policy_in (λ name. rows)) (others (codes "policy") (names_differ refl)) ∙ policy_put mid next policy one numbers put in
        λ i. record { template = template i; headers = headers i; units = units i; team = team i; policy = is i }

    left : units_in after ≡ (with_policy (project_of_rows old) policy).units → AreNumbered old
        → (meaning_in after ≡ record { office = main_alone (with_policy (project_of_rows old) policy); book = with_record (book_in old) row }) × AreNumbered after
    left units numbered = commits_change old mid after row (with_policy (project_of_rows old) policy) ready numbered recorded (others (codes "record") (names_differ refl) ∙ put.others (codes "record") (names_differ refl)) (office_is units)

  -- 64 bits hold the next revisions, since the rules bound them
  renewed_rows : UnapprovesIn next after → RenewsIn (codes "unit") is_approved_row unapproved_row next after
  renewed_rows unapproves = unapproves (subst (λ (rows : List Row). (r : Row) → Has rows r → is_approved_row r ≡ true → fits_i64 (id_in (column r 7) +ℤ pos 1) ≡ true) (sym units_before) (λ r there approved. has_next old ready rules r there))

  spares : (reviews : Bool) → UnapprovesUnless reviews next after → Spares (codes "unit") next after
  spares true is = spares_same (codes "unit") next after is
  spares false unapproves = (renewed_rows unapproves).others

  units_are : (reviews : Bool) (made : UnapprovesUnless reviews next after) → units_in after ≡ maps.from_entries (
      if reviews then maps.entries (units_in old) else map (λ (e : Place × Unit). (e.0, unapproved e.1)) (maps.entries (units_in old))
      )
  units_are true is =
      units_same old after (ap (λ (d : NamedRows). d (codes "unit")) is ∙ units_before) (suggestions_stay (spares true is)) (votes_stay (spares true is)) ∙ entries_back (units_in old)
  units_are false unapproves =
      let it = renewed_rows unapproves in
      let renewed : AreRenewed is_approved_row unapproved_row (old (codes "unit")) (after (codes "unit")) = subst (λ rows. AreRenewed is_approved_row unapproved_row rows (after (codes "unit"))) units_before it.rows in
      units_unapproved old after ready is_ready rules renewed (suggestions_same old after (suggestions_stay it.others) (votes_stay it.others))

pub commits_policy : (old after : NamedRows) (row : Record) (policy : Policy) → AreOfficeRows old → AreOfficeRows after → AreNumbered old → KeepsRules (meaning_in old) → MakesPolicy row policy old after
    → (meaning_in after ≡ record { office = office_under (meaning_in old).office policy; book = with_record (book_in old) row }) × AreNumbered after
commits_policy old after row policy ready is_ready numbered rules (mid, recorded, (next, put, made)) =
    let it = left old mid next after row policy ready is_ready rules recorded put (spares old mid next after row policy ready is_ready rules recorded put policy.reviews made)
    (units_are old mid next after row policy ready is_ready rules recorded put policy.reviews made) numbered in
    (it.0 ∙ (λ i. record { office = sym (policy-main (project_of_rows old) policy) i; book = with_record (book_in old) row }), it.1)
