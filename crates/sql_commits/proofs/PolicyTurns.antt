-- The policy's row leaves the units, and under reviews nothing is written behind it.
use Rattle.std.proofs.Common.{◌≡◌, pos, ◌+ℤ◌, List, true, refl, sym, subst, codes}
use Rattle.sqlite.specs.Effect.{Database}
use Rattle.sqlite.specs.Order.{Row, column}
use Rattle.sqlite_sql.specs.Ops.{fits_i64}
use Rattle.sqlite_rules.specs.Edit.{id_in}
use Rattle.sqlite_rules.specs.Lists.{Has}
use Rattle.units.specs.declared.unit.Policy.{Policy}
use Rattle.request_book.specs.declared.book.Record.{Record}
use Rattle.sql_schema.proofs.Layouts.{names_differ}
use Rattle.sql_schema.specs.Layouts.{NamedRows}
use Rattle.sql_statements.specs.Renewed.{is_approved_row}
use Rattle.sql_meaning.specs.RowChanges.{HaveNextIn}
use Rattle.sql_changes.specs.Commits.{PutsNumberedRecord, PutsPolicy, UnapprovesUnless, WritesPolicy}
use Rattle.sql_changes.specs.OnDomains.{OnDomainsWhere, OnEach}
use Rattle.sql_changes.proofs.DomainWrites.{seen}

-- where the units are the same, so are their next revisions
pub same_next : (old new : NamedRows) → new (codes "unit") ≡ old (codes "unit") → HaveNextIn old → HaveNextIn new
same_next old new same next = subst (λ (rows : List Row). (row : Row) → Has rows row → is_approved_row row ≡ true → fits_i64 (id_in (column row 7) +ℤ pos 1) ≡ true) (sym same) next

pub next_behind_policy : (policy : Policy) (old new : NamedRows) → PutsPolicy policy old new → HaveNextIn old → HaveNextIn new
next_behind_policy policy old new put = same_next old new (put.others (codes "unit") (names_differ refl))

pub next_behind_record : (row : Record) (old new : NamedRows) → PutsNumberedRecord row old new → HaveNextIn old → HaveNextIn new
next_behind_record row old new recorded = same_next old new (recorded.0.others (codes "unit") (names_differ refl))

pub stays_reviewed : (policy : Policy) (old new : Database) → policy.reviews ≡ true → OnEach (PutsPolicy policy) old new → OnDomainsWhere HaveNextIn (λ domain. WritesPolicy policy) old new
stays_reviewed policy old new reviews put = record {
  on = λ next.
      let it = put.on (λ d. tt) in
      (λ d. (seen d new, it.0 d, subst (λ b. UnapprovesUnless b (seen d new) (seen d new)) (sym reviews) refl), it.1);
}
