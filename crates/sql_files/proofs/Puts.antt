-- What a row that is put leaves of what the rows of a table stand for.
use Rattle.std.proofs.Common.{◌≡◌, inl, inr, List, [], sym, ap, subst, codes}
use Rattle.std.specs.Ordering.{int_cmp}
use Rattle.std.specs.FinMap as maps
use Rattle.sqlite.specs.Order.{Row}
use Rattle.sqlite_rules.specs.Lists.{Has}
use Rattle.sql_laws.specs.RowMaps.{IsPut, map_of}
use Rattle.po_text.specs.Valid.{IsValid}
use Rattle.sql_meaning.specs.Meaning.{entry_of_row, template_in}
use Rattle.sql_meaning.specs.Values.{integer_at}
use Rattle.sql_adoption.specs.Adoption.{TellsForm, StandForOffice, StandForBook}
use Rattle.sql_schema.specs.Layouts.{by_domain, NamedRows}

-- a row of none
pub no_row : {A : Type 0} (rows : List Row) (x : Row) → rows ≡ [] → Has rows x → A
no_row rows x none there = absurd (subst (λ rs. Has rs x) none there)

module _ {K : Type 0} (key : Row → K) (P : Row → Type 0) (old new : List Row) (row : Row) (put : IsPut key old new row) where
  pub all_put : ((x : Row) → Has old x → P x) → P row → (x : Row) → Has new x → P x
  all_put each here x there = elim (put.only x there) [ inl is ↦ subst P (sym is) here | inr was ↦ each x was.0 ]

-- the rows of the office's own tables, where they are the same
pub office_same : (old new : NamedRows) → new (codes "team") ≡ old (codes "team") → new (codes "policy") ≡ old (codes "policy") → new (codes "template") ≡ old (codes "template") → new (codes "language") ≡ old (codes "language")
    → new (codes "unit") ≡ old (codes "unit") → new (codes "suggestion") ≡ old (codes "suggestion") → new (codes "vote") ≡ old (codes "vote") → StandForOffice old → StandForOffice new
office_same old new team policy template languages units suggestions votes it = record {
  members = λ row there. it.members row (subst (λ rows. Has rows row) team there);
  policy = λ row there. it.policy row (subst (λ rows. Has rows row) policy there);
  entries = λ row there. it.entries row (subst (λ rows. Has rows row) template there);
  template = subst IsValid (sym (ap (λ rows. maps.values (map_of int_cmp (integer_at 0) entry_of_row rows)) template)) it.template;
  languages = λ row there. it.languages row (subst (λ rows. Has rows row) languages there);
  units = λ row there. it.units row (subst (λ rows. Has rows row) units there);
  suggestions = λ row there. it.suggestions row (subst (λ rows. Has rows row) suggestions there);
  votes = λ row there. it.votes row (subst (λ rows. Has rows row) votes there);
}

pub form_same : (old new : NamedRows) → new (codes "policy") ≡ old (codes "policy") → TellsForm by_domain old → TellsForm by_domain new
form_same old new same it = (it.0, subst (λ rows. Has rows it.0) (sym same) it.1, it.2, it.3)

pub template_same : (old new : NamedRows) → new (codes "template") ≡ old (codes "template") → IsValid (template_in old) → IsValid (template_in new)
template_same old new same it = subst IsValid (sym (ap (λ rows. maps.values (map_of int_cmp (integer_at 0) entry_of_row rows)) same)) it

pub book_same : (old new : NamedRows) → new (codes "record") ≡ old (codes "record") → StandForBook old → StandForBook new
book_same old new same it = record {
  records = λ row there. it.records row (subst (λ rows. Has rows row) same there);
  contents = λ row there. it.contents row (subst (λ rows. Has rows row) same there);
}
