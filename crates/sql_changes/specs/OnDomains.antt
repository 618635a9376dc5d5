-- What a statement or a commit makes of tables by domains: something of the rows that each domain sees, and no domain more or fewer.
use Rattle.std.specs.Prelude.{⊤, ◌≡◌, ◌≢◌, Bool, true, false, codes, List, ℕ}
use Rattle.sqlite.specs.Effect.{Database}
use Rattle.po_text.specs.Texts.{Text}
use Rattle.units.specs.Office.{same_domain}
use Rattle.sql_schema.specs.Layouts.{NamedRows, rows_named}
use Rattle.sql_schema.specs.SeenRows.{seen_in, AreSameByName}

-- A table that no act within the domains and no conversion writes: neither of a domain's rows or figures, nor the records, the team or the policy.
pub record IsElsewhere (name : List ℕ) : Type 0 where
  pub records : name ≢ codes "record"
  pub team : name ≢ codes "team"
  pub policy : name ≢ codes "policy"
  pub template : name ≢ codes "d_template"
  pub languages : name ≢ codes "d_language"
  pub units : name ≢ codes "d_unit"
  pub suggestions : name ≢ codes "d_suggestion"
  pub votes : name ≢ codes "d_vote"
  pub sums : name ≢ codes "d_vote_sum"
  pub tallies : name ≢ codes "d_tally"

-- The names of domains, and tables of an earlier form, keep their rows.
abbrev pub SparesElsewhere : NamedRows → NamedRows → Type 0
SparesElsewhere old new = (name : List ℕ) → IsElsewhere name → new name ≡ old name

-- Where a premise holds of what each domain sees, this is made of what each domain sees, whether the domain is there or not. No domain comes or goes,
-- and no table of an earlier form is written.
pub record OnDomainsWhere (Premise : NamedRows → Type 0) (Makes : Text → NamedRows → NamedRows → Type 0) (old new : Database) : Type 0 where
  pub on : ((domain : Text) → Premise (seen_in domain (rows_named old)))
      → ((domain : Text) → Makes domain (seen_in domain (rows_named old)) (seen_in domain (rows_named new))) × SparesElsewhere (rows_named old) (rows_named new)

-- the same of what each domain sees, whatever else holds
abbrev pub OnEach : (NamedRows → NamedRows → Type 0) → Database → Database → Type 0
OnEach Makes = OnDomainsWhere (λ rows. ⊤) (λ domain. Makes)

abbrev pub MakesIf : Bool → (Makes Otherwise : NamedRows → NamedRows → Type 0) → NamedRows → NamedRows → Type 0
MakesIf true Makes Otherwise = Makes
MakesIf false Makes Otherwise = Otherwise

-- one thing of what one domain sees, and another of what each other sees
abbrev pub OnDomainElse : Text → (Makes Otherwise : NamedRows → NamedRows → Type 0) → Database → Database → Type 0
OnDomainElse domain Makes Otherwise = OnDomainsWhere (λ rows. ⊤) (λ d. MakesIf (same_domain d domain) Makes Otherwise)

-- something of what one domain sees; the others see the rows that they saw, in whatever order
abbrev pub OnDomain : Text → (NamedRows → NamedRows → Type 0) → Database → Database → Type 0
OnDomain domain Makes = OnDomainElse domain Makes AreSameByName

-- what each domain sees stays
abbrev pub SparesDomains : Database → Database → Type 0
SparesDomains = OnEach (λ old new. new ≡ old)
