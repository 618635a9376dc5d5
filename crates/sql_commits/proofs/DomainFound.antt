-- A domain that is looked up by its name: whether it is there, and what then follows.
use Rattle.std.proofs.Common.{◌≡◌, Bool, true, false, Option, Some, None, is_some, codes, sym, ap, subst, ◌∙◌}
use Rattle.std.proofs.lemmas.Bool.{false_from_ne_true}
use Rattle.sqlite.specs.Effect.{Database}
use Rattle.sqlite.specs.Order.{Row}
use Rattle.sqlite_rules.proofs.ListLemmas.{some_has, some_from}
use Rattle.po_text.specs.Texts.{Text}
use Rattle.office_specification.proofs.domains.InDomains.{equal_domains}
use Rattle.sql_schema.specs.Keys.{first_text, has_text}
use Rattle.sql_schema.specs.Layouts.{NamedRows, rows_named}
use Rattle.sql_schema.proofs.DomainsSeen.{is_text}
use Rattle.sql_statements.specs.DomainAnswers.{ShowsDomain}
use Rattle.sql_meaning.specs.Domains.{is_domain}
use Rattle.sql_figures.specs.Figures.{FiguresStay}
use Rattle.sql_figures.proofs.FigureSteps.{nothing_follows}
use Rattle.sql_changes.specs.OnDomains.{OnDomain, SparesDomains}
use Rattle.sql_changes.proofs.DomainWrites.{nothing_made}
use Rattle.sql_commits.specs.Changes.{WritesThere, WritesIn}
use Rattle.sql_commits.specs.Figures.{FollowsIf, FollowsIn}

-- a look-up of a domain tells whether it is there
pub domain_found : (domain : Text) (db : Database) (found : Option Row) → ShowsDomain domain db found → is_domain (rows_named db) domain ≡ is_some found
domain_found domain db (Some shown) it = some_from (has_text 1 domain) (rows_named db (codes "domain")) it.0 it.1 (is_text 1 domain it.0 it.2)
domain_found domain db None it =
    false_from_ne_true (is_domain (rows_named db) domain) (λ there.
    let row = some_has (has_text 1 domain) (rows_named db (codes "domain")) there in
    it row.0 row.1 (equal_domains (first_text row.0) domain row.2))

-- by the text of its name
module _ (given domain : Text) (is : given ≡ domain) (found : Option Row) (old mid : Database) (seen : (mid ≡ old) × ShowsDomain given old found) where
  told : is_domain (rows_named old) domain ≡ is_some found
  told = domain_found domain old found (subst (λ (name : Text). ShowsDomain name old found) is seen.1)

  pub domain_there : (row : Row) → found ≡ Some row → is_domain (rows_named old) domain ≡ true
  domain_there row is_found = told ∙ ap is_some is_found

  pub domain_missing : found ≡ None → is_domain (rows_named old) domain ≡ false
  domain_missing is_found = told ∙ ap is_some is_found

  -- what is written behind the look-up is written in a domain that is there, and elsewhere nothing is
  module _ (Writes : NamedRows → NamedRows → Type 0) where
    pub writes_there : (row : Row) (new : Database) → found ≡ Some row → OnDomain domain Writes mid new → WritesIn domain Writes old new
    writes_there row new is_found made = subst (λ (b : Bool). WritesThere b domain Writes old new) (sym (domain_there row is_found)) (subst (λ (db : Database). OnDomain domain Writes db new) seen.0 made)

    pub writes_nowhere : found ≡ None → WritesIn domain Writes old mid
    writes_nowhere is_found = subst (λ (b : Bool). WritesThere b domain Writes old mid) (sym (domain_missing is_found)) (subst (SparesDomains old) (sym seen.0) (nothing_made old))

  -- figures follow what is written behind the look-up, and elsewhere they stay
  module _ (Follows : Database → Database → Type 0) where
    pub follows_there : (row : Row) (new : Database) → found ≡ Some row → Follows mid new → FollowsIn domain Follows old new
    follows_there row new is_found follows = subst (λ (b : Bool). FollowsIf b Follows old new) (sym (domain_there row is_found)) (subst (λ (db : Database). Follows db new) seen.0 follows)

    pub follows_nowhere : found ≡ None → FollowsIn domain Follows old mid
    follows_nowhere is_found = subst (λ (b : Bool). FollowsIf b Follows old mid) (sym (domain_missing is_found)) (subst (FiguresStay old) (sym seen.0) (nothing_follows old))
