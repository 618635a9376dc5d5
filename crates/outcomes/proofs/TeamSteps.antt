-- What a role and a new domain come to, by the questions that decide it.
use Rattle.std.proofs.Common.{◌≡◌, true, false, cond, not, Some, sym, ap, ◌∙◌}
use Rattle.std.specs.Prelude.{nat_lt, nat_le}
use Rattle.std.specs.List.{list_any}
use Rattle.std.specs.FinMap as maps
use Rattle.po_text.specs.Texts.{Text}
use Rattle.units.specs.Limits.{team_limit, domain_limit}
use Rattle.units.specs.Office.{Office}
use Rattle.units.specs.Changes.{set_role, with_team, with_domain}
use Rattle.units.specs.declared.unit.Role.{Role}
use Rattle.units.specs.declared.unit.Refusal.TheVariants.{PastLimit, LastManager, DomainExists}
use Rattle.request_book.specs.Replies.{Reply}
use Rattle.replies.specs.Bodies.{Stepped, refuse, reply, team_fields, domain_fields}
use Rattle.office_specification.specs.declared.values.Change.TheVariants.{OneRole, NewDomain}
use Rattle.office_specification.specs.OfficeActs.{is_manager, team_step, domain_step}
use Rattle.office_specification.specs.Parts.{ShareTeam}
use Rattle.office_specification.proofs.acts.PartSteps.{same_count}
use Rattle.outcomes.specs.Settled.{IsSettled}

module _ (office : Office) (name : Text) (role : Role) (whole : Office) (alike : ShareTeam office whole) where
  -- what a role makes of the team that doesn't grow past its limit
  abbrev managed : Stepped Office
  managed = cond (not (list_any is_manager (maps.values (set_role name role whole.team)))) (refuse whole LastManager) (with_team whole (set_role name role whole.team), reply 200 (team_fields name role))

  pub team_full : nat_lt team_limit (maps.len (set_role name role office.team)) ≡ true → refuse whole PastLimit ≡ team_step whole name role
  team_full full = ap (λ b. cond b (refuse whole PastLimit) managed) (sym (ap (λ team. nat_lt team_limit (maps.len (set_role name role team))) (sym alike.team) ∙ full))

  by_managers : nat_lt team_limit (maps.len (set_role name role office.team)) ≡ false → managed ≡ team_step whole name role
  by_managers few = ap (λ b. cond b (refuse whole PastLimit) managed) (sym (ap (λ team. nat_lt team_limit (maps.len (set_role name role team))) (sym alike.team) ∙ few))

  pub unmanaged : nat_lt team_limit (maps.len (set_role name role office.team)) ≡ false → list_any is_manager (maps.values (set_role name role office.team)) ≡ false
      → refuse whole LastManager ≡ team_step whole name role
  unmanaged few none =
      ap (λ b. cond (not b) (refuse whole LastManager) (with_team whole (set_role name role whole.team), reply 200 (team_fields name role)))
      (sym (ap (λ team. list_any is_manager (maps.values (set_role name role team))) (sym alike.team) ∙ none)) ∙ by_managers few

  pub role_given : nat_lt team_limit (maps.len (set_role name role office.team)) ≡ false → list_any is_manager (maps.values (set_role name role office.team)) ≡ true
      → ◌≡◌ {A = Stepped Office} (with_team whole (set_role name role whole.team), reply 200 (team_fields name role)) (team_step whole name role)
  role_given few some =
      ap (λ b. cond (not b) (refuse whole LastManager) (with_team whole (set_role name role whole.team), reply 200 (team_fields name role)))
      (sym (ap (λ team. list_any is_manager (maps.values (set_role name role team))) (sym alike.team) ∙ some)) ∙ by_managers few

  -- a role that is given
  pub role_settled : nat_lt team_limit (maps.len (set_role name role office.team)) ≡ false → list_any is_manager (maps.values (set_role name role office.team)) ≡ true
      → (own : Text) (said : Reply) → own ≡ name → said ≡ reply 200 (team_fields name role)
      → IsSettled whole (record { change = Some (OneRole own role); reply = said }) (team_step whole name role)
  role_settled few some own said is answered = record { is = (λ i. (with_team whole (set_role (is i) role whole.team), answered i)) ∙ role_given few some; possible = tt }

module _ (office : Office) (domain : Text) (whole : Office) (alike : ShareTeam office whole) where
  -- what a domain that isn't there makes of the office
  abbrev added : Stepped Office
  added = cond (nat_le domain_limit (maps.len whole.domains)) (refuse whole PastLimit) (with_domain whole domain, reply 200 (domain_fields domain))

  pub domain_there : maps.contains_key office.domains domain ≡ true → refuse whole DomainExists ≡ domain_step whole domain
  domain_there there = ap (λ b. cond b (refuse whole DomainExists) added) (sym (sym (alike.domains domain) ∙ there))

  by_count : maps.contains_key office.domains domain ≡ false → added ≡ domain_step whole domain
  by_count new = ap (λ b. cond b (refuse whole DomainExists) added) (sym (sym (alike.domains domain) ∙ new))

  counted : maps.len whole.domains ≡ maps.len office.domains
  counted = sym (same_count office.domains whole.domains alike.domains)

  pub domains_full : maps.contains_key office.domains domain ≡ false → nat_le domain_limit (maps.len office.domains) ≡ true → refuse whole PastLimit ≡ domain_step whole domain
  domains_full new full =
      ap (λ b. cond b (refuse whole PastLimit) (with_domain whole domain, reply 200 (domain_fields domain))) (sym (ap (nat_le domain_limit) counted ∙ full)) ∙ by_count new

  pub domain_added : maps.contains_key office.domains domain ≡ false → nat_le domain_limit (maps.len office.domains) ≡ false
      → ◌≡◌ {A = Stepped Office} (with_domain whole domain, reply 200 (domain_fields domain)) (domain_step whole domain)
  domain_added new few =
      ap (λ b. cond b (refuse whole PastLimit) (with_domain whole domain, reply 200 (domain_fields domain))) (sym (ap (nat_le domain_limit) counted ∙ few)) ∙ by_count new

  -- a domain that is added
  pub domain_settled : maps.contains_key office.domains domain ≡ false → nat_le domain_limit (maps.len office.domains) ≡ false
      → (own : Text) (said : Reply) → own ≡ domain → said ≡ reply 200 (domain_fields domain)
      → IsSettled whole (record { change = Some (NewDomain own); reply = said }) (domain_step whole domain)
  domain_settled new few own said is answered = record {
    is = (λ i. (with_domain whole (is i), answered i)) ∙ domain_added new few;
    possible = ap (maps.contains_key whole.domains) is ∙ (sym (alike.domains domain) ∙ new);
  }
