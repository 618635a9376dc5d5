use Rattle.std.proofs.Common.{◌≡◌, ℤ, [], ◌∷◌, Some, None, ◌∙◌, subst, codes}
use Rattle.sqlite.specs.Held.{state}
use Rattle.sqlite.specs.declared.types.Value.TheVariants.{Int, Text as Words}
use Rattle.sql_schema.specs.Inside.{IsInsideOf, PutsRow, PutsIn, HoldsValues}
use Rattle.sql_schema.specs.Keys.{first_text, has_text}
use Rattle.sql_schema.specs.Layouts.{by_domain}
use Rattle.sql_meaning.specs.Beginnings.{PutsMember}
use Rattle.sql_meaning.specs.RowChanges.{TakesIn}
use Rattle.sql_changes.specs.OnDomains.{OnEach}
use Rattle.sql_changes.proofs.DomainWrites.{member_on_each, members_taken_on_each}
use Rattle.sql_commits.proofs.WritesInTurn.{write_as, role_through}
use Rattle.sql_figures.specs.Figures.{FiguresStay}
use Rattle.sql_figures.proofs.FigureSteps.{put_beside, taken_beside, team_beside}
use Rattle.sql_commits.proofs.roles.write_role.Goals as goal

pub returns-in-Some-clause-put : goal.returns-in-Some-clause-put
returns-in-Some-clause-put g c =
    let old = state g.S.Store c.args.tx.now.conn.now in
    let new = state g.S.Store c.set_member.new.tx.conn.now in
    let name = c.args.name.now in
    let column = c.in-Some.column in
    let Member = λ (z : ℤ). HoldsValues (Words name ∷ Int z ∷ []) in
    rw (← c.in-Some.ensures) (write_as old new c.set_member.result _ (OnEach (PutsIn (codes "team") first_text (Member column)))
    (λ put. member_on_each (subst (λ z. PutsRow (codes "team") first_text (Member z) old.now new.now) (role_through c.args.role column c.in-Some.ensures) put))
    (c.set_member.ensures.put by_domain c.requires.steady))

pub returns-in-None-clause-put : goal.returns-in-None-clause-put
returns-in-None-clause-put g c =
    let old = state g.S.Store c.args.tx.now.conn.now in
    let new = state g.S.Store c.remove_member.new.tx.conn.now in
    rw (← c.in-None.ensures) (write_as old new c.remove_member.result _ (OnEach (TakesIn (codes "team") (has_text 1 c.args.name.now))) members_taken_on_each (c.remove_member.ensures.taken by_domain c.requires.steady))

-- the team is beside the figures
pub returns-in-Some-clause-figures : goal.returns-in-Some-clause-figures
returns-in-Some-clause-figures g c =
    write_as (state g.S.Store c.args.tx.now.conn.now) (state g.S.Store c.set_member.new.tx.conn.now) c.set_member.result _ FiguresStay (put_beside team_beside) (c.set_member.ensures.put by_domain c.requires.steady)

pub returns-in-None-clause-figures : goal.returns-in-None-clause-figures
returns-in-None-clause-figures g c =
    write_as (state g.S.Store c.args.tx.now.conn.now) (state g.S.Store c.remove_member.new.tx.conn.now) c.remove_member.result _ FiguresStay (taken_beside team_beside) (c.remove_member.ensures.taken by_domain c.requires.steady)

pub returns-in-Some-clause-member : goal.returns-in-Some-clause-member
returns-in-Some-clause-member g c = λ column is.
    let old = state g.S.Store c.args.tx.now.conn.now in
    let new = state g.S.Store c.set_member.new.tx.conn.now in
    let name = c.args.name.now in
    let both : Some c.in-Some.column ≡ Some column = c.in-Some.ensures ∙ is in
    let same : c.in-Some.column ≡ column = cc in
    subst (λ z. IsInsideOf by_domain old new c.set_member.result (PutsMember name z)) same (write_as old new c.set_member.result _ (PutsMember name c.in-Some.column)
    (λ put. subst (λ z. PutsMember name z old.now new.now) (role_through c.args.role c.in-Some.column c.in-Some.ensures) put) (c.set_member.ensures.put by_domain c.requires.steady))

pub returns-in-None-clause-member : goal.returns-in-None-clause-member
returns-in-None-clause-member g c = λ column is. absurd (let none : None ≡ Some column = c.in-None.ensures ∙ is in cc)
