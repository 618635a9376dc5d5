use Rattle.std.proofs.Common.{subst}
use Rattle.sqlite.specs.Held.{state}
use Rattle.po_text.specs.Texts.{Text}
use Rattle.sql_columns.specs.Numbers.{role_number}
use Rattle.sql_meaning.specs.Beginnings.{PutsDomain}
use Rattle.sql_meaning.specs.RowChanges.{HaveNextIn}
use Rattle.sql_changes.specs.Commits.{WritesRole, WritesPolicy}
use Rattle.sql_changes.specs.OnDomains.{OnDomainsWhere, OnEach}
use Rattle.sql_commits.proofs.WritesInTurn.{write_mapped}
use Rattle.sql_commits.specs.Figures.{FollowsPolicy}
use Rattle.sql_figures.specs.Figures.{FiguresStay}
use Rattle.sql_figures.proofs.FigureSteps.{put_beside, domain_beside}
use Rattle.sql_decoding.proofs.DiskFailures.{mapped_told}
use Rattle.sql_commits.proofs.acts.write_change.Goals as goal

pub returns-in-OneRole-clause-put : goal.returns-in-OneRole-clause-put
returns-in-OneRole-clause-put g c =
    let old = state g.S.Store c.args.tx.now.conn.now in
    let new = state g.S.Store c.write_role.new.tx.conn.now in
    let role = c.in-OneRole.role in
    let Writes = λ (name : Text). OnEach (WritesRole name (role_number role)) in
    rw c.in-OneRole.is (write_mapped old new c.write_role.result c.map_err.result _ (Writes c.as_str.result.now) (Writes c.in-OneRole.name) c.map_err.ensures.cases
    (subst (λ name. Writes name old.now new.now) c.as_str.ensures.value) c.write_role.ensures.put)

pub returns-in-NewPolicy-clause-put : goal.returns-in-NewPolicy-clause-put
returns-in-NewPolicy-clause-put g c =
    let old = state g.S.Store c.args.tx.now.conn.now in
    let new = state g.S.Store c.write_policy.new.tx.conn.now in
    let Writes = OnDomainsWhere HaveNextIn (λ d. WritesPolicy c.in-NewPolicy.policy) in
    rw c.in-NewPolicy.is (write_mapped old new c.write_policy.result c.map_err-in-NewPolicy.result _ Writes Writes c.map_err-in-NewPolicy.ensures.cases (λ made. made) c.write_policy.ensures.put)

pub returns-in-NewDomain-clause-put : goal.returns-in-NewDomain-clause-put
returns-in-NewDomain-clause-put g c =
    let old = state g.S.Store c.args.tx.now.conn.now in
    let new = state g.S.Store c.put_domain.new.tx.conn.now in
    rw c.in-NewDomain.is (write_mapped old new c.put_domain.result c.map_err-in-NewDomain.result _ (PutsDomain c.as_str-in-NewDomain.result.now) (PutsDomain c.in-NewDomain.domain) c.map_err-in-NewDomain.ensures.cases
    (subst (λ name. PutsDomain name old.now new.now) c.as_str-in-NewDomain.ensures.value) c.put_domain.ensures.put)

pub returns-in-InDomain-clause-put : goal.returns-in-InDomain-clause-put
returns-in-InDomain-clause-put g c = rw c.in-InDomain.is c.write_change_in.ensures.put

pub returns-in-OneRole-clause-figures : goal.returns-in-OneRole-clause-figures
returns-in-OneRole-clause-figures g c =
    rw c.in-OneRole.is (write_mapped (state g.S.Store c.args.tx.now.conn.now) (state g.S.Store c.write_role.new.tx.conn.now) c.write_role.result c.map_err.result _ FiguresStay FiguresStay c.map_err.ensures.cases (λ stays. stays) c.write_role.ensures.figures)

pub returns-in-NewPolicy-clause-figures : goal.returns-in-NewPolicy-clause-figures
returns-in-NewPolicy-clause-figures g c =
    let Policy = FollowsPolicy c.in-NewPolicy.policy in
    rw c.in-NewPolicy.is (write_mapped (state g.S.Store c.args.tx.now.conn.now) (state g.S.Store c.write_policy.new.tx.conn.now) c.write_policy.result c.map_err-in-NewPolicy.result _ Policy Policy c.map_err-in-NewPolicy.ensures.cases (λ follows. follows)
    c.write_policy.ensures.figures)

-- the names of domains are beside the figures
pub returns-in-NewDomain-clause-figures : goal.returns-in-NewDomain-clause-figures
returns-in-NewDomain-clause-figures g c =
    rw c.in-NewDomain.is (write_mapped (state g.S.Store c.args.tx.now.conn.now) (state g.S.Store c.put_domain.new.tx.conn.now) c.put_domain.result c.map_err-in-NewDomain.result _ _ FiguresStay c.map_err-in-NewDomain.ensures.cases (put_beside domain_beside)
    c.put_domain.ensures.put)

pub returns-in-InDomain-clause-figures : goal.returns-in-InDomain-clause-figures
returns-in-InDomain-clause-figures g c = rw c.in-InDomain.is c.write_change_in.ensures.figures

pub returns-in-OneRole-clause-disk : goal.returns-in-OneRole-clause-disk
returns-in-OneRole-clause-disk g c =
    mapped_told (state g.S.Store c.args.tx.now.conn.now) (state g.S.Store c.write_role.new.tx.conn.now) c.write_role.result c.map_err.result _ (λ e f t. t) c.map_err.ensures.cases c.write_role.ensures.disk

pub returns-in-NewPolicy-clause-disk : goal.returns-in-NewPolicy-clause-disk
returns-in-NewPolicy-clause-disk g c =
    mapped_told (state g.S.Store c.args.tx.now.conn.now) (state g.S.Store c.write_policy.new.tx.conn.now) c.write_policy.result c.map_err-in-NewPolicy.result _ (λ e f t. t) c.map_err-in-NewPolicy.ensures.cases c.write_policy.ensures.disk

pub returns-in-NewDomain-clause-disk : goal.returns-in-NewDomain-clause-disk
returns-in-NewDomain-clause-disk g c =
    mapped_told (state g.S.Store c.args.tx.now.conn.now) (state g.S.Store c.put_domain.new.tx.conn.now) c.put_domain.result c.map_err-in-NewDomain.result _ (λ e f t. t) c.map_err-in-NewDomain.ensures.cases c.put_domain.ensures.disk
