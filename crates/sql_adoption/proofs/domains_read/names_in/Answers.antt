use Rattle.std.specs.List.{list_all}
use Rattle.std.proofs.Common.{rules, ◌≡◌, [], ◌∷◌, ◌++◌, sym, ap, ◌∙◌}
use Rattle.std.proofs.lemmas.List.{map_more}
use Rattle.sql_schema.specs.Keys.{text_at}
use Rattle.sql_decoding.specs.RowTests.{is_domain_row}
use Rattle.sql_decoding.proofs.RowsTold.{handed_on, more_stand, all_stand, one_fails}
use Rattle.sql_adoption.proofs.domains_read.names_in.Goals as goal

pub loop-row-preserved : goal.loop-row-preserved
loop-row-preserved c = record {
  shown =
      let pushed : c.push.new.self.items ≡ c.loop-row.names.items ++ c.in_ok-domain_at.field-0 ∷ [] = search rules in
      let shown = c.in_ok-domain_at.ensures.shown ∙ ap (text_at 0) c.row-item.is in
      pushed ∙ (λ i. c.loop-row.invariant.shown i ++ (shown i ∷ [])) ∙ sym (map_more (text_at 0) c.args.rows.now c.loop-row.row-index c.row-item.result c.loop-row-test.true);
  stand = more_stand is_domain_row c.args.rows.now c.loop-row.row-index c.row-item.result c.loop-row-test.true c.row-item.is c.loop-row.invariant.stand c.in_ok-domain_at.ensures.stands;
}

pub returns-in_err-domain_at-clause-unread : goal.returns-in_err-domain_at-clause-unread
returns-in_err-domain_at-clause-unread c =
    handed_on c.from_residual.result c.in_err-domain_at.field-0.0 (list_all is_domain_row c.args.rows.now) (is_domain_row c.row-item.result) c.from_residual.ensures
    (one_fails is_domain_row c.args.rows.now c.loop-row.row-index c.row-item.result c.loop-row-test.true c.row-item.is) c.in_err-domain_at.ensures.unread

pub returns-clause-stand : goal.returns-clause-stand
returns-clause-stand c = all_stand is_domain_row c.args.rows.now c.loop-row.row-index c.loop-row-test.false c.loop-row.invariant.stand
