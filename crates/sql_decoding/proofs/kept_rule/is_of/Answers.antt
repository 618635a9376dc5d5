use Rattle.std.proofs.Common.{◌&&◌, ap, ◌∙◌}
use Rattle.sql_decoding.specs.ShownContexts.{header_of_column}
use Rattle.sql_decoding.specs.RowTests.{is_header, is_rule_of}
use Rattle.sql_decoding.proofs.ColumnsTested.{language_stands}
use Rattle.sql_decoding.proofs.kept_rule.is_of.Goals as goal

pub returns-then-is_text-clause-stands : goal.returns-then-is_text-clause-stands
returns-then-is_text-clause-stands c = λ second.
    let kept = c.args.kept.now in
    let header = c.as_str.result.now in
    let plural = c.as_str-then-is_text.result.now in
    language_stands c.args.row.now header plural (c.is_text.ensures.0 c.if-is_text.true) (c.is_text-then-is_text.ensures.0 second) c.as_str.utf8 c.as_str-then-is_text.utf8
    (ap (λ t. is_header t && is_rule_of (header_of_column t) plural) c.as_str.ensures
    ∙ ap (λ t. is_header kept.header && is_rule_of (header_of_column kept.header) t) c.as_str-then-is_text.ensures
    ∙ kept.stands)
