use Rattle.std.proofs.Common.{Bool, true, false, sym, ap, subst}
use Rattle.office_specification.specs.declared.tally.Tally.{Tally}
use Rattle.sql_commits.specs.Counted.{CountsOneMore}
use Rattle.sql_commits.proofs.UnitTallied.{one_suggestion_counts, obsolete_counts}
use Rattle.sql_commits.proofs.unit_counts.one_suggestion.Goals as goal

pub returns-then-obsolete : goal.returns-then-obsolete
returns-then-obsolete c = subst (λ (b : Bool). CountsOneMore b c.none.result) (sym c.if-obsolete.true) (subst (CountsOneMore true) (sym c.none.ensures) obsolete_counts)

pub returns-else-obsolete : goal.returns-else-obsolete
returns-else-obsolete c =
    subst (λ (b : Bool). CountsOneMore b (record c.none-tally.result { suggestions = 1 })) (sym c.if-obsolete.false)
    (subst (CountsOneMore false) (sym (ap (λ (t : Tally). record t { suggestions = 1 }) c.none-tally.ensures)) one_suggestion_counts)
