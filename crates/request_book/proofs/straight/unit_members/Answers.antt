-- The members were read one after another, and no other is left.
use Rattle.std.proofs.Common.{ap, ◌∙◌}
use Rattle.std.specs.Prelude.{is_some}
use Rattle.units.specs.Limits.{is_name}
use Rattle.request_book.specs.Acts.{domain_field}
use Rattle.request_book.specs.Tokens.{left}
use Rattle.request_book.specs.declared.parts.UnitMembers.{UnitMembers}
use Rattle.request_book.proofs.Objects.{as_written, read_fits}
use Rattle.request_book.proofs.TokenReads.{unit_reads}
use Rattle.request_book.proofs.straight.unit_members.Goals as goal

pub returns : goal.returns
returns c =
    let named = c.in_ok-domain.domain in
    let out = is_some named in
    let m : UnitMembers = record {
      caller = c.in_ok-caller.caller;
      ctx = c.in_ok-ctx.ctx;
      domain = c.domain_or_main.result;
      forms = c.in_ok-forms.forms;
      id = c.in_ok-id.id;
      lang = c.in_ok-lang.lang;
      lines = c.in_ok-lines.lines;
      number = c.in_ok-number.number;
      seen = c.in_ok-seen.seen;
      suggestion = c.in_ok-suggestion.suggestion;
      vote = c.in_ok-vote.vote;
    } in
    record {
      out = out;
      tokens = unit_reads out m named (left c.args.rest.now) (left c.optional.new.self) (left c.optional-2.new.self) (left c.optional-3.new.self) (left c.optional-4.new.self) (left c.member.new.self) (left c.member-2.new.self) (left c.optional-5.new.self) (left c.optional-6.new.self) (left c.member-3.new.self) (left c.optional-7.new.self) (left c.optional-8.new.self)
          (ap (domain_field out) c.domain_or_main.ensures ∙ as_written named)
          c.in_ok-caller.ensures.tokens c.in_ok-ctx.ensures.tokens c.in_ok-domain.ensures.tokens c.in_ok-forms.ensures.tokens c.in_ok-id.ensures.tokens c.in_ok-lang.ensures.tokens c.in_ok-lines.ensures.tokens c.in_ok-number.ensures.tokens c.in_ok-seen.ensures.tokens c.in_ok-suggestion.ensures.tokens c.in_ok-vote.ensures.tokens
          c.in_ok-end.ensures;
      fits = record {
        caller = c.in_ok-caller.ensures.fits;
        ctx = c.in_ok-ctx.ensures.fits;
        domain = ap is_name c.domain_or_main.ensures ∙ read_fits named c.in_ok-domain.ensures.fits;
        forms = c.in_ok-forms.ensures.fits;
        id = c.in_ok-id.ensures.fits;
        lang = c.in_ok-lang.ensures.fits;
        lines = c.in_ok-lines.ensures.fits;
        number = c.in_ok-number.ensures.fits;
        seen = c.in_ok-seen.ensures.fits;
        suggestion = c.in_ok-suggestion.ensures.fits;
        vote = c.in_ok-vote.ensures.fits;
      };
    }
