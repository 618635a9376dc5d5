use Rattle.std.proofs.Common.{◌≡◌, ◌++◌, string_bytes, sym, ap, ◌∙◌}
use Rattle.std.specs.Map.Iter.{deref_pair}
use Rattle.std.proofs.lemmas.List.{append-nil}
use Rattle.std.proofs.lemmas.Map.Iter.{rest_more, rest_all}
use Rattle.units.specs.Limits.{is_lang}
use Rattle.office_maps.proofs.Plans.{codes_in, are_codes, both_hold, languages_are, one_more_code}
use Rattle.office_maps.proofs.project_maps.ProjectMaps.languages.Goals as goal

pub loop-code-init : goal.loop-code-init
loop-code-init c =
    let start : c.into_iter-code-iterator.result ≡ c.args.self.now.domain.now.languages.rows.entries = c.into_iter-code-iterator.ensures.into_iter_gives ∙ c.iter-code-items.ensures.rest in
    record {
      told = languages_are c.args.self.now c.iter-code-items.ensures.ordered ∙ (sym (ap codes_in start) ∙ ap (λ done. done ++ codes_in c.into_iter-code-iterator.result) (sym c.new-all.ensures.items));
      coded = ap are_codes start ∙ c.args.self.now.domain.now.languages.coded;
    }

pub lang_of-requires : goal.lang_of-requires
lang_of-requires c =
    let step = rest_more deref_pair c.loop-code.code-iterator c.next.new.self c.next.result (c.in-Some.code, c.in-Some._language) c.in-Some.is c.next.ensures.steps in
    ap is_lang c.as_str.ensures.value ∙ (both_hold (is_lang (string_bytes c.in-Some.code.now)) (are_codes c.next.new.self) (sym (ap are_codes step) ∙ c.loop-code.invariant.coded)).0

pub loop-code-preserved : goal.loop-code-preserved
loop-code-preserved c =
    let step = rest_more deref_pair c.loop-code.code-iterator c.next.new.self c.next.result (c.in-Some.code, c.in-Some._language) c.in-Some.is c.next.ensures.steps in
    record {
      told = one_more_code c.loop-code.all.items c.push.new.self.items (string_bytes c.in-Some.code.now) c.lang_of.result (codes_in c.next.new.self)
          (c.loop-code.invariant.told ∙ ap (λ rows. c.loop-code.all.items ++ codes_in rows) step) (c.lang_of.ensures ∙ c.as_str.ensures.value) c.in_ok-push.ensures.items;
      coded = (both_hold (is_lang (string_bytes c.in-Some.code.now)) (are_codes c.next.new.self) (sym (ap are_codes step) ∙ c.loop-code.invariant.coded)).1;
    }

pub returns : goal.returns
returns c =
    let end = rest_all deref_pair c.loop-code.code-iterator c.next.new.self c.next.result c.in-None.is c.next.ensures.steps in
    sym (c.loop-code.invariant.told ∙ (ap (λ rows. c.loop-code.all.items ++ codes_in rows) end ∙ append-nil c.loop-code.all.items))
