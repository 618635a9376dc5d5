use Rattle.std.proofs.Common.{◌≡◌, ◌++◌, ◌∷◌, [], take, drop, sym, ap, ◌∙◌, append_assoc, length, ◌-◌}
use Rattle.checks.specs.Formats.{placeholders_of}
use Rattle.checks.proofs.Scanning.{to_end}
use Rattle.checks.proofs.FormatScans.{pair_at, placeholder_at, other_at}
use Rattle.checks.proofs.scan.take_front.Goals as goal

pub returns-then-begins_with_pair-clause-left : goal.returns-then-begins_with_pair-clause-left
returns-then-begins_with_pair-clause-left c =
    let format = c.args.format in
    let text = c.args.text.now in
    ap (λ ds. c.args.found.now.items ++ ds) (ap (placeholders_of format) (to_end text 2) ∙ sym (pair_at format text (sym c.begins_with_pair.ensures ∙ c.if-begins_with_pair.true)))

pub returns-in_ok-push-in-Some-clause-left : goal.returns-in_ok-push-in-Some-clause-left
returns-in_ok-push-in-Some-clause-left c =
    let format = c.args.format in
    let text = c.args.text.now in
    let found = c.args.found.now.items in
    let n = c.in-Some.len in
    let pushed : c.push.new.self.items ≡ found ++ take n text ∷ [] = c.in_ok-push-in-Some.ensures.items ∙ ap (λ t. found ++ t ∷ []) c.in_ok-ascii_text-in-Some.ensures in
    let scanned = placeholder_at format text n (sym c.begins_with_pair.ensures ∙ c.if-begins_with_pair.false) (sym c.in-Some.ensures.value) c.in-Some.ensures.some c.in-Some.ensures.within in
    let later = placeholders_of format (take (length text - n) (drop n text)) in
    ap (λ items. items ++ later) pushed ∙ append_assoc found (take n text ∷ []) later ∙ ap (λ ds. found ++ ds) (ap (λ rest. take n text ∷ placeholders_of format rest) (to_end text n) ∙ sym scanned)

pub returns-in-None-clause-left : goal.returns-in-None-clause-left
returns-in-None-clause-left c =
    let format = c.args.format in
    let text = c.args.text.now in
    ap (λ ds. c.args.found.now.items ++ ds) (ap (placeholders_of format) (to_end text 1) ∙ sym (other_at format text c.requires (sym c.begins_with_pair.ensures ∙ c.if-begins_with_pair.false) (sym c.in-None.ensures.value)))
