use Rattle.std.proofs.Common.{ℕ, Bool, ◌-◌, ◌+◌, cond, is_some, length, string_bytes, sym, ap, ◌∙◌}
use Rattle.std.specs.BTreeMap.{get_by}
use Rattle.po_text.specs.Texts.{Text, text_cmp}
use Rattle.outcomes.proofs.Teams.{size_as_guest, size_in_team}
use Rattle.outcomes.proofs.role_act.team_size_with.Goals as goal

pub returns-then-there : goal.returns-then-there
returns-then-there c =
    let count = length c.args.office.now.team.entries in
    let is = c.contains_key-there.ensures ∙ ap (λ (name : Text). is_some (get_by (λ k. text_cmp name (string_bytes k)) c.args.office.now.team)) c.as_str.ensures.value in
    c.saturating_sub.ensures ∙ (ap (λ (n : ℕ). n - 1) c.len-count.ensures.len ∙ (sym (ap (λ (b : Bool). cond b (count - 1) count) c.if-there.true)
    ∙ size_as_guest c.args.office.now.team c.len-count.ensures.ordered c.args.name.now c.contains_key-there.result is c.args.role c.in-Guest.is))

pub returns-else-there : goal.returns-else-there
returns-else-there c =
    let count = length c.args.office.now.team.entries in
    let is = c.contains_key-there.ensures ∙ ap (λ (name : Text). is_some (get_by (λ k. text_cmp name (string_bytes k)) c.args.office.now.team)) c.as_str.ensures.value in
    c.len-count.ensures.len ∙ (sym (ap (λ (b : Bool). cond b (count - 1) count) c.if-there.false)
    ∙ size_as_guest c.args.office.now.team c.len-count.ensures.ordered c.args.name.now c.contains_key-there.result is c.args.role c.in-Guest.is)

pub returns-then-there-2 : goal.returns-then-there-2
returns-then-there-2 c =
    let count = length c.args.office.now.team.entries in
    let is = c.contains_key-there.ensures ∙ ap (λ (name : Text). is_some (get_by (λ k. text_cmp name (string_bytes k)) c.args.office.now.team)) c.as_str.ensures.value in
    c.len-count.ensures.len ∙ (sym (ap (λ (b : Bool). cond b count (count + 1)) c.if-there-2.true)
    ∙ size_in_team c.args.office.now.team c.len-count.ensures.ordered c.args.name.now c.contains_key-there.result is c.args.role c.in_default.not-Guest)

pub returns-else-there-2 : goal.returns-else-there-2
returns-else-there-2 c =
    let count = length c.args.office.now.team.entries in
    let is = c.contains_key-there.ensures ∙ ap (λ (name : Text). is_some (get_by (λ k. text_cmp name (string_bytes k)) c.args.office.now.team)) c.as_str.ensures.value in
    ap (λ (n : ℕ). n + 1) c.len-count.ensures.len ∙ (sym (ap (λ (b : Bool). cond b count (count + 1)) c.if-there-2.false)
    ∙ size_in_team c.args.office.now.team c.len-count.ensures.ordered c.args.name.now c.contains_key-there.result is c.args.role c.in_default.not-Guest)
