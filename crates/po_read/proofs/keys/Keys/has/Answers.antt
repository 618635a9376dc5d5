use Rattle.std.proofs.Common.{◌≡◌, sym, ◌∙◌, ap, Some, None, false}
use Rattle.std.specs.BTreeMap.{get}
use Rattle.std.specs.BTreeSet.{contains}
use Rattle.std.specs.Option.{option_copied}
use Rattle.std.specs.Ordering.{nat_cmp}
use Rattle.po_text.specs.Entries.{same_key}
use Rattle.po_text.specs.Keys.{entry_key_cmp}
use Rattle.po_read.specs.Found.{key_at_hand, pair_of, has_key, key_hash}
use Rattle.po_read.proofs.FoundLemmas.{read_at, none_found, first_found, other_found}
use Rattle.po_read.proofs.keys.Keys.has.Goals as goal

pub returns-in_default : goal.returns-in_default
returns-in_default c =
    let none : get nat_cmp c.self.inside.firsts (key_hash c.args.ctx.now c.args.id.now) ≡ None = ap (get nat_cmp c.self.inside.firsts) (sym c.key_hash.ensures) ∙ sym c.get.ensures.value ∙ ap option_copied c.in_default.is in
    none_found c.self.inside.all c.self.inside.firsts c.self.inside.others c.args.ctx.now c.args.id.now c.self.invariant none ∙ ap (has_key c.args.ctx.now c.args.id.now) c.self.view_is

pub is-requires : goal.is-requires
is-requires c =
    let first : get nat_cmp c.self.inside.firsts (key_hash c.args.ctx.now c.args.id.now) ≡ Some c.in-Some.first.now = ap (get nat_cmp c.self.inside.firsts) (sym c.key_hash.ensures) ∙ sym c.in-Some.ensures.value in
    c.self.invariant.places (key_hash c.args.ctx.now c.args.id.now) c.in-Some.first.now first

pub returns-then-is : goal.returns-then-is
returns-then-is c =
    let keys = c.self.inside.all in
    let first : get nat_cmp c.self.inside.firsts (key_hash c.args.ctx.now c.args.id.now) ≡ Some c.in-Some.first.now = ap (get nat_cmp c.self.inside.firsts) (sym c.key_hash.ensures) ∙ sym c.in-Some.ensures.value in
    let there = read_at keys c.in-Some.first.now (c.self.invariant.places (key_hash c.args.ctx.now c.args.id.now) c.in-Some.first.now first) in
    first_found keys c.in-Some.first.now there.0 c.args.ctx.now c.args.id.now there.1 (sym (c.is.ensures there.0 there.1) ∙ c.if-is.true) ∙ ap (has_key c.args.ctx.now c.args.id.now) c.self.view_is

pub returns : goal.returns
returns c =
    let keys = c.self.inside.all in
    let first : get nat_cmp c.self.inside.firsts (key_hash c.args.ctx.now c.args.id.now) ≡ Some c.in-Some.first.now = ap (get nat_cmp c.self.inside.firsts) (sym c.key_hash.ensures) ∙ sym c.in-Some.ensures.value in
    let there = read_at keys c.in-Some.first.now (c.self.invariant.places (key_hash c.args.ctx.now c.args.id.now) c.in-Some.first.now first) in
    let apart : same_key (pair_of there.0) (c.args.ctx.now, c.args.id.now) ≡ false = sym (c.is.ensures there.0 there.1) ∙ c.if-is.false in
    let found = other_found keys c.self.inside.firsts c.self.inside.others c.args.ctx.now c.args.id.now c.in-Some.first.now there.0 c.self.invariant first there.1 apart in
    let key : c.in_ok-key.key ≡ key_at_hand c.args.ctx.now c.args.id.now = λ i. record { ctx = c.in_ok-key.ensures.ctx i; id = c.in_ok-key.ensures.id i } in
    c.contains.ensures ∙ ap (contains entry_key_cmp c.self.inside.others) key ∙ found ∙ ap (has_key c.args.ctx.now c.args.id.now) c.self.view_is
