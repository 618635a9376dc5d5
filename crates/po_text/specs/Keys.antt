-- The order of keys by context and msgid: this project's own rule.
use Rattle.std.specs.declared.cmp.Ordering.{Ordering}
use Rattle.std.specs.Ordering.{on, then_cmp}
use Rattle.std.specs.Option.{option_cmp}
use Rattle.std.specs.Cmp.{IsTotalOrder}
use Rattle.std.specs.Cmp.Lexicographic.{nat_list_cmp_total, options_total}
use Rattle.std.proofs.lemmas.Cmp.{on_total, then_total}
use Rattle.po_text.specs.Texts.{text_cmp}
use Rattle.po_text.specs.declared.key.EntryKey.{EntryKey}

abbrev pub entry_key_cmp : EntryKey → EntryKey → Ordering
entry_key_cmp = then_cmp (on (λ key. key.ctx) (option_cmp text_cmp)) (on (λ key. key.id) text_cmp)

pub entry_key_total : IsTotalOrder entry_key_cmp
entry_key_total = then_total (on_total (λ key. key.ctx) (options_total nat_list_cmp_total)) (on_total (λ key. key.id) nat_list_cmp_total)
