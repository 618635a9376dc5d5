-- How callers show what an office is tested with: no record is noted at first.
use Rattle.std.proofs.Common.{◌≡◌, ℕ, [], sym, ap, ◌∙◌}
use Rattle.std.specs.Prelude.{option_map}
use Rattle.std.specs.Map.{lookup}
use Rattle.std.specs.Ordering.{is_eq}
use Rattle.std.specs.BTreeMap.{BTreeMap}
use Rattle.std.specs.FinMap as maps
use Rattle.po_text.specs.Texts.{Text, text_cmp}
use Rattle.request_book.specs.Book.{Recorded}
use Rattle.rule_tests.specs.Given.{AreStatusesOf}

pub none_noted : (statuses : BTreeMap Text ℕ) → statuses.entries ≡ [] → AreStatusesOf maps.empty statuses
none_noted statuses none number =
    ap (λ es. lookup (λ k. is_eq (text_cmp number k)) es) none ∙ sym (ap (option_map (λ (recorded : Recorded). recorded.reply.status)) (maps.get-empty {X = Recorded} text_cmp number))
