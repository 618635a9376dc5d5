use Rattle.std.proofs.Common.{◌≡◌, length, slice_get, Some, None, refl, sym, ◌∙◌, subst, arith}
use Rattle.std.proofs.lemmas.Bool.{iff_false}
use Rattle.std.proofs.lemmas.Option.{slice_get_read, slice_get_within, same_Some}
use Rattle.sql_commits.specs.Entries.{IsShown}
use Rattle.sql_commits.proofs.EntriesShown.{one_entry, found_at, found_nowhere}
use Rattle.sql_commits.proofs.changed_entries.place_shown.Goals as goal

pub returns-then-branch : goal.returns-then-branch
returns-then-branch c =
    let entries = c.args.entries.now in
    let entry = c.in-Some-get.entry.now in
    let found = c.in-Some-get.ensures.lookup in
    found_at entries c.args.row.now c.in-Some.place (record {
      entry = entry;
      is_there = slice_get_read entries (length entries) c.in-Some.place entry refl found.3.0 found.1;
      texts = c.in_ok-shows.ensures.texts.0 c.if-branch.true;
      at = (c.natural_in.ensures c.in-Some.place).0 c.in-Some.is;
      strings = c.shows.ensures.strings;
    })

-- its texts are others
pub returns-else-branch : goal.returns-else-branch
returns-else-branch c =
    let entries = c.args.entries.now in
    let row = c.args.row.now in
    let place = c.in-Some.place in
    let entry = c.in-Some-get.entry.now in
    let found = c.in-Some-get.ensures.lookup in
    found_nowhere entries row (λ n it.
    let same : n ≡ place = same_Some n place (sym ((c.natural_in.ensures n).1 it.at) ∙ c.in-Some.is) in
    let one = one_entry entries place it.entry entry (subst (λ k. slice_get entries k ≡ Some it.entry) same it.is_there) (slice_get_read entries (length entries) place entry refl found.3.0 found.1) in
    iff_false c.in_ok-shows.ensures.texts c.if-branch.false (subst (λ e. IsShown e row) one it.texts))

-- it has no place
pub returns-in_default : goal.returns-in_default
returns-in_default c = found_nowhere c.args.entries.now c.args.row.now (λ n it. let clash : None ≡ Some n = sym c.in_default.is ∙ (c.natural_in.ensures n).1 it.at in cc)

-- its place is behind the last
pub returns-in_default-get : goal.returns-in_default-get
returns-in_default-get c =
    let entries = c.args.entries.now in
    found_nowhere entries c.args.row.now (λ n it.
    let same : n ≡ c.in-Some.place = same_Some n c.in-Some.place (sym ((c.natural_in.ensures n).1 it.at) ∙ c.in-Some.is) in
    omega (arith, same, slice_get_within entries n it.entry it.is_there, c.in_default-get.ensures.lookup))
