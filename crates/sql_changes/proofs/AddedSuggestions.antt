-- A unit that is written over rows of which none has its suggestions' numbers reads back as it.
use Rattle.std.proofs.Common.{◌≡◌, ◌≢◌, inl, inr, ℕ, ◌+◌, List, [], ◌∷◌, sym, ap, subst, ◌∙◌, codes, refl}
use Rattle.sqlite.specs.Order.{Row}
use Rattle.sqlite_rules.specs.Lists.{Has}
use Rattle.po_text.specs.Texts.{Text}
use Rattle.units.specs.KeyTexts.{HasStrings}
use Rattle.units.specs.Units.{key_text}
use Rattle.units.specs.declared.unit.Suggestion.{Suggestion}
use Rattle.units.specs.declared.unit.Unit.{Unit}
use Rattle.request_book.specs.Words.{number_text}
use Rattle.sql_columns.specs.Written.{ArePrevious}
use Rattle.sql_schema.specs.Keys.{first_text, first_texts}
use Rattle.sql_meaning.specs.Written.{PutsRows, PutsSuggestions, WritesUnit}
use Rattle.sql_meaning.proofs.Suggestions.{AreFree}
use Rattle.sql_meaning.proofs.UnitsWritten.{IsWritable}
use Rattle.sql_meaning.proofs.WrittenRows.{HaveOwnNumbers}
use Rattle.sql_changes.specs.UnitWrites.{AddsSuggestions, WritesNumberedUnit}
use Rattle.sql_schema.proofs.Layouts.{names_differ}
use Rattle.sql_schema.specs.Layouts.{NamedRows}

-- what is added is put
adds_put : (lang key : Text) (place : ℕ) (ss : List Suggestion) (old new : NamedRows) → AddsSuggestions lang key place ss old new → PutsSuggestions lang key place ss old new
adds_put lang key place [] old new is = is
adds_put lang key place (s ∷ more) old new (mid, (after, added, votes), rest) = (mid, (after, added.puts, votes), adds_put lang key (place + 1) more mid new rest)

pub unit_written : (lang : Text) (unit : Unit) (old new : NamedRows) → WritesNumberedUnit lang unit old new → WritesUnit lang unit old new
unit_written lang unit old new (mid, put, (cleared, clear, adds)) = (mid, put, (cleared, clear, adds_put lang (key_text unit.key) 0 unit.suggestions cleared new adds.0))

-- ---- their numbers

votes_spare : (all : List Row) (old new : NamedRows) → PutsRows (codes "vote") first_texts all old new → new (codes "suggestion") ≡ old (codes "suggestion")
votes_spare [] old new is = ap (λ (d : NamedRows). d (codes "suggestion")) is
votes_spare (cells ∷ more) old new (mid, put, rest) = votes_spare more mid new rest ∙ put.others (codes "suggestion") (names_differ refl)

-- no row that is there has a number of those that are added
fresh : (lang key : Text) (place : ℕ) (ss : List Suggestion) (old new : NamedRows) → AddsSuggestions lang key place ss old new
    → (x : Row) → Has (old (codes "suggestion")) x → (s : Suggestion) → Has ss s → first_text x ≢ number_text s.number
fresh lang key place [] old new adds x there s in_s is = in_s
fresh lang key place (t ∷ more) old new (mid, (after, added, votes), rest) x there s (inl same) is =
    let number : first_text added.puts.row ≡ number_text t.number = ap first_text added.puts.is_row.1 in
    added.fresh x there (is ∙ ap (λ (r : Suggestion). number_text r.number) same ∙ sym number)
fresh lang key place (t ∷ more) old new (mid, (after, added, votes), rest) x there s (inr later) is =
    let next = added.puts.put.kept x there (λ e. added.fresh x there e) in
    fresh lang key (place + 1) more mid new rest x (subst (λ rows. Has rows x) (sym (votes_spare _ after mid votes)) next) s later is

own_numbers : (lang key : Text) (place : ℕ) (ss : List Suggestion) (old new : NamedRows) → AddsSuggestions lang key place ss old new → HaveOwnNumbers ss
own_numbers lang key place [] old new adds = tt
own_numbers lang key place (s ∷ more) old new (mid, (after, added, votes), rest) = (differs, own_numbers lang key (place + 1) more mid new rest)
  where
    differs : (other : Suggestion) → Has more other → other.number ≢ s.number
    differs other there is =
        let here = subst (λ rows. Has rows added.puts.row) (sym (votes_spare _ after mid votes)) added.puts.put.here in
        let number : first_text added.puts.row ≡ number_text s.number = ap first_text added.puts.is_row.1 in
        fresh lang key (place + 1) more mid new rest added.puts.row here other there (number ∙ ap number_text (sym is))

pub unit_writable : (lang : Text) (unit : Unit) (old new : NamedRows) → WritesNumberedUnit lang unit old new → HasStrings unit.key → ArePrevious unit.previous → IsWritable old lang unit
unit_writable lang unit old new (mid, put, (cleared, clear, adds)) strings previous = record {
  key = strings;
  previous = previous;
  numbers = adds.1;
  own = own_numbers lang (key_text unit.key) 0 unit.suggestions cleared new adds.0;
  free = are_free;
}
  where
    are_free : AreFree lang (key_text unit.key) unit.suggestions old
    are_free s in_s row there off =
        let same = put.others (codes "suggestion") (names_differ refl) in
        fresh lang (key_text unit.key) 0 unit.suggestions cleared new adds.0 row (clear.suggestions.kept row (subst (λ rows. Has rows row) (sym same) there) off) s in_s
