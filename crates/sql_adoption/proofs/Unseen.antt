-- What a domain sees that isn't there: nothing of its own, where each row is of a domain that there is.
use Rattle.std.proofs.Common.{◌≡◌, ◌&&◌, inl, List, [], ◌∷◌, map, true, false, sym, ap, subst, ◌∙◌, refl, codes}
use Rattle.std.specs.Prelude.{ℤ}
use Rattle.std.specs.FinMap as maps
use Rattle.std.specs.Ordering.{int_cmp}
use Rattle.std.proofs.lemmas.Bool.{false≢true, and_parts}
use Rattle.sqlite.specs.Order.{Row}
use Rattle.sqlite_rules.specs.Lists.{Has}
use Rattle.sqlite_rules.proofs.ListLemmas.{some_has}
use Rattle.sql_laws.specs.RowMaps.{map_of}
use Rattle.sql_laws.proofs.RowMaps.{texts_are_one}
use Rattle.po_text.specs.Valid.{IsValid}
use Rattle.po_text.specs.declared.entry.Entry.{Entry}
use Rattle.po_text.specs.Texts.{Text}
use Rattle.sql_schema.specs.Keys.{text_at, first_text, has_text}
use Rattle.sql_schema.specs.Layouts.{NamedRows}
use Rattle.sql_schema.specs.SeenRows.{entry_seen, language_seen, unit_seen, suggestion_seen, is_vote_in, vote_seen, seen_in}
use Rattle.sql_schema.proofs.SeenRows.{from_seen}
use Rattle.sql_meaning.specs.Domains.{is_domain, HoldsOwnDomains}
use Rattle.sql_meaning.specs.Meaning.{entry_of_row, template_in}
use Rattle.sql_meaning.specs.Values.{integer_at}
use Rattle.sql_meaning.proofs.RowsPut.{no_entries}
use Rattle.sql_adoption.specs.Adoption.{StandForOffice}

nothing_valid : IsValid []
nothing_valid = record { each = tt; unique = tt; header = tt }

none_of : (rows : List Row) → ((row : Row) → Has rows row → ⊥) → rows ≡ []
none_of [] none = refl
none_of (row ∷ rows) none = absurd (none row (inl refl))

module _ (rows : NamedRows) (own : HoldsOwnDomains rows) (domain : Text) (missing : is_domain rows domain ≡ false) where
  abbrev seen : NamedRows
  seen = seen_in domain rows

  -- a row of such a domain isn't there
  not_its : (text : Text) → is_domain rows text ≡ true → text ≡ domain → ⊥
  not_its text there is = false≢true (sym missing ∙ ap (is_domain rows) (sym is) ∙ there)

  no_entry : (x : Row) → Has (seen (codes "template")) x → ⊥
  no_entry x there =
      let r = from_seen (has_text 1 domain) entry_seen (rows (codes "d_template")) x there in
      not_its (text_at 1 r.0) (own.template r.0 r.1) (texts_are_one (text_at 1 r.0) domain r.2)

  no_language : (x : Row) → Has (seen (codes "language")) x → ⊥
  no_language x there =
      let r = from_seen (has_text 1 domain) language_seen (rows (codes "d_language")) x there in
      not_its (text_at 1 r.0) (own.languages r.0 r.1) (texts_are_one (text_at 1 r.0) domain r.2)

  no_unit : (x : Row) → Has (seen (codes "unit")) x → ⊥
  no_unit x there =
      let r = from_seen (has_text 1 domain) unit_seen (rows (codes "d_unit")) x there in
      not_its (text_at 1 r.0) (own.units r.0 r.1) (texts_are_one (text_at 1 r.0) domain r.2)

  no_suggestion : (x : Row) → Has (seen (codes "suggestion")) x → ⊥
  no_suggestion x there =
      let r = from_seen (has_text 2 domain) suggestion_seen (rows (codes "d_suggestion")) x there in
      not_its (text_at 2 r.0) (own.suggestions r.0 r.1) (texts_are_one (text_at 2 r.0) domain r.2)

  no_vote : (x : Row) → Has (seen (codes "vote")) x → ⊥
  no_vote x there =
      let r = from_seen (is_vote_in domain (rows (codes "d_suggestion"))) vote_seen (rows (codes "d_vote")) x there in
      let s = some_has (λ s. has_text 1 (first_text r.0) s && has_text 2 domain s) (rows (codes "d_suggestion")) r.2 in
      not_its (text_at 2 s.0) (own.suggestions s.0 s.1) (texts_are_one (text_at 2 s.0) domain (and_parts _ _ s.2).1)

  no_template : template_in seen ≡ []
  no_template =
      ap (λ entries. maps.values (map_of int_cmp (integer_at 0) entry_of_row entries)) (none_of (seen (codes "template")) no_entry)
      ∙ ap (map (λ (e : ℤ × Entry). e.1)) (no_entries int_cmp Entry)

  -- members and policy are those that each domain sees
  pub unseen_stands : (other : Text) → StandForOffice (seen_in other rows) → StandForOffice seen
  unseen_stands other stand = record {
    members = stand.members;
    policy = stand.policy;
    entries = λ row there. absurd (no_entry row there);
    template = subst IsValid (sym no_template) nothing_valid;
    languages = λ row there. absurd (no_language row there);
    units = λ row there. absurd (no_unit row there);
    suggestions = λ row there. absurd (no_suggestion row there);
    votes = λ row there. absurd (no_vote row there);
  }
