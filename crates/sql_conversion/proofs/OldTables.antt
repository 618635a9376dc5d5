-- The old tables keep their rows, but for the policy's: seven are written by no statement of a conversion, and records and members are as they were.
use Rattle.std.proofs.Common.{◌≡◌, ◌≢◌, ◌⊎◌, inl, inr, ℕ, List, Bool, true, false, ◌||◌, refl, subst, codes}
use Rattle.std.specs.Cmp.Lexicographic.{slice_cmp}
use Rattle.std.specs.Ordering.{nat_cmp, is_eq}
use Rattle.po_text.specs.Texts.{Text}
use Rattle.sql_laws.proofs.RowMaps.{texts_are_one}
use Rattle.sql_schema.proofs.Layouts.{names_differ}
use Rattle.sql_schema.specs.Layouts.{for_main, is_own_table, NamedRows}
use Rattle.sql_changes.proofs.DomainWrites.{elsewhere}
use Rattle.sql_changes.specs.OnDomains.{IsElsewhere}

either : (a b : Bool) → (a || b) ≡ true → (a ≡ true) ⊎ (b ≡ true)
either true b is = inl refl
either false b is = inr is

module _ (old new : NamedRows) (records : new (codes "record") ≡ old (codes "record")) (team : new (codes "team") ≡ old (codes "team"))
    (others : (name : List ℕ) → IsElsewhere name → name ≢ codes "domain" → new name ≡ old name) where
  abbrev Stays : List ℕ → Type 0
  Stays name = name ≢ codes "policy" → new name ≡ old name

  -- the name is this table's, or it is among the rest
  one : (table name : Text) (rest : Bool) → Stays table → (rest ≡ true → Stays name) → (is_eq (slice_cmp nat_cmp table name) || rest) ≡ true → Stays name
  one table name rest stays more is = elim (either (is_eq (slice_cmp nat_cmp table name)) rest is) [
    | inl same ↦ subst Stays (texts_are_one table name same) stays
    | inr later ↦ more later
  ]

  template_stays : Stays (codes "template")
  template_stays apart = others (codes "template") (elsewhere refl refl refl refl refl refl refl refl refl refl) (names_differ refl)

  languages_stay : Stays (codes "language")
  languages_stay apart = others (codes "language") (elsewhere refl refl refl refl refl refl refl refl refl refl) (names_differ refl)

  units_stay : Stays (codes "unit")
  units_stay apart = others (codes "unit") (elsewhere refl refl refl refl refl refl refl refl refl refl) (names_differ refl)

  suggestions_stay : Stays (codes "suggestion")
  suggestions_stay apart = others (codes "suggestion") (elsewhere refl refl refl refl refl refl refl refl refl refl) (names_differ refl)

  votes_stay : Stays (codes "vote")
  votes_stay apart = others (codes "vote") (elsewhere refl refl refl refl refl refl refl refl refl refl) (names_differ refl)

  sums_stay : Stays (codes "vote_sum")
  sums_stay apart = others (codes "vote_sum") (elsewhere refl refl refl refl refl refl refl refl refl refl) (names_differ refl)

  tallies_stay : Stays (codes "tally")
  tallies_stay apart = others (codes "tally") (elsewhere refl refl refl refl refl refl refl refl refl refl) (names_differ refl)

  pub old_tables_stay : (name : List ℕ) → is_own_table (for_main true) name ≡ true → Stays name
  old_tables_stay name =
      one (codes "record") name _ (λ apart. records) (one (codes "team") name _ (λ apart. team) (one (codes "policy") name _ (λ apart. absurd (apart refl))
      (one (codes "template") name _ template_stays (one (codes "language") name _ languages_stay (one (codes "unit") name _ units_stay (one (codes "suggestion") name _ suggestions_stay
      (one (codes "vote") name _ votes_stay (one (codes "vote_sum") name _ sums_stay (one (codes "tally") name false tallies_stay (λ none. absurd (let no = none in cc)))))))))))
