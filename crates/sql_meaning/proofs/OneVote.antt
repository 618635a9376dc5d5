-- The votes on a suggestion, where one is put among the rows of votes or goes.
use Rattle.std.proofs.Common.{◌≡◌, ◌≢◌, inl, inr, List, [], ◌∷◌, ◌&&◌, true, filter, refl, sym, ap, subst, ◌∙◌}
use Rattle.std.proofs.lemmas.Bool.{and_parts, false_from_ne_true}
use Rattle.std.specs.FinMap as maps
use Rattle.sqlite.specs.Order.{Row}
use Rattle.sqlite_rules.proofs.ListLemmas.{has_filtered, has_kept}
use Rattle.sql_laws.specs.ApartRows.{IsRemoved}
use Rattle.sql_laws.specs.RowMaps.{OneEach, IsPut, map_of}
use Rattle.sql_laws.proofs.RowMaps.{map_of-put, map_of-same_rows, texts_are_one, text_ties_itself}
use Rattle.po_text.specs.Texts.{Text, text_cmp}
use Rattle.units.specs.Orders.{text_total, text_IsAntisymmetric}
use Rattle.units.specs.declared.votes.VoteValue.{VoteValue}
use Rattle.sql_schema.specs.Keys.{text_at, first_text, first_texts, has_text}
use Rattle.sql_meaning.specs.Values.{vote_at}
use Rattle.sql_meaning.proofs.MapEntries.{map_of-removed}
use Rattle.sql_meaning.proofs.UniqueKeys.{one_voter}

-- those on the suggestion of this number
abbrev pub votes_among : List Row → Text → maps.FinMap text_cmp VoteValue
votes_among rows number = map_of text_cmp (text_at 2) (vote_at 3) (filter (has_text 1 number) rows)

of_number : (number : Text) (row : Row) → first_text row ≡ number → has_text 1 number row ≡ true
of_number number row is = subst (λ t. has_text 1 t row ≡ true) is (text_ties_itself (first_text row))

module _ (old new : List Row) (one : OneEach first_texts old) where
  -- ---- a vote is put

  module _ (row : Row) (put : IsPut first_texts old new row) where
    pub vote_put : votes_among new (first_text row) ≡ maps.insert (votes_among old (first_text row)) (text_at 2 row) (vote_at 3 row)
    vote_put =
        map_of-put text_cmp text_total text_IsAntisymmetric (text_at 2) (vote_at 3) (filter (has_text 1 number) old) (filter (has_text 1 number) new) row (one_voter old number one) (record {
          only = λ x there.
              let f = has_filtered (has_text 1 number) new x there in
              elim (put.only x f.0) [
                | inl is ↦ inl is
                | inr was ↦ inr (has_kept (has_text 1 number) old x was.0 f.1, λ e. was.1 (together x f.1 e))
              ];
          here = has_kept (has_text 1 number) new row put.here (of_number number row refl);
          kept = λ x there differ.
              let f = has_filtered (has_text 1 number) old x there in
              has_kept (has_text 1 number) new x (put.kept x f.0 (λ e. let voter : text_at 2 x ≡ text_at 2 row = cc in differ voter)) f.1;
        })
      where
        number : Text
        number = first_text row

        together : (x : Row) → has_text 1 number x ≡ true → text_at 2 x ≡ text_at 2 row → first_texts x ≡ first_texts row
        together x of_it e = let first = texts_are_one (text_at 1 x) number of_it in λ i. first i ∷ e i ∷ []

    -- the votes on the others stay
    pub others_at_put : (number : Text) → number ≢ first_text row → votes_among new number ≡ votes_among old number
    others_at_put number differ =
        map_of-same_rows text_cmp text_total text_IsAntisymmetric (text_at 2) (vote_at 3) (filter (has_text 1 number) old) (filter (has_text 1 number) new) (one_voter old number one)
        (λ x there.
        let f = has_filtered (has_text 1 number) new x there in
        elim (put.only x f.0) [
          | inl is ↦ absurd (differ (sym (texts_are_one (text_at 1 x) number f.1) ∙ ap first_text is))
          | inr was ↦ has_kept (has_text 1 number) old x was.0 f.1
        ])
        (λ x there.
        let f = has_filtered (has_text 1 number) old x there in
        has_kept (has_text 1 number) new x (put.kept x f.0 (λ e. let first : text_at 1 x ≡ first_text row = cc in differ (sym (texts_are_one (text_at 1 x) number f.1) ∙ first))) f.1)

  -- ---- a vote goes

  module _ (number voter : Text) (removed : IsRemoved (λ row. has_text 1 number row && has_text 2 voter row) old new) where
    pub vote_taken : votes_among new number ≡ maps.remove (votes_among old number) voter
    vote_taken =
        map_of-removed text_cmp text_total text_IsAntisymmetric (text_at 2) (vote_at 3) (filter (has_text 1 number) old) (filter (has_text 1 number) new) voter (one_voter old number one) (record {
          only = λ x there.
              let f = has_filtered (has_text 1 number) new x there in
              let was = removed.only x f.0 in
              (has_kept (has_text 1 number) old x was.0 f.1, sym (ap (λ b. b && has_text 2 voter x) f.1) ∙ was.1);
          kept = λ x there out.
              let f = has_filtered (has_text 1 number) old x there in
              has_kept (has_text 1 number) new x (removed.kept x f.0 (ap (λ b. b && has_text 2 voter x) f.1 ∙ out)) f.1;
        })

    pub others_at_taken : (other : Text) → other ≢ number → votes_among new other ≡ votes_among old other
    others_at_taken other differ =
        map_of-same_rows text_cmp text_total text_IsAntisymmetric (text_at 2) (vote_at 3) (filter (has_text 1 other) old) (filter (has_text 1 other) new) (one_voter old other one)
        (λ x there.
        let f = has_filtered (has_text 1 other) new x there in
        has_kept (has_text 1 other) old x (removed.only x f.0).0 f.1)
        (λ x there.
        let f = has_filtered (has_text 1 other) old x there in
        has_kept (has_text 1 other) new x (removed.kept x f.0 (false_from_ne_true _ (λ e.
        let first = texts_are_one (text_at 1 x) number (and_parts (has_text 1 number x) (has_text 2 voter x) e).0 in
        differ (sym (texts_are_one (text_at 1 x) other f.1) ∙ first)))) f.1)
