-- A suggestion is added in a domain: its domain sees it put, the votes are seen as they were, and every other domain sees what it saw.
use Rattle.std.proofs.Common.{◌≡◌, ◌≢◌, ◌⊎◌, inl, inr, List, [], ◌&&◌, Bool, true, false, cond, map, refl, sym, ap, subst, ◌∙◌, codes}
use Rattle.std.proofs.lemmas.Bool.{and_parts, false_from_ne_true}
use Rattle.std.specs.Ordering.{nat_cmp, is_eq}
use Rattle.std.specs.Cmp.Lexicographic.{slice_cmp}
use Rattle.sqlite.specs.Order.{Row}
use Rattle.sqlite.specs.Effect.{Database}
use Rattle.sqlite_rules.specs.Lists.{Has}
use Rattle.sqlite_rules.proofs.ListLemmas.{some_has, some_from}
use Rattle.sql_laws.specs.RowMaps.{IsPut}
use Rattle.sql_laws.proofs.RowMaps.{texts_are_one, text_ties_itself}
use Rattle.po_text.specs.Texts.{Text}
use Rattle.sql_schema.specs.Inside.{PutsIn}
use Rattle.sql_schema.specs.Keys.{text_at, first_text, has_text}
use Rattle.sql_schema.specs.Layouts.{NamedRows, rows_named}
use Rattle.sql_schema.specs.SeenRows.{rows_seen, entry_seen, language_seen, unit_seen, suggestion_seen, is_vote_in, vote_seen, named_so, seen_in, AreSame, AreSameByName}
use Rattle.sql_schema.proofs.Layouts.{by_name, names_differ}
use Rattle.sql_schema.proofs.Queries.{filtered_same}
use Rattle.sql_schema.proofs.SeenRows.{from_seen, to_seen}
use Rattle.sql_statements.specs.Added.{AddsRow}

-- two tests are one where each says what the other says
same_test : (a b : Bool) → (a ≡ true → b ≡ true) → (b ≡ true → a ≡ true) → a ≡ b
same_test true b forth back = sym (forth refl)
same_test false true forth back = back refl
same_test false false forth back = refl

module _ (IsRow : Row → Type 0) (old new : Database) (domain : Text) (adds : AddsRow (codes "d_suggestion") first_text IsRow old new) (own : text_at 2 adds.puts.row ≡ domain)
    (on_suggestion : (v : Row) → Has (rows_named old (codes "d_vote")) v → (s : Row) × Has (rows_named old (codes "d_suggestion")) s × (first_text v ≡ first_text s)) where
  abbrev were : NamedRows
  were = rows_named old

  abbrev are : NamedRows
  are = rows_named new

  abbrev row : Row
  row = adds.puts.row

  stays : (name : Text) → name ≢ codes "d_suggestion" → are name ≡ were name
  stays = adds.puts.others

  -- ---- the votes are seen as they were, since none is of the new number

  module _ (d : Text) where
    forth : (v : Row) → Has (were (codes "d_vote")) v → is_vote_in d (are (codes "d_suggestion")) v ≡ true → is_vote_in d (were (codes "d_suggestion")) v ≡ true
    forth v there e =
        let s = some_has (λ s. has_text 1 (first_text v) s && has_text 2 d s) (are (codes "d_suggestion")) e in
        by s.0 s.2 (adds.puts.put.only s.0 s.1)
      where
        by : (s : Row) → (has_text 1 (first_text v) s && has_text 2 d s) ≡ true → (s ≡ row) ⊎ (Has (were (codes "d_suggestion")) s × (first_text s ≡ first_text row → ⊥))
            → is_vote_in d (were (codes "d_suggestion")) v ≡ true
        by s passes (inl is) =
            let number = texts_are_one (first_text s) (first_text v) (and_parts (has_text 1 (first_text v) s) (has_text 2 d s) passes).0 in
            let its = on_suggestion v there in
            absurd (adds.fresh its.0 its.1 (sym its.2 ∙ (sym number ∙ ap first_text is)))
        by s passes (inr was) = some_from (λ s. has_text 1 (first_text v) s && has_text 2 d s) (were (codes "d_suggestion")) s was.0 passes

    back : (v : Row) → is_vote_in d (were (codes "d_suggestion")) v ≡ true → is_vote_in d (are (codes "d_suggestion")) v ≡ true
    back v e =
        let s = some_has (λ s. has_text 1 (first_text v) s && has_text 2 d s) (were (codes "d_suggestion")) e in
        some_from (λ s. has_text 1 (first_text v) s && has_text 2 d s) (are (codes "d_suggestion")) s.0 (adds.puts.put.kept s.0 s.1 (adds.fresh s.0 s.1)) s.2

    votes_same : seen_in d are (codes "vote") ≡ seen_in d were (codes "vote")
    votes_same =
        ap (λ (votes : List Row). rows_seen (is_vote_in d (are (codes "d_suggestion"))) vote_seen votes) (stays (codes "d_vote") (names_differ refl))
        ∙ ap (map vote_seen) (filtered_same (is_vote_in d (are (codes "d_suggestion"))) (is_vote_in d (were (codes "d_suggestion"))) (were (codes "d_vote"))
        (λ v there. same_test _ _ (forth v there) (back v)))

    -- and so is what is seen of each other name
    others_same : (name : Text) → name ≢ codes "suggestion" → seen_in d are name ≡ seen_in d were name
    others_same name differ =
        let records = stays (codes "record") (names_differ refl) in
        let team = stays (codes "team") (names_differ refl) in
        let policy = stays (codes "policy") (names_differ refl) in
        let template = stays (codes "d_template") (names_differ refl) in
        let languages = stays (codes "d_language") (names_differ refl) in
        let units = stays (codes "d_unit") (names_differ refl) in
        let votes = votes_same in
        passed are (seen_in d are (codes "suggestion")) (seen_in d are (codes "vote"))
        ∙ (λ i. named_so (records i) (team i) (policy i) (rows_seen (has_text 1 d) entry_seen (template i)) (rows_seen (has_text 1 d) language_seen (languages i))
        (rows_seen (has_text 1 d) unit_seen (units i)) [] (votes i) name)
        ∙ sym (passed were (seen_in d were (codes "suggestion")) (seen_in d were (codes "vote")))
      where
        both : (b : Bool) (x y rest : List Row) → b ≡ false → cond b x rest ≡ cond b y rest
        both b x y rest e = ap (λ c. cond c x rest) e ∙ sym (ap (λ c. cond c y rest) e)

        no_s : is_eq (slice_cmp nat_cmp name (codes "suggestion")) ≡ false
        no_s = false_from_ne_true _ (λ e. differ (texts_are_one name (codes "suggestion") e))

        passed : (rows : NamedRows) (suggestions votes : List Row)
            → named_so (rows (codes "record")) (rows (codes "team")) (rows (codes "policy")) (rows_seen (has_text 1 d) entry_seen (rows (codes "d_template"))) (rows_seen (has_text 1 d) language_seen (rows (codes "d_language")))
            (rows_seen (has_text 1 d) unit_seen (rows (codes "d_unit"))) suggestions votes name
            ≡ named_so (rows (codes "record")) (rows (codes "team")) (rows (codes "policy")) (rows_seen (has_text 1 d) entry_seen (rows (codes "d_template"))) (rows_seen (has_text 1 d) language_seen (rows (codes "d_language")))
            (rows_seen (has_text 1 d) unit_seen (rows (codes "d_unit"))) [] votes name
        passed rows suggestions votes =
            ap (λ (more : List Row). cond (is_eq (slice_cmp nat_cmp name (codes "unit"))) (rows_seen (has_text 1 d) unit_seen (rows (codes "d_unit"))) more)
            (both (is_eq (slice_cmp nat_cmp name (codes "suggestion"))) suggestions [] _ no_s)

  -- ---- its domain

  own_seen : has_text 2 domain row ≡ true
  own_seen = rw own (text_ties_itself domain)

  pub suggestion_put_seen : (IsSeen : Row → Type 0) → ((r : Row) → IsRow r → IsSeen (suggestion_seen r)) → PutsIn (codes "suggestion") first_text IsSeen (seen_in domain were) (seen_in domain are)
  suggestion_put_seen IsSeen is_seen = record {
    row = suggestion_seen row;
    is_row = is_seen row adds.puts.is_row;
    put = put;
    others = others_same domain;
  }
    where
      put : IsPut first_text (seen_in domain were (codes "suggestion")) (seen_in domain are (codes "suggestion")) (suggestion_seen row)
      put = record {
        only = λ x there.
            let r = from_seen (has_text 2 domain) suggestion_seen (are (codes "d_suggestion")) x there in
            elim (adds.puts.put.only r.0 r.1) [
              | inl is ↦ inl (r.3 ∙ ap suggestion_seen is)
              | inr was ↦ inr (
                subst (Has (seen_in domain were (codes "suggestion"))) (sym r.3) (to_seen (has_text 2 domain) suggestion_seen (were (codes "d_suggestion")) r.0 was.0 r.2),
                λ e. was.1 (ap first_text (sym r.3) ∙ e),
              )
            ];
        here = to_seen (has_text 2 domain) suggestion_seen (are (codes "d_suggestion")) row adds.puts.put.here own_seen;
        kept = λ x there differ.
            let r = from_seen (has_text 2 domain) suggestion_seen (were (codes "d_suggestion")) x there in
            subst (Has (seen_in domain are (codes "suggestion"))) (sym r.3)
            (to_seen (has_text 2 domain) suggestion_seen (are (codes "d_suggestion")) r.0 (adds.puts.put.kept r.0 r.1 (adds.fresh r.0 r.1)) r.2);
      }

  -- ---- every other domain

  pub suggestion_unseen : (other : Text) → other ≢ domain → AreSameByName (seen_in other were) (seen_in other are)
  suggestion_unseen other differ name =
      by_name name (codes "suggestion") (λ is. subst (λ n. AreSame (seen_in other were n) (seen_in other are n)) (sym is) suggestions)
      (λ apart. same (seen_in other were name) (seen_in other are name) (others_same other name apart))
    where
      same : (before after : List Row) → after ≡ before → AreSame before after
      same before after e = record { only = λ x there. subst (λ rows. Has rows x) e there; kept = λ x there. subst (λ rows. Has rows x) (sym e) there }

      was : (r : Row) → has_text 2 other r ≡ true → (r ≡ row) ⊎ (Has (were (codes "d_suggestion")) r × (first_text r ≡ first_text row → ⊥)) → Has (were (codes "d_suggestion")) r
      was r passes (inl is) = absurd (differ (sym (texts_are_one (text_at 2 r) other passes) ∙ (ap (text_at 2) is ∙ own)))
      was r passes (inr there) = there.0

      suggestions : AreSame (seen_in other were (codes "suggestion")) (seen_in other are (codes "suggestion"))
      suggestions = record {
        only = λ x there.
            let r = from_seen (has_text 2 other) suggestion_seen (are (codes "d_suggestion")) x there in
            subst (Has (seen_in other were (codes "suggestion"))) (sym r.3)
            (to_seen (has_text 2 other) suggestion_seen (were (codes "d_suggestion")) r.0 (was r.0 r.2 (adds.puts.put.only r.0 r.1)) r.2);
        kept = λ x there.
            let r = from_seen (has_text 2 other) suggestion_seen (were (codes "d_suggestion")) x there in
            subst (Has (seen_in other are (codes "suggestion"))) (sym r.3)
            (to_seen (has_text 2 other) suggestion_seen (are (codes "d_suggestion")) r.0 (adds.puts.put.kept r.0 r.1 (adds.fresh r.0 r.1)) r.2);
      }
