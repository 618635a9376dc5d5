-- What statements on the tables by domains make of the rows that a domain sees, in the words of those on tables without a column for a domain.
use Rattle.std.proofs.Common.{◌≡◌, ◌≢◌, ◌⊎◌, ℤ, pos, List, [], ◌∷◌, ◌&&◌, Bool, true, false, codes, refl, sym, ap, subst, ◌∙◌}
use Rattle.std.proofs.lemmas.Bool.{and_from}
use Rattle.std.specs.Ordering.{nat_cmp, is_eq}
use Rattle.std.specs.Cmp.Lexicographic.{slice_cmp}
use Rattle.sqlite.specs.declared.types.Value.{Value}
use Rattle.sqlite.specs.declared.types.Value.TheVariants.{Int, Text as Words}
use Rattle.sqlite.specs.Order.{Row}
use Rattle.sqlite.specs.Effect.{Database}
use Rattle.sqlite_rules.specs.Lists.{Has}
use Rattle.sqlite_rules.proofs.ListLemmas.{some_from}
use Rattle.sql_laws.specs.ApartRows.{IsRemoved}
use Rattle.sql_laws.proofs.RowMaps.{text_ties_itself}
use Rattle.po_text.specs.Texts.{Text}
use Rattle.sql_schema.specs.Inside.{AreOfficeTablesOf, PutsRow, PutsIn, HoldsValues}
use Rattle.sql_schema.specs.Keys.{text_at, key_texts, first_text, first_texts, first_three, row_number, domain_place, has_text}
use Rattle.sql_schema.specs.Layouts.{by_domain, NamedRows, rows_named, SparesOthers}
use Rattle.sql_schema.specs.SeenRows.{rows_seen, entry_seen, language_seen, unit_seen, suggestion_seen, is_vote_in, vote_seen, seen_in, AreSame, AreSameByName}
use Rattle.sql_schema.proofs.DomainsSeen.{is_text, unit_put_seen}
use Rattle.sql_schema.proofs.Layouts.{names_differ}
use Rattle.sql_schema.proofs.SeenRows.{from_seen, removed_seen, none_removed}
use Rattle.sql_statements.specs.Added.{AddsRow}
use Rattle.sql_statements.specs.DomainCleared.{ClearsDomainUnit}
use Rattle.sql_statements.specs.DomainRenewed.{HaveNextRevisionsInDomains, UnapprovesDomainUnits}
use Rattle.sql_statements.specs.Renewed.{is_approved_row, unapproved_row}
use Rattle.sql_statements.specs.DomainEntries.{is_entry_of}
use Rattle.sql_statements.specs.Taken.{TakesRows}
use Rattle.sql_statements.proofs.SeenChanges.{by_seen_name, same_by_name, other_than_templates, other_than_votes, nothing_seen, language_put_seen, entry_put_seen, entries_taken_seen, entry_taken_seen, vote_put_seen, units_unapproved_seen}
use Rattle.sql_meaning.specs.RowChanges.{AddsIn, TakesIn, ClearsIn, RenewsIn}
use Rattle.sql_meaning.proofs.DomainAdds.{suggestion_put_seen}
use Rattle.sql_meaning.proofs.DomainClears.{cleared_seen}
use Rattle.sql_meaning.proofs.DomainOfficeRows.{on_suggestion}
use Rattle.sql_meaning.proofs.RowsByName.{puts_in}

-- where a table of the whole office changes alone, what is seen of it does
office_others : (domain : Text) (old new : NamedRows) (table : Text) → SparesOthers table old new → codes "d_unit" ≢ table → codes "d_suggestion" ≢ table → codes "d_vote" ≢ table → codes "d_template" ≢ table
    → codes "d_language" ≢ table → SparesOthers table (seen_in domain old) (seen_in domain new)
office_others domain old new table stays unit suggestion vote template language =
    by_seen_name (λ name. name ≢ table → seen_in domain new name ≡ seen_in domain old name)
    (λ d. ap (rows_seen (has_text 1 domain) unit_seen) (stays (codes "d_unit") unit))
    (λ d. ap (rows_seen (has_text 2 domain) suggestion_seen) (stays (codes "d_suggestion") suggestion))
    (λ d i. rows_seen (is_vote_in domain (stays (codes "d_suggestion") suggestion i)) vote_seen (stays (codes "d_vote") vote i))
    (λ d. ap (rows_seen (has_text 1 domain) entry_seen) (stays (codes "d_template") template))
    (λ d. ap (rows_seen (has_text 1 domain) language_seen) (stays (codes "d_language") language))
    (λ d. stays (codes "team") d)
    (λ d. stays (codes "policy") d)
    (λ d. stays (codes "record") d)
    (λ name none d. none domain new ∙ sym (none domain old))

other_than_units : (domain : Text) (old new : NamedRows) → SparesOthers (codes "d_unit") old new → SparesOthers (codes "unit") (seen_in domain old) (seen_in domain new)
other_than_units domain old new stays =
    by_seen_name (λ name. name ≢ codes "unit" → seen_in domain new name ≡ seen_in domain old name)
    (λ d. absurd (d refl))
    (λ d. ap (rows_seen (has_text 2 domain) suggestion_seen) (stays (codes "d_suggestion") (names_differ refl)))
    (λ d i. rows_seen (is_vote_in domain (stays (codes "d_suggestion") (names_differ refl) i)) vote_seen (stays (codes "d_vote") (names_differ refl) i))
    (λ d. ap (rows_seen (has_text 1 domain) entry_seen) (stays (codes "d_template") (names_differ refl)))
    (λ d. ap (rows_seen (has_text 1 domain) language_seen) (stays (codes "d_language") (names_differ refl)))
    (λ d. stays (codes "team") (names_differ refl))
    (λ d. stays (codes "policy") (names_differ refl))
    (λ d. stays (codes "record") (names_differ refl))
    (λ name none d. none domain new ∙ sym (none domain old))

-- what a domain sees of a database
abbrev pub sees : Text → Database → NamedRows
sees domain db = seen_in domain (rows_named db)

-- a sum, a tally or a domain's name isn't seen
pub all_unseen : (domain : Text) (old new : Database) (table : Text) → (table ≡ codes "domain") ⊎ ((table ≡ codes "d_vote_sum") ⊎ (table ≡ codes "d_tally"))
    → SparesOthers table (rows_named old) (rows_named new) → sees domain new ≡ sees domain old
all_unseen domain old new table is others = λ i name. nothing_seen table is (rows_named old) (rows_named new) others domain name i

module _ (domain : Text) {old new : Database} where
  -- ---- records, members and the policy are of the whole office

  pub record_seen : {K : Type 0} {key : Row → K} {IsRow : Row → Type 0} → PutsRow (codes "record") key IsRow old new → PutsIn (codes "record") key IsRow (sees domain old) (sees domain new)
  record_seen it = record {
    row = it.row;
    is_row = it.is_row;
    put = it.put;
    others = office_others domain (rows_named old) (rows_named new) (codes "record") it.others (names_differ refl) (names_differ refl) (names_differ refl) (names_differ refl) (names_differ refl);
  }

  pub member_seen : {K : Type 0} {key : Row → K} {IsRow : Row → Type 0} → PutsRow (codes "team") key IsRow old new → PutsIn (codes "team") key IsRow (sees domain old) (sees domain new)
  member_seen it = record {
    row = it.row;
    is_row = it.is_row;
    put = it.put;
    others = office_others domain (rows_named old) (rows_named new) (codes "team") it.others (names_differ refl) (names_differ refl) (names_differ refl) (names_differ refl) (names_differ refl);
  }

  pub members_taken_seen : {test : Row → Bool} → TakesRows (codes "team") test old new → TakesIn (codes "team") test (sees domain old) (sees domain new)
  members_taken_seen it = record {
    rows = it.rows;
    others = office_others domain (rows_named old) (rows_named new) (codes "team") it.others (names_differ refl) (names_differ refl) (names_differ refl) (names_differ refl) (names_differ refl);
  }

  pub policy_seen : {K : Type 0} {key : Row → K} {IsRow : Row → Type 0} → PutsRow (codes "policy") key IsRow old new → PutsIn (codes "policy") key IsRow (sees domain old) (sees domain new)
  policy_seen it = record {
    row = it.row;
    is_row = it.is_row;
    put = it.put;
    others = office_others domain (rows_named old) (rows_named new) (codes "policy") it.others (names_differ refl) (names_differ refl) (names_differ refl) (names_differ refl) (names_differ refl);
  }

  -- ---- the languages and the template

  pub language_seen_put : {lang header rule : Text} → PutsRow (codes "d_language") (key_texts (1 ∷ 2 ∷ [])) (HoldsValues (Words domain ∷ Words lang ∷ Words header ∷ Words rule ∷ [])) old new
      → PutsIn (codes "language") first_text (HoldsValues (Words lang ∷ Words header ∷ Words rule ∷ [])) (sees domain old) (sees domain new)
  language_seen_put {lang} {header} {rule} it =
      let put = puts_in it in
      language_put_seen (HoldsValues (Words domain ∷ Words lang ∷ Words header ∷ Words rule ∷ [])) domain (rows_named old) (rows_named new) put (ap (text_at 1) put.is_row.1)
      (HoldsValues (Words lang ∷ Words header ∷ Words rule ∷ [])) (λ row is. (is.0, ap language_seen is.1))

  -- an entry, at its place
  pub entry_seen_put : {place : ℤ} {key plural extracted references flags : Value}
      → PutsRow (codes "d_template") domain_place (HoldsValues (Words domain ∷ Int place ∷ key ∷ plural ∷ extracted ∷ references ∷ flags ∷ [])) old new
      → PutsIn (codes "template") row_number (λ row. row ≡ entry_seen (Int (pos 0) ∷ Words domain ∷ Int place ∷ key ∷ plural ∷ extracted ∷ references ∷ flags ∷ [])) (sees domain old) (sees domain new)
  entry_seen_put {place} {key} {plural} {extracted} {references} {flags} it =
      let put = puts_in it in
      entry_put_seen (HoldsValues (Words domain ∷ Int place ∷ key ∷ plural ∷ extracted ∷ references ∷ flags ∷ [])) domain (rows_named old) (rows_named new) put (ap (text_at 1) put.is_row.1)
      (λ row. row ≡ entry_seen (Int (pos 0) ∷ Words domain ∷ Int place ∷ key ∷ plural ∷ extracted ∷ references ∷ flags ∷ [])) (λ row is. ap entry_seen is.1)

  pub template_emptied_seen : TakesRows (codes "d_template") (has_text 1 domain) old new → TakesIn (codes "template") (λ row. true) (sees domain old) (sees domain new)
  template_emptied_seen it = record {
    rows = entries_taken_seen domain (rows_named old) (rows_named new) it.rows it.others;
    others = other_than_templates (rows_named old) (rows_named new) it.others domain;
  }

  pub one_entry_taken_seen : {key : Text} → TakesRows (codes "d_template") (is_entry_of domain key) old new → TakesIn (codes "template") (has_text 2 key) (sees domain old) (sees domain new)
  one_entry_taken_seen {key} it = record {
    rows = entry_taken_seen domain key (rows_named old) (rows_named new) it.rows it.others;
    others = other_than_templates (rows_named old) (rows_named new) it.others domain;
  }

  -- ---- a unit, its suggestions, and the votes on them

  pub unit_seen_put : {cells : Row} → PutsRow (codes "d_unit") first_three (HoldsValues (Words domain ∷ cells)) old new
      → ((id : ℤ) → unit_seen (Int id ∷ Words domain ∷ cells) ≡ Int id ∷ cells) → PutsIn (codes "unit") first_texts (HoldsValues cells) (sees domain old) (sees domain new)
  unit_seen_put {cells} it same =
      unit_put_seen (HoldsValues (Words domain ∷ cells)) domain old new it (ap (text_at 1) it.is_row.1) (HoldsValues cells) (λ row is. (is.0, ap unit_seen is.1 ∙ same is.0))

  pub unit_cleared_seen : {lang key : Text} → ClearsDomainUnit domain lang key old new → ClearsIn lang key (sees domain old) (sees domain new)
  unit_cleared_seen {lang} {key} it =
      let cleared = cleared_seen old new domain lang key it in
      record { suggestions = cleared.suggestions; votes_only = cleared.votes_only; votes_kept = cleared.votes_kept; others = others }
    where
      stays : (t : Text) → t ≢ codes "d_suggestion" → t ≢ codes "d_vote" → t ≢ codes "d_vote_sum" → rows_named new t ≡ rows_named old t
      stays = it.others

      others : (other : Text) → other ≢ codes "suggestion" → other ≢ codes "vote" → sees domain new other ≡ sees domain old other
      others =
          by_seen_name (λ name. name ≢ codes "suggestion" → name ≢ codes "vote" → sees domain new name ≡ sees domain old name)
          (λ s v. ap (rows_seen (has_text 1 domain) unit_seen) (stays (codes "d_unit") (names_differ refl) (names_differ refl) (names_differ refl)))
          (λ s v. absurd (s refl))
          (λ s v. absurd (v refl))
          (λ s v. ap (rows_seen (has_text 1 domain) entry_seen) (stays (codes "d_template") (names_differ refl) (names_differ refl) (names_differ refl)))
          (λ s v. ap (rows_seen (has_text 1 domain) language_seen) (stays (codes "d_language") (names_differ refl) (names_differ refl) (names_differ refl)))
          (λ s v. stays (codes "team") (names_differ refl) (names_differ refl) (names_differ refl))
          (λ s v. stays (codes "policy") (names_differ refl) (names_differ refl) (names_differ refl))
          (λ s v. stays (codes "record") (names_differ refl) (names_differ refl) (names_differ refl))
          (λ name none s v. none domain (rows_named new) ∙ sym (none domain (rows_named old)))

  pub suggestion_added_seen : {number lang key suggester forms : Text} {place : ℤ} → AreOfficeTablesOf by_domain old
      → AddsRow (codes "d_suggestion") first_text (HoldsValues (Words number ∷ Words domain ∷ Words lang ∷ Words key ∷ Int place ∷ Words suggester ∷ Words forms ∷ [])) old new
      → AddsIn (codes "suggestion") first_text (HoldsValues (Words number ∷ Words lang ∷ Words key ∷ Int place ∷ Words suggester ∷ Words forms ∷ [])) (sees domain old) (sees domain new)
  suggestion_added_seen {number} {lang} {key} {suggester} {forms} {place} ready it = record { puts = puts; fresh = fresh }
    where
      puts : PutsIn (codes "suggestion") first_text (HoldsValues (Words number ∷ Words lang ∷ Words key ∷ Int place ∷ Words suggester ∷ Words forms ∷ [])) (sees domain old) (sees domain new)
      puts =
          suggestion_put_seen (HoldsValues (Words number ∷ Words domain ∷ Words lang ∷ Words key ∷ Int place ∷ Words suggester ∷ Words forms ∷ [])) old new domain it
          (ap (text_at 2) it.puts.is_row.1) (on_suggestion old ready) (HoldsValues (Words number ∷ Words lang ∷ Words key ∷ Int place ∷ Words suggester ∷ Words forms ∷ []))
          (λ row is. (is.0, ap suggestion_seen is.1))

      fresh : (x : Row) → Has (sees domain old (codes "suggestion")) x → first_text x ≢ first_text puts.row
      fresh x there e =
          let r = from_seen (has_text 2 domain) suggestion_seen (rows_named old (codes "d_suggestion")) x there in
          it.fresh r.0 r.1 (ap first_text (sym r.3) ∙ (e ∙ (ap first_text puts.is_row.1 ∙ sym (ap first_text it.puts.is_row.1))))

  -- a vote on a suggestion of the domain
  pub vote_seen_put : {IsRow : Row → Type 0} (put : PutsRow (codes "d_vote") first_texts IsRow old new) (s : Row) → Has (rows_named old (codes "d_suggestion")) s → text_at 2 s ≡ domain
      → first_text put.row ≡ first_text s → PutsIn (codes "vote") first_texts IsRow (sees domain old) (sees domain new)
  vote_seen_put {IsRow} it s there own same =
      let put : PutsIn (codes "d_vote") first_texts IsRow (rows_named old) (rows_named new) = record { row = it.row; is_row = it.is_row; put = it.put; others = it.others } in
      vote_put_seen IsRow (rows_named old) (rows_named new) put domain on
    where
      on : is_vote_in domain (rows_named old (codes "d_suggestion")) it.row ≡ true
      on =
          some_from (λ x. has_text 1 (first_text it.row) x && has_text 2 domain x) (rows_named old (codes "d_suggestion")) s there
          (and_from (has_text 1 (first_text it.row) s) (has_text 2 domain s)
          (subst (λ t. is_eq (slice_cmp nat_cmp (first_text s) t) ≡ true) (sym same) (text_ties_itself (first_text s))) (is_text 2 domain s own))

  -- votes go, of which its domain sees those that were there, and another domain none
  suggestions_stay : {test : Row → Bool} → TakesRows (codes "d_vote") test old new → rows_named new (codes "d_suggestion") ≡ rows_named old (codes "d_suggestion")
  suggestions_stay it = it.others (codes "d_suggestion") (names_differ refl)

  pub vote_taken_seen : {test : Row → Bool} → TakesRows (codes "d_vote") test old new → TakesIn (codes "vote") test (sees domain old) (sees domain new)
  vote_taken_seen {test} it = record {
    rows = subst (λ (suggestions : List Row). IsRemoved test (sees domain old (codes "vote")) (rows_seen (is_vote_in domain suggestions) vote_seen (rows_named new (codes "d_vote")))) (sym (suggestions_stay it))
        (removed_seen (is_vote_in domain (rows_named old (codes "d_suggestion"))) vote_seen test test (rows_named old (codes "d_vote")) (rows_named new (codes "d_vote")) (λ v passes. refl) it.rows);
    others = other_than_votes (rows_named old) (rows_named new) it.others domain;
  }

  pub votes_left_seen : {test : Row → Bool} → TakesRows (codes "d_vote") test old new → ((v : Row) → is_vote_in domain (rows_named old (codes "d_suggestion")) v ≡ true → test v ≡ false)
      → AreSameByName (sees domain old) (sees domain new)
  votes_left_seen {test} it stays =
      same_by_name (codes "vote") (sees domain old) (sees domain new)
      (subst (λ (suggestions : List Row). AreSame (sees domain old (codes "vote")) (rows_seen (is_vote_in domain suggestions) vote_seen (rows_named new (codes "d_vote")))) (sym (suggestions_stay it))
      (none_removed (is_vote_in domain (rows_named old (codes "d_suggestion"))) vote_seen test (rows_named old (codes "d_vote")) (rows_named new (codes "d_vote")) stays it.rows))
      (other_than_votes (rows_named old) (rows_named new) it.others domain)

  -- no unit stays approved
  pub units_renewed_seen : HaveNextRevisionsInDomains old → UnapprovesDomainUnits old new → RenewsIn (codes "unit") is_approved_row unapproved_row (sees domain old) (sees domain new)
  units_renewed_seen next unapproves =
      let it = unapproves next in
      record {
        rows = units_unapproved_seen (rows_named old) (rows_named new) it.rows domain;
        others = other_than_units domain (rows_named old) (rows_named new) it.others;
      }
