-- What becomes of what the domains see where a statement changes one table: a domain's template, languages or votes, the units of all domains, or a table that
-- none of them sees.
use Rattle.std.proofs.Common.{◌≡◌, ◌≢◌, ◌⊎◌, inl, inr, ℕ, List, [], ◌∷◌, ◌&&◌, Bool, true, false, cond, codes, refl, sym, ap, subst, ◌∙◌}
use Rattle.std.specs.List.{list_any}
use Rattle.std.proofs.lemmas.Bool.{false_from_ne_true}
use Rattle.std.specs.Ordering.{nat_cmp, is_eq}
use Rattle.std.specs.Cmp.Lexicographic.{slice_cmp}
use Rattle.sqlite.specs.declared.types.Value.{Value}
use Rattle.sqlite.specs.Order.{Row, column}
use Rattle.sqlite_rules.specs.Lists.{Has}
use Rattle.sql_laws.specs.ApartRows.{IsRemoved}
use Rattle.sql_laws.specs.RowMaps.{IsPut}
use Rattle.sql_laws.proofs.RowMaps.{texts_are_one}
use Rattle.sql_schema.specs.Layouts.{NamedRows, SparesOthers}
use Rattle.sql_schema.specs.Keys.{text_at, key_texts, first_text, first_texts, second_text, row_number, domain_place, has_text}
use Rattle.sql_schema.specs.Inside.{PutsIn}
use Rattle.sql_schema.specs.SeenRows.{rows_seen, entry_seen, unit_seen, language_seen, suggestion_seen, is_vote_in, vote_seen, seen_in, AreSame, AreSameByName}
use Rattle.sql_schema.proofs.Layouts.{by_name, names_differ}
use Rattle.sql_schema.proofs.SeenRows.{IsKeyedAlike, from_seen, to_seen, put_seen, put_unseen, removed_seen, none_removed}
use Rattle.sql_schema.proofs.DomainsSeen.{is_text, not_text, languages_alike}
use Rattle.sql_statements.specs.DomainEntries.{is_entry_of}
use Rattle.sql_statements.specs.Renewed.{AreRenewed, is_approved_row, unapproved_row}
use Rattle.sql_statements.specs.DomainRenewed.{is_approved_in_domain, unapproved_in_domain}

-- ---- keys

-- an entry by its place
pub entries_alike : (domain : List ℕ) → IsKeyedAlike (has_text 1 domain) entry_seen domain_place row_number
entries_alike domain = record {
  alike = λ r s e. let same : text_at 1 r ≡ text_at 1 s = ap (λ (p : List ℕ × Value). p.0) e in ap (λ t. is_eq (slice_cmp nat_cmp t domain)) same;
  forth = λ r s e. ap (λ (p : List ℕ × Value). p.1) e;
  back = λ r s in_r in_s e.
      let same = texts_are_one (text_at 1 r) domain in_r ∙ sym (texts_are_one (text_at 1 s) domain in_s) in
      let place : column r 2 ≡ column s 2 = e in
      λ i. (same i, place i);
}

-- and by its key
pub entry_keys_alike : (domain : List ℕ) → IsKeyedAlike (has_text 1 domain) entry_seen (key_texts (1 ∷ 3 ∷ [])) second_text
entry_keys_alike domain = record {
  alike = λ r s e. let same : text_at 1 r ≡ text_at 1 s = cc in ap (λ t. is_eq (slice_cmp nat_cmp t domain)) same;
  forth = λ r s e. cc;
  back = λ r s in_r in_s e.
      let same = texts_are_one (text_at 1 r) domain in_r ∙ sym (texts_are_one (text_at 1 s) domain in_s) in
      let key : text_at 3 r ≡ text_at 3 s = e in
      λ i. same i ∷ key i ∷ [];
}

pub votes_alike : (domain : List ℕ) (suggestions : List Row) → IsKeyedAlike (is_vote_in domain suggestions) vote_seen first_texts first_texts
votes_alike domain suggestions = record {
  alike = λ r s e. let same : first_text r ≡ first_text s = cc in ap (λ t. list_any (λ suggestion. has_text 1 t suggestion && has_text 2 domain suggestion) suggestions) same;
  forth = λ r s e. e;
  back = λ r s in_r in_s e. e;
}

-- ---- the names of tables that are seen

-- a name is one of eight, or nothing is seen of it
module _ (P : List ℕ → Type 0) (unit : P (codes "unit")) (suggestion : P (codes "suggestion")) (vote : P (codes "vote")) (template : P (codes "template")) (language : P (codes "language"))
    (team : P (codes "team")) (policy : P (codes "policy")) (record_rows : P (codes "record")) (none : (name : List ℕ) → ((domain : List ℕ) (rows : NamedRows) → seen_in domain rows name ≡ []) → P name) where
  not_named : (name other : List ℕ) → name ≢ other → is_eq (slice_cmp nat_cmp name other) ≡ false
  not_named name other differ = false_from_ne_true _ (λ e. differ (texts_are_one name other e))

  passed : (b : Bool) (x y : List Row) → b ≡ false → cond b x y ≡ y
  passed b x y e = ap (λ c. cond c x y) e

  here : (name other : List ℕ) → P other → (name ≢ other → P name) → P name
  here name other found rest = by_name name other (λ is. subst P (sym is) found) rest

  pub by_seen_name : (name : List ℕ) → P name
  by_seen_name name =
      here name (codes "unit") unit (λ d1. here name (codes "suggestion") suggestion (λ d2. here name (codes "vote") vote (λ d3. here name (codes "template") template (λ d4.
      here name (codes "language") language (λ d5. here name (codes "team") team (λ d6. here name (codes "policy") policy (λ d7. here name (codes "record") record_rows (λ d8.
      none name (λ domain rows.
      passed _ _ _ (not_named name (codes "unit") d1) ∙ passed _ _ _ (not_named name (codes "suggestion") d2) ∙ passed _ _ _ (not_named name (codes "vote") d3) ∙ passed _ _ _ (not_named name (codes "template") d4)
      ∙ passed _ _ _ (not_named name (codes "language") d5) ∙ passed _ _ _ (not_named name (codes "team") d6) ∙ passed _ _ _ (not_named name (codes "policy") d7) ∙ passed _ _ _ (not_named name (codes "record") d8)
      )))))))))

pub same_rows : (old new : List Row) → new ≡ old → AreSame old new
same_rows old new e = record { only = λ x there. subst (λ rows. Has rows x) e there; kept = λ x there. subst (λ rows. Has rows x) (sym e) there }

-- where what is seen of one name is the same rows, and of the others the same
pub same_by_name : (at : List ℕ) (old new : NamedRows) → AreSame (old at) (new at) → SparesOthers at old new → AreSameByName old new
same_by_name at old new same others name =
    by_name name at (λ is. subst (λ n. AreSame (old n) (new n)) (sym is) same) (λ differ. same_rows (old name) (new name) (others name differ))

-- ---- one table changes

pub other_than_templates : (old new : NamedRows) → SparesOthers (codes "d_template") old new → (domain : List ℕ) → SparesOthers (codes "template") (seen_in domain old) (seen_in domain new)
other_than_templates old new others domain = by_seen_name (λ name. name ≢ codes "template" → seen_in domain new name ≡ seen_in domain old name)
    (λ d. ap (rows_seen (has_text 1 domain) unit_seen) (others (codes "d_unit") (names_differ refl)))
    (λ d. ap (rows_seen (has_text 2 domain) suggestion_seen) (others (codes "d_suggestion") (names_differ refl)))
    (λ d i. rows_seen (is_vote_in domain (others (codes "d_suggestion") (names_differ refl) i)) vote_seen (others (codes "d_vote") (names_differ refl) i))
    (λ d. absurd (d refl))
    (λ d. ap (rows_seen (has_text 1 domain) language_seen) (others (codes "d_language") (names_differ refl)))
    (λ d. others (codes "team") (names_differ refl))
    (λ d. others (codes "policy") (names_differ refl))
    (λ d. others (codes "record") (names_differ refl))
    (λ name none d. none domain new ∙ sym (none domain old))

pub other_than_languages : (old new : NamedRows) → SparesOthers (codes "d_language") old new → (domain : List ℕ) → SparesOthers (codes "language") (seen_in domain old) (seen_in domain new)
other_than_languages old new others domain = by_seen_name (λ name. name ≢ codes "language" → seen_in domain new name ≡ seen_in domain old name)
    (λ d. ap (rows_seen (has_text 1 domain) unit_seen) (others (codes "d_unit") (names_differ refl)))
    (λ d. ap (rows_seen (has_text 2 domain) suggestion_seen) (others (codes "d_suggestion") (names_differ refl)))
    (λ d i. rows_seen (is_vote_in domain (others (codes "d_suggestion") (names_differ refl) i)) vote_seen (others (codes "d_vote") (names_differ refl) i))
    (λ d. ap (rows_seen (has_text 1 domain) entry_seen) (others (codes "d_template") (names_differ refl)))
    (λ d. absurd (d refl))
    (λ d. others (codes "team") (names_differ refl))
    (λ d. others (codes "policy") (names_differ refl))
    (λ d. others (codes "record") (names_differ refl))
    (λ name none d. none domain new ∙ sym (none domain old))

pub other_than_votes : (old new : NamedRows) → SparesOthers (codes "d_vote") old new → (domain : List ℕ) → SparesOthers (codes "vote") (seen_in domain old) (seen_in domain new)
other_than_votes old new others domain = by_seen_name (λ name. name ≢ codes "vote" → seen_in domain new name ≡ seen_in domain old name)
    (λ d. ap (rows_seen (has_text 1 domain) unit_seen) (others (codes "d_unit") (names_differ refl)))
    (λ d. ap (rows_seen (has_text 2 domain) suggestion_seen) (others (codes "d_suggestion") (names_differ refl)))
    (λ d. absurd (d refl))
    (λ d. ap (rows_seen (has_text 1 domain) entry_seen) (others (codes "d_template") (names_differ refl)))
    (λ d. ap (rows_seen (has_text 1 domain) language_seen) (others (codes "d_language") (names_differ refl)))
    (λ d. others (codes "team") (names_differ refl))
    (λ d. others (codes "policy") (names_differ refl))
    (λ d. others (codes "record") (names_differ refl))
    (λ name none d. none domain new ∙ sym (none domain old))

-- a table that no domain sees: of domains, sums or tallies
module _ (table : List ℕ) (unseen : (table ≡ codes "domain") ⊎ ((table ≡ codes "d_vote_sum") ⊎ (table ≡ codes "d_tally"))) (old new : NamedRows) (spared : SparesOthers table old new) where
  others : (name : List ℕ) → name ≢ codes "domain" → name ≢ codes "d_vote_sum" → name ≢ codes "d_tally" → new name ≡ old name
  others name d s t = spared name (λ is. elim unseen [
    | inl e ↦ d (is ∙ e)
    | inr (inl e) ↦ s (is ∙ e)
    | inr (inr e) ↦ t (is ∙ e)
  ])

  pub nothing_seen : (domain name : List ℕ) → seen_in domain new name ≡ seen_in domain old name
  nothing_seen domain = by_seen_name (λ name. seen_in domain new name ≡ seen_in domain old name)
      (ap (rows_seen (has_text 1 domain) unit_seen) (stays (codes "d_unit") (names_differ refl) (names_differ refl) (names_differ refl)))
      (ap (rows_seen (has_text 2 domain) suggestion_seen) (stays (codes "d_suggestion") (names_differ refl) (names_differ refl) (names_differ refl)))
      (λ i. rows_seen (is_vote_in domain (stays (codes "d_suggestion") (names_differ refl) (names_differ refl) (names_differ refl) i)) vote_seen (stays (codes "d_vote") (names_differ refl) (names_differ refl) (names_differ refl) i))
      (ap (rows_seen (has_text 1 domain) entry_seen) (stays (codes "d_template") (names_differ refl) (names_differ refl) (names_differ refl)))
      (ap (rows_seen (has_text 1 domain) language_seen) (stays (codes "d_language") (names_differ refl) (names_differ refl) (names_differ refl)))
      (stays (codes "team") (names_differ refl) (names_differ refl) (names_differ refl))
      (stays (codes "policy") (names_differ refl) (names_differ refl) (names_differ refl))
      (stays (codes "record") (names_differ refl) (names_differ refl) (names_differ refl))
      (λ name none. none domain new ∙ sym (none domain old))
    where
      stays : (name : List ℕ) → name ≢ codes "domain" → name ≢ codes "d_vote_sum" → name ≢ codes "d_tally" → new name ≡ old name
      stays = others

-- ---- a row is put

module _ (IsRow : Row → Type 0) (domain : List ℕ) (old new : NamedRows) (put : PutsIn (codes "d_template") domain_place IsRow old new) (own : text_at 1 put.row ≡ domain) where
  -- its domain sees it put
  pub entry_put_seen : (IsSeen : Row → Type 0) → ((row : Row) → IsRow row → IsSeen (entry_seen row)) → PutsIn (codes "template") row_number IsSeen (seen_in domain old) (seen_in domain new)
  entry_put_seen IsSeen is_seen = record {
    row = entry_seen put.row;
    is_row = is_seen put.row put.is_row;
    put = put_seen (entries_alike domain) (old (codes "d_template")) (new (codes "d_template")) put.row put.put (is_text 1 domain put.row own);
    others = other_than_templates old new put.others domain;
  }

  -- and each other domain what it saw
  pub templates_stay_seen : (other : List ℕ) → other ≢ domain → AreSameByName (seen_in other old) (seen_in other new)
  templates_stay_seen other differ = same_by_name (codes "template") (seen_in other old) (seen_in other new)
      (put_unseen (entries_alike other) (old (codes "d_template")) (new (codes "d_template")) put.row put.put (not_text 1 other put.row (λ e. differ (sym e ∙ own)))) (other_than_templates old new put.others other)

module _ (IsRow : Row → Type 0) (domain : List ℕ) (old new : NamedRows) (put : PutsIn (codes "d_language") (key_texts (1 ∷ 2 ∷ [])) IsRow old new) (own : text_at 1 put.row ≡ domain) where
  -- its domain sees it put
  pub language_put_seen : (IsSeen : Row → Type 0) → ((row : Row) → IsRow row → IsSeen (language_seen row)) → PutsIn (codes "language") first_text IsSeen (seen_in domain old) (seen_in domain new)
  language_put_seen IsSeen is_seen = record {
    row = language_seen put.row;
    is_row = is_seen put.row put.is_row;
    put = put_seen (languages_alike domain) (old (codes "d_language")) (new (codes "d_language")) put.row put.put (is_text 1 domain put.row own);
    others = other_than_languages old new put.others domain;
  }

  -- and each other domain what it saw
  pub languages_stay_seen : (other : List ℕ) → other ≢ domain → AreSameByName (seen_in other old) (seen_in other new)
  languages_stay_seen other differ = same_by_name (codes "language") (seen_in other old) (seen_in other new)
      (put_unseen (languages_alike other) (old (codes "d_language")) (new (codes "d_language")) put.row put.put (not_text 1 other put.row (λ e. differ (sym e ∙ own)))) (other_than_languages old new put.others other)

module _ (IsRow : Row → Type 0) (old new : NamedRows) (put : PutsIn (codes "d_vote") first_texts IsRow old new) where
  suggestions_stay : new (codes "d_suggestion") ≡ old (codes "d_suggestion")
  suggestions_stay = put.others (codes "d_suggestion") (names_differ refl)

  -- a vote is seen where its suggestion is
  pub vote_put_seen : (domain : List ℕ) → is_vote_in domain (old (codes "d_suggestion")) put.row ≡ true → PutsIn (codes "vote") first_texts IsRow (seen_in domain old) (seen_in domain new)
  vote_put_seen domain on = record {
    row = put.row;
    is_row = put.is_row;
    put = subst (λ suggestions. IsPut first_texts (seen_in domain old (codes "vote")) (rows_seen (is_vote_in domain suggestions) vote_seen (new (codes "d_vote"))) put.row) (sym suggestions_stay)
        (put_seen (votes_alike domain (old (codes "d_suggestion"))) (old (codes "d_vote")) (new (codes "d_vote")) put.row put.put on);
    others = other_than_votes old new put.others domain;
  }

  pub votes_stay_seen : (other : List ℕ) → is_vote_in other (old (codes "d_suggestion")) put.row ≡ false → AreSameByName (seen_in other old) (seen_in other new)
  votes_stay_seen other off = same_by_name (codes "vote") (seen_in other old) (seen_in other new)
      (subst (λ suggestions. AreSame (seen_in other old (codes "vote")) (rows_seen (is_vote_in other suggestions) vote_seen (new (codes "d_vote")))) (sym suggestions_stay)
      (put_unseen (votes_alike other (old (codes "d_suggestion"))) (old (codes "d_vote")) (new (codes "d_vote")) put.row put.put off)) (other_than_votes old new put.others other)

-- ---- a domain's template is emptied

module _ (domain : List ℕ) (old new : NamedRows) (taken : IsRemoved (has_text 1 domain) (old (codes "d_template")) (new (codes "d_template"))) (spared : SparesOthers (codes "d_template") old new) where
  pub entries_taken_seen : IsRemoved (λ row. true) (seen_in domain old (codes "template")) (seen_in domain new (codes "template"))
  entries_taken_seen = removed_seen (has_text 1 domain) entry_seen (has_text 1 domain) (λ row. true) (old (codes "d_template")) (new (codes "d_template")) (λ row passes. passes) taken

  pub templates_left_seen : (other : List ℕ) → other ≢ domain → AreSameByName (seen_in other old) (seen_in other new)
  templates_left_seen other differ = same_by_name (codes "template") (seen_in other old) (seen_in other new)
      (none_removed (has_text 1 other) entry_seen (has_text 1 domain) (old (codes "d_template")) (new (codes "d_template"))
      (λ row passes. not_text 1 domain row (λ e. differ (sym (texts_are_one (text_at 1 row) other passes) ∙ e))) taken)
      (other_than_templates old new spared other)

-- ---- an entry goes

module _ (domain key : List ℕ) (old new : NamedRows) (taken : IsRemoved (is_entry_of domain key) (old (codes "d_template")) (new (codes "d_template"))) (spared : SparesOthers (codes "d_template") old new) where
  pub entry_taken_seen : IsRemoved (has_text 2 key) (seen_in domain old (codes "template")) (seen_in domain new (codes "template"))
  entry_taken_seen = removed_seen (has_text 1 domain) entry_seen (is_entry_of domain key) (has_text 2 key) (old (codes "d_template")) (new (codes "d_template"))
      (λ row own. ap (λ b. b && has_text 3 key row) own) taken

  pub entries_left_seen : (other : List ℕ) → other ≢ domain → AreSameByName (seen_in other old) (seen_in other new)
  entries_left_seen other differ = same_by_name (codes "template") (seen_in other old) (seen_in other new)
      (none_removed (has_text 1 other) entry_seen (is_entry_of domain key) (old (codes "d_template")) (new (codes "d_template"))
      (λ row passes. ap (λ b. b && has_text 3 key row) (not_text 1 domain row (λ e. differ (sym (texts_are_one (text_at 1 row) other passes) ∙ e)))) taken)
      (other_than_templates old new spared other)

-- ---- the units of all domains are renewed

-- rows that are renewed are renewed among those that are seen
pub renewed_seen : (test : Row → Bool) (seen : Row → Row) (passes own : Row → Bool) (renewed renewed_own : Row → Row) (old new : List Row) → ((r : Row) → passes r ≡ own (seen r))
    → ((r : Row) → test (renewed r) ≡ test r) → ((r : Row) → seen (renewed r) ≡ renewed_own (seen r)) → AreRenewed passes renewed old new → AreRenewed own renewed_own (rows_seen test seen old) (rows_seen test seen new)
renewed_seen test seen passes own renewed renewed_own old new same stays becomes it = record {
  only = λ x there. let r = from_seen test seen new x there in by x r.0 r.2 r.3 (it.only r.0 r.1);
  kept = λ x there out.
      let r = from_seen test seen old x there in
      subst (Has (rows_seen test seen new)) (sym r.3) (to_seen test seen new r.0 (it.kept r.0 r.1 (same r.0 ∙ ap own (sym r.3) ∙ out)) r.2);
  made = λ x there in_x.
      let r = from_seen test seen old x there in
      subst (Has (rows_seen test seen new)) (becomes r.0 ∙ ap renewed_own (sym r.3)) (to_seen test seen new (renewed r.0) (it.made r.0 r.1 (same r.0 ∙ ap own (sym r.3) ∙ in_x)) (stays r.0 ∙ r.2));
}
  where
    by : (x r : Row) → test r ≡ true → x ≡ seen r → (Has old r × (passes r ≡ false)) ⊎ ((q : Row) × Has old q × (passes q ≡ true) × (r ≡ renewed q))
        → (Has (rows_seen test seen old) x × (own x ≡ false)) ⊎ ((q : Row) × Has (rows_seen test seen old) q × (own q ≡ true) × (x ≡ renewed_own q))
    by x r passed at (inl (was, out)) = inl (subst (Has (rows_seen test seen old)) (sym at) (to_seen test seen old r was passed), ap own at ∙ sym (same r) ∙ out)
    by x r passed at (inr (q, was, in_q, is)) =
        inr (seen q, to_seen test seen old q was (sym (stays q) ∙ ap test (sym is) ∙ passed), sym (same q) ∙ in_q, at ∙ ap seen is ∙ becomes q)

-- those of each domain that were approved
pub units_unapproved_seen : (old new : NamedRows) → AreRenewed is_approved_in_domain unapproved_in_domain (old (codes "d_unit")) (new (codes "d_unit")) → (domain : List ℕ)
    → AreRenewed is_approved_row unapproved_row (seen_in domain old (codes "unit")) (seen_in domain new (codes "unit"))
units_unapproved_seen old new renewed domain =
    renewed_seen (has_text 1 domain) unit_seen is_approved_in_domain is_approved_row unapproved_in_domain unapproved_row (old (codes "d_unit")) (new (codes "d_unit")) (λ r. refl) (λ r. refl) (λ r. refl) renewed
