-- What statements on tables by domains make of what each domain sees: the one that they name something, and every other domain sees the rows that it saw.
use Rattle.std.specs.Prelude.{⊤}
use Rattle.std.proofs.Common.{◌≡◌, ◌≢◌, ◌⊎◌, inl, inr, ℕ, ℤ, pos, List, [], ◌∷◌, ◌&&◌, Bool, true, false, codes, refl, sym, ap, subst, ◌∙◌}
use Rattle.std.proofs.lemmas.Bool.{and_parts, false_from_ne_true}
use Rattle.std.specs.Cmp.Lexicographic.{slice_cmp}
use Rattle.std.specs.Ordering.{nat_cmp, is_eq}
use Rattle.sqlite.specs.declared.types.Value.{Value}
use Rattle.sqlite.specs.declared.types.Value.TheVariants.{Int, Text as Words}
use Rattle.sqlite.specs.Order.{Row}
use Rattle.sqlite.specs.Effect.{Database}
use Rattle.sqlite_rules.specs.Lists.{Has}
use Rattle.sqlite_rules.proofs.ListLemmas.{some_has}
use Rattle.sql_laws.proofs.RowMaps.{texts_are_one}
use Rattle.po_text.specs.Texts.{Text}
use Rattle.units.specs.Office.{same_domain}
use Rattle.office_specification.proofs.domains.InDomains.{equal_domains, its_own_domain}
use Rattle.request_book.specs.declared.book.Record.{Record}
use Rattle.sql_schema.specs.Inside.{AreOfficeTablesOf, PutsRow, PutsIn, HoldsValues}
use Rattle.sql_schema.specs.Keys.{text_at, key_texts, first_text, first_texts, first_three, row_number, domain_place, has_text}
use Rattle.sql_schema.specs.Layouts.{by_domain, NamedRows, rows_named, SparesOthers}
use Rattle.sql_schema.specs.SeenRows.{entry_seen, unit_seen, is_vote_in, seen_in, AreSameByName}
use Rattle.sql_schema.proofs.DomainRows.{one_d_number}
use Rattle.sql_schema.proofs.DomainsSeen.{is_text, units_stay_seen}
use Rattle.sql_schema.proofs.Layouts.{names_differ}
use Rattle.sql_schema.proofs.SeenRows.{to_seen}
use Rattle.sql_statements.specs.Added.{AddsRow}
use Rattle.sql_statements.specs.DomainCleared.{ClearsDomainUnit}
use Rattle.sql_statements.specs.DomainRenewed.{HaveNextRevisionsInDomains, UnapprovesDomainUnits, UnapprovesTallies}
use Rattle.sql_statements.specs.DomainEntries.{is_entry_of}
use Rattle.sql_statements.specs.Taken.{TakesRows}
use Rattle.sql_statements.proofs.SeenChanges.{same_rows, templates_stay_seen, languages_stay_seen, votes_stay_seen, templates_left_seen, entries_left_seen}
use Rattle.sql_meaning.specs.RowChanges.{AddsIn, TakesIn, ClearsIn, HaveNextIn, UnapprovesIn}
use Rattle.sql_meaning.proofs.DomainAdds.{suggestion_unseen}
use Rattle.sql_meaning.proofs.DomainClears.{others_stay_seen}
use Rattle.sql_meaning.proofs.DomainOfficeRows.{on_suggestion}
use Rattle.sql_meaning.proofs.DomainSteps.{all_unseen, record_seen, member_seen, members_taken_seen, policy_seen, language_seen_put, entry_seen_put, template_emptied_seen, one_entry_taken_seen, unit_seen_put, unit_cleared_seen, suggestion_added_seen, vote_seen_put, vote_taken_seen, votes_left_seen, units_renewed_seen}
use Rattle.sql_meaning.proofs.RowsByName.{puts_in}
use Rattle.sql_changes.specs.Commits.{PutsNumberedRecord, PutsRecordAlone}
use Rattle.sql_changes.specs.OnDomains.{OnDomainsWhere, OnEach, MakesIf, OnDomainElse, OnDomain, SparesDomains, SparesElsewhere, IsElsewhere}

-- ---- tables that no act writes

abbrev Differs : List ℕ → Text → Type 0
Differs name table = is_eq (slice_cmp nat_cmp name table) ≡ false

-- told by what its name computes to
pub elsewhere : {name : List ℕ} → Differs name (codes "record") → Differs name (codes "team") → Differs name (codes "policy") → Differs name (codes "d_template") → Differs name (codes "d_language")
    → Differs name (codes "d_unit") → Differs name (codes "d_suggestion") → Differs name (codes "d_vote") → Differs name (codes "d_vote_sum") → Differs name (codes "d_tally") → IsElsewhere name
elsewhere records team policy template languages units suggestions votes sums tallies = record {
  records = names_differ records;
  team = names_differ team;
  policy = names_differ policy;
  template = names_differ template;
  languages = names_differ languages;
  units = names_differ units;
  suggestions = names_differ suggestions;
  votes = names_differ votes;
  sums = names_differ sums;
  tallies = names_differ tallies;
}

-- the names of domains
pub domain_elsewhere : IsElsewhere (codes "domain")
domain_elsewhere = elsewhere refl refl refl refl refl refl refl refl refl refl

-- ---- one domain, and the others

-- what a domain sees of a database
abbrev pub seen : Text → Database → NamedRows
seen domain db = seen_in domain (rows_named db)

module _ (domain : Text) (Makes Otherwise : NamedRows → NamedRows → Type 0) where
  -- one thing is made for the domain, and another for each other
  pub made_if : (old new : Text → NamedRows) → Makes (old domain) (new domain) → (d : Text) → (same_domain d domain ≡ false → Otherwise (old d) (new d)) → MakesIf (same_domain d domain) Makes Otherwise (old d) (new d)
  made_if old new its d others = by (same_domain d domain) refl
    where
      by : (b : Bool) → same_domain d domain ≡ b → MakesIf b Makes Otherwise (old d) (new d)
      by true tied = subst (λ t. Makes (old t) (new t)) (sym (equal_domains d domain tied)) its
      by false apart = others apart

  pub its_made : (old new : NamedRows) → MakesIf (same_domain domain domain) Makes Otherwise old new → Makes old new
  its_made old new it = subst (λ b. MakesIf b Makes Otherwise old new) (its_own_domain domain) it

  pub others_made : (old new : NamedRows) (d : Text) → same_domain d domain ≡ false → MakesIf (same_domain d domain) Makes Otherwise old new → Otherwise old new
  others_made old new d apart it = subst (λ b. MakesIf b Makes Otherwise old new) apart it

pub domains_apart : (d domain : Text) → same_domain d domain ≡ false → d ≢ domain
domains_apart d domain apart e = let tie = its_own_domain domain in let not : same_domain domain domain ≡ false = subst (λ n. same_domain n domain ≡ false) e apart in cc

-- ---- one after the other

pub same_then : (a b c : NamedRows) → AreSameByName a b → AreSameByName b c → AreSameByName a c
same_then a b c one two name = record { only = λ x there. (one name).only x ((two name).only x there); kept = λ x there. (two name).kept x ((one name).kept x there) }

module _ {a b c : Database} where
  pub domains_then : (Premise : NamedRows → Type 0) (P Q R : Text → NamedRows → NamedRows → Type 0) → ((d : Text) → P d (seen d a) (seen d b) → Q d (seen d b) (seen d c) → R d (seen d a) (seen d c))
      → ((d : Text) → P d (seen d a) (seen d b) → Premise (seen d a) → Premise (seen d b)) → OnDomainsWhere Premise P a b → OnDomainsWhere Premise Q b c → OnDomainsWhere Premise R a c
  domains_then Premise P Q R both keeps one two = record {
    on = λ premise.
        let first = one.on premise in
        let second = two.on (λ d. keeps d (first.0 d) (premise d)) in
        (λ d. both d (first.0 d) (second.0 d), λ name apart. second.1 name apart ∙ first.1 name apart);
  }

  pub on_each_then : (P Q R : NamedRows → NamedRows → Type 0) → ((d : Text) → P (seen d a) (seen d b) → Q (seen d b) (seen d c) → R (seen d a) (seen d c)) → OnEach P a b → OnEach Q b c → OnEach R a c
  on_each_then P Q R both one two = domains_then (λ rows. ⊤) (λ d. P) (λ d. Q) (λ d. R) both (λ d made premise. tt) one two

  pub on_domain_then : (domain : Text) (P Q R : NamedRows → NamedRows → Type 0) → (P (seen domain a) (seen domain b) → Q (seen domain b) (seen domain c) → R (seen domain a) (seen domain c))
      → OnDomain domain P a b → OnDomain domain Q b c → OnDomain domain R a c
  on_domain_then domain P Q R both one two = record {
    on = λ premise.
        let first = one.on premise in
        let second = two.on (λ d. tt) in (
          λ d. made_if domain R AreSameByName (λ t. seen t a) (λ t. seen t c)
              (both (its_made domain P AreSameByName (seen domain a) (seen domain b) (first.0 domain)) (its_made domain Q AreSameByName (seen domain b) (seen domain c) (second.0 domain))) d
              (λ apart. same_then (seen d a) (seen d b) (seen d c) (others_made domain P AreSameByName (seen d a) (seen d b) d apart (first.0 d))
              (others_made domain Q AreSameByName (seen d b) (seen d c) d apart (second.0 d))),
          λ name apart. second.1 name apart ∙ first.1 name apart,
        );
  }

  -- a record for all, and then something in one domain
  pub record_then_domain : (domain : Text) (row : Record) (Writes Makes : NamedRows → NamedRows → Type 0) → ((old mid new : NamedRows) → PutsNumberedRecord row old mid → Writes mid new → Makes old new)
      → OnEach (PutsNumberedRecord row) a b → OnDomain domain Writes b c → OnDomainElse domain Makes (PutsRecordAlone row) a c
  record_then_domain domain row Writes Makes both one two = record {
    on = λ premise.
        let first = one.on premise in
        let second = two.on (λ d. tt) in (
          λ d. made_if domain Makes (PutsRecordAlone row) (λ t. seen t a) (λ t. seen t c)
              (both (seen domain a) (seen domain b) (seen domain c) (first.0 domain) (its_made domain Writes AreSameByName (seen domain b) (seen domain c) (second.0 domain))) d
              (λ apart. (seen d b, first.0 d, others_made domain Writes AreSameByName (seen d b) (seen d c) d apart (second.0 d))),
          λ name apart. second.1 name apart ∙ first.1 name apart,
        );
  }

  -- before and behind what no domain sees
  pub spares_first : (Premise : NamedRows → Type 0) (P : Text → NamedRows → NamedRows → Type 0) → SparesDomains a b → OnDomainsWhere Premise P b c → OnDomainsWhere Premise P a c
  spares_first Premise P same made = record {
    on = λ premise.
        let first = same.on (λ d. tt) in
        let second = made.on (λ d. subst Premise (sym (first.0 d)) (premise d)) in
        (λ d. subst (λ rows. P d rows (seen d c)) (first.0 d) (second.0 d), λ name apart. second.1 name apart ∙ first.1 name apart);
  }

  pub spares_last : (Premise : NamedRows → Type 0) (P : Text → NamedRows → NamedRows → Type 0) → OnDomainsWhere Premise P a b → SparesDomains b c → OnDomainsWhere Premise P a c
  spares_last Premise P made same = record {
    on = λ premise.
        let first = made.on premise in
        let second = same.on (λ d. tt) in
        (λ d. subst (λ rows. P d (seen d a) rows) (sym (second.0 d)) (first.0 d), λ name apart. second.1 name apart ∙ first.1 name apart);
  }

  pub spares_both : SparesDomains a b → SparesDomains b c → SparesDomains a c
  spares_both one two = spares_first (λ rows. ⊤) (λ d old new. new ≡ old) one two

module _ {a b : Database} where
  -- told in other words
  pub on_each_as : (P Q : NamedRows → NamedRows → Type 0) → ((d : Text) → P (seen d a) (seen d b) → Q (seen d a) (seen d b)) → OnEach P a b → OnEach Q a b
  on_each_as P Q tells it = record { on = λ premise. let made = it.on premise in (λ d. tells d (made.0 d), made.1) }

  pub on_domain_as : (domain : Text) (P Q : NamedRows → NamedRows → Type 0) → (P (seen domain a) (seen domain b) → Q (seen domain a) (seen domain b)) → OnDomain domain P a b → OnDomain domain Q a b
  on_domain_as domain P Q tells it = record {
    on = λ premise. let made = it.on premise in (
      λ d. made_if domain Q AreSameByName (λ t. seen t a) (λ t. seen t b) (tells (its_made domain P AreSameByName (seen domain a) (seen domain b) (made.0 domain))) d
          (λ apart. others_made domain P AreSameByName (seen d a) (seen d b) d apart (made.0 d)),
      made.1,
    );
  }

  -- where more is asked
  pub domains_where : (Premise : NamedRows → Type 0) (P : Text → NamedRows → NamedRows → Type 0) → OnDomainsWhere (λ rows. ⊤) P a b → OnDomainsWhere Premise P a b
  domains_where Premise P it = record { on = λ premise. it.on (λ d. tt) }

pub nothing_made : (db : Database) → SparesDomains db db
nothing_made db = record { on = λ premise. (λ d. refl, λ name apart. refl) }

-- and what nothing makes of any rows
pub nothing_on_domain : (domain : Text) (P : NamedRows → NamedRows → Type 0) (db : Database) → P (seen domain db) (seen domain db) → OnDomain domain P db db
nothing_on_domain domain P db it = record {
  on = λ premise. (λ d. made_if domain P AreSameByName (λ t. seen t db) (λ t. seen t db) it d (λ apart name. same_rows (seen d db name) (seen d db name) refl), λ name apart. refl);
}

-- what holds of the rows that each domain sees holds of all
next_of_all : (old : Database) → ((d : Text) → HaveNextIn (seen d old)) → HaveNextRevisionsInDomains old
next_of_all old next row there approved =
    let domain = text_at 1 row in
    next domain (unit_seen row) (to_seen (has_text 1 domain) unit_seen (rows_named old (codes "d_unit")) row there (is_text 1 domain row refl)) approved

-- a vote on a suggestion of a domain is in no other, since no other suggestion has its number
in_no_other : (old : Database) → AreOfficeTablesOf by_domain old → (domain : Text) (s : Row) → Has (rows_named old (codes "d_suggestion")) s → text_at 2 s ≡ domain → (vote : Row) → first_text vote ≡ first_text s
    → (d : Text) → d ≢ domain → is_vote_in d (rows_named old (codes "d_suggestion")) vote ≡ false
in_no_other old ready domain s there own vote same d differ = false_from_ne_true _ (λ e.
    let x = some_has (λ x. has_text 1 (first_text vote) x && has_text 2 d x) (rows_named old (codes "d_suggestion")) e in
    let parts = and_parts (has_text 1 (first_text vote) x.0) (has_text 2 d x.0) x.2 in
    let number : first_text x.0 ≡ first_text s = texts_are_one (first_text x.0) (first_text vote) parts.0 ∙ same in
    let one = one_d_number old ready.schema ready.sound (ready.tables (codes "d_suggestion") refl) x.0 s x.1 there number in
    differ (sym (texts_are_one (text_at 2 x.0) d parts.1) ∙ (ap (text_at 2) one ∙ own)))

module _ {old new : Database} where
  -- ---- what no domain sees: a sum or a tally

  unseen_on_domains : (table : Text) → (table ≡ codes "d_vote_sum") ⊎ (table ≡ codes "d_tally") → ((name : Text) → IsElsewhere name → name ≢ table) → SparesOthers table (rows_named old) (rows_named new)
      → SparesDomains old new
  unseen_on_domains table is written others = record { on = λ premise. (λ d. all_unseen d old new table (inr is) others, λ name apart. others name (written name apart)) }

  pub sum_on_domains : {K : Type 0} {key : Row → K} {IsRow : Row → Type 0} → PutsRow (codes "d_vote_sum") key IsRow old new → SparesDomains old new
  sum_on_domains it = unseen_on_domains (codes "d_vote_sum") (inl refl) (λ name apart. apart.sums) it.others

  pub tally_on_domains : {K : Type 0} {key : Row → K} {IsRow : Row → Type 0} → PutsRow (codes "d_tally") key IsRow old new → SparesDomains old new
  tally_on_domains it = unseen_on_domains (codes "d_tally") (inr refl) (λ name apart. apart.tallies) it.others

  pub tallies_on_domains : UnapprovesTallies old new → SparesDomains old new
  tallies_on_domains it = unseen_on_domains (codes "d_tally") (inr refl) (λ name apart. apart.tallies) it.0

  -- ---- records, members and the policy are of the whole office

  pub record_on_each : {K : Type 0} {key : Row → K} {IsRow : Row → Type 0} → PutsRow (codes "record") key IsRow old new → OnEach (PutsIn (codes "record") key IsRow) old new
  record_on_each it = record { on = λ premise. (λ d. record_seen d it, λ name apart. it.others name apart.records) }

  pub member_on_each : {K : Type 0} {key : Row → K} {IsRow : Row → Type 0} → PutsRow (codes "team") key IsRow old new → OnEach (PutsIn (codes "team") key IsRow) old new
  member_on_each it = record { on = λ premise. (λ d. member_seen d it, λ name apart. it.others name apart.team) }

  pub members_taken_on_each : {test : Row → Bool} → TakesRows (codes "team") test old new → OnEach (TakesIn (codes "team") test) old new
  members_taken_on_each it = record { on = λ premise. (λ d. members_taken_seen d it, λ name apart. it.others name apart.team) }

  pub policy_on_each : {K : Type 0} {key : Row → K} {IsRow : Row → Type 0} → PutsRow (codes "policy") key IsRow old new → OnEach (PutsIn (codes "policy") key IsRow) old new
  policy_on_each it = record { on = λ premise. (λ d. policy_seen d it, λ name apart. it.others name apart.policy) }

  -- ---- what is a domain's own

  on_one_domain : (domain : Text) (Makes : NamedRows → NamedRows → Type 0) → Makes (seen domain old) (seen domain new) → ((d : Text) → d ≢ domain → AreSameByName (seen d old) (seen d new))
      → SparesElsewhere (rows_named old) (rows_named new) → OnDomain domain Makes old new
  on_one_domain domain Makes its others spares = record {
    on = λ premise. (λ d. made_if domain Makes AreSameByName (λ t. seen t old) (λ t. seen t new) its d (λ apart. others d (domains_apart d domain apart)), spares);
  }

  module _ (ready : AreOfficeTablesOf by_domain old) {domain : Text} where
    -- ---- the languages and the template

    pub language_on_domain : {lang header rule : Text} → PutsRow (codes "d_language") (key_texts (1 ∷ 2 ∷ [])) (HoldsValues (Words domain ∷ Words lang ∷ Words header ∷ Words rule ∷ [])) old new
        → OnDomain domain (PutsIn (codes "language") first_text (HoldsValues (Words lang ∷ Words header ∷ Words rule ∷ []))) old new
    language_on_domain {lang} {header} {rule} it =
        let put = puts_in it in
        on_one_domain domain (PutsIn (codes "language") first_text (HoldsValues (Words lang ∷ Words header ∷ Words rule ∷ []))) (language_seen_put domain it)
        (languages_stay_seen _ domain (rows_named old) (rows_named new) put (ap (text_at 1) put.is_row.1)) (λ name apart. it.others name apart.languages)

    pub entry_on_domain : {place : ℤ} {key plural extracted references flags : Value}
        → PutsRow (codes "d_template") domain_place (HoldsValues (Words domain ∷ Int place ∷ key ∷ plural ∷ extracted ∷ references ∷ flags ∷ [])) old new
        → OnDomain domain (PutsIn (codes "template") row_number (λ row. row ≡ entry_seen (Int (pos 0) ∷ Words domain ∷ Int place ∷ key ∷ plural ∷ extracted ∷ references ∷ flags ∷ []))) old new
    entry_on_domain {place} {key} {plural} {extracted} {references} {flags} it =
        let put = puts_in it in
        on_one_domain domain (PutsIn (codes "template") row_number (λ row. row ≡ entry_seen (Int (pos 0) ∷ Words domain ∷ Int place ∷ key ∷ plural ∷ extracted ∷ references ∷ flags ∷ []))) (entry_seen_put domain it)
        (templates_stay_seen _ domain (rows_named old) (rows_named new) put (ap (text_at 1) put.is_row.1)) (λ name apart. it.others name apart.template)

    pub template_emptied_on_domain : TakesRows (codes "d_template") (has_text 1 domain) old new → OnDomain domain (TakesIn (codes "template") (λ row. true)) old new
    template_emptied_on_domain it =
        on_one_domain domain (TakesIn (codes "template") (λ row. true)) (template_emptied_seen domain it) (templates_left_seen domain (rows_named old) (rows_named new) it.rows it.others) (λ name apart. it.others name apart.template)

    pub entry_taken_on_domain : {key : Text} → TakesRows (codes "d_template") (is_entry_of domain key) old new → OnDomain domain (TakesIn (codes "template") (has_text 2 key)) old new
    entry_taken_on_domain {key} it =
        on_one_domain domain (TakesIn (codes "template") (has_text 2 key)) (one_entry_taken_seen domain it) (entries_left_seen domain key (rows_named old) (rows_named new) it.rows it.others)
        (λ name apart. it.others name apart.template)

    -- ---- a unit, its suggestions, and the votes on them

    pub unit_on_domain : {cells : Row} → ((id : ℤ) → unit_seen (Int id ∷ Words domain ∷ cells) ≡ Int id ∷ cells) → PutsRow (codes "d_unit") first_three (HoldsValues (Words domain ∷ cells)) old new
        → OnDomain domain (PutsIn (codes "unit") first_texts (HoldsValues cells)) old new
    unit_on_domain {cells} same it =
        on_one_domain domain (PutsIn (codes "unit") first_texts (HoldsValues cells)) (unit_seen_put domain it same) (units_stay_seen _ domain old new it (ap (text_at 1) it.is_row.1)) (λ name apart. it.others name apart.units)

    pub cleared_on_domain : {lang key : Text} → ClearsDomainUnit domain lang key old new → OnDomain domain (ClearsIn lang key) old new
    cleared_on_domain {lang} {key} it =
        on_one_domain domain (ClearsIn lang key) (unit_cleared_seen domain it)
        (others_stay_seen old new domain lang key it (one_d_number old ready.schema ready.sound (ready.tables (codes "d_suggestion") refl)))
        (λ name apart. it.others name apart.suggestions apart.votes apart.sums)

    pub suggestion_on_domain : {number lang key suggester forms : Text} {place : ℤ}
        → AddsRow (codes "d_suggestion") first_text (HoldsValues (Words number ∷ Words domain ∷ Words lang ∷ Words key ∷ Int place ∷ Words suggester ∷ Words forms ∷ [])) old new
        → OnDomain domain (AddsIn (codes "suggestion") first_text (HoldsValues (Words number ∷ Words lang ∷ Words key ∷ Int place ∷ Words suggester ∷ Words forms ∷ []))) old new
    suggestion_on_domain {number} {lang} {key} {suggester} {forms} {place} it =
        on_one_domain domain (AddsIn (codes "suggestion") first_text (HoldsValues (Words number ∷ Words lang ∷ Words key ∷ Int place ∷ Words suggester ∷ Words forms ∷ []))) (suggestion_added_seen domain ready it)
        (suggestion_unseen _ old new domain it (ap (text_at 2) it.puts.is_row.1) (on_suggestion old ready)) (λ name apart. it.puts.others name apart.suggestions)

    -- a vote on a suggestion of the domain, which no other domain sees
    pub vote_on_domain : {IsRow : Row → Type 0} (put : PutsRow (codes "d_vote") first_texts IsRow old new) (s : Row) → Has (rows_named old (codes "d_suggestion")) s → text_at 2 s ≡ domain
        → first_text put.row ≡ first_text s → OnDomain domain (PutsIn (codes "vote") first_texts IsRow) old new
    vote_on_domain {IsRow} it s there own same =
        let put : PutsIn (codes "d_vote") first_texts IsRow (rows_named old) (rows_named new) = record { row = it.row; is_row = it.is_row; put = it.put; others = it.others } in
        on_one_domain domain (PutsIn (codes "vote") first_texts IsRow) (vote_seen_put domain it s there own same)
        (λ d differ. votes_stay_seen IsRow (rows_named old) (rows_named new) put d (in_no_other old ready domain s there own it.row same d differ)) (λ name apart. it.others name apart.votes)

    -- and so where a vote on the suggestion goes
    pub vote_taken_on_domain : {number voter : Text} → TakesRows (codes "d_vote") (λ row. has_text 1 number row && has_text 2 voter row) old new → (s : Row) → Has (rows_named old (codes "d_suggestion")) s
        → text_at 2 s ≡ domain → first_text s ≡ number → OnDomain domain (TakesIn (codes "vote") (λ row. has_text 1 number row && has_text 2 voter row)) old new
    vote_taken_on_domain {number} {voter} it s there own is =
        on_one_domain domain (TakesIn (codes "vote") (λ row. has_text 1 number row && has_text 2 voter row)) (vote_taken_seen domain it)
        (λ d differ. votes_left_seen d it (λ v passes. false_from_ne_true _ (λ e.
        let named = texts_are_one (first_text v) number (and_parts (has_text 1 number v) (has_text 2 voter v) e).0 ∙ sym is in
        let out = in_no_other old ready domain s there own v named d differ in
        cc)))
        (λ name apart. it.others name apart.votes)

  -- ---- no unit stays approved, where 64 bits hold each next revision

  pub units_on_domains : UnapprovesDomainUnits old new → OnDomainsWhere HaveNextIn (λ d. UnapprovesIn) old new
  units_on_domains unapproves = record {
    on = λ next.
        let all = next_of_all old next in
        let it = unapproves all in
        (λ d asked. units_renewed_seen d all unapproves, λ name apart. it.others name apart.units);
  }
