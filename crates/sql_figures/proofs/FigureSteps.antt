-- How sums and tallies follow each statement on tables by domains, and statements one after the other.
use Rattle.std.specs.Prelude.{⊤}
use Rattle.std.proofs.Common.{◌≡◌, ◌≢◌, ◌+◌, ◌^◌, ℤ, [], ◌∷◌, map, Bool, true, false, Some, codes, refl, sym, ap, subst, ◌∙◌}
use Rattle.std.proofs.lemmas.Bool.{lt-ltb}
use Rattle.std.specs.Cmp.Lexicographic.{slice_cmp}
use Rattle.std.specs.Ordering.{nat_cmp, is_eq}
use Rattle.std.specs.FinMap as maps
use Rattle.std.specs.List.{list_any}
use Rattle.sqlite.specs.declared.types.Value.TheVariants.{Int, Text as Words}
use Rattle.sqlite.specs.Order.{Row}
use Rattle.sqlite.specs.Effect.{Database}
use Rattle.sqlite_sql.specs.Ops.{fits_i64}
use Rattle.po_text.specs.Texts.{Text, text_cmp}
use Rattle.units.specs.Units.{vote_sum}
use Rattle.units.specs.declared.votes.VoteValue.{VoteValue}
use Rattle.office_specification.specs.declared.tally.Tally.{Tally}
use Rattle.tables.specs.Tallies.{moved}
use Rattle.sql_schema.specs.Inside.{AreOfficeTablesOf, PutsRow, HoldsValues, Then}
use Rattle.sql_schema.specs.Keys.{first_text, first_texts, key_texts, has_text}
use Rattle.sql_schema.specs.Layouts.{by_domain, NamedRows, rows_named, SparesOthers}
use Rattle.sql_schema.specs.SeenRows.{rows_seen, entry_seen, language_seen, unit_seen, suggestion_seen, is_vote_in, vote_seen, named_so}
use Rattle.sql_schema.proofs.Layouts.{names_differ}
use Rattle.sql_statements.specs.Added.{AddsRow}
use Rattle.sql_statements.specs.DomainAnswers.{ShowsTally}
use Rattle.sql_statements.specs.DomainCleared.{ClearsDomainUnit}
use Rattle.sql_statements.specs.DomainRenewed.{HaveNextRevisionsInDomains, UnapprovesDomainUnits, HaveTallySums, UnapprovesTallies}
use Rattle.sql_statements.specs.Taken.{TakesRows}
use Rattle.sql_meaning.specs.Cells.{tally_cells, vote_cells}
use Rattle.sql_meaning.specs.Domains.{project_seen, is_domain}
use Rattle.sql_meaning.specs.Meaning.{project_of_rows}
use Rattle.sql_meaning.specs.Shown.{shown_tally}
use Rattle.sql_meaning.specs.Written.{PutsRows}
use Rattle.sql_figures.specs.KeptSums.{votes_among, HaveSums}
use Rattle.sql_figures.specs.KeptTallies.{Counts, AreTalliesOf}
use Rattle.sql_figures.specs.Figures.{with_tally, moved_at, turned, HaveRoom, FiguresFollowWhere, FiguresFollow, FiguresStay}
use Rattle.sql_figures.proofs.SumRows.{sums_still, sums_cleared, sums_added, sums_voted}
use Rattle.sql_figures.proofs.TallyRows.{tallies_alike, tally_put, tally_moved, nothing_moved, tallies_turned, sums_fit}
use Rattle.sql_figures.proofs.VotesPut.{rows_beside}

-- ---- one after the other

module _ {a b c : Database} (Asked : Counts → Type 0) (change : Counts → Counts) where
  pub stay_first : FiguresStay a b → FiguresFollowWhere Asked change b c → FiguresFollowWhere Asked change a c
  stay_first one two = record { sums = λ have. two.sums (one.sums have); tallies = λ counts asked are. two.tallies counts asked (one.tallies counts tt are) }

  pub stay_last : FiguresFollowWhere Asked change a b → FiguresStay b c → FiguresFollowWhere Asked change a c
  stay_last one two = record { sums = λ have. two.sums (one.sums have); tallies = λ counts asked are. two.tallies (change counts) tt (one.tallies counts asked are) }

module _ {a b c : Database} where
  pub stay_both : FiguresStay a b → FiguresStay b c → FiguresStay a c
  stay_both one two = stay_first (λ counts. ⊤) (λ counts. counts) one two

  pub follow_both : (first second : Counts → Counts) → FiguresFollow first a b → FiguresFollow second b c → FiguresFollow (λ counts. second (first counts)) a c
  follow_both first second one two = record { sums = λ have. two.sums (one.sums have); tallies = λ counts asked are. two.tallies (first counts) tt (one.tallies counts tt are) }

-- whatever is asked of counts
pub stay_where : {a b : Database} (Asked : Counts → Type 0) → FiguresStay a b → FiguresFollowWhere Asked (λ counts. counts) a b
stay_where Asked it = record { sums = it.sums; tallies = λ counts asked are. it.tallies counts tt are }

pub nothing_follows : (db : Database) → FiguresStay db db
nothing_follows db = record { sums = λ have. have; tallies = λ counts asked are. are }

-- ---- a table beside suggestions, votes, sums and tallies

pub record IsBeside (table : Text) : Type 0 where
  pub suggestions : codes "d_suggestion" ≢ table
  pub votes : codes "d_vote" ≢ table
  pub sums : codes "d_vote_sum" ≢ table
  pub tallies : codes "d_tally" ≢ table

abbrev Differs : Text → Text → Type 0
Differs table name = is_eq (slice_cmp nat_cmp name table) ≡ false

-- told by what its name computes to
beside : {table : Text} → Differs table (codes "d_suggestion") → Differs table (codes "d_vote") → Differs table (codes "d_vote_sum") → Differs table (codes "d_tally") → IsBeside table
beside suggestions votes sums tallies = record { suggestions = names_differ suggestions; votes = names_differ votes; sums = names_differ sums; tallies = names_differ tallies }

pub record_beside : IsBeside (codes "record")
record_beside = beside refl refl refl refl

pub team_beside : IsBeside (codes "team")
team_beside = beside refl refl refl refl

pub policy_beside : IsBeside (codes "policy")
policy_beside = beside refl refl refl refl

pub entry_beside : IsBeside (codes "d_template")
entry_beside = beside refl refl refl refl

pub language_beside : IsBeside (codes "d_language")
language_beside = beside refl refl refl refl

pub unit_beside : IsBeside (codes "d_unit")
unit_beside = beside refl refl refl refl

pub domain_beside : IsBeside (codes "domain")
domain_beside = beside refl refl refl refl

-- the tallies alone change
beside_tallies : (old new : NamedRows) → SparesOthers (codes "d_tally") old new → HaveSums old → HaveSums new
beside_tallies old new others = sums_still old new (others (codes "d_suggestion") (names_differ refl)) (others (codes "d_vote") (names_differ refl)) (others (codes "d_vote_sum") (names_differ refl))

-- 64 bits hold the sums that the policy's statement makes
tally_sums : (db : Database) (counts : Counts) → HaveRoom counts → AreTalliesOf counts (rows_named db (codes "d_tally")) → HaveTallySums db
tally_sums db counts room are row there =
    let it = are.counted row there in
    subst (λ (n : ℤ). fits_i64 n ≡ true) (sym (sums_fit it.0 row it.1)) (lt-ltb (it.0.translated + it.0.approved) (2 ^ 63) (room _ _ it.0 it.2))

module _ {old new : Database} where
  pub stay_beside : (table : Text) → IsBeside table → SparesOthers table (rows_named old) (rows_named new) → FiguresStay old new
  stay_beside table apart others = record {
    sums = sums_still (rows_named old) (rows_named new) (others (codes "d_suggestion") apart.suggestions) (others (codes "d_vote") apart.votes) (others (codes "d_vote_sum") apart.sums);
    tallies = λ counts asked are. subst (AreTalliesOf counts) (sym (others (codes "d_tally") apart.tallies)) are;
  }

  pub put_beside : {table : Text} {K : Type 0} {key : Row → K} {IsRow : Row → Type 0} → IsBeside table → PutsRow table key IsRow old new → FiguresStay old new
  put_beside {table} apart it = stay_beside table apart it.others

  pub taken_beside : {table : Text} {test : Row → Bool} → IsBeside table → TakesRows table test old new → FiguresStay old new
  taken_beside {table} apart it = stay_beside table apart it.others

  -- no unit stays approved
  pub units_turned : HaveNextRevisionsInDomains old → UnapprovesDomainUnits old new → FiguresStay old new
  units_turned next unapproves = stay_beside (codes "d_unit") unit_beside (unapproves next).others

  -- ---- a tally

  pub follow_tally : (domain lang : Text) (tally : Tally) → PutsRow (codes "d_tally") (key_texts (1 ∷ 2 ∷ [])) (HoldsValues (tally_cells domain lang tally)) old new → FiguresFollow (with_tally domain lang tally) old new
  follow_tally domain lang tally put = record {
    sums = beside_tallies (rows_named old) (rows_named new) put.others;
    tallies = λ counts asked are. tally_put counts (rows_named old (codes "d_tally")) (rows_named new (codes "d_tally")) domain lang tally put.row put.put put.is_row are;
  }

  pub follow_moved : (domain lang : Text) (shown : Row) (was is : Tally) → ShowsTally domain lang old (Some shown)
      → PutsRow (codes "d_tally") (key_texts (1 ∷ 2 ∷ [])) (HoldsValues (tally_cells domain lang (moved (shown_tally shown) was is))) old new → FiguresFollow (moved_at domain lang was is) old new
  follow_moved domain lang shown was is found put = record {
    sums = beside_tallies (rows_named old) (rows_named new) put.others;
    tallies = λ counts asked are. tally_moved counts (rows_named old (codes "d_tally")) (rows_named new (codes "d_tally")) domain lang shown was is put.row found put.put put.is_row are;
  }

  pub follow_turned : UnapprovesTallies old new → FiguresFollowWhere HaveRoom turned old new
  follow_turned unapproves = record {
    sums = beside_tallies (rows_named old) (rows_named new) unapproves.0;
    tallies = λ counts room are. tallies_turned counts (rows_named old (codes "d_tally")) (rows_named new (codes "d_tally")) (unapproves.1 (tally_sums old counts room are)).rows are;
  }

  -- ---- a unit's suggestions

  pub stay_cleared : (domain lang key : Text) → AreOfficeTablesOf by_domain old → ClearsDomainUnit domain lang key old new → FiguresStay old new
  stay_cleared domain lang key ready clear = record {
    sums = sums_cleared old new domain lang key ready clear;
    tallies = λ counts asked are. subst (AreTalliesOf counts) (sym (stays (codes "d_tally") (names_differ refl) (names_differ refl) (names_differ refl))) are;
  }
    where
      stays : (t : Text) → t ≢ codes "d_suggestion" → t ≢ codes "d_vote" → t ≢ codes "d_vote_sum" → rows_named new t ≡ rows_named old t
      stays = clear.others

  pub stay_added : (mid : Database) (number : Text) (sum : ℤ) (votes : maps.FinMap text_cmp VoteValue) → AreOfficeTablesOf by_domain old → sum ≡ vote_sum votes
      → Then (AddsRow (codes "d_suggestion") first_text (λ row. first_text row ≡ number)) (PutsRow (codes "d_vote_sum") first_text (HoldsValues (Words number ∷ Int sum ∷ []))) old mid
      → PutsRows (codes "d_vote") first_texts (map (vote_cells number) (maps.entries votes)) (rows_named mid) (rows_named new) → FiguresStay old new
  stay_added mid number sum votes ready is (between, added, summed) put = record {
    sums = sums_added old between mid new number votes ready added (subst (λ (n : ℤ). PutsRow (codes "d_vote_sum") first_text (HoldsValues (Words number ∷ Int n ∷ [])) between mid) is summed) put;
    tallies = λ counts asked are.
        subst (AreTalliesOf counts)
        (sym (rows_beside (codes "d_tally") (codes "d_vote") first_texts (map (vote_cells number) (maps.entries votes)) (rows_named mid) (rows_named new) put (names_differ refl)
        ∙ (summed.others (codes "d_tally") (names_differ refl) ∙ added.puts.others (codes "d_tally") (names_differ refl)))) are;
  }

module _ {old new : Database} where
  -- the votes on a suggestion change, and then its sum
  pub stay_voted : (mid : Database) (number : Text) (sum : ℤ) → SparesOthers (codes "d_vote") (rows_named old) (rows_named mid)
      → ((other : Text) → other ≢ number → votes_among (rows_named mid (codes "d_vote")) other ≡ votes_among (rows_named old (codes "d_vote")) other)
      → sum ≡ vote_sum (votes_among (rows_named mid (codes "d_vote")) number)
      → PutsRow (codes "d_vote_sum") first_text (HoldsValues (Words number ∷ Int sum ∷ [])) mid new → FiguresStay old new
  stay_voted mid number sum spares others its summed = record {
    sums = sums_voted old mid new number sum spares others its summed;
    tallies = λ counts asked are.
        subst (AreTalliesOf counts) (sym (summed.others (codes "d_tally") (names_differ refl) ∙ spares (codes "d_tally") (names_differ refl))) are;
  }

-- ---- counts that are the same

pub follow_as : {old new : Database} (Asked : Counts → Type 0) (change other : Counts → Counts) → ((counts : Counts) (d l : Text) → other counts d l ≡ change counts d l)
    → FiguresFollowWhere Asked change old new → FiguresFollowWhere Asked other old new
follow_as {old} {new} Asked change other same it = record {
  sums = it.sums;
  tallies = λ counts asked are. tallies_alike (change counts) (other counts) (rows_named new (codes "d_tally")) (same counts) (it.tallies counts asked are);
}

-- where the old unit and the new one count the same
pub nothing_moves : (db : Database) (domain lang : Text) (was is : Tally) → was ≡ is → FiguresFollow (moved_at domain lang was is) db db
nothing_moves db domain lang was is same =
    follow_as (λ counts. ⊤) (λ counts. counts) (moved_at domain lang was is) (λ counts d l. nothing_moved counts domain lang was is same d l) (nothing_follows db)

-- ---- what a record leaves of a project, and of the domains

pub record_alone : (domain : Text) (old new : NamedRows) → SparesOthers (codes "record") old new → project_seen domain new ≡ project_seen domain old
record_alone domain old new others =
    let team = others (codes "team") (names_differ refl) in
    let policy = others (codes "policy") (names_differ refl) in
    let template = others (codes "d_template") (names_differ refl) in
    let languages = others (codes "d_language") (names_differ refl) in
    let units = others (codes "d_unit") (names_differ refl) in
    let suggestions = others (codes "d_suggestion") (names_differ refl) in
    let votes = others (codes "d_vote") (names_differ refl) in
    λ i. project_of_rows (named_so [] (team i) (policy i) (rows_seen (has_text 1 domain) entry_seen (template i)) (rows_seen (has_text 1 domain) language_seen (languages i))
    (rows_seen (has_text 1 domain) unit_seen (units i)) (rows_seen (has_text 2 domain) suggestion_seen (suggestions i)) (rows_seen (is_vote_in domain (suggestions i)) vote_seen (votes i)))

pub record_leaves_domain : (domain : Text) (old new : NamedRows) → SparesOthers (codes "record") old new → is_domain new domain ≡ is_domain old domain
record_leaves_domain domain old new others = ap (list_any (has_text 1 domain)) (others (codes "domain") (names_differ refl))
