-- The commit of a new domain keeps an office's file one: its row, of which no other is written; and so does the one domain of a beginning stand for a value.
use Rattle.std.proofs.Common.{◌≡◌, ◌<◌, inl, ℕ, List, [], ◌∷◌, Bool, true, false, codes, refl, sym, ap, subst, ◌∙◌}
use Rattle.std.specs.Prelude.{All, IsTrue, IsUtf8, nat_lt}
use Rattle.std.specs.List.{list_any, list_all}
use Rattle.std.proofs.lemmas.Bool.{false_from_ne_true, ltb-true}
use Rattle.std.proofs.lemmas.List.Sums.{AllPass-from_list_all}
use Rattle.std.proofs.lemmas.Str.Ascii.{IsAscii-from_all}
use Rattle.std.proofs.lemmas.Str.{IsUtf8-from_ascii}
use Rattle.sqlite.specs.declared.types.Value.TheVariants.{Text as Words}
use Rattle.sqlite.specs.Effect.{Database}
use Rattle.sqlite.specs.Order.{Row}
use Rattle.sqlite_rules.specs.Lists.{Has}
use Rattle.sqlite_rules.proofs.ListLemmas.{some_has, some_from}
use Rattle.sql_laws.specs.RowMaps.{IsPut}
use Rattle.sql_laws.proofs.RowMaps.{texts_are_one}
use Rattle.po_text.specs.Texts.{Text}
use Rattle.request_book.specs.declared.book.Record.{Record}
use Rattle.units.specs.Limits.{is_name}
use Rattle.units.specs.Office.{main}
use Rattle.office_specification.specs.OfficeRules.{KeepsRules}
use Rattle.sql_schema.specs.Inside.{Then, AreOfficeTablesOf}
use Rattle.sql_schema.specs.Keys.{first_text, has_text, columns}
use Rattle.sql_schema.specs.Layouts.{by_domain, rows_named}
use Rattle.sql_schema.specs.SeenRows.{seen_in}
use Rattle.sql_schema.proofs.DomainsSeen.{is_text}
use Rattle.sql_meaning.specs.Beginnings.{PutsDomain, MakesMainTables}
use Rattle.sql_meaning.specs.Domains.{meaning_by_domain, is_domain}
use Rattle.sql_meaning.proofs.DomainSteps.{all_unseen}
use Rattle.sql_changes.specs.Commits.{PutsNumberedRecord}
use Rattle.sql_changes.specs.OnDomains.{OnEach, SparesElsewhere}
use Rattle.sql_changes.proofs.DomainWrites.{domain_elsewhere}
use Rattle.sql_decoding.specs.RowTests.{is_domain_row}
use Rattle.sql_decoding.proofs.ColumnsTested.{text_stands}
use Rattle.sql_adoption.specs.Adoption.{Each}
use Rattle.sql_figures.specs.Figures.{HasFigures}
use Rattle.sql_files.specs.Files.{IsKeepable, StandForAll, IsOfficeDatabase}
use Rattle.sql_files.proofs.ActKept.{record_step, record_nothing}
use Rattle.sql_files.proofs.InDomains.{SeesNothing, sees_nothing, all_seen, stand_all}
use Rattle.sql_files.proofs.Puts.{no_row, all_put}

all_small : (bs : List ℕ) → list_all (λ b. nat_lt b 128) bs ≡ true → All (λ b. b < 128) bs
all_small bs small = let each = AllPass-from_list_all (λ b. nat_lt b 128) bs small in λ k d within. ltb-true _ 128 (each k d within)

pub plain : (bs : List ℕ) → list_all (λ b. nat_lt b 128) bs ≡ true → IsUtf8 bs
plain bs small = IsUtf8-from_ascii bs (IsAscii-from_all bs (all_small bs small))

-- ---- a domain's row

abbrev DomainStands : Row → Type 0
DomainStands row = IsTrue (is_domain_row (columns (1 ∷ []) row))

domain_stands : (domain : Text) → is_name domain ≡ true → IsUtf8 domain → is_domain_row (Words domain ∷ []) ≡ true
domain_stands domain named utf8 = text_stands 0 (Words domain ∷ []) domain refl is_name utf8 named

named_all : (domain : Text) → is_name domain ≡ true → IsUtf8 domain → (old new : Database) → PutsDomain domain old new → Each (codes "domain") (1 ∷ []) is_domain_row (rows_named old)
    → Each (codes "domain") (1 ∷ []) is_domain_row (rows_named new)
named_all domain named utf8 old new put each =
    all_put first_text DomainStands (rows_named old (codes "domain")) (rows_named new (codes "domain")) put.row put.put each (subst DomainStands (sym put.is_row.1) (domain_stands domain named utf8))

-- that of a beginning
pub main_named : (old new : Database) → MakesMainTables old new → Each (codes "domain") (1 ∷ []) is_domain_row (rows_named new)
main_named old new (made, empty, put) = named_all main refl (plain main refl) made new put (λ row there. no_row (rows_named made (codes "domain")) row (empty (codes "domain")) there)

-- ---- the commit

-- a domain that was there still is
still_there : (name : Text) (old new : List Row) (row : Row) → IsPut first_text old new row → list_any (has_text 1 name) old ≡ true → list_any (has_text 1 name) new ≡ true
still_there name old new row put there =
    let was = some_has (has_text 1 name) old there in
    let is = texts_are_one (first_text was.0) name was.2 in
    by was.0 was.1 is (has_text 1 name row) refl
  where
    by : (r : Row) → Has old r → first_text r ≡ name → (b : Bool) → has_text 1 name row ≡ b → list_any (has_text 1 name) new ≡ true
    by r in_old is true tied = some_from (has_text 1 name) new row put.here tied
    by r in_old is false apart =
        some_from (has_text 1 name) new r
        (put.kept r in_old (λ same. let yes : has_text 1 name row ≡ true = is_text 1 name row (sym same ∙ is) in let wrong : true ≡ false = sym yes ∙ apart in cc)) (is_text 1 name r is)

pub domain_keeps : (old new : Database) (row : Record) (domain : Text) → Then (OnEach (PutsNumberedRecord row)) (PutsDomain domain) old new → AreOfficeTablesOf by_domain new
    → IsKeepable row → is_name domain ≡ true → IsUtf8 domain → KeepsRules (meaning_by_domain (rows_named new)) → HasFigures (rows_named new) → IsOfficeDatabase by_domain old → IsOfficeDatabase by_domain new
domain_keeps old new row domain (mid, recorded, put) ready keepable named utf8 rules figures file =
    stand_all old new ready rules figures file (named_all domain named utf8 mid new put (λ r there. file.rows.office.names r (subst (λ rows. Has rows r) same there))) nothing (λ d there project. each d)
  where
    made : ((d : Text) → PutsNumberedRecord row (seen_in d (rows_named old)) (seen_in d (rows_named mid))) × SparesElsewhere (rows_named old) (rows_named mid)
    made = recorded.on (λ d. tt)

    same : rows_named mid (codes "domain") ≡ rows_named old (codes "domain")
    same = made.1 (codes "domain") domain_elsewhere

    -- a domain's name is no row that a domain sees
    unseen : (d : Text) → seen_in d (rows_named new) ≡ seen_in d (rows_named mid)
    unseen d = all_unseen d mid new (codes "domain") (inl refl) put.others

    each : (d : Text) → StandForAll (seen_in d (rows_named new))
    each d = subst StandForAll (sym (unseen d)) (record_step (seen_in d (rows_named old)) (seen_in d (rows_named mid)) row (made.0 d) keepable (all_seen old file d))

    missing_before : (d : Text) → is_domain (rows_named new) d ≡ false → is_domain (rows_named old) d ≡ false
    missing_before d missing = false_from_ne_true (is_domain (rows_named old) d) (λ there.
        let yes =
        still_there d (rows_named mid (codes "domain")) (rows_named new (codes "domain")) put.row put.put (ap (λ rows. list_any (has_text 1 d) rows) same ∙ there) in
        let wrong : true ≡ false = sym yes ∙ missing in
        cc)

    nothing : (d : Text) → is_domain (rows_named new) d ≡ false → SeesNothing (seen_in d (rows_named new))
    nothing d missing =
        subst SeesNothing (sym (unseen d))
        (record_nothing (seen_in d (rows_named old)) (seen_in d (rows_named mid)) row (made.0 d) (sees_nothing (rows_named old) file.rows.office.own d (missing_before d missing)))
