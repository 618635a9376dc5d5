-- The tallies of an office are told from the languages that are there, each with what it counts.
use Rattle.std.proofs.Common.{◌≡◌, inl, inr, ℕ, ◌+◌, ◌<◌, ◌≤◌, List, [], ◌∷◌, ◌++◌, length, take, map, get_or, append_assoc, Bool, true, false, Option, Some, None, is_some, option_map, unwrap_or, refl, sym, ap, subst, ◌∙◌}
use Rattle.std.specs.Prelude.{IsSome}
use Rattle.std.specs.Bool.{Decides}
use Rattle.std.specs.List.{list_all, list_any}
use Rattle.std.specs.FinMap as maps
use Rattle.std.proofs.lemmas.Bool.{and_parts, and_from}
use Rattle.std.proofs.lemmas.List.{take_more, take_all, map-append, append-nil}
use Rattle.std.proofs.lemmas.List.Concat.{flat_map-append}
use Rattle.sqlite.specs.Order.{Row}
use Rattle.sqlite_rules.specs.Lists.{Has}
use Rattle.sql_laws.proofs.RemovedRows.{to_mapped}
use Rattle.sqlite_rules.proofs.ListLemmas.{test_has, test_from, some_has, some_from, has_left, has_right, has_either, has_contained}
use Rattle.po_text.specs.declared.entry.Entry.{Entry}
use Rattle.po_text.specs.Texts.{Text}
use Rattle.units.specs.Office.{Office, project_in}
use Rattle.office_specification.specs.declared.tally.Tally.{Tally}
use Rattle.tables.proofs.NothingCounted.{nothing_counted}
use Rattle.sql_schema.specs.Keys.{text_at}
use Rattle.sql_meaning.specs.Cells.{tally_cells}
use Rattle.sql_figures.specs.KeptTallies.{Counts, office_counts}
use Rattle.sql_adoption.specs.FigureRows.{is_row_of, are_rows_of, Place, places_of, AreCounted, CountsOneMore, AreTalliesShown}
use Rattle.sql_adoption.specs.Reading.{HoldAll}
use Rattle.sql_adoption.specs.declared.language_tallies.Counted.{Counted}
use Rattle.sql_adoption.proofs.FigureTests.{row_told}

same_tally : (a b : Tally) → Some a ≡ Some b → a ≡ b
same_tally a b e = ap (λ (o : Option Tally). unwrap_or o a) e

one_is : {X : Type 0} (x y : X) → Has (x ∷ []) y → y ≡ x
one_is x y (inl same) = same
one_is x y (inr never) = absurd never

-- ---- languages that are counted one after the other

module _ (counts : Counts) where
  pub none_counted : (counted : List Counted) → counted ≡ [] → AreCounted counts [] counted
  none_counted counted none = subst (AreCounted counts []) (sym none) (record { only = λ c there. absurd there; all = λ place tally there is. absurd there })

  pushed : (places : List Place) (place : Place) (old new : List Counted) (o : Option Tally) → counts place.0 place.1 ≡ o → AreCounted counts places old → CountsOneMore o place old new
      → AreCounted counts (places ++ place ∷ []) new
  pushed places place old new None nothing are same = subst (AreCounted counts (places ++ place ∷ [])) (sym same) (record {
    only = are.only;
    all = λ p tally there is. elim (has_either places (place ∷ []) p there) [
      | inl before ↦ are.all p tally before is
      | inr here ↦ absurd (let no : None ≡ Some tally = sym nothing ∙ ap (λ (q : Place). counts q.0 q.1) (sym (one_is place p here)) ∙ is in cc)
    ];
  })
  pushed places place old new (Some tally) counts_it are (c, domain, lang, holds, more) = subst (AreCounted counts (places ++ place ∷ [])) (sym more) (record {
    only = λ d there. elim (has_either old (c ∷ []) d there) [
      | inl before ↦ are.only d before
      | inr here ↦ subst (λ (x : Counted). counts x.domain.now x.lang.now ≡ Some x.tally) (sym (one_is c d here)) ((λ i. counts (domain i) (lang i)) ∙ counts_it ∙ ap Some (sym holds))
    ];
    all = λ p t there is. elim (has_either places (place ∷ []) p there) [
      | inl before ↦ let it = are.all p t before is in (it.0, has_left old (c ∷ []) it.0 it.1, it.2, it.3)
      | inr here ↦
          let same = sym (one_is place p here) in
          (c, has_right old (c ∷ []) c (inl refl), domain ∙ ap (λ (q : Place). q.0) same, lang ∙ ap (λ (q : Place). q.1) same)
    ];
  })

  -- ---- the languages of one domain

  module _ (before : List Place) (domain : Text) where
    abbrev its : List Text → List Place
    its langs = map (λ lang. (domain, lang)) langs

    pub no_lang : (langs : List Text) (counted : List Counted) → AreCounted counts before counted → AreCounted counts (before ++ its (take 0 langs)) counted
    no_lang langs counted are = subst (λ places. AreCounted counts places counted) (sym (append-nil before)) are

    pub one_counted : (langs : List Text) (i : ℕ) (lang : Text) (old new : List Counted) → i < length langs → lang ≡ get_or langs i lang → AreCounted counts (before ++ its (take i langs)) old
        → CountsOneMore (counts domain lang) (domain, lang) old new → AreCounted counts (before ++ its (take (i + 1) langs)) new
    one_counted langs i lang old new within is are more =
        subst (λ places. AreCounted counts places new) (sym listed) (pushed (before ++ its (take i langs)) (domain, lang) old new (counts domain lang) refl are more)
      where
        listed : before ++ its (take (i + 1) langs) ≡ (before ++ its (take i langs)) ++ (domain, lang) ∷ []
        listed =
            ap (λ l. before ++ its l) (take_more langs i lang within ∙ ap (λ (l : Text). take i langs ++ l ∷ []) (sym is))
            ∙ ap (λ l. before ++ l) (map-append (λ lang. (domain, lang)) (take i langs) (lang ∷ []))
            ∙ sym (append_assoc before (its (take i langs)) ((domain, lang) ∷ []))

    pub all_counted : (langs : List Text) (i : ℕ) (counted : List Counted) → length langs ≤ i → AreCounted counts (before ++ its (take i langs)) counted → AreCounted counts (before ++ its langs) counted
    all_counted langs i counted past are = subst (λ l. AreCounted counts (before ++ its l) counted) (take_all i langs past) are

  -- ---- those of all domains

  module _ (domains langs : List Text) (i : ℕ) where
    pub one_domain_counted : (domain : Text) (new : List Counted) → i < length domains → domain ≡ get_or domains i domain
        → AreCounted counts (places_of (take i domains) langs ++ its (places_of (take i domains) langs) domain langs) new → AreCounted counts (places_of (take (i + 1) domains) langs) new
    one_domain_counted domain new within is are = subst (λ places. AreCounted counts places new) (sym listed) are
      where
        listed : places_of (take (i + 1) domains) langs ≡ places_of (take i domains) langs ++ map (λ lang. (domain, lang)) langs
        listed =
            ap (λ l. places_of l langs) (take_more domains i domain within ∙ ap (λ (d : Text). take i domains ++ d ∷ []) (sym is))
            ∙ flat_map-append (λ d. map (λ lang. (d, lang)) langs) (take i domains) (domain ∷ [])
            ∙ ap (λ l. places_of (take i domains) langs ++ l) (append-nil (map (λ lang. (domain, lang)) langs))

    pub all_domains_counted : (counted : List Counted) → length domains ≤ i → AreCounted counts (places_of (take i domains) langs) counted → AreCounted counts (places_of domains langs) counted
    all_domains_counted counted past are = subst (λ l. AreCounted counts (places_of l langs) counted) (take_all i domains past) are

-- a language of these of a domain of these is among them
abbrev of_domain : List Text → Text → List Place
of_domain langs domain = map (λ lang. (domain, lang)) langs

among : (domains langs : List Text) (domain lang : Text) → Has domains domain → Has langs lang → Has (places_of domains langs) (domain, lang)
among [] langs domain lang there listed = absurd there
among (d ∷ domains) langs domain lang (inl same) listed =
    let own : Text → Place = λ l. (domain, l) in
    let here : Has (of_domain langs domain) (own lang) = to_mapped own langs lang listed in
    let there : Has (of_domain langs d) (own lang) = subst (λ (x : Text). Has (of_domain langs x) (own lang)) same here in
    has_left (of_domain langs d) (places_of domains langs) (own lang) there
among (d ∷ domains) langs domain lang (inr later) listed = has_right (of_domain langs d) (places_of domains langs) (domain, lang) (among domains langs domain lang later listed)

-- ---- what the rows tell

module _ (office : Office) (domains langs : List Text) (held : HoldAll office domains langs) where
  abbrev counts : Counts
  counts = office_counts office

  some_header : (o : Option Entry) (f : Entry → Tally) (tally : Tally) → option_map f o ≡ Some tally → is_some o ≡ true
  some_header (Some h) f tally e = refl
  some_header None f tally e = absurd cc

  -- what counts is of a domain of these
  domain_listed : (domain lang : Text) (tally : Tally) → counts domain lang ≡ Some tally → Has domains domain
  domain_listed domain lang tally is = by (maps.contains_key office.domains domain) refl
    where
      by : (b : Bool) → maps.contains_key office.domains domain ≡ b → Has domains domain
      by true there = has_contained domains domain (held.domains domain there)
      by false missing = absurd (let no : None ≡ Some tally = sym (nothing_counted office domain missing lang) ∙ is in cc)

  -- and of a language of these
  lang_listed : (domain lang : Text) (tally : Tally) → counts domain lang ≡ Some tally → Has langs lang
  lang_listed domain lang tally is = has_contained langs lang (held.langs domain lang (some_header (maps.get (project_in office domain).headers lang) _ tally is))

  listed : (domain lang : Text) (tally : Tally) → counts domain lang ≡ Some tally → Has (places_of domains langs) (domain, lang)
  listed domain lang tally is = among domains langs domain lang (domain_listed domain lang tally is) (lang_listed domain lang tally is)

  module _ (counted : List Counted) (are : AreCounted counts (places_of domains langs) counted) (rows : List Row) where
    rows_tell : list_all (λ row. list_any (λ c. is_row_of c row) counted) rows ≡ true → list_all (λ c. list_any (is_row_of c) rows) counted ≡ true → AreTalliesShown counts rows
    rows_tell each every = record {
      counted = λ row there.
          let c = some_has (λ c. is_row_of c row) counted (test_has (λ row. list_any (λ c. is_row_of c row) counted) rows row each there) in
          let cells = (row_told c.0 row).0 c.2 in
          let domain : text_at 0 row ≡ c.0.domain.now = ap (text_at 0) cells in
          let lang : text_at 1 row ≡ c.0.lang.now = ap (text_at 1) cells in
          (c.0.tally, cells ∙ (λ i. tally_cells (sym domain i) (sym lang i) c.0.tally), (λ i. counts (domain i) (lang i)) ∙ are.only c.0 c.1);
      all = λ domain lang some. row_of domain lang (counts domain lang) refl some;
    }
      where
        row_of : (domain lang : Text) (o : Option Tally) → counts domain lang ≡ o → IsSome o → (row : Row) × Has rows row × (text_at 0 row ≡ domain) × (text_at 1 row ≡ lang)
        row_of domain lang None is some = absurd cc
        row_of domain lang (Some tally) is some =
            let c = are.all (domain, lang) tally (listed domain lang tally is) is in
            let row = some_has (is_row_of c.0) rows (test_has (λ c. list_any (is_row_of c) rows) counted c.0 every c.1) in
            let cells = (row_told c.0 row.0).0 row.2 in
            (row.0, row.1, ap (text_at 0) cells ∙ c.2, ap (text_at 1) cells ∙ c.3)

    each_told : AreTalliesShown counts rows → list_all (λ row. list_any (λ c. is_row_of c row) counted) rows ≡ true
    each_told shown = test_from (λ row. list_any (λ c. is_row_of c row) counted) rows (λ row there.
        let it = shown.counted row there in
        let c = are.all (text_at 0 row, text_at 1 row) it.0 (listed (text_at 0 row) (text_at 1 row) it.0 it.2) it.2 in
        let same : c.0.tally ≡ it.0 = same_tally c.0.tally it.0 (sym (are.only c.0 c.1) ∙ (λ i. counts (c.2 i) (c.3 i)) ∙ it.2) in
        some_from (λ c. is_row_of c row) counted c.0 c.1 ((row_told c.0 row).1 (it.1 ∙ (λ i. tally_cells (sym c.2 i) (sym c.3 i) (sym same i)))))

    every_told : AreTalliesShown counts rows → list_all (λ c. list_any (is_row_of c) rows) counted ≡ true
    every_told shown = test_from (λ c. list_any (is_row_of c) rows) counted (λ c there.
        let row = shown.all c.domain.now c.lang.now (subst (λ (o : Option Tally). IsSome o) (sym (are.only c there)) refl) in
        let it = shown.counted row.0 row.1 in
        let same : it.0 ≡ c.tally = same_tally it.0 c.tally (sym it.2 ∙ (λ i. counts (row.2 i) (row.3 i)) ∙ are.only c there) in
        some_from (is_row_of c) rows row.0 row.1 ((row_told c row.0).1 (it.1 ∙ (λ i. tally_cells (row.2 i) (row.3 i) (same i)))))

    pub tallies_told : (told : Bool) → told ≡ are_rows_of counted rows → Decides told (AreTalliesShown counts rows)
    tallies_told told is = (
      λ e. let both = and_parts _ _ (sym is ∙ e) in rows_tell both.0 both.1,
      λ shown. is ∙ and_from _ _ (each_told shown) (every_told shown),
    )
