-- An office into which a domain is put: all domains and their languages are still at hand.
use Rattle.std.proofs.Common.{◌≡◌, List, [], ◌∷◌, ◌++◌, Bool, true, false, cond, Option, Some, Result, Ok, Err, OnOk, is_some, unwrap_or, refl, sym, ap, subst, ◌∙◌}
use Rattle.std.specs.Prelude.{Contains}
use Rattle.std.specs.Ordering.{eq_by_cmp}
use Rattle.std.specs.FinMap as maps
use Rattle.std.proofs.lemmas.Bool.{false≢true}
use Rattle.std.proofs.lemmas.List.Elements.{Contains-push, Contains-append_left}
use Rattle.po_text.specs.declared.entry.Entry.{Entry}
use Rattle.po_text.specs.Texts.{Text, text_cmp}
use Rattle.units.specs.Orders.{text_total}
use Rattle.units.specs.Office.{Office, Domain, domain_of, empty_domain, main}
use Rattle.office_specification.proofs.domains.InDomains.{equal_domains}
use Rattle.office_maps.specs.OfficeIn.{office_in}
use Rattle.office_maps.specs.declared.office_maps.OfficeMaps.{OfficeMaps}
use Rattle.sql_laws.proofs.Transactions.{on_ok_mapped}
use Rattle.sql_decoding.specs.RowTests.{AreOfficeRows}
use Rattle.sql_meaning.specs.OfficeShown.{headers_shown, project_shown, with_shown}
use Rattle.sql_statements.specs.declared.whole_office.WholeOffice.{WholeOffice}
use Rattle.sql_adoption.specs.Reading.{NotesLangs, HoldAll, PutsRows, IsOfRows, bare_office}
use Rattle.sql_adoption.specs.declared.office_put.ReadOffice.{ReadOffice}

-- the headers of a domain, if it is there
abbrev headers_of : Option Domain → maps.FinMap text_cmp Entry
headers_of found = (unwrap_or found empty_domain).headers

-- an office with no domain
bare_holds : HoldAll bare_office [] []
bare_holds = record {
  domains = λ domain there. absurd (false≢true (sym (ap is_some (maps.get-empty {X = Domain} text_cmp domain)) ∙ there));
  langs = λ domain lang there.
      let none : maps.contains_key (headers_of (maps.get {R = text_cmp} maps.empty domain)) lang ≡ false =
      ap (λ found. maps.contains_key (headers_of found) lang) (maps.get-empty {X = Domain} text_cmp domain) ∙ ap is_some (maps.get-empty {X = Entry} text_cmp lang) in
      absurd (false≢true (sym none ∙ there));
}

pub none_held : (office : Office) (langs : List Text) → office ≡ bare_office → langs ≡ [] → HoldAll office [] langs
none_held office langs bare none = subst (λ o. HoldAll o [] langs) (sym bare) (subst (HoldAll bare_office []) (sym none) bare_holds)

module _ (office : Office) (domains langs more : List Text) (domain : Text) (rows : WholeOffice) (noted : NotesLangs (headers_shown rows.office.languages.items) langs more) (held : HoldAll office domains langs) where
  abbrev put : Domain
  put = domain_of (project_shown rows)

  found : (other : Text) → maps.get (with_shown office domain rows).domains other ≡ cond (eq_by_cmp text_cmp other domain) (Some put) (maps.get office.domains other)
  found other = maps.get-insert text_total office.domains domain put other

  domain_held : (other : Text) (t : Bool) → eq_by_cmp text_cmp other domain ≡ t → is_some (cond t (Some put) (maps.get office.domains other)) ≡ true → Contains (domains ++ domain ∷ []) other
  domain_held other true t there = subst (Contains (domains ++ domain ∷ [])) (sym (equal_domains other domain t)) (Contains-push domains domain)
  domain_held other false t there = Contains-append_left domains (domain ∷ []) other (held.domains other there)

  lang_held : (other lang : Text) (t : Bool) → maps.contains_key (headers_of (cond t (Some put) (maps.get office.domains other))) lang ≡ true → Contains more lang
  lang_held other lang true there = noted.all lang there
  lang_held other lang false there = noted.kept lang (held.langs other lang there)

  one_held : HoldAll (with_shown office domain rows) (domains ++ domain ∷ []) more
  one_held = record {
    domains = λ other there. domain_held other (eq_by_cmp text_cmp other domain) refl (sym (ap is_some (found other)) ∙ there);
    langs = λ other lang there. lang_held other lang (eq_by_cmp text_cmp other domain) (sym (ap (λ f. maps.contains_key (headers_of f) lang) (found other)) ∙ there);
  }

-- with a domain that rows show
module _ {U E : Type 0} where
  pub all_held : (old new : Office) (langs more : List Text) (domain : Text) (rows : WholeOffice) (r : Result U E) → NotesLangs (headers_shown rows.office.languages.items) langs more
      → OnOk r (new ≡ with_shown old domain rows) → OnOk r ((domains : List Text) → HoldAll old domains langs → HoldAll new (domains ++ domain ∷ []) more)
  all_held old new langs more domain rows r noted shown =
      on_ok_mapped r (λ is domains held. subst (λ o. HoldAll o (domains ++ domain ∷ []) more) (sym is) (one_held old domains langs more domain rows noted held)) shown

  pub rows_put : (domain : Text) (rows : WholeOffice) (old new : OfficeMaps) (r : Result U E) → OnOk r (office_in new ≡ with_shown (office_in old) domain rows) → OnOk r (AreOfficeRows rows)
      → OnOk r (PutsRows domain rows old new)
  rows_put domain rows old new (Ok u) shown stands = record { office = shown; stand = stands }
  rows_put domain rows old new (Err e) shown stands = tt

-- ---- `main` alone

pub main_put : (rows : WholeOffice) (old : OfficeMaps) (name : Text) (langs : List Text) (read : ReadOffice) → office_in old ≡ bare_office → name ≡ main → langs ≡ [] → read.domains.items ≡ main ∷ []
    → PutsRows name rows old read.maps → ((domains : List Text) → HoldAll (office_in old) domains langs → HoldAll (office_in read.maps) (domains ++ name ∷ []) read.langs.items) → IsOfRows rows read
main_put rows old name langs read bare named none domains put holds = record {
  office = put.office ∙ (λ i. with_shown (bare i) (named i) rows);
  all = subst (λ l. HoldAll (office_in read.maps) l read.langs.items) (ap (λ (n : Text). n ∷ []) named ∙ sym domains) (holds [] (none_held (office_in old) langs bare none));
  stand = put.stand;
}
