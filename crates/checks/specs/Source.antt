-- What a translation is checked against, of the parts of an entry in the GNU gettext manual, "The Format of PO Files". A `Source` of
-- the program borrows these, and contracts see what it borrows.
use Rattle.std.specs.Prelude.{List, Option}
use Rattle.po_text.specs.Texts.{Text}

-- a msgid, its msgid_plural if it has one, and the flags of its template entry
pub record Source : Type 0 where
  pub id : Text
  pub plural : Option Text
  pub flags : List Text
