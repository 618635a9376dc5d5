-- What the functions answer that test whether entries are a valid catalogue: this project's own words.
use Rattle.std.specs.Prelude.{◌≤◌, ◌<◌, List, [], ◌∷◌, Bool, true, not, ◌&&◌, ◌||◌, ◌==◌, nat_lt, length, is_none, is_some}
use Rattle.std.specs.List.{list_all, AllByRecursion}
use Rattle.std.specs.Option.{IfSome}
use Rattle.std.specs.Str.{byte, bytes_eq}
use Rattle.po_lex.specs.Reading.{trim}
use Rattle.po_lex.specs.Lines.{is_comment_text}
use Rattle.po_text.specs.Texts.{Text}
use Rattle.po_text.specs.Header.{has_charset}
use Rattle.po_text.specs.Entries.{is_header_key}
use Rattle.po_text.specs.Strings.{form_limit}
use Rattle.po_text.specs.Valid.{IsString, IsCommentLine, fuzzy}
use Rattle.po_text.specs.declared.entry.Entry.{Entry}

-- some bytes of a comment line, no comma and no white at the ends
abbrev pub is_flag : Text → Bool
is_flag text = nat_lt 0 (length text) && (is_comment_text text && (list_all (λ b. not (b == byte ",")) text && bytes_eq (trim text) text))

abbrev pub none_is_fuzzy : List Text → Bool
none_is_fuzzy flags = list_all (λ other. not (bytes_eq other fuzzy)) flags

-- behind the first flag
abbrev pub lacks_fuzzy : List Text → Bool
lacks_fuzzy [] = true
lacks_fuzzy (flag ∷ flags) = none_is_fuzzy flags

-- one form where there is no msgid_plural
abbrev pub is_single : Entry → Bool
is_single e = is_some e.plural || (length e.forms == 1)

pub record AreCommentLines (e : Entry) : Type 0 where
  pub translator : AllByRecursion IsCommentLine e.translator
  pub extracted : AllByRecursion IsCommentLine e.extracted
  pub references : AllByRecursion IsCommentLine e.references

pub record AreStrings (e : Entry) : Type 0 where
  pub ctx : IfSome e.ctx IsString
  pub id : IsString e.id
  pub plural : IfSome e.plural IsString
  pub forms : AllByRecursion IsString e.forms
  pub previous_ctx : IfSome e.previous.ctx IsString
  pub previous_id : IfSome e.previous.id IsString
  pub previous_plural : IfSome e.previous.plural IsString
  pub some : 0 < length e.forms
  pub most : length e.forms ≤ form_limit

-- a header, if it has the header's key
abbrev pub is_header_like : Entry → Bool
is_header_like e = not (is_header_key e.ctx e.id) || (is_none e.plural && (not e.obsolete && list_all has_charset e.forms))

abbrev pub lacks_header_key : List Entry → Bool
lacks_header_key es = list_all (λ e. not (is_header_key e.ctx e.id)) es

abbrev pub has_header_first : List Entry → Bool
has_header_first [] = true
has_header_first (e ∷ es) = is_header_like e && lacks_header_key es
