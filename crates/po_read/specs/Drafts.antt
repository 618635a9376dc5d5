-- The strings of an entry whose message lines may go on, as the reader keeps them: this project's own words.
use Rattle.std.specs.Prelude.{◌≤◌, List, [], ◌∷◌, ◌++◌, Bool, ⊤, length, Option, Some, None}
use Rattle.std.specs.List.{AllByRecursion}
use Rattle.po_lex.specs.declared.line.Keyword.{Keyword}
use Rattle.po_lex.specs.declared.line.Keyword.TheVariants.{Msgctxt, Msgid, MsgidPlural, Msgstr, MsgstrAt}
use Rattle.po_lex.specs.Lines.{Part, begins, continues, Line, blank, translator, extracted, reference, flags, previous, message}
use Rattle.po_text.specs.Entries.{Key, Keyed, optional, numbered, is_header_key}
pub use Rattle.po_text.specs.Texts.{last_text, last_more}
use Rattle.po_text.specs.Texts.{Text}
use Rattle.po_text.specs.Valid.{IsString, IsCommentLine, IsFlag}
use Rattle.po_read.specs.declared.message.Message.{Message}
use Rattle.po_read.specs.declared.message.Message.TheVariants as said
use Rattle.po_text.specs.declared.entry.Previous.{Previous}

pub data Draft : Type 0 where
  nothing : Draft
  context : Text → Draft
  named : Option Text → Text → Draft
  counted : Option Text → Text → Text → List Text → Draft
  single : Option Text → Text → Text → Draft

abbrev pub draft_strings : Draft → List Keyed
draft_strings nothing = []
draft_strings (context ctx) = (Msgctxt, ctx) ∷ []
draft_strings (named ctx id) = optional Msgctxt ctx ++ (Msgid, id) ∷ []
draft_strings (counted ctx id plural forms) = optional Msgctxt ctx ++ ((Msgid, id) ∷ (MsgidPlural, plural) ∷ numbered 0 forms)
draft_strings (single ctx id form) = optional Msgctxt ctx ++ ((Msgid, id) ∷ (Msgstr, form) ∷ [])

abbrev pub counted_last : List Text → Keyword
counted_last [] = MsgidPlural
counted_last (form ∷ forms) = MsgstrAt (length forms)

-- the keyword of the last string
abbrev pub draft_last : Draft → Option Keyword
draft_last nothing = None
draft_last (context ctx) = Some Msgctxt
draft_last (named ctx id) = Some Msgid
draft_last (counted ctx id plural forms) = Some (counted_last forms)
draft_last (single ctx id form) = Some Msgstr

abbrev pub draft_key : Draft → Key
draft_key (named ctx id) = (ctx, id)
draft_key (counted ctx id plural forms) = (ctx, id)
draft_key (single ctx id form) = (ctx, id)
draft_key _ = (None, [])

abbrev pub draft_header : Draft → Bool
draft_header d = is_header_key (draft_key d).0 (draft_key d).1

-- the last string
abbrev pub draft_end : Draft → Text
draft_end nothing = []
draft_end (context ctx) = ctx
draft_end (named ctx id) = id
draft_end (counted ctx id plural forms) = last_text plural forms
draft_end (single ctx id form) = form

abbrev pub with_more : Draft → Text → Draft
with_more nothing more = nothing
with_more (context ctx) more = context (ctx ++ more)
with_more (named ctx id) more = named ctx (id ++ more)
with_more (counted ctx id plural []) more = counted ctx id (plural ++ more) []
with_more (counted ctx id plural (form ∷ forms)) more = counted ctx id plural (last_more (form ∷ forms) more)
with_more (single ctx id form) more = single ctx id (form ++ more)

abbrev pub with_keyword : Draft → Keyword → Text → Draft
with_keyword nothing Msgid text = named None text
with_keyword (context ctx) Msgid text = named (Some ctx) text
with_keyword (named ctx id) MsgidPlural text = counted ctx id text []
with_keyword (named ctx id) Msgstr text = single ctx id text
with_keyword (counted ctx id plural forms) (MsgstrAt d) text = counted ctx id plural (forms ++ text ∷ [])
with_keyword _ _ text = context text

abbrev pub draft_with : Draft → Part → Draft
draft_with d (begins keyword text) = with_keyword d keyword text
draft_with d (continues text) = with_more d text

-- what a message stands for
abbrev pub draft_of : Message → Draft
draft_of said.Nothing = nothing
draft_of (said.Context ctx) = context ctx
draft_of (said.Named ctx id) = named ctx id
draft_of (said.Plural ctx id plural) = counted ctx id plural []
draft_of (said.Counted ctx id plural forms) = counted ctx id plural forms
draft_of (said.Single ctx id form) = single ctx id form

-- ---- parts

-- what a part's piece stands for
abbrev pub part_more : Part → Text
part_more (begins keyword text) = text
part_more (continues text) = text

-- the string behind a part, where the last string was this
abbrev pub part_text : Text → Part → Text
part_text end (begins keyword text) = text
part_text end (continues text) = end ++ text

-- ---- what the lines of Unicode text keep

abbrev pub IsDigitKey : Keyword → Type 0
IsDigitKey (MsgstrAt d) = d ≤ 7
IsDigitKey _ = ⊤

abbrev pub IsDigitPart : Part → Type 0
IsDigitPart (begins keyword text) = IsDigitKey keyword
IsDigitPart (continues text) = ⊤

abbrev pub IsSoundPart : Part → Type 0
IsSoundPart (begins keyword text) = IsDigitKey keyword × IsString text
IsSoundPart (continues text) = IsString text

-- no form
abbrev pub IsPreviousPart : Part → Type 0
IsPreviousPart (begins Msgstr text) = ⊥
IsPreviousPart (begins (MsgstrAt d) text) = ⊥
IsPreviousPart _ = ⊤

abbrev pub IsSoundLine : Line → Type 0
IsSoundLine blank = ⊤
IsSoundLine (translator text) = IsCommentLine text
IsSoundLine (extracted text) = IsCommentLine text
IsSoundLine (reference text) = IsCommentLine text
IsSoundLine (flags items) = AllByRecursion IsFlag items
IsSoundLine (previous obsolete part) = IsPreviousPart part × IsSoundPart part
IsSoundLine (message obsolete part) = IsSoundPart part

-- ---- an entry that is whole

abbrev pub single_of : Option Text → Text → List Text → Draft
single_of ctx id (form ∷ []) = single ctx id form
single_of ctx id _ = nothing

-- the strings of an entry
abbrev pub whole_of : Option Text → Text → Option Text → List Text → Draft
whole_of ctx id (Some plural) forms = counted ctx id plural forms
whole_of ctx id None forms = single_of ctx id forms

-- ---- previous strings

abbrev pub last_of_three : Option Text → Option Text → Option Text → Text
last_of_three ctx id (Some plural) = plural
last_of_three ctx (Some id) None = id
last_of_three (Some ctx) None None = ctx
last_of_three None None None = []

-- the last string
abbrev pub previous_end : Previous → Text
previous_end p = last_of_three p.ctx p.id p.plural

abbrev pub three_more : Option Text → Option Text → Option Text → Text → Previous
three_more ctx id (Some plural) more = record { ctx = ctx; id = id; plural = Some (plural ++ more) }
three_more ctx (Some id) None more = record { ctx = ctx; id = Some (id ++ more); plural = None }
three_more (Some ctx) None None more = record { ctx = Some (ctx ++ more); id = None; plural = None }
three_more None None None more = record { ctx = None; id = None; plural = None }

abbrev pub previous_more : Previous → Text → Previous
previous_more p more = three_more p.ctx p.id p.plural more

abbrev pub previous_keyword : Previous → Keyword → Text → Previous
previous_keyword p Msgctxt text = record { ctx = Some text; id = p.id; plural = p.plural }
previous_keyword p Msgid text = record { ctx = p.ctx; id = Some text; plural = p.plural }
previous_keyword p _ text = record { ctx = p.ctx; id = p.id; plural = Some text }

abbrev pub previous_with : Previous → Part → Previous
previous_with p (begins keyword text) = previous_keyword p keyword text
previous_with p (continues more) = previous_more p more
