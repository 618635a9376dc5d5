-- Members put into an object one after another. Only private clauses and proofs cite this file.
use Rattle.std.specs.Prelude.{List, [], ◌∷◌, Option, Some, None}
use Rattle.serde_json.specs.Data.{Data, Members, put}
use Rattle.po_text.specs.Texts.{Text}
use Rattle.request_book.specs.Words.{Field}

abbrev pub put_optional : Text → Option Data → Members → Members
put_optional k None ms = ms
put_optional k (Some d) ms = put k d ms

abbrev pub put_fields : List Field → Members → Members
put_fields [] ms = ms
put_fields (f ∷ fs) ms = put_fields fs (put_optional f.0 f.1 ms)
