-- The formats whose placeholders are checked. The flags are those of the GNU gettext manual, "The Format of PO Files".
use Rattle.std.specs.Prelude.{ℕ, ◌-◌, List, length, Bool, Option, option_map, codes}
use Rattle.po_text.specs.Texts.{Text}
use Rattle.checks.specs.declared.format.Format.{Format}
use Rattle.checks.specs.declared.format.Format.TheVariants.{C, Brace}
use Rattle.checks.specs.Directives.{begins_with, after_directive, directives}
use Rattle.checks.specs.BracePlaceholders.{begins_doubled, after_brace, brace_placeholders}

-- the flag of an entry whose texts have the format
abbrev pub flag_of : Format → Text
flag_of C = codes "c-format"
flag_of Brace = codes "python-brace-format"

-- a pair is skipped whole
abbrev pub begins_with_pair : Format → Text → Bool
begins_with_pair C text = begins_with text (codes "%%")
begins_with_pair Brace text = begins_doubled text

-- what stands after a placeholder at the front
abbrev pub after_placeholder : Format → Text → Option Text
after_placeholder C text = after_directive text
after_placeholder Brace text = after_brace text

abbrev pub placeholder_len : Format → Text → Option ℕ
placeholder_len format text = option_map (λ rest. length text - length rest) (after_placeholder format text)

-- the placeholders of a text, left to right: directives under `c-format`
abbrev pub placeholders_of : Format → Text → List Text
placeholders_of C text = directives text
placeholders_of Brace text = brace_placeholders text
