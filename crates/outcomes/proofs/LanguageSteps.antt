-- What a language comes to, by the questions that decide it, in a project that is another but for its units.
use Rattle.std.proofs.Common.{◌≡◌, true, false, cond, List, Option, Some, None, Ok, Err, sym, ap, ◌∙◌}
use Rattle.std.specs.Prelude.{nat_le, find}
use Rattle.std.specs.Option.{option_map_or}
use Rattle.std.specs.FinMap as maps
use Rattle.plural_expr.specs.Values.{Rule}
use Rattle.plural_expr.specs.declared.fault.PluralFault.{PluralFault}
use Rattle.po_read.specs.Faults.{Fault}
use Rattle.po_read.specs.Plain.{reading_of}
use Rattle.po_read.specs.Spells.{limits}
use Rattle.po_text.specs.Entries.{is_header}
use Rattle.po_text.specs.Texts.{Text, text_cmp}
use Rattle.po_text.specs.declared.entry.Entry.{Entry}
use Rattle.units.specs.Limits.{language_limit}
use Rattle.units.specs.Project.{Project}
use Rattle.units.specs.Rules.{by_result, rule_in}
use Rattle.units.specs.declared.unit.Refusal.TheVariants.{LanguageExists, PoText, PastLimit}
use Rattle.template_update.specs.Loads.{load_of}
use Rattle.template_update.specs.declared.plans.Plan.{Plan}
use Rattle.replies.specs.Bodies.{Stepped, refuse, refused_with, po_fault_fields}
use Rattle.office_specification.specs.Parts.{ShareLanguages}
use Rattle.office_specification.specs.ProjectActs.{loaded, with_rule, no_rule, of_entries, of_text, language_step}

module _ (lent whole : Project) (alike : ShareLanguages lent whole) (lang : Text) where
  abbrev Headers : Type 0
  Headers = maps.FinMap text_cmp Entry

  -- ---- the text's units

  module _ (entries : List Entry) (header : Entry) (rule : Rule) where
    -- what is made of a language that there is room for
    abbrev by_plan : Option Plan → Stepped Project
    by_plan plan = option_map_or (loaded whole lang header) plan (refuse whole PastLimit)

    pub languages_full : nat_le language_limit (maps.len lent.headers) ≡ true → refuse whole PastLimit ≡ with_rule whole lang entries header rule
    languages_full full =
        ap (λ b. cond b (refuse whole PastLimit) (by_plan (load_of whole.template entries rule whole.policy)))
        (sym (ap (λ (headers : Headers). nat_le language_limit (maps.len headers)) (sym alike.headers) ∙ full))

    by_load : nat_le language_limit (maps.len lent.headers) ≡ false → (plan : Option Plan) → load_of lent.template entries rule lent.policy ≡ plan → by_plan plan ≡ with_rule whole lang entries header rule
    by_load few plan is =
        ap by_plan (sym ((λ i. load_of (sym alike.template i) entries rule (sym alike.policy i)) ∙ is))
        ∙ ap (λ b. cond b (refuse whole PastLimit) (by_plan (load_of whole.template entries rule whole.policy)))
        (sym (ap (λ (headers : Headers). nat_le language_limit (maps.len headers)) (sym alike.headers) ∙ few))

    pub units_past : nat_le language_limit (maps.len lent.headers) ≡ false → load_of lent.template entries rule lent.policy ≡ None → refuse whole PastLimit ≡ with_rule whole lang entries header rule
    units_past few is = by_load few None is

    pub language_loaded : nat_le language_limit (maps.len lent.headers) ≡ false → (plan : Plan) → load_of lent.template entries rule lent.policy ≡ Some plan
        → loaded whole lang header plan ≡ with_rule whole lang entries header rule
    language_loaded few plan is = by_load few (Some plan) is

  -- ---- its header

  module _ (entries : List Entry) where
    abbrev by_rule : Option Entry → Rule → Stepped Project
    by_rule header rule = option_map_or (λ h. with_rule whole lang entries h rule) header (no_rule whole None)

    pub rule_missing : (fault : Option PluralFault) → rule_in (find is_header entries) ≡ Err fault → no_rule whole fault ≡ of_entries whole lang entries
    rule_missing fault is = ap (by_result (no_rule whole) (by_rule (find is_header entries))) (sym is)

    pub header_missing : (rule : Rule) → rule_in (find is_header entries) ≡ Ok rule → find is_header entries ≡ None → no_rule whole None ≡ of_entries whole lang entries
    header_missing rule is none = ap (λ header. by_rule header rule) (sym none) ∙ ap (by_result (no_rule whole) (by_rule (find is_header entries))) (sym is)

    pub header_there : (rule : Rule) (header : Entry) → rule_in (find is_header entries) ≡ Ok rule → find is_header entries ≡ Some header → with_rule whole lang entries header rule ≡ of_entries whole lang entries
    header_there rule header is some = ap (λ found. by_rule found rule) (sym some) ∙ ap (by_result (no_rule whole) (by_rule (find is_header entries))) (sym is)

  -- ---- the language and its text

  module _ (po : Text) where
    abbrev by_text : Stepped Project
    by_text = of_text whole po (of_entries whole lang)

    pub language_there : maps.contains_key lent.headers lang ≡ true → refuse whole LanguageExists ≡ language_step whole lang po
    language_there there =
        ap (λ b. cond b (refuse whole LanguageExists) by_text) (sym (ap (λ (headers : Headers). maps.contains_key headers lang) (sym alike.headers) ∙ there))

    by_reading : maps.contains_key lent.headers lang ≡ false → by_text ≡ language_step whole lang po
    by_reading new = ap (λ b. cond b (refuse whole LanguageExists) by_text) (sym (ap (λ (headers : Headers). maps.contains_key headers lang) (sym alike.headers) ∙ new))

    pub text_unread : maps.contains_key lent.headers lang ≡ false → (fault : Fault) → reading_of limits po ≡ Err fault
        → ◌≡◌ {A = Stepped Project} (whole, refused_with PoText (po_fault_fields fault)) (language_step whole lang po)
    text_unread new fault is = ap (by_result (λ fault. (whole, refused_with PoText (po_fault_fields fault))) (of_entries whole lang)) (sym is) ∙ by_reading new

    pub text_taken : maps.contains_key lent.headers lang ≡ false → (entries : List Entry) → reading_of limits po ≡ Ok entries → of_entries whole lang entries ≡ language_step whole lang po
    text_taken new entries is = ap (by_result (λ fault. (whole, refused_with PoText (po_fault_fields fault))) (of_entries whole lang)) (sym is) ∙ by_reading new
