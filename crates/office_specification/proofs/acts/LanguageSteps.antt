-- A language reads and changes of its domain the template and the headers, whatever its units are.
use Rattle.std.proofs.Common.{◌≡◌, Bool, true, false, cond, List, Option, Some, None, Result, Ok, Err, refl, ap, subst}
use Rattle.std.specs.Prelude.{nat_le, find}
use Rattle.std.specs.Option.{option_map_or}
use Rattle.std.specs.FinMap as maps
use Rattle.plural_expr.specs.Values.{Rule}
use Rattle.plural_expr.specs.declared.fault.PluralFault.{PluralFault}
use Rattle.po_read.specs.Faults.{Fault}
use Rattle.po_read.specs.Plain.{reading_of}
use Rattle.po_read.specs.Spells.{limits}
use Rattle.po_text.specs.Entries.{is_header}
use Rattle.po_text.specs.Texts.{Text, text_cmp}
use Rattle.po_text.specs.declared.entry.Entry.{Entry}
use Rattle.units.specs.Limits.{language_limit}
use Rattle.units.specs.Project.{Project}
use Rattle.units.specs.Rules.{by_result, rule_in}
use Rattle.units.specs.declared.unit.Refusal.{Refusal}
use Rattle.units.specs.declared.unit.Refusal.TheVariants.{LanguageExists, PoText, PastLimit}
use Rattle.template_update.specs.Loads.{load_of}
use Rattle.template_update.specs.declared.plans.Plan.{Plan}
use Rattle.replies.specs.Bodies.{Stepped, refuse, refused_with, po_fault_fields}
use Rattle.office_specification.specs.Parts.{ShareLanguages}
use Rattle.office_specification.specs.ProjectActs.{loaded, with_rule, no_rule, of_entries, of_text, language_step}

-- two steps have one reply, and leave projects that are one but for their units
pub record IsLanguageAlike (s t : Stepped Project) : Type 0 where
  pub reply : s.1 ≡ t.1
  pub left : ShareLanguages s.0 t.0

module _ (x y : Project) (alike : ShareLanguages x y) where
  -- of two that answer one question alike, both refuse or both go on
  either : (b c : Bool) → b ≡ c → (refusal : Refusal) (s t : Stepped Project) → IsLanguageAlike s t → IsLanguageAlike (cond b (refuse x refusal) s) (cond c (refuse y refusal) t)
  either true true e refusal s t steps = record { reply = refl; left = alike }
  either true false e refusal s t steps = cc
  either false true e refusal s t steps = cc
  either false false e refusal s t steps = steps

  module _ (lang : Text) where
    by_plan : (header : Entry) (plan : Option Plan) → IsLanguageAlike (option_map_or (loaded x lang header) plan (refuse x PastLimit)) (option_map_or (loaded y lang header) plan (refuse y PastLimit))
    by_plan header None = record { reply = refl; left = alike }
    by_plan header (Some plan) = record {
      reply = refl;
      left = record { template = alike.template; headers = ap (λ (headers : maps.FinMap text_cmp Entry). maps.insert headers lang header) alike.headers; team = alike.team; policy = alike.policy };
    }

    rule_alike : (entries : List Entry) (header : Entry) (rule : Rule) → IsLanguageAlike (with_rule x lang entries header rule) (with_rule y lang entries header rule)
    rule_alike entries header rule =
        either (nat_le language_limit (maps.len x.headers)) (nat_le language_limit (maps.len y.headers))
        (ap (λ (headers : maps.FinMap text_cmp Entry). nat_le language_limit (maps.len headers)) alike.headers) PastLimit
        (option_map_or (loaded x lang header) (load_of x.template entries rule x.policy) (refuse x PastLimit)) (option_map_or (loaded y lang header) (load_of y.template entries rule y.policy) (refuse y PastLimit))
        (subst (λ (plan : Option Plan). IsLanguageAlike (option_map_or (loaded x lang header) (load_of x.template entries rule x.policy) (refuse x PastLimit)) (option_map_or (loaded y lang header) plan (refuse y PastLimit)))
        (λ i. load_of (alike.template i) entries rule (alike.policy i)) (by_plan header (load_of x.template entries rule x.policy)))

    entries_alike : (entries : List Entry) → IsLanguageAlike (of_entries x lang entries) (of_entries y lang entries)
    entries_alike entries = by (rule_in (find is_header entries)) (find is_header entries)
      where
        by : (read : Result Rule (Option PluralFault)) (header : Option Entry) →
            IsLanguageAlike (by_result (no_rule x) (λ rule. option_map_or (λ h. with_rule x lang entries h rule) header (no_rule x None)) read)
            (by_result (no_rule y) (λ rule. option_map_or (λ h. with_rule y lang entries h rule) header (no_rule y None)) read)
        by (Err fault) header = record { reply = refl; left = alike }
        by (Ok rule) None = record { reply = refl; left = alike }
        by (Ok rule) (Some header) = rule_alike entries header rule

    pub text_alike : (po : Text) → IsLanguageAlike (of_text x po (of_entries x lang)) (of_text y po (of_entries y lang))
    text_alike po = by (reading_of limits po)
      where
        by : (read : Result (List Entry) Fault) →
            IsLanguageAlike (by_result (λ fault. (x, refused_with PoText (po_fault_fields fault))) (of_entries x lang) read) (by_result (λ fault. (y, refused_with PoText (po_fault_fields fault))) (of_entries y lang) read)
        by (Err fault) = record { reply = refl; left = alike }
        by (Ok entries) = entries_alike entries

    pub language_alike : (po : Text) → IsLanguageAlike (language_step x lang po) (language_step y lang po)
    language_alike po =
        either (maps.contains_key x.headers lang) (maps.contains_key y.headers lang) (ap (λ (headers : maps.FinMap text_cmp Entry). maps.contains_key headers lang) alike.headers) LanguageExists
        (of_text x po (of_entries x lang)) (of_text y po (of_entries y lang)) (text_alike po)
