-- Worked rows on templates and languages.
use Rattle.std.specs.Prelude.{◌≡◌, List, [], ◌∷◌, ◌++◌, true, false, Some, None, codes, refl}
use Rattle.std.specs.FinMap as maps
use Rattle.po_text.specs.declared.entry.Entry.{Entry}
use Rattle.po_text.specs.Texts.{Text}
use Rattle.plural_expr.specs.Values.{Rule}
use Rattle.plural_expr.specs.Trees.{Tree}
use Rattle.units.specs.Openings.{demo_unit, plain_entry, closed_policy}
use Rattle.units.specs.declared.unit.Unit.{Unit}
use Rattle.units.specs.declared.unit.UnitState.TheVariants as stored
use Rattle.units.specs.declared.unit.Suggestion.{Suggestion}
use Rattle.checks.specs.Result.{result_state}
use Rattle.template_update.specs.declared.plans.Counts.TheVariants.{Updated, Loaded}
use Rattle.template_update.specs.Templates.{template_of}
use Rattle.template_update.specs.Updates.{plan_of}
use Rattle.template_update.specs.Loads.{load_of}

abbrev hallo : List Text
hallo = codes "Hallo" ∷ []

abbrev entry : Entry
entry = plain_entry (codes "Hello") []

abbrev translated : Unit
translated = record demo_unit { forms = hallo; state = stored.Translated; revision = 2 }

abbrev marked : Entry
marked = record (plain_entry (codes "Hello") (codes "Hallo")) {
  translator = codes "by hand" ∷ [];
  extracted = codes "a greeting" ∷ [];
  flags = codes "fuzzy" ∷ codes "read-only" ∷ [];
  previous = record { ctx = None; id = Some (codes "Hallo"); plural = None };
}

-- the header and obsolete entries go, and of the others what belongs to a translation
stripped : template_of (plain_entry [] (codes "Language: de\n") ∷ marked ∷ record entry { id = codes "Old"; obsolete = true } ∷ [])
    ≡ record entry { extracted = codes "a greeting" ∷ []; flags = codes "read-only" ∷ [] } ∷ []
stripped = refl

module _ (tree : Tree) where
  abbrev two : Rule
  two = record { count = 2; tree = tree }

  -- an empty template makes the unit obsolete
  gone : plan_of (entry ∷ []) (translated ∷ []) [] two ≡ Some (record { units = record translated { obsolete = true; revision = 3 } ∷ []; stays = false ∷ []; counts = Updated 0 0 0 1 0 })
  unfolding plan_of
  gone = refl

  -- one key stays and one comes
  one_more : plan_of (entry ∷ []) (demo_unit ∷ []) (entry ∷ plain_entry (codes "Bye") [] ∷ []) two
      ≡ Some (record { units = demo_unit ∷ record demo_unit { key = record { ctx = None; id = codes "Bye" } } ∷ []; stays = true ∷ []; counts = Updated 1 0 1 0 0 })
  unfolding plan_of
  one_more = refl

  -- the flag `read-only` comes: the translation stays
  read_only : plan_of (entry ∷ []) (translated ∷ []) (record entry { flags = codes "read-only" ∷ [] } ∷ []) two
      ≡ Some (record { units = record translated { revision = 3 } ∷ []; stays = false ∷ []; counts = Updated 0 1 0 0 0 })
  unfolding plan_of
  read_only = refl

  -- an obsolete unit whose key doesn't come back stays, and isn't counted
  untouched : plan_of [] (record translated { obsolete = true } ∷ []) (plain_entry (codes "Bye") [] ∷ []) two
      ≡ Some (record { units = record translated { obsolete = true } ∷ record demo_unit { key = record { ctx = None; id = codes "Bye" } } ∷ []; stays = true ∷ []; counts = Updated 1 0 0 0 0 })
  unfolding plan_of
  untouched = refl

  -- a unit at the last revision can't change
  past_last : plan_of (entry ∷ []) (record translated { revision = 9000000000000000 } ∷ []) [] two ≡ None
  unfolding plan_of
  past_last = refl

  abbrev files : Text → Entry
  files plural = record (plain_entry (codes "%d file") []) { plural = Some plural }

  abbrev datei : Unit
  datei = record demo_unit {
    key = record { ctx = None; id = codes "%d file" };
    plural = Some (codes "%d files");
    forms = codes "%d Datei" ∷ codes "%d Dateien" ∷ [];
    state = stored.Translated;
    revision = 2;
  }

  abbrev away : Unit
  away = record datei { obsolete = true; revision = 3 }

  -- a unit goes and comes back under another msgid_plural
  goes : plan_of (files (codes "%d files") ∷ []) (datei ∷ []) [] two ≡ Some (record { units = away ∷ []; stays = false ∷ []; counts = Updated 0 0 0 1 0 })
  unfolding plan_of
  goes = refl

  comes_back : plan_of [] (away ∷ []) (files (codes "%d pieces") ∷ []) two
      ≡ Some (record {
        units = record datei { plural = Some (codes "%d pieces"); state = stored.NeedsEditing; revision = 4; previous = record { ctx = None; id = Some (codes "%d file"); plural = Some (codes "%d files") } } ∷ [];
        stays = false ∷ [];
        counts = Updated 0 0 0 0 1;
      })
  unfolding plan_of
  comes_back = refl

  -- the number 00000000-0000-4000-8000-000000000020
  abbrev twentieth : Text
  twentieth = 0 ∷ 0 ∷ 0 ∷ 0 ∷ 0 ∷ 0 ∷ 64 ∷ 0 ∷ 128 ∷ 0 ∷ 0 ∷ 0 ∷ 0 ∷ 0 ∷ 0 ∷ 32 ∷ []

  -- suggestions don't outlive a change of the needed number of forms
  suggestions_go :
      let s : Suggestion = record { number = twentieth; suggester = codes "ann"; forms = hallo; votes = maps.empty } in
      plan_of (entry ∷ []) (record demo_unit { suggestions = s ∷ [] } ∷ []) (record entry { plural = Some (codes "Hellos") } ∷ []) two
      ≡ Some (record { units = record demo_unit { plural = Some (codes "Hellos"); forms = [] ∷ [] ∷ []; revision = 2 } ∷ []; stays = false ∷ []; counts = Updated 0 1 0 0 0 })
  unfolding plan_of
  suggestions_go = refl

  abbrev french_header : Entry
  french_header = plain_entry [] (codes "Plural-Forms: nplurals=2; plural=n>1;" ++ 10 ∷ [])

  -- a language with a unit and an obsolete one
  french : load_of (entry ∷ []) (french_header ∷ plain_entry (codes "Hello") (codes "Bonjour") ∷ record (plain_entry (codes "Old") (codes "Vieux")) { obsolete = true } ∷ []) two closed_policy
      ≡ Some (record {
        units = record demo_unit { forms = codes "Bonjour" ∷ []; state = stored.Translated } ∷ record demo_unit { key = record { ctx = None; id = codes "Old" }; forms = codes "Vieux" ∷ []; state = stored.Translated; obsolete = true } ∷ [];
        stays = [];
        counts = Loaded 1 0 1;
      })
  unfolding load_of result_state
  french = refl

  -- an entry without a translation, one that the text doesn't have, and a leftover without a form
  missing : load_of (entry ∷ plain_entry (codes "Bye") [] ∷ []) (french_header ∷ plain_entry (codes "Old") [] ∷ entry ∷ []) two closed_policy
      ≡ Some (record { units = demo_unit ∷ record demo_unit { key = record { ctx = None; id = codes "Bye" } } ∷ []; stays = []; counts = Loaded 1 1 0 })
  unfolding load_of result_state
  missing = refl
