-- The entries of a language are its header, what the rows of messages stand for, and what those of obsolete units stand for.
use Rattle.std.proofs.Common.{◌≡◌, List, [], ◌∷◌, ◌++◌, Bool, true, false, cond, map, filter, Some, None, refl, sym, ap, ◌∙◌}
use Rattle.std.specs.Option.{option_map_or}
use Rattle.std.specs.List.{filter_map, cons_option}
use Rattle.std.specs.FinMap as maps
use Rattle.po_text.specs.declared.entry.Entry.{Entry}
use Rattle.po_text.specs.Texts.{Text}
use Rattle.units.specs.Project.{Project}
use Rattle.office_specification.specs.ExportedEntries.{catalogue_of}
use Rattle.tables.specs.Entries.{entries_of}
use Rattle.sql_exports.specs.Entries.{messages_of, obsolete_of}

pub each_one : {X Y : Type 0} (f : X → Y) (xs : List X) → filter_map (λ x. Some (f x)) xs ≡ map f xs
each_one f [] = refl
each_one f (x ∷ xs) = ap (λ ys. f x ∷ ys) (each_one f xs)

pub those_that_pass : {X Y : Type 0} (p : X → Bool) (f : X → Y) (xs : List X) → filter_map (λ x. cond (p x) (Some (f x)) None) xs ≡ map f (filter p xs)
those_that_pass p f [] = refl
those_that_pass p f (x ∷ xs) = ap (cons_option (cond (p x) (Some (f x)) None)) (those_that_pass p f xs) ∙ by (p x)
  where
    by : (b : Bool) → cons_option (cond b (Some (f x)) None) (map f (filter p xs)) ≡ map f (cond b (x ∷ filter p xs) (filter p xs))
    by true = refl
    by false = refl

catalogue_is : (project : Project) (lang : Text) (header : Entry) → catalogue_of project lang header ≡ header ∷ messages_of project lang ++ obsolete_of project lang
unfolding catalogue_of
catalogue_is project lang header = refl

pub entries_are : (project : Project) (lang : Text) (header : Entry) → Some header ≡ maps.get project.headers lang → entries_of project lang ≡ header ∷ messages_of project lang ++ obsolete_of project lang
entries_are project lang header is = ap (λ o. option_map_or (catalogue_of project lang) o []) (sym is) ∙ catalogue_is project lang header

pub no_entries : (project : Project) (lang : Text) → None ≡ maps.get project.headers lang → entries_of project lang ≡ []
no_entries project lang none = ap (λ o. option_map_or (catalogue_of project lang) o []) (sym none)
