-- Nothing refuses a text that makes its table: an error is want of memory, or the disk failed.
use Rattle.std.proofs.Common.{◌≡◌, inl, inr, ℕ, ◌+◌, ◌*◌, ◌^◌, ◌<◌, ◌≤◌, List, [], length, Bool, true, false, not, Option, Some, None, Ok, Err, IsTrue, refl, sym, ap, subst, ◌∙◌, arith}
use Rattle.std.specs.Prelude.{◌&&◌, ◌||◌, is_some, nat_lt, IsUtf8, codes}
use Rattle.std.specs.List.{list_all}
use Rattle.std.specs.Str.{is_utf8}
use Rattle.std.proofs.lemmas.Bool.{and_parts, not-true, ltb-true}
use Rattle.std.proofs.lemmas.Str.{IsUtf8-from_is_utf8}
use Rattle.sqlite.specs.Order.{Row}
use Rattle.sqlite.specs.Effect.{Database}
use Rattle.sqlite.specs.declared.types.Value.TheVariants.{Text as Words}
use Rattle.sqlite.specs.declared.error.Error.{Error}
use Rattle.sqlite.specs.Schema.{Schema}
use Rattle.sqlite.specs.Table.{Table}
use Rattle.sqlite.specs.Command.{Command}
use Rattle.sqlite.specs.Command.TheVariants.{CreateTable}
use Rattle.sqlite.specs.Compile.{table_defined_by}
use Rattle.sqlite.specs.Change.{created, next_tree}
use Rattle.sqlite.specs.Does.{Does, MakesTable, MakesSequence, Redefines, lacks_sequence}
use Rattle.sqlite.specs.Listing.{understood}
use Rattle.sqlite.specs.declared.run.Mode.{Mode}
use Rattle.sqlite.specs.State.{State, IsMisplaced, RunsCommand, ExecutesIn, ExecutesInside, EndsScope, Escapes, mode_of, text_of, shows_rows, is_pragma}
use Rattle.sqlite.specs.Effect.{is_query}
use Rattle.sqlite.proofs.Callers.{IsPlain, command_of, statement_of}
use Rattle.sqlite_schema.specs.declared.command.Returning.{Returning}
use Rattle.sqlite_schema.specs.declared.schema.Index.{Index}
use Rattle.sqlite_schema.specs.Rules.{table_reals, index_reals}
use Rattle.sqlite_rules.specs.Lists.{Has}
use Rattle.sqlite_rules.proofs.ListLemmas.{test_has}
use Rattle.sqlite_resolve.specs.declared.compiled.Compiled.{Compiled}
use Rattle.sqlite_catalog.specs.declared.error.Refusal.{Refusal}
use Rattle.sqlite_catalog.specs.declared.error.Refusal.TheVariants.{Invalid, NameTaken, BadName, TooBig, BadKey, BadText, Violates}
use Rattle.sqlite_catalog.specs.Calls.{RefusesTable}
use Rattle.sqlite_catalog.specs.Change.{is_used, is_reserved, automatics}
use Rattle.sqlite_catalog.specs.Listing.{is_formed, is_fit}
use Rattle.sql_laws.proofs.Writes.{same_ok}
use Rattle.sql_schema.specs.Schema.{schema_with}
use Rattle.sql_schema.proofs.Losses.{IsLost, failed_lost, not_run}
use Rattle.sql_schema.proofs.Creations.{IsCreation, has_free_names, is_small, is_listed}

never : {b : Bool} → b ≡ true → b ≡ false → ⊥
never holds fails = let both : true ≡ false = sym holds ∙ fails in cc

-- ---- what CREATE TABLE is refused for

module _ (tables : List Table) (table : Table) (text : List ℕ) (is : IsCreation tables table text) where
  abbrev schema : Schema
  schema = schema_with tables

  named : has_free_names schema table ≡ true
  named = (and_parts _ _ is.allowed).0

  others : (is_small schema table text && is_listed table text) ≡ true
  others = (and_parts (has_free_names schema table) _ is.allowed).1

  small : is_small schema table text ≡ true
  small = (and_parts _ _ others).0

  listed : is_listed table text ≡ true
  listed = (and_parts (is_small schema table text) _ others).1

  -- names
  abbrev AreFree : Bool
  AreFree = list_all (λ (i : Index). not (is_used schema i.name)) (automatics table 0 0 table.uniques)

  name_is_text : is_utf8 table.name ≡ true
  name_is_text = (and_parts _ _ named).0

  past_text : (not (is_reserved table.name) && (not (is_used schema table.name) && AreFree)) ≡ true
  past_text = (and_parts (is_utf8 table.name) _ named).1

  unreserved : is_reserved table.name ≡ false
  unreserved = not-true (is_reserved table.name) (and_parts _ _ past_text).0

  free : (not (is_used schema table.name) && AreFree) ≡ true
  free = (and_parts (not (is_reserved table.name)) _ past_text).1

  unused : is_used schema table.name ≡ false
  unused = not-true (is_used schema table.name) (and_parts _ _ free).0

  unused_too : (index : Index) → Has (automatics table 0 0 table.uniques) index → is_used schema index.name ≡ false
  unused_too index there =
      not-true (is_used schema index.name) (test_has (λ (i : Index). not (is_used schema i.name)) (automatics table 0 0 table.uniques) index (and_parts (not (is_used schema table.name)) AreFree free).1 there)

  -- sizes
  abbrev AreNarrow : Bool
  AreNarrow = list_all (λ (key : List ℕ). nat_lt (index_reals (table_reals table) key) (2 ^ 64)) table.uniques

  abbrev is_short : Bool
  is_short = nat_lt (2 * length table.name + length text + 200) (10 ^ 9)

  few : next_tree schema + length table.uniques < 65536
  few = ltb-true (next_tree schema + length table.uniques) 65536 (and_parts _ _ small).0

  past_few : (nat_lt (table_reals table) (2 ^ 64) && (AreNarrow && is_short)) ≡ true
  past_few = (and_parts (nat_lt (next_tree schema + length table.uniques) 65536) _ small).1

  narrow : table_reals table < 2 ^ 64
  narrow = ltb-true (table_reals table) (2 ^ 64) (and_parts _ _ past_few).0

  past_narrow : (AreNarrow && is_short) ≡ true
  past_narrow = (and_parts (nat_lt (table_reals table) (2 ^ 64)) _ past_few).1

  narrow_too : (key : List ℕ) → Has table.uniques key → index_reals (table_reals table) key < 2 ^ 64
  narrow_too key there =
      ltb-true (index_reals (table_reals table) key) (2 ^ 64) (test_has (λ (key : List ℕ). nat_lt (index_reals (table_reals table) key) (2 ^ 64)) table.uniques key (and_parts AreNarrow is_short past_narrow).0 there)

  short : 2 * length table.name + length text + 200 < 10 ^ 9
  short = ltb-true (2 * length table.name + length text + 200) (10 ^ 9) (and_parts AreNarrow is_short past_narrow).1

  -- the text
  abbrev fits : Bool
  fits = is_fit (Words (codes "table")) (Words table.name) (Words table.name) (Words text)

  is_text : is_utf8 text ≡ true
  is_text = (and_parts _ _ listed).0

  past_is_text : (is_formed table && fits) ≡ true
  past_is_text = (and_parts (is_utf8 text) _ listed).1

  formed : is_formed table ≡ true
  formed = (and_parts (is_formed table) fits past_is_text).0

  fit : fits ≡ true
  fit = (and_parts (is_formed table) fits past_is_text).1

  own : (other : Table) → table_defined_by text ≡ Ok other → other ≡ table
  own other defined = same_ok (sym defined ∙ is.defines)

  not_refused : (w : Refusal) → RefusesTable schema text w → ⊥
  not_refused (Invalid e) h = let both = sym is.defines ∙ h in cc
  not_refused NameTaken (other, defined, inl used) = never (ap (λ (t : Table). is_used schema t.name) (sym (own other defined)) ∙ used) unused
  not_refused NameTaken (other, defined, inr (index, there, used)) =
      never used (unused_too index (subst (λ (t : Table). Has (automatics t 0 0 t.uniques) index) (own other defined) there))
  not_refused BadName (other, defined, inl bad) = bad (subst (λ (t : Table). IsUtf8 t.name) (sym (own other defined)) (IsUtf8-from_is_utf8 table.name name_is_text))
  not_refused BadName (other, defined, inr (reserved, mine)) =
      never (ap (λ (t : Table). is_reserved t.name) (sym (own other defined)) ∙ reserved) unreserved
  not_refused TooBig (other, defined, inl many) =
      let past : 65536 ≤ next_tree schema + length table.uniques = subst (λ (t : Table). 65536 ≤ next_tree schema + length t.uniques) (own other defined) many in
      omega (arith, few, past)
  not_refused TooBig (other, defined, inr (inl wide)) =
      let past : 2 ^ 64 ≤ table_reals table = subst (λ (t : Table). 2 ^ 64 ≤ table_reals t) (own other defined) wide in
      omega (arith, narrow, past)
  not_refused TooBig (other, defined, inr (inr (key, there, wide))) =
      let had = subst (λ (t : Table). Has t.uniques key) (own other defined) there in
      let past : 2 ^ 64 ≤ index_reals (table_reals table) key = subst (λ (t : Table). 2 ^ 64 ≤ index_reals (table_reals t) key) (own other defined) wide in
      omega (arith, narrow_too key had, past)
  not_refused BadKey (other, defined, unformed) = never formed (ap is_formed (sym (own other defined)) ∙ unformed)
  not_refused BadText (other, defined, unfit) =
      never fit (ap (λ (t : Table). is_fit (Words (codes "table")) (Words t.name) (Words t.name) (Words text)) (sym (own other defined)) ∙ unfit)
  not_refused (Violates rule) h = h

  -- ---- the statement

  module _ (db : Database) (has : db.schema ≡ schema) where
    no_stop : (stop : Option Error) → MakesTable text db (Err stop) → ⊥
    no_stop None (other, defined, long) =
        let past : 10 ^ 9 ≤ 2 * length table.name + length text + 200 = subst (λ (t : Table). 10 ^ 9 ≤ 2 * length t.name + length text + 200) (own other defined) long in
        omega (arith, short, past)
    no_stop (Some e) (inl h) = h.0 (IsUtf8-from_is_utf8 text is_text)
    no_stop (Some e) (inr (w, refuses, same)) = not_refused w (subst (λ s. RefusesTable s text w) has refuses)

    no_sequence : (after : Database) → MakesTable text db (Ok after) → (stop : Option Error) → MakesSequence after (Err stop) → ⊥
    no_sequence after made stop h =
        let grown : after.schema ≡ created schema table = made.is ∙ ap (λ s. created s made.table) has ∙ ap (created schema) (own made.table made.defined) in
        let plain : lacks_sequence after.schema ≡ false = ap lacks_sequence grown ∙ is.uncounted in
        let gives = rw plain at h in
        cc

    defines : (limit : Option ℕ) (mode : Mode) (params : Row) (stop : Option Error) → Redefines limit mode params db text CreateTable (Err stop) → ⊥
    defines limit mode params stop (inl (first, inl (why, made, same), told)) = no_stop why made
    defines limit mode params stop (inl (first, inr (after, made, next), told)) = no_sequence after made first next
    defines limit mode params stop (inr (after, made, gives)) = let both = gives in cc

    does : (limit : Option ℕ) (mode : Mode) (params : Row) (stop : Option Error) (of_text : List ℕ) (returning : Option Returning) (command : Command) → of_text ≡ text → returning ≡ None → command ≡ CreateTable
        → Does limit mode params db of_text returning command (Err stop) → ⊥
    does limit mode params stop of_text returning command text_is bare creates h =
        defines limit mode params stop (subst (λ t. Does limit mode params db t None CreateTable (Err stop)) text_is
        (subst (λ r. Does limit mode params db of_text r CreateTable (Err stop)) bare (subst (λ k. Does limit mode params db of_text returning k (Err stop)) creates h)))

  module _ (old new : State) (e : Error) (has : old.now.schema ≡ schema) where
    known : (c : Compiled) → understood old.now.schema text ≡ Ok c → Ok c ≡ understood schema text
    known c it = sym it ∙ ap (λ s. understood s text) has

    no_place : (command : Command) → command ≡ CreateTable → IsMisplaced old command e → ⊥
    no_place command creates (inl (told, inl (begins, inside))) = let both = sym begins ∙ creates in cc
    no_place command creates (inl (told, inr (inl commits, outside))) = let both = sym commits ∙ creates in cc
    no_place command creates (inl (told, inr (inr undoes, outside))) = let both = sym undoes ∙ creates in cc
    no_place command creates (inr (told, name, inl releases, unnamed)) = let both = sym releases ∙ creates in cc
    no_place command creates (inr (told, name, inr back, unnamed)) = let both = sym back ∙ creates in cc

    ran : (c : Compiled) → c.command ≡ CreateTable → c.returning ≡ None → text_of text c ≡ text → (params : Row) → RunsCommand old new text c params (Err e) → IsLost old new e
    ran c creates bare whole params (inl (inl h, same)) = absurd (no_place c.command creates h)
    ran c creates bare whole params (inl (inr h, same)) = absurd (does old.now has old.step_limit (mode_of old) params (Some e) (text_of text c) c.returning c.command whole bare creates h.1)
    ran c creates bare whole params (inr h) = failed_lost old new e _ (λ long. does old.now has old.step_limit (mode_of old) params None (text_of text c) c.returning c.command whole bare creates long) h

    executed : ExecutesIn false text [] old new (Err e) → IsLost old new e
    unfolding ExecutesIn
    executed (inl h) = not_run text [] schema is.plain is.whole old new e has h
    executed (inr (c, it, h)) =
        let now = known c it.is in
        let creates : c.command ≡ CreateTable = ap command_of now ∙ is.command in
        let bare : c.returning ≡ None = (subst IsPlain (sym now) is.plain).0 in
        let whole : text_of text c ≡ text = ap (statement_of text) now ∙ is.statement in
        let shows : shows_rows false c ≡ false =
        ap (λ k. is_query k || (not false && (is_pragma k || is_some c.returning))) creates ∙ ap (λ (r : Option Returning). is_query CreateTable || (not false && (is_pragma CreateTable || is_some r))) bare in
        ran c creates bare whole _ (rw shows at h)

    no_end : (command : Command) → command ≡ CreateTable → Escapes 0 old command → ⊥
    no_end command creates (inl (inl commits)) = let both = sym commits ∙ creates in cc
    no_end command creates (inl (inr undoes)) = let both = sym undoes ∙ creates in cc
    no_end command creates (inr (name, inl releases, held)) = let both = sym releases ∙ creates in cc
    no_end command creates (inr (name, inr back, held)) = let both = sym back ∙ creates in cc

    inside : ExecutesInside 0 text [] old new (Err e) → IsLost old new e
    unfolding EndsScope
    inside (inl (h, how)) = executed h
    inside (inr ((c, it, escapes), told, same)) = absurd (no_end c.command (ap command_of (known c it.is) ∙ is.command) escapes)

  -- over a connection that shows those tables, unless it is shut
  pub creation_lost : (old new : State) (e : Error) → (IsTrue old.is_open → old.now.schema ≡ schema_with tables) → ExecutesInside 0 text [] old new (Err e) → IsLost old new e
  creation_lost old new e has ran = by old.is_open refl
    where
      by : (b : Bool) → old.is_open ≡ b → IsLost old new e
      by true is_open = inside old new e (has is_open) ran
      by false shut = inr (inl shut)
