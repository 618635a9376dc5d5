-- What each query by a domain shows: columns of the one row by its key, or of several.
use Rattle.std.specs.Prelude.{ℕ, List, [], ◌∷◌, ◌&&◌, Option, codes}
use Rattle.sqlite.specs.Order.{Row}
use Rattle.sqlite.specs.Effect.{Database}
use Rattle.sql_schema.specs.Keys.{first_text, first_three, key_texts, has_text, columns}
use Rattle.sql_schema.specs.Inside.{ShowsKey, ShowsAll, IsInOrder}
use Rattle.sql_statements.specs.Tables.{ShowsTable, ShowsPart}
use Rattle.sql_statements.specs.DomainCleared.{is_on_domain_unit}

-- name
abbrev pub ShowsDomain : List ℕ → Database → Option Row → Type 0
ShowsDomain = ShowsKey (codes "domain") first_text (columns (1 ∷ []))

abbrev pub ShowsDomains : Database → List Row → Type 0
ShowsDomains = ShowsTable (codes "domain") (1 ∷ []) (0 ∷ [])

-- plural, extracted, refs, flags
abbrev pub ShowsDomainEntry : List ℕ → List ℕ → Database → Option Row → Type 0
ShowsDomainEntry domain key = ShowsKey (codes "d_template") (key_texts (1 ∷ 3 ∷ [])) (columns (4 ∷ 5 ∷ 6 ∷ 7 ∷ [])) (domain ∷ key ∷ [])

-- header, plural
abbrev pub ShowsDomainLanguage : List ℕ → List ℕ → Database → Option Row → Type 0
ShowsDomainLanguage domain lang = ShowsKey (codes "d_language") (key_texts (1 ∷ 2 ∷ [])) (columns (3 ∷ 4 ∷ [])) (domain ∷ lang ∷ [])

-- plural, forms, state, obsolete, revision, comment, previous
abbrev pub ShowsDomainUnit : List ℕ → List ℕ → List ℕ → Database → Option Row → Type 0
ShowsDomainUnit domain lang key = ShowsKey (codes "d_unit") first_three (columns (4 ∷ 5 ∷ 6 ∷ 7 ∷ 8 ∷ 9 ∷ 10 ∷ [])) (domain ∷ lang ∷ key ∷ [])

-- plural, forms, state, obsolete, revision, comment, previous, key
abbrev pub ShowsLanguageUnits : List ℕ → List ℕ → Database → List Row → Type 0
ShowsLanguageUnits domain lang = ShowsPart (codes "d_unit") (λ row. has_text 1 domain row && has_text 2 lang row) (4 ∷ 5 ∷ 6 ∷ 7 ∷ 8 ∷ 9 ∷ 10 ∷ 3 ∷ []) (7 ∷ [])

-- number, place, suggester, forms, in the order of the places
abbrev pub ShowsDomainSuggestions : List ℕ → List ℕ → List ℕ → Database → List Row → Type 0
ShowsDomainSuggestions domain lang key db rows = ShowsAll (codes "d_suggestion") (is_on_domain_unit domain lang key) (columns (1 ∷ 5 ∷ 6 ∷ 7 ∷ [])) db rows × IsInOrder 1 rows

-- the places of those on a unit, in order
abbrev pub ShowsPlaces : List ℕ → List ℕ → List ℕ → Database → List Row → Type 0
ShowsPlaces domain lang key db rows = ShowsAll (codes "d_suggestion") (is_on_domain_unit domain lang key) (columns (5 ∷ [])) db rows × IsInOrder 0 rows

-- columns of the suggestion of a number, if it is on the unit
abbrev pub ShowsOfSuggestion : List ℕ → List ℕ → List ℕ → List ℕ → List ℕ → Database → Option Row → Type 0
ShowsOfSuggestion places domain lang key number = ShowsKey (codes "d_suggestion") (key_texts (1 ∷ 2 ∷ 3 ∷ 4 ∷ [])) (columns places) (number ∷ domain ∷ lang ∷ key ∷ [])

-- number, place, suggester, forms
abbrev pub ShowsSuggestionOf : List ℕ → List ℕ → List ℕ → List ℕ → Database → Option Row → Type 0
ShowsSuggestionOf = ShowsOfSuggestion (1 ∷ 5 ∷ 6 ∷ 7 ∷ [])

-- place
abbrev pub ShowsPlaceOf : List ℕ → List ℕ → List ℕ → List ℕ → Database → Option Row → Type 0
ShowsPlaceOf = ShowsOfSuggestion (5 ∷ [])

-- voter, value
abbrev pub ShowsDomainVotes : List ℕ → Database → List Row → Type 0
ShowsDomainVotes number = ShowsAll (codes "d_vote") (has_text 1 number) (columns (2 ∷ 3 ∷ []))

-- sum
abbrev pub ShowsSum : List ℕ → Database → Option Row → Type 0
ShowsSum = ShowsKey (codes "d_vote_sum") first_text (columns (2 ∷ []))

-- untranslated, needs_editing, translated, approved, read_only, suggestions, obsolete
abbrev pub ShowsTally : List ℕ → List ℕ → Database → Option Row → Type 0
ShowsTally domain lang = ShowsKey (codes "d_tally") (key_texts (1 ∷ 2 ∷ [])) (columns (3 ∷ 4 ∷ 5 ∷ 6 ∷ 7 ∷ 8 ∷ 9 ∷ [])) (domain ∷ lang ∷ [])

-- the same and the language, for each of a domain's
abbrev pub ShowsTallies : List ℕ → Database → List Row → Type 0
ShowsTallies domain = ShowsPart (codes "d_tally") (has_text 1 domain) (3 ∷ 4 ∷ 5 ∷ 6 ∷ 7 ∷ 8 ∷ 9 ∷ 2 ∷ []) (7 ∷ [])
