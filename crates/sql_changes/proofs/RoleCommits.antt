-- What the commit of a role makes of the office with its book.
use Rattle.std.proofs.Common.{◌≡◌, ℤ, Option, Some, None, sym, ap, subst, ◌∙◌, codes, refl}
use Rattle.po_text.specs.Texts.{Text}
use Rattle.units.specs.Changes.{set_role, with_team}
use Rattle.units.specs.Project.{Project}
use Rattle.units.specs.declared.unit.Role.{Role}
use Rattle.request_book.specs.Book.{with_record}
use Rattle.request_book.specs.declared.book.Record.{Record}
use Rattle.sql_columns.specs.Numbers.{role_number}
use Rattle.sql_laws.specs.RowMaps.{OneEach}
use Rattle.sql_schema.specs.Keys.{first_text}
use Rattle.sql_meaning.specs.Meaning.{AreNumbered, book_in, team_in, project_of_rows, meaning_in}
use Rattle.sql_meaning.proofs.CommitLaws.{same_project}
use Rattle.sql_changes.specs.Commits.{WritesRole, MakesRole}
use Rattle.sql_changes.proofs.Changed.{Spares, another_team, commits_change}
use Rattle.sql_changes.proofs.Team.{team_changed}
use Rattle.sql_schema.proofs.Layouts.{names_differ}
use Rattle.sql_schema.specs.Layouts.{NamedRows}
use Rattle.sql_meaning.specs.RowKeys.{AreOfficeRows}

abbrev with_role : Text → Role → Project → Project
with_role name role project = record project { team = set_role name role project.team }

spares_others : (name : Text) (role : Option ℤ) (old new : NamedRows) → WritesRole name role old new → Spares (codes "team") old new
spares_others name None old new taken = taken.others
spares_others name (Some n) old new put = put.others

pub commits_role : (old after : NamedRows) (row : Record) (name : Text) (role : Role) → AreOfficeRows old → AreNumbered old → MakesRole row name role old after
    → (meaning_in after ≡ record { office = with_team (meaning_in old).office (set_role name role (team_in old)); book = with_record (book_in old) row })
    × AreNumbered after
commits_role old after row name role ready numbered (mid, put, written) =
    let others = spares_others name (role_number role) mid after written in
    let was = put.0.others (codes "team") (names_differ refl) in
    let one : OneEach first_text (mid (codes "team")) = subst (OneEach first_text) (sym was) ready.keyed.one_member in
    commits_change old mid after row (with_role name role (project_of_rows old)) ready numbered put (others (codes "record") (names_differ refl))
    (another_team mid after (set_role name role (team_in mid)) others (team_changed mid after name one role written) ∙ ap (with_role name role) (same_project old mid row put.0))
