-- What the columns of a domain's units hold that an export of the obsolete ones reads.
use Rattle.std.proofs.Common.{◌≡◌, codes, refl, sym, subst}
use Rattle.sqlite.specs.declared.types.Value.TheVariants.{Int, Text as Words}
use Rattle.sqlite.specs.Order.{Row, column}
use Rattle.sqlite.specs.Effect.{Database}
use Rattle.sqlite_rules.specs.Lists.{Has}
use Rattle.sql_laws.specs.ApartRows.{AreOnce}
use Rattle.po_text.specs.Texts.{Text}
use Rattle.sql_schema.specs.Inside.{AreOfficeTablesOf}
use Rattle.sql_schema.specs.Keys.{text_at, has_text}
use Rattle.sql_schema.specs.Layouts.{by_domain, NamedRows, rows_named}
use Rattle.sql_schema.specs.Schema.{d_unit_table}
use Rattle.sql_schema.specs.SeenRows.{unit_seen, seen_in}
use Rattle.sql_schema.proofs.DomainRows.{d_unit_texts}
use Rattle.sql_schema.proofs.Layouts.{d_unit_placed}
use Rattle.sql_schema.proofs.TextKeys.{holds_int}
use Rattle.sql_schema.proofs.SeenRows.{from_seen}
use Rattle.sql_meaning.specs.RowKeys.{HoldsIntegers, HoldsWords}
use Rattle.sql_meaning.specs.Values.{integer_at}
use Rattle.sql_meaning.proofs.DomainOfficeRows.{once_seen}
use Rattle.sql_meaning.proofs.OfficeRows.{whole}

-- the mark of an obsolete unit, and the text of a key; and no unit stands twice
pub record HasUnitColumns (tables : NamedRows) : Type 0 where
  pub flags : HoldsIntegers 6 (tables (codes "unit"))
  pub keys : HoldsWords 2 (tables (codes "unit"))
  pub once : AreOnce (tables (codes "unit"))

module _ (db : Database) (ready : AreOfficeTablesOf by_domain db) (domain : Text) where
  of_unit : (P : Row → Type 0) → ((row : Row) → Has (rows_named db (codes "d_unit")) row → P (unit_seen row)) → (x : Row) → Has (seen_in domain (rows_named db) (codes "unit")) x → P x
  of_unit P each x there = let r = from_seen (has_text 1 domain) unit_seen (rows_named db (codes "d_unit")) x there in subst P (sym r.3) (each r.0 r.1)

  pub unit_columns : HasUnitColumns (seen_in domain (rows_named db))
  unit_columns = record {
    flags = of_unit (λ y. column y 6 ≡ Int (integer_at 6 y)) (λ row there. whole 7 row (holds_int d_unit_table d_unit_placed 6 (codes "obsolete") refl db ready.schema ready.sound row there refl));
    keys = of_unit (λ y. column y 2 ≡ Words (text_at 2 y)) (d_unit_texts.1.1.0 db ready.schema ready.sound);
    once = once_seen (has_text 1 domain) unit_seen (rows_named db (codes "d_unit")) (ready.tables (codes "d_unit") refl).once
        (λ r s in_r in_s own_r own_s tied. (ready.tables (codes "d_unit") refl).apart r s in_r in_s tied);
  }
