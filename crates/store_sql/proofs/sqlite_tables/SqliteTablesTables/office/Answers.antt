use Rattle.store_sql.proofs.sqlite_tables.SqliteTablesTables.office.Goals as goal

pub returns : goal.returns
returns g c = λ honest whole part loaded. c.at_hand.ensures.alike honest part loaded
