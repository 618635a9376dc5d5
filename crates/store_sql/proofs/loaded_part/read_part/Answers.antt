use Rattle.store_sql.proofs.loaded_part.read_part.Goals as goal

pub returns : goal.returns
returns g c = record { found = c.load_part.ensures.found; disk = c.load_part.ensures.disk }
