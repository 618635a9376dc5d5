use Rattle.sql_keepable.proofs.entries.entry_fits.Goals as goal

pub returns : goal.returns
returns c = record {
  key_column = c.entry_key_fits.ensures.column;
  plural = c.optional_fits.ensures;
  extracted_column = c.list_fits.ensures;
  references_column = c.list_fits-2.ensures;
  flags_column = c.list_fits-3.ensures;
}
