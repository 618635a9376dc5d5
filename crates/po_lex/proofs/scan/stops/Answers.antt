use Rattle.po_lex.proofs.ScanLemmas.{stops_mask}
use Rattle.po_lex.proofs.scan.stops.Goals as goal

pub returns : goal.returns
returns c = stops_mask c.args.bytes c.fits-bytes.0
