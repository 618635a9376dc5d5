-- The length and the digest of a text, kept while it is sent piece by piece. This project's own rule.
use Rattle.std.specs.Prelude.{◌≡◌, ◌≤◌, ℕ, List, length}
use Rattle.sha2.specs.Hashers.{Holds256}
use Rattle.units.specs.Limits.{export_limit}
use Rattle.office.specs.declared.checksum.Checksum.{Checksum}

-- the count and the digest are those of a text within the limit
pub record IsChecksum (checksum : Checksum) (text : List ℕ) : Type 0 where
  pub bytes : checksum.bytes ≡ length text
  pub within : length text ≤ export_limit
  pub digest : Holds256 checksum.digest text
