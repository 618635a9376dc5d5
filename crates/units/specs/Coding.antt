-- Codes of small types, by which maps of them are told apart: this project's own, and for proofs alone.
use Rattle.std.specs.Prelude.{Bool, true, false, refl, ◌≡◌}
use Rattle.std.specs.Coded.{Coded, code_by, coded_bool}
use Rattle.units.specs.declared.votes.VoteValue.{VoteValue}
use Rattle.units.specs.declared.votes.VoteValue.TheVariants.{Against, For}
use Rattle.units.specs.Ballots.{is_for}

abbrev vote_value : Bool → VoteValue
vote_value true = For
vote_value false = Against

pub vote_value-is_for : (b : VoteValue) → vote_value (is_for b) ≡ b
vote_value-is_for Against = refl
vote_value-is_for For = refl

abbrev pub coded_vote_value : Coded VoteValue
coded_vote_value = code_by Bool coded_bool is_for vote_value vote_value-is_for
