use Rattle.std.proofs.Common.{◌≡◌, false}
use Rattle.office_maps.proofs.openings.closed_policy.Goals as goal

pub returns : goal.returns
returns c =
    let none : c.unwrap.result ≡ 0 = cc in
    λ i. record { reviews = false; guests_suggest = false; voting = false; accept_at = none i; placeholders = false; line_ends = false }
