-- The distance that bytes spell is the displacement that they store, plus the size.
use Rattle.std.proofs.Common.{sym, subst, w32, SFits, rules}
use Rattle.x86.proofs.Distances.{decoded_by, distance_is, spelled_takes, sum_is, taken_fits}
use Rattle.x86.proofs.layout.decode.Goals as goal

pub returns-in_err-distance : goal.returns-in_err-distance
returns-in_err-distance c =
    let e = c.in_ok-encoding.field-0.encoding in
    let z = c.in_ok-encoding.field-0.displacement in
    let stored = c.in_ok-encoding.ensures in
    let fits : SFits w32 z = search rules in
    let sum = sum_is e z c.size.result fits c.size.ensures in
    rw c.from_residual-in_err-distance.ensures
    (λ e' d spells. c.in_err-distance.ensures (subst (SFits w32) (sym sum) (taken_fits e _ (spelled_takes e z stored.0 stored.1 e' d spells))))

pub returns : goal.returns
returns c =
    let e = c.in_ok-encoding.field-0.encoding in
    let z = c.in_ok-encoding.field-0.displacement in
    let stored = c.in_ok-encoding.ensures in
    let fits : SFits w32 z = search rules in
    let is = distance_is e z c.in_ok-distance.distance c.size.result fits c.size.ensures c.in_ok-distance.ensures in
    decoded_by e z stored.0 stored.1 _ is c.within_reach.result c.within_reach.ensures
