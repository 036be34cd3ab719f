-- A taken write was writable, so reading its bytes gives the same branch.
use Rattle.std.proofs.Common.{length, refl, arith}
use Rattle.target.proofs.Writing.{read_front_lem, taken_writable}
use Rattle.target.proofs.round_trip.write_then_read.Goals as goal

pub returns-clause-same : goal.returns-clause-same
returns-clause-same g c =
    let m = g.T.Target.meaning c.args.target.now in
    let b = c.args.branch in
    let wrote = c.in_ok-write.ensures in
    let writable = taken_writable m b (length c.args.out.now) (omega arith) wrote.refuses in
    read_front_lem m b (g.met.T.Target.lawful c.args.target.now) writable (m.size b.kind b.form) c.write.new.out _ refl wrote.after c.read_front.result c.read_front.ensures
