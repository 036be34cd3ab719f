-- The bytes of a taken write are the front of the memory that it wrote.
use Rattle.std.proofs.Common.{◌∙◌, arith}
use Rattle.target.proofs.Writing.{front_is, sized, taken_writable}
use Rattle.query.proofs.answers.write.Goals as goal

pub returns-in_ok-from_slice-in-Ok : goal.returns-in_ok-from_slice-in-Ok
returns-in_ok-from_slice-in-Ok g c =
    let m = g.T.Target.meaning c.args.target.now in
    let laws = g.met.T.Target.lawful c.args.target.now in
    let b = c.args.branch in
    let wrote = c.in-Ok.ensures in
    let writable = taken_writable m b 16 (omega arith) wrote.refuses in
    let long = sized m b c.entry.result c.size-size.result c.entry.ensures c.size-size.ensures in
    (writable, c.in_ok-from_slice-in-Ok.ensures.items ∙ front_is m b laws writable c.size-size.result _ _ long wrote.after)
