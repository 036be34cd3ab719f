-- Two digits more for each byte.
use Rattle.std.proofs.Common.{arith, rules}
use Rattle.query.proofs.Hexes.{filled_more}
use Rattle.query.proofs.answers.digits.Goals as goal

pub loop-i-preserved : goal.loop-i-preserved
loop-i-preserved c = (search rules, filled_more c.args.bytes.now c.loop-i.digits c.loop-i.i _ _ c.loop-i-test.true (omega (arith, c.loop-i.invariant.0)) c.digit.ensures c.digit-in-loop-i.ensures c.loop-i.invariant.1)
