use Rattle.std.proofs.Common.{◌≡◌, ◌*◌, length, take}
use Rattle.query.specs.Words.{hex}
use Rattle.query.proofs.answers.digits.Given as goal

-- the digits so far stand at the front
abbrev pub invariant-loop-i : goal.invariant-loop-i
invariant-loop-i l = (length l.digits ≡ 32) × (take (2 * l.i) l.digits ≡ hex (take l.i l.bytes))
