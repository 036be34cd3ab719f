-- Digits are text.
use Rattle.query.proofs.Hexes.{hex_text}
use Rattle.query.proofs.answers.print_piece.Goals as goal

pub unreachable-requires : goal.unreachable-requires
unreachable-requires g c = c.in_default.ensures.cases.0 (rw c.digits-digits.ensures (hex_text c.args.bytes.now (λ k. (c.type_inv.bytes k).fits)))
