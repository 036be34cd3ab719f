-- A word that is no text has no digits alone.
use Rattle.std.proofs.Common.{inl, rules}
use Rattle.std.specs.Str.{IsUtf8}
use Rattle.query.proofs.Digits.{no_text}
use Rattle.query.proofs.numbers.number.Goals as goal

pub returns-in_err-ok-in_default : goal.returns-in_err-ok-in_default
returns-in_err-ok-in_default g c =
    let none : ¬ (IsUtf8 c.args.word.now) = search rules in
    rw c.from_residual.ensures (inl (no_text c.args.word.now none))
