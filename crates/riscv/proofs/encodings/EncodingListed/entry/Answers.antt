-- An encoding whose kind has no number is that of no kind.
use Rattle.std.proofs.Common.{◌≡◌, Some, ap, ◌∙◌, arith}
use Rattle.std.proofs.lemmas.Grind.{common_steps}
use Rattle.riscv.specs.Entries.{kind_is, kind_of}
use Rattle.riscv.proofs.encodings.EncodingListed.entry.Goals as goal

pub returns-in_err-number : goal.returns-in_err-number
returns-in_err-number c =
    let same : kind_of c.args.self ≡ c.match-self.kind.0 = grind (arith, common_steps) in
    rw c.from_residual.ensures (λ k f is. c.in_err-number.ensures k (kind_is k f c.args.self is ∙ ap Some same))
