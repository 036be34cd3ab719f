-- A branch that means the bytes spells them by the one encoding of a kind that does.
use Rattle.std.proofs.Common.{Some, ap, ◌∙◌}
use Rattle.target.proofs.Tables.{spelled_by}
use Rattle.target.proofs.table.AnyTarget.read.Goals as goal

pub returns-in_err-entry : goal.returns-in_err-entry
returns-in_err-entry g c =
    rw c.from_residual-in_err-entry.ensures (λ b means.
    let by = spelled_by g.T.Encoding.Extent.table b means in
    c.in_err-entry.ensures b.kind b.form (by.1 ∙ ap Some (c.in_ok-encoding.ensures.1 b.kind b.form by.0 b.distance by.1 by.2)))
