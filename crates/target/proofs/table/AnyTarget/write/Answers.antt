-- What writing a branch refuses is what writing its encoding does.
use Rattle.std.proofs.Common.{length, sym, ◌∙◌, arith, rules}
use Rattle.target.specs.Refusals.{refusal}
use Rattle.target.proofs.Tables.{judged_by}
use Rattle.target.proofs.table.AnyTarget.write.Goals as goal

pub returns-clause-refuses : goal.returns-clause-refuses
returns-clause-refuses g c =
    judged_by g.T.Encoding.Extent.table c.args.branch c.entry.result c.in_ok-encoding.encoding c.entry.ensures (sym c.of.ensures ∙ c.in_ok-encoding.ensures.ok_part) (omega arith) (search rules) (length c.args.out.now) (refusal c.write.result) c.write.ensures.refuses
