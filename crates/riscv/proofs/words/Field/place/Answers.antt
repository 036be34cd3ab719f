-- A field of the immediate keeps its bits where it is put back.
use Rattle.std.proofs.Common.{◌+◌, ◌-◌, ◌*◌, ◌^◌, ◌<◌, sym, ap, ◌∙◌, subst, arith}
use Rattle.std.proofs.lemmas.Nat.{mod_below, pow_pos, shl_whole}
use Rattle.riscv.specs.Reading.{placed}
use Rattle.riscv.specs.Words.{InWord}
use Rattle.riscv.proofs.words.Field.place.Goals as goal

pub returns-in-Immediate : goal.returns-in-Immediate
returns-in-Immediate c =
    let low = c.in-Immediate.low in
    let count = 1 + c.in-Immediate.high - low in
    let fits = subst InWord c.in-Immediate.is c.requires in
    let few : c.low_bits.result < 2 ^ count = omega (arith, c.low_bits.ensures, mod_below c.args.bits (2 ^ count) (pow_pos count)) in
    shl_whole c.low_bits.result count low 32 few (omega arith) ∙ ap (λ n. n * 2 ^ low) c.low_bits.ensures ∙ sym (ap (λ f. placed f c.args.bits) c.in-Immediate.is)
