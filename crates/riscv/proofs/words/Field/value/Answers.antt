-- An arithmetic shift brings the bits down.
use Rattle.std.proofs.Common.{◌≡◌, ◌+◌, ◌-◌, ◌%◌, ◌^◌, sym, ap, ◌∙◌, subst, arith, w32, SFits, to_z, of_z}
use Rattle.std.specs.Int.Signed.{shr_z}
use lib.Signed.{mag_shr}
use mir.ValLaws.{sfits_le}
use Rattle.std.proofs.lemmas.Int.{to_z-of_z}
use Rattle.riscv.specs.Words.{InWord, held}
use Rattle.riscv.specs.Packing.{shifted}
use Rattle.riscv.proofs.words.Field.value.Goals as goal

pub returns-in-Immediate : goal.returns-in-Immediate
returns-in-Immediate c =
    let i = c.args.immediate in
    let low = c.in-Immediate.low in
    let count = 1 + c.in-Immediate.high - low in
    let fits = subst InWord c.in-Immediate.is c.requires in
    let small : SFits w32 (shr_z i (2 ^ low)) = sfits_le (mag_shr i (2 ^ low)) c.ranges.immediate in
    let same : to_z w32 (of_z w32 (shr_z (to_z w32 (of_z w32 i)) (2 ^ low))) ≡ shr_z i (2 ^ low) = simp (to_z-of_z, c.ranges.immediate, small) in
    c.low_bits-in-Immediate.ensures ∙ ap (λ n. n % 2 ^ count) (c.cast_unsigned.ensures ∙ ap (of_z w32) same) ∙ shifted i low count c.ranges.immediate (omega arith) ∙ sym (ap (held i) c.in-Immediate.is)
