-- Each field goes to its place.
use Rattle.std.proofs.Common.{◌^◌, ◌/◌, ap, arith}
use Rattle.std.specs.Iterator.Adapters.{rev_source}
use Rattle.std.specs.Slice.Iter.{iter_rest}
use Rattle.riscv.specs.Reading.{gathered}
use Rattle.riscv.specs.Telling.{gathered_next}
use Rattle.riscv.proofs.words.gather.Goals as goal

pub overflow_add-immediate : goal.overflow_add-immediate
overflow_add-immediate c = record { fits = omega (arith, gathered_next _ _ _ _ _ _ _ c.loop-field.invariant c.in-Some.ensures.steps c.place-immediate.ensures, c.requires.small) }

pub loop-field-preserved : goal.loop-field-preserved
loop-field-preserved c =
    let shifted = ap (λ n. gathered (iter_rest (rev_source c.next.new.self)) (c.loop-field.word / 2 ^ n)) c.width-word.ensures in
    omega (arith, gathered_next _ _ _ _ _ _ _ c.loop-field.invariant c.in-Some.ensures.steps c.place-immediate.ensures, shifted)
