-- Each field goes below those before it.
use Rattle.std.proofs.Common.{◌≡◌, ◌+◌, ◌*◌, ◌%◌, ◌^◌, take, arith, w32, to_z, of_z}
use Rattle.riscv.specs.Packing.{next_fits, next_is}
use Rattle.riscv.specs.Words.{number}
use Rattle.riscv.proofs.words.pack.Goals as goal
use Rattle.riscv.proofs.words.pack.Goals.{After-value}

next : (c : After-value) → (c.loop-field.word * 2 ^ c.width.result) % 2 ^ 32 + c.value.result ≡ number (take (c.loop-field.field-index + 1) c.args.fields.now) (to_z w32 (of_z w32 c.args.immediate))
next c = next_is _ c.args.fields.now c.requires c.loop-field.field-index _ _ _ _ (omega arith) c.loop-field.invariant c.width.ensures c.value.ensures

pub overflow_add-word : goal.overflow_add-word
overflow_add-word c = record { fits = omega (arith, next c, next_fits (to_z w32 (of_z w32 c.args.immediate)) c.args.fields.now c.requires c.loop-field.field-index) }

pub loop-field-preserved : goal.loop-field-preserved
loop-field-preserved c = next c
