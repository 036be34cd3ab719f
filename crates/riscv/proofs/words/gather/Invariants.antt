use Rattle.std.proofs.Common.{◌≡◌, ◌+◌}
use Rattle.std.specs.Iterator.Adapters.{rev_source}
use Rattle.std.specs.Slice.Iter.{iter_rest}
use Rattle.riscv.specs.Reading.{gathered}
use Rattle.riscv.proofs.words.gather.Given as goal

-- what is gathered so far, and the fields that are left above it
abbrev pub invariant-loop-field : goal.invariant-loop-field
invariant-loop-field l = gathered l.fields l.fn.word ≡ l.immediate + gathered (iter_rest (rev_source l.field-iterator)) l.word
