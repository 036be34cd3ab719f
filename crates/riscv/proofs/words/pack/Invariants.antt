use Rattle.std.proofs.Common.{◌≡◌, take}
use Rattle.riscv.specs.Words.{number}
use Rattle.riscv.proofs.words.pack.Given as goal

-- the word that the fields so far make
abbrev pub invariant-loop-field : goal.invariant-loop-field
invariant-loop-field l = l.word ≡ number (take l.field-index l.fields) l.immediate
