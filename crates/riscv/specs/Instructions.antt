-- The instructions of the RISC-V manual that branches are made of.
use Rattle.std.specs.Prelude.{ℕ, ◌-◌, ◌/◌, cond, List, [], ◌∷◌, ℤ, ◌==◌}
use Rattle.std.specs.Int.{to_le_bytes, w16, w32}
use Rattle.riscv.specs.declared.words.Field.{Field}
use Rattle.riscv.specs.declared.words.Field.TheVariants.{Bits, Immediate}
use Rattle.riscv.specs.declared.conditions.Comparison.{Comparison}
use Rattle.riscv.specs.declared.conditions.Condition.{Condition}
use Rattle.riscv.specs.declared.conditions.Condition.TheVariants.{Beq, Bne, Blt, Bge, Bltu, Bgeu}
use Rattle.riscv.specs.declared.words.instructions.Instruction.{Instruction}
use Rattle.riscv.specs.declared.words.instructions.Instruction.TheVariants.{CJ, CJal, CBeqz, CBnez, Jal, Branch, Auipc, Jalr}
use Rattle.riscv.specs.Words.{number, span}

abbrev pub funct3 : Condition → ℕ
funct3 Beq = 0
funct3 Bne = 1
funct3 Blt = 4
funct3 Bge = 5
funct3 Bltu = 6
funct3 Bgeu = 7

-- the condition that holds when this one does not: the lowest bit of funct3 turned
abbrev pub inverse : Condition → Condition
inverse Beq = Bne
inverse Bne = Beq
inverse Blt = Bge
inverse Bge = Blt
inverse Bltu = Bgeu
inverse Bgeu = Bltu

abbrev pub inverted : Comparison → Comparison
inverted c = record { condition = inverse c.condition; first = c.first; second = c.second }

-- the formats CJ and CB, which are 16 bits long
abbrev pub jump_format : ℕ → List Field
jump_format funct = Bits 3 funct ∷ Immediate 11 11 ∷ Immediate 4 4 ∷ Immediate 9 8 ∷ Immediate 10 10 ∷ Immediate 6 6 ∷ Immediate 7 7 ∷ Immediate 3 1 ∷ Immediate 5 5 ∷ Bits 2 0b01 ∷ []

-- the register is one of x8 to x15
abbrev pub branch_format : ℕ → ℕ → List Field
branch_format funct first = Bits 3 funct ∷ Immediate 8 8 ∷ Immediate 4 3 ∷ Bits 3 (first - 8) ∷ Immediate 7 6 ∷ Immediate 2 1 ∷ Immediate 5 5 ∷ Bits 2 0b01 ∷ []

-- the fields of each instruction; AUIPC's immediate counts in units of 4,096, the others' in bytes
abbrev pub layout : Instruction → List Field
layout CJ = jump_format 0b101
layout CJal = jump_format 0b001
layout (CBeqz first) = branch_format 0b110 first
layout (CBnez first) = branch_format 0b111 first
layout (Jal rd) = Immediate 20 20 ∷ Immediate 10 1 ∷ Immediate 11 11 ∷ Immediate 19 12 ∷ Bits 5 rd ∷ Bits 7 0b1101111 ∷ []
layout (Branch c) = Immediate 12 12 ∷ Immediate 10 5 ∷ Bits 5 c.second ∷ Bits 5 c.first ∷ Bits 3 (funct3 c.condition) ∷ Immediate 4 1 ∷ Immediate 11 11 ∷ Bits 7 0b1100011 ∷ []
layout (Auipc rd) = Immediate 19 0 ∷ Bits 5 rd ∷ Bits 7 0b0010111 ∷ []
layout (Jalr rd base) = Immediate 11 0 ∷ Bits 5 base ∷ Bits 3 0b000 ∷ Bits 5 rd ∷ Bits 7 0b1100111 ∷ []

-- an instruction with its immediate as one number, and its length in bytes
abbrev pub word : Instruction → ℤ → ℕ
word x i = number (layout x) i

abbrev pub size : Instruction → ℕ
size x = span (layout x) / 8

-- its bytes
abbrev pub stored : Instruction → ℤ → List ℕ
stored x i = cond (size x == 2) (to_le_bytes w16 (word x i)) (to_le_bytes w32 (word x i))

-- its immediate runs from minus this number to below it
abbrev pub reach : Instruction → ℕ
reach CJ = 2048
reach CJal = 2048
reach (CBeqz first) = 256
reach (CBnez first) = 256
reach (Jal rd) = 1048576
reach (Branch c) = 4096
reach (Auipc rd) = 524288
reach (Jalr rd base) = 2048
