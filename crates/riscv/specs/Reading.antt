-- How a word is taken apart: the instruction that it can be, by its opcode, and the immediate that it then holds.
use Rattle.std.specs.Prelude.{ℕ, ◌+◌, ◌-◌, ◌*◌, ◌/◌, ◌%◌, ◌^◌, cond, List, [], ◌∷◌, ℤ, pos, ◌-ℤ◌, Some, None, Option, ◌==◌, nat_lt}
use Rattle.riscv.specs.declared.words.Field.{Field}
use Rattle.riscv.specs.declared.words.Field.TheVariants.{Bits, Immediate}
use Rattle.riscv.specs.declared.conditions.Condition.{Condition}
use Rattle.riscv.specs.declared.conditions.Condition.TheVariants.{Beq, Bne, Blt, Bge, Bltu, Bgeu}
use Rattle.riscv.specs.declared.words.instructions.Instruction.{Instruction}
use Rattle.riscv.specs.declared.words.instructions.Instruction.TheVariants.{CJ, CJal, CBeqz, CBnez, Jal, Branch, Auipc, Jalr}
use Rattle.riscv.specs.Instructions.{layout, reach}
use Rattle.riscv.specs.Words.{span}

-- the bits of a word from high to low
abbrev pub cut : ℕ → ℕ → ℕ → ℕ
cut word high low = word / 2 ^ low % 2 ^ (1 + high - low)

-- the condition with this funct3
abbrev pub condition : ℕ → Option Condition
condition n =
    cond (n == 0) (Some Beq)
    (cond (n == 1) (Some Bne)
    (cond (n == 4) (Some Blt)
    (cond (n == 5) (Some Bge)
    (cond (n == 6) (Some Bltu)
    (cond (n == 7) (Some Bgeu) None)))))

abbrev pub comparing : ℕ → ℕ → Option Condition → Option Instruction
comparing first second None = None
comparing first second (Some c) = Some (Branch (record { condition = c; first = first; second = second }))

-- the instruction that a word of 16 bits can be, by its funct3
abbrev pub half_by : ℕ → ℕ → Option Instruction
half_by funct first =
    cond (funct == 0b101) (Some CJ)
    (cond (funct == 0b001) (Some CJal)
    (cond (funct == 0b110) (Some (CBeqz first))
    (cond (funct == 0b111) (Some (CBnez first)) None)))

abbrev pub half : ℕ → Option Instruction
half word = half_by (cut word 15 13) (8 + cut word 9 7)

-- and one of 32 bits, by its opcode
abbrev pub whole_by : ℕ → ℕ → ℕ → ℕ → ℕ → Option Instruction
whole_by opcode rd funct first second =
    cond (opcode == 0b1101111) (Some (Jal rd))
    (cond (opcode == 0b1100011) (comparing first second (condition funct))
    (cond (opcode == 0b0010111) (Some (Auipc rd))
    (cond (opcode == 0b1100111) (Some (Jalr rd first)) None)))

abbrev pub whole : ℕ → Option Instruction
whole word = whole_by (cut word 6 0) (cut word 11 7) (cut word 14 12) (cut word 19 15) (cut word 24 20)

-- a field of the immediate, put back to its place in the immediate
abbrev pub placed : Field → ℕ → ℕ
placed (Bits count n) bits = 0
placed (Immediate high low) bits = bits % 2 ^ (1 + high - low) * 2 ^ low

-- all of them in a word
abbrev pub gathered : List Field → ℕ → ℕ
gathered [] word = 0
gathered (f ∷ fs) word = placed f (word / 2 ^ span fs) + gathered fs word

-- the number from -reach to below reach whose two's complement this is
abbrev pub twos_complement : ℕ → ℕ → ℤ
twos_complement reach n = cond (nat_lt n reach) (pos n) (pos n -ℤ pos (2 * reach))

abbrev pub immediate : Instruction → ℕ → ℤ
immediate x word = twos_complement (reach x) (gathered (layout x) word)
