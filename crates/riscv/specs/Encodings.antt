-- The branches of RV32I with C: their encodings, and what they mean as a target.
use Rattle.std.specs.Prelude.{ℕ, ◌-◌, ◌/◌, ◌%◌, cond, List, [], ◌∷◌, ◌++◌, ℤ, pos, ◌+ℤ◌, ◌-ℤ◌, ◌*ℤ◌, neg_ℤ, Some, None, Option, ◌==◌, nat_le, nat_lt}
use Rattle.std.specs.Int.Signed.{shr_z}
use Rattle.std.specs.List.{slice_get}
use Rattle.target.specs.Meaning.{Meaning, lowest, highest}
use Rattle.target.specs.Table.{Table, tabled}
use Rattle.riscv.specs.declared.encodings.Encoding.{Encoding}
use Rattle.riscv.specs.declared.encodings.Encoding.TheVariants.{One, Far, Long}
use Rattle.riscv.specs.declared.conditions.Comparison.{Comparison}
use Rattle.riscv.specs.declared.conditions.Condition.{Condition}
use Rattle.riscv.specs.declared.conditions.Condition.TheVariants.{Beq, Bne, Blt, Bge, Bltu, Bgeu}
use Rattle.riscv.specs.declared.words.instructions.Instruction.{Instruction}
use Rattle.riscv.specs.declared.words.instructions.Instruction.TheVariants.{CJ, CJal, CBeqz, CBnez, Jal, Branch, Auipc, Jalr}
use Rattle.riscv.specs.declared.words.instructions.Step.{Step}
use Rattle.riscv.specs.Instructions.{inverted, reach, size as size_of, stored}

-- the 16-bit instructions that compare a register with x0
abbrev pub against_zero : Condition → ℕ → Option Instruction
against_zero Beq first = Some (CBeqz first)
against_zero Bne first = Some (CBnez first)
against_zero Blt first = None
against_zero Bge first = None
against_zero Bltu first = None
against_zero Bgeu first = None

-- the one that a condition over two registers has: they know the registers x8 to x15 only
abbrev pub compressed : Comparison → Option Instruction
compressed c = cond (c.second == 0) (cond (nat_le 8 c.first) (cond (nat_le c.first 15) (against_zero c.condition c.first) None) None) None

-- the conditions, numbered from 0
abbrev pub conditions : List Condition
conditions = Beq ∷ Bne ∷ Blt ∷ Bge ∷ Bltu ∷ Bgeu ∷ []

-- the condition over registers that a kind is: 4096 + 1024 * its number + 32 * first + second
abbrev pub comparing : ℕ → Option Condition → Option Comparison
comparing n None = None
comparing n (Some condition) = Some (record { condition = condition; first = n / 32 % 32; second = n % 32 })

abbrev pub comparison : ℕ → Option Comparison
comparison kind = cond (nat_lt kind 4096) None (comparing (kind - 4096) (slice_get conditions ((kind - 4096) / 1024)))

-- the encodings of a condition, smallest first
abbrev pub both : Comparison → Option Instruction → List Encoding
both c None = One (Branch c) ∷ Long c ∷ []
both c (Some x) = One x ∷ One (Branch c) ∷ Long c ∷ []

abbrev pub conditional : Option Comparison → List Encoding
conditional None = []
conditional (Some c) = both c (compressed c)

-- the encodings of each kind, smallest first
abbrev pub encodings : ℕ → List Encoding
encodings kind =
    cond (kind == 0) (One CJ ∷ One (Jal 0) ∷ Far 0 6 ∷ [])  -- j
    (cond (kind == 1) (One CJal ∷ One (Jal 1) ∷ Far 1 1 ∷ [])  -- call
    (conditional (comparison kind)))

abbrev pub size : Encoding → ℕ
size (One x) = size_of x
size (Far link through) = 8
size (Long c) = 8

-- The distances are even. The jump of the long form stands 4 bytes behind the branch. AUIPC with JALR reaches farther than any target may.
abbrev pub low : Encoding → ℤ
low (One x) = neg_ℤ (pos (reach x))
low (Far link through) = lowest
low (Long c) = neg_ℤ (pos (reach (Jal 0))) +ℤ pos 4

abbrev pub high : Encoding → ℤ
high (One x) = pos (reach x) -ℤ pos 2
high (Far link through) = highest
high (Long c) = pos (reach (Jal 0)) -ℤ pos 2 +ℤ pos 4

-- a distance as so many times 4,096, to the nearest, and what is left
abbrev pub upper : ℤ → ℤ
upper d = shr_z (d +ℤ pos 2048) 4096

abbrev pub lower : ℤ → ℤ
lower d = d -ℤ pos 4096 *ℤ upper d

-- the instructions of a branch over a distance, with their immediates
abbrev pub instructions : Encoding → ℤ → List Step
instructions (One x) d = record { instruction = x; immediate = d } ∷ []
instructions (Far link through) d = record { instruction = Auipc through; immediate = upper d } ∷ record { instruction = Jalr link through; immediate = lower d } ∷ []
instructions (Long c) d = record { instruction = Branch (inverted c); immediate = pos 8 } ∷ record { instruction = Jal 0; immediate = d -ℤ pos 4 } ∷ []

-- the bytes of instructions, one after another
abbrev pub in_order : List Step → List ℕ
in_order [] = []
in_order (s ∷ []) = stored s.instruction s.immediate
in_order (s ∷ t ∷ rest) = stored s.instruction s.immediate ++ in_order (t ∷ rest)

abbrev pub bytes : Encoding → ℤ → List ℕ
bytes e d = in_order (instructions e d)

abbrev pub table : Table Encoding
table = record { granule = 2; encodings = encodings; size = size; low = low; high = high; bytes = bytes }

abbrev pub riscv : Meaning
riscv = tabled table
