-- Instruction words as lists of fields, highest bits first, as the manual prints them.
use Rattle.std.specs.Prelude.{ℕ, ◌+◌, ◌-◌, ◌*◌, ◌/◌, ◌%◌, ◌^◌, ◌<◌, ◌≤◌, List, [], ◌∷◌, ℤ}
use Rattle.std.specs.Int.{w32}
use Rattle.std.proofs.Common.{of_z}
use Rattle.std.specs.List.{AllByRecursion}
use Rattle.riscv.specs.declared.words.Field.{Field}
use Rattle.riscv.specs.declared.words.Field.TheVariants.{Bits, Immediate}

-- how many bits a field has
abbrev pub width : Field → ℕ
width (Bits count number) = count
width (Immediate high low) = 1 + high - low

-- the bits from high to low of a signed number in two's complement
abbrev pub bits_of : ℤ → ℕ → ℕ → ℕ
bits_of i high low = of_z w32 i / 2 ^ low % 2 ^ (1 + high - low)

-- what a field holds, in a word whose immediate is i
abbrev pub held : ℤ → Field → ℕ
held i (Bits count number) = number % 2 ^ count
held i (Immediate high low) = bits_of i high low

-- how many bits a word has
abbrev pub span : List Field → ℕ
span [] = 0
span (f ∷ fs) = width f + span fs

-- the number of a word
abbrev pub number : List Field → ℤ → ℕ
number [] i = 0
number (f ∷ fs) i = held i f * 2 ^ span fs + number fs i

-- a field that a 32-bit word has room for, and all fields of a word
abbrev pub InWord : Field → Type 0
InWord (Bits count number) = (0 < count) × (count < 32)
InWord (Immediate high low) = (low ≤ high) × (high < 31)

pub record Laid (fields : List Field) : Type 0 where
  pub each : AllByRecursion InWord fields
  pub room : span fields ≤ 32
