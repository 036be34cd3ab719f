-- The branch instructions of the Intel manual in 32-bit mode: their encodings, and what they mean as a target.
use Rattle.std.specs.Prelude.{ℕ, ◌+◌, ◌-◌, ◌*◌, ◌^◌, cond, List, [], ◌∷◌, ◌++◌, length, ℤ, pos, ◌+ℤ◌, ◌-ℤ◌, ◌==◌, nat_lt}
use Rattle.std.proofs.Common.{of_z}
use Rattle.std.specs.Int.{int_max, int_min, to_le_bytes, w8, w32}
use Rattle.target.specs.Meaning.{Meaning, lowest, highest}
use Rattle.target.specs.Table.{Table, tabled}
use Rattle.x86.specs.declared.encodings.Encoding.{Encoding}
use Rattle.x86.specs.declared.encodings.Encoding.TheVariants.{Short, Near, Escaped}

-- the encodings of each kind, smallest first; a conditional jump has the number of its condition
abbrev pub encodings : ℕ → List Encoding
encodings kind =
    cond (nat_lt kind 16) (Short (0x70 + kind) ∷ Escaped (0x80 + kind) ∷ [])  -- jcc
    (cond (kind == 16) (Short 0xEB ∷ Near 0xE9 ∷ [])  -- jmp
    (cond (kind == 17) (Near 0xE8 ∷ [])  -- call
    (cond (kind == 18) (Short 0xE3 ∷ []) [])))  -- jecxz

abbrev pub opcode : Encoding → List ℕ
opcode (Short op) = op ∷ []
opcode (Near op) = op ∷ []
opcode (Escaped op) = 0x0F ∷ op ∷ []

-- bytes of the displacement: rel8 or rel32
abbrev pub width : Encoding → ℕ
width (Short op) = 1
width (Near op) = 4
width (Escaped op) = 4

abbrev pub size : Encoding → ℕ
size e = length (opcode e) + width e

-- A displacement of w bytes runs from -2^(8w-1) to 2^(8w-1) - 1 and counts from the end of the instruction.
-- The reach is that, counted from the first byte and cut to what a target may reach.
abbrev pub low : Encoding → ℤ
low e = int_max lowest (pos (size e) -ℤ pos (2 ^ (8 * width e - 1)))

abbrev pub high : Encoding → ℤ
high e = int_min highest (pos (size e) +ℤ pos (2 ^ (8 * width e - 1) - 1))

-- the displacement in two's complement, lowest byte first
abbrev pub stored : Encoding → ℤ → List ℕ
stored (Short op) displacement = of_z w8 displacement ∷ []
stored (Near op) displacement = to_le_bytes w32 (of_z w32 displacement)
stored (Escaped op) displacement = to_le_bytes w32 (of_z w32 displacement)

-- the instruction that stores a displacement, and the one that branches over a distance
abbrev pub storing : Encoding → ℤ → List ℕ
storing e displacement = opcode e ++ stored e displacement

abbrev pub bytes : Encoding → ℤ → List ℕ
bytes e distance = storing e (distance -ℤ pos (size e))

abbrev pub table : Table Encoding
table = record { granule = 1; encodings = encodings; size = size; low = low; high = high; bytes = bytes }

abbrev pub x86 : Meaning
x86 = tabled table
