-- What the functions inside look for: the encoding and distance that bytes spell, and the number of a kind.
use Rattle.std.specs.Prelude.{◌≡◌, ℕ, cond, List, [], ◌∷◌, ℤ, pos, ◌-ℤ◌, ◌≤ℤ◌, Some, None, Option, ◌==◌, ◌≢◌}
use Rattle.std.specs.Option.{option_map}
use Rattle.target.specs.Meaning.{highest, lowest}
use Rattle.target.specs.declared.table.Spelled.{Spelled}
use Rattle.target.specs.Table.{Spells, encoding}
use Rattle.riscv.specs.declared.encodings.Encoding.{Encoding}
use Rattle.riscv.specs.declared.encodings.Encoding.TheVariants.{One}
use Rattle.riscv.specs.declared.kinds.Kind.{Kind}
use Rattle.riscv.specs.declared.kinds.Kind.TheVariants.{J, Call, Conditional}
use Rattle.riscv.specs.declared.words.instructions.Instruction.{Instruction}
use Rattle.riscv.specs.declared.words.instructions.Step.{Step}
use Rattle.riscv.specs.Encodings.{comparison, instructions, lower, table, upper}
use Rattle.riscv.specs.Reading.{immediate}

-- the kind that a number stands for
abbrev pub kind : ℕ → Option Kind
kind number = cond (number == 0) (Some J) (cond (number == 1) (Some Call) (option_map Conditional (comparison number)))

-- the number of a kind, or that it has none
abbrev pub Numbered : Kind → Option ℕ → Type 0
Numbered k None = (number : ℕ) → kind number ≢ Some k
Numbered k (Some number) = kind number ≡ Some k

-- the encoding and distance that these bytes spell, if any of a kind do
abbrev pub FindsSpelling : List ℕ → Option (Spelled Encoding) → Type 0
FindsSpelling bytes found = (kind form : ℕ) (e : Encoding) (d : ℤ) → encoding table kind form ≡ Some e → Spells table bytes e d → found ≡ Some (record { encoding = e; distance = d })

-- the distance of a far jump, by its two parts, and of a long branch, by the distance of its jump
abbrev pub FindsFar : ℤ → ℤ → ℤ → Type 0
FindsFar high below found = (d : ℤ) → lowest ≤ℤ d → d ≤ℤ highest → upper d ≡ high → lower d ≡ below → found ≡ d

abbrev pub FindsLong : ℤ → ℤ → Type 0
FindsLong onward found = (d : ℤ) → lowest ≤ℤ d → d ≤ℤ highest → d -ℤ pos 4 ≡ onward → found ≡ d

-- an instruction with the immediate that a word holds for it
abbrev pub step : ℕ → Option Instruction → Option Step
step word None = None
step word (Some x) = Some (record { instruction = x; immediate = immediate x word })

-- the encoding and distance of an instruction alone
abbrev pub alone : Option Step → Option (Spelled Encoding)
alone None = None
alone (Some s) = Some (record { encoding = One s.instruction; distance = s.immediate })

-- the encoding and distance of two instructions
abbrev pub FindsPair : Option Step → Option Step → Option (Spelled Encoding) → Type 0
FindsPair first second found = (s t : Step) (e : Encoding) (d : ℤ) → first ≡ Some s → second ≡ Some t → instructions e d ≡ s ∷ t ∷ [] → lowest ≤ℤ d → d ≤ℤ highest → found ≡ Some (record { encoding = e; distance = d })
