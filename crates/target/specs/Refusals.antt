-- Refusals as tables, and what writing and reading a branch promise.
use Rattle.std.specs.Prelude.{◌≡◌, ℕ, ◌<◌, ◌⊎◌, List, [], ◌∷◌, ◌++◌, length, drop, Some, None, Ok, Err, Option, Result}
use Rattle.target.specs.declared.interface.Branch.{Branch}
use Rattle.target.specs.declared.interface.WriteFault.{WriteFault}
use Rattle.target.specs.declared.interface.WriteFault.TheVariants.{UnknownKind, NotWritable, OutputShort}
use Rattle.target.specs.Meaning.{Meaning, Writable}

-- a line of a table of refusals: a code, and when it is due
pub record Refusal : Type 1 where
  pub code : ℕ
  pub when : Type 0

-- the answer that a table asks for: the code of the first line that is due, or none
abbrev pub Judged : List Refusal → Option ℕ → Type 0
Judged [] answer = answer ≡ None
Judged (line ∷ lines) answer = (line.when × (answer ≡ Some line.code)) ⊎ ((line.when → ⊥) × Judged lines answer)

-- the number by which each fault is known
abbrev pub code : WriteFault → ℕ
code UnknownKind = 6
code NotWritable = 14
code OutputShort = 13

abbrev pub refusal : {T : Type 0} → Result T WriteFault → Option ℕ
refusal (Ok x) = None
refusal (Err fault) = Some (code fault)

-- when writing is refused, with room for so many bytes
abbrev pub write_table : Meaning → Branch → ℕ → List Refusal
write_table m b room =
    record { code = 6; when = m.forms b.kind ≡ 0 }
    ∷ record { code = 14; when = Writable m b.kind b.form b.distance → ⊥ }
    ∷ record { code = 13; when = room < m.size b.kind b.form } ∷ []

-- memory after a call that puts bytes, so many, at its front and leaves the rest, or that refuses and leaves all
abbrev pub Put : {T : Type 0} → List ℕ → ℕ → List ℕ → Result T WriteFault → List ℕ → Type 0
Put bytes size before (Ok x) after = after ≡ bytes ++ drop size before
Put bytes size before (Err fault) after = after ≡ before

-- memory after writing a branch
abbrev pub Written : {T : Type 0} → Meaning → Branch → List ℕ → Result T WriteFault → List ℕ → Type 0
Written m b before r after = Put (m.bytes b.kind b.form b.distance) (m.size b.kind b.form) before r after

-- these bytes are those of this branch
pub record Means (m : Meaning) (bytes : List ℕ) (branch : Branch) : Type 0 where
  pub is_writable : Writable m branch.kind branch.form branch.distance
  pub has_bytes : m.bytes branch.kind branch.form branch.distance ≡ bytes

-- the answer to reading these bytes: the branch that means them, or none where no branch does
abbrev pub Reading : Meaning → List ℕ → Option Branch → Type 0
Reading m bytes None = (branch : Branch) → Means m bytes branch → ⊥
Reading m bytes (Some branch) = Means m bytes branch

-- what was read is written as the same bytes, where there is room for them
abbrev pub WrittenBack : Meaning → List ℕ → List ℕ → Result (Option Branch) WriteFault → List ℕ → Type 0
WrittenBack m bytes before (Ok None) after = Reading m bytes None × (after ≡ before)
WrittenBack m bytes before (Ok (Some branch)) after = Means m bytes branch × (after ≡ bytes ++ drop (length bytes) before)
WrittenBack m bytes before (Err fault) after = (fault ≡ OutputShort) × ((branch : Branch) × Means m bytes branch) × (length before < length bytes) × (after ≡ before)
