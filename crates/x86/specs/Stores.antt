-- What the functions inside promise of encodings and displacements.
use Rattle.std.specs.Prelude.{◌≡◌, ℕ, List, ℤ, Some, None, Option, FitsSigned, ◌≢◌}
use Rattle.std.specs.Int.{w8, w32}
use Rattle.target.specs.declared.table.Spelled.{Spelled}
use Rattle.target.specs.Table.{Spells, Unspelled}
use Rattle.x86.specs.declared.encodings.Encoding.{Encoding}
use Rattle.x86.specs.declared.encodings.Encoding.TheVariants.{Short, Near, Escaped}
use Rattle.x86.specs.declared.layout.Stored.{Stored}
use Rattle.x86.specs.Encodings.{storing, table}

-- a displacement that the encoding has room for
abbrev pub InWidth : Encoding → ℤ → Type 0
InWidth (Short op) displacement = FitsSigned w8 displacement
InWidth (Near op) displacement = FitsSigned w32 displacement
InWidth (Escaped op) displacement = FitsSigned w32 displacement

-- the encoding and the displacement that these bytes store, or that they store none
abbrev pub Parted : List ℕ → Option Stored → Type 0
Parted bs None = (e : Encoding) (z : ℤ) → storing e z ≢ bs
Parted bs (Some s) = (storing s.encoding s.displacement ≡ bs) × InWidth s.encoding s.displacement

-- the encoding and the distance that these bytes spell, or that they spell none
abbrev pub Spelling : List ℕ → Option (Spelled Encoding) → Type 0
Spelling bs None = Unspelled table bs
Spelling bs (Some s) = Spells table bs s.encoding s.distance
