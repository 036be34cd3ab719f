-- A target given by a table: the encodings of each kind, smallest first.
use Rattle.std.specs.Prelude.{◌≡◌, ℕ, ◌%◌, ◌<◌, ◌≤◌, ◌⊎◌, List, [], ◌∷◌, length, ℤ, pos, ◌≤ℤ◌, Some, None, Option, Result, ◌≢◌}
use Rattle.std.specs.List.{slice_get}
use Rattle.target.specs.declared.interface.WriteFault.{WriteFault}
use Rattle.target.specs.declared.interface.Entry.{Entry}
use Rattle.target.specs.declared.table.Spelled.{Spelled}
use Rattle.target.specs.Meaning.{Meaning, Multiple, highest, lowest}
use Rattle.target.specs.Refusals.{Put, Refusal}

-- E is the instruction set's own notion of an encoding
pub record Table (E : Type 0) : Type 0 where
  pub granule : ℕ
  pub encodings : ℕ → List E
  pub size : E → ℕ
  pub low : E → ℤ
  pub high : E → ℤ
  pub bytes : E → ℤ → List ℕ

-- the encoding of a kind and a form
abbrev pub encoding : {E : Type 0} → Table E → ℕ → ℕ → Option E
encoding t kind form = slice_get (t.encodings kind) form

-- something of an encoding, or what stands for it where there is no such form
abbrev pub of_form : {E A : Type 0} → A → (E → A) → Option E → A
of_form none some None = none
of_form none some (Some e) = some e

-- the target that a table means
abbrev pub tabled : {E : Type 0} → Table E → Meaning
tabled t = record {
  granule = t.granule;
  forms = λ kind. length (t.encodings kind);
  size = λ kind form. of_form 0 t.size (encoding t kind form);
  low = λ kind form. of_form (pos 0) t.low (encoding t kind form);
  high = λ kind form. of_form (pos 0) t.high (encoding t kind form);
  bytes = λ kind form distance. of_form [] (λ e. t.bytes e distance) (encoding t kind form);
}

-- a distance that an encoding can be written with
pub record Takes {E : Type 0} (t : Table E) (e : E) (distance : ℤ) : Type 0 where
  pub from_low : t.low e ≤ℤ distance
  pub to_high : distance ≤ℤ t.high e
  pub in_step : Multiple t.granule distance

-- when writing an encoding is refused, with room for so many bytes
abbrev pub encode_table : {E : Type 0} → Table E → E → ℤ → ℕ → List Refusal
encode_table t e distance room =
    record { code = 14; when = Takes t e distance → ⊥ }
    ∷ record { code = 13; when = room < t.size e } ∷ []

-- memory after writing an encoding
abbrev pub Encoded : {E X : Type 0} → Table E → E → ℤ → List ℕ → Result X WriteFault → List ℕ → Type 0
Encoded t e distance before r after = Put (t.bytes e distance) (t.size e) before r after

-- these bytes are those of this encoding with this distance
pub record Spells {E : Type 0} (t : Table E) (bytes : List ℕ) (e : E) (distance : ℤ) : Type 0 where
  pub takes : Takes t e distance
  pub has_bytes : t.bytes e distance ≡ bytes

-- no encoding with any distance has these bytes
abbrev pub Unspelled : {E : Type 0} → Table E → List ℕ → Type 0
Unspelled {E} t bytes = (e : E) (distance : ℤ) → Spells t bytes e distance → ⊥

-- this encoding is that of no kind
abbrev pub Unlisted : {E : Type 0} → Table E → E → Type 0
Unlisted t e = (kind form : ℕ) → encoding t kind form ≢ Some e

-- what holds of each encoding of a kind that has these bytes
abbrev pub Each : {E : Type 0} → Table E → List ℕ → (E → Type 0) → Type 0
Each {E} t bytes P = (kind form : ℕ) (e : E) (distance : ℤ) → encoding t kind form ≡ Some e → Spells t bytes e distance → P e

-- the answer to taking bytes apart: an encoding and a distance that they are, where no other encoding of a kind has them; or none, where no encoding of a kind has them
abbrev pub Decoded : {E : Type 0} → Table E → List ℕ → Option (Spelled E) → Type 0
Decoded t bytes None = Each t bytes (λ e. ⊥)
Decoded t bytes (Some s) = Spells t bytes s.encoding s.distance × Each t bytes (λ e. e ≡ s.encoding)

-- whose encoding this is: a kind and a form, or nobody's
abbrev pub Entered : {E : Type 0} → Table E → E → Option Entry → Type 0
Entered t e None = Unlisted t e
Entered t e (Some entry) = encoding t entry.kind entry.form ≡ Some e

-- what is asked of an encoding: its length and its reach are within the bounds of a target
pub record Bounded {E : Type 0} (t : Table E) (e : E) : Type 0 where
  pub size_least : 1 ≤ t.size e
  pub size_most : t.size e ≤ 16
  pub size_in_step : t.size e % t.granule ≡ 0
  pub low_bound : lowest ≤ℤ t.low e
  pub low_reaches : t.low e ≤ℤ pos 0
  pub high_reaches : pos 0 ≤ℤ t.high e
  pub high_bound : t.high e ≤ℤ highest

pub record ExtentLaws {E : Type 0} (t : Table E) : Type 0 where
  pub granule_is : (t.granule ≡ 1) ⊎ ((t.granule ≡ 2) ⊎ (t.granule ≡ 4))
  pub bounded : (e : E) → Bounded t e

-- what is asked of the encodings of kinds: those of one grow, and bytes tell those of all apart
pub record KindLaws {E : Type 0} (t : Table E) : Type 0 where
  pub forms_most : (k : ℕ) → length (t.encodings k) ≤ 4
  pub size_grows : (k small large : ℕ) → small < large → large < length (t.encodings k) → (tabled t).size k small < (tabled t).size k large
  pub bytes_fill : (e : E) (d : ℤ) → Takes t e d → length (t.bytes e d) ≡ t.size e
  pub branches_apart : (k k' f f' : ℕ) (e e' : E) (d d' : ℤ) → encoding t k f ≡ Some e → encoding t k' f' ≡ Some e' → Takes t e d → Takes t e' d' → t.bytes e d ≡ t.bytes e' d' → (k ≡ k') × (f ≡ f') × (d ≡ d')
