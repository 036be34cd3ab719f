-- What a target means, when it is lawful, and what a branch of it is.
use Rattle.std.specs.Prelude.{◌≡◌, ℕ, ◌%◌, ◌^◌, ◌<◌, ◌≤◌, ◌⊎◌, List, length, ℤ, pos, neg_ℤ, ◌≤ℤ◌, int_rem}

-- Kinds, forms and sizes are numbers; distances are signed, count from the branch's first byte, and are negative towards lower addresses.
pub record Meaning : Type 0 where
  -- every address and every size is a multiple of it
  pub granule : ℕ
  -- how many forms a kind has; none when the kind is unknown
  pub forms : ℕ → ℕ
  -- of a kind and a form: its length in bytes, and the distances between which it reaches
  pub size : ℕ → ℕ → ℕ
  pub low : ℕ → ℕ → ℤ
  pub high : ℕ → ℕ → ℤ
  -- of a kind, a form and a distance: the bytes, lowest address first
  pub bytes : ℕ → ℕ → ℤ → List ℕ

-- a form of a kind, which is a 32-bit number
pub record Exists (m : Meaning) (kind form : ℕ) : Type 0 where
  pub is_kind : kind < 2 ^ 32
  pub is_form : form < m.forms kind

abbrev pub Multiple : ℕ → ℤ → Type 0
Multiple granule distance = int_rem distance (pos granule) ≡ pos 0

-- a form that exists, with a distance that it reaches and that the granule divides
pub record Writable (m : Meaning) (kind form : ℕ) (distance : ℤ) : Type 0 where
  pub is_there : Exists m kind form
  pub from_low : m.low kind form ≤ℤ distance
  pub to_high : distance ≤ℤ m.high kind form
  pub in_step : Multiple m.granule distance

-- the farthest that any form of any target reaches, down and up
abbrev pub lowest : ℤ
lowest = neg_ℤ (pos 33554432)

abbrev pub highest : ℤ
highest = pos 33554431

-- All that is asked of a target. A larger form need not reach farther than a smaller one.
pub record Lawful (m : Meaning) : Type 0 where
  pub granule_is : (m.granule ≡ 1) ⊎ ((m.granule ≡ 2) ⊎ (m.granule ≡ 4))
  pub forms_most : (kind : ℕ) → kind < 2 ^ 32 → m.forms kind ≤ 4
  pub size_least : (kind form : ℕ) → Exists m kind form → 1 ≤ m.size kind form
  pub size_most : (kind form : ℕ) → Exists m kind form → m.size kind form ≤ 16
  pub size_in_step : (kind form : ℕ) → Exists m kind form → m.size kind form % m.granule ≡ 0
  pub size_grows : (kind small large : ℕ) → small < large → Exists m kind large → m.size kind small < m.size kind large
  pub low_bound : (kind form : ℕ) → Exists m kind form → lowest ≤ℤ m.low kind form
  pub low_reaches : (kind form : ℕ) → Exists m kind form → m.low kind form ≤ℤ pos 0
  pub high_reaches : (kind form : ℕ) → Exists m kind form → pos 0 ≤ℤ m.high kind form
  pub high_bound : (kind form : ℕ) → Exists m kind form → m.high kind form ≤ℤ highest
  pub absent : (kind form : ℕ) → kind < 2 ^ 32 → m.forms kind ≤ form → (m.size kind form ≡ 0) × (m.low kind form ≡ pos 0) × (m.high kind form ≡ pos 0)
  pub bytes_fill : (kind form : ℕ) (distance : ℤ) → Writable m kind form distance → length (m.bytes kind form distance) ≡ m.size kind form
  pub bytes_apart : (k k' f f' : ℕ) (d d' : ℤ) → Writable m k f d → Writable m k' f' d' → m.bytes k f d ≡ m.bytes k' f' d' → (k ≡ k') × (f ≡ f') × (d ≡ d')
