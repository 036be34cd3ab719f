-- Four bytes of a list, read as a number.
use Rattle.std.proofs.Common.{◌≡◌, ℕ, zero, suc, ◌+◌, ◌<◌, List, [], ◌∷◌, get_or, refl, arith, w8, w32, Fits}
use Rattle.std.specs.Int.{from_le_bytes, to_le_bytes}
use Rattle.std.proofs.lemmas.Nat.{le_bytes_4}

module _ (bytes : List ℕ) (typed : (j : ℕ) → Fits w8 (get_or bytes j 0)) (i : ℕ) where
  -- from the i-th on
  abbrev pub four : List ℕ
  four = get_or bytes i 0 ∷ get_or bytes (1 + i) 0 ∷ get_or bytes (2 + i) 0 ∷ get_or bytes (3 + i) 0 ∷ []

  four_typed : (j : ℕ) → get_or four j 0 < 256
  four_typed zero = (typed i).fits
  four_typed (suc zero) = (typed (1 + i)).fits
  four_typed (suc (suc zero)) = (typed (2 + i)).fits
  four_typed (suc (suc (suc zero))) = (typed (3 + i)).fits
  four_typed (suc (suc (suc (suc j)))) = omega arith

  -- they are stored as themselves
  pub four_are : (n : ℕ) → n ≡ from_le_bytes w32 four → to_le_bytes w32 n ≡ four
  four_are n is = le_bytes_4 four n refl four_typed is
