-- Distances and displacements as the program computes them.
use Rattle.std.proofs.Common.{◌≡◌, ℕ, List, ℤ, pos, ◌+ℤ◌, ◌-ℤ◌, Some, None, Option, sym, ap, ◌∙◌, subst, arith, w32, SFits, to_z, of_z}
use Rattle.std.proofs.lemmas.Int.{ints, to_z-of_z}
use Rattle.std.specs.Option.{SomeIff}
use Rattle.target.specs.declared.table.Spelled.{Spelled}
use Rattle.target.specs.Table.{Spells, Takes}
use Rattle.x86.specs.declared.encodings.Encoding.{Encoding}
use Rattle.x86.specs.declared.encodings.Encoding.TheVariants.{Short, Near, Escaped}
use Rattle.x86.specs.Encodings.{size, storing, table}
use Rattle.x86.specs.Stores.{InWidth, Spelling}
use Rattle.x86.specs.Laws.{in_width, storing_apart}

pub sum_is : (e : Encoding) (z : ℤ) (n : ℕ) → SFits w32 z → n ≡ size e → to_z w32 (of_z w32 z) +ℤ to_z w32 n ≡ z +ℤ pos (size e)
sum_is (Short op) z n fits is = omega (arith, ints)
sum_is (Near op) z n fits is = omega (arith, ints)
sum_is (Escaped op) z n fits is = omega (arith, ints)

pub distance_is : (e : Encoding) (z d : ℤ) (n : ℕ) → SFits w32 z → n ≡ size e → SFits w32 (to_z w32 (of_z w32 z) +ℤ to_z w32 n) × (d ≡ to_z w32 (of_z w32 z) +ℤ to_z w32 n) → to_z w32 (of_z w32 d) ≡ z +ℤ pos (size e)
distance_is e z d n fits is h = to_z-of_z w32 d (subst (SFits w32) (sym h.1) h.0) ∙ h.1 ∙ sum_is e z n fits is

pub taken_fits : (e : Encoding) (d : ℤ) → Takes table e d → SFits w32 d
taken_fits (Short op) d takes = omega (arith, ints, takes.from_low, takes.to_high)
taken_fits (Near op) d takes = omega (arith, ints, takes.from_low, takes.to_high)
taken_fits (Escaped op) d takes = omega (arith, ints, takes.from_low, takes.to_high)

less : (d z : ℤ) (n : ℕ) → d ≡ z +ℤ pos n → d -ℤ pos n ≡ z
less d z n sum = omega (arith, ints)

-- bytes that store a displacement, and the distance that they then spell
module _ {bs : List ℕ} (e : Encoding) (z : ℤ) (are : storing e z ≡ bs) (fits : InWidth e z) where
  pub spelled_takes : (e' : Encoding) (d : ℤ) → Spells table bs e' d → Takes table e (z +ℤ pos (size e))
  spelled_takes e' d spells =
      let parts = storing_apart e e' z _ fits (in_width e' d spells.takes) (are ∙ sym spells.has_bytes) in
      let sum : d ≡ z +ℤ pos (size e) = omega (arith, ints, parts.1, ap size parts.0) in
      subst (Takes table e) sum (subst (λ x. Takes table x d) (sym parts.0) spells.takes)

  pub decoded_by : (d : ℤ) → d ≡ z +ℤ pos (size e) → (r : Option (Spelled Encoding)) → SomeIff r (Takes table e d) (record { encoding = e; distance = d }) → Spelling bs r
  decoded_by d sum None out = λ e' d' spells. out (subst (Takes table e) (sym sum) (spelled_takes e' d' spells))
  decoded_by d sum (Some s) within =
      let spells : Spells table bs e d = record { takes = within.0; has_bytes = ap (storing e) (less d z (size e) sum) ∙ are } in
      subst (λ (x : Spelled Encoding). Spells table bs x.encoding x.distance) (sym within.1) spells
