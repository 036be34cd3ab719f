-- The table of x86 keeps the laws of a table.
use Rattle.std.specs.Prelude.{◌≡◌, ℕ, ◌<◌, ◌≤◌, length, drop, ℤ, pos, ◌-ℤ◌, Some, FitsSigned, refl}
use Rattle.std.proofs.Common.{sym, ap, ◌∙◌, inl, arith, lit≤, of_z, to_z}
use Rattle.std.specs.Int.Signed.{le_z_yes}
use Rattle.std.specs.Int.{Width, from_le_bytes, to_le_bytes, w8, w32}
use mir.ValLaws.{of_z_fits}
use Rattle.std.proofs.lemmas.Int.{ints, to_z-of_z}
use Rattle.std.proofs.lemmas.Nat.{from_le_bytes-to_le_bytes_4}
use Rattle.std.proofs.lemmas.Bool.Decides.{nat_tests}
use Rattle.target.specs.Table.{Bounded, ExtentLaws, KindLaws, Takes, encoding}
use Rattle.target.proofs.Tables.{told_apart}
use Rattle.x86.specs.declared.encodings.Encoding.{Encoding}
use Rattle.x86.specs.declared.encodings.Encoding.TheVariants.{Short, Near, Escaped}
use Rattle.x86.specs.Encodings.{bytes, encodings, size, storing, table, x86}
use Rattle.x86.specs.Stores.{InWidth}

bounded : (e : Encoding) → Bounded table e
bounded (Short op) = record { size_least = lit≤ tt; size_most = lit≤ tt; size_in_step = refl; low_bound = le_z_yes tt; low_reaches = le_z_yes tt; high_reaches = le_z_yes tt; high_bound = le_z_yes tt }
bounded (Near op) = record { size_least = lit≤ tt; size_most = lit≤ tt; size_in_step = refl; low_bound = le_z_yes tt; low_reaches = le_z_yes tt; high_reaches = le_z_yes tt; high_bound = le_z_yes tt }
bounded (Escaped op) = record { size_least = lit≤ tt; size_most = lit≤ tt; size_in_step = refl; low_bound = le_z_yes tt; low_reaches = le_z_yes tt; high_reaches = le_z_yes tt; high_bound = le_z_yes tt }

pub extents : ExtentLaws table
extents = record { granule_is = inl refl; bounded = bounded }

bytes_fill : (e : Encoding) (d : ℤ) → length (bytes e d) ≡ size e
bytes_fill (Short op) d = refl
bytes_fill (Near op) d = refl
bytes_fill (Escaped op) d = refl

forms_most : (k : ℕ) → length (encodings k) ≤ 4
forms_most k = grind (arith, nat_tests)

size_grows : (k small large : ℕ) → small < large → large < length (encodings k) → x86.size k small < x86.size k large
size_grows k small large h there = grind (arith, nat_tests)

pub entries_apart : (k k' f f' : ℕ) (e : Encoding) → encoding table k f ≡ Some e → encoding table k' f' ≡ Some e → (k ≡ k') × (f ≡ f')
entries_apart k k' f f' e p p' = (grind (arith, nat_tests), grind (arith, nat_tests))

-- a distance that an encoding takes leaves a displacement that it has room for
pub in_width : (e : Encoding) (d : ℤ) → Takes table e d → InWidth e (d -ℤ pos (size e))
in_width (Short op) d takes = omega (arith, ints, takes.from_low, takes.to_high)
in_width (Near op) d takes = omega (arith, ints, takes.from_low, takes.to_high)
in_width (Escaped op) d takes = omega (arith, ints, takes.from_low, takes.to_high)

bits_apart : (w : Width) (z z' : ℤ) → FitsSigned w z → FitsSigned w z' → of_z w z ≡ of_z w z' → z ≡ z'
bits_apart w z z' fits fits' same = sym (to_z-of_z w z fits) ∙ ap (to_z w) same ∙ to_z-of_z w z' fits'

four_apart : (z z' : ℤ) → FitsSigned w32 z → FitsSigned w32 z' → to_le_bytes w32 (of_z w32 z) ≡ to_le_bytes w32 (of_z w32 z') → z ≡ z'
four_apart z z' fits fits' same =
    bits_apart w32 z z' fits fits' (sym (from_le_bytes-to_le_bytes_4 (of_z w32 z) (of_z_fits w32 z fits).fits) ∙ ap (from_le_bytes w32) same ∙ from_le_bytes-to_le_bytes_4 (of_z w32 z') (of_z_fits w32 z' fits').fits)

-- an instruction's bytes tell its encoding and its displacement
pub storing_apart : (e e' : Encoding) (z z' : ℤ) → InWidth e z → InWidth e' z' → storing e z ≡ storing e' z' → (e ≡ e') × (z ≡ z')
storing_apart (Short op) (Short op') z z' fits fits' same =
    let ops : op ≡ op' = cc in
    let bits : of_z w8 z ≡ of_z w8 z' = cc in
    (ap Short ops, bits_apart w8 z z' fits fits' bits)
storing_apart (Short op) (Near op') z z' fits fits' same = absurd (omega (arith, ap length same))
storing_apart (Short op) (Escaped op') z z' fits fits' same = absurd (omega (arith, ap length same))
storing_apart (Near op) (Short op') z z' fits fits' same = absurd (omega (arith, ap length same))
storing_apart (Near op) (Near op') z z' fits fits' same =
    let ops : op ≡ op' = cc in (ap Near ops, four_apart z z' fits fits' (ap (drop 1) same))
storing_apart (Near op) (Escaped op') z z' fits fits' same = absurd (omega (arith, ap length same))
storing_apart (Escaped op) (Short op') z z' fits fits' same = absurd (omega (arith, ap length same))
storing_apart (Escaped op) (Near op') z z' fits fits' same = absurd (omega (arith, ap length same))
storing_apart (Escaped op) (Escaped op') z z' fits fits' same =
    let ops : op ≡ op' = cc in (ap Escaped ops, four_apart z z' fits fits' (ap (drop 2) same))

pub bytes_apart : (e e' : Encoding) (d d' : ℤ) → Takes table e d → Takes table e' d' → bytes e d ≡ bytes e' d' → (e ≡ e') × (d ≡ d')
bytes_apart e e' d d' takes takes' same =
    let parts = storing_apart e e' _ _ (in_width e d takes) (in_width e' d' takes') same in
    (parts.0, omega (arith, ints, parts.1, ap size parts.0))

pub laws : KindLaws table
laws = record {
  forms_most = forms_most;
  size_grows = size_grows;
  bytes_fill = λ e d takes. bytes_fill e d;
  branches_apart = told_apart table (λ e. Unit {0}) (λ k f e is. tt) (λ e e' d d' s s'. bytes_apart e e' d d') entries_apart;
}
