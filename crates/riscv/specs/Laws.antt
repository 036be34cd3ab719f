-- The table of RISC-V keeps the laws of a table.
use Rattle.std.specs.Prelude.{◌≡◌, ℕ, ◌%◌, ◌<◌, ◌≤◌, length, refl}
use Rattle.std.proofs.Common.{ap, ◌∙◌, inl, inr, ⊎_elim, arith, lit≤}
use Rattle.std.specs.Int.Signed.{le_z_yes}
use Rattle.std.proofs.lemmas.Int.{ints}
use Rattle.std.proofs.lemmas.Bool.Decides.{nat_tests}
use Rattle.target.specs.Table.{Bounded, ExtentLaws, KindLaws}
use Rattle.target.proofs.Tables.{told_apart}
use Rattle.riscv.specs.declared.encodings.Encoding.{Encoding}
use Rattle.riscv.specs.declared.encodings.Encoding.TheVariants.{One, Far, Long}
use Rattle.riscv.specs.declared.words.instructions.Instruction.{Instruction}
use Rattle.riscv.specs.declared.words.instructions.Instruction.TheVariants.{CJ, CJal, CBeqz, CBnez, Jal, Branch, Auipc, Jalr}
use Rattle.riscv.specs.Encodings.{encodings, riscv, size, table}
use Rattle.riscv.specs.Instructions.{reach}
use Rattle.riscv.specs.Apart.{bytes_apart, bytes_fill, reach_most, sizes}
use Rattle.riscv.specs.Entries.{Sound, entries_apart, sound}

reach_least : (x : Instruction) → 256 ≤ reach x
reach_least CJ = lit≤ tt
reach_least CJal = lit≤ tt
reach_least (CBeqz first) = lit≤ tt
reach_least (CBnez first) = lit≤ tt
reach_least (Jal rd) = lit≤ tt
reach_least (Branch c) = lit≤ tt
reach_least (Auipc rd) = lit≤ tt
reach_least (Jalr rd base) = lit≤ tt

bounded_one : (x : Instruction) (n : ℕ) → size (One x) ≡ n → 1 ≤ n → n ≤ 4 → n % 2 ≡ 0 → Bounded table (One x)
bounded_one x n is some few step = let least = reach_least x in let most = reach_most x in record {
  size_least = omega arith;
  size_most = omega arith;
  size_in_step = ap (λ k. k % 2) is ∙ step;
  low_bound = omega (arith, ints, most);
  low_reaches = omega (arith, ints);
  high_reaches = omega (arith, ints, least);
  high_bound = omega (arith, ints, most);
}

bounded : (e : Encoding) → Bounded table e
bounded (One x) = ⊎_elim (λ two. bounded_one x 2 two (lit≤ tt) (lit≤ tt) refl) (λ four. bounded_one x 4 four (lit≤ tt) (lit≤ tt) refl) (sizes x)
bounded (Far link through) = record { size_least = lit≤ tt; size_most = lit≤ tt; size_in_step = refl; low_bound = le_z_yes tt; low_reaches = le_z_yes tt; high_reaches = le_z_yes tt; high_bound = le_z_yes tt }
bounded (Long c) = record { size_least = lit≤ tt; size_most = lit≤ tt; size_in_step = refl; low_bound = le_z_yes tt; low_reaches = le_z_yes tt; high_reaches = le_z_yes tt; high_bound = le_z_yes tt }

forms_most : (k : ℕ) → length (encodings k) ≤ 4
forms_most k = grind (arith, nat_tests)

size_grows : (k small large : ℕ) → small < large → large < length (encodings k) → riscv.size k small < riscv.size k large
size_grows k small large h there = grind (arith, nat_tests)

pub extents : ExtentLaws table
extents = record { granule_is = inr (inl refl); bounded = bounded }

pub laws : KindLaws table
laws = record { forms_most = forms_most; size_grows = size_grows; bytes_fill = λ e d takes. bytes_fill e d; branches_apart = told_apart table Sound sound bytes_apart entries_apart }
