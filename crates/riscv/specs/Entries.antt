-- Encodings and the kinds and forms that have them.
use Rattle.std.specs.Prelude.{◌≡◌, ℕ, ◌+◌, ◌*◌, ◌<◌, ◌≤◌, cond, List, Some, ◌==◌, refl}
use Rattle.std.proofs.Common.{sym, ap, ◌∙◌, arith}
use Rattle.std.proofs.lemmas.Bool.Decides.{nat_tests}
use Rattle.std.specs.List.{slice_get}
use Rattle.target.specs.Table.{encoding, of_form}
use Rattle.riscv.specs.declared.encodings.Encoding.{Encoding}
use Rattle.riscv.specs.declared.encodings.Encoding.TheVariants.{One, Far, Long}
use Rattle.riscv.specs.declared.conditions.Comparison.{Comparison}
use Rattle.riscv.specs.declared.conditions.Condition.{Condition}
use Rattle.riscv.specs.declared.conditions.Condition.TheVariants.{Beq, Bne, Blt, Bge, Bltu, Bgeu}
use Rattle.riscv.specs.declared.words.instructions.Instruction.TheVariants.{CJ, CJal, CBeqz, CBnez, Jal, Branch, Auipc, Jalr}
use Rattle.riscv.specs.Encodings.{both, comparison, compressed, conditional, encodings, table}
use Rattle.riscv.specs.Recovering.{Registers, bottom}
use Rattle.riscv.specs.declared.kinds.Kind.{Kind}
use Rattle.riscv.specs.declared.kinds.Kind.TheVariants.{J, Call, Conditional}
use Rattle.riscv.specs.Finding.{kind}

-- the place of a condition among the kinds
abbrev place : Condition → ℕ
place Beq = 0
place Bne = 1
place Blt = 2
place Bge = 3
place Bltu = 4
place Bgeu = 5

-- the number of a kind
abbrev number_of : Kind → ℕ
number_of J = 0
number_of Call = 1
number_of (Conditional c) = 4096 + 1024 * place c.condition + 32 * c.first + c.second

-- the kind and the form that an encoding is of, where it is of any
abbrev pub kind_of : Encoding → Kind
kind_of (One CJ) = J
kind_of (One CJal) = Call
kind_of (One (CBeqz first)) = Conditional (record { condition = Beq; first = first; second = 0 })
kind_of (One (CBnez first)) = Conditional (record { condition = Bne; first = first; second = 0 })
kind_of (One (Jal rd)) = cond (rd == 0) J Call
kind_of (One (Branch c)) = Conditional c
kind_of (One (Auipc rd)) = J
kind_of (One (Jalr rd base)) = J
kind_of (Far link through) = cond (link == 0) J Call
kind_of (Long c) = Conditional c

abbrev form_of : Encoding → ℕ
form_of (One CJ) = 0
form_of (One CJal) = 0
form_of (One (CBeqz first)) = 0
form_of (One (CBnez first)) = 0
form_of (One (Jal rd)) = 1
form_of (One (Branch c)) = of_form 0 (λ x. 1) (compressed c)
form_of (One (Auipc rd)) = 0
form_of (One (Jalr rd base)) = 0
form_of (Far link through) = 2
form_of (Long c) = 1 + of_form 0 (λ x. 1) (compressed c)

-- a number by its kind
numbered : (k : ℕ) (of : Kind) → kind k ≡ Some of → k ≡ number_of of
numbered k J is = grind (arith, nat_tests)
numbered k Call is = grind (arith, nat_tests)
numbered k (Conditional c) is = grind (arith, nat_tests)

-- a number past those of the jumps
no_jump : (k : ℕ) (j call rest : List Encoding) → 4096 ≤ k → cond (k == 0) j (cond (k == 1) call rest) ≡ rest
no_jump k j call rest large = grind (arith, nat_tests)

compares : (k : ℕ) (c : Comparison) → kind k ≡ Some (Conditional c) → comparison k ≡ Some c
compares k c is = grind (arith, nat_tests)

-- the encodings of a kind that is a condition
of_condition : (k : ℕ) (c : Comparison) → kind k ≡ Some (Conditional c) → encodings k ≡ both c (compressed c)
of_condition k c is = no_jump k _ _ (conditional (comparison k)) (omega (arith, numbered k (Conditional c) is)) ∙ ap conditional (compares k c is)

-- the kind and the form of an encoding
module _ (k f : ℕ) where
  pub kind_is : (e : Encoding) → encoding table k f ≡ Some e → kind k ≡ Some (kind_of e)
  kind_is (One CJ) is = grind (arith, nat_tests)
  kind_is (One CJal) is = grind (arith, nat_tests)
  kind_is (One (CBeqz first)) is = grind (arith, nat_tests)
  kind_is (One (CBnez first)) is = grind (arith, nat_tests)
  kind_is (One (Jal rd)) is = grind (arith, nat_tests)
  kind_is (One (Branch c)) is = grind (arith, nat_tests)
  kind_is (One (Auipc rd)) is = absurd (grind (arith, nat_tests))
  kind_is (One (Jalr rd base)) is = absurd (grind (arith, nat_tests))
  kind_is (Far link through) is = grind (arith, nat_tests)
  kind_is (Long c) is = grind (arith, nat_tests)

  own_form_lem : (c : Comparison) → slice_get (both c (compressed c)) f ≡ Some (One (Branch c)) → f ≡ of_form 0 (λ x. 1) (compressed c)
  own_form_lem c is = grind (arith, nat_tests)

  long_form : (c : Comparison) → slice_get (both c (compressed c)) f ≡ Some (Long c) → f ≡ 1 + of_form 0 (λ x. 1) (compressed c)
  long_form c is = grind (arith, nat_tests)

  form_is : (e : Encoding) → encoding table k f ≡ Some e → f ≡ form_of e
  form_is (One CJ) is = grind (arith, nat_tests)
  form_is (One CJal) is = grind (arith, nat_tests)
  form_is (One (CBeqz first)) is = grind (arith, nat_tests)
  form_is (One (CBnez first)) is = grind (arith, nat_tests)
  form_is (One (Jal rd)) is = grind (arith, nat_tests)
  form_is (One (Branch c)) is = own_form_lem c (ap (λ es. slice_get es f) (sym (of_condition k c (kind_is (One (Branch c)) is))) ∙ is)
  form_is (One (Auipc rd)) is = absurd (grind (arith, nat_tests))
  form_is (One (Jalr rd base)) is = absurd (grind (arith, nat_tests))
  form_is (Far link through) is = grind (arith, nat_tests)
  form_is (Long c) is = long_form c (ap (λ es. slice_get es f) (sym (of_condition k c (kind_is (Long c) is))) ∙ is)

  number_is : (e : Encoding) → encoding table k f ≡ Some e → k ≡ number_of (kind_of e)
  number_is e is = numbered k (kind_of e) (kind_is e is)

pub entries_apart : (k k' f f' : ℕ) (e : Encoding) → encoding table k f ≡ Some e → encoding table k' f' ≡ Some e → (k ≡ k') × (f ≡ f')
entries_apart k k' f f' e is is' = (number_is k f e is ∙ sym (number_is k' f' e is'), form_is k f e is ∙ sym (form_is k' f' e is'))

-- registers that there are, in instructions whose immediate is a distance
abbrev pub Sound : Encoding → Type 0
Sound (One x) = Registers x × (bottom x ≡ 1)
Sound (Far link through) = (link < 32) × (through < 32)
Sound (Long c) = (c.first < 32) × (c.second < 32)

pub sound : (k f : ℕ) (e : Encoding) → encoding table k f ≡ Some e → Sound e
sound k f (One CJ) is = (tt, refl)
sound k f (One CJal) is = (tt, refl)
sound k f (One (CBeqz first)) is = ((grind (arith, nat_tests), grind (arith, nat_tests)), refl)
sound k f (One (CBnez first)) is = ((grind (arith, nat_tests), grind (arith, nat_tests)), refl)
sound k f (One (Jal rd)) is = (grind (arith, nat_tests), refl)
sound k f (One (Branch c)) is = ((grind (arith, nat_tests), grind (arith, nat_tests)), refl)
sound k f (One (Auipc rd)) is = absurd (grind (arith, nat_tests))
sound k f (One (Jalr rd base)) is = absurd (grind (arith, nat_tests))
sound k f (Far link through) is = (grind (arith, nat_tests), grind (arith, nat_tests))
sound k f (Long c) is = (grind (arith, nat_tests), grind (arith, nat_tests))
