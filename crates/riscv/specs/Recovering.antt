-- A word gives back its instruction and its immediate.
use Rattle.std.proofs.Common.{rules, sym, ap, ◌∙◌, subst, mod-eq_of_lt, arith, of_z}
use Rattle.std.specs.Prelude.{◌≡◌, ℕ, zero, suc, ◌+◌, ◌-◌, ◌*◌, ◌/◌, ◌%◌, ◌^◌, ◌<◌, ◌≤◌, [], ◌∷◌, ◌++◌, take, drop, ℤ, pos, negsuc, neg_ℤ, ◌≤ℤ◌, ◌<ℤ◌, Some, unsigned_abs, refl}
use Rattle.std.specs.Int.{w32}
use Rattle.std.proofs.lemmas.Nat.{mod-mul-add}
use Rattle.std.proofs.lemmas.Int.{ints}
use Rattle.std.proofs.lemmas.Bool.{cond_above, cond_below}
use Rattle.std.specs.List.{AllByRecursion}
use Rattle.target.specs.Meaning.{Multiple}
use Rattle.riscv.specs.declared.words.Field.{Field}
use Rattle.riscv.specs.declared.words.Field.TheVariants.{Bits}
use Rattle.riscv.specs.declared.conditions.Condition.{Condition}
use Rattle.riscv.specs.declared.conditions.Condition.TheVariants.{Beq, Bne, Blt, Bge, Bltu, Bgeu}
use Rattle.riscv.specs.declared.words.instructions.Instruction.{Instruction}
use Rattle.riscv.specs.declared.words.instructions.Instruction.TheVariants.{CJ, CJal, CBeqz, CBnez, Jal, Branch, Auipc, Jalr}
use Rattle.riscv.specs.Instructions.{funct3, layout, reach, size, word}
use Rattle.riscv.specs.Reading.{comparing, condition, cut, gathered, half, half_by, immediate, twos_complement, whole, whole_by}
use Rattle.riscv.specs.Words.{InWord, held, number, span, width}
use Rattle.riscv.specs.Telling.{field_back, gathered_back, highs, lows}

-- the lowest bit of the immediate that is stored, and the one above the highest
abbrev pub bottom : Instruction → ℕ
bottom CJ = 1
bottom CJal = 1
bottom (CBeqz first) = 1
bottom (CBnez first) = 1
bottom (Jal rd) = 1
bottom (Branch c) = 1
bottom (Auipc rd) = 0
bottom (Jalr rd base) = 0

-- in each instruction the slices of the immediate, end to end, run from its bottom to its reach
tiled : (x : Instruction) (m : ℕ → ℕ) (n : ℕ) → n + lows m (layout x) ≡ highs m (layout x) → (top : ℕ) × (2 ^ top ≡ 2 * reach x) × (n + m (bottom x) ≡ m top)
tiled CJ m n h = (12, refl, omega (arith, h))
tiled CJal m n h = (12, refl, omega (arith, h))
tiled (CBeqz first) m n h = (9, refl, omega (arith, h))
tiled (CBnez first) m n h = (9, refl, omega (arith, h))
tiled (Jal rd) m n h = (21, refl, omega (arith, h))
tiled (Branch c) m n h = (13, refl, omega (arith, h))
tiled (Auipc rd) m n h = (20, refl, omega (arith, h))
tiled (Jalr rd base) m n h = (12, refl, omega (arith, h))

-- every field of an instruction has a place in a word
laid : (x : Instruction) → AllByRecursion InWord (layout x)
laid CJ = search rules
laid CJal = search rules
laid (CBeqz first) = search rules
laid (CBnez first) = search rules
laid (Jal rd) = search rules
laid (Branch c) = search rules
laid (Auipc rd) = search rules
laid (Jalr rd base) = search rules

-- an immediate that an instruction can have
pub record Carries (x : Instruction) (i : ℤ) : Type 0 where
  pub from_low : neg_ℤ (pos (reach x)) ≤ℤ i
  pub to_high : i <ℤ pos (reach x)
  pub in_step : of_z w32 i % 2 ^ bottom x ≡ 0

gathered_is : (x : Instruction) (i : ℤ) → Carries x i → gathered (layout x) (word x i) ≡ of_z w32 i % (2 * reach x)
gathered_is x i carries =
    let t = tiled x (λ k. of_z w32 i % 2 ^ k) (gathered (layout x) (word x i)) (gathered_back i [] (layout x) (laid x)) in
    omega (arith, t.2, carries.in_step) ∙ ap (λ n. of_z w32 i % n) t.1

signed_back : (r q : ℕ) (i : ℤ) → 2 ^ 32 ≡ q * (2 * r) → neg_ℤ (pos r) ≤ℤ i → i <ℤ pos r → twos_complement r (of_z w32 i % (2 * r)) ≡ i
signed_back r q (pos n) whole low high =
    let small : n < r = omega (arith, ints, high) in
    let is : n % (2 * r) ≡ n = mod-eq_of_lt (omega (arith, small)) in
    ap (twos_complement r) is ∙ sym (cond_below n r (pos n) _ small)
signed_back r zero (negsuc n) whole low high = absurd (omega (arith, whole))
signed_back r (suc p) (negsuc n) whole low high =
    let small : n < r = omega (arith, ints, low) in
    let down : 2 ^ 32 ≡ p * (2 * r) + 2 * r = whole ∙ omega arith in
    let up : 2 ^ 32 - suc n ≡ p * (2 * r) + (2 * r - suc n) = omega (arith, down, small) in
    let is : (2 ^ 32 - suc n) % (2 * r) ≡ 2 * r - suc n = ap (λ k. k % (2 * r)) up ∙ mod-mul-add p (2 * r) (2 * r - suc n) (omega (arith, small)) in
    ap (twos_complement r) is ∙ sym (cond_above (2 * r - suc n) r (pos (2 * r - suc n)) _ (negsuc n) (omega (arith, small)) (omega (arith, ints, small)))

-- the reach divides the numbers of 32 bits evenly
turns : (x : Instruction) → (q : ℕ) × (2 ^ 32 ≡ q * (2 * reach x))
turns CJ = (1048576, refl)
turns CJal = (1048576, refl)
turns (CBeqz first) = (8388608, refl)
turns (CBnez first) = (8388608, refl)
turns (Jal rd) = (2048, refl)
turns (Branch c) = (524288, refl)
turns (Auipc rd) = (4096, refl)
turns (Jalr rd base) = (1048576, refl)

pub immediate_back : (x : Instruction) (i : ℤ) → Carries x i → immediate x (word x i) ≡ i
immediate_back x i carries = ap (twos_complement (reach x)) (gathered_is x i carries) ∙ signed_back (reach x) (turns x).0 i (turns x).1 carries.from_low carries.to_high

pub even : (i : ℤ) → neg_ℤ (pos 2147483648) ≤ℤ i → Multiple 2 i → of_z w32 i % 2 ≡ 0
even (pos n) low h = ap unsigned_abs h
even (negsuc n) low h = let h' : neg_ℤ (pos (suc n % 2)) ≡ pos 0 = h in let none : suc n % 2 ≡ 0 = omega (arith, ints, h') in omega (arith, ints, low, none)

-- registers that there are, and for the 16-bit instructions those that they know
abbrev pub Registers : Instruction → Type 0
Registers CJ = Unit {0}
Registers CJal = Unit {0}
Registers (CBeqz first) = (8 ≤ first) × (first ≤ 15)
Registers (CBnez first) = (8 ≤ first) × (first ≤ 15)
Registers (Jal rd) = rd < 32
Registers (Branch c) = (c.first < 32) × (c.second < 32)
Registers (Auipc rd) = rd < 32
Registers (Jalr rd base) = (rd < 32) × (base < 32)

-- the field number n of an instruction
module _ (x : Instruction) (i : ℤ) where
  at : (n : ℕ) (f : Field) → layout x ≡ take n (layout x) ++ f ∷ drop (suc n) (layout x) → word x i / 2 ^ span (drop (suc n) (layout x)) % 2 ^ width f ≡ held i f
  at n f is = subst (λ fs. number fs i / 2 ^ span (drop (suc n) (layout x)) % 2 ^ width f ≡ held i f) (sym is) (field_back i (take n (layout x)) f (drop (suc n) (layout x)))

compressed_first : (first : ℕ) → 8 ≤ first → first ≤ 15 → 8 + (first - 8) % 8 ≡ first
compressed_first first low high = omega arith

pub half_back : (x : Instruction) (i : ℤ) → size x ≡ 2 → Registers x → half (word x i) ≡ Some x
half_back CJ i two r = ap (λ n. half_by n (8 + cut (word CJ i) 9 7)) (at CJ i 0 (Bits 3 5) refl)
half_back CJal i two r = ap (λ n. half_by n (8 + cut (word CJal i) 9 7)) (at CJal i 0 (Bits 3 1) refl)
half_back (CBeqz first) i two r =
    (λ j. half_by (at (CBeqz first) i 0 (Bits 3 6) refl j) (8 + at (CBeqz first) i 3 (Bits 3 (first - 8)) refl j)) ∙ ap (λ n. Some (CBeqz n)) (compressed_first first r.0 r.1)
half_back (CBnez first) i two r =
    (λ j. half_by (at (CBnez first) i 0 (Bits 3 7) refl j) (8 + at (CBnez first) i 3 (Bits 3 (first - 8)) refl j)) ∙ ap (λ n. Some (CBnez n)) (compressed_first first r.0 r.1)
half_back (Jal rd) i two r = absurd (omega (arith, two))
half_back (Branch c) i two r = absurd (omega (arith, two))
half_back (Auipc rd) i two r = absurd (omega (arith, two))
half_back (Jalr rd base) i two r = absurd (omega (arith, two))

condition_back : (c : Condition) → condition (funct3 c % 8) ≡ Some c
condition_back Beq = refl
condition_back Bne = refl
condition_back Blt = refl
condition_back Bge = refl
condition_back Bltu = refl
condition_back Bgeu = refl

pub whole_back : (x : Instruction) (i : ℤ) → size x ≡ 4 → Registers x → whole (word x i) ≡ Some x
whole_back CJ i four r = absurd (omega (arith, four))
whole_back CJal i four r = absurd (omega (arith, four))
whole_back (CBeqz first) i four r = absurd (omega (arith, four))
whole_back (CBnez first) i four r = absurd (omega (arith, four))
whole_back (Jal rd) i four r =
    let x = Jal rd in
    let w = word x i in
    (λ j. whole_by (at x i 5 (Bits 7 0b1101111) refl j) (at x i 4 (Bits 5 rd) refl j) (cut w 14 12) (cut w 19 15) (cut w 24 20)) ∙ ap (λ n. Some (Jal n)) (mod-eq_of_lt r)
whole_back (Branch c) i four r =
    let x = Branch c in
    let w = word x i in
    (λ j. whole_by (at x i 7 (Bits 7 0b1100011) refl j) (cut w 11 7) (at x i 4 (Bits 3 (funct3 c.condition)) refl j) (at x i 3 (Bits 5 c.first) refl j) (at x i 2 (Bits 5 c.second) refl j))
    ∙ (λ j. comparing (mod-eq_of_lt r.0 j) (mod-eq_of_lt r.1 j) (condition_back c.condition j))
whole_back (Auipc rd) i four r =
    let x = Auipc rd in
    let w = word x i in
    (λ j. whole_by (at x i 2 (Bits 7 0b0010111) refl j) (at x i 1 (Bits 5 rd) refl j) (cut w 14 12) (cut w 19 15) (cut w 24 20)) ∙ ap (λ n. Some (Auipc n)) (mod-eq_of_lt r)
whole_back (Jalr rd base) i four r =
    let x = Jalr rd base in
    let w = word x i in
    (λ j. whole_by (at x i 4 (Bits 7 0b1100111) refl j) (at x i 3 (Bits 5 rd) refl j) (cut w 14 12) (at x i 1 (Bits 5 base) refl j) (cut w 24 20)) ∙ (λ j. Some (Jalr (mod-eq_of_lt r.0 j) (mod-eq_of_lt r.1 j)))
