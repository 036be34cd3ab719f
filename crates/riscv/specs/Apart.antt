-- Bytes tell the encoding and the distance that they were written from.
use Rattle.std.specs.Prelude.{◌≡◌, ℕ, ◌*◌, ◌%◌, ◌^◌, ◌<◌, ◌≤◌, cond, ◌⊎◌, List, length, take, drop, ℤ, pos, negsuc, ◌+ℤ◌, ◌-ℤ◌, ◌*ℤ◌, ◌≤ℤ◌, ◌<ℤ◌, Some, Option, ◌==◌, ◌≢◌, refl}
use Rattle.std.proofs.Common.{sym, ap, ◌∙◌, subst, inl, inr, ⊎_elim, arith, lit≤, of_z}
use Rattle.std.specs.Int.Signed.{le_z_yes, lt_z_yes, shr_z}
use Rattle.std.specs.Int.{from_le_bytes, to_le_bytes, w16, w32}
use Rattle.std.proofs.lemmas.Int.{ints}
use Rattle.std.proofs.lemmas.Nat.{from_le_bytes-to_le_bytes_2, from_le_bytes-to_le_bytes_4}
use Rattle.target.specs.Table.{Takes}
use Rattle.riscv.specs.declared.encodings.Encoding.{Encoding}
use Rattle.riscv.specs.declared.encodings.Encoding.TheVariants.{One, Far, Long}
use Rattle.riscv.specs.declared.conditions.Comparison.{Comparison}
use Rattle.riscv.specs.declared.conditions.Condition.{Condition}
use Rattle.riscv.specs.declared.conditions.Condition.TheVariants.{Beq, Bne, Blt, Bge, Bltu, Bgeu}
use Rattle.riscv.specs.declared.words.instructions.Instruction.{Instruction}
use Rattle.riscv.specs.declared.words.instructions.Instruction.TheVariants.{CJ, CJal, CBeqz, CBnez, Jal, Branch, Auipc, Jalr}
use Rattle.riscv.specs.Encodings.{bytes, lower, size as encoding_size, table, upper}
use Rattle.riscv.specs.Instructions.{inverse, inverted, layout, reach, size, stored, word}
use Rattle.riscv.specs.Reading.{half, immediate, whole}
use Rattle.riscv.specs.Words.{span}
use Rattle.riscv.specs.Entries.{Sound}
use Rattle.riscv.specs.Packing.{number_below}
use Rattle.riscv.specs.Recovering.{Carries, Registers, bottom, even, half_back, immediate_back, whole_back}

pub some_same : {A : Type 0} {a b : A} → ◌≡◌ {A = Option A} (Some a) (Some b) → a ≡ b
some_same {A} {a} {b} e = let same : a ≡ b = cc in same

-- an instruction has 16 or 32 bits
pub sizes : (x : Instruction) → (size x ≡ 2) ⊎ (size x ≡ 4)
sizes CJ = inl refl
sizes CJal = inl refl
sizes (CBeqz first) = inl refl
sizes (CBnez first) = inl refl
sizes (Jal rd) = inr refl
sizes (Branch c) = inr refl
sizes (Auipc rd) = inr refl
sizes (Jalr rd base) = inr refl

-- as many bytes as its length says
pub stored_fills : (x : Instruction) (i : ℤ) → length (stored x i) ≡ size x
stored_fills CJ i = refl
stored_fills CJal i = refl
stored_fills (CBeqz first) i = refl
stored_fills (CBnez first) i = refl
stored_fills (Jal rd) i = refl
stored_fills (Branch c) i = refl
stored_fills (Auipc rd) i = refl
stored_fills (Jalr rd base) i = refl

spans : (x : Instruction) → span (layout x) ≡ 8 * size x
spans CJ = refl
spans CJal = refl
spans (CBeqz first) = refl
spans (CBnez first) = refl
spans (Jal rd) = refl
spans (Branch c) = refl
spans (Auipc rd) = refl
spans (Jalr rd base) = refl

module _ (x : Instruction) (i : ℤ) where
  pub word_below : (n : ℕ) → size x ≡ n → word x i < 2 ^ (8 * n)
  word_below n is = subst (λ k. word x i < 2 ^ k) (spans x ∙ ap (λ k. 8 * k) is) (number_below (layout x) i)

  pub stored_two : size x ≡ 2 → stored x i ≡ to_le_bytes w16 (word x i)
  stored_two is = ap (λ n. cond (n == 2) (to_le_bytes w16 (word x i)) (to_le_bytes w32 (word x i))) is

  pub stored_four : size x ≡ 4 → stored x i ≡ to_le_bytes w32 (word x i)
  stored_four is = ap (λ n. cond (n == 2) (to_le_bytes w16 (word x i)) (to_le_bytes w32 (word x i))) is

-- words with the same bytes are the same number
pub halves_apart : (m n : ℕ) → m < 2 ^ 16 → n < 2 ^ 16 → to_le_bytes w16 m ≡ to_le_bytes w16 n → m ≡ n
halves_apart m n hm hn same = sym (from_le_bytes-to_le_bytes_2 m hm) ∙ ap (from_le_bytes w16) same ∙ from_le_bytes-to_le_bytes_2 n hn

pub wholes_apart : (m n : ℕ) → m < 2 ^ 32 → n < 2 ^ 32 → to_le_bytes w32 m ≡ to_le_bytes w32 n → m ≡ n
wholes_apart m n hm hn same = sym (from_le_bytes-to_le_bytes_4 m hm) ∙ ap (from_le_bytes w32) same ∙ from_le_bytes-to_le_bytes_4 n hn

-- two instructions with their immediates
module _ (x y : Instruction) (i j : ℤ) (r : Registers x) (r' : Registers y) (carries : Carries x i) (carries' : Carries y j) where
  words_apart : size x ≡ size y → word x i ≡ word y j → (x ≡ y) × (i ≡ j)
  words_apart sized same =
      let alike : x ≡ y = ⊎_elim (λ s. some_same (sym (half_back x i s r) ∙ ap half same ∙ half_back y j (sym sized ∙ s) r')) (λ s. some_same (sym (whole_back x i s r) ∙ ap whole same ∙ whole_back y j (sym sized ∙ s) r')) (sizes x) in
      (alike, sym (immediate_back x i carries) ∙ (λ k. immediate (alike k) (same k)) ∙ immediate_back y j carries')

  pub stored_apart : stored x i ≡ stored y j → (x ≡ y) × (i ≡ j)
  stored_apart same =
      let sized : size x ≡ size y = sym (stored_fills x i) ∙ ap length same ∙ stored_fills y j in
      let halves = λ (s : size x ≡ 2). halves_apart (word x i) (word y j) (word_below x i 2 s) (word_below y j 2 (sym sized ∙ s)) (sym (stored_two x i s) ∙ same ∙ stored_two y j (sym sized ∙ s)) in
      let wholes = λ (s : size x ≡ 4). wholes_apart (word x i) (word y j) (word_below x i 4 s) (word_below y j 4 (sym sized ∙ s)) (sym (stored_four x i s) ∙ same ∙ stored_four y j (sym sized ∙ s)) in
      words_apart sized (⊎_elim halves wholes (sizes x))

-- a quotient rounded down, and what is left
pub floor : (z : ℤ) → ((pos 4096 *ℤ shr_z z 4096) ≤ℤ z) × (z <ℤ (pos 4096 *ℤ shr_z z 4096 +ℤ pos 4096))
floor (pos n) = (omega (arith, ints), omega (arith, ints))
floor (negsuc n) = (omega (arith, ints), omega (arith, ints))

pub reach_most : (x : Instruction) → reach x ≤ 1048576
reach_most CJ = lit≤ tt
reach_most CJal = lit≤ tt
reach_most (CBeqz first) = lit≤ tt
reach_most (CBnez first) = lit≤ tt
reach_most (Jal rd) = lit≤ tt
reach_most (Branch c) = lit≤ tt
reach_most (Auipc rd) = lit≤ tt
reach_most (Jalr rd base) = lit≤ tt

-- the immediates that the instructions of an encoding are given
pub carries_one : (x : Instruction) (d : ℤ) → bottom x ≡ 1 → Takes table (One x) d → Carries x d
carries_one x d stepped takes = record { from_low = takes.from_low; to_high = omega (arith, ints, takes.to_high); in_step = ap (λ n. of_z w32 d % 2 ^ n) stepped ∙ even d (omega (arith, ints, takes.from_low, reach_most x)) takes.in_step }

pub carries_upper : (link through : ℕ) (d : ℤ) → Takes table (Far link through) d → Carries (Auipc through) (upper d)
carries_upper link through d takes = let h = floor (d +ℤ pos 2048) in record { from_low = omega (arith, ints, takes.from_low, h.0, h.1); to_high = omega (arith, ints, takes.to_high, h.0, h.1); in_step = omega arith }

pub carries_lower : (link through : ℕ) (d : ℤ) → Takes table (Far link through) d → Carries (Jalr link through) (lower d)
carries_lower link through d takes = let h = floor (d +ℤ pos 2048) in record { from_low = omega (arith, ints, h.0, h.1); to_high = omega (arith, ints, h.0, h.1); in_step = omega arith }

pub carries_over : (c : Comparison) → Carries (Branch c) (pos 8)
carries_over c = record { from_low = le_z_yes tt; to_high = lt_z_yes tt; in_step = refl }

pub carries_onward : (c : Comparison) (d : ℤ) → Takes table (Long c) d → Carries (Jal 0) (d -ℤ pos 4)
carries_onward c d takes = record { from_low = omega (arith, ints, takes.from_low); to_high = omega (arith, ints, takes.to_high); in_step = omega (arith, ints, takes.from_low, takes.to_high, even d (omega (arith, ints, takes.from_low)) takes.in_step) }

pub bytes_fill : (e : Encoding) (d : ℤ) → length (bytes e d) ≡ encoding_size e
bytes_fill (One x) d = stored_fills x d
bytes_fill (Far link through) d = refl
bytes_fill (Long c) d = refl

-- one instruction is shorter than two
pub one_short : (x : Instruction) (d : ℤ) (bs : List ℕ) → length bs ≡ 8 → stored x d ≢ bs
one_short x d bs long same = let sized : size x ≡ 8 = sym (stored_fills x d) ∙ ap length same ∙ long in ⊎_elim (λ s. omega (arith, s, sized)) (λ s. omega (arith, s, sized)) (sizes x)

pub inverse_twice : (c : Condition) → inverse (inverse c) ≡ c
inverse_twice Beq = refl
inverse_twice Bne = refl
inverse_twice Blt = refl
inverse_twice Bge = refl
inverse_twice Bltu = refl
inverse_twice Bgeu = refl

pub inverted_twice : (c : Comparison) → inverted (inverted c) ≡ c
inverted_twice c = λ k. record { condition = inverse_twice c.condition k; first = c.first; second = c.second }

pub bytes_apart : (e e' : Encoding) (d d' : ℤ) → Sound e → Sound e' → Takes table e d → Takes table e' d' → bytes e d ≡ bytes e' d' → (e ≡ e') × (d ≡ d')
bytes_apart (One x) (One y) d d' s s' takes takes' same =
    let parts = stored_apart x y d d' s.0 s'.0 (carries_one x d s.1 takes) (carries_one y d' s'.1 takes') same in
    (ap One parts.0, parts.1)
bytes_apart (One x) (Far l t) d d' s s' takes takes' same = absurd (one_short x d _ refl same)
bytes_apart (One x) (Long c) d d' s s' takes takes' same = absurd (one_short x d _ refl same)
bytes_apart (Far l t) (One y) d d' s s' takes takes' same = absurd (one_short y d' _ refl (sym same))
bytes_apart (Long c) (One y) d d' s s' takes takes' same = absurd (one_short y d' _ refl (sym same))
bytes_apart (Far l t) (Far l' t') d d' s s' takes takes' same =
    let high = stored_apart (Auipc t) (Auipc t') (upper d) (upper d') s.1 s'.1 (carries_upper l t d takes) (carries_upper l' t' d' takes') (ap (take 4) same) in
    let below = stored_apart (Jalr l t) (Jalr l' t') (lower d) (lower d') s s' (carries_lower l t d takes) (carries_lower l' t' d' takes') (ap (drop 4) same) in
    let through = high.0 in
    let link = below.0 in
    let upper_same = high.1 in
    let lower_same = below.1 in
    (cc, omega (arith, ints, upper_same, lower_same))
bytes_apart (Far l t) (Long c) d d' s s' takes takes' same =
    absurd (omega (arith, ap reach (stored_apart (Auipc t) (Branch (inverted c)) (upper d) (pos 8) s.1 s' (carries_upper l t d takes) (carries_over (inverted c)) (ap (take 4) same)).0))
bytes_apart (Long c) (Far l t) d d' s s' takes takes' same =
    absurd (omega (arith, ap reach (stored_apart (Branch (inverted c)) (Auipc t) (pos 8) (upper d') s s'.1 (carries_over (inverted c)) (carries_upper l t d' takes') (ap (take 4) same)).0))
bytes_apart (Long c) (Long c') d d' s s' takes takes' same =
    let over = stored_apart (Branch (inverted c)) (Branch (inverted c')) (pos 8) (pos 8) s s' (carries_over (inverted c)) (carries_over (inverted c')) (ap (take 4) same) in
    let onward = stored_apart (Jal 0) (Jal 0) (d -ℤ pos 4) (d' -ℤ pos 4) (lit≤ tt) (lit≤ tt) (carries_onward c d takes) (carries_onward c' d' takes') (ap (drop 4) same) in
    let same_over = over.0 in
    let less = onward.1 in
    let same_inverted : inverted c ≡ inverted c' = cc in
    (ap Long (sym (inverted_twice c) ∙ ap inverted same_inverted ∙ inverted_twice c'), omega (arith, ints, less))
