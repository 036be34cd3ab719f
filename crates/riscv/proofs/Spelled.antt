-- What bytes can spell is found from their words.
use Rattle.std.proofs.Common.{◌≡◌, ℕ, ◌^◌, ◌<◌, List, ◌++◌, length, take, drop, ℤ, pos, ◌-ℤ◌, Some, Option, sym, refl, ap, ◌∙◌, arith, lit≤}
use Rattle.std.proofs.lemmas.Int.{ints}
use Rattle.std.specs.Int.{to_le_bytes, w16, w32}
use Rattle.riscv.specs.declared.encodings.Encoding.TheVariants.{One, Far, Long}
use Rattle.riscv.specs.declared.words.instructions.Instruction.{Instruction}
use Rattle.riscv.specs.declared.words.instructions.Instruction.TheVariants.{Jal, Branch, Auipc, Jalr}
use Rattle.target.specs.declared.table.Spelled.{Spelled}
use Rattle.riscv.specs.declared.encodings.Encoding.{Encoding}
use Rattle.riscv.specs.Encodings.{lower, upper}
use Rattle.riscv.specs.Finding.{FindsPair, FindsSpelling, alone, step}
use Rattle.riscv.specs.Instructions.{inverted, size, stored, word}
use Rattle.riscv.specs.Reading.{half, immediate, whole}
use Rattle.riscv.specs.Apart.{carries_one, carries_onward, carries_over, carries_lower, carries_upper, halves_apart, one_short, stored_fills, stored_four, stored_two, wholes_apart, word_below}
use Rattle.riscv.specs.Entries.{sound}
use Rattle.riscv.specs.Recovering.{Carries, Registers, half_back, immediate_back, whole_back}

-- a word by the instruction that it is
module _ (x : Instruction) (i : ℤ) (n : ℕ) (same : word x i ≡ n) (r : Registers x) (carries : Carries x i) where
  held_immediate : immediate x n ≡ i
  held_immediate = ap (immediate x) (sym same) ∙ immediate_back x i carries

  half_step : size x ≡ 2 → step n (half n) ≡ Some (record { instruction = x; immediate = i })
  half_step two = ap (step n) (ap half (sym same) ∙ half_back x i two r) ∙ ap (λ z. Some (record { instruction = x; immediate = z })) held_immediate

  whole_step : size x ≡ 4 → step n (whole n) ≡ Some (record { instruction = x; immediate = i })
  whole_step four = ap (step n) (ap whole (sym same) ∙ whole_back x i four r) ∙ ap (λ z. Some (record { instruction = x; immediate = z })) held_immediate

-- bytes that are those of a word of 16 bits
pub half_found : (n : ℕ) (bytes : List ℕ) (found : Option (Spelled Encoding)) → n < 2 ^ 16 → to_le_bytes w16 n ≡ bytes → found ≡ alone (step n (half n)) → FindsSpelling bytes found
half_found n bytes found small are finds k f (One x) d is spells =
    let s = sound k f (One x) is in
    let has : stored x d ≡ to_le_bytes w16 n = spells.has_bytes ∙ sym are in
    let two : size x ≡ 2 = sym (stored_fills x d) ∙ ap length has in
    let same = halves_apart (word x d) n (word_below x d 2 two) small (sym (stored_two x d two) ∙ has) in
    finds ∙ ap alone (half_step x d n same s.0 (carries_one x d s.1 spells.takes) two)
half_found n bytes found small are finds k f (Far link through) d is spells = absurd (omega (arith, ap length (spells.has_bytes ∙ sym are)))
half_found n bytes found small are finds k f (Long c) d is spells = absurd (omega (arith, ap length (spells.has_bytes ∙ sym are)))

-- and of one of 32 bits
pub whole_found : (n : ℕ) (bytes : List ℕ) (found : Option (Spelled Encoding)) → n < 2 ^ 32 → to_le_bytes w32 n ≡ bytes → found ≡ alone (step n (whole n)) → FindsSpelling bytes found
whole_found n bytes found small are finds k f (One x) d is spells =
    let s = sound k f (One x) is in
    let has : stored x d ≡ to_le_bytes w32 n = spells.has_bytes ∙ sym are in
    let four : size x ≡ 4 = sym (stored_fills x d) ∙ ap length has in
    let same = wholes_apart (word x d) n (word_below x d 4 four) small (sym (stored_four x d four) ∙ has) in
    finds ∙ ap alone (whole_step x d n same s.0 (carries_one x d s.1 spells.takes) four)
whole_found n bytes found small are finds k f (Far link through) d is spells = absurd (omega (arith, ap length (spells.has_bytes ∙ sym are)))
whole_found n bytes found small are finds k f (Long c) d is spells = absurd (omega (arith, ap length (spells.has_bytes ∙ sym are)))

-- the instructions x and y in two words
module _ (m n : ℕ) (hm : m < 2 ^ 32) (hn : n < 2 ^ 32) (x y : Instruction) (i j : ℤ) (four : size x ≡ 4) (four' : size y ≡ 4) (same : stored x i ++ stored y j ≡ to_le_bytes w32 m ++ to_le_bytes w32 n) where
  words : to_le_bytes w32 (word x i) ++ to_le_bytes w32 (word y j) ≡ to_le_bytes w32 m ++ to_le_bytes w32 n
  words = sym (λ k. stored_four x i four k ++ stored_four y j four' k) ∙ same

  first_word : word x i ≡ m
  first_word = wholes_apart (word x i) m (word_below x i 4 four) hm (ap (take 4) words)

  second_word : word y j ≡ n
  second_word = wholes_apart (word y j) n (word_below y j 4 four') hn (ap (drop 4) words)

-- and of two of those
pub two_found : (m n : ℕ) (bytes : List ℕ) (found : Option (Spelled Encoding)) → m < 2 ^ 32 → n < 2 ^ 32 → to_le_bytes w32 m ++ to_le_bytes w32 n ≡ bytes → FindsPair (step m (whole m)) (step n (whole n)) found → FindsSpelling bytes found
two_found m n bytes found hm hn are finds k f (One x) d is spells = absurd (one_short x d _ refl (spells.has_bytes ∙ sym are))
two_found m n bytes found hm hn are finds k f (Far l t) d is spells =
    let s = sound k f (Far l t) is in
    let takes = spells.takes in
    let one = first_word m n hm hn (Auipc t) (Jalr l t) (upper d) (lower d) refl refl (spells.has_bytes ∙ sym are) in
    let two = second_word m n hm hn (Auipc t) (Jalr l t) (upper d) (lower d) refl refl (spells.has_bytes ∙ sym are) in
    finds _ _ (Far l t) d (whole_step (Auipc t) (upper d) m one s.1 (carries_upper l t d takes) refl) (whole_step (Jalr l t) (lower d) n two s (carries_lower l t d takes) refl) refl takes.from_low takes.to_high
two_found m n bytes found hm hn are finds k f (Long c) d is spells =
    let s = sound k f (Long c) is in
    let takes = spells.takes in
    let one = first_word m n hm hn (Branch (inverted c)) (Jal 0) (pos 8) (d -ℤ pos 4) refl refl (spells.has_bytes ∙ sym are) in
    let two = second_word m n hm hn (Branch (inverted c)) (Jal 0) (pos 8) (d -ℤ pos 4) refl refl (spells.has_bytes ∙ sym are) in
    finds _ _ (Long c) d (whole_step (Branch (inverted c)) (pos 8) m one s (carries_over (inverted c)) refl) (whole_step (Jal 0) (d -ℤ pos 4) n two (lit≤ tt) (carries_onward c d takes) refl) refl (omega (arith, ints, takes.from_low)) (omega (arith, ints, takes.to_high))
