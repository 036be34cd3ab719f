-- A word gives every field back, and all its fields of the immediate together give the immediate.
use Rattle.std.specs.Prelude.{◌≡◌, ℕ, ◌+◌, ◌-◌, ◌*◌, ◌/◌, ◌%◌, ◌^◌, ◌≤◌, List, [], ◌∷◌, ◌++◌, ℤ, refl}
use Rattle.std.proofs.Common.{sym, ap, ◌∙◌, subst, append_assoc, mod-eq_of_lt, arith, of_z}
use Rattle.std.proofs.Math.Nat.{add-mul-div_right, add-mul-mod_self_right}
use Rattle.std.specs.Int.{w32}
use Rattle.std.proofs.lemmas.Nat.{mod-pow-add, pow-add, pow_pos, shr_high, shr-shr}
use Rattle.std.specs.List.{AllByRecursion}
use Rattle.riscv.specs.declared.words.Field.{Field}
use Rattle.riscv.specs.declared.words.Field.TheVariants.{Bits, Immediate}
use Rattle.riscv.specs.Reading.{gathered, placed}
use Rattle.riscv.specs.Words.{InWord, held, number, span, width}
use Rattle.riscv.specs.Packing.{held_below, number_below, span_append}

-- what is gathered from a word whose lowest field is the last of these
pub gathered_push : (fs : List Field) (f : Field) (word : ℕ) → gathered (fs ++ f ∷ []) word ≡ placed f word + gathered fs (word / 2 ^ width f)
gathered_push [] f word = let all : word / 2 ^ 0 ≡ word = omega arith in omega (arith, ap (placed f) all)
gathered_push (g ∷ fs) f word =
    let last : span (f ∷ []) ≡ width f = omega arith in
    let turned : span (fs ++ f ∷ []) ≡ width f + span fs = omega (arith, span_append fs (f ∷ []), last) in
    let above : word / 2 ^ span (fs ++ f ∷ []) ≡ word / 2 ^ width f / 2 ^ span fs = ap (λ n. word / 2 ^ n) turned ∙ sym (shr-shr word (width f) (span fs)) in
    omega (arith, ap (placed g) above, gathered_push fs f word)

-- the same, as the program takes the next of the fields
pub gathered_next : (total so_far word v : ℕ) (left fs : List Field) (f : Field) → total ≡ so_far + gathered left word → left ≡ fs ++ f ∷ [] → v ≡ placed f word → total ≡ (so_far + v) + gathered fs (word / 2 ^ width f)
gathered_next total so_far word v left fs f is last iv = omega (arith, is, ap (λ xs. gathered xs word) last, gathered_push fs f word, iv)

-- bits above those that are looked at do not matter
above : (a m s w n : ℕ) → (a * 2 ^ (m + (w + s)) + n) / 2 ^ s % 2 ^ w ≡ n / 2 ^ s % 2 ^ w
above a m s w n =
    let high : a * 2 ^ (m + (w + s)) ≡ (a * 2 ^ m) * 2 ^ w * 2 ^ s = ap (λ x. a * x) (pow-add 2 m (w + s) ∙ ap (λ x. 2 ^ m * x) (pow-add 2 w s)) ∙ omega arith in
    let sum : a * 2 ^ (m + (w + s)) + n ≡ n + (a * 2 ^ m) * 2 ^ w * 2 ^ s = omega (arith, high) in
    ap (λ x. x / 2 ^ s % 2 ^ w) sum ∙ ap (λ x. x % 2 ^ w) (add-mul-div_right n ((a * 2 ^ m) * 2 ^ w) (pow_pos s)) ∙ add-mul-mod_self_right (n / 2 ^ s) (a * 2 ^ m) (2 ^ w)

-- each field of a word, whatever stands before and after it
pub field_back : (i : ℤ) (ps : List Field) (f : Field) (qs : List Field) → number (ps ++ f ∷ qs) i / 2 ^ span qs % 2 ^ width f ≡ held i f
field_back i [] f qs = ap (λ n. n % 2 ^ width f) (shr_high (held i f) (span qs) (number qs i) (number_below qs i)) ∙ mod-eq_of_lt (held_below i f)
field_back i (p ∷ ps) f qs =
    ap (λ s. (held i p * 2 ^ s + number (ps ++ f ∷ qs) i) / 2 ^ span qs % 2 ^ width f) (span_append ps (f ∷ qs))
    ∙ above (held i p) (span ps) (span qs) (width f) (number (ps ++ f ∷ qs) i) ∙ field_back i ps f qs

-- the ends of the slices of the immediate, each counted by m
abbrev pub lows : (ℕ → ℕ) → List Field → ℕ
lows m [] = 0
lows m (Bits count n ∷ fs) = lows m fs
lows m (Immediate high low ∷ fs) = m low + lows m fs

abbrev pub highs : (ℕ → ℕ) → List Field → ℕ
highs m [] = 0
highs m (Bits count n ∷ fs) = highs m fs
highs m (Immediate high low ∷ fs) = m (1 + high) + highs m fs

-- a slice put back is what the number has below its upper end, less what it has below its lower end
slice : (n high low : ℕ) → low ≤ high → n / 2 ^ low % 2 ^ (1 + high - low) * 2 ^ low + n % 2 ^ low ≡ n % 2 ^ (1 + high)
slice n high low h = let sum : 1 + high ≡ (1 + high - low) + low = omega arith in sym (ap (λ k. n % 2 ^ k) sum ∙ mod-pow-add n (1 + high - low) low)

-- what is gathered from the last fields of a word
abbrev pub Back : ℤ → List Field → List Field → Type 0
Back i all fs = gathered fs (number all i) + lows (λ k. of_z w32 i % 2 ^ k) fs ≡ highs (λ k. of_z w32 i % 2 ^ k) fs

pub gathered_back : (i : ℤ) (ps fs : List Field) → AllByRecursion InWord fs → Back i (ps ++ fs) fs
gathered_back i ps [] fits = refl
gathered_back i ps (f ∷ fs) fits = one f fits.0 (subst (λ all. Back i all fs) (append_assoc ps (f ∷ []) fs) (gathered_back i (ps ++ f ∷ []) fs fits.1))
  where
    one : (f : Field) → InWord f → Back i (ps ++ f ∷ fs) fs → Back i (ps ++ f ∷ fs) (f ∷ fs)
    one (Bits count n) fit rest = omega (arith, rest)
    one (Immediate high low) fit rest = omega (arith, rest, ap (λ n. n * 2 ^ low) (field_back i ps (Immediate high low) fs), slice (of_z w32 i) high low fit.0)
