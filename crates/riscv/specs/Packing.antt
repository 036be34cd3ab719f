-- Fields and the words that are made of them.
use Rattle.std.specs.Prelude.{◌≡◌, ℕ, suc, ◌+◌, ◌-◌, ◌*◌, ◌/◌, ◌%◌, ◌^◌, ◌<◌, ◌≤◌, List, [], ◌∷◌, ◌++◌, length, take, drop, ℤ, pos, negsuc, FitsSigned, refl}
use Rattle.std.proofs.Common.{sym, ap, ◌∙◌, subst, lt_of_lt_of_le, mod-eq_of_lt, mul_comm, arith, pow_mono, get_or, of_z}
use Rattle.std.proofs.Math.Nat.{add-mul-mod_self_right}
use Rattle.std.specs.Int.Signed.{shr_z}
use Rattle.std.specs.Int.{w32}
use Rattle.std.proofs.lemmas.Nat.{div-add-mod', div_below, div-mul-add, mod_below, mul-add-lt, pow-add, pow_pos}
use Rattle.std.proofs.lemmas.List.{take-append-drop, take_more}
use Rattle.riscv.specs.declared.words.Field.{Field}
use Rattle.riscv.specs.declared.words.Field.TheVariants.{Bits, Immediate}
use Rattle.riscv.specs.Words.{Laid, held, number, span, width}

-- a quotient rounded down has the bits of the number from there on
shifted_below : (n k m c e : ℕ) → 0 < m → k ≡ e * c → n < k * m → (k * m - suc (n / m)) % c ≡ (k * m - suc n) / m % c
shifted_below n k m c e some is h =
    let q = n / m in
    let r = n % m in
    let split : q * m + r ≡ n = div-add-mod' n m in
    let small : r < m = mod_below n m some in
    let less : q < k = div_below n m k some h in
    let j = k - suc q in
    let sum : k ≡ suc q + j = omega arith in
    let times : k * m ≡ q * m + m + j * m = ap (λ x. x * m) sum ∙ omega arith in
    let down : (k * m - suc n) / m ≡ j = ap (λ x. x / m) (omega arith) ∙ div-mul-add j m (m - suc r) (omega arith) in
    let u = m - 1 in
    let next : m ≡ 1 + u = omega arith in
    let one : k * m ≡ k + k * u = ap (λ x. k * x) next ∙ omega arith in
    let rest : k * u ≡ e * u * c = ap (λ x. x * u) is ∙ omega arith in
    let up : k * m - suc q ≡ j + e * u * c = omega arith in
    ap (λ x. x % c) up ∙ add-mul-mod_self_right j (e * u) c ∙ ap (λ x. x % c) (sym down)

pub shifted : (i : ℤ) (low count : ℕ) → FitsSigned w32 i → low + count ≤ 32 → of_z w32 (shr_z i (2 ^ low)) % 2 ^ count ≡ of_z w32 i / 2 ^ low % 2 ^ count
shifted (pos n) low count fits room = refl
shifted (negsuc n) low count fits room =
    let high = 32 - low in
    let bits : 32 ≡ high + low = omega arith in
    let whole : 2 ^ 32 ≡ 2 ^ high * 2 ^ low = ap (λ x. 2 ^ x) bits ∙ pow-add 2 high low in
    let more = high - count in
    let above : high ≡ more + count = omega arith in
    let part : 2 ^ high ≡ 2 ^ more * 2 ^ count = ap (λ x. 2 ^ x) above ∙ pow-add 2 more count in
    subst (λ x. (x - suc (n / 2 ^ low)) % 2 ^ count ≡ (x - suc n) / 2 ^ low % 2 ^ count) (sym whole)
    (shifted_below n (2 ^ high) (2 ^ low) (2 ^ count) (2 ^ more) (pow_pos low) part (subst (λ x. n < x) whole (omega arith)))

pub held_below : (i : ℤ) (f : Field) → held i f < 2 ^ width f
held_below i (Bits count n) = mod_below n (2 ^ count) (pow_pos count)
held_below i (Immediate high low) = mod_below (of_z w32 i / 2 ^ low) (2 ^ (1 + high - low)) (pow_pos (1 + high - low))

-- a word has no more bits than its fields
pub number_below : (fs : List Field) (i : ℤ) → number fs i < 2 ^ span fs
number_below [] i = omega arith
number_below (f ∷ fs) i =
    subst (λ n. held i f * 2 ^ span fs + number fs i < n) (sym (pow-add 2 (width f) (span fs) ∙ mul_comm (2 ^ width f) (2 ^ span fs)))
    (mul-add-lt (held i f) (2 ^ span fs) (number fs i) (2 ^ width f) (held_below i f) (number_below fs i))

pub span_append : (ps qs : List Field) → span (ps ++ qs) ≡ span ps + span qs
span_append [] qs = omega arith
span_append (p ∷ ps) qs = omega (arith, span_append ps qs)

-- one field more at the end of a word
pub number_push : (fs : List Field) (f : Field) (i : ℤ) → number (fs ++ f ∷ []) i ≡ number fs i * 2 ^ width f + held i f
number_push [] f i = omega arith
number_push (g ∷ fs) f i =
    let last : span (f ∷ []) ≡ width f = omega arith in
    let high : 2 ^ span (fs ++ f ∷ []) ≡ 2 ^ span fs * 2 ^ width f = ap (λ n. 2 ^ n) (span_append fs (f ∷ []) ∙ ap (λ n. span fs + n) last) ∙ pow-add 2 (span fs) (width f) in
    (λ j. held i g * high j + number_push fs f i j) ∙ omega arith

-- the same, as the program takes the next of the fields
module _ (i : ℤ) (fields : List Field) (laid : Laid fields) (k : ℕ) where
  pub next_fits : number (take (k + 1) fields) i < 2 ^ 32
  next_fits =
      let parts : span fields ≡ span (take (k + 1) fields) + span (drop (k + 1) fields) = ap span (sym (take-append-drop (k + 1) fields)) ∙ span_append (take (k + 1) fields) (drop (k + 1) fields) in
      let few : span (take (k + 1) fields) ≤ 32 = omega (arith, parts, laid.room) in
      lt_of_lt_of_le (number_below (take (k + 1) fields) i) (pow_mono few)

  pub next_is : (word w v : ℕ) (default : Field) → k < length fields → word ≡ number (take k fields) i → w ≡ width (get_or fields k default) → v ≡ held i (get_or fields k default) → (word * 2 ^ w) % 2 ^ 32 + v ≡ number (take (k + 1) fields) i
  next_is word w v default within is iw iv =
      let f = get_or fields k default in
      let more : number (take (k + 1) fields) i ≡ number (take k fields) i * 2 ^ width f + held i f = ap (λ fs. number fs i) (take_more fields k default within) ∙ number_push (take k fields) f i in
      let so : word * 2 ^ w ≡ number (take k fields) i * 2 ^ width f = λ j. is j * 2 ^ iw j in
      let whole : (word * 2 ^ w) % 2 ^ 32 ≡ word * 2 ^ w = mod-eq_of_lt (omega (arith, so, more, next_fits)) in
      omega (arith, whole, so, iv, more)
