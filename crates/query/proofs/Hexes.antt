-- Hexadecimal words, one byte at a time.
use Rattle.std.proofs.Common.{Vec, Global, vec_items, ◌≡◌, ℕ, suc, slice_set, ◌+◌, ◌-◌, ◌*◌, ◌/◌, ◌%◌, ◌^◌, ◌<◌, ◌≤◌, Bool, true, false, cond, ◌&&◌, nat_lt, List, [], ◌∷◌, length, take, get_or, Some, None, Option, Ok, Err, is_ok, Result, MatchResult, ⊎_elim, sym, refl, ap, ◌∙◌, arith}
use Rattle.std.proofs.lemmas.Bool.{cases_eq, cases_lt, cond-true, cond-false, lt-ltb, le-ltb}
use Rattle.std.proofs.lemmas.List.{flat_map_more, take_more}
use Rattle.std.proofs.lemmas.Bool.Decides.{nat_tests}
use Rattle.std.proofs.lemmas.Str.{IsUtf8-from_ascii}
use Rattle.std.specs.Bool.{then_some}
use Rattle.std.specs.List.{AllPass, list_all}
use Rattle.std.proofs.lemmas.List.Sums.{list_all-from_AllPass}
use Rattle.std.specs.Option.{option_map}
use Rattle.std.specs.Result.{result_ok}
use Rattle.std.specs.Char.{digit_char, digit_value, is_ascii_hexdigit}
use Rattle.std.specs.Prelude.{IsOk}
use Rattle.std.proofs.lemmas.Str.Ascii.{IsAscii-cons, IsAscii-nil}
use Rattle.std.specs.Str.{IsAscii, IsUtf8}
use Rattle.hex.specs.Hex.{decode_pairs, decode_sized, digit_or_error, hex_digit_value, is_hex_digit, ◌>>=◌}
use Rattle.hex.specs.declared.error.FromHexError.{FromHexError}
use Rattle.hex.specs.declared.error.FromHexError.TheVariants.{OddLength}
use Rattle.hex.proofs.HexLemmas.{IsOk-decode_sized}
use Rattle.hex.proofs.Pairs.{decode_sized-pairs, take-two_writes}
use Rattle.query.specs.Words.{hex, two_digits, unhex}

-- a digit is one of the library's, of the same value
abbrev Agrees : ℕ → Type 0
Agrees c = hex_digit_value c ≡ cond (nat_lt (digit_value c) 16) (Some (digit_value c)) None

reads : (c v : ℕ) → hex_digit_value c ≡ Some v → digit_value c ≡ v → v < 16 → Agrees c
reads c v is value small = is ∙ sym (cond-true _ _ _ (lt-ltb (digit_value c) 16 (omega (arith, value))) ∙ ap Some value)

reads_not : (c : ℕ) → hex_digit_value c ≡ None → 16 ≤ digit_value c → Agrees c
reads_not c is large = is ∙ sym (cond-false _ _ _ (le-ltb (digit_value c) 16 large))

digit_is : (c : ℕ) → Agrees c
digit_is c =
    ⊎_elim (λ a. reads_not c (grind arith) (grind arith)) (λ a.
    ⊎_elim (λ b. reads c (c - 48) (grind arith) (grind arith) (omega arith)) (λ b.
    ⊎_elim (λ d. reads_not c (grind arith) (grind arith)) (λ d.
    ⊎_elim (λ e. reads c (c - 55) (grind arith) (grind arith) (omega arith)) (λ e.
    ⊎_elim (λ f. reads_not c (grind arith) (grind arith)) (λ f.
    ⊎_elim (λ g. reads c (c - 87) (grind arith) (grind arith) (omega arith)) (λ g. reads_not c (grind arith) (grind arith))
    (cases_lt c 103)) (cases_lt c 97)) (cases_lt c 71)) (cases_lt c 65)) (cases_lt c 58)) (cases_lt c 48)

-- two digits, and the bytes of those after them
abbrev paired : ℕ → ℕ → ℕ → Option ℕ → Option ℕ → Result (List ℕ) FromHexError → Option (List ℕ)
paired h l i high low rest = result_ok ((digit_or_error h i high >>= (λ x. digit_or_error l (i + 1) low >>= (λ y. Ok (x * 16 + y)))) >>= (λ b. rest >>= (λ bs. Ok (b ∷ bs))))

paired_is : (h l i x y : ℕ) (p q : Bool) (high low : Option ℕ) (rest : Result (List ℕ) FromHexError) (bytes : Option (List ℕ)) → high ≡ cond p (Some x) None → low ≡ cond q (Some y) None → result_ok rest ≡ bytes → paired h l i high low rest ≡ cond (p && q) (option_map (λ bs. (x * 16 + y) ∷ bs) bytes) None
paired_is h l i x y true true high low (Ok bs) bytes a b c = rw (a, b, ← c) refl
paired_is h l i x y true true high low (Err e) bytes a b c = rw (a, b, ← c) refl
paired_is h l i x y true false high low rest bytes a b c = rw (a, b) refl
paired_is h l i x y false q high low rest bytes a b c = rw a refl

pairs_are : (i : ℕ) (word : List ℕ) → result_ok (decode_pairs i word) ≡ unhex word
unfolding decode_pairs
pairs_are i [] = refl
pairs_are i (d ∷ []) = refl
pairs_are i (h ∷ (l ∷ word)) = paired_is h l i _ _ _ _ _ _ (decode_pairs (i + 2) word) _ (digit_is h) (digit_is l) (pairs_are (i + 2) word)

none_after : {X : Type 0} (b : Bool) (f : X → X) (o : Option X) → o ≡ None → cond b (option_map f o) None ≡ None
none_after true f o h = ap (option_map f) h
none_after false f o h = refl

unhex_odd : (word : List ℕ) → length word % 2 ≡ 1 → unhex word ≡ None
unhex_odd [] odd = absurd (omega arith)
unhex_odd (d ∷ []) odd = refl
unhex_odd (h ∷ (l ∷ word)) odd = none_after _ _ _ (unhex_odd word (omega arith))

-- the library decodes what our own words say
pub decoded_is : (word : List ℕ) → result_ok (decode_sized word (length word / 2)) ≡ unhex word
decoded_is word =
    ⊎_elim
    (λ odd. let refused : decode_sized word (length word / 2) ≡ Err OddLength = grind arith in ap result_ok refused ∙ sym (unhex_odd word odd))
    (λ even. ap result_ok (decode_sized-pairs word (length word / 2) (omega arith) refl) ∙ pairs_are 0 word)
    (cases_eq (length word % 2) 1)

none_from : {X : Type 0} (o : Option X) → ((x : X) → o ≡ Some x → ⊥) → o ≡ None
none_from None not = refl
none_from (Some x) not = absurd (not x refl)

-- what is left in memory after decoding into it
pub written_is : (d : Result (List ℕ) FromHexError) (r : Result (Unit {0}) FromHexError) (out : List ℕ) → MatchResult d (λ bs. (r ≡ Ok tt) × (out ≡ bs)) (λ e. r ≡ Err e) → then_some (is_ok r) out ≡ result_ok d
written_is (Ok bs) r out h = rw h.0 (ap Some h.1)
written_is (Err e) r out h = rw h refl

pub then_some_items : (b : Bool) (v : Vec ℕ Global) → option_map vec_items (then_some b v) ≡ then_some b (vec_items v)
then_some_items true v = refl
then_some_items false v = refl

-- what a word writes has its digits alone
passes : (c : ℕ) → is_hex_digit c ≡ true → is_ascii_hexdigit c ≡ true
passes c digit = grind (arith, nat_tests)

decodes : {X E : Type 0} (r : Result X E) (x : X) → result_ok r ≡ Some x → IsOk r
decodes (Ok y) x is = refl
decodes (Err e) x is = cc is

digits_of : (word bytes : List ℕ) → unhex word ≡ Some bytes → AllPass is_ascii_hexdigit word
digits_of word bytes is = λ k d lt. passes (get_or word k d) (((IsOk-decode_sized word (length word / 2)).0 (decodes _ bytes (decoded_is word ∙ is))).1 k d lt)

pub unhex_none : (word : List ℕ) → list_all is_ascii_hexdigit word ≡ false → unhex word ≡ None
unhex_none word not = none_from (unhex word) (λ bytes is. cc (sym not ∙ list_all-from_AllPass is_ascii_hexdigit word (digits_of word bytes is)))

-- every number is a byte
abbrev pub AreBytes : List ℕ → Type 0
AreBytes bytes = (k : ℕ) → get_or bytes k 0 < 2 ^ 8

-- the digits of a byte more
pub filled_more : (bytes room : List ℕ) (i high low : ℕ) → i < length bytes → 2 * i + 1 < length room → high ≡ digit_char (get_or bytes i 0 / 16) → low ≡ digit_char (get_or bytes i 0 % 16) → take (2 * i) room ≡ hex (take i bytes) → take (2 * (i + 1)) (slice_set (slice_set room (2 * i) high) (2 * i + 1) low) ≡ hex (take (i + 1) bytes)
filled_more bytes room i high low within fits h l so_far =
    let two : 2 * (i + 1) ≡ 2 * i + 2 = omega arith in
    let front = take-two_writes room (2 * i) high low fits in
    rw (two, front, so_far, h, l, take_more bytes i 0 within) (flat_map_more two_digits [] (take i bytes) (get_or bytes i 0))

digit_ascii : (d : ℕ) → d < 16 → digit_char d < 128
digit_ascii d small = grind arith

hex_ascii : (bytes : List ℕ) → AreBytes bytes → IsAscii (hex bytes)
hex_ascii [] are = IsAscii-nil
hex_ascii (b ∷ bs) are = IsAscii-cons (digit_char (b / 16)) (digit_char (b % 16) ∷ hex bs) (digit_ascii (b / 16) (omega (arith, are 0))) (IsAscii-cons (digit_char (b % 16)) (hex bs) (digit_ascii (b % 16) (omega arith)) (hex_ascii bs (λ k. are (suc k))))

pub hex_text : (bytes : List ℕ) → AreBytes bytes → IsUtf8 (hex bytes)
hex_text bytes are = IsUtf8-from_ascii (hex bytes) (hex_ascii bytes are)
