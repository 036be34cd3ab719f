-- The words of a line, and the numbers and bytes that words write.
use Rattle.std.specs.Prelude.{◌≡◌, ℕ, ◌+◌, ◌*◌, ◌/◌, ◌%◌, Bool, cond, ◌&&◌, ◌||◌, List, [], ◌∷◌, drop, ℤ, pos, neg_ℤ, Some, None, Option, ◌==◌, nat_lt, slice_index}
use Rattle.std.specs.Borrow.{Bor}
use Rattle.std.specs.Option.{option_map}
use Rattle.std.specs.Str.Parse.{digits_value}
use Rattle.std.specs.List.{flat_map}
use Rattle.std.specs.Char.{digit_char, digit_value}

-- a space or a tab
abbrev pub separates : ℕ → Bool
separates c = c == 32 || c == 9

-- a byte before the word that follows it, and a byte that is a word
abbrev pub lengthened : ℕ → List (List ℕ) → List (List ℕ)
lengthened c [] = (c ∷ []) ∷ []
lengthened c (w ∷ ws) = (c ∷ w) ∷ ws

-- the words of a line, with a byte of a word before it
abbrev pub led : ℕ → List ℕ → List (List ℕ) → List (List ℕ)
led c [] ws = (c ∷ []) ∷ ws
led c (d ∷ ds) ws = cond (separates d) ((c ∷ []) ∷ ws) (lengthened c ws)

-- the longest runs of bytes that do not separate, in order
abbrev pub words : List ℕ → List (List ℕ)
words [] = []
words (c ∷ cs) = cond (separates c) (words cs) (led c cs (words cs))

-- the first word and what follows it, or that there is none
abbrev pub Split : List ℕ → Option (Bor (List ℕ) × Bor (List ℕ)) → Type 0
Split line None = words line ≡ []
Split line (Some (word, rest)) = words line ≡ word.now ∷ words rest.now

-- a minus may stand before the digits of a signed number
abbrev pub negative : List ℕ → Bool
negative word = slice_index word 0 == 45

abbrev pub after_minus : List ℕ → List ℕ
after_minus word = cond (negative word) (drop 1 word) word

abbrev pub integer : List ℕ → ℤ
integer word = cond (negative word) (neg_ℤ (pos (digits_value 10 (drop 1 word)))) (pos (digits_value 10 word))

-- bytes in hexadecimal: two lowercase digits to a byte, the high one first
abbrev pub two_digits : ℕ → List ℕ
two_digits b = digit_char (b / 16) ∷ digit_char (b % 16) ∷ []

abbrev pub hex : List ℕ → List ℕ
hex bytes = flat_map two_digits bytes

-- the bytes that a word of such digits writes, in either case of the letters
abbrev pub unhex : List ℕ → Option (List ℕ)
unhex [] = Some []
unhex (high ∷ []) = None
unhex (high ∷ low ∷ word) =
    cond (nat_lt (digit_value high) 16 && nat_lt (digit_value low) 16) (option_map (λ bs. (digit_value high * 16 + digit_value low) ∷ bs) (unhex word)) None
