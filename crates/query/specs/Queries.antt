-- What a line asks.
use Rattle.std.specs.Prelude.{◌≡◌, ℕ, Bool, ◌^◌, ◌<◌, List, [], ◌∷◌, ℤ, Some, None, vec_items, codes, Option, FitsSigned, Ok, Err, Result, false, ◌==◌, ◌⊎◌, slice_index}
use Rattle.std.specs.Int.{w32}
use Rattle.std.specs.Option.{option_map}
use Rattle.std.specs.Str.Parse.{IsNumeral, digits_value}
use Rattle.target.specs.declared.interface.Branch.{Branch}
use Rattle.query.specs.declared.queries.Query.{Query}
use Rattle.query.specs.declared.queries.Query.TheVariants.{Write, Read}
use Rattle.query.specs.Words.{after_minus, integer, unhex}

-- to write a branch, or to read bytes
pub data Question : Type 0 where
  write : Branch → Question
  read : List ℕ → Question

abbrev pub question : Query → Question
question (Write branch) = write branch
question (Read bytes) = read (vec_items bytes)

-- what was found of a kind, or that there is nothing of it
abbrev pub Found : {X : Type 0} → (X → Type 0) → Option X → Type 0
Found {X} Is None = (x : X) → Is x → ⊥
Found Is (Some x) = Is x

-- a word of decimal digits that write a number below 2^32
pub record Unsigned (word : List ℕ) (n : ℕ) : Type 0 where
  pub digits : IsNumeral 10 word
  pub small : digits_value 10 word < 2 ^ 32
  pub is : n ≡ digits_value 10 word

-- a word of decimal digits, with or without a minus, that write a number of 32 bits
pub record Signed (word : List ℕ) (z : ℤ) : Type 0 where
  pub digits : IsNumeral 10 (after_minus word)
  pub small : FitsSigned w32 (integer word)
  pub is : z ≡ integer word

-- a word that is neither digits nor a minus and digits
abbrev pub NoDigits : List ℕ → Type 0
NoDigits word = ¬ (IsNumeral 10 word) × ¬ (IsNumeral 10 (after_minus word))

-- a plus may stand before digits for std, and not here
abbrev pub plus_first : List ℕ → Bool
plus_first word = slice_index word 0 == 43

-- what a type reads in a word: what its parsing gives, but none where a plus stands first
abbrev pub Parsed : {N E : Type 0} → (List ℕ → Result N E → Type 0) → List ℕ → Option N → Type 0
Parsed {N} {E} gives word None = NoDigits word ⊎ ((plus_first word ≡ false) × (e : E) × gives word (Err e))
Parsed gives word (Some n) = (plus_first word ≡ false) × gives word (Ok n)

-- kind, form and distance
pub record BranchWords (ws : List (List ℕ)) (branch : Branch) : Type 0 where
  pub kind_word : List ℕ
  pub form_word : List ℕ
  pub distance_word : List ℕ
  pub are : ws ≡ kind_word ∷ form_word ∷ distance_word ∷ []
  pub kind_is : Unsigned kind_word branch.kind
  pub form_is : Unsigned form_word branch.form
  pub distance_is : Signed distance_word branch.distance

-- one word of hexadecimal digits
pub record HexWord (ws : List (List ℕ)) (bytes : List ℕ) : Type 0 where
  pub word : List ℕ
  pub are : ws ≡ word ∷ []
  pub bytes_are : unhex word ≡ Some bytes

-- what to do, and with what
abbrev pub Task : List (List ℕ) → Question → Type 0
Task ws (write branch) = (rest : List (List ℕ)) × (ws ≡ codes "write" ∷ rest) × BranchWords rest branch
Task ws (read bytes) = (rest : List (List ℕ)) × (ws ≡ codes "read" ∷ rest) × HexWord rest bytes

-- the words of a line that asks this: the target's name, and then what to do
abbrev pub Asks : List (List ℕ) → Question → Type 0
Asks ws q = (rest : List (List ℕ)) × (ws ≡ codes "x86" ∷ rest) × Task rest q

-- what was made of words: the question that they put, or none where they put none
abbrev pub Asked : (List (List ℕ) → Question → Type 0) → List (List ℕ) → Option Query → Type 0
Asked Puts ws query = Found (Puts ws) (option_map question query)

-- words that are to read bytes, which take memory on the heap: as a task, and as a line
abbrev pub TaskReads : List (List ℕ) → Type 0
TaskReads ws = (rest : List (List ℕ)) × (ws ≡ codes "read" ∷ rest)

abbrev pub LineReads : List (List ℕ) → Type 0
LineReads ws = (rest : List (List ℕ)) × (ws ≡ codes "x86" ∷ rest) × TaskReads rest
