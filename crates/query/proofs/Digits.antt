-- Digits are text.
use Rattle.std.proofs.Common.{ℕ, List, [], ◌∷◌, ⊎_elim, arith}
use Rattle.std.proofs.lemmas.Bool.{cases_Bool, eqb-true}
use Rattle.std.proofs.lemmas.Fmt.{IsAscii-from_digits}
use Rattle.std.proofs.lemmas.Str.{IsUtf8-from_ascii}
use Rattle.std.proofs.lemmas.Str.Ascii.{IsAscii-cons}
use Rattle.std.specs.Str.{IsUtf8}
use Rattle.std.specs.Str.Parse.{IsNumeral}
use Rattle.query.specs.Queries.{NoDigits}
use Rattle.query.specs.Words.{after_minus, negative}

after_minus_text : (word : List ℕ) → IsNumeral 10 (after_minus word) → IsUtf8 word
after_minus_text [] h = absurd (let some = h.0 in omega arith)
after_minus_text (c ∷ cs) h =
    ⊎_elim
    (λ minus. let d = rw minus at h in let is = eqb-true c 45 minus in IsUtf8-from_ascii (c ∷ cs) (IsAscii-cons c cs (omega arith) (IsAscii-from_digits cs d.1)))
    (λ none. let d = rw none at h in IsUtf8-from_ascii (c ∷ cs) (IsAscii-from_digits (c ∷ cs) d.1))
    (cases_Bool (negative (c ∷ cs)))

-- what is no text has no digits alone
pub no_text : (word : List ℕ) → ¬ (IsUtf8 word) → NoDigits word
no_text word none = (λ h. none (IsUtf8-from_ascii word (IsAscii-from_digits word h.1)), λ h. none (after_minus_text word h))
