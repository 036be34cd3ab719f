-- Where the first word of a line begins and ends.
use Rattle.std.proofs.Common.{◌≡◌, ℕ, zero, suc, ◌<◌, Bool, true, false, not, List, [], ◌∷◌, length, get_or, take, drop, Some, None, refl, sym, ap, ◌∙◌, ⊎_elim, arith, one-add}
use Rattle.std.proofs.lemmas.Bool.{cases_Bool, cond-true, cond-false, not-true, not-false}
use Rattle.std.proofs.lemmas.List.Quantifiers.{position-Some}
use Rattle.std.proofs.lemmas.List.Sums.{prefix_len-le-length}
use Rattle.std.specs.List.{position, position_or_len}
use Rattle.std.specs.Option.{unwrap_or}
use Rattle.query.specs.Words.{lengthened, separates, words}

-- a byte of a word
abbrev pub joins : ℕ → Bool
joins c = not (separates c)

-- how long the word is that a line begins with
abbrev run : List ℕ → ℕ
run line = position_or_len separates line

run_more : (c : ℕ) (cs : List ℕ) → separates c ≡ false → run (c ∷ cs) ≡ suc (run cs)
run_more c cs h = rw h (one-add (run cs))

run_none : (c : ℕ) (cs : List ℕ) → separates c ≡ true → run (c ∷ cs) ≡ 0
run_none c cs h = rw h refl

-- the front of n bytes as a word, and the words after it
abbrev cut : ℕ → List ℕ → List (List ℕ)
cut n line = take n line ∷ words (drop n line)

-- a line that begins with a word
front : (c : ℕ) (cs : List ℕ) → separates c ≡ false → words (c ∷ cs) ≡ cut (run (c ∷ cs)) (c ∷ cs)
front c [] h = rw h refl
front c (d ∷ ds) h =
    cond-false (separates c) _ _ h
    ∙ ⊎_elim
    (λ t. cond-true (separates d) _ _ t ∙ ap (λ n. cut (suc n) (c ∷ d ∷ ds)) (sym (run_none d ds t)))
    (λ f. cond-false (separates d) _ _ f ∙ ap (lengthened c) (front d ds f))
    (cases_Bool (separates d))
    ∙ ap (λ n. cut n (c ∷ d ∷ ds)) (sym (run_more c (d ∷ ds) h))

-- where no byte separates, the word is all
run_is : (line : List ℕ) → unwrap_or (position separates line) (length line) ≡ run line
run_is line = grind (arith, prefix_len-le-length joins line)

-- the word that begins at i, after what separates
from : (line : List ℕ) (i : ℕ) → i < length line → separates (get_or line i 0) ≡ false → ((k : ℕ) → k < i → separates (get_or line k 0) ≡ true) → words line ≡ cut (run (drop i line)) (drop i line)
from [] i within begins gap = absurd (omega arith)
from (c ∷ cs) zero within begins gap = front c cs begins
from (c ∷ cs) (suc i) within begins gap = cond-true (separates c) _ _ (gap 0 (omega arith)) ∙ from cs i (omega arith) begins (λ k h. gap (suc k) (omega arith))

-- the first word, by the places where it begins and ends
pub first_word : (line : List ℕ) (i : ℕ) → position joins line ≡ Some i → words line ≡ cut (unwrap_or (position separates (drop i line)) (length (drop i line))) (drop i line)
first_word line i is =
    let first = position-Some joins line i 0 is in
    from line i first.0 (not-true _ first.1) (λ k below. not-false _ (first.2 k below)) ∙ ap (λ n. cut n (drop i line)) (sym (run_is (drop i line)))

skip : (c : ℕ) (cs : List ℕ) → separates c ≡ true → position joins (c ∷ cs) ≡ None → position joins cs ≡ None
skip c cs t h = grind arith

begun : (c : ℕ) (cs : List ℕ) → separates c ≡ false → position joins (c ∷ cs) ≡ None → ⊥
begun c cs f h = grind arith

pub no_word : (line : List ℕ) → position joins line ≡ None → words line ≡ []
no_word [] h = refl
no_word (c ∷ cs) h = ⊎_elim (λ t. cond-true (separates c) _ _ t ∙ no_word cs (skip c cs t h)) (λ f. absurd (begun c cs f h)) (cases_Bool (separates c))
