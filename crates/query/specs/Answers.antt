-- What a question is answered, and the text of it.
use Rattle.std.specs.Prelude.{◌≡◌, ℕ, ◌⊎◌, List, [], ◌∷◌, ◌++◌, Some, None, Ok, Err, Option, vec_items, codes, decimal, ◌≢◌}
use Rattle.std.specs.Fmt.{signed_decimal}
use Rattle.target.specs.Meaning.{Meaning, Writable}
use Rattle.target.specs.Refusals.{Judged, Reading, code, write_table}
use Rattle.x86.specs.Encodings.{x86}
use Rattle.query.specs.declared.answers.Answer.{Answer}
use Rattle.query.specs.declared.answers.Answer.TheVariants.{Written, Read}
use Rattle.query.specs.Queries.{Asks, LineReads, Question, read, write}
use Rattle.query.specs.Words.{hex, words}

-- the right answer to a question, for a target; writing has room for 16 bytes, the most that any form takes
abbrev pub Answered : Meaning → Question → Answer → Type 0
Answered m (write b) (Written (Ok bytes)) = Writable m b.kind b.form b.distance × (vec_items bytes ≡ m.bytes b.kind b.form b.distance)
Answered m (write b) (Written (Err fault)) = Judged (write_table m b 16) (Some (code fault))
Answered m (write b) (Read branch) = ⊥
Answered m (read bs) (Written bytes) = ⊥
Answered m (read bs) (Read branch) = Reading m bs branch

-- a question whose answer takes memory on the heap: only the bytes of a branch that can be written do
abbrev pub TakesMemory : Meaning → Question → Type 0
TakesMemory m (write b) = Writable m b.kind b.form b.distance
TakesMemory m (read bs) = ⊥

-- the text of an answer
abbrev pub text : Answer → List ℕ
text (Written (Ok bytes)) = hex (vec_items bytes)
text (Written (Err fault)) = codes "refused " ++ decimal (code fault)
text (Read (Some b)) = codes "kind " ++ (decimal b.kind ++ (codes " form " ++ (decimal b.form ++ (codes " distance " ++ signed_decimal b.distance))))
text (Read None) = codes "no branch"

-- the right answer to a line: to what it asks of x86, or none where it asks nothing
abbrev pub Right : List ℕ → Option Answer → Type 0
Right line (Some a) = (q : Question) × Asks (words line) q × Answered x86 q a
Right line None = (q : Question) → Asks (words line) q → ⊥

-- what a line is told: the text of its answer, or that it is not understood
abbrev pub told : Option Answer → List ℕ
told (Some a) = text a
told None = codes "not understood"

-- a line that takes memory on the heap before its answer is known
abbrev pub LineTakesMemory : List ℕ → Type 0
LineTakesMemory line = LineReads (words line) ⊎ ((q : Question) × Asks (words line) q × TakesMemory x86 q)

-- a line with its right answer and a line end
abbrev pub WithAnswer : List ℕ → List ℕ → Type 0
WithAnswer line reply = (a : Option Answer) × Right line a × (reply ≡ line ++ (codes " = " ++ (told a ++ (10 ∷ []))))

-- the reply to a line: nothing to a blank one, else the line with its answer
abbrev pub Replied : List ℕ → List ℕ → Type 0
Replied line reply = ((words line ≡ []) × (reply ≡ [])) ⊎ ((words line ≢ []) × WithAnswer line reply)
