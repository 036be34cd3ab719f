-- What words ask, by their first.
use Rattle.std.proofs.Common.{◌≡◌, ℕ, List, ◌∷◌, Some, None, codes, vec_items, Vec, Global, Option, subst}
use Rattle.std.specs.Option.{option_map}
use Rattle.target.specs.declared.interface.Branch.{Branch}
use Rattle.query.specs.declared.queries.Query.TheVariants.{Write, Read}
use Rattle.query.specs.Queries.{Asked, BranchWords, Found, HexWord, Question, Task, read, write}

tail_is : {v w : List ℕ} {xs ys ws : List (List ℕ)} → ws ≡ v ∷ xs → ws ≡ w ∷ ys → xs ≡ ys
tail_is p q = cc

apart : {ws xs ys : List (List ℕ)} → ws ≡ codes "write" ∷ xs → ws ≡ codes "read" ∷ ys → ⊥
apart p q = cc

module _ (ws rest : List (List ℕ)) where
  no_branch : ws ≡ codes "write" ∷ rest → ((b : Branch) → BranchWords rest b → ⊥) → (q : Question) → Task ws q → ⊥
  no_branch is none (write b) asks = none b (subst (λ r. BranchWords r b) (tail_is asks.1 is) asks.2)
  no_branch is none (read bytes) asks = apart is asks.1

  no_bytes : ws ≡ codes "read" ∷ rest → ((bytes : List ℕ) → HexWord rest bytes → ⊥) → (q : Question) → Task ws q → ⊥
  no_bytes is none (write b) asks = apart asks.1 is
  no_bytes is none (read bytes) asks = none bytes (subst (λ r. HexWord r bytes) (tail_is asks.1 is) asks.2)

  -- the words after `write`, and the branch that they name
  pub asked_write : ws ≡ codes "write" ∷ rest → (branch : Option Branch) → Found (BranchWords rest) branch → Asked Task ws (option_map Write branch)
  asked_write is None none = no_branch is none
  asked_write is (Some branch) are = (rest, is, are)

  -- the words after `read`, and the bytes that they write
  pub asked_read : ws ≡ codes "read" ∷ rest → (bytes : Option (Vec ℕ Global)) → Found (HexWord rest) (option_map vec_items bytes) → Asked Task ws (option_map Read bytes)
  asked_read is None none = no_bytes is none
  asked_read is (Some v) are = (rest, is, are)
