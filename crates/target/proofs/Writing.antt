-- What the table of refusals gives of a taken call, and how the laws tie reading to writing.
use Rattle.std.proofs.Common.{◌≡◌, ℕ, ◌^◌, ◌<◌, ◌≤◌, ◌⊎◌, List, ◌++◌, take, Some, None, Option, sym, refl, ap, ◌∙◌, subst, inl, inr, ⊎_elim, arith}
use mathlib.Core.HLevel.{dec→stable}
use lib.IntN.{ℤ_discrete}
use lib.Signed.{clash_ℤ}
use Rattle.std.proofs.lemmas.List.{take_at}
use Rattle.std.proofs.lemmas.Int.{by_lt_z}
use Rattle.std.proofs.lemmas.Bool.{cases_lt}
use Rattle.target.specs.declared.interface.Branch.{Branch}
use Rattle.target.specs.declared.interface.Entry.{Entry}
use Rattle.target.specs.Meaning.{Meaning, Lawful, Writable}
use Rattle.target.specs.Refusals.{Judged, Reading, write_table}

-- a line that gave no code was not due
passed : {n : ℕ} {P Q : Type 0} → ((P × (◌≡◌ {A = Option ℕ} None (Some n))) ⊎ ((P → ⊥) × Q)) → (P → ⊥) × Q
passed (inl h) = let z : ◌≡◌ {A = ℕ} 0 1 = let e = h.1 in cc in absurd (omega arith)
passed (inr h) = h

module _ (m : Meaning) (b : Branch) where
  -- what is not unwritable is writable, since each of its conditions can be tested
  pub writable_stable : b.kind < 2 ^ 32 → ((Writable m b.kind b.form b.distance → ⊥) → ⊥) → Writable m b.kind b.form b.distance
  writable_stable is_kind h = record {
    is_there = record {
      is_kind = is_kind;
      is_form = ⊎_elim (λ y. y) (λ n. absurd (h (λ w. let e = w.is_there.is_form in omega arith))) (cases_lt b.form (m.forms b.kind));
    };
    from_low = by_lt_z b.distance (m.low b.kind b.form) (λ n. absurd (h (λ w. clash_ℤ n w.from_low))) (λ y. y);
    to_high = by_lt_z (m.high b.kind b.form) b.distance (λ n. absurd (h (λ w. clash_ℤ n w.to_high))) (λ y. y);
    in_step = dec→stable (ℤ_discrete _ _) (λ n. h (λ w. n w.in_step));
  }

  module _ (room : ℕ) (is_kind : b.kind < 2 ^ 32) (j : Judged (write_table m b room) None) where
    pub taken_writable : Writable m b.kind b.form b.distance
    taken_writable = writable_stable is_kind (passed (passed j).1).0

  -- what can be written, where there is room for it, is not refused
  pub not_refused : {code room : ℕ} → Writable m b.kind b.form b.distance → m.size b.kind b.form ≤ room → Judged (write_table m b room) (Some code) → ⊥
  not_refused w enough (inl h) = let e = w.is_there.is_form in omega (arith, h.0)
  not_refused w enough (inr (none, inl h)) = h.0 w
  not_refused w enough (inr (none, inr (taken, inl h))) = omega (arith, h.0)
  not_refused w enough (inr (none, inr (taken, inr h))) = let z : ◌≡◌ {A = ℕ} 0 1 = let e = h.1 in cc in absurd (omega arith)

  -- the size of the branch's form, asked by its kind and form
  pub sized : (entry : Entry) (n : ℕ) → entry ≡ record { kind = b.kind; form = b.form } → n ≡ m.size entry.kind entry.form → n ≡ m.size b.kind b.form
  sized entry n at is = is ∙ ap (λ (x : Entry). m.size x.kind x.form) at

  read_back : Lawful m → Writable m b.kind b.form b.distance → (answer : Option Branch) → Reading m (m.bytes b.kind b.form b.distance) answer → answer ≡ Some b
  read_back laws w None none = absurd (none b (record { is_writable = w; has_bytes = refl }))
  read_back laws w (Some x) means =
      let same = laws.bytes_apart x.kind b.kind x.form b.form x.distance b.distance means.is_writable w means.has_bytes in
      λ i. Some (record { kind = same.0 i; form = same.1 i; distance = same.2 i })

  -- the first n bytes of what was written, n being the form's size
  module _ (laws : Lawful m) (w : Writable m b.kind b.form b.distance) (n : ℕ) (after rest : List ℕ) (long : n ≡ m.size b.kind b.form) (h : after ≡ m.bytes b.kind b.form b.distance ++ rest) where
    pub front_is : take n after ≡ m.bytes b.kind b.form b.distance
    front_is = ap (take n) h ∙ take_at (m.bytes b.kind b.form b.distance) rest n (laws.bytes_fill b.kind b.form b.distance w ∙ sym long)

    pub read_front_lem : (answer : Option Branch) → Reading m (take n after) answer → answer ≡ Some b
    read_front_lem answer reading = read_back laws w answer (subst (λ bs. Reading m bs answer) front_is reading)
