-- A table that keeps its laws means a lawful target.
use Rattle.std.specs.Prelude.{◌≡◌, ℕ, ◌%◌, ◌≤◌, [], length, ℤ, pos, ◌≤ℤ◌, Some}
use Rattle.std.proofs.Common.{sym, ap, ◌∙◌, subst, ⊎_elim, arith}
use Rattle.std.proofs.lemmas.Option.{slice_get_cases, slice_get_past}
use Rattle.target.specs.Meaning.{Exists, Lawful, Writable, highest, lowest}
use Rattle.target.specs.Table.{ExtentLaws, Table, KindLaws, Takes, encoding, of_form, tabled}

module _ {E : Type 0} (t : Table E) where
  -- a form that exists has an encoding
  pub encoded : (k f : ℕ) → Exists (tabled t) k f → (e : E) × (encoding t k f ≡ Some e)
  encoded k f there = ⊎_elim (λ y. (y.0, y.2)) (λ past. absurd (omega (arith, past.0, there.is_form))) (slice_get_cases (t.encodings k) f).1

  -- what holds of every encoding holds of a form that exists
  each : {A : Type 0} (P : A → Type 0) (none : A) (some : E → A) → ((e : E) → P (some e)) → (k f : ℕ) → Exists (tabled t) k f → P (of_form none some (encoding t k f))
  each P none some all k f there = let row = encoded k f there in subst (λ o. P (of_form none some o)) (sym row.1) (all row.0)

  -- a kind and a form, by their encoding
  module _ (k f : ℕ) (d : ℤ) (e : E) (is : encoding t k f ≡ Some e) where
    pub taken_by : Writable (tabled t) k f d → Takes t e d
    taken_by w = record {
      from_low = subst (λ o. of_form (pos 0) t.low o ≤ℤ d) is w.from_low;
      to_high = subst (λ o. d ≤ℤ of_form (pos 0) t.high o) is w.to_high;
      in_step = w.in_step;
    }

    pub bytes_by : (tabled t).bytes k f d ≡ t.bytes e d
    bytes_by = ap (of_form [] (λ x. t.bytes x d)) is

    pub size_by : (tabled t).size k f ≡ t.size e
    size_by = ap (of_form 0 t.size) is

  module _ (extents : ExtentLaws t) (laws : KindLaws t) where
    apart : (k k' f f' : ℕ) (d d' : ℤ) → Writable (tabled t) k f d → Writable (tabled t) k' f' d' → (tabled t).bytes k f d ≡ (tabled t).bytes k' f' d' → (k ≡ k') × (f ≡ f') × (d ≡ d')
    apart k k' f f' d d' w w' same =
        let e = encoded k f w.is_there in
        let e' = encoded k' f' w'.is_there in
        laws.branches_apart k k' f f' e.0 e'.0 d d' e.1 e'.1 (taken_by k f d e.0 e.1 w) (taken_by k' f' d' e'.0 e'.1 w') (sym (bytes_by k f d e.0 e.1) ∙ same ∙ bytes_by k' f' d' e'.0 e'.1)

    pub tabled_lawful : Lawful (tabled t)
    tabled_lawful = record {
      granule_is = extents.granule_is;
      forms_most = λ k h. laws.forms_most k;
      size_least = each (λ n. 1 ≤ n) 0 t.size (λ e. (extents.bounded e).size_least);
      size_most = each (λ n. n ≤ 16) 0 t.size (λ e. (extents.bounded e).size_most);
      size_in_step = each (λ n. n % t.granule ≡ 0) 0 t.size (λ e. (extents.bounded e).size_in_step);
      size_grows = λ k small large h there. laws.size_grows k small large h there.is_form;
      low_bound = each (λ z. lowest ≤ℤ z) (pos 0) t.low (λ e. (extents.bounded e).low_bound);
      low_reaches = each (λ z. z ≤ℤ pos 0) (pos 0) t.low (λ e. (extents.bounded e).low_reaches);
      high_reaches = each (λ z. pos 0 ≤ℤ z) (pos 0) t.high (λ e. (extents.bounded e).high_reaches);
      high_bound = each (λ z. z ≤ℤ highest) (pos 0) t.high (λ e. (extents.bounded e).high_bound);
      absent = λ k f h past. let none = slice_get_past (t.encodings k) f past in (ap (of_form 0 t.size) none, ap (of_form (pos 0) t.low) none, ap (of_form (pos 0) t.high) none);
      bytes_fill = λ k f d w. let e = encoded k f w.is_there in ap length (bytes_by k f d e.0 e.1) ∙ laws.bytes_fill e.0 d (taken_by k f d e.0 e.1 w) ∙ sym (size_by k f d e.0 e.1);
      bytes_apart = apart;
    }
