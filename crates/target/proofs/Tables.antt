-- Writing and reading a branch of a table are those of its encodings.
use Rattle.std.proofs.Common.{◌≡◌, ℕ, ◌^◌, ◌<◌, ◌⊎◌, List, ℤ, pos, ◌≤ℤ◌, Some, None, Option, sym, ap, ◌∙◌, subst, inl, inr, arith, w32, SFits, to_z, of_z}
use Rattle.std.proofs.lemmas.Int.{to_z-of_z}
use Rattle.std.proofs.lemmas.Option.{slice_get_within}
use Rattle.target.specs.declared.interface.Branch.{Branch}
use Rattle.target.specs.declared.interface.Entry.{Entry}
use Rattle.target.specs.declared.table.Spelled.{Spelled}
use Rattle.target.specs.Meaning.{Writable}
use Rattle.target.specs.Refusals.{Judged, Means, write_table}
use Rattle.target.specs.Table.{Entered, Spells, Table, Takes, encode_table, encoding, of_form, tabled}
use Rattle.target.specs.Laws.{bytes_by, encoded, size_by, taken_by}

module _ {E : Type 0} (t : Table E) where
  -- a branch is writable with what its encoding takes, and means the bytes that it spells
  writable_by : (b : Branch) (e : E) → encoding t b.kind b.form ≡ Some e → b.kind < 2 ^ 32 → Takes t e b.distance → Writable (tabled t) b.kind b.form b.distance
  writable_by b e is is_kind takes = record {
    is_there = record { is_kind = is_kind; is_form = slice_get_within (t.encodings b.kind) b.form e is };
    from_low = subst (λ o. of_form (pos 0) t.low o ≤ℤ b.distance) (sym is) takes.from_low;
    to_high = subst (λ o. b.distance ≤ℤ of_form (pos 0) t.high o) (sym is) takes.to_high;
    in_step = takes.in_step;
  }

  pub means_by : {bs : List ℕ} (b : Branch) (e : E) → encoding t b.kind b.form ≡ Some e → b.kind < 2 ^ 32 → Spells t bs e b.distance → Means (tabled t) bs b
  means_by b e is is_kind spells = record { is_writable = writable_by b e is is_kind spells.takes; has_bytes = bytes_by t b.kind b.form b.distance e is ∙ spells.has_bytes }

  -- and a branch that means bytes spells them by its encoding
  pub spelled_by : {bs : List ℕ} (b : Branch) → Means (tabled t) bs b → (e : E) × (encoding t b.kind b.form ≡ Some e) × Spells t bs e b.distance
  spelled_by b means =
      let row = encoded t b.kind b.form means.is_writable.is_there in
      (row.0, row.1, record { takes = taken_by t b.kind b.form b.distance row.0 row.1 means.is_writable; has_bytes = sym (bytes_by t b.kind b.form b.distance row.0 row.1) ∙ means.has_bytes })

  -- what is read is the branch of the encoding and the distance that were found
  pub read_by : {bs : List ℕ} (b : Branch) (entry : Entry) (s : Spelled E) → SFits w32 s.distance → b ≡ record { kind = entry.kind; form = entry.form; distance = to_z w32 (of_z w32 s.distance) } → entry.kind < 2 ^ 32 → Entered t s.encoding (Some entry) → Spells t bs s.encoding s.distance → Means (tabled t) bs b
  read_by {bs} b entry s fits is is_kind entered spells =
      let same = is ∙ ap (λ z. record { kind = entry.kind; form = entry.form; distance = z }) (to_z-of_z w32 s.distance fits) in
      subst (Means (tabled t) bs) (sym same) (means_by (record { kind = entry.kind; form = entry.form; distance = s.distance }) s.encoding entered is_kind spells)

  judged_here : (b : Branch) (e : E) → encoding t b.kind b.form ≡ Some e → b.kind < 2 ^ 32 → (room : ℕ) (answer : Option ℕ) → Judged (encode_table t e b.distance room) answer → Judged (write_table (tabled t) b room) answer
  judged_here b e is is_kind room answer (inl h) =
      inr ((λ none. let within = slice_get_within (t.encodings b.kind) b.form e is in omega arith), inl ((λ w. h.0 (taken_by t b.kind b.form b.distance e is w)), h.1))
  judged_here b e is is_kind room answer (inr h) =
      let due : ((room < t.size e) × (answer ≡ Some 13)) ⊎ (((room < t.size e) → ⊥) × (answer ≡ None)) = h.1 in
      inr ((λ none. let within = slice_get_within (t.encodings b.kind) b.form e is in omega arith), inr ((λ n. h.0 (λ takes. n (writable_by b e is is_kind takes))), subst (λ n. ((room < n) × (answer ≡ Some 13)) ⊎ (((room < n) → ⊥) × (answer ≡ None))) (sym (size_by t b.kind b.form b.distance e is)) due))

  -- what writing a branch refuses is what writing its encoding does
  pub judged_by : (b : Branch) (entry : Entry) (e : E) → entry ≡ record { kind = b.kind; form = b.form } → encoding t entry.kind entry.form ≡ Some e → b.kind < 2 ^ 32 → SFits w32 b.distance → (room : ℕ) (answer : Option ℕ) → Judged (encode_table t e (to_z w32 (of_z w32 b.distance)) room) answer → Judged (write_table (tabled t) b room) answer
  judged_by b entry e at is is_kind fits room answer j =
      judged_here b e (sym (ap (λ (x : Entry). encoding t x.kind x.form) at) ∙ is) is_kind room answer (subst (λ z. Judged (encode_table t e z room) answer) (to_z-of_z w32 b.distance fits) j)

  -- where bytes tell encodings of some sort apart, and the encodings of kinds are of that sort, bytes tell the branches of kinds apart
  module _ (Sort : E → Type 0) (sort : (k f : ℕ) (e : E) → encoding t k f ≡ Some e → Sort e) where
    pub told_apart : ((e e' : E) (d d' : ℤ) → Sort e → Sort e' → Takes t e d → Takes t e' d' → t.bytes e d ≡ t.bytes e' d' → (e ≡ e') × (d ≡ d')) → ((k k' f f' : ℕ) (e : E) → encoding t k f ≡ Some e → encoding t k' f' ≡ Some e → (k ≡ k') × (f ≡ f')) → (k k' f f' : ℕ) (e e' : E) (d d' : ℤ) → encoding t k f ≡ Some e → encoding t k' f' ≡ Some e' → Takes t e d → Takes t e' d' → t.bytes e d ≡ t.bytes e' d' → (k ≡ k') × (f ≡ f') × (d ≡ d')
    told_apart bytes_apart entries_apart k k' f f' e e' d d' is is' takes takes' same =
        let parts = bytes_apart e e' d d' (sort k f e is) (sort k' f' e' is') takes takes' same in
        let entries = entries_apart k k' f f' e is (is' ∙ ap Some (sym parts.0)) in
        (entries.0, entries.1, parts.1)
