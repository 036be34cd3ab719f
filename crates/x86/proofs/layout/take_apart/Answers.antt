-- Bytes are those of the displacement that was read from them.
use Rattle.std.proofs.Common.{◌≡◌, ℕ, ◌+◌, List, [], ◌∷◌, get_or, ℤ, sym, refl, ap, ◌∙◌, subst, arith, w8, w32, Fits, SFits, to_z, of_z, rules}
use Rattle.std.proofs.lemmas.Int.{to_z-of_z, of_z-to_z}
use Rattle.std.proofs.lemmas.Slice.Eq.{text_from_reads}
use Rattle.std.specs.Int.{from_le_bytes, to_le_bytes}
use Rattle.target.proofs.Bytes.{four, four_are}
use Rattle.x86.proofs.layout.take_apart.Goals as goal

pub returns-in-len2 : goal.returns-in-len2
returns-in-len2 c =
    let bytes = c.args.bytes.now in
    let fits : SFits w8 c.cast_signed.result = search rules in
    let is : to_z w32 (of_z w32 c.from.result) ≡ c.cast_signed.result = to_z-of_z w32 c.from.result (search rules) ∙ c.from.ensures ∙ to_z-of_z w8 c.cast_signed.result fits in
    let back : of_z w8 c.cast_signed.result ≡ get_or bytes 1 0 = ap (of_z w8) c.cast_signed.ensures ∙ of_z-to_z w8 (get_or bytes 1 0) (omega (arith, c.type_inv.bytes 1)) in
    (sym (text_from_reads bytes (get_or bytes 0 0 ∷ of_z w8 (to_z w32 (of_z w32 c.from.result)) ∷ []) (search rules) (refl, (sym (ap (of_z w8) is ∙ back), tt))), subst (λ z. SFits w8 z) (sym is) fits)

-- four bytes of the list, read as a displacement, are stored as themselves
module _ (bytes : List ℕ) (typed : (i : ℕ) → Fits w8 (get_or bytes i 0)) (i : ℕ) (read : ℤ) where
  four_again : SFits w32 read → read ≡ to_z w32 (from_le_bytes w32 (four bytes typed i)) → to_le_bytes w32 (of_z w32 (to_z w32 (of_z w32 read))) ≡ four bytes typed i
  four_again fits is =
      four_are bytes typed i _ (ap (of_z w32) (to_z-of_z w32 read fits ∙ is) ∙ of_z-to_z w32 (from_le_bytes w32 (four bytes typed i)) (omega (arith, typed i, typed (1 + i), typed (2 + i), typed (3 + i))))

pub returns-in-len5 : goal.returns-in-len5
returns-in-len5 c =
    let bytes = c.args.bytes.now in
    let fits : SFits w32 c.from_le_bytes.result = search rules in
    let all = text_from_reads bytes (get_or bytes 0 0 ∷ four bytes c.type_inv.bytes 1) (search rules) (refl, (refl, (refl, (refl, (refl, tt))))) in
    (ap (λ bs. get_or bytes 0 0 ∷ bs) (four_again bytes c.type_inv.bytes 1 c.from_le_bytes.result fits c.from_le_bytes.ensures) ∙ sym all, search rules)

pub returns-in-15 : goal.returns-in-15
returns-in-15 c =
    let bytes = c.args.bytes.now in
    let fits : SFits w32 c.from_le_bytes-in-15.result = search rules in
    let first : get_or bytes 0 0 ≡ 15 = omega arith in
    let all = text_from_reads bytes (15 ∷ get_or bytes 1 0 ∷ four bytes c.type_inv.bytes 2) (search rules) (first, (refl, (refl, (refl, (refl, (refl, tt)))))) in
    (ap (λ bs. 15 ∷ get_or bytes 1 0 ∷ bs) (four_again bytes c.type_inv.bytes 2 c.from_le_bytes-in-15.result fits c.from_le_bytes-in-15.ensures) ∙ sym all, search rules)
