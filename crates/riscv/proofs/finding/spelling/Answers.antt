-- Bytes are those of the words that were read from them.
use Rattle.std.proofs.Common.{◌≡◌, ◌++◌, refl, sym, ap, ◌∙◌, arith, rules, w32}
use Rattle.std.specs.Int.{to_le_bytes}
use Rattle.std.proofs.lemmas.Nat.{le_bytes_2, le_bytes_4}
use Rattle.std.proofs.lemmas.Slice.Eq.{text_from_reads}
use Rattle.target.proofs.Bytes.{four, four_are}
use Rattle.riscv.specs.Finding.{alone}
use Rattle.riscv.proofs.Spelled.{half_found, two_found, whole_found}
use Rattle.riscv.proofs.finding.spelling.Goals as goal

pub returns-in-len2 : goal.returns-in-len2
returns-in-len2 c =
    let n = c.from.result in
    half_found n c.args.bytes.now c.one.result (omega arith)
    (le_bytes_2 c.args.bytes.now n (search rules) (λ i. (c.type_inv.bytes i).fits) (c.from.ensures ∙ c.from_le_bytes.ensures))
    (c.one.ensures ∙ ap alone c.half.ensures)

pub returns-in-len4 : goal.returns-in-len4
returns-in-len4 c =
    let n = c.from_le_bytes-in-len4.result in
    whole_found n c.args.bytes.now c.one-in-len4.result (omega arith)
    (le_bytes_4 c.args.bytes.now n (search rules) (λ i. (c.type_inv.bytes i).fits) c.from_le_bytes-in-len4.ensures)
    (c.one-in-len4.ensures ∙ ap alone c.whole.ensures)

pub returns-in-len8 : goal.returns-in-len8
returns-in-len8 c =
    let bytes = c.args.bytes.now in
    let m = c.from_le_bytes-in-len8.result in
    let n = c.from_le_bytes-in-len8-2.result in
    let all : bytes ≡ four bytes c.type_inv.bytes 0 ++ four bytes c.type_inv.bytes 4 = text_from_reads bytes (four bytes c.type_inv.bytes 0 ++ four bytes c.type_inv.bytes 4) (search rules) (refl, (refl, (refl, (refl, (refl, (refl, (refl, (refl, tt)))))))) in
    let are : to_le_bytes w32 m ++ to_le_bytes w32 n ≡ bytes =
    (λ k. four_are bytes c.type_inv.bytes 0 m c.from_le_bytes-in-len8.ensures k ++ four_are bytes c.type_inv.bytes 4 n c.from_le_bytes-in-len8-2.ensures k) ∙ sym all in
    two_found m n bytes c.two.result (omega arith) (omega arith) are
    (rw (← c.whole-in-len8.ensures, ← c.whole-in-len8-2.ensures) c.two.ensures)
