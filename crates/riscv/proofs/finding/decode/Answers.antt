-- What is found is all that a kind can have of the bytes, which it spells where it was written again as they are.
use Rattle.std.proofs.Common.{◌≡◌, Bool, true, false, List, ℕ, Some, None, sym, refl, ap, ◌∙◌, subst}
use Rattle.std.specs.Bool.{Decides, then_some}
use Rattle.target.specs.Table.{Decoded, Each, Spells, Unlisted}
use Rattle.target.specs.declared.table.Spelled.{Spelled}
use Rattle.riscv.specs.declared.encodings.Encoding.{Encoding}
use Rattle.riscv.specs.Encodings.{table}
use Rattle.riscv.specs.Finding.{FindsSpelling}
use Rattle.riscv.specs.Apart.{some_same}
use Rattle.riscv.proofs.finding.decode.Goals as goal

module _ (bytes : List ℕ) (s : Spelled Encoding) (finds : FindsSpelling bytes (Some s)) where
  only : Each table bytes (λ e. e ≡ s.encoding)
  only = λ k f e d listed spells. sym (ap (λ (x : Spelled Encoding). x.encoding) (some_same (finds k f e d listed spells)))

  nobodys : Unlisted table s.encoding → Decoded table bytes None
  nobodys unlisted = λ k f e d listed spells. unlisted k f (listed ∙ ap Some (only k f e d listed spells))

  tested : (b : Bool) → Decides b (Spells table bytes s.encoding s.distance) → Decoded table bytes (then_some b s)
  tested true is = (is.0 refl, only)
  tested false is = λ k f e d listed spells.
      let yes = is.1 (subst (λ (x : Spelled Encoding). Spells table bytes x.encoding x.distance) (sym (some_same (finds k f e d listed spells))) spells) in
      cc

pub returns-in_err-found : goal.returns-in_err-found
returns-in_err-found c = rw c.from_residual.ensures (λ k f e d is spells. let none = c.in_err-found.ensures k f e d is spells in cc)

pub returns-in_err-entry : goal.returns-in_err-entry
returns-in_err-entry c = rw c.from_residual-in_err-entry.ensures (nobodys c.args.bytes.now c.in_ok-found.found c.in_ok-found.ensures c.in_err-entry.ensures)

pub returns : goal.returns
returns c = rw c.then_some.ensures (tested c.args.bytes.now c.in_ok-found.found c.in_ok-found.ensures c.spells.result c.spells.ensures)
