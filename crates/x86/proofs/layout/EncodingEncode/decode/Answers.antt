-- Bytes tell all encodings apart, those of kinds too.
use Rattle.std.proofs.Common.{List, ℕ, Some, None, Option, sym, ◌∙◌}
use Rattle.target.specs.declared.table.Spelled.{Spelled}
use Rattle.target.specs.Table.{Decoded}
use Rattle.x86.specs.declared.encodings.Encoding.{Encoding}
use Rattle.x86.specs.Encodings.{table}
use Rattle.x86.specs.Laws.{bytes_apart}
use Rattle.x86.specs.Stores.{Spelling}
use Rattle.x86.proofs.layout.EncodingEncode.decode.Goals as goal

among_kinds : (bs : List ℕ) (r : Option (Spelled Encoding)) → Spelling bs r → Decoded table bs r
among_kinds bs None none = λ k f e d listed spells. none e d spells
among_kinds bs (Some s) is = (is, λ k f e d listed spells. (bytes_apart e s.encoding d s.distance spells.takes is.takes (spells.has_bytes ∙ sym is.has_bytes)).0)

pub returns : goal.returns
returns c = among_kinds c.args.bytes.now c.decode.result c.decode.ensures
