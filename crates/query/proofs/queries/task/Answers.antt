-- The first word says what to do, and the words after it with what.
use Rattle.std.proofs.Common.{◌≡◌, ◌∷◌, codes, ap, ◌∙◌, rules}
use Rattle.std.proofs.lemmas.Slice.Eq.{text_from_reads}
use Rattle.std.specs.Option.{option_map}
use Rattle.query.specs.declared.queries.Query.TheVariants.{Write, Read}
use Rattle.query.specs.Words.{words}
use Rattle.query.proofs.Tasks.{asked_read, asked_write}
use Rattle.query.proofs.queries.task.Goals as goal

pub returns-in_ok-hex_word-in-Some-read-default : goal.returns-in_ok-hex_word-in-Some-read-default
returns-in_ok-hex_word-in-Some-read-default c =
    let verb = text_from_reads c.in-Some-read-default.field-0-0.now (codes "read") (search rules) (search rules) in
    let rest = words c.in-Some-read-default.rest.now in
    let is : c.map.result ≡ option_map Read c.in_ok-hex_word-in-Some-read-default.field-0 = search rules in
    rw is (asked_read _ rest (c.in-Some-read-default.ensures ∙ ap (λ w. w ∷ rest) verb) _ c.in_ok-hex_word-in-Some-read-default.ensures)

pub returns-in-Some-write-default : goal.returns-in-Some-write-default
returns-in-Some-write-default c =
    let verb = text_from_reads c.in-Some-write-default.field-0-0.now (codes "write") (search rules) (search rules) in
    let rest = words c.in-Some-write-default.rest.now in
    let is : c.map-in-Some-write-default.result ≡ option_map Write c.branch_words.result = search rules in
    rw is (asked_write _ rest (c.in-Some-write-default.ensures ∙ ap (λ w. w ∷ rest) verb) _ c.branch_words.ensures)
