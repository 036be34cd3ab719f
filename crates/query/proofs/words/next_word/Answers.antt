-- What follows the gap is a word, up to the first byte that separates.
use Rattle.std.proofs.Common.{◌≡◌, drop, sym, ◌∙◌, rules, tests}
use Rattle.std.proofs.lemmas.Iterator.{YieldsList-from_slice}
use Rattle.std.proofs.lemmas.Iterator.Search.{position_from_yields_List}
use Rattle.std.proofs.lemmas.List.{take_rest}
use Rattle.std.specs.List.{position}
use Rattle.query.specs.Words.{separates}
use Rattle.query.proofs.Splits.{joins, first_word, no_word}
use Rattle.query.proofs.words.next_word.Goals as goal

pub returns-in_err-start : goal.returns-in_err-start
returns-in_err-start c =
    let starts = position_from_yields_List joins _ _ c.position.result c.position.ensures.ran (YieldsList-from_slice c.args.line.now cc) (λ x b q k. search (rules, tests)) in
    rw c.from_residual.ensures (no_word c.args.line.now (sym starts ∙ c.in_err-start.was))

pub returns : goal.returns
returns c =
    let starts = position_from_yields_List joins _ _ c.position.result c.position.ensures.ran (YieldsList-from_slice c.args.line.now cc) (λ x b q k. search (rules, tests)) in
    let start = c.in_ok-start.start in
    let line = drop start c.args.line.now in
    let stops : c.position-2.result ≡ position separates line = position_from_yields_List separates _ _ c.position-2.result c.position-2.ensures.ran (YieldsList-from_slice line (c.iter-2.ensures.rest ∙ take_rest c.args.line.now start)) (λ x b q k. search (rules, tests)) in
    let whole = take_rest c.args.line.now start in
    let word = first_word c.args.line.now start (sym starts ∙ c.in_ok-start.was) in
    cc
