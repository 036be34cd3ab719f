-- What the library decodes is what the word writes.
use Rattle.std.proofs.Common.{◌≡◌, ◌/◌, length, vec_items, is_ok, sym, ap, ◌∙◌}
use Rattle.std.proofs.lemmas.List.{take_at}
use Rattle.std.specs.Bool.{then_some}
use Rattle.std.specs.Option.{option_map}
use Rattle.std.specs.Result.{result_ok}
use Rattle.std.specs.Vec.{with_items}
use Rattle.hex.specs.Hex.{decode_sized}
use Rattle.query.proofs.Hexes.{decoded_is, then_some_items, unhex_none, written_is}
use Rattle.query.proofs.numbers.read_hex.Goals as goal

pub returns : goal.returns
returns c =
    let out = c.decode_to_slice.new.out in
    let bytes = with_items c.in_ok-bytes.bytes out in
    let room : length c.as_mut_slice.result.now ≡ length c.args.word.now / 2 = c.as_mut_slice.ensures.len ∙ c.in_ok-bytes.ensures.len in
    let whole : vec_items bytes ≡ out = take_at _ _ _ (c.decode_to_slice.auto.out ∙ c.as_mut_slice.ensures.len) in
    ap (option_map vec_items) (c.then_some.ensures ∙ ap (λ b. then_some b bytes) c.is_ok-all_read.ensures.value)
    ∙ then_some_items (is_ok c.decode_to_slice.result) bytes ∙ ap (λ xs. then_some (is_ok c.decode_to_slice.result) xs) whole
    ∙ written_is _ _ out c.decode_to_slice.ensures.value ∙ ap (λ n. result_ok (decode_sized c.args.word.now n)) room ∙ decoded_is c.args.word.now

pub returns-then-not-all_digits : goal.returns-then-not-all_digits
returns-then-not-all_digits c = sym (unhex_none c.args.word.now (sym c.if-not-all_digits.ensures))
