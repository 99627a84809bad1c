-- The byte that is written is that of its cell, and at the end all are written.
use Rattle.std.proofs.Common.{◌<◌, ◌≤◌, ◌%◌, ◌∷◌, [], ◌++◌, length, map, get_or, arith, length-set, ap, sym, ◌∙◌}
use Rattle.std.proofs.lemmas.List.{take_all, take_more, take_more_set, map-append}
use Rattle.day_words.proofs.codes.codes_of.Goals as goal

pub loop-i-preserved : goal.loop-i-preserved
loop-i-preserved c =
    let lt : c.loop-i.i < length c.loop-i.bytes = omega (arith, c.loop-i.invariant.0) in
    let of_cells : c.loop-i.i < length c.args.cells.now = omega arith in (
      length-set _ _ _ ∙ c.loop-i.invariant.0,
      take_more_set _ _ _ lt
          ∙ ap (λ bytes. bytes ++ ((get_or c.args.cells.now c.loop-i.i 0 % 256) ∷ [])) c.loop-i.invariant.1
          ∙ sym (ap (map (λ cell. cell % 256)) (take_more c.args.cells.now c.loop-i.i 0 of_cells) ∙ map-append (λ cell. cell % 256) _ _),
    )

pub returns : goal.returns
returns c =
    let all_bytes : length c.loop-i.bytes ≤ c.loop-i.i = omega (arith, c.loop-i.invariant.0) in
    let all_cells : length c.args.cells.now ≤ c.loop-i.i = omega arith in
    sym (take_all _ _ all_bytes) ∙ c.loop-i.invariant.1 ∙ ap (map (λ cell. cell % 256)) (take_all _ _ all_cells)
