-- `sound::tradable` meets its contract. Assumes nothing.
use Rattle.std.proofs.Common.{◌≡◌, true, false, ap, ◌∙◌, map, rules}
use Rattle.std.proofs.lemmas.Iterator.{YieldsList-from_slice, cases_from_any}
use Rattle.rule.specs.Day.{terms_of, marks_of}
use Rattle.rule.specs.Sound.{tradable}
use Rattle.sound.proofs.SoundLaws.{is_eligible, tradable-said}
use Rattle.sound.proofs.tradable.Goals as goal

pub returns : goal.returns
returns c =
    let k = c.args.basket in
    tradable-said c.terms.result.now k _
    (cases_from_any _ _ _ (λ x. is_eligible k x ≡ true) (λ x. is_eligible k x ≡ false) c.any.ensures.ran (YieldsList-from_slice _ c.iter.ensures.rest)
    (λ x q k. search rules) (λ x q k. search rules))
    ∙ ap (λ rows. tradable k (map terms_of rows) (map marks_of rows)) c.terms.ensures.cells
