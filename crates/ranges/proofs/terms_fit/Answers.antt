-- `ranges::terms_fit` meets its contract. Assumes nothing.
use Rattle.std.proofs.Common.{[], ◌∙◌, rules}
use Rattle.std.proofs.lemmas.Iterator.{YieldsList-from_slice}
use Rattle.ranges.specs.Ranges.{issue_fits}
use Rattle.ranges.proofs.ScanLaws.{all-items}
use Rattle.ranges.proofs.RangeLaws.{terms-are}
use Rattle.ranges.proofs.terms_fit.Goals as goal

pub returns : goal.returns
returns c =
    let rows = c.args.issues.now in
    all-items issue_fits rows [] _ c.all.ensures.ran (YieldsList-from_slice _ c.iter.ensures.rest) (λ x q k. search rules) (λ x q k. search rules)
    ∙ terms-are rows
