-- `ranges::rows_at_most` meets its contract. Assumes nothing.
use Rattle.std.proofs.Common.{List, ℕ, ◌+◌, ◌-◌, ◌*◌, leb, take, drop, refl, ◌∙◌, rules}
use Rattle.ranges.specs.Ranges.{all_pass}
use Rattle.ranges.proofs.ScanLaws.{all-below}
use Rattle.ranges.proofs.RangeLaws.{rows-lent}
use Rattle.ranges.proofs.rows_at_most.Goals as goal

pub returns : goal.returns
returns c =
    let r = c.args.rows.now in
    let row : ℕ → List ℕ = λ p. take (r.apart * p + r.m - r.apart * p) (drop (r.apart * p) r.cells.now) in
    all-below (λ p. all_pass (λ x. leb x c.args.bound) (row p)) r.n _ c.all.ensures.ran refl (λ x q k. search rules) (λ x q k. search rules)
    ∙ rows-lent _ _ _ _ _ r.there.wide r.there.room
