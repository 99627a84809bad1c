-- `run::names_each_once` meets its contract. Assumes nothing.
use Rattle.std.proofs.Common.{ℕ, refl, ap, ◌∙◌, eqb, ne_eqb, rules}
use Rattle.std.specs.List.{count_by}
use Rattle.lists.proofs.TestLaws.{all-ext}
use Rattle.ranges.proofs.ScanLaws.{all-below}
use Rattle.run.proofs.RunLaws.{named-all, other_length, same_length}
use Rattle.run.proofs.names_each_once.Goals as goal

pub returns-then-draw-participants : goal.returns-then-draw-participants
returns-then-draw-participants c =
    let d = c.args.draw.now in
    let n : ℕ = c.args.participants in
    same_length d n c.if-draw-participants.true
    (all-below (λ p. eqb (count_by (λ x. eqb x p) d) 1) n _ c.all.ensures.ran refl (λ x q k. search rules) (λ x q k. search rules)
    ∙ all-ext _ _ n (λ p l. ap (λ (k : ℕ). eqb k 1) (named-all d p)))

pub returns-else-draw-participants : goal.returns-else-draw-participants
returns-else-draw-participants c = ne_eqb _ _ c.if-draw-participants.false ∙ other_length _ _ c.if-draw-participants.false
