use Rattle.std.proofs.Common.{rules}
use Rattle.matching.proofs.TurnLaws.{amount-keyed, turn-within, turn-left}
use Rattle.matching.proofs.Left.turn.Goals as goal

pub slice_bounds-sort_by_key-count : goal.slice_bounds-sort_by_key-count
slice_bounds-sort_by_key-count c =
    turn-within c.args.draw.now c.args.d c.args.self.now c.meet_drawn.new.self _ _ c.meet_drawn.ensures.left c.len-before.ensures.value c.as_mut_slice-made.ensures.value

pub slice_bounds-sort_by_key-start : goal.slice_bounds-sort_by_key-start
slice_bounds-sort_by_key-start c =
    turn-within c.args.draw.now c.args.d c.args.self.now c.meet_drawn.new.self _ _ c.meet_drawn.ensures.left c.len-before.ensures.value c.as_mut_slice-made.ensures.value

pub sort_by_key-requires : goal.sort_by_key-requires
sort_by_key-requires c = amount-keyed _ _ _ (λ m. search rules) (λ m n e. search rules)

pub returns-clause-left : goal.returns-clause-left
unfolding amount-keyed
returns-clause-left c =
    turn-left c.args.draw.now c.args.d c.args.self.now c.meet_drawn.new.self _ _ c.meet_drawn.ensures.left c.len-before.ensures.value c.as_mut_slice-made.ensures.value
    (c.sort_by_key.ensures (amount-keyed _ _ _ (λ m. search rules) (λ m n e. search rules)))
