use Rattle.std.proofs.Common.{◌*◌, arith}
use Rattle.std.proofs.lemmas.List.{take_rest}
use Rattle.lists.proofs.CopyLaws.{Copies, lent-to, lent-from, lent-back}
use Rattle.rule.specs.Layout.{most_participants}
use Rattle.opening.proofs.OpenLaws.{marks_fit_book, marked-none, marked_more, marked_all, marks-of}
use Rattle.opening.proofs.Given.write_marks.Goals.{After-mark_square-at}
use Rattle.opening.proofs.Given.write_marks.Goals as goal

-- basket k's square, and where it is copied to
square : (c : After-mark_square-at)
    → let s = c.args.self.now in
    Copies c.loop-k.book c.mark_square-at.result most_participants s.participants s.participants s.pairs.now (s.participants * s.participants * c.loop-k.k) s.participants
square c = marks-of _ _ _ (marks_fit_book c.args.self.now.lengths c.requires) _ _ c.mark_square-at.ensures c.loop-k.invariant.size c.loop-k-test.true

pub loop-k-init : goal.loop-k-init
loop-k-init c = marked-none _ _ _ (marks_fit_book c.args.self.now.lengths c.requires)

pub loop-k-preserved : goal.loop-k-preserved
loop-k-preserved c =
    let s = c.args.self.now in
    let m = marks_fit_book s.lengths c.requires in
    let rest = take_rest s.pairs.now (s.participants * s.participants * c.loop-k.k) in
    marked_more _ _ _ m c.mark_square-at.ensures c.loop-k-test.true c.loop-k.invariant _
    (lent-back _ _ _ _ _ _ _ _ (square (goal.at.loop-k-preserved c).After-mark_square-at) _ rest _ c.copy_to.ensures)

pub copy_to-requires : goal.copy_to-requires
copy_to-requires c = lent-to _ _ _ _ _ _ _ _ (square (goal.at.copy_to-requires c).After-mark_square-at)

pub invariant_of-marks : goal.invariant_of-marks
invariant_of-marks c =
    let s = c.args.self.now in
    let rest = take_rest s.pairs.now (s.participants * s.participants * c.loop-k.k) in
    record { there = lent-from _ _ _ _ _ _ _ _ (square (goal.at.invariant_of-marks c).After-mark_square-at) _ rest }

pub returns : goal.returns
returns c = marked_all _ _ _ (marks_fit_book c.args.self.now.lengths c.requires) (omega arith) c.loop-k.invariant
