use Rattle.std.proofs.Common.{◌≡◌, ℕ, List, ◌+◌, set, length, length-drop, sym, ap, ap₂, ◌∙◌, subst, arith}
use Rattle.std.specs.Iterator.Adapters.{zip_first, zip_second}
use Rattle.std.specs.Slice.Iter.{iter_rest}
use Rattle.std.proofs.lemmas.Iterator.{empty_from_Zip}
use Rattle.lists.proofs.RestLaws.{next-long, next-is, next-rest}
use Rattle.lists.proofs.TableLaws.{filled-zeros}
use Rattle.notice.proofs.NoticeLaws.{Entered, entered-none, entered-more, entered_all}
use Rattle.notice.proofs.Notified.write_row.Goals as goal

pub loop-issue-init : goal.loop-issue-init
loop-issue-init c =
    let e = c.into_iter-issue-iterator.ensures.into_iter_gives in
    let second : iter_rest (zip_second c.zip-issue-items.result) ≡ c.args.self.now.lots.now = c.zip-issue-items.ensures.second.0 in (
      0,
      entered-none _ _ _,
      ap (λ it. iter_rest (zip_first it)) e ∙ ap iter_rest c.zip-issue-items.ensures.first ∙ c.iter.ensures.rest,
      ap (λ it. iter_rest (zip_second it)) e ∙ second,
    )

pub loop-issue-preserved : goal.loop-issue-preserved
loop-issue-preserved c =
    let s = c.args.self.now in
    let w = c.loop-issue.invariant in
    let e = sym (c.in-Some.ensures.steps.0) ∙ w.2 in
    let f = sym (c.in-Some.ensures.steps.1) ∙ w.3 in (
      w.0 + 1,
      subst (λ (r : List ℕ). Entered c.fill.new.self s.named.now s.lots.now r (w.0 + 1)) (ap₂ (set c.loop-issue.row) (sym (next-is s.named.now w.0 _ _ e)) (sym (next-is s.lots.now w.0 _ _ f)))
          (entered-more _ _ _ (next-long s.named.now w.0 _ _ e) w.1),
      next-rest s.named.now w.0 _ _ e,
      next-rest s.lots.now w.0 _ _ f,
    )

pub returns : goal.returns
returns c =
    let s = c.args.self.now in
    let w = c.loop-issue.invariant in
    let spent = empty_from_Zip _ c.next.new.self _ c.in-None.is c.next.ensures.steps
    (ap length w.2 ∙ length-drop w.0 s.named.now ∙ omega (arith, c.requires.lengths, length-drop w.0 s.lots.now, ap length w.3)) in
    entered_all _ _ _ _ (omega (arith, length-drop w.0 s.named.now, ap length w.2, ap length spent.0)) (filled-zeros _ (c.fill.ensures.after (λ y e. e))) w.1
