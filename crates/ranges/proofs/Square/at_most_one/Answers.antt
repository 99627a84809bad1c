use Rattle.std.proofs.Common.{◌≡◌, List, ℕ, Bool, ◌+◌, ◌*◌, ◌&&◌, leb, take, sym, ap, ◌∙◌, arith}
use Rattle.std.specs.Slice.Iter.{chunks_exact_rest, chunks_exact_size}
use Rattle.std.proofs.lemmas.List.{length-take-le}
use Rattle.std.proofs.lemmas.Option.{MatchOption-at_some, MatchOption-at_none}
use Rattle.ranges.specs.Ranges.{all_pass, row_passes}
use Rattle.ranges.proofs.ScanLaws.{gathered_none, gathered-more, gathered-all, bits_below}
use Rattle.ranges.proofs.RangeLaws.{rows_are, square-joined, left-all, left-more, none-left, row-left, row-is, row-room, front-passes, stride-some}
use Rattle.ranges.proofs.Square.at_most_one.Goals as goal

abbrev low : ℕ → Bool
low x = leb x 1

pub returns-then-self : goal.returns-then-self
returns-then-self c = let s = c.args.self.now in c.bits_of.ensures ∙ square-joined s.marks.now s.stride s.n 1 c.if-self.true s.rows.size

pub loop-row-init : goal.loop-row-init
loop-row-init c = (
  0,
  left-all _ _ _ _ (ap chunks_exact_rest c.into_iter-row-iterator.ensures.into_iter_gives ∙ c.chunks_exact-row-items.ensures.rest),
  ap chunks_exact_size c.into_iter-row-iterator.ensures.into_iter_gives ∙ c.chunks_exact-row-items.ensures.size,
  gathered_none _ _,
)

pub slice_bounds-bits_of_row-end : goal.slice_bounds-bits_of_row-end
slice_bounds-bits_of_row-end c =
    let s = c.args.self.now in
    let next = MatchOption-at_some _ _ _ c.in-Some.is c.next.ensures.steps.1 in
    sym (length-take-le s.n c.in-Some.row.now (omega (arith, next.1, c.loop-row.invariant.2, s.rows.wide)))

pub loop-row-preserved : goal.loop-row-preserved
loop-row-preserved c =
    let s = c.args.self.now in
    let b = s.marks.now in
    let w = c.loop-row.invariant in
    let p : ℕ = w.0 in
    let next = MatchOption-at_some _ _ _ c.in-Some.is c.next.ensures.steps.1 in
    let long = next.1 ∙ w.2 in
    let some = stride-some s.n s.stride s.rows.wide c.if-self.false in
    let left = row-left _ _ _ some s.rows.size _ _ w.1 _ _ next.0 long in
    let room = row-room _ _ _ some s.rows.size _ _ w.1 _ _ next.0 long in
    let is = row-is _ _ _ some s.rows.size _ _ w.1 _ _ next.0 long in
    let e : s.stride * p ≡ 0 + s.stride * p = omega arith in
    let passes = ap (λ (x : List ℕ). all_pass low (take s.n x)) is ∙ front-passes s.stride s.n some s.rows.wide low b p room ∙ ap (λ (j : ℕ). row_passes low b j s.n) e in (
      p + 1,
      left-more _ _ _ some s.rows.size _ _ w.1 _ _ next.0 long,
      c.next.ensures.steps.0 ∙ w.2,
      gathered-more w.3 left (bits_below c.loop-row.bits c.bits_of_row-bits.result 1 ∙ ap (λ (r : Bool). leb c.loop-row.bits 1 && r) (c.bits_of_row-bits.ensures ∙ passes)),
    )

pub returns : goal.returns
returns c =
    let s = c.args.self.now in
    let w = c.loop-row.invariant in
    let some = stride-some s.n s.stride s.rows.wide c.if-self.false in
    let short = MatchOption-at_none _ _ c.in-None.is c.next.ensures.steps.1 in
    gathered-all w.3 (none-left _ _ _ some s.rows.size _ _ w.1 (omega (arith, short.0, w.2)))
    ∙ sym (rows_are s.marks.now 0 s.stride s.n s.n 1)
