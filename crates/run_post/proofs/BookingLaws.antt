-- Laws of booking a match. Assumes nothing.
use Rattle.rule.specs.Layout.{lots_cell, tally_at, most_issues}
use Rattle.std.proofs.Common.{◌≡◌, ℕ, ◌+◌, ◌-◌, ◌%◌, ◌<◌, ◌≢◌, List, get_or, refl, ap, ◌∙◌, not-suc-le-zero, arith, below_more}
use Rattle.run_post.specs.Booked.{MoveLotsGives, LotsMovedTo}

-- no lots move nothing: every cell of a book is a number of 64 bits
pub none-moved : (b : List ℕ) (d r i : ℕ) {lots : ℕ} → lots ≡ 0
    → get_or b (lots_cell tally_at d i) 0 < 18446744073709551616 → get_or b (lots_cell tally_at r i) 0 < 18446744073709551616
    → MoveLotsGives b b d r i lots
none-moved b d r i e x y = record { size = refl; delivered = omega arith; received = omega arith; kept = λ j u v. refl }

-- ---- the lots of one issue after the other

pub lots-none : (b : List ℕ) (d r : ℕ) (lots : List ℕ) → LotsMovedTo 0 b b d r lots
lots-none b d r lots = record { size = refl; delivered = λ i l. absurd (not-suc-le-zero l); received = λ i l. absurd (not-suc-le-zero l); kept = λ j u v. refl }

pub lots-more : {b c c' : List ℕ} {d r n : ℕ} (lots : List ℕ) → d ≢ r → n < most_issues → LotsMovedTo n b c d r lots
    → MoveLotsGives c c' d r n (get_or lots n 0) → LotsMovedTo (n + 1) b c' d r lots
lots-more {b} {c} {c'} {d} {r} {n} lots apart few w m = record {
  size = m.size ∙ w.size;
  delivered = below_more (λ i. get_or c' (lots_cell tally_at d i) 0 ≡ (get_or b (lots_cell tally_at d i) 0 + get_or lots i 0) % 18446744073709551616) n
      (λ i l. m.kept (lots_cell tally_at d i) (omega arith) (λ e. apart (omega arith)) ∙ w.delivered i l)
      (m.delivered ∙ ap (λ (x : ℕ). (x + get_or lots n 0) % 18446744073709551616) (w.kept (lots_cell tally_at d n) (λ i l. omega arith) (λ i l e. apart (omega arith))));
  received = below_more (λ i. get_or c' (lots_cell tally_at r i) 0 ≡ (get_or b (lots_cell tally_at r i) 0 + (18446744073709551616 - get_or lots i 0)) % 18446744073709551616) n
      (λ i l. m.kept (lots_cell tally_at r i) (λ e. apart (omega arith)) (omega arith) ∙ w.received i l)
      (m.received ∙ ap (λ (x : ℕ). (x + (18446744073709551616 - get_or lots n 0)) % 18446744073709551616) (w.kept (lots_cell tally_at r n) (λ i l e. apart (omega arith)) (λ i l. omega arith)));
  kept = λ j u v. m.kept j (u n (omega arith)) (v n (omega arith)) ∙ w.kept j (λ i l. u i (omega arith)) (λ i l. v i (omega arith));
}
