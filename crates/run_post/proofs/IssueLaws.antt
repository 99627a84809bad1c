-- Laws of writing the issues of a match one after the other. Assumes nothing.
use Rattle.rule.specs.Layout.{lots_cell, tally_at}
use Rattle.std.proofs.Common.{◌≡◌, ℕ, ◌+◌, ◌<◌, ◌≤◌, ◌≢◌, List, length, get_or, set, refl, ap, ◌∙◌, subst, not-suc-le-zero, arith, length-set, get_or-set_other, get_or-set_same, below_more}
use Rattle.matching.specs.declared.Match.{Match}
use Rattle.run_post.specs.declared.listing.Lists.{Lists}
use Rattle.run_post.specs.Booked.{MoveLotsGives, LotsMovedTo}
use Rattle.run_post.specs.Listed.{Lined, AddLineGives, LinesOnly}
use Rattle.run_post.specs.Issues.{IssueUsed, UsedTo, WriteIssueAsks, WriteIssueGives, WriteIssuesAsks, WriteIssuesGives}
use Rattle.run_post.proofs.BookingLaws.{none-moved, lots-none, lots-more}
use Rattle.run_post.proofs.ListingLaws.{same-lists, same-then, ListedTo, lined-none, lined-some, listed-none, line-room, listed_more, listed-all}

-- ---- lots used

pub issue-used : (used : List ℕ) (i lots : ℕ) → i < length used → IssueUsed used (set used i (get_or used i 0 + lots)) i lots
issue-used used i lots h =
    let sum : ℕ = get_or used i 0 + lots in
    record { size = length-set used i sum; more = get_or-set_same used i sum 0 h; kept = λ j e. get_or-set_other used i j sum 0 e }

none-used : (used : List ℕ) (i : ℕ) {lots : ℕ} → lots ≡ 0 → IssueUsed used used i lots
none-used used i e = record { size = refl; more = omega arith; kept = λ j e. refl }

used-none : (used lots : List ℕ) → UsedTo 0 used used lots
used-none used lots = record { size = refl; more = λ i l. absurd (not-suc-le-zero l); kept = λ j e. refl }

used-more : {used u u' : List ℕ} {n : ℕ} (lots : List ℕ) → UsedTo n used u lots → IssueUsed u u' n (get_or lots n 0) → UsedTo (n + 1) used u' lots
used-more {used} {u} {u'} {n} lots w m = record {
  size = m.size ∙ w.size;
  more = below_more (λ i. get_or u' i 0 ≡ get_or used i 0 + get_or lots i 0) n
      (λ i l. m.kept i (omega arith) ∙ w.more i l)
      (m.more ∙ ap (λ (x : ℕ). x + get_or lots n 0) (w.kept n (omega arith)));
  kept = λ j e. m.kept j (omega arith) ∙ w.kept j (omega arith);
}

-- ---- the lists: only lines are written

none-only : (s : Lists) → LinesOnly s s
none-only s = record { matches = refl; match_count = refl; same = same-lists s }

then-only : {s t u : Lists} → LinesOnly s t → LinesOnly t u → LinesOnly s u
then-only a b = record { matches = b.matches ∙ a.matches; match_count = b.match_count ∙ a.match_count; same = same-then a.same b.same }

-- ---- one issue

pub written_none : {b : List ℕ} (used : List ℕ) (s : Lists) (m : Match) (i : ℕ) {lots : ℕ} → lots ≡ 0 → ((j : ℕ) → get_or b j 0 < 18446744073709551616)
    → WriteIssueGives b used s m i lots b used s
written_none {b} used s m i e words = record {
  moved = none-moved b m.deliverer m.receiver i e (words (lots_cell tally_at m.deliverer i)) (words (lots_cell tally_at m.receiver i));
  gone = none-used used i e;
  listed = lined-none s.lines.now s.counts.lines s.counts.matches i e;
  only = none-only s;
}

pub written-some : {b b' used : List ℕ} {s t : Lists} {m : Match} {i lots : ℕ} → lots ≢ 0 → WriteIssueAsks b used s m i lots
    → MoveLotsGives b b' m.deliverer m.receiver i lots → AddLineGives s t i lots
    → WriteIssueGives b used s m i lots b' (set used i (get_or used i 0 + lots)) t
written-some {b} {b'} {used} {s} {t} {m} {i} {lots} z h w a = record {
  moved = w;
  gone = issue-used used i lots h.place;
  listed = lined-some s.counts.lines s.counts.matches i z a.cells a.counted;
  only = a.only;
}

-- ---- one issue after the other

module _ (b used : List ℕ) (s : Lists) (m : Match) (lots : List ℕ) where
  -- those below n are written
  pub record WrittenTo (n : ℕ) (b' used' : List ℕ) (t : Lists) : Type 0 where
    pub moved : LotsMovedTo n b b' m.deliverer m.receiver lots
    pub gone : UsedTo n used used' lots
    pub listed : ListedTo s.lines.now s.counts.lines s.counts.matches lots t.lines.now t.counts.lines n
    pub only : LinesOnly s t

  pub issues-none : WrittenTo 0 b used s
  issues-none = record {
    moved = lots-none b m.deliverer m.receiver lots;
    gone = used-none used lots;
    listed = listed-none s.lines.now s.counts.lines s.counts.matches lots;
    only = none-only s;
  }

  module _ (h : WriteIssuesAsks b used s m lots) {b' used' : List ℕ} {t : Lists} {n : ℕ} (w : WrittenTo n b' used' t) where
    module _ (l : n < length lots) where
      pub issue-asks : WriteIssueAsks b' used' t m n (get_or lots n 0)
      issue-asks = record {
        bookable = record { cells = w.moved.size ∙ h.cells; deliverer = h.deliverer; receiver = h.receiver; apart = h.apart; issue = omega (arith, h.few) };
        place = omega (arith, w.gone.size, h.places);
        small = omega (arith, h.small n l, w.gone.kept n (omega arith));
        room = line-room s.lines.now s.counts.lines s.counts.matches lots h.room w.listed l;
      }

      pub issues-more : {b'' used'' : List ℕ} {u : Lists} → WriteIssueGives b' used' t m n (get_or lots n 0) b'' used'' u → WrittenTo (n + 1) b'' used'' u
      issues-more {b''} {used''} {u} v = record {
        moved = lots-more lots h.apart (omega (arith, h.few)) w.moved v.moved;
        gone = used-more lots w.gone v.gone;
        listed = listed_more s.lines.now s.counts.lines s.counts.matches lots h.room w.listed l
            (subst (λ (number : ℕ). Lined t.lines.now u.lines.now t.counts.lines number n (get_or lots n 0) u.counts.lines) w.only.match_count v.listed);
        only = then-only w.only v.only;
      }

    pub issues-all : length lots ≤ n → WriteIssuesGives b used s m lots b' used' t
    issues-all l =
        let e : n ≡ length lots = omega (arith, w.listed.here) in
        record {
          moved = subst (λ (k : ℕ). LotsMovedTo k b b' m.deliverer m.receiver lots) e w.moved;
          gone = subst (λ (k : ℕ). UsedTo k used used' lots) e w.gone;
          listed = listed-all s.lines.now s.counts.lines s.counts.matches lots w.listed l;
          only = w.only;
        }
