-- Laws that the proofs of a close cite. Assumes nothing.
use mathlib.Core.Path.{◌≡◌, refl, sym, ap, ap₂, ◌∙◌, subst}
use Prim.Native.Nat.{ℕ, zero, suc, ◌+◌, ◌-◌, ◌*◌, ◌≤◌, ◌<◌}
use native.Mathlib.Nat.{mul-le-mul, mul-le-mul_left, mul-suc, mul-zero, mul_comm, le_refl}
use native.Mathlib.Numerals.{add-one}
use native.Mathlib.Omega.{arith}
use borrow.Author.Rules.{rules}
use borrow.Rule.Slice.PartMut.{put_mid}
use mathlib.Core.List.{List, [], map}
use lib.ListN.{length, get_or, take, drop, length-append, length-map}
use lib.Seq.{take_all}
use Rattle.lists.specs.Tables.{row}
use Rattle.lists.specs.Folds.{joined}
use Rattle.lists.specs.Parts.{block, grid, over, rows_at, written}
use Rattle.lists.proofs.AppendLaws.{over_none, over-more, joined-more}
use Rattle.lists.proofs.TableLaws.{length-table, get_or-table, get_d_map}
use Rattle.lists.proofs.PartLaws.{part_length, part-back, length_over, written-more, Shape, grid-shape}
use Rattle.lists.proofs.CopyLaws.{Copies}
use Rattle.lists.proofs.RowLaws.{made-of}
use Rattle.lists.proofs.CutLaws.{grid-within}
use Rattle.rule.specs.Calls.{Reply, accepted, refused, close_checks, tomorrow_receipts, tomorrow_pairs}
use Rattle.layout.specs.InBook.{participants_in, issues_in}
use Rattle.rule.specs.Layout.{runs_at, tally_at, today_at, plus, cube, view, most_participants, most_issues, square, lots_row, mark_square}
use Rattle.rule.proofs.LayoutLaws.{map-shape}
use Rattle.rule.proofs.AnswerLaws.{answers}
use Rattle.rule.proofs.BookLaws.{SoundBook}
use Rattle.close.specs.Closed.{WriteReceiptsAsks, WritePairsAsks, receipts_written, pairs_written, close_sound}

-- ---- rows written one after the other

module _ (rows : List (List ℕ)) (n w : ℕ) (s : Shape rows n w) where
  length_part : (p : ℕ) → p ≤ n → length (joined (take p rows)) ≡ w * p
  length_part zero l = omega (arith, mul-zero w)
  length_part (suc p) l =
      let e : length (row rows p) ≡ w = s.cells p l in
      let d : length (joined (take p rows)) ≡ w * p = length_part p (omega arith) in
      ap length (joined-more rows p (omega (arith, s.rows))) ∙ length-append (joined (take p rows)) (row rows p) ∙ omega (arith, e, d, mul-suc w p)

  length-joined : length (joined rows) ≡ w * n
  length-joined = ap (λ (rs : List (List ℕ)). length (joined rs)) (sym (take_all n rows (omega (arith, s.rows)))) ∙ length_part n (omega arith)

-- the rows below p are written
pub record Filled (b : List ℕ) (at w : ℕ) (rows : List (List ℕ)) (c : List ℕ) (p : ℕ) : Type 0 where
  pub size : length c ≡ length b
  pub cells : c ≡ over b at (joined (take p rows))

module _ (b : List ℕ) (at n w : ℕ) (rows : List (List ℕ)) (s : Shape rows n w) (room : at + w * n ≤ length b) where
  pub filled_none : Filled b at w rows b 0
  filled_none = record { size = refl; cells = sym (over_none b at) }

  -- the next row has its room
  pub room-to : (p : ℕ) → p < n → at + w * p + w ≤ length b
  room-to p l = omega (arith, room, mul-le-mul_left w l, mul-suc w p)

  pub filled_more : {c : List ℕ} {p to : ℕ} → p < n → to ≡ at + w * p → Filled b at w rows c p → (d : List ℕ) → d ≡ over c to (row rows p) → Filled b at w rows d (p + 1)
  filled_more {c} {p} {to} l place h d e =
      let long : length (joined (take p rows)) ≡ w * p = length_part rows n w s p (omega arith) in
      let next : to ≡ at + length (joined (take p rows)) = omega (arith, long) in
      record {
        size = ap length e ∙ length_over c (row rows p) to (omega (arith, room-to p l, h.size, s.cells p l)) ∙ h.size;
        cells = e ∙ ap₂ (λ (x : List ℕ) (k : ℕ). over x k (row rows p)) h.cells next
            ∙ over-more b (joined (take p rows)) (row rows p) at (omega (arith, long, s.cells p l, room-to p l))
            ∙ ap (over b at) (sym (joined-more rows p (omega (arith, s.rows))))
            ∙ ap (λ (k : ℕ). over b at (joined (take k rows))) (sym (add-one p));
      }

  -- a row that was lent, and is back
  pub filled-part : {c : List ℕ} {p to : ℕ} → p < n → to ≡ at + w * p → Filled b at w rows c p → (part : List ℕ) → part ≡ row rows p
      → Filled b at w rows (put_mid to (to + w - to) c part) (p + 1)
  filled-part {c} {p} {to} l place h part e = filled_more l place h _ (part-back c to w part (ap length e ∙ s.cells p l) ∙ ap (over c to) e)

  pub filled-all : {c : List ℕ} {p : ℕ} → n ≤ p → Filled b at w rows c p → c ≡ over b at (joined rows)
  filled-all {p = p} l h = h.cells ∙ ap (λ (rs : List (List ℕ)). over b at (joined rs)) (take_all p rows (omega (arith, s.rows)))

  -- rows written one after the other are one row
  filled-written : (p : ℕ) → p ≤ n → Filled b at w rows (written b (rows_at at w (take p rows))) p
  filled-written zero l = filled_none
  filled-written (suc p) l =
      let c : List ℕ = written b (rows_at at w (take p rows)) in
      let more : written b (rows_at at w (take (p + 1) rows)) ≡ over c (at + w * p) (row rows p) = written-more w rows at p b (omega (arith, s.rows)) in
      subst (λ (k : ℕ). Filled b at w rows (written b (rows_at at w (take k rows))) k) (add-one p) (filled_more l refl (filled-written p (omega arith)) _ more)

  pub joined-written : written b (rows_at at w rows) ≡ over b at (joined rows)
  joined-written = ap (λ (rs : List (List ℕ)). written b (rows_at at w rs)) (sym (take_all n rows (omega (arith, s.rows)))) ∙ filled-all (le_refl n) (filled-written n (le_refl n))

-- ---- the tally where positive

abbrev tally_rows : List ℕ → List (List ℕ)
tally_rows b = map (map plus) (grid b tally_at most_issues (participants_in b) (issues_in b))

abbrev pub Received : List ℕ → List ℕ → List ℕ → ℕ → Type 0
Received b receipts c p = Filled receipts 0 (issues_in b) (tally_rows b) c p

module _ (b receipts : List ℕ) (f : WriteReceiptsAsks b receipts) where
  tally-shape : Shape (grid b tally_at most_issues (participants_in b) (issues_in b)) (participants_in b) (issues_in b)
  tally-shape = grid-shape b tally_at most_issues (participants_in b) (issues_in b) f.most (omega (arith, f.size, f.few))

  tally-plus : Shape (tally_rows b) (participants_in b) (issues_in b)
  tally-plus = map-shape plus (grid b tally_at most_issues (participants_in b) (issues_in b)) (participants_in b) (issues_in b) tally-shape

  receipts-room : 0 + issues_in b * participants_in b ≤ length receipts
  receipts-room = omega (arith, f.room, mul_comm (issues_in b) (participants_in b))

  tally-row : (p : ℕ) → p < participants_in b → map plus (block b (lots_row tally_at p) (issues_in b)) ≡ row (tally_rows b) p
  tally-row p l =
      let n : ℕ = participants_in b in
      let m : ℕ = issues_in b in
      let g : List (List ℕ) = grid b tally_at most_issues n m in
      sym (get_d_map (map plus) g p [] [] (omega (arith, tally-shape.rows))
      ∙ ap (map plus) (get_or-table n (λ q. block b (lots_row tally_at q) m) p [] l))

  pub received_none : Received b receipts receipts 0
  received_none = filled_none receipts 0 (participants_in b) (issues_in b) (tally_rows b) tally-plus receipts-room

  pub receipt-to : (p : ℕ) → p < participants_in b → issues_in b * p + issues_in b ≤ length receipts
  receipt-to p l = omega (arith, room-to receipts 0 (participants_in b) (issues_in b) (tally_rows b) tally-plus receipts-room p l)

  -- each cell of a participant's row is the tally's where positive
  module _ {c : List ℕ} {p : ℕ} (l : p < participants_in b) (h : Received b receipts c p) where
    part-long : length (take (issues_in b * p + issues_in b - issues_in b * p) (drop (issues_in b * p) c)) ≡ issues_in b
    part-long = part_length c (issues_in b * p) (issues_in b) (omega (arith, receipt-to p l, h.size))

    pub received_more : {tally : List ℕ} → tally ≡ block b (lots_row tally_at p) (issues_in b) → length tally ≡ issues_in b → (part : List ℕ)
        → length part ≡ length (take (issues_in b * p + issues_in b - issues_in b * p) (drop (issues_in b * p) c))
        → ((i : ℕ) → i < length tally → get_or part i 0 ≡ plus (get_or tally i 0))
        → Received b receipts (put_mid (issues_in b * p) (issues_in b * p + issues_in b - issues_in b * p) c part) (p + 1)
    received_more {tally} there long part e each =
        filled-part receipts 0 (participants_in b) (issues_in b) (tally_rows b) tally-plus receipts-room l (omega arith) h part
        (made-of plus tally part (e ∙ part-long ∙ sym long) each ∙ ap (map plus) there ∙ tally-row p l)

  pub received-all : {c : List ℕ} {p : ℕ} → participants_in b ≤ p → Received b receipts c p → c ≡ receipts_written b receipts
  unfolding receipts_written
  received-all l h = filled-all receipts 0 (participants_in b) (issues_in b) (tally_rows b) tally-plus receipts-room l h

-- ---- today's marks, basket by basket

abbrev today_rows : List ℕ → List (List ℕ)
today_rows b = map joined (cube b today_at (participants_in b))

abbrev pub Covered : List ℕ → List ℕ → List ℕ → ℕ → Type 0
Covered b pairs c k = Filled pairs 0 (participants_in b * participants_in b) (today_rows b) c k

module _ (b pairs : List ℕ) (f : WritePairsAsks b pairs) where
  pub square-small : participants_in b * participants_in b ≤ 144
  square-small = mul-le-mul f.few f.few

  pairs-room : 0 + participants_in b * participants_in b * 7 ≤ length pairs
  pairs-room = omega (arith, f.room, mul_comm (participants_in b * participants_in b) 7)

  square-shape : (k : ℕ) → k < 7 → Shape (grid b (mark_square today_at k) most_participants (participants_in b) (participants_in b)) (participants_in b) (participants_in b)
  square-shape k l = grid-shape b (mark_square today_at k) most_participants (participants_in b) (participants_in b) f.few (omega (arith, f.size, f.few))

  today-row : (k : ℕ) → k < 7 → joined (grid b (mark_square today_at k) most_participants (participants_in b) (participants_in b)) ≡ row (today_rows b) k
  today-row k l =
      let n : ℕ = participants_in b in
      sym (get_d_map joined (cube b today_at n) k [] [] (omega (arith, length-table 7 (λ k. grid b (mark_square today_at k) most_participants n n)))
      ∙ ap joined (get_or-table 7 (λ k. grid b (mark_square today_at k) most_participants n n) k [] l))

  today-shape : Shape (today_rows b) 7 (participants_in b * participants_in b)
  today-shape =
      let n : ℕ = participants_in b in
      record {
        rows = length-map (cube b today_at n) joined ∙ length-table 7 (λ k. grid b (mark_square today_at k) most_participants n n);
        cells = λ k l. ap length (sym (today-row k l)) ∙ length-joined (grid b (mark_square today_at k) most_participants n n) n n (square-shape k l);
      }

  pub covered_none : Covered b pairs pairs 0
  covered_none = filled_none pairs 0 7 (participants_in b * participants_in b) (today_rows b) today-shape pairs-room

  -- a basket's marks have their room on both sides
  pub covered-room : (c : List ℕ) (k : ℕ) {marks : List ℕ} → length marks ≡ square → length c ≡ length pairs → k < 7
      → Copies c (participants_in b * participants_in b * k) (participants_in b) (participants_in b) (participants_in b) marks 0 most_participants
  covered-room c k long e l = record {
    wide = le_refl (participants_in b);
    room = omega (arith, room-to pairs 0 7 (participants_in b * participants_in b) (today_rows b) today-shape pairs-room k l, e);
    source_wide = f.few;
    rows = omega (arith, long, f.few);
  }

  pub covered_more : {c : List ℕ} {k : ℕ} {marks : List ℕ} → marks ≡ block b (mark_square today_at k) square → k < 7 → Covered b pairs c k → (d : List ℕ)
      → d ≡ written c (rows_at (participants_in b * participants_in b * k) (participants_in b) (grid marks 0 most_participants (participants_in b) (participants_in b))) → Covered b pairs d (k + 1)
  covered_more {c} {k} {marks} there l h d e =
      let n : ℕ = participants_in b in
      let same : grid marks 0 most_participants n n ≡ grid b (mark_square today_at k) most_participants n n =
      ap (λ (x : List ℕ). grid x 0 most_participants n n) there ∙ grid-within b (mark_square today_at k) square most_participants n n (omega (arith, f.few)) f.few in
      let room : Copies c (n * n * k) n n n b (mark_square today_at k) most_participants = record {
        wide = le_refl n;
        room = omega (arith, room-to pairs 0 7 (n * n) (today_rows b) today-shape pairs-room k l, h.size);
        source_wide = f.few;
        rows = omega (arith, f.size, f.few);
      } in
      filled_more pairs 0 7 (n * n) (today_rows b) today-shape pairs-room l (omega arith) h d
      (e ∙ ap (λ (rows : List (List ℕ)). written c (rows_at (n * n * k) n rows)) same
      ∙ joined-written c (n * n * k) n n (grid b (mark_square today_at k) most_participants n n) (square-shape k l) room.room ∙ ap (over c (n * n * k)) (today-row k l))

  pub covered-all : {c : List ℕ} {k : ℕ} → 7 ≤ k → Covered b pairs c k → c ≡ pairs_written b pairs
  unfolding pairs_written
  covered-all l h = filled-all pairs 0 7 (participants_in b * participants_in b) (today_rows b) today-shape pairs-room l h

-- ---- what the checks have shown to the writers

pub receipts_fit : (b receipts : List ℕ) → SoundBook b → participants_in b * issues_in b ≤ length receipts → WriteReceiptsAsks b receipts
receipts_fit b receipts s l = record { size = s.readable.size; few = s.sizes.few; most = s.sizes.most; room = l }

pub pairs_fit : (b pairs : List ℕ) → SoundBook b → 7 * (participants_in b * participants_in b) ≤ length pairs → WritePairsAsks b pairs
pairs_fit b pairs s l = record { size = s.readable.size; few = s.sizes.few; room = l }

-- ---- what each return of a close shows

module _ (b receipts pairs : List ℕ) where
  pub few-runs : get_or b runs_at 0 < 3 → ◌≡◌ {A = Reply × (List ℕ × List ℕ)} (refused 16, (receipts, pairs)) (close_sound b receipts pairs)
  unfolding close_sound close_checks view
  few-runs e = search (answers, rules) depth 12

  module _ (r : 3 ≤ get_or b runs_at 0) where
    pub short-receipts : length receipts < participants_in b * issues_in b → ◌≡◌ {A = Reply × (List ℕ × List ℕ)} (refused 15, (receipts, pairs)) (close_sound b receipts pairs)
    unfolding close_sound close_checks view
    short-receipts e = search (answers, rules) depth 12

    module _ (l : participants_in b * issues_in b ≤ length receipts) where
      pub short-pairs : length pairs < 7 * (participants_in b * participants_in b) → ◌≡◌ {A = Reply × (List ℕ × List ℕ)} (refused 15, (receipts, pairs)) (close_sound b receipts pairs)
      unfolding close_sound close_checks view
      short-pairs e = search (answers, rules) depth 12

      module _ (k : 7 * (participants_in b * participants_in b) ≤ length pairs) where
        pub closed : (x y : List ℕ) → x ≡ receipts_written b receipts → y ≡ pairs_written b pairs → ◌≡◌ {A = Reply × (List ℕ × List ℕ)} (accepted, (x, y)) (close_sound b receipts pairs)
        unfolding close_sound close_checks view receipts_written pairs_written tomorrow_receipts tomorrow_pairs
        closed x y ex ey =
            let both : ◌≡◌ {A = List ℕ × List ℕ} (x, y) (over receipts 0 (joined (tomorrow_receipts (view b))), over pairs 0 (joined (map joined (tomorrow_pairs (view b))))) =
            ap₂ (λ (u v : List ℕ). (u, v)) ex ey in
            search (answers, rules) depth 12
