-- Laws of rows that are copied one after the other. Assumes nothing.
use mathlib.Core.Path.{◌≡◌, refl, sym, ap, ap₂, ◌∙◌, subst}
use Prim.Native.Nat.{ℕ, ◌+◌, ◌-◌, ◌*◌, ◌≤◌, ◌<◌}
use native.Mathlib.Nat.{mul-le-mul_left, mul-suc, add-sub_cancel_left}
use native.Mathlib.Omega.{arith}
use mathlib.Core.List.{List, [], ◌∷◌, ◌++◌, append-nil}
use lib.ListN.{length, take, drop, length-drop, drop_of_length-le}
use lib.Seq.{take_all, drop-drop}
use borrow.Rule.Slice.PartMut.{put_mid}
use Rattle.std.proofs.lemmas.List.{take_rest, take-append-drop, take-append-le, drop-append-le, drop-take, take-take, length-take-le}
use Rattle.lists.specs.Tables.{row}
use Rattle.lists.specs.Folds.{Every}
use Rattle.lists.specs.Parts.{block, grid, over, rows_at, written}
use Rattle.lists.proofs.TableLaws.{length-table, get_or-table}
use Rattle.lists.proofs.AppendLaws.{rows-joined}
use Rattle.lists.proofs.PartLaws.{Inside, part-back, length-block, length_over, table-agree, written-more, Shape, grid-shape, rows_inside, length-written}
use Rattle.lists.specs.Rows.{Spaced}

-- n rows of m cells, so far apart in the source from a place on, a stride apart where they go
pub record Copies (cells : List ℕ) (at stride n m : ℕ) (source : List ℕ) (from apart : ℕ) : Type 0 where
  pub wide : m ≤ stride
  pub room : at + stride * n ≤ length cells
  pub source_wide : m ≤ apart
  pub rows : from + apart * n ≤ length source

-- the rows below p are copied
pub record Copied (b : List ℕ) (at stride n m : ℕ) (source : List ℕ) (from apart : ℕ) (c : List ℕ) (p : ℕ) : Type 0 where
  pub size : length c ≡ length b
  pub rows : c ≡ written b (rows_at at stride (take p (grid source from apart n m)))

module _ (b : List ℕ) (at stride n m : ℕ) (source : List ℕ) (from apart : ℕ) (r : Copies b at stride n m source from apart) where
  pub copied_none : Copied b at stride n m source from apart b 0
  copied_none = record { size = refl; rows = refl }

  -- row p has its room on both sides
  pub room-to : (p : ℕ) → p < n → at + stride * p + m ≤ length b
  room-to p l = omega (arith, r.room, r.wide, mul-le-mul_left stride l, mul-suc stride p)

  pub room-from : (p : ℕ) → p < n → from + apart * p + m ≤ length source
  room-from p l = omega (arith, r.rows, r.source_wide, mul-le-mul_left apart l, mul-suc apart p)

  next : (p : ℕ) → p < n → row (grid source from apart n m) p ≡ block source (from + apart * p) m
  next p l = get_or-table n (λ q. block source (from + apart * q) m) p [] l

  more : {c : List ℕ} {p : ℕ} → p < n → Copied b at stride n m source from apart c p → (part : List ℕ)
      → part ≡ take (from + apart * p + m - (from + apart * p)) (drop (from + apart * p) source)
      → Copied b at stride n m source from apart (put_mid (at + stride * p) (at + stride * p + m - (at + stride * p)) c part) (p + 1)
  more {c} {p} l h part e =
      let o : ℕ = from + apart * p in
      let to : ℕ = at + stride * p in
      let long : length (block source o m) ≡ m = length-block source o m (room-from p l) in
      let same : part ≡ block source o m = e ∙ ap (λ (k : ℕ). take k (drop o source)) (add-sub_cancel_left o m) in
      let back : put_mid to (to + m - to) c part ≡ over c to (block source o m) = ap (put_mid to (to + m - to) c) same ∙ part-back c to m (block source o m) long in
      record {
        size = ap length back ∙ length_over c (block source o m) to (omega (arith, room-to p l, h.size, long)) ∙ h.size;
        rows = back ∙ ap (λ (x : List ℕ). over x to (block source o m)) h.rows
            ∙ ap (over (written b (rows_at at stride (take p (grid source from apart n m)))) to) (sym (next p l))
            ∙ sym (written-more stride (grid source from apart n m) at p b (omega (arith, length-table n (λ q. block source (from + apart * q) m))));
      }

  -- it is copied: `part` is the source's row as it is lent
  pub copied_more : {c : List ℕ} {p to o : ℕ} → p < n → Copied b at stride n m source from apart c p → to ≡ at + stride * p → o ≡ from + apart * p → (part : List ℕ)
      → part ≡ take (o + m - o) (drop o source) → Copied b at stride n m source from apart (put_mid to (to + m - to) c part) (p + 1)
  copied_more {c} {p} l h f g part e = subst (λ (i : ℕ). Copied b at stride n m source from apart (put_mid i (i + m - i) c part) (p + 1)) (sym f)
      (more l h part (e ∙ ap (λ (i : ℕ). take (i + m - i) (drop i source)) g))

  pub copied_all : {c : List ℕ} {p : ℕ} → n ≤ p → Copied b at stride n m source from apart c p → c ≡ written b (rows_at at stride (grid source from apart n m))
  copied_all {p = p} l h =
      let g : List (List ℕ) = grid source from apart n m in
      h.rows ∙ ap (λ (rs : List (List ℕ)). written b (rows_at at stride rs)) (take_all p g (omega (arith, length-table n (λ q. block source (from + apart * q) m))))

  -- rows that stand one after the other are copied as one
  module _ (e : stride ≡ m) (f : apart ≡ m) where
    pub joined-room : at + n * m ≤ length b
    joined-room = omega (arith, r.room, ap (λ (k : ℕ). k * n) e)

    pub joined-from : from + n * m ≤ length source
    joined-from = omega (arith, r.rows, ap (λ (k : ℕ). k * n) f)

    pub copied-joined : (part : List ℕ) → part ≡ take (from + n * m - from) (drop from source)
        → put_mid at (at + n * m - at) b part ≡ written b (rows_at at stride (grid source from apart n m))
    copied-joined part q =
        ap (put_mid at (at + n * m - at) b) (q ∙ ap (λ (k : ℕ). take k (drop from source)) (add-sub_cancel_left from (n * m)))
        ∙ part-back b at (n * m) (block source from (n * m)) (length-block source from (n * m) joined-from)
        ∙ sym (rows-joined b at n m source from (omega (arith, joined-room)) (omega (arith, joined-from)))
        ∙ ap₂ (λ (k j : ℕ). written b (rows_at at k (grid source from j n m))) (sym e) (sym f)

  -- copied rows leave as many cells as there were
  pub copied-length : length (written b (rows_at at stride (grid source from apart n m))) ≡ length b
  copied-length =
      let shape : Shape (grid source from apart n m) n m = grid-shape source from apart n m r.source_wide r.rows in
      length-written (rows_at at stride (grid source from apart n m)) b (rows_inside b at stride n m (grid source from apart n m) shape (length b) r.wide r.room)

-- ---- both sides lent, each from its place on

pub spaced : {b source : List ℕ} {stride n m apart : ℕ} → Spaced source apart n m → Spaced b stride n m → Copies b 0 stride n m source 0 apart
spaced f t = record { wide = t.wide; room = omega (arith, t.room); source_wide = f.wide; rows = omega (arith, f.room) }

-- a row written in a part is a row written in the whole
over-drop : (b : List ℕ) (at o : ℕ) (r : List ℕ) → at + (o + length r) ≤ length b → over (drop at b) o r ≡ drop at (over b (at + o) r)
over-drop b at o r h =
    let e : o + length r + at ≡ at + o + length r = omega arith in
    let f : at + (o + length r) ≡ at + o + length r = omega arith in
    let k : at ≤ length (take (at + o) b) = omega (arith, length-take-le (at + o) b (omega arith)) in
    ap₂ (λ (x y : List ℕ). x ++ (r ++ y)) (sym (drop-take at o b)) (drop-drop (o + length r) at b ∙ ap (λ (i : ℕ). drop i b) f)
    ∙ sym (drop-append-le at (take (at + o) b) (r ++ drop (at + o + length r) b) k)

over-take : (b : List ℕ) (at o : ℕ) (r : List ℕ) → at + (o + length r) ≤ length b → take at (over b (at + o) r) ≡ take at b
over-take b at o r h =
    let k : at ≤ length (take (at + o) b) = omega (arith, length-take-le (at + o) b (omega arith)) in
    take-append-le at (take (at + o) b) (r ++ drop (at + o + length r) b) k ∙ take-take at (at + o) b (omega arith)

-- the writes of a part, at their places in the whole
moved : ℕ → List (ℕ × List ℕ) → List (ℕ × List ℕ)
moved at [] = []
moved at (w ∷ ws) = (at + w.0, w.1) ∷ moved at ws

module _ (at : ℕ) where
  whole-length : (b : List ℕ) (w : ℕ × List ℕ) → w.0 + length w.1 ≤ length b - at → at ≤ length b → length (over b (at + w.0) w.1) ≡ length b
  whole-length b w h l = length_over b w.1 (at + w.0) (omega arith)

  written-drop : (ws : List (ℕ × List ℕ)) (b : List ℕ) → at ≤ length b → Every (Inside (length b - at)) ws → written (drop at b) ws ≡ drop at (written b (moved at ws))
  unfolding moved
  written-drop [] b l h = refl
  written-drop (w ∷ ws) b l h =
      let e : length (over b (at + w.0) w.1) ≡ length b = whole-length b w h.0 l in
      ap (λ (x : List ℕ). written x ws) (over-drop b at w.0 w.1 (omega (arith, h.0)))
      ∙ written-drop ws (over b (at + w.0) w.1) (omega (arith, e)) (subst (λ (n : ℕ). Every (Inside (n - at)) ws) (sym e) h.1)

  written-take : (ws : List (ℕ × List ℕ)) (b : List ℕ) → at ≤ length b → Every (Inside (length b - at)) ws → take at (written b (moved at ws)) ≡ take at b
  unfolding moved
  written-take [] b l h = refl
  written-take (w ∷ ws) b l h =
      let e : length (over b (at + w.0) w.1) ≡ length b = whole-length b w h.0 l in
      written-take ws (over b (at + w.0) w.1) (omega (arith, e)) (subst (λ (n : ℕ). Every (Inside (n - at)) ws) (sym e) h.1)
      ∙ over-take b at w.0 w.1 (omega (arith, h.0))

moved-rows : (at o stride : ℕ) (rs : List (List ℕ)) → moved at (rows_at o stride rs) ≡ rows_at (at + o) stride rs
unfolding moved
moved-rows at o stride [] = refl
moved-rows at o stride (r ∷ rs) =
    let e : at + (o + stride) ≡ at + o + stride = omega arith in
    ap (λ (ws : List (ℕ × List ℕ)). (at + o, r) ∷ ws) (moved-rows at (o + stride) stride rs ∙ ap (λ (i : ℕ). rows_at i stride rs) e)

module _ (b : List ℕ) (at stride n m : ℕ) (source : List ℕ) (from apart : ℕ) (r : Copies b at stride n m source from apart) where
  -- each side as it is lent
  pub lent-to : Spaced (take (length b - at) (drop at b)) stride n m
  lent-to = record { wide = r.wide; room = omega (arith, r.room, ap length (take_rest b at), length-drop at b) }

  module _ (src : List ℕ) (d : src ≡ drop from source) where
    pub lent-from : Spaced src apart n m
    lent-from = record { wide = r.source_wide; room = omega (arith, r.rows, ap length d, length-drop from source) }

    same-rows : grid src 0 apart n m ≡ grid source from apart n m
    same-rows = table-agree n _ _ (λ p l. let e : from + (0 + apart * p) ≡ from + apart * p = omega arith in
        ap (λ (x : List ℕ). block x (0 + apart * p) m) d ∙ ap (take m) (drop-drop (0 + apart * p) from source ∙ ap (λ (i : ℕ). drop i source) e))

    -- and the side that was written, back
    pub lent-back : (part : List ℕ) → part ≡ written (take (length b - at) (drop at b)) (rows_at 0 stride (grid src 0 apart n m))
        → put_mid at (length b - at) b part ≡ written b (rows_at at stride (grid source from apart n m))
    lent-back part e =
        let g : List (List ℕ) = grid source from apart n m in
        let ws : List (ℕ × List ℕ) = rows_at 0 stride g in
        let z : at + 0 ≡ at = omega arith in
        let here : at ≤ length b = omega (arith, r.room) in
        let shape : Shape g n m = grid-shape source from apart n m r.source_wide r.rows in
        let inside : Every (Inside (length b - at)) ws = rows_inside (drop at b) 0 stride n m g shape (length b - at) r.wide (omega (arith, r.room)) in
        let same : part ≡ drop at (written b (moved at ws)) =
        e ∙ ap₂ (λ (x : List ℕ) (t : List (List ℕ)). written x (rows_at 0 stride t)) (take_rest b at) same-rows ∙ written-drop at ws b here inside in
        ap (put_mid at (length b - at) b) same
        ∙ ap₂ (λ (x y : List ℕ). x ++ (drop at (written b (moved at ws)) ++ y)) (sym (written-take at ws b here inside)) (drop_of_length-le (drop at b) (omega (arith, length-drop at b)))
        ∙ ap (λ (x : List ℕ). take at (written b (moved at ws)) ++ x) (append-nil (drop at (written b (moved at ws)))) ∙ take-append-drop at (written b (moved at ws))
        ∙ ap (written b) (moved-rows at 0 stride g ∙ ap (λ (i : ℕ). rows_at i stride g) z)
