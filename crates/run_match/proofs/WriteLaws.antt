-- Laws of writing a match: its lots, with the forced ones, and its entry in the list. Assumes nothing.
use Rattle.rule.specs.Entries.{match_size}
use Rattle.rule.specs.Layout.{row_start}
use Rattle.std.proofs.Common.{◌≡◌, ℕ, ◌+◌, ◌-◌, ◌*◌, ◌<◌, ◌≤◌, List, length, get_or, set, take, drop, sym, ap, ap₂, ◌∙◌, subst, arith, length-set, get_or-set_same, get_or-set_other}
use native.Mathlib.Decide.{ℕ_discrete}
use borrow.Rule.Slice.PartMut.{put_mid}
use Rattle.lists.specs.Parts.{over}
use Rattle.lists.proofs.PartLaws.{block-get, part-is, part_length}
use Rattle.lists.specs.Rows.{Becomes}
use Rattle.lists.proofs.RowLaws.{lent-size, lent-in, lent_out, where-is}
use Rattle.filling.specs.declared.Filling.{Filling}
use Rattle.matching.specs.declared.Match.{Match as Entry}
use Rattle.run_post.specs.declared.listing.Lists.{Lists}
use Rattle.run_post.specs.Booked.{MoveYenGives}
use Rattle.run_post.specs.Listed.{entry_cells, Listed, AddMatchAsks, AddMatchGives}
use Rattle.run_post.proofs.ListingLaws.{same-then}
use Rattle.run_post.specs.Issues.{WriteIssuesGives}
use Rattle.run_match.specs.Filled.{lots_with, UsedBy, WriteLotsAsks, WriteLotsGives, WriteNextAsks, WriteNextGives}

-- ---- the lots

module _ {b used : List ℕ} {s : Lists} {m : Entry} {f : Filling} {lots : List ℕ} (h : WriteLotsAsks b used s m f lots) where
  abbrev row : ℕ
  row = row_start m.deliverer

  abbrev place : ℕ
  place = row + f.forced

  abbrev further : ℕ
  further = f.forced_lots.0

  -- the forced issue's lots, the forced ones with them
  abbrev forced-all : ℕ
  forced-all = get_or lots f.forced 0 + further

  size-with : length (lots_with f lots) ≡ length lots
  size-with = length-set lots f.forced forced-all

  -- the deliverer's row, as far as there are lots
  abbrev width : ℕ
  width = length (lots_with f lots)

  abbrev lent-row : List ℕ
  lent-row = take (row + width - row) (drop row used)

  row-fits : row + width ≤ length used
  row-fits = omega (arith, h.gone, h.deliverer, h.few, size-with)

  lent-row-is : (i : ℕ) → i < width → get_or lent-row i 0 ≡ get_or used (row + i) 0
  lent-row-is i l = ap (λ (p : List ℕ). get_or p i 0) (part-is used row width) ∙ block-get used row width i l

  module _ {b' part : List ℕ} {t : Lists} (w : WriteIssuesGives b lent-row s m (lots_with f lots) b' part t) where
    abbrev u : List ℕ
    u = put_mid row (row + width - row) used part

    abbrev With : ℕ → ℕ → Type 0
    With i c = c ≡ get_or used (row + i) 0 + get_or (lots_with f lots) i 0

    used-with : Becomes With lent-row part
    used-with = record {
      size = w.gone.size;
      cells = λ i l. let k : i < width = omega (arith, part_length used row width row-fits) in w.gone.more i k ∙ ap (λ (x : ℕ). x + get_or (lots_with f lots) i 0) (lent-row-is i k);
    }

    size-used : length u ≡ length used
    size-used = lent-size With used row width part row-fits used-with

    pub place-fits : place < length u
    place-fits = omega (arith, size-used, h.gone, h.deliverer, h.forced, h.few)

    -- the forced issue's lots used, the forced ones with them
    forced-is : get_or u place 0 ≡ get_or used place 0 + forced-all
    forced-is =
        lent-in With used row width part row-fits used-with f.forced (omega (arith, size-with, h.forced))
        ∙ ap (λ (x : ℕ). get_or used place 0 + x) (get_or-set_same lots f.forced forced-all 0 h.forced)

    abbrev unforced : ℕ
    unforced = get_or u place 0 - further

    abbrev used' : List ℕ
    used' = set u place unforced

    without-forced : UsedBy used used' m.deliverer lots
    without-forced = record {
      size = length-set u place unforced ∙ size-used;
      more = λ i l. cases i l (ℕ_discrete i f.forced);
      kept = λ q e.
          get_or-set_other u place q unforced 0 (e f.forced h.forced)
          ∙ lent_out With used row width part row-fits used-with q (where-is q row width (λ i l. e i (omega (arith, size-with))));
    }
      where
        cases : (i : ℕ) → i < length lots → Dec (i ≡ f.forced) → get_or used' (row + i) 0 ≡ get_or used (row + i) 0 + get_or lots i 0
        cases i l (yes e) =
            ap (λ (x : ℕ). get_or used' (row + x) 0) e
            ∙ get_or-set_same u place unforced 0 place-fits
            ∙ omega (arith, forced-is)
            ∙ ap (λ (x : ℕ). get_or used (row + x) 0 + get_or lots x 0) (sym e)
        cases i l (no d) =
            get_or-set_other u place (row + i) unforced 0 (λ e. d (omega arith))
            ∙ lent-in With used row width part row-fits used-with i (omega (arith, size-with))
            ∙ ap (λ (x : ℕ). get_or used (row + i) 0 + x) (get_or-set_other lots f.forced i forced-all 0 d)

    row-written : WriteLotsGives b used s m f lots b' used' t
    row-written = record { gone = without-forced; listed = w.listed; moved = w.moved; only = w.only }

  -- the row as it is lent
  abbrev lent : ℕ → List ℕ
  lent at = take (at + width - at) (drop at used)

  abbrev back : List ℕ → ℕ → List ℕ
  back part at = put_mid at (at + width - at) used part

  pub lots-written : {at to : ℕ} → at ≡ row_start m.deliverer → to ≡ row_start m.deliverer → {b' part : List ℕ} {t : Lists}
      → WriteIssuesGives b (lent at) s m (lots_with f lots) b' part t
      → WriteLotsGives b used s m f lots b' (set (back part at) (to + f.forced) (get_or (back part at) (to + f.forced) 0 - further)) t
  lots-written {at} start place {b'} {part} {t} =
      subst (λ (to : ℕ). WriteIssuesGives b (lent at) s m (lots_with f lots) b' part t
      → WriteLotsGives b used s m f lots b' (set (back part at) (to + f.forced) (get_or (back part at) (to + f.forced) 0 - further)) t)
      (start ∙ sym place)
      (subst (λ (row : ℕ). WriteIssuesGives b (lent row) s m (lots_with f lots) b' part t
      → WriteLotsGives b used s m f lots b' (set (back part row) (row + f.forced) (get_or (back part row) (row + f.forced) 0 - further)) t)
      (sym start) row-written)

-- ---- the match after its lots

module _ {b between used : List ℕ} {k : ℕ} {s t : Lists} {m : Entry} {f : Filling} {lots b' used' : List ℕ}
    (h : WriteNextAsks b k m f lots used s) (y : MoveYenGives b between k m.deliverer m.receiver f.covered.0)
    (w : WriteLotsGives between used s m f lots b' used' t) where
  pub match-room : AddMatchAsks t.matches.now t.counts.matches
  match-room = record { places = omega (arith, h.match_room, w.only.match_count, w.only.same.match_places); small = omega (arith, h.match_few, w.only.match_count) }

  pub match-written : {u : Lists} → AddMatchGives t u k m f → WriteNextGives b k m f lots used s b' used' u
  match-written {u} a = record {
    gone = w.gone;
    entry = a.entry ∙ ap₂ (λ (cells : List ℕ) (number : ℕ). over cells (match_size * number) (entry_cells k m.deliverer m.receiver m.amount.0 f)) w.only.matches w.only.match_count;
    matched = a.matched ∙ ap (λ (number : ℕ). number + 1) w.only.match_count;
    listed = subst (λ (count : ℕ). Listed s.lines.now u.lines.now s.counts.lines s.counts.matches (lots_with f lots) count) (sym a.line_count)
        (subst (λ (cells : List ℕ). Listed s.lines.now cells s.counts.lines s.counts.matches (lots_with f lots) t.counts.lines) (sym a.lines) w.listed);
    same = same-then w.only.same a.same;
    between = between;
    yen = y;
    moved = w.moved;
  }
