-- What a run answers on a book that it has found sound. Assumes nothing.
use Rattle.std.specs.Prelude.{ℕ, List, length}
use Rattle.lists.specs.Tests.{first}
use Rattle.lists.specs.Folds.{joined}
use Rattle.lists.specs.Parts.{over}
use Rattle.rule.specs.Run.{Allocation, allocations, ran, match_list, line_list}
use Rattle.rule.specs.Calls.{Reply, answer, run_checks, run_reply}
use Rattle.rule.specs.Layout.{view, stored}

unfoldable pub run_sound : List ℕ → List ℕ → List ℕ → List ℕ → Reply × (List ℕ × List ℕ × List ℕ)
run_sound b draw matches lines =
    let done : List Allocation = allocations (view b) draw in
    answer (first (run_checks (view b) draw (length matches) (length lines))) (run_reply done)
    (stored b (ran (view b) done), over matches 0 (joined (match_list done)), over lines 0 (joined (line_list done)))
    (b, matches, lines)
