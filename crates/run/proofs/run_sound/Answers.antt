-- `run::run_sound` meets its contract. Assumes nothing.
use Rattle.std.proofs.Common.{arith}
use Rattle.run.proofs.RunLaws.{three-done, wrong-draw, short-matches, short-lines, run-asks, all-ran}
use Rattle.lists.proofs.TestLaws.{said-no, said-yes}
use Rattle.run.proofs.run_sound.Goals as goal

pub bounds-book-2 : goal.bounds-book-2
bounds-book-2 c = omega (arith, c.requires.readable.size)

pub returns-then-book-ge3 : goal.returns-then-book-ge3
returns-then-book-ge3 c = three-done _ _ _ _ c.if-book-ge3.true

pub bounds-book-0 : goal.bounds-book-0
bounds-book-0 c = omega (arith, c.requires.readable.size)

pub returns-then-not-names_each_once : goal.returns-then-not-names_each_once
returns-then-not-names_each_once c = wrong-draw _ _ _ _ c.if-book-ge3.false (said-no _ _ c.names_each_once.ensures c.if-not-names_each_once.true)

pub returns-then-matches-lt-MATCH_CELLS : goal.returns-then-matches-lt-MATCH_CELLS
returns-then-matches-lt-MATCH_CELLS c = short-matches _ _ _ _ c.if-book-ge3.false (said-yes _ _ c.names_each_once.ensures c.if-not-names_each_once.false) c.if-matches-lt-MATCH_CELLS.true

pub returns-then-lines-lt-LINE_CELLS : goal.returns-then-lines-lt-LINE_CELLS
returns-then-lines-lt-LINE_CELLS c =
    short-lines _ _ _ _ c.if-book-ge3.false (said-yes _ _ c.names_each_once.ensures c.if-not-names_each_once.false)
    c.if-matches-lt-MATCH_CELLS.false c.if-lines-lt-LINE_CELLS.true

pub run-counts-requires : goal.run-counts-requires
run-counts-requires c =
    run-asks _ _ _ _ c.if-book-ge3.false (said-yes _ _ c.names_each_once.ensures c.if-not-names_each_once.false)
    c.if-matches-lt-MATCH_CELLS.false c.if-lines-lt-LINE_CELLS.false c.requires

pub returns : goal.returns
returns c =
    all-ran _ _ _ _ c.if-book-ge3.false (said-yes _ _ c.names_each_once.ensures c.if-not-names_each_once.false)
    c.if-matches-lt-MATCH_CELLS.false c.if-lines-lt-LINE_CELLS.false c.run-counts.ensures
