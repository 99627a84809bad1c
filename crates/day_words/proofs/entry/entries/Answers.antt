-- One word more, with its issue and lots.
use Rattle.std.proofs.Common.{◌<◌, [], length, arith}
use Rattle.std.proofs.lemmas.List.{take_more, map-append}
use Rattle.day_words.proofs.EntryLaws.{entries_more}
use Rattle.day_words.proofs.entry.entries.Goals as goal

pub loop-word-preserved : goal.loop-word-preserved
loop-word-preserved c =
    let lt : c.loop-word.word-index < length c.args.line.now.words.now = omega arith in
    rw (take_more c.args.line.now.words.now c.loop-word.word-index (record { ref_ptr = (0, 0); now = [] }) lt, map-append, c.in_ok-push.ensures.items, c.in_ok-push-2.ensures.items)
    (entries_more _ _ _ _ _ _ _ c.loop-word.invariant c.in_ok-issue.ensures)
