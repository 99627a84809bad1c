-- One word more, with its issue and lots, for which there is room.
use Rattle.std.proofs.Common.{◌<◌, [], length, arith}
use Rattle.std.proofs.lemmas.Grind.{common_steps}
use Rattle.std.proofs.lemmas.List.{take_more, map-append}
use Rattle.day_words.proofs.EntryLaws.{entries_more}
use Rattle.day_words.proofs.entry.fill_entries.Goals as goal

pub push-requires : goal.push-requires
push-requires g c = grind (arith, common_steps, c.loop-word.invariant.issues_len)

pub push-requires-in-loop-word : goal.push-requires-in-loop-word
push-requires-in-loop-word g c = grind (arith, common_steps, c.loop-word.invariant.lots_len)

pub loop-word-preserved : goal.loop-word-preserved
loop-word-preserved g c =
    let lt : c.loop-word.word-index < length c.args.line.now.words.now = omega arith in
    rw (take_more c.args.line.now.words.now c.loop-word.word-index (record { ref_ptr = (0, 0); now = [] }) lt, map-append, c.push.ensures.items, c.push-in-loop-word.ensures.items)
    (entries_more _ _ _ _ _ _ _ c.loop-word.invariant c.in_ok-issue.ensures)
