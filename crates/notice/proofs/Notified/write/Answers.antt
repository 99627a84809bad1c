-- `notice::Notified::write` meets its contract. Assumes nothing.
use Rattle.std.proofs.Common.{arith, get_or, refl}
use Rattle.lists.proofs.PartLaws.{part_length}
use Rattle.rule.specs.Layout.{issues_at}
use Rattle.notice.proofs.NoticeLaws.{row_back}
use Rattle.notice.proofs.Notified.write.Goals as goal

pub write_row-requires : goal.write_row-requires
write_row-requires c =
    let b = c.args.book.now in
    let long : _ = part_length b c.lots_row-at.result (get_or b issues_at 0) (omega (arith, c.lots_row-at.ensures, c.requires.size, c.requires.sender, c.requires.most)) in
    record { lengths = c.requires.entries.lengths; named = record { below = λ j l. omega (arith, c.requires.entries.named.below j l, long) } }

pub returns : goal.returns
returns c =
    let b = c.args.book.now in
    let n = c.args.self.now in
    row_back b n.participant (get_or b issues_at 0) n.named.now n.lots.now _ c.lots_row-at.ensures refl
    (omega (arith, c.lots_row-at.ensures, c.requires.size, c.requires.sender, c.requires.most)) c.write_row.ensures
