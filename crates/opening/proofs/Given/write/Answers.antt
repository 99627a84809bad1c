-- `opening::Given::write` meets its contract. Assumes nothing.
use Rattle.std.proofs.Common.{refl}
use Rattle.lists.proofs.TableLaws.{filled-zeros}
use Rattle.lists.proofs.CopyLaws.{lent-back}
use Rattle.opening.proofs.OpenLaws.{codes-room, terms-room, receipts-room, all-written}
use Rattle.opening.proofs.Given.write.Goals as goal

pub returns : goal.returns
returns c =
    let l = c.args.self.now.lengths in
    let cleared = filled-zeros _ (c.fill.ensures.after (λ y e. e)) in
    let codes = lent-back _ _ _ _ _ _ _ _ (codes-room _ _ _ _ _ _ _ l c.requires _ cleared) _ refl _ c.copy_to.ensures in
    let terms = lent-back _ _ _ _ _ _ _ _ (terms-room _ _ _ _ _ _ _ l c.requires _ cleared _ codes) _ refl _ c.copy_to-2.ensures in
    let receipts = lent-back _ _ _ _ _ _ _ _ (receipts-room _ _ _ _ _ _ _ l c.requires _ cleared _ codes _ terms) _ refl _ c.copy_to-3.ensures in
    all-written _ _ _ _ _ _ _ l c.requires _ cleared _ codes _ terms _ receipts _ c.write_marks.ensures
