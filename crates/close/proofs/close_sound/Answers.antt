-- `close::close_sound` meets its contract: each return by the law of its row of the check table. Assumes nothing.
use Rattle.std.proofs.Common.{arith, mul-le-mul}
use Rattle.close.proofs.CloseLaws.{few-runs, short-receipts, short-pairs, receipts_fit, pairs_fit, closed}
use Rattle.close.proofs.close_sound.Goals as goal

pub returns-then-book-lt3 : goal.returns-then-book-lt3
returns-then-book-lt3 c = few-runs _ _ _ (omega arith)

pub overflow_mul-n : goal.overflow_mul-n
overflow_mul-n c = omega (arith, mul-le-mul c.requires.sizes.few c.requires.sizes.most)

pub returns-then-receipts-n : goal.returns-then-receipts-n
returns-then-receipts-n c = short-receipts _ _ _ c.if-book-lt3.false c.if-receipts-n.true

pub overflow_mul-n-2 : goal.overflow_mul-n-2
overflow_mul-n-2 c = omega (arith, mul-le-mul c.requires.sizes.few c.requires.sizes.few)

pub overflow_mul-n-3 : goal.overflow_mul-n-3
overflow_mul-n-3 c = omega (arith, mul-le-mul c.requires.sizes.few c.requires.sizes.few)

pub returns-then-pairs-n : goal.returns-then-pairs-n
returns-then-pairs-n c =
    let a = c.args in
    short-pairs a.book.now a.receipts.now a.pairs.now c.if-book-lt3.false c.if-receipts-n.false (omega arith)

pub write_receipts-requires : goal.write_receipts-requires
write_receipts-requires c = receipts_fit _ _ c.requires c.if-receipts-n.false

pub write_pairs-requires : goal.write_pairs-requires
write_pairs-requires c = pairs_fit _ _ c.requires c.if-pairs-n.false

pub returns : goal.returns
returns c = closed _ _ _ c.if-book-lt3.false c.if-receipts-n.false c.if-pairs-n.false _ _ c.write_receipts.ensures c.write_pairs.ensures
