-- `opening::open` meets its contract. Assumes nothing.
use Rattle.std.proofs.Common.{List, ℕ, length, sym, ap, ◌∙◌, arith, mul-le-mul, length-take-le}
use lib.Seq.{take_at}
use Rattle.rule.proofs.SoundLaws.{sizes-of}
use Rattle.opening.proofs.OpenLaws.{wrong-sizes, wrong-codes, wrong-terms, wrong-receipts, wrong-pairs, wrong-book, lengths, right-lengths}
use Rattle.lists.proofs.TestLaws.{said-no, said-yes}
use Rattle.opening.specs.Opened.{open_lengths}
use Rattle.opening.proofs.open.Goals as goal

pub returns-then-not-sizes_fit : goal.returns-then-not-sizes_fit
returns-then-not-sizes_fit c = wrong-sizes _ _ _ _ _ _ _ (said-no _ _ c.sizes_fit.ensures c.if-not-sizes_fit.true)

pub overflow_mul-m : goal.overflow_mul-m
overflow_mul-m c = omega (arith, (sizes-of _ _ (said-yes _ _ c.sizes_fit.ensures c.if-not-sizes_fit.false)).most)

pub returns-then-codes-m : goal.returns-then-codes-m
returns-then-codes-m c = wrong-codes _ _ _ _ _ _ _ (said-yes _ _ c.sizes_fit.ensures c.if-not-sizes_fit.false) (λ e. omega arith)

pub overflow_mul-m-2 : goal.overflow_mul-m-2
overflow_mul-m-2 c = omega (arith, (sizes-of _ _ (said-yes _ _ c.sizes_fit.ensures c.if-not-sizes_fit.false)).most)

pub returns-then-terms-m : goal.returns-then-terms-m
returns-then-terms-m c = wrong-terms _ _ _ _ _ _ _ (said-yes _ _ c.sizes_fit.ensures c.if-not-sizes_fit.false) (omega arith) (λ e. omega arith)

pub overflow_mul-n : goal.overflow_mul-n
overflow_mul-n c = let z = sizes-of _ _ (said-yes _ _ c.sizes_fit.ensures c.if-not-sizes_fit.false) in omega (arith, mul-le-mul z.few z.most)

pub returns-then-receipts-n : goal.returns-then-receipts-n
returns-then-receipts-n c = wrong-receipts _ _ _ _ _ _ _ (said-yes _ _ c.sizes_fit.ensures c.if-not-sizes_fit.false) (omega arith) (omega arith) (λ e. omega arith)

pub overflow_mul-n-2 : goal.overflow_mul-n-2
overflow_mul-n-2 c = let z = sizes-of _ _ (said-yes _ _ c.sizes_fit.ensures c.if-not-sizes_fit.false) in omega (arith, mul-le-mul z.few z.few)

pub overflow_mul-n-3 : goal.overflow_mul-n-3
overflow_mul-n-3 c = let z = sizes-of _ _ (said-yes _ _ c.sizes_fit.ensures c.if-not-sizes_fit.false) in omega (arith, mul-le-mul z.few z.few)

pub returns-then-pairs-n : goal.returns-then-pairs-n
returns-then-pairs-n c = wrong-pairs _ _ _ _ _ _ _ (said-yes _ _ c.sizes_fit.ensures c.if-not-sizes_fit.false) (omega arith) (omega arith) (omega arith) (λ e. omega arith)

pub returns-then-book-ne-LENGTH : goal.returns-then-book-ne-LENGTH
returns-then-book-ne-LENGTH c = wrong-book _ _ _ _ _ _ _ (said-yes _ _ c.sizes_fit.ensures c.if-not-sizes_fit.false) (omega arith) (omega arith) (omega arith) (omega arith) (λ e. omega arith)

pub slice_bounds-cells-end : goal.slice_bounds-cells-end
slice_bounds-cells-end c = omega (arith, (sizes-of _ _ (said-yes _ _ c.sizes_fit.ensures c.if-not-sizes_fit.false)).most)

pub slice_bounds-widen-end : goal.slice_bounds-widen-end
slice_bounds-widen-end c = sym (length-take-le _ _ (omega (arith, (sizes-of _ _ (said-yes _ _ c.sizes_fit.ensures c.if-not-sizes_fit.false)).most)))

pub widen-requires : goal.widen-requires
widen-requires c = length-take-le _ _ (omega (arith, (sizes-of _ _ (said-yes _ _ c.sizes_fit.ensures c.if-not-sizes_fit.false)).most))

pub invariant_of-given : goal.invariant_of-given
invariant_of-given c =
    record {
      lengths = lengths _ _ _ _ _ _ c.args.book.now (said-yes _ _ c.sizes_fit.ensures c.if-not-sizes_fit.false)
          (ap length (take_at _ _ _ (ap length c.widen.ensures) ∙ c.widen.ensures) ∙ c.if-codes-m.false) (omega arith) (omega arith) (omega arith) (omega arith);
    }

pub returns : goal.returns
returns c =
    let a = c.args in
    right-lengths _ _ _ _ _ _ _ (said-yes _ _ c.sizes_fit.ensures c.if-not-sizes_fit.false) (omega arith) (omega arith) (omega arith) (omega arith) (omega arith) _
    (c.enter.ensures ∙ ap (λ (codes : List ℕ). open_lengths a.participants a.issues codes a.terms.now a.receipts.now a.pairs.now a.book.now)
    (take_at _ _ _ (ap length c.widen.ensures) ∙ c.widen.ensures))
