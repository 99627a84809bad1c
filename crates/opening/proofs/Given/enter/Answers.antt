-- `opening::Given::enter` meets its contract. Assumes nothing.
use Rattle.lists.proofs.TestLaws.{said-no, said-yes}
use Rattle.opening.proofs.OpenLaws.{codes-whole, terms-whole, wrong-code, wrong-term, wrong-receipt, wrong-pair, all_right}
use Rattle.opening.proofs.Given.enter.Goals as goal

pub returns-then-not-codes_right : goal.returns-then-not-codes_right
returns-then-not-codes_right c = let l = c.args.self.now.lengths in wrong-code _ _ _ _ _ _ _ (said-no _ _ (codes-whole l c.codes_right.ensures) c.if-not-codes_right.true)

pub returns-then-not-terms_fit : goal.returns-then-not-terms_fit
returns-then-not-terms_fit c =
    let l = c.args.self.now.lengths in
    wrong-term _ _ _ _ _ _ _ (said-yes _ _ (codes-whole l c.codes_right.ensures) c.if-not-codes_right.false)
    (said-no _ _ (terms-whole l c.as_chunks.ensures.front c.terms_fit.ensures) c.if-not-terms_fit.true)

pub returns-then-not-rows_at_most : goal.returns-then-not-rows_at_most
returns-then-not-rows_at_most c =
    let l = c.args.self.now.lengths in
    wrong-receipt _ _ _ _ _ _ _ (said-yes _ _ (codes-whole l c.codes_right.ensures) c.if-not-codes_right.false)
    (said-yes _ _ (terms-whole l c.as_chunks.ensures.front c.terms_fit.ensures) c.if-not-terms_fit.false)
    (said-no _ _ c.rows_at_most.ensures c.if-not-rows_at_most.true)

pub returns-then-not-pairs_fit : goal.returns-then-not-pairs_fit
returns-then-not-pairs_fit c =
    let l = c.args.self.now.lengths in
    wrong-pair _ _ _ _ _ _ _ (said-yes _ _ (codes-whole l c.codes_right.ensures) c.if-not-codes_right.false)
    (said-yes _ _ (terms-whole l c.as_chunks.ensures.front c.terms_fit.ensures) c.if-not-terms_fit.false)
    (said-yes _ _ c.rows_at_most.ensures c.if-not-rows_at_most.false)
    (said-no _ _ c.pairs_fit.ensures c.if-not-pairs_fit.true)

pub returns : goal.returns
returns c =
    let l = c.args.self.now.lengths in
    all_right _ _ _ _ _ _ _ (said-yes _ _ (codes-whole l c.codes_right.ensures) c.if-not-codes_right.false)
    (said-yes _ _ (terms-whole l c.as_chunks.ensures.front c.terms_fit.ensures) c.if-not-terms_fit.false)
    (said-yes _ _ c.rows_at_most.ensures c.if-not-rows_at_most.false)
    l (said-yes _ _ c.pairs_fit.ensures c.if-not-pairs_fit.false) _ c.write.ensures
