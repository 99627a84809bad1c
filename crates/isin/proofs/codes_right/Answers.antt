-- `isin::codes_right` meets its contract. The pieces of twelve cells are the codes of the rule. Assumes nothing.
use Rattle.std.proofs.Common.{◌≡◌, ◌∙◌, true, false, rules}
use Rattle.std.proofs.lemmas.Iterator.{cases_from_all, YieldsList-from_slice}
use Rattle.std.proofs.lemmas.List.Sorted.{answers_always}
use Rattle.rule.specs.Isin.{is_code, before}
use Rattle.isin.proofs.CodeLaws.{codes-are, codes-go, codes-stop}
use Rattle.isin.proofs.codes_right.Goals as goal

pub returns-then-all : goal.returns-then-all
returns-then-all c =
    codes-go _ _ _
    (cases_from_all _ _ _ (λ x. is_code x ≡ true) (λ x. is_code x ≡ false) c.all.ensures.ran (YieldsList-from_slice _ c.iter.ensures.rest) (λ x q k. search rules) (λ x q k. search rules))
    c.if-all.true (c.is_sorted_by.ensures.cases before (answers_always _ _ _ (λ f a r g k. search rules)))
    ∙ codes-are _ c.as_chunks.ensures.front

pub returns-else-all : goal.returns-else-all
returns-else-all c =
    codes-stop _ _
    (cases_from_all _ _ _ (λ x. is_code x ≡ true) (λ x. is_code x ≡ false) c.all.ensures.ran (YieldsList-from_slice _ c.iter.ensures.rest) (λ x q k. search rules) (λ x q k. search rules))
    c.if-all.false
    ∙ codes-are _ c.as_chunks.ensures.front
