-- The chain gives the first of the words, for which there is room: one more does not come.
use Rattle.std.proofs.Common.{rules, ◌≡◌, ℕ, List, [], ◌++◌, map, take, length, length-take, not, ◌==◌, ap, ◌∙◌, refl, arith, Result, Ok, Err, Option, None, Some}
use Rattle.std.specs.List.{list_any}
use Rattle.std.specs.Result.{MatchResult, OnErr}
use Rattle.std.specs.Iterator.{Yields, YieldsThen, Drains}
use Rattle.std.specs.Slice.Iter.{split_rest, split_done, split_callee}
use Rattle.std.proofs.lemmas.Iterator.{YieldsList, YieldsList-from_take}
use Rattle.std.proofs.lemmas.Iterator.Consumers.{YieldsList-at, YieldsList-turn, YieldsList-end, YieldsList-from_filter}
use Rattle.std.proofs.lemmas.Iterator.Splits.{YieldsList-from_slice_split}
use borrow.Author.Tests.{tests}
use Rattle.words.proofs.fill.fill_words.Goals as goal

-- what an empty list of room n is extended to by a chain of at most n
all_come : {S A B E : Type 0} {steps : S → Option A → S → Type 0} {v : A → B} {s : S} (all : List B) (n : ℕ) (r : Result (Unit {0}) E) (old new : List A) → old ≡ []
    → ((it : S) × (xs : List A) × (it ≡ s) × (new ≡ old ++ xs) × MatchResult r (λ _. Drains steps it xs) (λ _. (t : S) × Yields steps it xs t))
    → OnErr r (length new ≡ n)
    → OnErr r ((it : S) × (xs : List A) × (x : A) × (rest : S) × (it ≡ s) × YieldsThen steps it xs (Some x) rest × (new ≡ old ++ xs))
    → YieldsList steps v s (take n all) → map v new ≡ take n all
all_come {v = v} all n (Ok _) old new none ran full more chain =
    let (it, xs, at, is, done) = ran in
    ap (map v) (is ∙ ap (λ l. l ++ xs) none) ∙ (YieldsList-end (YieldsList-at at chain) xs done.1.0 done.1.1 None done.0 refl done.1.2).0
all_come all n (Err _) old new none ran full more chain =
    let (it, xs, x, rest, at, y, is) = more in
    let turn = YieldsList-turn (YieldsList-at at chain) xs y.0 y.1 (Some x) rest x refl y.2 in
    absurd (omega (arith, turn.0, full, length-take n all, ap length (is ∙ ap (λ l. l ++ xs) none)))

pub returns : goal.returns
returns g c =
    all_come _ g.row.N c.extend.result c.clear.new.self.items c.extend.new.self.items c.clear.ensures c.extend.ensures.ran c.extend.ensures.full c.extend.ensures.one_more
    (YieldsList-from_take g.row.N
    (YieldsList-at c.take.ensures.source
    (YieldsList-from_filter _ (λ (word : List ℕ). not (length word == 0))
    (YieldsList-from_slice_split _ (λ (b : ℕ). list_any (λ (blank : ℕ). blank == b) c.args.blanks.now) c.args.text.now
    (ap split_rest c.filter-all.ensures.source ∙ c.split.ensures.rest) (ap split_done c.filter-all.ensures.source ∙ c.split.ensures.done) (ap split_callee c.filter-all.ensures.source ∙ c.split.ensures.closure)
    (λ x b q k. search (rules, tests)))
    c.filter-all.ensures.closure (λ x b q k. search (rules, tests))))
    c.take.ensures.count)
