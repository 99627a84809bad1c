-- `notice::Notified::enter` meets its contract. Assumes nothing.
use Rattle.std.proofs.Common.{eqb, ltb, ℕ, Bool, List, ◌≡◌, ◌∙◌, eq-eqb, false, get_or, leb, length, rules, true}
use Rattle.lists.proofs.TestLaws.{said-no, said-yes, all-listed}
use Rattle.rule.specs.Calls.{distinct, notice_checks}
use Rattle.rule.specs.Sound.{notice_limit}
use Rattle.rule.specs.Day.{noticed}
use Rattle.layout.specs.InBook.{issues_in}
use Rattle.rule.specs.Layout.{view, stored}
use Rattle.lists.specs.Tests.{all_below}
use Rattle.rule.proofs.AnswerLaws.{answers}
use Rattle.notice.specs.Checked.{notice_sound}
use Rattle.notice.proofs.NoticeLaws.{markable, writable, accepted-notice}
use Rattle.notice.proofs.Notified.enter.Goals.{After-all_of_day, After-all_distinct, After-row_at_most, After-write}
use Rattle.notice.proofs.Notified.enter.Goals as goal

-- what the entries have shown by then: there are some, as many lots as issues, each issue is of the day, none is named twice, and no lots are
-- above the limit
some : (c : After-all_of_day) → eqb (length c.args.self.now.named.now) 0 ≡ false
some c = said-no _ _ c.is_empty.ensures c.if-is_empty.false

lengths : (c : After-all_of_day) → eqb (length c.args.self.now.named.now) (length c.args.self.now.lots.now) ≡ true
lengths c = eq-eqb _ _ c.if-self.false

abbrev OfDay : List ℕ → List ℕ → Bool
OfDay named b = all_below (length named) (λ j. ltb (get_or named j 0) (issues_in b))

of_day : (c : After-all_distinct) → OfDay c.args.self.now.named.now c.args.book.now ≡ true
of_day c = said-yes _ _ (c.all_of_day.ensures ∙ all-listed _ _) c.if-not-all_of_day.false

once : (c : After-row_at_most) → distinct c.args.self.now.named.now ≡ true
once c = said-yes _ _ c.all_distinct.ensures c.if-not-all_distinct.false

abbrev Few : List ℕ → Bool
Few lots = all_below (length lots) (λ j. leb (get_or lots j 0) notice_limit)

few : (c : After-write) → Few c.args.self.now.lots.now ≡ true
few c = said-yes _ _ c.row_at_most.ensures c.if-not-row_at_most.false

pub returns-then-book-ge3 : goal.returns-then-book-ge3
unfolding notice_sound notice_checks view
returns-then-book-ge3 c = search (answers, rules) depth 24

pub returns-then-self-book : goal.returns-then-self-book
unfolding notice_sound notice_checks view
returns-then-self-book c = search (answers, rules) depth 24

pub returns-then-is_empty : goal.returns-then-is_empty
unfolding notice_sound notice_checks view
returns-then-is_empty c =
    let none : eqb (length c.args.self.now.named.now) 0 ≡ true = said-yes _ _ c.is_empty.ensures c.if-is_empty.true in
    search (answers, rules) depth 24

pub returns-then-self : goal.returns-then-self
unfolding notice_sound notice_checks view
returns-then-self c =
    let some : eqb (length c.args.self.now.named.now) 0 ≡ false = said-no _ _ c.is_empty.ensures c.if-is_empty.false in
    search (answers, rules) depth 24

pub returns-then-not-all_of_day : goal.returns-then-not-all_of_day
unfolding notice_sound notice_checks view
returns-then-not-all_of_day c =
    let at = goal.at.returns-then-not-all_of_day c in
    let s = some at.After-all_of_day in
    let e = lengths at.After-all_of_day in
    let beyond : OfDay c.args.self.now.named.now c.args.book.now ≡ false = said-no _ _ (c.all_of_day.ensures ∙ all-listed _ _) c.if-not-all_of_day.true in
    search (answers, rules) depth 24

pub all_distinct-requires : goal.all_distinct-requires
all_distinct-requires c =
    markable c.args.book.now c.requires c.args.self.now.named.now (said-yes _ _ (c.all_of_day.ensures ∙ all-listed _ _) c.if-not-all_of_day.false)

pub returns-then-not-all_distinct : goal.returns-then-not-all_distinct
unfolding notice_sound notice_checks view
returns-then-not-all_distinct c =
    let at = goal.at.returns-then-not-all_distinct c in
    let s = some at.After-all_of_day in
    let e = lengths at.After-all_of_day in
    let d = of_day at.After-all_distinct in
    let twice : distinct c.args.self.now.named.now ≡ false = said-no _ _ c.all_distinct.ensures c.if-not-all_distinct.true in
    search (answers, rules) depth 24

pub returns-then-not-row_at_most : goal.returns-then-not-row_at_most
unfolding notice_sound notice_checks view
returns-then-not-row_at_most c =
    let at = goal.at.returns-then-not-row_at_most c in
    let s = some at.After-all_of_day in
    let e = lengths at.After-all_of_day in
    let d = of_day at.After-all_distinct in
    let o = once at.After-row_at_most in
    let many : Few c.args.self.now.lots.now ≡ false = said-no _ _ c.row_at_most.ensures c.if-not-row_at_most.true in
    search (answers, rules) depth 24

pub write-requires : goal.write-requires
write-requires c =
    writable c.args.book.now c.requires c.args.self.now.named.now (said-yes _ _ (c.all_of_day.ensures ∙ all-listed _ _) c.if-not-all_of_day.false)
    c.args.self.now.participant c.args.self.now.lots.now c.if-self-book.false c.if-self.false

pub returns : goal.returns
unfolding notice_sound notice_checks view
returns c =
    let b = c.args.book.now in
    let l = c.args.self.now.lots.now in
    let at = goal.at.returns c in
    let s = some at.After-all_of_day in
    let e = lengths at.After-all_of_day in
    let d = of_day at.After-all_distinct in
    let o = once at.After-row_at_most in
    let f = few at.After-write in
    let made : c.write.new.book ≡ stored b (noticed (view b) c.args.self.now.participant c.args.self.now.named.now l) =
    accepted-notice b c.requires c.args.self.now.named.now d c.args.self.now.participant l c.if-self-book.false c.if-self.false c.if-book-ge3.false o f _ c.write.ensures in
    search (answers, rules) depth 24
