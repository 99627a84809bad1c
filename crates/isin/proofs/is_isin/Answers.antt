use Rattle.std.proofs.Common.{◌≡◌, ◌≤◌, ◌<◌, get_or, false, arith, rules}
use Rattle.rule.specs.Isin.{digit, capital}
use Rattle.isin.proofs.CodeLaws.{isin-length, digit_told, capital_told, read_none, read-digit, read-capital, read-stop, read_done}
use Rattle.isin.proofs.is_isin.Goals as goal
use Rattle.isin.proofs.is_isin.Goals.{else-i-ge-COUNTRY-via-then-i-ge-COUNTRY+else-contains, else-i-ge-COUNTRY-via-else-i-ge-COUNTRY}
use Rattle.isin.proofs.is_isin.Goals.{else-i-lt-CHECK_DIGIT-via-then-i-lt-CHECK_DIGIT+else-contains-2, else-i-lt-CHECK_DIGIT-via-else-i-lt-CHECK_DIGIT}
use Rattle.isin.proofs.is_isin.Goals.{then-i-ge-COUNTRY+then-contains, else-i-ge-COUNTRY+then-i-lt-CHECK_DIGIT+then-contains-2}

pub returns-then-code-ne12 : goal.returns-then-code-ne12
returns-then-code-ne12 c = isin-length _ c.if-code-ne12.true

pub loop-i-init : goal.loop-i-init
loop-i-init c = read_none _ c.if-code-ne12.false

pub returns-else-i-lt-CHECK_DIGIT : goal.returns-else-i-lt-CHECK_DIGIT
returns-else-i-lt-CHECK_DIGIT c =
    let x = get_or c.args.code.now c.loop-i.i 0 in
    let n = elim c.else-i-ge-COUNTRY.branch as (λ _. 2 ≤ c.loop-i.i → digit x ≡ false) [
      | else-i-ge-COUNTRY-via-then-i-ge-COUNTRY+else-contains w ↦ λ h. search (digit_told, rules)
      | else-i-ge-COUNTRY-via-else-i-ge-COUNTRY w ↦ λ h. absurd (omega arith)
    ] in
    let m = elim c.else-i-lt-CHECK_DIGIT.branch as (λ _. c.loop-i.i < 11 → capital x ≡ false) [
      | else-i-lt-CHECK_DIGIT-via-then-i-lt-CHECK_DIGIT+else-contains-2 w ↦ λ h. search (capital_told, rules)
      | else-i-lt-CHECK_DIGIT-via-else-i-lt-CHECK_DIGIT w ↦ λ h. absurd (omega arith)
    ] in
    read-stop c.loop-i.invariant c.loop-i-test.true n m

pub loop-i-preserved : goal.loop-i-preserved
loop-i-preserved c =
    elim c.if-i-ge-COUNTRY.branch [
      | then-i-ge-COUNTRY+then-contains w ↦ rw w.sums-is (search (read-digit, digit_told, rules))
      | else-i-ge-COUNTRY+then-i-lt-CHECK_DIGIT+then-contains-2 w ↦ rw w.sums-is (search (read-capital, capital_told, rules))
    ]

pub returns : goal.returns
returns c = read_done c.loop-i.invariant c.loop-i-test.false c.loop-i.auto.i-end
