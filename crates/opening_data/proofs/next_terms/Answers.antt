-- Six numbers are read.
use Rattle.opening_data.proofs.next_terms.Goals as goal
use Rattle.words.proofs.ReadLaws.{no-number, number-first}

pub returns : goal.returns
returns c =
    number-first c.in_ok-number.ensures.read (
    number-first c.in_ok-number-2.ensures.read (
    number-first c.in_ok-number-3.ensures.read (
    number-first c.in_ok-number-4.ensures.read (
    number-first c.in_ok-number-5.ensures.read (
    number-first c.in_ok-number-6.ensures.read no-number)))))
