-- Participant, issue and lots are read, and the line ends.
use Rattle.opening_data.proofs.OpeningData.receipt.Goals as goal
use Rattle.opening_data.proofs.GatheredLaws.{receipt-placed}
use Rattle.words.proofs.ReadLaws.{read-on}
use Rattle.day_words.specs.Named.{Names, codes_in}
use Rattle.std.proofs.Common.{arith, ℕ, List}
use mathlib.Core.Path.{refl, subst}

pub returns-clause-read : goal.returns-clause-read
returns-clause-read c =
    let participant = c.in_ok-participant.ensures.read in
    let issue = c.in_ok-issue.ensures.read in
    let lots = c.in_ok-lots.ensures.read in
    record {
      participant = participant.word;
      issue = issue.word;
      lots = lots.word;
      parts = read-on participant.parts (read-on issue.parts (read-on lots.parts (c.in_ok-end.ensures.0 refl)));
      numbers = (participant.right.0, lots.right.0);
      m = c.in_ok-issue.issue;
      named = subst (λ (bytes : List ℕ). Names (codes_in bytes) issue.word c.in_ok-issue.issue) c.listed_codes.ensures issue.right;
      of_day = (omega (arith, participant.right.1, c.in_ok-participant.ensures.below), c.in_ok-issue.ensures.below);
      gathered = receipt-placed c.args.self.now c.receipt_place-place.result c.receipt_place-place.ensures.place participant.right.1 refl lots.right.1;
    }
