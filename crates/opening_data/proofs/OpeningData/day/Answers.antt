-- The two sizes are read, and the line ends.
use Rattle.opening_data.proofs.OpeningData.day.Goals as goal
use Rattle.opening_data.proofs.GatheredLaws.{emptied}
use Rattle.words.proofs.ReadLaws.{read-on}
use mathlib.Core.Path.{refl}

pub returns-clause-read : goal.returns-clause-read
returns-clause-read c =
    let participants = c.in_ok-participants.ensures.read in
    let issues = c.in_ok-issues.ensures.read in
    record {
      participants = participants.word;
      issues = issues.word;
      parts = read-on participants.parts (read-on issues.parts (c.in_ok-end.ensures.0 refl));
      numbers = (participants.right.0, issues.right.0);
      gathered = emptied c.new.result _ _ _ _ c.new.ensures participants.right.1 issues.right.1;
    }
