-- `run::run` meets its contract. Assumes nothing.
use Rattle.std.proofs.Common.{rules}
use Rattle.lists.proofs.TestLaws.{said-yes, flag-no, flag-yes}
use Rattle.rule.specs.Calls.{refusal}
use Rattle.rule.specs.Layout.{run_of}
use Rattle.rule.proofs.AnswerLaws.{answers}
use Rattle.rule.proofs.BookLaws.{sound-book}
use Rattle.run.specs.Checked.{run_sound}
use Rattle.run.proofs.run.Goals as goal

pub returns-then-not-is_sound : goal.returns-then-not-is_sound
unfolding run_of refusal
returns-then-not-is_sound c = search (answers, flag-no, rules)

pub run_sound-requires : goal.run_sound-requires
run_sound-requires c =
    sound-book _ (λ j. search rules) (said-yes _ _ c.is_sound.ensures c.if-not-is_sound.false)

pub returns : goal.returns
unfolding run_of refusal run_sound
returns c = search (answers, flag-yes, rules)
