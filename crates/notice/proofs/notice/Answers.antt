-- `notice::notice` meets its contract. Assumes nothing.
use Rattle.std.proofs.Common.{rules}
use Rattle.lists.proofs.TestLaws.{said-no, said-yes}
use Rattle.rule.specs.Calls.{refusal}
use Rattle.rule.specs.Layout.{notice_of}
use Rattle.rule.proofs.AnswerLaws.{answers}
use Rattle.rule.proofs.BookLaws.{sound-book}
use Rattle.notice.specs.Checked.{notice_sound}
use Rattle.notice.proofs.notice.Goals as goal

pub returns-then-not-is_sound : goal.returns-then-not-is_sound
unfolding notice_of refusal
returns-then-not-is_sound c = search (answers, said-no, rules)

pub enter-requires : goal.enter-requires
enter-requires c =
    sound-book _ (λ j. search rules) (said-yes _ _ c.is_sound.ensures c.if-not-is_sound.false)

pub returns : goal.returns
unfolding notice_of refusal notice_sound
returns c = search (answers, said-yes, rules)
