-- `trade::trade` meets its contract. Assumes nothing.
use Rattle.std.proofs.Common.{rules}
use Rattle.lists.proofs.TestLaws.{said-no, said-yes}
use Rattle.rule.specs.Calls.{refusal}
use Rattle.rule.specs.Layout.{trade_of}
use Rattle.rule.proofs.AnswerLaws.{answers}
use Rattle.rule.proofs.BookLaws.{sound-book}
use Rattle.trade.specs.Checked.{trade_sound}
use Rattle.trade.proofs.trade.Goals as goal

pub returns-then-not-is_sound : goal.returns-then-not-is_sound
unfolding trade_of refusal
returns-then-not-is_sound c = search (answers, said-no, rules)

pub enter-requires : goal.enter-requires
enter-requires c =
    sound-book _ (λ j. search rules) (said-yes _ _ c.is_sound.ensures c.if-not-is_sound.false)

pub returns : goal.returns
unfolding trade_of refusal trade_sound
returns c = search (answers, said-yes, rules)
