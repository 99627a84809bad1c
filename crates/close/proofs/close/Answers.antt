-- `close::close` meets its contract: an unsound book is refused, and a sound one closed. Assumes nothing.
use Rattle.std.proofs.Common.{arith, rules}
use Rattle.lists.proofs.TestLaws.{said-yes, flag-no, flag-yes}
use Rattle.rule.specs.Calls.{refusal}
use Rattle.rule.specs.Layout.{close_of}
use Rattle.rule.proofs.AnswerLaws.{answers}
use Rattle.rule.proofs.BookLaws.{sound-book}
use Rattle.close.specs.Closed.{close_sound}
use Rattle.close.proofs.close.Goals as goal

pub returns-then-not-is_sound : goal.returns-then-not-is_sound
unfolding close_of refusal
returns-then-not-is_sound c = search (answers, flag-no, rules)

pub close_sound-requires : goal.close_sound-requires
close_sound-requires c =
    sound-book _ (λ j. omega (arith, c.type_inv.book j)) (said-yes _ _ c.is_sound.ensures c.if-not-is_sound.false)

pub returns : goal.returns
unfolding close_of refusal close_sound
returns c = search (answers, flag-yes, rules)
