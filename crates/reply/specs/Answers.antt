-- The paper's number, and its values, for each case of the code's answers. The contracts are stated through these. Assumes nothing.
use Rattle.std.specs.Prelude.{ℕ, Result, Ok, Err}
use Rattle.rule.specs.Calls.{Reply, accepted, counts, refused}
use Rattle.reply.specs.declared.Refusal.{Refusal}
use Rattle.reply.specs.declared.Counts.{Counts}
use Rattle.reply.specs.declared.Refusal.TheVariants.{WrongSize, WrongCode, WrongTerm, WrongReceiptOrPair, UnsoundBook, ThreeRunsDone, NotOfDay, WrongAmount, NoUnmarkedIssue, PositionTooLarge, TooManyTrades, WrongEntry, TooManyLots, WrongDraw, ShortList, FewerThanThreeRuns}

abbrev pub number_of : Refusal → ℕ
number_of WrongSize = 1
number_of WrongCode = 2
number_of WrongTerm = 3
number_of WrongReceiptOrPair = 4
number_of UnsoundBook = 5
number_of ThreeRunsDone = 6
number_of NotOfDay = 7
number_of WrongAmount = 8
number_of NoUnmarkedIssue = 9
number_of PositionTooLarge = 10
number_of TooManyTrades = 11
number_of WrongEntry = 12
number_of TooManyLots = 13
number_of WrongDraw = 14
number_of ShortList = 15
number_of FewerThanThreeRuns = 16

abbrev pub told : Result Unit Refusal → Reply
told (Ok _) = accepted
told (Err why) = refused (number_of why)

abbrev pub told_run : Result Counts Refusal → Reply
told_run (Ok c) = counts c.matches c.lines
told_run (Err why) = refused (number_of why)
