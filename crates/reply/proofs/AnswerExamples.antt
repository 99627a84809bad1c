-- Examples of what an answer of the code is in the paper. By computation. Assumes nothing.
use Rattle.std.specs.Prelude.{◌≡◌, [], ◌∷◌, map, Ok, Err}
use mathlib.Core.Path.{refl}
use Rattle.rule.specs.Calls.{accepted, counts, refused}
use Rattle.reply.specs.Answers.{number_of, told, told_run}
use Rattle.reply.specs.declared.Refusal.TheVariants.{WrongSize, WrongCode, WrongTerm, WrongReceiptOrPair, UnsoundBook, ThreeRunsDone, NotOfDay, WrongAmount, NoUnmarkedIssue, PositionTooLarge, TooManyTrades, WrongEntry, TooManyLots, WrongDraw, ShortList, FewerThanThreeRuns}

record Answered : Type 0 where
  -- the numbers of the check table
  numbers : map number_of
      (WrongSize ∷ WrongCode ∷ WrongTerm ∷ WrongReceiptOrPair ∷ UnsoundBook ∷ ThreeRunsDone ∷ NotOfDay ∷ WrongAmount
      ∷ NoUnmarkedIssue ∷ PositionTooLarge ∷ TooManyTrades ∷ WrongEntry ∷ TooManyLots ∷ WrongDraw ∷ ShortList ∷ FewerThanThreeRuns ∷ [])
      ≡ 1 ∷ 2 ∷ 3 ∷ 4 ∷ 5 ∷ 6 ∷ 7 ∷ 8 ∷ 9 ∷ 10 ∷ 11 ∷ 12 ∷ 13 ∷ 14 ∷ 15 ∷ 16 ∷ []
  -- "A refusal returns its number alone"
  told : told (Ok tt) ∷ told (Err NotOfDay) ∷ told_run (Err WrongDraw) ∷ [] ≡ accepted ∷ refused 7 ∷ refused 14 ∷ []
  -- "A run returns its counts", matches first
  counted : told_run (Ok (record { matches = 3; lines = 5 })) ≡ counts 3 5

answered : Answered
answered = record { numbers = refl; told = refl; counted = refl }
