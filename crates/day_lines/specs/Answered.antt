-- What the answer of a line says of its words, its call and the book. Assumes nothing.
use Rattle.std.specs.Prelude.{◌≡◌, ◌∷◌, ◌-◌, [], ℕ, List, Result, Ok, Err, slice_index, ⊤}
use Rattle.std.specs.Str.Parse.{digits_value}
use Rattle.rule.specs.Calls.{Reply, accepted, refused}
use Rattle.rule.specs.Layout.{trade_of, notice_of}
use Rattle.reply.specs.Answers.{number_of}
use Rattle.words.specs.Lines.{IsNumber}
use Rattle.day_words.specs.Named.{AreEntries, IsLetter}
use Rattle.opening_data.specs.Gathered.{opening_of}
use Rattle.opening_data.specs.declared.OpeningData.{OpeningData}
use Rattle.day_lines.specs.declared.calls.TradeCall.{TradeCall}
use Rattle.day_lines.specs.declared.failure.Failure.{Failure}
use Rattle.day_lines.specs.declared.failure.Failure.TheVariants.{Unread, Refused, Unwritten}

-- "A line that cannot be read .. changes nothing"; another makes its call, whose reply is told, or is lost where it cannot be written
abbrev pub Answers : Result Unit Failure → (Reply → Type 0) → List ℕ → List ℕ → Type 0
Answers (Ok _) Calls old new = Calls accepted
Answers (Err (Unread _)) Calls old new = new ≡ old
Answers (Err (Refused why)) Calls old new = Calls (refused (number_of why))
Answers (Err Unwritten) Calls old new = Calls accepted

-- what is said of a run, whose reply has two counts
abbrev pub UnreadKeeps : Result Unit Failure → List ℕ → List ℕ → Type 0
UnreadKeeps (Ok _) old new = ⊤
UnreadKeeps (Err (Unread _)) old new = new ≡ old
UnreadKeeps (Err (Refused _)) old new = ⊤
UnreadKeeps (Err Unwritten) old new = ⊤

-- "trade SELLER BUYER BASKET YEN"
pub record TradeLine (words : List (List ℕ)) (trade : TradeCall) : Type 0 where
  pub seller : List ℕ
  pub buyer : List ℕ
  pub basket : List ℕ
  pub yen : List ℕ
  pub parts : words ≡ seller ∷ buyer ∷ basket ∷ yen ∷ []
  pub numbers : IsNumber seller × IsNumber buyer × IsLetter basket × IsNumber yen
  pub is : trade ≡ record { seller = digits_value 10 seller; buyer = digits_value 10 buyer; basket = slice_index basket 0 - 65; yen = record { 0 = digits_value 10 yen } }

-- the call that such a line makes
pub record Trades (words : List (List ℕ)) (old new : List ℕ) (reply : Reply) : Type 0 where
  pub trade : TradeCall
  pub read : TradeLine words trade
  pub called : (reply, new) ≡ trade_of old trade.seller trade.buyer trade.basket trade.yen.0

-- "open": no words
pub record Opens (gathered : OpeningData) (words : List (List ℕ)) (old new : List ℕ) (reply : Reply) : Type 0 where
  pub parts : words ≡ []
  pub called : (reply, new) ≡ opening_of gathered old

-- "notice PARTICIPANT ISSUE=LOTS ..", whose issues are named among some codes
pub record Notices (words : List (List ℕ)) (old new : List ℕ) (reply : Reply) : Type 0 where
  pub participant : List ℕ
  pub entries : List (List ℕ)
  pub parts : words ≡ participant ∷ entries
  pub read : IsNumber participant
  pub codes : List (List ℕ)
  pub issues : List ℕ
  pub lots : List ℕ
  pub named : AreEntries codes entries issues lots
  pub called : (reply, new) ≡ notice_of old (digits_value 10 participant) issues lots
