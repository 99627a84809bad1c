-- What the words of a line are read as, one after the other. Assumes nothing.
use Rattle.std.specs.Prelude.{◌≡◌, ℕ, ◌^◌, ◌<◌, List, ◌∷◌, ◌++◌, map, ⊤}
use Rattle.std.specs.List.{All}
use Rattle.std.specs.Str.Parse.{IsNumeral, digits_value}
use Rattle.words.specs.declared.line.Line.{Line}
use Rattle.words.specs.declared.unread.Unread.{Unread}
use Rattle.words.specs.declared.unread.Unread.TheVariants.{Expected}
use Rattle.words.specs.declared.unread.Found.TheVariants.{TooLarge}

-- the words that are not read yet
abbrev pub words_left : Line → List (List ℕ)
words_left line = map (λ word. word.now) line.words.now

-- "Numbers are decimal, up to 2^64 - 1": digits alone
abbrev pub IsNumber : List ℕ → Type 0
IsNumber word = IsNumeral 10 word × (digits_value 10 word < 2 ^ 64)

-- the first of the words is as P says, and the others are left
pub record Takes (P : List ℕ → Type 0) (words left : List (List ℕ)) : Type 0 where
  pub word : List ℕ
  pub parts : words ≡ word ∷ left
  pub right : P word

-- the first of the words are these numbers, and the others are left
pub record TakesNumbers (numbers : List ℕ) (words left : List (List ℕ)) : Type 0 where
  pub named : List (List ℕ)
  pub parts : words ≡ named ++ left
  pub right : All IsNumber named
  pub values : numbers ≡ map (digits_value 10) named

-- there is no first word, or it is not as P says
abbrev pub LacksFirst : (List ℕ → Type 0) → List (List ℕ) → Type 0
LacksFirst P words = (word : List ℕ) (left : List (List ℕ)) → words ≡ word ∷ left → ¬ P word

-- a number is said to be too large
abbrev pub SaysTooLarge : Unread → Type 0
SaysTooLarge (Expected _ (TooLarge _)) = ⊤
SaysTooLarge _ = ⊥
