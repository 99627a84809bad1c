-- What the words of a day file name. Assumes nothing.
use Rattle.rule.specs.Layout.{codes_at, terms_at}
use Rattle.std.specs.Prelude.{◌≡◌, ◌≢◌, ◌<◌, ◌/◌, ◌⊎◌, ◌++◌, ◌∷◌, ◌%◌, ℕ, List, [], length, map, slice_range, slice_index, slice_index_or, Option, Some, None}
use Rattle.std.specs.Int.{IsInRange}
use Rattle.std.specs.Simd.{first_chunks}
use Rattle.std.specs.Str.Parse.{digits_value}
use Rattle.words.specs.Lines.{IsNumber}

-- "A basket is a letter": a capital
abbrev pub IsLetter : List ℕ → Type 0
IsLetter word = (length word ≡ 1) × IsInRange 65 90 (slice_index word 0)

-- "a word of 12 that begins with a capital"
abbrev pub MayBeCode : List ℕ → Type 0
MayBeCode word = (length word ≡ 12) × IsInRange 65 90 (slice_index word 0)

-- the codes that stand in bytes, one after the other
abbrev pub codes_in : List ℕ → List (List ℕ)
codes_in bytes = first_chunks 12 (length bytes / 12) bytes

-- the codes of a book, which has a byte to a cell, in the cells 4 to 387
abbrev pub codes_of_book : List ℕ → List (List ℕ)
codes_of_book book = codes_in (map (λ cell. cell % 256) (slice_range book codes_at terms_at))

-- the first place at which a word stands among codes, if it does
abbrev pub IsFirstPlace : List (List ℕ) → List ℕ → Option ℕ → Type 0
IsFirstPlace codes word None = (k : ℕ) → k < length codes → slice_index_or codes k [] ≢ word
IsFirstPlace codes word (Some i) = (i < length codes) × (slice_index_or codes i [] ≡ word) × ((k : ℕ) → k < i → slice_index_or codes k [] ≢ word)

-- a code names the issue at its place, and 32, which no issue is, where it is not among the day's
abbrev pub NamedByCode : List (List ℕ) → List ℕ → ℕ → Type 0
NamedByCode codes word n = IsFirstPlace codes word (Some n) ⊎ (IsFirstPlace codes word None × (n ≡ 32))

-- "An issue is its number or its code"
abbrev pub Names : List (List ℕ) → List ℕ → ℕ → Type 0
Names codes word n = (MayBeCode word × NamedByCode codes word n) ⊎ (IsNumber word × (n ≡ digits_value 10 word))

-- "ISSUE=LOTS"
pub record IsEntry (codes : List (List ℕ)) (word : List ℕ) (issue lots : ℕ) : Type 0 where
  pub before : List ℕ
  pub after : List ℕ
  pub parts : word ≡ before ++ (61 ∷ after)
  pub named : Names codes before issue
  pub number : IsNumber after × (lots ≡ digits_value 10 after)

-- "ISSUE=LOTS ..": each word's issue and lots
pub record AreEntries (codes words : List (List ℕ)) (issues lots : List ℕ) : Type 0 where
  pub issues_len : length issues ≡ length words
  pub lots_len : length lots ≡ length words
  pub each : (k : ℕ) → k < length words → IsEntry codes (slice_index_or words k []) (slice_index issues k) (slice_index lots k)
