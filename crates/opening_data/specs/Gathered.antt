-- What a line that is read gathers. Assumes nothing.
use Rattle.std.specs.Prelude.{◌≡◌, ◌+◌, ◌*◌, ◌<◌, ℕ, List, [], ◌∷◌, ◌-◌, length, min, replicate, slice_index, slice_range, slice_set}
use Rattle.std.specs.Str.Parse.{digits_value}
use Rattle.rule.specs.Day.{baskets, code_size, term_size}
use Rattle.rule.specs.Calls.{Reply}
use Rattle.rule.specs.Layout.{open_of, most_issues, lots_size, square}
use Rattle.words.specs.Lines.{IsNumber, TakesNumbers}
use Rattle.day_words.specs.Named.{IsLetter, Names, codes_in}
use Rattle.opening_data.specs.declared.OpeningData.{OpeningData}

-- nothing is gathered yet
abbrev pub empty : ℕ → ℕ → OpeningData
empty n m = record {
  participants = n;
  issues = m;
  listed = 0;
  codes = replicate (code_size * most_issues) 0;
  terms = replicate (term_size * most_issues) 0;
  receipts = replicate lots_size 0;
  pairs = replicate (square * baskets) 0;
}

-- the codes of the issues that are listed
abbrev pub listed_codes : OpeningData → List (List ℕ)
listed_codes gathered = codes_in (slice_range gathered.codes 0 (code_size * min gathered.listed most_issues))

-- the opening call on what is gathered. Sizes for which there is no room are refused, whatever is lent with them
abbrev pub opening_of : OpeningData → List ℕ → Reply × List ℕ
opening_of gathered book =
    let n = min gathered.participants 12 in
    let m = min gathered.issues 32 in
    let listed = min gathered.listed 32 in
    open_of gathered.participants gathered.issues
    (slice_range gathered.codes 0 (code_size * listed)) (slice_range gathered.terms 0 (term_size * listed))
    (slice_range gathered.receipts 0 (n * m)) (slice_range gathered.pairs 0 (baskets * n * n)) book

-- "day PARTICIPANTS ISSUES"
pub record DayLine (words : List (List ℕ)) (old new : OpeningData) : Type 0 where
  pub participants : List ℕ
  pub issues : List ℕ
  pub parts : words ≡ participants ∷ issues ∷ []
  pub numbers : IsNumber participants × IsNumber issues
  pub gathered : new ≡ empty (digits_value 10 participants) (digits_value 10 issues)

-- one more issue is listed, behind those that are
pub record Added (code terms : List ℕ) (old new : OpeningData) : Type 0 where
  pub room : old.listed < most_issues
  pub gathered : new ≡ record old { listed = old.listed + 1; codes = new.codes; terms = new.terms }
  pub earlier_codes : slice_range new.codes 0 (code_size * old.listed) ≡ slice_range old.codes 0 (code_size * old.listed)
  pub earlier_terms : slice_range new.terms 0 (term_size * old.listed) ≡ slice_range old.terms 0 (term_size * old.listed)
  pub code_kept : slice_range new.codes (code_size * old.listed) (code_size * old.listed + code_size) ≡ code
  pub terms_kept : slice_range new.terms (term_size * old.listed) (term_size * old.listed + term_size) ≡ terms

-- "issue CODE KIND PRICE COUPON DAYS REDEEMED INTEREST"
pub record IssueLine (words : List (List ℕ)) (old new : OpeningData) : Type 0 where
  pub code : List ℕ
  pub terms : List ℕ
  pub rest : List (List ℕ)
  pub parts : words ≡ code ∷ rest
  pub read : TakesNumbers terms rest []
  pub lengths : (length code ≡ 12) × (length terms ≡ 6)
  pub added : Added code terms old new

-- "receipt PARTICIPANT ISSUE LOTS": the lots stand by participant, then issue
pub record ReceiptLine (words : List (List ℕ)) (old new : OpeningData) : Type 0 where
  pub participant : List ℕ
  pub issue : List ℕ
  pub lots : List ℕ
  pub parts : words ≡ participant ∷ issue ∷ lots ∷ []
  pub numbers : IsNumber participant × IsNumber lots
  pub m : ℕ
  pub named : Names (listed_codes old) issue m
  pub of_day : (digits_value 10 participant < old.participants) × (m < old.issues)
  pub gathered : new ≡ record old { receipts = slice_set old.receipts (digits_value 10 participant * old.issues + m) (digits_value 10 lots) }

-- "pair BASKET DELIVERER RECEIVER": the mark stands by basket, deliverer, receiver
pub record PairLine (words : List (List ℕ)) (old new : OpeningData) : Type 0 where
  pub basket : List ℕ
  pub deliverer : List ℕ
  pub receiver : List ℕ
  pub parts : words ≡ basket ∷ deliverer ∷ receiver ∷ []
  pub numbers : IsLetter basket × IsNumber deliverer × IsNumber receiver
  pub of_day : (digits_value 10 deliverer < old.participants) × (digits_value 10 receiver < old.participants)
  pub gathered : new ≡ record old { pairs = slice_set old.pairs (((slice_index basket 0 - 65) * old.participants + digits_value 10 deliverer) * old.participants + digits_value 10 receiver) 1 }
