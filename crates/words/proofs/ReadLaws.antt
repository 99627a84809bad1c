-- Words that are read one after the other.
use Rattle.std.specs.Prelude.{◌≡◌, ℕ, List, [], ◌∷◌}
use Rattle.std.specs.Str.Parse.{digits_value}
use Rattle.std.proofs.lemmas.List.Elements.{All-cons, All-nil}
use mathlib.Core.Path.{◌∙◌, ap, refl, sym}
use Rattle.words.specs.Lines.{IsNumber, Takes, TakesNumbers}

-- the words behind the first are as they are read on
pub read-on : {words left : List (List ℕ)} {word : List ℕ} {rest : List (List ℕ)} → words ≡ word ∷ left → left ≡ rest → words ≡ word ∷ rest
read-on {word = word} first on = first ∙ ap (λ (l : List (List ℕ)). word ∷ l) on

pub no-number : {words : List (List ℕ)} → TakesNumbers [] words words
no-number = record { named = []; parts = refl; right = All-nil IsNumber; values = refl }

pub number-first : {n : ℕ} {numbers : List ℕ} {words left rest : List (List ℕ)} →
    Takes (λ word. IsNumber word × (digits_value 10 word ≡ n)) words left → TakesNumbers numbers left rest → TakesNumbers (n ∷ numbers) words rest
number-first {numbers = numbers} first others = record {
  named = first.word ∷ others.named;
  parts = read-on first.parts others.parts;
  right = All-cons IsNumber first.word others.named first.right.0 others.right;
  values = ap (λ (m : ℕ). m ∷ numbers) (sym first.right.1) ∙ ap (λ (l : List ℕ). digits_value 10 first.word ∷ l) others.values;
}
