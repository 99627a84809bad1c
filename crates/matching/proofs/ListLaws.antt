-- Laws of lists that are not of matching. Assumes nothing.
use mathlib.Core.Path.{◌≡◌, refl, sym, ap, ◌∙◌}
use mathlib.Core.Bool.{Bool, true, false}
use mathlib.Core.List.{List, [], ◌∷◌, map}
use Prim.Native.Nat.{ℕ, suc, ◌+◌, ◌-◌, ◌≤◌, ◌<◌}
use native.Mathlib.Numerals.{add-one}
use native.Mathlib.Omega.{arith}
use lib.ListN.{length, get_or, take, drop}
use lib.Seq.{ext_get_or, get_or-take, get_or-drop}
use lib.Dec.{ltb}
use Rattle.lists.specs.Tests.{pick}
use Rattle.lists.specs.Tables.{from}
use Rattle.lists.specs.Parts.{block}
use Rattle.lists.specs.Folds.{foldl, Every}
use Rattle.lists.specs.Order.{insert, sorted}
use Rattle.lists.proofs.PartLaws.{block-get, length-block}
use Rattle.rule.specs.Matching.{with}

-- the numbers from i to n - 1
pub from_first : (i n : ℕ) → i < n → from i (n - i) ≡ i ∷ from (i + 1) (n - (i + 1))
from_first i n h =
    let e : n - i ≡ suc (n - (i + 1)) = omega arith in
    rw (e, add-one i)

-- the pairs of one deliverer are all its own
pub with_all : (d : ℕ) (rs : List ℕ) → Every (λ c. c.0 ≡ d) (with rs d)
with_all d [] = tt
with_all d (r ∷ rs) = (refl, with_all d rs)

-- what is sorted by a key of the image is sorted in the image
module _ {A B : Type 0} (f : A → B) (key : B → ℕ) where
  map-insert : (ys : List A) (x : A) → map f (insert (λ a. key (f a)) ys x) ≡ insert key (map f ys) (f x)
  map-insert [] x = refl
  map-insert (y ∷ ys) x = go (ltb (key (f y)) (key (f x))) (map-insert ys x)
    where
      go : (b : Bool) → map f (insert (λ a. key (f a)) ys x) ≡ insert key (map f ys) (f x)
          → map f (pick b (x ∷ y ∷ ys) (y ∷ insert (λ a. key (f a)) ys x)) ≡ pick b (f x ∷ f y ∷ map f ys) (f y ∷ insert key (map f ys) (f x))
      go true e = refl
      go false e = ap (λ (l : List B). f y ∷ l) e

  map-inserts : (xs acc : List A) → map f (foldl (insert (λ a. key (f a))) acc xs) ≡ foldl (insert key) (map f acc) (map f xs)
  map-inserts [] acc = refl
  map-inserts (x ∷ xs) acc = map-inserts xs (insert (λ a. key (f a)) acc x) ∙ ap (λ (l : List B). foldl (insert key) l (map f xs)) (map-insert acc x)

  pub map-sorted : (xs : List A) → map f (sorted (λ a. key (f a)) xs) ≡ sorted key (map f xs)
  map-sorted xs = map-inserts xs []

-- a cell of a part
pub part-at : (l : List ℕ) (at n i : ℕ) → i < n → get_or (take n (drop at l)) i 0 ≡ get_or l (at + i) 0
part-at l at n i h = get_or-take n (drop at l) i 0 h ∙ get_or-drop at l i 0

-- n cells of a block are n cells of the whole
pub block-block : (b : List ℕ) (at m f n : ℕ) → f + n ≤ m → at + m ≤ length b → block (block b at m) f n ≡ block b (at + f) n
block-block b at m f n h k =
    let size : length (block b at m) ≡ m = length-block b at m k in
    let inner : length (block (block b at m) f n) ≡ n = length-block (block b at m) f n (omega arith) in
    ext_get_or 0 (block (block b at m) f n) (block b (at + f) n) (inner ∙ sym (length-block b (at + f) n (omega arith))) (λ i l.
    let e : at + (f + i) ≡ at + f + i = omega arith in
    block-get (block b at m) f n i (omega arith) ∙ block-get b at m (f + i) (omega arith) ∙ ap (λ (j : ℕ). get_or b j 0) e
    ∙ sym (block-get b (at + f) n i (omega arith)))
