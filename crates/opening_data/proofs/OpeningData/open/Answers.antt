-- There is room for the rows of as many participants and issues as there are at most.
use Rattle.std.proofs.Common.{ℕ, ◌*◌, ◌≤◌, arith}
use Rattle.std.proofs.Math.Nat.{mul-le-mul_left}
use Rattle.opening_data.proofs.OpeningData.open.Goals as goal

product_fits : (n m a b : ℕ) → n ≤ a → m ≤ b → n * m ≤ a * b
product_fits n m a b below_a below_b = omega (arith, mul-le-mul_left n below_b, mul-le-mul_left b below_a)

pub shared_ref_as_front-receipts : goal.shared_ref_as_front-receipts
shared_ref_as_front-receipts c = omega (arith, product_fits c.min-n.result c.min-m.result 12 32 (omega (arith, c.min-n.ensures)) (omega (arith, c.min-m.ensures)))

pub shared_ref_as_front-pairs : goal.shared_ref_as_front-pairs
shared_ref_as_front-pairs c = omega (arith, product_fits c.min-n.result c.min-n.result 12 12 (omega (arith, c.min-n.ensures)) (omega (arith, c.min-n.ensures)))
