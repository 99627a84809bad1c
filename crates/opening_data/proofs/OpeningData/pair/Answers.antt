-- Basket, deliverer and receiver are read, and the line ends.
use Rattle.opening_data.proofs.OpeningData.pair.Goals as goal
use Rattle.opening_data.proofs.GatheredLaws.{pair-placed}
use Rattle.words.proofs.ReadLaws.{read-on}
use Rattle.std.proofs.Common.{arith}
use mathlib.Core.Path.{refl}

pub returns-clause-read : goal.returns-clause-read
returns-clause-read c =
    let basket = c.in_ok-basket.ensures.read in
    let deliverer = c.in_ok-deliverer.ensures.read in
    let receiver = c.in_ok-receiver.ensures.read in
    record {
      basket = basket.word;
      deliverer = deliverer.word;
      receiver = receiver.word;
      parts = read-on basket.parts (read-on deliverer.parts (read-on receiver.parts (c.in_ok-end.ensures.0 refl)));
      numbers = (basket.right.0, deliverer.right.0, receiver.right.0);
      of_day = (omega (arith, deliverer.right.1, c.in_ok-deliverer.ensures.below), omega (arith, receiver.right.1, c.in_ok-receiver.ensures.below));
      gathered = pair-placed c.args.self.now c.pair_place-place.result c.pair_place-place.ensures.place basket.right.1 deliverer.right.1 receiver.right.1;
    }
