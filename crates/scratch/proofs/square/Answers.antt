-- `scratch::square` meets its contract: the products stand before the stated region. No loop. Assumes nothing.
use Rattle.scratch.proofs.Squares.{squared}
use Rattle.scratch.proofs.square.Goals as goal

pub returns : goal.returns
returns c =
    let split = c.split_at_mut-front.ensures in
    squared c.args.n c.requires.0 split.value split.front_len split.back c.append_products.ensures
