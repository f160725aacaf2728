-- `scratch::reduce_field` meets its contract: the region is reduced, then its variables are gathered. No loop. Assumes nothing.
use Rattle.scratch.proofs.Reducing.{region_room, reduced_room, reduced_field}
use Rattle.scratch.proofs.reduce_field.Goals as goal

pub reduce-left-requires : goal.reduce-left-requires
reduce-left-requires c =
    region_room c.args.base c.args.n c.args.scratch.now c.requires.1 c.requires.0.1

pub variables-requires : goal.variables-requires
variables-requires c =
    let a = c.args in
    reduced_room a.ring.k a.base a.n c.reduce-left.result a.scratch.now c.reduce-left.new.s a.ring.in_range.1 c.requires.1 c.reduce-left.ensures c.requires.0.1

pub returns : goal.returns
returns c =
    let a = c.args in
    λ w h. reduced_field a.ring.k a.base a.n c.reduce-left.result a.scratch.now c.reduce-left.new.s a.ring.in_range.1 c.requires.1 c.reduce-left.ensures h c.variables.result c.variables.ensures
