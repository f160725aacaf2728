-- `names::is_name` meets its contract: bytes are compared as names are. No loop. Assumes nothing.
use Prim.Native.Nat.{◌+◌, ◌*◌}
use lib.ListN.{get_or}
use Rattle.names.specs.Names.{slot_bytes}
use Rattle.names.proofs.Comparing.{same_part}
use Rattle.names.proofs.is_name.Goals as goal

pub returns : goal.returns
returns c = let a = c.args in same_part a.room.now (a.i * slot_bytes + 1) (get_or a.room.now (a.i * slot_bytes) 0) a.s.now c.eq.ensures
