-- How many the items are and the key, then the items, and then their hints.
use native.Mathlib.Omega.{arith}
use lib.ListN.{length-set}
use Rattle.typing.proofs.RollLaws.{list_room, keyed_size, keyed_done}
use Rattle.typing.proofs.roll.put_roll.Goals as goal

pub put_items-requires-clause-many_in_bounds : goal.put_items-requires-clause-many_in_bounds
put_items-requires-clause-many_in_bounds c = simp length-set (omega arith)

pub put_hints-requires-clause-n_in_bounds : goal.put_hints-requires-clause-n_in_bounds
put_hints-requires-clause-n_in_bounds c = list_room c.put_items.ensures (simp length-set (omega arith))

pub shape_of-table : goal.shape_of-table
shape_of-table c = search keyed_size

pub returns : goal.returns
returns c = search keyed_done
