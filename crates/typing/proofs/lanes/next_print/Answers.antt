-- The product of two numbers of 32 bits has 64, and its halves have 32 each.
use Prim.Native.Nat.{◌+◌, ◌*◌, ◌%◌, ◌<◌}
use native.Mathlib.Omega.{arith}
use borrow.Author.Rules.{rules}
use mathlib.Core.Path.{refl}
use Rattle.typing.specs.Lanes.{next_print}
use Rattle.typing.proofs.LaneLaws.{product_fits}
use Rattle.typing.proofs.lanes.next_print.Goals as goal

pub overflow_mul-n : goal.overflow_mul-n
overflow_mul-n c = record { fits = product_fits (search rules) (search rules) }

pub overflow_add-result : goal.overflow_add-result
overflow_add-result c = let z : (c.args.h + c.args.w) % 4294967296 * c.args.f < 18446744073709551616 = product_fits (search rules) (search rules) in omega arith

pub returns : goal.returns
unfolding next_print
returns c = refl
