-- By the operator, and what its types are.
use Prim.Native.Nat.{◌<◌, ◌≤◌}
use native.Mathlib.Omega.{arith}
use Rattle.typing.proofs.QuickLaws.{makes_logic, makes_bool, makes_bits}
use Rattle.typing.proofs.quick.quick_type.Goals as goal

pub returns-in-0-to-2 : goal.returns-in-0-to-2
returns-in-0-to-2 c = search makes_bits

pub returns-in-5-to-10 : goal.returns-in-5-to-10
returns-in-5-to-10 c = let l : 4 < c.args.op = omega arith in let h : c.args.op ≤ 10 = omega arith in search makes_bool

pub returns-in-14-to-18446744073709551615 : goal.returns-in-14-to-18446744073709551615
returns-in-14-to-18446744073709551615 c = search makes_logic
