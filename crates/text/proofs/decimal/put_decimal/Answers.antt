-- One digit, two, or more.
use native.Mathlib.Omega.{arith}
use Rattle.text.proofs.PutLaws.{put_is}
use Rattle.text.proofs.DecimalLaws.{decimal_one}
use Rattle.text.proofs.decimal.put_decimal.Goals as goal

pub returns-then-n-lt10 : goal.returns-then-n-lt10
returns-then-n-lt10 c = record { put = put_is (decimal_one _ c.if-n-lt10.true c.digit.ensures) c.put_byte.ensures.put; upper_bound = omega (arith, c.put_byte.ensures.upper_bound) }
