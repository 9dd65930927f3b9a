-- One digit after the other.
use native.Mathlib.Omega.{arith}
use Rattle.text.proofs.PutLaws.{put_is, ◌then◌}
use Rattle.text.proofs.DecimalLaws.{decimal_two}
use Rattle.text.proofs.decimal.put_two_digits.Goals as goal

pub returns : goal.returns
returns c = record { put = put_is (decimal_two _ (omega arith) (omega arith) c.digit.ensures c.digit-2.ensures) (c.put_byte-k.ensures.put then c.put_byte.ensures.put); upper_bound = omega (arith, c.put_byte-k.ensures.upper_bound, c.put_byte.ensures.upper_bound) }
