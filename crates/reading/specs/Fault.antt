-- The table of refusals of document 01: the number of each.
use Rattle.std.specs.Prelude.{ℕ}
use Rattle.reading.specs.declared.fault.Fault.{Fault}
use Rattle.reading.specs.declared.fault.Fault.TheVariants.{TooLong, Truncated, NonCanonical, Unexpected, OutOfRange, OutsideAlphabet, TooDeep, Trailing, UnknownVersion}

unfoldable pub number : Fault → ℕ
number TooLong = 1
number Truncated = 2
number NonCanonical = 3
number Unexpected = 4
number OutOfRange = 5
number OutsideAlphabet = 6
number TooDeep = 7
number Trailing = 8
number UnknownVersion = 9
