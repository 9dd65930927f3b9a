-- The bytes passed are all in the alphabet, so what remains decides.
use mathlib.Core.Path.{◌≡◌}
use lib.ListN.{drop}
use Rattle.reading.specs.Text.{all}
use Rattle.reading.proofs.text.all_of.Given as goal

abbrev pub invariant-loop-b : goal.invariant-loop-b
invariant-loop-b g l = all g.A.Alphabet.holds (drop l.b-index l.bytes) ≡ all g.A.Alphabet.holds l.bytes
