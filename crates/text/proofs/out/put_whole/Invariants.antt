-- The first i bytes of part stand in out, which keeps its length.
use mathlib.Core.Path.{◌≡◌}
use lib.ListN.{length, take}
use lib.Seq.{sets}
use Rattle.text.proofs.out.put_whole.Given as goal

abbrev pub invariant-loop-i : goal.invariant-loop-i
invariant-loop-i l = (l.out ≡ sets l.initial.out l.at (take l.i l.part)) × (length l.out ≡ length l.initial.out)
