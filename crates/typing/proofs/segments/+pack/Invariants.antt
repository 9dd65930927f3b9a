-- No name, or the marks of the others after the first's.
use Rattle.typing.proofs.segments.+pack.Given as goal

abbrev pub decreases-pack : goal.decreases-pack
decreases-pack l = l.many
