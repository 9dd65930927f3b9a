-- The variables passed are marked where their names are.
use Rattle.findings.specs.Touch.{HandedOn}
use Rattle.findings.proofs.once.hand_on.Given as goal

abbrev pub invariant-loop-k : goal.invariant-loop-k
invariant-loop-k l = HandedOn l.doc l.names l.k l.once l.m l.own l.initial.marks l.marks
