-- What is still to be noted decides, output by output.
use Prim.Native.Nat.{◌+◌, ◌≤◌}
use Rattle.findings.proofs.OnErrorLaws.{ErrorEmits}
use Rattle.findings.proofs.on_error.note_error_emits.Given as goal

abbrev pub invariant-loop-i : goal.invariant-loop-i
invariant-loop-i l = ErrorEmits l.doc l.outputs l.names l.enums l.at l.owner l.initial.out l.skip l.n l.count l.k l.i l.r l.out × (l.count ≤ 255) × (l.r ≤ l.n + l.i)
