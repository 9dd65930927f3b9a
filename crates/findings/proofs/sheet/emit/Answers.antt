-- Before number skip, without room, or written.
use native.Mathlib.Omega.{arith}
use Rattle.findings.proofs.NoteLaws.{note_before, note_full, note_one}
use Rattle.findings.proofs.sheet.emit.Goals as goal
use Rattle.findings.proofs.sheet.emit.Goals.{then-skip-n+then-n-skip, else-skip-n, else-skip-n-via-then-skip-n+else-n-skip, else-skip-n-via-else-skip-n}

pub returns : goal.returns
returns c = elim c.if-skip-n.branch [
  | then-skip-n+then-n-skip w ↦ rw w.out-is (note_one _ (omega arith) (omega arith) (omega arith) w.write_words.ensures)
  | else-skip-n w ↦ rw w.out-is (elim w.else-skip-n.branch [
    | else-skip-n-via-then-skip-n+else-n-skip w' ↦ note_full _ (omega arith)
    | else-skip-n-via-else-skip-n w' ↦ note_before _ w'.if-skip-n.false
  ])
]
