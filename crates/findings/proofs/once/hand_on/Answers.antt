use native.Mathlib.Omega.{arith}
use Rattle.findings.proofs.OnceLaws.{handed_start, handed_hit, handed_miss, handed_all}
use Rattle.findings.proofs.once.hand_on.Goals as goal
use Rattle.findings.proofs.once.hand_on.Goals.{then-is_marked, else-is_marked}

pub loop-k-init : goal.loop-k-init
loop-k-init c = search handed_start

pub returns-then-marks-k : goal.returns-then-marks-k
returns-then-marks-k c = handed_all _ _ _ _ _ _ c.loop-k.invariant (omega arith) (λ h. omega arith)

pub loop-k-preserved : goal.loop-k-preserved
loop-k-preserved c =
    let e = c.is_marked.ensures in
    let g = c.loop-k.invariant in
    elim c.if-is_marked.branch [
      | then-is_marked w ↦ rw w.marks-is (handed_hit _ _ _ _ _ _ g e (omega arith) w.if-is_marked.true)
      | else-is_marked w ↦ rw w.marks-is (handed_miss _ _ _ _ _ _ g e w.if-is_marked.false)
    ]

pub returns : goal.returns
returns c = handed_all _ _ _ _ _ _ c.loop-k.invariant (omega arith) (λ h. omega arith)
