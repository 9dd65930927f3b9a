-- The walk marks what chains take, and the other variants are noted.
use mathlib.Core.Path.{refl}
use native.Mathlib.Omega.{arith}
use Rattle.findings.proofs.ReachLaws.{queued_none}
use Rattle.findings.proofs.UnledLaws.{no_initial, unreachable_noted}
use Rattle.findings.proofs.reach.note_unreachable.Goals as goal

pub returns-then-null_at-clause-notes_unreachable : goal.returns-then-null_at-clause-notes_unreachable
returns-then-null_at-clause-notes_unreachable c = search no_initial

pub walk-requires : goal.walk-requires
walk-requires c = queued_none _ _ _ refl refl (omega arith)

pub returns-clause-notes_unreachable : goal.returns-clause-notes_unreachable
returns-clause-notes_unreachable c = search unreachable_noted
