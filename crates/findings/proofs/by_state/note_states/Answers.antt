use native.Mathlib.Omega.{arith}
use Rattle.findings.proofs.StateTurns.{turns_start, turns_more, turns_out, turns_done}
use Rattle.findings.proofs.by_state.note_states.Goals as goal

pub loop-turn-init : goal.loop-turn-init
loop-turn-init c = (search turns_start, omega arith)

pub returns-in_default-clause-notes_pairs : goal.returns-in_default-clause-notes_pairs
returns-in_default-clause-notes_pairs c = let e = c.in_default.ensures in turns_out _ _ _ _ _ _ _ _ _ c.loop-turn.invariant.0 e.next_state (omega arith)

pub loop-turn-preserved : goal.loop-turn-preserved
loop-turn-preserved c = (let e = c.in-Some.ensures in search (turns_more, e.next_state, e.in_range), omega arith)

pub returns-clause-notes_pairs : goal.returns-clause-notes_pairs
returns-clause-notes_pairs c = search turns_done
