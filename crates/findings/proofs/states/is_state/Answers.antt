-- By whether there is a list.
use Rattle.findings.proofs.StateLaws.{state_at, state_none}
use native.Mathlib.Omega.{arith}
use Rattle.findings.proofs.states.is_state.Goals as goal

pub returns-in-Some : goal.returns-in-Some
returns-in-Some c = state_at _ _ (λ i. omega (arith, c.type_inv.doc i)) c.in-Some.is c.text_at.ensures c.has_name.ensures

pub returns-in-None : goal.returns-in-None
returns-in-None c = search state_none
