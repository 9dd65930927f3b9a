use mathlib.Core.Path.{refl}
use native.Mathlib.Omega.{arith}
use Rattle.text.proofs.EntryLaws.{passed_turn, picked_refused, picked_past, picked_here}
use Rattle.text.proofs.entry.entry_of.Goals as goal

pub returns-in_default : goal.returns-in_default
returns-in_default c = record { of = λ kept. record { is = search picked_refused; each = λ i. omega (arith, c.type_inv.doc i) } }

pub returns-then-many-k : goal.returns-then-many-k
returns-then-many-k c = record { of = λ kept. record { is = search picked_past; each = λ i. omega (arith, c.type_inv.doc i) } }

pub loop-i-init : goal.loop-i-init
loop-i-init c = refl

pub loop-i-preserved : goal.loop-i-preserved
loop-i-preserved c = search passed_turn

pub returns : goal.returns
returns c = record { of = λ kept. record { is = search picked_here; each = λ i. omega (arith, c.type_inv.doc i) } }
