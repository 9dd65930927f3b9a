-- By where the skip ends.
use Rattle.typing.proofs.TableLaws.{after_to, after_out}
use native.Mathlib.Omega.{arith}
use Rattle.typing.proofs.table.after_any.Goals as goal

pub returns-in-Ok : goal.returns-in-Ok
returns-in-Ok c = record { is = search after_to; each = λ i. omega (arith, c.type_inv.doc i) }

pub returns-in-Err : goal.returns-in-Err
returns-in-Err c = record { is = search after_out; each = λ i. omega (arith, c.type_inv.doc i) }
