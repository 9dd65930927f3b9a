-- By cases.
use Rattle.text.specs.Shown.{what_text}
use borrow.Author.Rules.{rules}
use Rattle.text.proofs.shown.put_what.Goals as goal

pub returns-in-Operand : goal.returns-in-Operand
unfolding what_text
returns-in-Operand c = record { put = rw c.in-Operand.is c.put_bytes.ensures; upper_bound = search rules }

pub returns-in-Left : goal.returns-in-Left
unfolding what_text
returns-in-Left c = record { put = rw c.in-Left.is c.put_bytes-in-Left.ensures; upper_bound = search rules }

pub returns-in-Right : goal.returns-in-Right
unfolding what_text
returns-in-Right c = record { put = rw c.in-Right.is c.put_bytes-in-Right.ensures; upper_bound = search rules }

pub returns-in-Formula : goal.returns-in-Formula
unfolding what_text
returns-in-Formula c = record { put = rw c.in-Formula.is c.put_bytes-in-Formula.ensures; upper_bound = search rules }

pub returns-in-Guard : goal.returns-in-Guard
unfolding what_text
returns-in-Guard c = record { put = rw c.in-Guard.is c.put_bytes-in-Guard.ensures; upper_bound = search rules }
