-- Word by word.
use native.Mathlib.Omega.{arith}
use native.Mathlib.Numerals.{towards_suc}
use lib.ListN.{length-set}
use Rattle.findings.proofs.sheet.write_words.Goals as goal

pub bounds-out-w-2 : goal.bounds-out-w-2
bounds-out-w-2 c = simp length-set (omega arith)

pub bounds-out-w-3 : goal.bounds-out-w-3
bounds-out-w-3 c = simp length-set (omega arith)

pub bounds-out-w-4 : goal.bounds-out-w-4
bounds-out-w-4 c = simp length-set (omega arith)

pub bounds-out-w-5 : goal.bounds-out-w-5
bounds-out-w-5 c = simp length-set (omega arith)

pub returns : goal.returns
returns c = simp towards_suc
