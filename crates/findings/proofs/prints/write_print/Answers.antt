-- Word by word.
use native.Mathlib.Numerals.{towards_suc}
use Rattle.findings.proofs.prints.write_print.Goals as goal

pub returns : goal.returns
returns c = simp towards_suc
