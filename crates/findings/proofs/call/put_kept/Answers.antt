-- Too short, or copied.
use native.Mathlib.Omega.{arith}
use Rattle.findings.proofs.ReplyLaws.{kept_short, kept_written}
use Rattle.findings.proofs.call.put_kept.Goals as goal

pub returns-then-out-errors : goal.returns-then-out-errors
returns-then-out-errors c = search kept_short

pub returns : goal.returns
returns c = kept_written _ _ _ c.copy_words.ensures c.copy_words-2.ensures (omega arith) (omega arith) (omega arith) (omega arith)
