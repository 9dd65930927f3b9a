-- By whether out reaches so far.
use mathlib.Core.Path.{sym, ◌∙◌}
use native.Mathlib.Omega.{arith}
use Rattle.text.proofs.PutLaws.{sets_out, sets_part}
use Rattle.text.proofs.out.put_some.Goals as goal

pub returns-then-at-out : goal.returns-then-at-out
returns-then-at-out c = c.put_whole.ensures ∙ sets_part _ _ _ (omega arith) c.requires

pub returns-else-at-out : goal.returns-else-at-out
returns-else-at-out c = sym (sets_out _ c.args.part.now _ c.if-at-out.false)
