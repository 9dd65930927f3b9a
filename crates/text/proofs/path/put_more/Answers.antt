use native.Mathlib.Omega.{arith}
use Prim.Native.Nat.{◌-◌}
use mathlib.Core.Path.{◌≡◌, ap, ◌∙◌}
use lib.ListN.{length}
use lib.Seq.{length-sets}
use Rattle.text.proofs.PutLaws.{put_is, put_none, ◌then◌}
use Rattle.text.proofs.PathLaws.{more_none, more_one}
use Rattle.text.proofs.path.put_more.Goals as goal

pub loop-i-init : goal.loop-i-init
loop-i-init c = (omega arith, λ r o q. let whole : c.args.count - 0 ≡ c.args.count = omega arith in rw whole at q)

pub loop-i-preserved : goal.loop-i-preserved
loop-i-preserved c = (
  omega (arith, c.put_quoted-k.ensures.upper_bound, c.put_bytes-l.ensures.next, c.loop-i.invariant.0),
  λ r o z. c.loop-i.invariant.1 r o
      (put_is (more_one _ _ _ _ c.loop-i-test.true c.after_name-p.ensures)
      (c.put_bytes-l.ensures then c.put_quoted-k.ensures.put then z)),
)

pub shape_of-out : goal.shape_of-out
shape_of-out c = ap length (c.loop-i.invariant.1 _ _ (put_none (more_none _ _ _ (omega arith)))).bytes ∙ simp length-sets

pub returns-clause-put : goal.returns-clause-put
returns-clause-put c = c.loop-i.invariant.1 _ _ (put_none (more_none _ _ _ (omega arith)))
