use mathlib.Core.Path.{refl, ◌∙◌}
use lib.ListN.{length-set}
use lib.Seq.{take_all}
use Rattle.text.proofs.PutLaws.{sets_more}
use Rattle.text.proofs.out.put_whole.Goals as goal

pub loop-i-init : goal.loop-i-init
loop-i-init c = (refl, refl)

pub loop-i-preserved : goal.loop-i-preserved
loop-i-preserved c = (rw c.loop-i.invariant.0 (sets_more _ _ _ _ c.loop-i-test.true), simp length-set c.loop-i.invariant.1)

pub shape_of-out : goal.shape_of-out
shape_of-out c = c.loop-i.invariant.1

pub returns : goal.returns
returns c =
    let h = c.loop-i-test.false in
    c.loop-i.invariant.0 ∙ simp take_all
