use mathlib.Core.Path.{refl, ap, ◌∙◌}
use lib.Seq.{length-sets}
use native.Mathlib.Omega.{arith}
use lib.ListN.{length}
use borrow.Author.Rules.{rules}
use Rattle.text.proofs.PutLaws.{put_is, put_none, ◌then◌}
use Rattle.text.proofs.FormLaws.{piece_arg, piece_none, form_end}
use Rattle.text.proofs.form.put_form.Goals as goal

pub loop-i-init : goal.loop-i-init
loop-i-init c = (search rules, search rules, search rules, omega arith, λ r o p. p)

pub bounds-args-n : goal.bounds-args-n
bounds-args-n c = c.opens.ensures.few c.if-opens.true

pub loop-i-preserved-then-opens : goal.loop-i-preserved-then-opens
loop-i-preserved-then-opens c =
    let few = c.opens.ensures.few c.if-opens.true in
    let five = c.loop-i.invariant.0 in (
      five,
      omega arith,
      omega arith,
      omega (arith, c.put_arg-k.ensures.upper_bound, c.put_bytes-k.ensures.next, c.loop-i.invariant.3),
      λ r o q. c.loop-i.invariant.4 r o
          (put_is (piece_arg _ _ _ _ _ _ _ _ five refl c.past_brace-i.ensures c.plain_end-j.ensures c.opens.ensures _ c.if-opens.true)
          (c.put_bytes-k.ensures then (c.put_arg-k.ensures.put then q))),
    )

pub loop-i-preserved : goal.loop-i-preserved
loop-i-preserved c =
    let five = c.loop-i.invariant.0 in (
      five,
      omega arith,
      omega arith,
      omega (arith, c.put_bytes-k.ensures.next, c.loop-i.invariant.3),
      λ r o q. c.loop-i.invariant.4 r o
          (put_is (piece_none _ _ _ _ _ _ _ _ five refl c.past_brace-i.ensures c.plain_end-j.ensures c.opens.ensures c.if-opens.false) (c.put_bytes-k.ensures then q)),
    )

pub shape_of-out : goal.shape_of-out
shape_of-out c = ap length (c.loop-i.invariant.4 _ _ (put_none (form_end _ _ _ c.loop-i-test.false))).bytes ∙ simp length-sets

pub returns-clause-put : goal.returns-clause-put
returns-clause-put c = c.loop-i.invariant.4 _ _ (put_none (form_end _ _ _ c.loop-i-test.false))
