use mathlib.Core.Path.{refl}
use native.Mathlib.Omega.{arith}
use Rattle.typing.proofs.SegmentLaws.{fills_then, fills_all, fills_still, keyed_none, keyed_at}
use Rattle.typing.proofs.segments.fill_keyed.Goals as goal

pub returns-then-not-fill_words : goal.returns-then-not-fill_words
returns-then-not-fill_words c = search keyed_none

pub loop-next-init : goal.loop-next-init
loop-next-init c = (fills_still c.fill_words.ensures c.if-not-fill_words.false, omega arith, omega arith)

pub returns-then-not-is_worn : goal.returns-then-not-is_worn
returns-then-not-is_worn c = keyed_at (fills_then c.fill_words.ensures c.loop-next.invariant.0) refl (omega arith)

pub returns-then-not-fill_words-2 : goal.returns-then-not-fill_words-2
returns-then-not-fill_words-2 c = keyed_none (fills_then (fills_then c.fill_words.ensures c.loop-next.invariant.0) c.fill_words-in-loop-next.ensures)

pub loop-next-preserved : goal.loop-next-preserved
loop-next-preserved c = (fills_then c.loop-next.invariant.0 (fills_all c.fill_words-in-loop-next.ensures c.if-not-fill_words-2.false), omega arith, omega arith)

pub returns : goal.returns
returns c = keyed_at (fills_then c.fill_words.ensures c.loop-next.invariant.0) refl (omega arith)
