-- By the prints, by its mark, and by where it leads.
use mathlib.Core.Bool.{Bool, true, false, not}
use mathlib.Core.Path.{◌≡◌, refl, sym, ◌∙◌}
use borrow.Author.Tests.{ne_eqb}
use Rattle.reading.proofs.Rules.{no}
use Rattle.findings.proofs.UnledLaws.{hit_apart, hit_free, hit_taken}
use Rattle.findings.proofs.reach.is_hit.Goals as goal
use Rattle.findings.proofs.reach.is_hit.Goals.{then-prints-at, else-prints-at}

never : {v : Bool} {P : Type 0} → v ≡ false → v ≡ true → P
never p q = no (cc)

not_true : (b : Bool) → not b ≡ true → b ≡ false
not_true true e = sym e
not_true false e = refl

not_false : (b : Bool) → not b ≡ false → b ≡ true
not_false true e = refl
not_false false e = sym e

pub returns-then-not-is_free : goal.returns-then-not-is_free
returns-then-not-is_free c = elim c.if-prints-at.branch [
  | then-prints-at w ↦ let f : w.is_free.result ≡ false = not_true _ (sym w.value-is ∙ c.if-not-is_free.true) in search hit_taken
  | else-prints-at w ↦ never (w.value-is ∙ ne_eqb _ _ w.if-prints-at.false) c.if-not-is_free.true
]

pub returns-else-not-is_free : goal.returns-else-not-is_free
returns-else-not-is_free c = rw c.if-not-is_free.false (elim c.if-prints-at.branch [
  | then-prints-at w ↦ let f : w.is_free.result ≡ true = not_false _ (sym w.value-is ∙ c.if-not-is_free.false) in search hit_free
  | else-prints-at w ↦ search hit_apart
])
