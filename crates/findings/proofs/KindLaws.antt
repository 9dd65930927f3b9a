-- Kinds: transitions of one kind share state, pattern and priority, and so they are alike and have one key; and the same for guards.
use Prim.Native.Nat.{ℕ}
use mathlib.Core.Path.{◌≡◌, refl, ap, ap₂}
use mathlib.Core.List.{List}
use mathlib.Core.Bool.{Bool, true, false, ◌&&◌}
use Rattle.reading.specs.Pattern.{enc_pattern}
use Rattle.reading.specs.Transition.{Transition}
use Rattle.reading.proofs.Rules.{no}
use Rattle.typing.specs.Names.{eq_name}
use Rattle.typing.specs.Lanes.{print}
use Rattle.typing.proofs.NameLaws.{eq_name_refl, eq_name_eq}
use Rattle.findings.specs.Pairs.{same_pattern, same_guard, alike}
use Rattle.findings.specs.Prints.{ranked, key_of}
use Rattle.findings.specs.Classes.{Kind, kind_of, guard_of}

and_left : (a b : Bool) → (a && b) ≡ true → a ≡ true
and_left true b e = refl
and_left false b e = e

and_right : (a b : Bool) → (a && b) ≡ true → b ≡ true
and_right true b e = e
and_right false b e = no (cc)

pub alike_kind : (t u : Transition) → alike t u ≡ true → t.priority ≡ u.priority → kind_of t ≡ kind_of u
unfolding alike same_pattern kind_of
alike_kind t u e g =
    let x = eq_name_eq t.state u.state (and_left _ _ e) in
    let y = eq_name_eq (enc_pattern t.pattern) (enc_pattern u.pattern) (and_right (eq_name t.state u.state) _ e) in
    rw (x, y, g)

module _ (t u : Transition) (k : kind_of t ≡ kind_of u) where
  kind_state : t.state ≡ u.state
  unfolding kind_of
  kind_state = ap (λ (x : Kind). x.state) k

  kind_pattern : enc_pattern t.pattern ≡ enc_pattern u.pattern
  unfolding kind_of
  kind_pattern = ap (λ (x : Kind). x.pattern) k

  pub kind_priority : t.priority ≡ u.priority
  unfolding kind_of
  kind_priority = ap (λ (x : Kind). x.priority) k

  pub kind_alike : alike t u ≡ true
  unfolding alike same_pattern
  kind_alike = rw (kind_state, kind_pattern, eq_name_refl u.state, eq_name_refl (enc_pattern u.pattern))

  pub kind_key : key_of t ≡ key_of u
  unfolding key_of
  kind_key = ap₂ ranked kind_priority (ap₂ (λ (n l : List ℕ). print (print 0 n) l) kind_state kind_pattern)

module _ (t u : Transition) where
  pub same_guard_lem : same_guard t u ≡ true → guard_of t ≡ guard_of u
  unfolding same_guard guard_of
  same_guard_lem e = eq_name_eq _ _ e

  pub guard_same : guard_of t ≡ guard_of u → same_guard t u ≡ true
  unfolding same_guard guard_of
  guard_same e = rw e (eq_name_refl _)
