-- What is noted of two transitions: of one kind, and where they are not alike or have not one key.
use Prim.Native.Nat.{ℕ}
use mathlib.Core.Path.{◌≡◌, refl, sym, ap, ◌∙◌}
use mathlib.Core.List.{List, [], ◌++◌}
use mathlib.Core.Bool.{Bool, true, false, cond, not, ◌&&◌}
use mathlib.Core.Option.{Option, none, some}
use lib.Dec.{eqb}
use borrow.Author.Tests.{not-true, not-false, eq-eqb, eqb-true, eqb-false}
use Rattle.reading.specs.Transition.{Transition}
use Rattle.findings.specs.Lists.{Placed}
use Rattle.findings.specs.Finding.{Note, note, noted}
use Rattle.findings.specs.Pairs.{equal_priority, no_priority, same_guard, alike, clash, ambiguous}
use Rattle.findings.specs.Noting.{Noted}
use Rattle.findings.specs.Prints.{key_of, rival}
use Rattle.findings.specs.Promises.{at_place}
use Rattle.findings.specs.PairPromises.{pair_notes}
use Rattle.findings.specs.Classes.{kind_of, bare, kind_notes}
use Rattle.findings.proofs.KindLaws.{alike_kind, kind_alike, kind_priority, kind_key}

-- by what the tests say
module _ (a b c d : Bool) (x y : Note) where
  noted_apart : a ≡ false → [] ≡ noted (a && b) x ++ noted (a && c && d) y
  noted_apart e = rw e

  noted_other : a ≡ false → [] ≡ noted (a && c && d) y
  noted_other e = rw e

-- no note where they are not alike
pair_none : (warn : Bool) (x y : Placed Transition) → false ≡ alike x.item y.item → [] ≡ pair_notes warn x y
unfolding pair_notes clash ambiguous
pair_none true x y e = noted_other (alike x.item y.item) false _ _ (note 24 x.place y.place 0) (note 24 x.place y.place 0) (sym e)
pair_none false x y e = noted_apart (alike x.item y.item) _ _ _ (note 14 x.place y.place 0) (note 15 x.place y.place 0) (sym e)

-- nor where they are not of one kind
module _ (t u : Transition) (d : kind_of t ≡ kind_of u → ⊥) (e : alike t u ≡ true) where
  unequal : equal_priority t.priority u.priority ≡ false
  unfolding equal_priority
  unequal = go t.priority u.priority refl refl
    where
      given : (a b : ℕ) → t.priority ≡ some a → u.priority ≡ some b → (r : Bool) → r ≡ eqb a b → eqb a b ≡ false
      given a b p q true z = absurd (d (alike_kind t u e (p ∙ ap some (eqb-true a b (sym z)) ∙ sym q)))
      given a b p q false z = sym z

      go : (a b : Option ℕ) → t.priority ≡ a → u.priority ≡ b → equal_priority a b ≡ false
      go none none p q = refl
      go none (some y) p q = refl
      go (some x) none p q = refl
      go (some x) (some y) p q = given x y p q (eqb x y) refl

  clothed : no_priority t.priority u.priority ≡ false
  unfolding no_priority
  clothed = go t.priority u.priority refl refl
    where
      go : (a b : Option ℕ) → t.priority ≡ a → u.priority ≡ b → no_priority a b ≡ false
      go none none p q = absurd (d (alike_kind t u e (p ∙ sym q)))
      go none (some y) p q = refl
      go (some x) none p q = refl
      go (some x) (some y) p q = refl

apart_notes : (warn : Bool) (x y : Placed Transition) → (kind_of x.item ≡ kind_of y.item → ⊥) → (b : Bool) → b ≡ alike x.item y.item → [] ≡ pair_notes warn x y
unfolding pair_notes clash ambiguous
apart_notes warn x y d false e = pair_none warn x y e
apart_notes true x y d true e = rw (clothed x.item y.item d (sym e), ← e)
apart_notes false x y d true e = rw (unequal x.item y.item d (sym e), clothed x.item y.item d (sym e), ← e)

pub kind_none : (warn : Bool) (x y : Placed Transition) → (kind_of x.item ≡ kind_of y.item → ⊥) → [] ≡ pair_notes warn x y
kind_none warn x y d = apart_notes warn x y d (alike x.item y.item) refl

-- nor where their keys differ
pub rival_none : (warn : Bool) (x y : Placed Transition) → false ≡ rival x.item y.item → [] ≡ pair_notes warn x y
unfolding rival
rival_none warn x y e = kind_none warn x y (λ k. eqb-false (key_of x.item) (key_of y.item) (sym e) (kind_key x.item y.item k))

-- two of one kind
by_tests : (warn b g a p q : Bool) (i j : ℕ) → a ≡ true → p ≡ not b → q ≡ b → kind_notes warn b g i j ≡ cond warn (noted (a && q && not g) (note 24 i j 0)) (noted (a && p) (note 14 i j 0) ++ noted (a && q && g) (note 15 i j 0))
unfolding kind_notes
by_tests true true g a p q i j e f h = rw (e, h)
by_tests true false g a p q i j e f h = rw (e, h)
by_tests false true g a p q i j e f h = rw (e, f, h)
by_tests false false g a p q i j e f h = rw (e, f, h)

bare_none : (a : Option ℕ) → no_priority a a ≡ bare a
unfolding no_priority bare
bare_none none = refl
bare_none (some v) = refl

bare_equal : (a : Option ℕ) → equal_priority a a ≡ not (bare a)
unfolding equal_priority bare
bare_equal none = refl
bare_equal (some v) = eq-eqb v v refl

pub kind_notes_lem : (warn : Bool) (i j : ℕ) (t u : Transition) {b g : Bool} → kind_of t ≡ kind_of u → b ≡ bare t.priority → g ≡ same_guard t u → kind_notes warn b g i j ≡ pair_notes warn (at_place i t) (at_place j u)
unfolding pair_notes clash ambiguous
kind_notes_lem warn i j t u k e f =
    let z = kind_priority t u k in
    rw (e, f) (by_tests warn (bare t.priority) (same_guard t u) (alike t u) (equal_priority t.priority u.priority) (no_priority t.priority u.priority) i j (kind_alike t u k) (rw (← z) (bare_equal t.priority)) (rw (← z) (bare_none t.priority)))

-- what is written
module _ (owner : ℕ) (o : List ℕ) (skip n i j : ℕ) (warn b g : Bool) {r : ℕ} {o' : List ℕ} where
  pub pair_given : not b ≡ true → Noted owner o skip n (noted (not warn) (note 14 i j 0)) r o' → Noted owner o skip n (kind_notes warn b g i j) r o'
  unfolding kind_notes
  pair_given e w = rw (not-true b e) w

  pub pair_warn : not b ≡ false → warn ≡ true → Noted owner o skip n (noted (not g) (note 24 i j 0)) r o' → Noted owner o skip n (kind_notes warn b g i j) r o'
  unfolding kind_notes
  pair_warn e h w = rw (not-false b e, h) w

  pub pair_same : not b ≡ false → warn ≡ false → Noted owner o skip n (noted g (note 15 i j 0)) r o' → Noted owner o skip n (kind_notes warn b g i j) r o'
  unfolding kind_notes
  pair_same e h w = rw (not-false b e, h) w
