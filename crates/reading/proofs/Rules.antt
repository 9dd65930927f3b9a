-- How the definitions compute: one rule for each case.
use Prim.Native.Nat.{ℕ}
use mathlib.Core.Path.{◌≡◌, refl}
use mathlib.Core.Bool.{Bool, true, false}
use native.Mathlib.Omega.{arith}
use Rattle.reading.specs.Read.{Read, ok, refused, pick, bind, map_r}
use Rattle.reading.specs.declared.fault.Fault.{Fault}

-- anything follows from an equation of two different numerals
pub no : {A : Type 0} → ◌≡◌ {A = ℕ} 0 1 → A
no e = absurd (bad e)
  where
    bad : ◌≡◌ {A = ℕ} 0 1 → ⊥
    bad e = omega arith

-- by cases on a test
pub by : {P : Type 0} (b : Bool) → (b ≡ true → P) → (b ≡ false → P) → P
by true f g = f refl
by false f g = g refl

module _ {A : Type 0} where
  pub pick_true : (x y : A) → pick true x y ≡ x
  unfolding pick
  pick_true x y = refl

  pub pick_false : (x y : A) → pick false x y ≡ y
  unfolding pick
  pick_false x y = refl

module _ {A B : Type 0} where
  pub bind_ok : (a : A) (n : ℕ) (k : A → ℕ → Read B) → bind (ok a n) k ≡ k a n
  unfolding bind
  bind_ok a n k = refl

  pub bind_out : (f : Fault) (p : ℕ) (k : A → ℕ → Read B) → bind (refused f p) k ≡ refused f p
  unfolding bind
  bind_out f p k = refl

  pub map_ok : (g : A → B) (a : A) (n : ℕ) → map_r g (ok a n) ≡ ok (g a) n
  unfolding map_r
  map_ok g a n = refl

  pub map_out : (g : A → B) (f : Fault) (p : ℕ) → map_r g (refused f p) ≡ refused f p
  unfolding map_r
  map_out g f p = refl
