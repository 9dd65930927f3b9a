-- Equality of names is equality, and names of other lengths or other bytes differ.
use Prim.Native.Nat.{ℕ, ◌+◌, ◌-◌, ◌*◌, ◌%◌, ◌<◌, ◌≤◌}
use mathlib.Core.Path.{◌≡◌, refl, ap, sym, ◌∙◌}
use mathlib.Core.List.{[], ◌∷◌}
use mathlib.Core.Bool.{Bool, true, false}
use native.Mathlib.Omega.{arith}
use native.Mathlib.Numerals.{add-one}
use lib.ListN.{length, drop, get_or, drop_of_length-le}
use lib.Seq.{drop-cons}
use lib.Dec.{eqb}
use borrow.Author.Tests.{eq-eqb, ne_eqb, eqb-true, eqb-false}
use Rattle.reading.specs.Read.{pick}
use Rattle.reading.specs.Text.{Name}
use Rattle.reading.proofs.Rules.{pick_true, pick_false}
use Rattle.typing.specs.Names.{eq_name}
use Rattle.typing.specs.Lanes.{word_at}

pub eq_name_refl : (a : Name) → eq_name a a ≡ true
unfolding eq_name pick
eq_name_refl [] = refl
eq_name_refl (x ∷ xs) = rw (eq-eqb x x refl) (eq_name_refl xs)

pub pick_left : (b c : Bool) → pick b c false ≡ true → b ≡ true
unfolding pick
pick_left true c h = refl
pick_left false c h = h

pub pick_right : (b c : Bool) → pick b c false ≡ true → c ≡ true
unfolding pick
pick_right true c h = h
pick_right false true h = refl
pick_right false false h = h

pub eq_name_eq : (a b : Name) → eq_name a b ≡ true → a ≡ b
unfolding eq_name
eq_name_eq [] [] h = refl
eq_name_eq [] (y ∷ ys) h = cc
eq_name_eq (x ∷ xs) [] h = cc
eq_name_eq (x ∷ xs) (y ∷ ys) h =
    let p = eqb-true x y (pick_left (eqb x y) (eq_name xs ys) h) in
    let q = eq_name_eq xs ys (pick_right (eqb x y) (eq_name xs ys) h) in
    cc

eq_name_ne : (a b : Name) → (a ≡ b → ⊥) → eq_name a b ≡ false
eq_name_ne a b h = go (eq_name a b) refl
  where
    go : (t : Bool) → eq_name a b ≡ t → t ≡ false
    go true e = absurd (h (eq_name_eq a b e))
    go false e = refl

pub eq_name_length : (a b : Name) → (length a ≡ length b → ⊥) → eq_name a b ≡ false
eq_name_length a b h = eq_name_ne a b λ e. h (ap length e)

pub eq_name_byte : (a b : Name) (i : ℕ) → (get_or a i 0 ≡ get_or b i 0 → ⊥) → eq_name a b ≡ false
eq_name_byte a b i h = eq_name_ne a b λ e. h (ap (λ (x : Name). get_or x i 0) e)

pub eqb_sym : (a b : ℕ) → eqb a b ≡ eqb b a
eqb_sym a b = go (eqb b a) refl
  where
    go : (t : Bool) → eqb b a ≡ t → eqb a b ≡ t
    go true e = eq-eqb a b (sym (eqb-true b a e))
    go false e = ne_eqb a b (λ q. eqb-false b a e (sym q))

pub eq_name_sym : (a b : Name) → eq_name a b ≡ eq_name b a
unfolding eq_name
eq_name_sym [] [] = refl
eq_name_sym [] (y ∷ ys) = refl
eq_name_sym (x ∷ xs) [] = refl
eq_name_sym (x ∷ xs) (y ∷ ys) = rw (eqb_sym x y, eq_name_sym xs ys)

-- two names that are compared from place i on
module _ (a b : Name) (i : ℕ) (q : length a ≡ length b) where
  at_byte : i < length a → eq_name (drop i a) (drop i b) ≡ pick (eqb (get_or a i 0) (get_or b i 0)) (eq_name (drop (i + 1) a) (drop (i + 1) b)) false
  unfolding eq_name
  at_byte h =
      let k : i < length b = omega arith in
      rw (drop-cons a i 0 h, drop-cons b i 0 k, add-one)

  pub same_step : i < length a → get_or a i 0 ≡ get_or b i 0 → eq_name (drop i a) (drop i b) ≡ eq_name a b → eq_name (drop (i + 1) a) (drop (i + 1) b) ≡ eq_name a b
  same_step h e r = sym (rw (eq-eqb _ _ e, pick_true) at (at_byte h)) ∙ r

  pub same_differ : i < length a → (get_or a i 0 ≡ get_or b i 0 → ⊥) → eq_name (drop i a) (drop i b) ≡ eq_name a b → false ≡ eq_name a b
  same_differ h e r = sym (rw (ne_eqb _ _ e, pick_false) at (at_byte h)) ∙ r

  pub same_done : length a ≤ i → eq_name (drop i a) (drop i b) ≡ eq_name a b → true ≡ eq_name a b
  unfolding eq_name
  same_done h r =
      let k : length b ≤ i = omega arith in
      rw (drop_of_length-le a h, drop_of_length-le b k) at r

-- four bytes at once: words are equal only where their bytes are
low_byte : (x t y u : ℕ) → x < 256 → y < 256 → x + 256 * t ≡ y + 256 * u → x ≡ y
low_byte x t y u h l e =
    let m : (x + 256 * t) % 256 ≡ x = omega arith in
    let n : (y + 256 * u) % 256 ≡ y = omega arith in
    sym m ∙ ap (λ (z : ℕ). z % 256) e ∙ n

module _ (a b : Name) (i : ℕ) {u v : ℕ} (m : u ≡ word_at a i) (n : v ≡ word_at b i) where
  pub four_differ : (u ≡ v → ⊥) → false ≡ eq_name a b
  four_differ h = sym (eq_name_ne a b λ e. h (m ∙ ap (λ (x : Name). word_at x i) e ∙ sym n))

  pub four_step : ((j : ℕ) → get_or a j 0 < 256) → ((j : ℕ) → get_or b j 0 < 256) → length a ≡ length b → 3 < length a - i → u ≡ v → eq_name (drop i a) (drop i b) ≡ eq_name a b → eq_name (drop (i + 4) a) (drop (i + 4) b) ≡ eq_name a b
  four_step f g q h e r =
      let p = byte i (x 1 + 256 * x 2 + 65536 * x 3) (y 1 + 256 * y 2 + 65536 * y 3) (omega (arith, e, m, n)) in
      let p₁ = byte (i + 1) (x 2 + 256 * x 3) (y 2 + 256 * y 3) (omega (arith, e, m, n, p)) in
      let p₂ = byte (i + 2) (x 3) (y 3) (omega (arith, e, m, n, p, p₁)) in
      let p₃ : x 3 ≡ y 3 = omega (arith, e, m, n, p, p₁, p₂) in
      next (i + 3) (i + 4) (omega arith) p₃ (omega arith) (next (i + 2) (i + 3) (omega arith) p₂ (omega arith) (next (i + 1) (i + 2) (omega arith) p₁ (omega arith) (next i (i + 1) (omega arith) p (omega arith) r)))
    where
      x : ℕ → ℕ
      x k = get_or a (i + k) 0

      y : ℕ → ℕ
      y k = get_or b (i + k) 0

      byte : (j s t : ℕ) → get_or a j 0 + 256 * s ≡ get_or b j 0 + 256 * t → get_or a j 0 ≡ get_or b j 0
      byte j s t = low_byte (get_or a j 0) s (get_or b j 0) t (f j) (g j)

      next : (j k : ℕ) → k ≡ j + 1 → get_or a j 0 ≡ get_or b j 0 → j < length a → eq_name (drop j a) (drop j b) ≡ eq_name a b → eq_name (drop k a) (drop k b) ≡ eq_name a b
      next j k w p l z = rw w (same_step a b j q l p z)

-- of what is handed out
pub by_text : {r : Bool} {x : Name} (a b : Name) → r ≡ eq_name x b → x ≡ a → r ≡ eq_name a b
by_text a b e q = rw q at e

pub by_texts : {r : Bool} {x y : Name} (a b : Name) → r ≡ eq_name x y → x ≡ a → y ≡ b → r ≡ eq_name a b
by_texts a b e p q = rw (p, q) at e
