-- Rearranged lists: `any`, membership and the length do not depend on the order, and `map`, `each` and `each_pair` of rearranged lists are
-- rearranged.
use Prim.Native.Nat.{suc}
use mathlib.Core.Path.{◌≡◌, refl, ap, ap₂, subst, ◌∙◌}
use mathlib.Core.Logic.{◌⊎◌, inl, inr}
use mathlib.Core.List.{List, [], ◌∷◌, ◌++◌, map, append_assoc}
use mathlib.Core.List.Permᴰ
use mathlib.Core.List.{Permᴰ}
use mathlib.Core.List.Memᴰ
use mathlib.Core.List.{Memᴰ}
use mathlib.Core.Bool.{Bool, true, false, ◌||◌}
use lib.ListN.{length}
use Rattle.findings.specs.Lists.{any, each, each_pair}
use Rattle.findings.proofs.ListLaws.{each_nil}

or_swap : (x y z : Bool) → (x || (y || z)) ≡ (y || (x || z))
or_swap true true z = refl
or_swap true false z = refl
or_swap false y z = refl

module _ {A : Type 0} where
  pub perm_eq : {l k : List A} → l ≡ k → Permᴰ l k
  perm_eq {l} e = subst (λ x. Permᴰ l x) e (Permᴰ.refl l)

  pub perm_append : {a b c d : List A} → Permᴰ a b → Permᴰ c d → Permᴰ (a ++ c) (b ++ d)
  perm_append {b} {c} p q = Permᴰ.trans (Permᴰ.append_right c p) (Permᴰ.append_left b q)

  perm_comm : (a b : List A) → Permᴰ (a ++ b) (b ++ a)
  perm_comm [] b = Permᴰ.symm (Permᴰ.append-nil b)
  perm_comm (x ∷ a) b = Permᴰ.trans (Permᴰ.cons refl (perm_comm a b)) (Permᴰ.symm (Permᴰ.middle x b a))

  -- the first two of three change places
  perm_rotate : (a b c : List A) → Permᴰ (a ++ (b ++ c)) (b ++ (a ++ c))
  perm_rotate a b c = rw (← append_assoc a b c, ← append_assoc b a c) (Permᴰ.append_right c (perm_comm a b))

  -- the middle two of four change places
  perm_shuffle : (a b c d : List A) → Permᴰ (a ++ b ++ (c ++ d)) (a ++ c ++ (b ++ d))
  perm_shuffle a b c d = rw (append_assoc a b (c ++ d), append_assoc a c (b ++ d)) (Permᴰ.append_left a (perm_rotate b c d))

  pub perm_length : {l k : List A} → Permᴰ l k → length l ≡ length k
  perm_length Permᴰ.nil = refl
  perm_length (Permᴰ.cons e d) = ap suc (perm_length d)
  perm_length (Permᴰ.swap e₁ e₂) = refl
  perm_length (Permᴰ.trans d₁ d₂) = perm_length d₁ ∙ perm_length d₂

  pub perm_any : (p : A → Bool) {l k : List A} → Permᴰ l k → any p l ≡ any p k
  perm_any p Permᴰ.nil = refl
  perm_any p (Permᴰ.cons e d) = ap₂ ◌||◌ (ap p e) (perm_any p d)
  perm_any p (Permᴰ.swap {a} {b} {a'} {b'} {l} e₁ e₂) = or_swap (p a) (p b) (any p l) ∙ ap₂ ◌||◌ (ap p e₂) (ap (λ x. x || any p l) (ap p e₁))
  perm_any p (Permᴰ.trans d₁ d₂) = perm_any p d₁ ∙ perm_any p d₂

  pub perm_mem : {a : A} {l k : List A} → Permᴰ l k → Memᴰ a l → Memᴰ a k
  perm_mem Permᴰ.nil m = m
  perm_mem {a} (Permᴰ.cons {a = x} {b} {l₁} {l₂} e d) m = go (λ n. perm_mem d n) (Memᴰ.cases_cons m)
    where
      go : (Memᴰ a l₁ → Memᴰ a l₂) → (a ≡ x) ⊎ Memᴰ a l₁ → Memᴰ a (b ∷ l₂)
      go below (inl h) = Memᴰ.head (h ∙ e)
      go below (inr n) = Memᴰ.tail (below n)
  perm_mem {a} (Permᴰ.swap {a = x} {b = y} {a' = x'} {b' = y'} {l = l} e₁ e₂) m = go (Memᴰ.cases_cons m)
    where
      inner : (a ≡ y) ⊎ Memᴰ a l → Memᴰ a (x' ∷ y' ∷ l)
      inner (inl h) = Memᴰ.head (h ∙ e₂)
      inner (inr n) = Memᴰ.tail (Memᴰ.tail n)

      go : (a ≡ x) ⊎ Memᴰ a (y ∷ l) → Memᴰ a (x' ∷ y' ∷ l)
      go (inl h) = Memᴰ.tail (Memᴰ.head (h ∙ e₁))
      go (inr n) = inner (Memᴰ.cases_cons n)
  perm_mem (Permᴰ.trans d₁ d₂) m = perm_mem d₂ (perm_mem d₁ m)

module _ {A B : Type 0} where
  pub perm_map : (f : A → B) {l k : List A} → Permᴰ l k → Permᴰ (map f l) (map f k)
  perm_map f Permᴰ.nil = Permᴰ.nil
  perm_map f (Permᴰ.cons e d) = Permᴰ.cons (ap f e) (perm_map f d)
  perm_map f (Permᴰ.swap e₁ e₂) = Permᴰ.swap (ap f e₁) (ap f e₂)
  perm_map f (Permᴰ.trans d₁ d₂) = Permᴰ.trans (perm_map f d₁) (perm_map f d₂)

  pub perm_each : (f : A → List B) {l k : List A} → Permᴰ l k → Permᴰ (each f l) (each f k)
  perm_each f Permᴰ.nil = Permᴰ.nil
  perm_each f (Permᴰ.cons e d) = perm_append (perm_eq (ap f e)) (perm_each f d)
  perm_each f (Permᴰ.swap {a} {b} {a'} {b'} {l} e₁ e₂) =
      Permᴰ.trans (perm_rotate (f a) (f b) (each f l)) (perm_eq (ap₂ ◌++◌ (ap f e₂) (ap (λ x. f x ++ each f l) e₁)))
  perm_each f (Permᴰ.trans d₁ d₂) = Permᴰ.trans (perm_each f d₁) (perm_each f d₂)

  pub perm_each_pair : (f : A → A → List B) → ((x y : A) → f x y ≡ f y x) → {l k : List A} → Permᴰ l k → Permᴰ (each_pair f l) (each_pair f k)
  perm_each_pair f s Permᴰ.nil = Permᴰ.nil
  perm_each_pair f s (Permᴰ.cons {a} {b} {l₁} {l₂} e d) =
      perm_append (Permᴰ.trans (perm_each (f a) d) (perm_eq (ap (λ x. each (f x) l₂) e))) (perm_each_pair f s d)
  perm_each_pair f s (Permᴰ.swap {a} {b} {a'} {b'} {l} e₁ e₂) =
      Permᴰ.trans
      (perm_shuffle (f a b) (each (f a) l) (each (f b) l) (each_pair f l))
      (perm_eq (ap₂ ◌++◌ (ap₂ ◌++◌ (s a b ∙ ap₂ f e₂ e₁) (ap (λ x. each (f x) l) e₂)) (ap (λ x. each (f x) l ++ each_pair f l) e₁)))
  perm_each_pair f s (Permᴰ.trans d₁ d₂) = Permᴰ.trans (perm_each_pair f s d₁) (perm_each_pair f s d₂)

  -- two lists for each element: one after another, or first all the one and then all the other
  each_both : (f g : A → List B) (l : List A) → Permᴰ (each (λ x. f x ++ g x) l) (each f l ++ each g l)
  each_both f g [] = Permᴰ.nil
  each_both f g (x ∷ l) =
      Permᴰ.trans (Permᴰ.append_left (f x ++ g x) (each_both f g l)) (perm_shuffle (f x) (g x) (each f l) (each g l))

-- two loops change places
module _ {A B C : Type 0} where
  each_swap : (g : A → B → List C) (ns : List A) (l : List B) → Permᴰ (each (λ s. each (g s) l) ns) (each (λ y. each (λ s. g s y) ns) l)
  each_swap g ns [] = perm_eq (each_nil ns)
  each_swap g ns (y ∷ l) =
      Permᴰ.trans (each_both (λ s. g s y) (λ s. each (g s) l) ns) (Permᴰ.append_left (each (λ s. g s y) ns) (each_swap g ns l))

  pub each_pair_swap : (f : A → B → B → List C) (ns : List A) (l : List B) → Permᴰ (each (λ s. each_pair (f s) l) ns) (each_pair (λ x y. each (λ s. f s x y) ns) l)
  each_pair_swap f ns [] = perm_eq (each_nil ns)
  each_pair_swap f ns (x ∷ l) =
      Permᴰ.trans
      (each_both (λ s. each (f s x) l) (λ s. each_pair (f s) l) ns)
      (perm_append (each_swap (λ s. f s x) ns l) (each_pair_swap f ns l))
