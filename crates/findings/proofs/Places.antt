-- Lists with places: a rearrangement of transitions is one of the transitions with their places, each at its new place. The new places
-- are different and are places of the new list, and there are as many.
use Prim.Native.Nat.{ℕ, zero, suc, ◌+◌, ◌≤◌, ◌<◌}
use mathlib.Core.Path.{◌≡◌, refl, sym, ap, ap₂, ◌∙◌}
use mathlib.Core.Logic.{◌⊎◌, inl, inr}
use mathlib.Core.Option.{none, some}
use mathlib.Core.List.Memᴰ
use mathlib.Core.List.{List, [], ◌∷◌, ◌++◌, map, Memᴰ}
use mathlib.Core.List.Permᴰ
use mathlib.Core.List.{Permᴰ}
use native.Mathlib.Nat.{not-suc-le-zero, add-zero, zero-add, add-suc, suc-add}
use native.Mathlib.Omega.{arith}
use lib.ListN.{length, get_elem?, length-map}
use Rattle.reading.specs.Transition.{Transition}
use Rattle.findings.specs.Lists.{Placed, placed, each, each_pair}
use Rattle.findings.specs.Demand.{Rearranged}
use Rattle.findings.proofs.Permutations.{perm_eq, perm_length, perm_mem, perm_map}

-- nothing stands in an empty list
pub nowhere : {A : Type 0} {a : A} → none ≡ some a → ⊥
nowhere e = let z : ◌≡◌ {A = ℕ} 0 1 = cc in omega arith

module _ {A : Type 0} where
  abbrev Distinct : List A → Type 0
  Distinct [] = Unit {0}
  Distinct (x ∷ xs) = (Memᴰ x xs → ⊥) × Distinct xs

  -- a member comes first, and the others after it
  mem_first : {x : A} {k : List A} → Memᴰ x k → (r : List A) × Permᴰ k (x ∷ r)
  mem_first (Memᴰ.head {xs} e) = (xs, Permᴰ.cons (sym e) (Permᴰ.refl xs))
  mem_first (Memᴰ.tail {x = y} m) =
      (y ∷ (mem_first m).0, Permᴰ.trans (Permᴰ.cons refl (mem_first m).1) (Permᴰ.swap refl refl))

  -- different elements, all of them among k, and no fewer, are k's
  distinct_perm : (l k : List A) → Distinct l → ((x : A) → Memᴰ x l → Memᴰ x k) → length k ≤ length l → Permᴰ l k
  distinct_perm [] [] d f h = Permᴰ.nil
  distinct_perm [] (x ∷ k) d f h = absurd (not-suc-le-zero h)
  distinct_perm (x ∷ l) k d f h =
      let o = mem_first (f x (Memᴰ.head refl)) in
      Permᴰ.trans
      (Permᴰ.cons refl (distinct_perm l o.0 d.1 (λ y m. other o.0 o.1 y m) (omega (arith, perm_length o.1))))
      (Permᴰ.symm o.1)
    where
      other : (r : List A) → Permᴰ k (x ∷ r) → (y : A) → Memᴰ y l → Memᴰ y r
      other r p y m = go (Memᴰ.cases_cons (perm_mem p (f y (Memᴰ.tail m))))
        where
          go : (y ≡ x) ⊎ Memᴰ y r → Memᴰ y r
          go (inl e) = absurd (d.0 (Memᴰ.cast (sym e) m))
          go (inr n) = n

module _ {A : Type 0} where
  abbrev pub move : (ℕ → ℕ) → Placed A → Placed A
  move ρ x = record { place = ρ x.place; item = x.item }

  abbrev item : Placed A → A
  item x = x.item

  length_placed : (k : ℕ) (ts : List A) → length (placed k ts) ≡ length ts
  length_placed k [] = refl
  length_placed k (t ∷ ts) = ap suc (length_placed (suc k) ts)

  items_placed : (k : ℕ) (ts : List A) → map item (placed k ts) ≡ ts
  items_placed k [] = refl
  items_placed k (t ∷ ts) = ap (λ l. t ∷ l) (items_placed (suc k) ts)

  items_moved : (ρ : ℕ → ℕ) (k : ℕ) (ts : List A) → map item (map (move ρ) (placed k ts)) ≡ ts
  items_moved ρ k [] = refl
  items_moved ρ k (t ∷ ts) = ap (λ l. t ∷ l) (items_moved ρ (suc k) ts)

  -- what stands at place i
  pub mem_placed : (k i : ℕ) (ts : List A) (t : A) → get_elem? ts i ≡ some t → Memᴰ (record { place = k + i; item = t }) (placed k ts)
  mem_placed k i [] t e = absurd (nowhere e)
  mem_placed k zero (u ∷ ts) t e = let q : t ≡ u = cc in Memᴰ.head (λ j. record { place = add-zero k j; item = q j })
  mem_placed k (suc i) (u ∷ ts) t e = Memᴰ.tail {xs = placed (suc k) ts} (rw (add-suc, ← suc-add) (mem_placed (suc k) i ts t e))

  -- where an element of the moved list came from
  pub record Came (ρ : ℕ → ℕ) (k : ℕ) (ts : List A) (z : Placed A) : Type 0 where
    pub from : ℕ
    pub below : from < length ts
    pub what : A
    pub there : get_elem? ts from ≡ some what
    pub is : z ≡ record { place = ρ (k + from); item = what }

  came : (ρ : ℕ → ℕ) (k : ℕ) (ts : List A) (z : Placed A) → Memᴰ z (map (move ρ) (placed k ts)) → Came ρ k ts z
  came ρ k [] z m = absurd (Memᴰ.not-nil m)
  came ρ k (t ∷ ts) z m = go (λ n. came ρ (suc k) ts z n) (Memᴰ.cases_cons m)
    where
      go : (Memᴰ z (map (move ρ) (placed (suc k) ts)) → Came ρ (suc k) ts z) → (z ≡ record { place = ρ k; item = t }) ⊎ Memᴰ z (map (move ρ) (placed (suc k) ts)) → Came ρ k (t ∷ ts) z
      go rest (inl e) = record { from = 0; below = omega arith; what = t; there = refl; is = rw add-zero e }
      go rest (inr n) =
          let c = rest n in
          record { from = suc c.from; below = omega arith; what = c.what; there = c.there; is = rw (add-suc, ← suc-add) c.is }

  -- an element of the placed list, and its place
  pub placed_mem : (k : ℕ) (l : List A) (y : Placed A) → Memᴰ y (placed k l) → (i : ℕ) × (get_elem? l i ≡ some y.item) × (y.place ≡ k + i)
  placed_mem k [] y m = absurd (Memᴰ.not-nil m)
  placed_mem k (x ∷ l) y m = go (λ n. placed_mem (suc k) l y n) (Memᴰ.cases_cons m)
    where
      go : (Memᴰ y (placed (suc k) l) → (i : ℕ) × (get_elem? l i ≡ some y.item) × (y.place ≡ suc k + i)) → (y ≡ record { place = k; item = x }) ⊎ Memᴰ y (placed (suc k) l) → (i : ℕ) × (get_elem? (x ∷ l) i ≡ some y.item) × (y.place ≡ k + i)
      go rest (inl e) = (0, ap (λ z. some z.item) (sym e), omega (arith, ap (λ z. z.place) e))
      go rest (inr n) = let r = rest n in (suc r.0, r.1, omega (arith, r.2))

  distinct_moved : (ρ : ℕ → ℕ) (k : ℕ) (ts : List A) → ((i j : ℕ) → k ≤ i → i < j → j < k + length ts → ρ i ≡ ρ j → ⊥) → Distinct (map (move ρ) (placed k ts))
  distinct_moved ρ k [] f = tt
  distinct_moved ρ k (t ∷ ts) f = (
    λ m. let c = came ρ (suc k) ts (record { place = ρ k; item = t }) m in f k (suc k + c.from) (omega arith) (omega arith) (omega arith) (ap (λ z. z.place) c.is),
    distinct_moved ρ (suc k) ts (λ i j h₁ h₂ h₃. f i j (omega arith) h₂ (omega arith)),
  )

  each_rising : {B : Type 0} (f g : Placed A → List B) (k : ℕ) (ts : List A) → ((y : Placed A) → k ≤ y.place → f y ≡ g y) → each f (placed k ts) ≡ each g (placed k ts)
  each_rising f g k [] h = refl
  each_rising f g k (t ∷ ts) h = ap₂ ◌++◌ (h (record { place = k; item = t }) (omega arith)) (each_rising f g (suc k) ts (λ y l. h y (omega arith)))

  -- places rise, so that only pairs in rising order count
  pub each_pair_rising : {B : Type 0} (f g : Placed A → Placed A → List B) (k : ℕ) (ts : List A) → ((x y : Placed A) → x.place < y.place → f x y ≡ g x y) → each_pair f (placed k ts) ≡ each_pair g (placed k ts)
  each_pair_rising f g k [] h = refl
  each_pair_rising f g k (t ∷ ts) h =
      let x : Placed A = record { place = k; item = t } in
      ap₂ ◌++◌ (each_rising (f x) (g x) (suc k) ts (λ y l. h x y l)) (each_pair_rising f g (suc k) ts h)

module _ {ρ : ℕ → ℕ} {ts us : List Transition} (r : Rearranged ρ ts us) where
  -- each transition with its place
  pub placed_perm : Permᴰ (map (move ρ) (placed 0 ts)) (placed 0 us)
  placed_perm =
      distinct_perm
      (map (move ρ) (placed 0 ts))
      (placed 0 us)
      (distinct_moved ρ 0 ts (λ i j h₁ h₂ h₃ e. apart i j h₂ (omega arith) e))
      kept
      (rw (length-map (placed 0 ts) (move ρ), length_placed 0 ts, length_placed 0 us) (omega (arith, r.as_many)))
    where
      apart : (i j : ℕ) → i < j → j < length ts → ρ i ≡ ρ j → ⊥
      apart i j h l e = let q : i ≡ j = r.apart i j (omega arith) l e in omega arith

      kept : (z : Placed Transition) → Memᴰ z (map (move ρ) (placed 0 ts)) → Memᴰ z (placed 0 us)
      kept z m =
          let c = came ρ 0 ts z m in
          let e : z ≡ record { place = ρ c.from; item = c.what } = rw zero-add at c.is in
          Memᴰ.cast e (rw zero-add at (mem_placed 0 (ρ c.from) us c.what (r.moved c.from c.below ∙ c.there)))

  pub items_perm : Permᴰ ts us
  items_perm =
      Permᴰ.trans (perm_eq (sym (items_moved ρ 0 ts))) (Permᴰ.trans (perm_map item placed_perm) (perm_eq (items_placed 0 us)))
