-- Laws of `any`, `each` and `each_pair`: what is among their results, and how they go with `map`, `++` and one another.
use mathlib.Core.Path.{◌≡◌, refl, sym, ap, ap₂, subst, ◌∙◌}
use mathlib.Core.Logic.{◌⊎◌, inl, inr}
use mathlib.Core.List.{List, [], ◌∷◌, ◌++◌, map, append_assoc, map-append}
use mathlib.Core.List.Memᴰ
use mathlib.Core.List.{Memᴰ}
use mathlib.Core.Bool.{Bool, true, false, cond, ◌||◌, false≢true}
use Rattle.findings.specs.Lists.{any, each, each_pair}

pub bool_ext : (a b : Bool) → (a ≡ true → b ≡ true) → (b ≡ true → a ≡ true) → a ≡ b
bool_ext true b f g = sym (f refl)
bool_ext false true f g = g refl
bool_ext false false f g = refl

or_cases : (a b : Bool) → (a || b) ≡ true → (a ≡ true) ⊎ (b ≡ true)
or_cases true b h = inl refl
or_cases false b h = inr h

or_right : (a b : Bool) → b ≡ true → (a || b) ≡ true
or_right true b h = refl
or_right false b h = h

module _ {A : Type 0} where
  pub cond_same : (b : Bool) (x : A) → cond b x x ≡ x
  cond_same true x = refl
  cond_same false x = refl

module _ {A : Type 0} (p : A → Bool) where
  pub any_some : (l : List A) → any p l ≡ true → (x : A) × Memᴰ x l × (p x ≡ true)
  any_some [] h = absurd (false≢true h)
  any_some (x ∷ l) h = go (or_cases (p x) (any p l) h) (λ k. any_some l k)
    where
      go : (p x ≡ true) ⊎ (any p l ≡ true) → (any p l ≡ true → (y : A) × Memᴰ y l × (p y ≡ true)) → (y : A) × Memᴰ y (x ∷ l) × (p y ≡ true)
      go (inl e) below = (x, Memᴰ.head refl, e)
      go (inr k) below = let r = below k in (r.0, Memᴰ.tail r.1, r.2)

  pub some_any : {x : A} {l : List A} → Memᴰ x l → p x ≡ true → any p l ≡ true
  some_any (Memᴰ.head {xs} e) h = ap (λ b. b || any p xs) (subst (λ y. p y ≡ true) e h)
  some_any (Memᴰ.tail {x = y} {xs} m) h = or_right (p y) (any p xs) (some_any m h)

  -- the elements of which p holds
  pub mem_kept : {x : A} {l : List A} → Memᴰ x l → p x ≡ true → Memᴰ x (each (λ y. cond (p y) (y ∷ []) []) l)
  mem_kept {x} (Memᴰ.head {x = y} {xs} e) h = go (p y) (ap p (sym e) ∙ h)
    where
      go : (b : Bool) → b ≡ true → Memᴰ x (cond b (y ∷ []) [] ++ each (λ y. cond (p y) (y ∷ []) []) xs)
      go true q = Memᴰ.head e
      go false q = absurd (false≢true q)
  mem_kept (Memᴰ.tail {x = y} m) h = Memᴰ.append_right (cond (p y) (y ∷ []) []) (mem_kept m h)

  pub kept_mem : {x : A} (l : List A) → Memᴰ x (each (λ y. cond (p y) (y ∷ []) []) l) → Memᴰ x l
  kept_mem [] m = m
  kept_mem {x} (y ∷ l) m = go (p y) (λ n. kept_mem l n) m
    where
      put : (Memᴰ x (each (λ y. cond (p y) (y ∷ []) []) l) → Memᴰ x l) → (x ≡ y) ⊎ Memᴰ x (each (λ y. cond (p y) (y ∷ []) []) l) → Memᴰ x (y ∷ l)
      put rest (inl e) = Memᴰ.head e
      put rest (inr n) = Memᴰ.tail (rest n)

      go : (b : Bool) → (Memᴰ x (each (λ y. cond (p y) (y ∷ []) []) l) → Memᴰ x l) → Memᴰ x (cond b (y ∷ []) [] ++ each (λ y. cond (p y) (y ∷ []) []) l) → Memᴰ x (y ∷ l)
      go true rest n = put rest (Memᴰ.cases_cons n)
      go false rest n = Memᴰ.tail (rest n)

module _ {A B : Type 0} where
  pub each_nil : (l : List A) → each {B = B} (λ (x : A). []) l ≡ []
  each_nil [] = refl
  each_nil (x ∷ l) = each_nil l

  pub map_cond : (f : A → B) (b : Bool) (x y : List A) → map f (cond b x y) ≡ cond b (map f x) (map f y)
  map_cond f true x y = refl
  map_cond f false x y = refl

module _ {A B : Type 0} (f : A → List B) where
  pub each_append : (a b : List A) → each f (a ++ b) ≡ each f a ++ each f b
  each_append [] b = refl
  each_append (x ∷ a) b = ap (λ k. f x ++ k) (each_append a b) ∙ sym (append_assoc (f x) (each f a) (each f b))

  pub mem_each : {x : A} {l : List A} {z : B} → Memᴰ x l → Memᴰ z (f x) → Memᴰ z (each f l)
  mem_each {z} (Memᴰ.head {xs} e) n = Memᴰ.append_left (each f xs) (subst (λ y. Memᴰ z (f y)) e n)
  mem_each (Memᴰ.tail {x = y} m) n = Memᴰ.append_right (f y) (mem_each m n)

  pub each_mem : (l : List A) {z : B} → Memᴰ z (each f l) → (x : A) × Memᴰ x l × Memᴰ z (f x)
  each_mem [] m = absurd (Memᴰ.not-nil m)
  each_mem (x ∷ l) {z} m = go (λ n. each_mem l n) (Memᴰ.append_cases (f x) m)
    where
      go : (Memᴰ z (each f l) → (y : A) × Memᴰ y l × Memᴰ z (f y)) → Memᴰ z (f x) ⊎ Memᴰ z (each f l) → (y : A) × Memᴰ y (x ∷ l) × Memᴰ z (f y)
      go rest (inl n) = (x, Memᴰ.head refl, n)
      go rest (inr n) = let r = rest n in (r.0, Memᴰ.tail r.1, r.2)

module _ {A B C : Type 0} where
  pub map_each : (r : B → C) (f : A → List B) (l : List A) → map r (each f l) ≡ each (λ x. map r (f x)) l
  map_each r f [] = refl
  map_each r f (x ∷ l) = map-append r (f x) (each f l) ∙ ap (λ k. map r (f x) ++ k) (map_each r f l)

  pub each_map : (f : B → List C) (g : A → B) (l : List A) → each f (map g l) ≡ each (λ x. f (g x)) l
  each_map f g [] = refl
  each_map f g (x ∷ l) = ap (λ k. f (g x) ++ k) (each_map f g l)

  pub map_each_pair : (r : B → C) (f : A → A → List B) (l : List A) → map r (each_pair f l) ≡ each_pair (λ x y. map r (f x y)) l
  map_each_pair r f [] = refl
  map_each_pair r f (x ∷ l) = map-append r (each (f x) l) (each_pair f l) ∙ ap₂ ◌++◌ (map_each r (f x) l) (map_each_pair r f l)

  pub each_pair_map : (f : B → B → List C) (g : A → B) (l : List A) → each_pair f (map g l) ≡ each_pair (λ x y. f (g x) (g y)) l
  each_pair_map f g [] = refl
  each_pair_map f g (x ∷ l) = ap₂ ◌++◌ (each_map (f (g x)) g l) (each_pair_map f g l)

pub each_cong : {A B : Type 0} {f g : A → List B} (l : List A) → ((x : A) → f x ≡ g x) → each f l ≡ each g l
each_cong [] h = refl
each_cong (x ∷ l) h = ap₂ ◌++◌ (h x) (each_cong l h)

pub each_pair_cong : {A B : Type 0} {f g : A → A → List B} (l : List A) → ((x : A) → Memᴰ x l → (y : A) → f x y ≡ g x y) → each_pair f l ≡ each_pair g l
each_pair_cong [] h = refl
each_pair_cong (x ∷ l) h = ap₂ ◌++◌ (each_cong l (h x (Memᴰ.head refl))) (each_pair_cong l (λ y m. h y (Memᴰ.tail m)))
