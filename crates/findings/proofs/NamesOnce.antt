-- Names of a list, and the names that `ordered` gives: each once. Nothing here depends on which order `earlier` is.
use Prim.Native.Nat.{ℕ, zero, suc, ◌≤◌, ◌<◌}
use mathlib.Core.Path.{◌≡◌, refl, sym, ap, subst, ◌∙◌}
use mathlib.Core.Logic.{◌⊎◌, inl, inr}
use mathlib.Core.List.{List, [], ◌∷◌, ◌++◌, append-nil, Memᴰ, Permᴰ}
use mathlib.Core.Bool.{Bool, true, false, cond, ◌||◌, true≢false}
use native.Mathlib.Nat.{not-suc-le-zero}
use native.Mathlib.Omega.{arith}
use lib.ListN.{length}
use Rattle.reading.specs.Read.{pick}
use Rattle.reading.specs.Text.{Name}
use Rattle.typing.specs.Names.{eq_name, member}
use Rattle.typing.proofs.NameLaws.{eq_name_refl, eq_name_eq}
use Rattle.findings.specs.Lists.{any, each}
use Rattle.findings.specs.Order.{earlier, least, without, ordered}
use Rattle.findings.proofs.ListLaws.{any_some, some_any}
use Rattle.findings.proofs.Permutations.{perm_any}

pub eq_name_of_eq : {a b : Name} → a ≡ b → eq_name a b ≡ true
eq_name_of_eq {a} e = subst (λ x. eq_name a x ≡ true) e (eq_name_refl a)

member_any : (n : Name) (ns : List Name) → member n ns ≡ any (λ x. eq_name x n) ns
unfolding member pick
member_any n [] = refl
member_any n (x ∷ ns) = go (eq_name x n) (member_any n ns)
  where
    go : (b : Bool) → member n ns ≡ any (λ x. eq_name x n) ns → pick b true (member n ns) ≡ (b || any (λ x. eq_name x n) ns)
    go true h = refl
    go false h = h

pub member_mem : (n : Name) (ns : List Name) → member n ns ≡ true → Memᴰ n ns
member_mem n ns h =
    let r = any_some (λ x. eq_name x n) ns (rw member_any at h) in
    mathlib.Core.List.Memᴰ.cast (sym (eq_name_eq r.0 n r.2)) r.1

pub mem_member : {n : Name} {ns : List Name} → Memᴰ n ns → member n ns ≡ true
mem_member {n} m = rw member_any (some_any (λ x. eq_name x n) m (eq_name_refl n))

pub perm_member : {ns ms : List Name} → Permᴰ ns ms → (n : Name) → member n ns ≡ member n ms
perm_member {ns} {ms} p n = rw (member_any n ns, member_any n ms) (perm_any (λ x. eq_name x n) p)

-- the least of some names is one of them
pub least_mem : (x : Name) (xs : List Name) → Memᴰ (least x xs) (x ∷ xs)
least_mem x [] = mathlib.Core.List.Memᴰ.head refl
least_mem x (y ∷ xs) = go (earlier y x) (least_mem (cond (earlier y x) y x) xs)
  where
    go : (b : Bool) → Memᴰ (least (cond b y x) xs) (cond b y x ∷ xs) → Memᴰ (least (cond b y x) xs) (x ∷ y ∷ xs)
    go true m = mathlib.Core.List.Memᴰ.tail m
    go false m = put (mathlib.Core.List.Memᴰ.cases_cons m)
      where
        put : (least x xs ≡ x) ⊎ Memᴰ (least x xs) xs → Memᴰ (least x xs) (x ∷ y ∷ xs)
        put (inl e) = mathlib.Core.List.Memᴰ.head e
        put (inr n) = mathlib.Core.List.Memᴰ.tail (mathlib.Core.List.Memᴰ.tail n)

without_le : (s : Name) (ns : List Name) → length (without s ns) ≤ length ns
without_le s [] = omega arith
without_le s (x ∷ ns) = go (eq_name s x) (without_le s ns)
  where
    go : (b : Bool) → length (without s ns) ≤ length ns → length (cond b (without s ns) (x ∷ without s ns)) ≤ suc (length ns)
    go true h = omega arith
    go false h = omega arith

pub without_lt : {s : Name} {ns : List Name} → Memᴰ s ns → length (without s ns) < length ns
without_lt {s} (mathlib.Core.List.Memᴰ.head {x} {xs} e) = rw (eq_name_of_eq e) (omega (arith, without_le s xs))
without_lt {s} (mathlib.Core.List.Memᴰ.tail {x} {xs} m) = go (eq_name s x) (without_lt m)
  where
    go : (b : Bool) → length (without s xs) < length xs → length (cond b (without s xs) (x ∷ without s xs)) < suc (length xs)
    go true h = omega arith
    go false h = omega arith

-- the names but s
pub member_without : (a s : Name) (ns : List Name) → member a (without s ns) ≡ cond (eq_name s a) false (member a ns)
unfolding member pick
member_without a s [] = go (eq_name s a)
  where
    go : (b : Bool) → false ≡ cond b false false
    go true = refl
    go false = refl
member_without a s (x ∷ ns) = go (eq_name s x) (eq_name s a) refl refl (member_without a s ns)
  where
    other : (b : Bool) → eq_name s x ≡ true → eq_name s a ≡ false → eq_name x a ≡ b → member a ns ≡ pick b true (member a ns)
    other true p q e = absurd (true≢false (sym (eq_name_of_eq (eq_name_eq s x p ∙ eq_name_eq x a e)) ∙ q))
    other false p q e = refl

    here : (b : Bool) → eq_name s x ≡ false → eq_name s a ≡ true → eq_name x a ≡ b → pick b true false ≡ false
    here true p q e = absurd (true≢false (sym (eq_name_of_eq (eq_name_eq s a q ∙ sym (eq_name_eq x a e))) ∙ p))
    here false p q e = refl

    go : (b c : Bool) → eq_name s x ≡ b → eq_name s a ≡ c → member a (without s ns) ≡ cond c false (member a ns) → member a (cond b (without s ns) (x ∷ without s ns)) ≡ cond c false (pick (eq_name x a) true (member a ns))
    go true true p q h = h
    go true false p q h = h ∙ other (eq_name x a) p q refl
    go false true p q h = ap (pick (eq_name x a) true) h ∙ here (eq_name x a) p q refl
    go false false p q h = ap (pick (eq_name x a) true) h

-- of what stands under each name in turn, that under name a comes once if a is among the names
module _ {B : Type 0} (a : Name) (b : List B) where
  pub turn_once : (k : ℕ) (ns : List Name) → length ns ≤ k → each (λ s. cond (eq_name s a) b []) (ordered k ns) ≡ cond (member a ns) b []
  unfolding member
  turn_once zero [] h = refl
  turn_once zero (x ∷ ns) h = absurd (not-suc-le-zero h)
  turn_once (suc k) [] h = refl
  turn_once (suc k) (x ∷ ns) h =
      let s = least x ns in
      let m : Memᴰ s (x ∷ ns) = least_mem x ns in
      ap (λ z. cond (eq_name s a) b [] ++ z) (turn_once k (without s (x ∷ ns)) (omega (arith, without_lt m)) ∙ ap (λ z. cond z b []) (member_without a s (x ∷ ns)))
      ∙ go (eq_name s a) refl m
    where
      go : (c : Bool) → eq_name (least x ns) a ≡ c → Memᴰ (least x ns) (x ∷ ns) → cond c b [] ++ cond (cond c false (member a (x ∷ ns))) b [] ≡ cond (member a (x ∷ ns)) b []
      go true e m = append-nil b ∙ ap (λ z. cond z b []) (sym (mem_member (mathlib.Core.List.Memᴰ.cast (sym (eq_name_eq (least x ns) a e)) m)))
      go false e m = refl
