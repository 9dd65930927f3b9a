-- Names in byte order: none comes before the least, and names of which nothing is given may be left out.
use Prim.Native.Nat.{ℕ, zero, suc, ◌≤◌}
use mathlib.Core.Path.{◌≡◌, refl, sym, ap, ap₂, subst}
use mathlib.Core.Logic.{⊎_elim}
use mathlib.Core.List.Memᴰ
use mathlib.Core.List.{List, [], ◌∷◌, ◌++◌, Memᴰ}
use mathlib.Core.Bool.{Bool, true, false, cond, ◌&&◌, ◌||◌}
use native.Mathlib.Omega.{arith}
use lib.Dec.{eqb, ltb}
use lib.ListN.{length}
use borrow.Author.Tests.{eq-eqb, ne_eqb, eqb-true, le-ltb, ltb-true, ltb-false}
use Rattle.reading.specs.Text.{Name}
use Rattle.reading.proofs.Rules.{by, no}
use Rattle.typing.specs.Names.{eq_name, member}
use Rattle.typing.proofs.NameLaws.{eq_name_eq}
use Rattle.findings.specs.Lists.{each}
use Rattle.findings.specs.Order.{earlier, least, without, ordered}
use Rattle.findings.proofs.NamesOnce.{member_mem, mem_member, least_mem, without_lt, member_without}

-- first bytes x and y, and what the others say
module _ (x y : ℕ) (b : Bool) where
  late : y ≤ x → (x ≡ y → b ≡ false) → (ltb x y || eqb x y && b) ≡ false
  late l f = rw (le-ltb x y l) (by (eqb x y) (λ e. rw e (f (eqb-true x y e))) (λ e. rw e))

  module _ {r : Bool} (h : (ltb x y || eqb x y && b) ≡ r) where
    tied : x ≡ y → b ≡ r
    tied e = rw (le-ltb x y (omega arith), eq-eqb x y e) at h

    late_first : r ≡ false → y ≤ x
    late_first q = by (ltb x y) (λ e. let z : true ≡ r = rw e at h in no (cc)) (ltb-false x y)

    early_first : r ≡ true → x ≤ y
    early_first q =
        by (ltb y x)
        (λ e.
        let l = ltb-true y x e in
        let z : false ≡ r = rw (le-ltb x y (omega arith), ne_eqb x y (λ u. omega arith)) at h in
        no (cc))
        (ltb-false y x)

-- no name comes before itself
not_itself : (a : Name) → earlier a a ≡ false
unfolding earlier
not_itself [] = refl
not_itself (x ∷ xs) = late x x (earlier xs xs) (omega arith) (λ e. not_itself xs)

-- two of which neither comes before the other are equal
not_either : (a b : Name) → earlier a b ≡ false → earlier b a ≡ false → a ≡ b
unfolding earlier
not_either [] [] p q = refl
not_either [] (y ∷ ys) p q = no (cc)
not_either (x ∷ xs) [] p q = no (cc)
not_either (x ∷ xs) (y ∷ ys) p q =
    let l = late_first x y (earlier xs ys) p refl in
    let m = late_first y x (earlier ys xs) q refl in
    let e : x ≡ y = omega arith in
    ap₂ ◌∷◌ e (not_either xs ys (tied x y (earlier xs ys) p e) (tied y x (earlier ys xs) q (sym e)))

-- what does not come before a name does not come before an earlier one
not_lower : (a b c : Name) → earlier a b ≡ false → earlier c b ≡ true → earlier a c ≡ false
unfolding earlier
not_lower [] [] [] p q = refl
not_lower [] [] (z ∷ zs) p q = no (cc)
not_lower [] (y ∷ ys) c p q = no (cc)
not_lower (x ∷ xs) b [] p q = refl
not_lower (x ∷ xs) [] (z ∷ zs) p q = no (cc)
not_lower (x ∷ xs) (y ∷ ys) (z ∷ zs) p q =
    let l = late_first x y (earlier xs ys) p refl in
    let m = early_first z y (earlier zs ys) q refl in
    late x z (earlier xs zs) (omega arith) (λ e. not_lower xs ys zs (tied x y (earlier xs ys) p (omega arith)) (tied z y (earlier zs ys) q (omega arith)))

-- none comes before the least
below_first : (v x : Name) (xs : List Name) → earlier v x ≡ false → earlier v (least x xs) ≡ false
below_first v x [] h = h
below_first v x (y ∷ xs) h = by (earlier y x) (λ e. rw e (below_first v y xs (not_lower v x y h e))) (λ e. rw e (below_first v x xs h))

below_later : (v x : Name) (xs : List Name) → Memᴰ v xs → earlier v (least x xs) ≡ false
below_later v x [] m = absurd (Memᴰ.not-nil m)
below_later v x (y ∷ xs) m = ⊎_elim (λ e. rw e (below_first y (cond (earlier y x) y x) xs here)) (below_later v (cond (earlier y x) y x) xs) (Memᴰ.cases_cons m)
  where
    here : earlier y (cond (earlier y x) y x) ≡ false
    here = by (earlier y x) (λ e. rw e (not_itself y)) (λ e. rw e e)

none_before : {v x : Name} {xs : List Name} → Memᴰ v (x ∷ xs) → earlier v (least x xs) ≡ false
none_before {v} {x} {xs} m = ⊎_elim (λ e. below_first v x xs (rw e (not_itself x))) (below_later v x xs) (Memᴰ.cases_cons m)

-- nothing changes without a name that is not there
gone : (w v : Name) (ns : List Name) → member w ns ≡ false → member v ns ≡ cond (eq_name w v) false (member v ns)
gone w v ns h = by (eq_name w v) (λ e. rw (e, ← eq_name_eq w v e) h) (λ e. rw e)

module _ {B : Type 0} (f : Name → List B) where
  -- ys are some of the names xs, and nothing is given of the others
  pub record Kept (xs ys : List Name) : Type 0 where
    pub some_of : (v : Name) → member v ys ≡ true → member v xs ≡ true
    pub others : (v : Name) → member v ys ≡ false → member v xs ≡ true → f v ≡ []

  kept_without : (w : Name) {xs ys : List Name} (zs : List Name) → ((v : Name) → member v zs ≡ cond (eq_name w v) false (member v ys)) → Kept xs ys → Kept (without w xs) zs
  kept_without w {xs} {ys} zs z k = record {
    some_of = λ v. rw (z v, member_without v w xs) (by (eq_name w v) (λ e. rw e (λ h. h)) (λ e. rw e (k.some_of v)));
    others = λ v. rw (z v, member_without v w xs) (by (eq_name w v) (λ e. rw e (λ h g. no (cc))) (λ e. rw e (k.others v)));
  }

  -- xs give what is given of those that are kept
  abbrev Skims : ℕ → List Name → Type 0
  Skims n xs = (k : ℕ) (ys : List Name) → length ys ≤ k → Kept xs ys → each f (ordered n xs) ≡ each f (ordered k ys)

  skims_none : Skims 0 []
  skims_none zero ys b s = refl
  skims_none (suc k) [] b s = refl
  skims_none (suc k) (y ∷ ys) b s = absurd (Memᴰ.not-nil (member_mem y [] (s.some_of y (mem_member (Memᴰ.head refl)))))

  module _ (n : ℕ) (x : Name) (xs : List Name) (next : Skims n (without (least x xs) (x ∷ xs))) where
    -- the least of xs is that of ys, where it is one of them
    taken : (k : ℕ) (ys : List Name) → length ys ≤ k → Kept (x ∷ xs) ys → Memᴰ (least x xs) ys → each f (ordered (suc n) (x ∷ xs)) ≡ each f (ordered k ys)
    taken k [] b s m = absurd (Memᴰ.not-nil m)
    taken zero (y ∷ ys) b s m = absurd (omega arith)
    taken (suc k) (y ∷ ys) b s m =
        let w = least x xs in
        let z = s.some_of (least y ys) (mem_member (least_mem y ys)) in
        let q = not_either (least y ys) w (none_before (member_mem (least y ys) (x ∷ xs) z)) (none_before m) in
        subst (λ (z : Name). each f (ordered (suc n) (x ∷ xs)) ≡ f z ++ each f (ordered k (without z (y ∷ ys)))) (sym q) (ap (λ (l : List B). f w ++ l) (next k (without w (y ∷ ys)) (omega (arith, without_lt m)) (kept_without w (without w (y ∷ ys)) (λ v. member_without v w (y ∷ ys)) s)))

    skims_more : Skims (suc n) (x ∷ xs)
    skims_more k ys b s =
        let w = least x xs in
        by (member w ys) (λ e. taken k ys b s (member_mem w ys e)) (λ e. rw (s.others w e (mem_member (least_mem x xs))) (next k ys b (kept_without w ys (λ v. gone w v ys e) s)))

  pub skims : (n : ℕ) (xs : List Name) → length xs ≤ n → Skims n xs
  skims zero [] h = skims_none
  skims zero (x ∷ xs) h = absurd (omega arith)
  skims (suc n) [] h = skims_none
  skims (suc n) (x ∷ xs) h = skims_more n x xs (skims n (without (least x xs) (x ∷ xs)) (omega (arith, without_lt (least_mem x xs))))
