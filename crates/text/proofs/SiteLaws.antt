-- The form of a site, and of none.
use Prim.Native.Nat.{ℕ, zero, suc, ◌≤◌}
use mathlib.Core.Path.{◌≡◌, refl, sym}
use mathlib.Core.List.{List, [], ◌∷◌, map}
use native.Mathlib.Omega.{arith}
use mathlib.Core.Bool.{Bool, true, false, cond}
use lib.Dec.{leb}
use borrow.Author.Tests.{leb-true}
use lib.ListN.{length, get_or, get_or-eq_default}
use denote.Bor.{Bor}
use Rattle.text.specs.Message.{forms, site_form}

get_or_map : {A B : Type 0} (f : A → B) (xs : List A) (i : ℕ) (d : A) → f (get_or xs i d) ≡ get_or (map f xs) i (f d)
get_or_map f [] i d = refl
get_or_map f (x ∷ xs) zero d = refl
get_or_map f (x ∷ xs) (suc i) d = get_or_map f xs i d

-- the form at a place of a table
pub form_in : (table : List (Bor (List ℕ))) (i : ℕ) (d : Bor (List ℕ)) → (get_or table i d).now ≡ get_or (map (λ (b : Bor (List ℕ)). b.now) table) i d.now
form_in table i d = get_or_map (λ (b : Bor (List ℕ)). b.now) table i d

-- no form
pub past_sites : {site : ℕ} → 27 ≤ site → [] ≡ site_form site
unfolding site_form
past_sites h = sym (get_or-eq_default forms [] h)

-- no form is long
unfoldable all_short : List (List ℕ) → Bool
all_short [] = true
all_short (f ∷ fs) = cond (leb (length f) 0xfff) (all_short fs) false

short_in : (fs : List (List ℕ)) (i : ℕ) → all_short fs ≡ true → length (get_or fs i []) ≤ 0xfff
unfolding all_short
short_in [] i h = omega arith
short_in (f ∷ fs) i h = go (λ j g. short_in fs j g) (leb (length f) 0xfff) refl i
  where
    go : ((j : ℕ) → all_short fs ≡ true → length (get_or fs j []) ≤ 0xfff) → (b : Bool) → leb (length f) 0xfff ≡ b → (j : ℕ) → length (get_or (f ∷ fs) j []) ≤ 0xfff
    go k false e j = absurd (let z : ◌≡◌ {A = ℕ} 0 1 = cc in omega arith)
    go k true e zero = leb-true (length f) 0xfff e
    go k true e (suc j) = k j (rw e at h)

pub short_form : (site : ℕ) → length (site_form site) ≤ 0xfff
unfolding all_short site_form
short_form site = short_in forms site refl
