-- Pairs of transitions: grouping them by state names only reorders them, and what is noted of a pair does not depend on which of the two
-- stands earlier, but for the order of its places.
use Prim.Native.Nat.{ℕ, suc, ◌<◌, min, max}
use mathlib.Core.Path.{◌≡◌, refl, ap, ap₂, sym, ◌∙◌}
use mathlib.Core.List.Memᴰ
use mathlib.Core.List.{List, [], ◌∷◌, ◌++◌, map, map-append, Memᴰ}
use mathlib.Core.List.{Permᴰ}
use mathlib.Core.Option.{Option, none, some}
use mathlib.Core.Bool.{cond, not, ◌&&◌}
use native.Mathlib.Nat.{min_comm, max_comm, min-eq_left, max-eq_right}
use native.Mathlib.Omega.{arith}
use lib.ListN.{length, length-map}
use Rattle.reading.specs.Transition.{Transition}
use Rattle.typing.specs.Names.{eq_name}
use Rattle.typing.proofs.NameLaws.{eq_name_sym, eqb_sym}
use Rattle.findings.specs.Lists.{Placed, placed, each, each_pair}
use Rattle.findings.specs.Finding.{Note, note, noted}
use Rattle.findings.specs.Pairs.{equal_priority, no_priority, same_pattern, same_guard, alike, clash, ambiguous, state_of, state_names, by_state}
use Rattle.findings.specs.Demand.{renamed_note}
use Rattle.findings.proofs.ListLaws.{map_cond, each_pair_cong}
use Rattle.findings.proofs.Permutations.{perm_eq, each_pair_swap}
use Rattle.findings.proofs.Places.{move}
use Rattle.findings.proofs.NamesOnce.{mem_member, turn_once}

state_among : (k : ℕ) (ts : List Transition) (x : Placed Transition) → Memᴰ x (placed k ts) → Memᴰ x.item.state (map state_of ts)
state_among k [] x m = absurd (Memᴰ.not-nil m)
state_among k (t ∷ ts) x (Memᴰ.head e) = Memᴰ.head (ap (λ z. z.item.state) e)
state_among k (t ∷ ts) x (Memᴰ.tail m) = Memᴰ.tail (state_among (suc k) ts x m)

pub by_state_perm : (f : Placed Transition → Placed Transition → List Note) (ts : List Transition) → Permᴰ (by_state f ts) (each_pair f (placed 0 ts))
unfolding by_state state_names
by_state_perm f ts =
    Permᴰ.trans
    (each_pair_swap (λ s x y. cond (eq_name s x.item.state) (f x y) []) (state_names ts) (placed 0 ts))
    (perm_eq (each_pair_cong (placed 0 ts) once))
  where
    once : (x : Placed Transition) → Memᴰ x (placed 0 ts) → (y : Placed Transition) → each (λ s. cond (eq_name s x.item.state) (f x y) []) (state_names ts) ≡ f x y
    once x m y =
        turn_once x.item.state (f x y) (length ts) (map state_of ts) (rw length-map (omega arith))
        ∙ ap (λ b. cond b (f x y) []) (mem_member (state_among 0 ts x m))

equal_priority_comm : (a b : Option ℕ) → equal_priority a b ≡ equal_priority b a
unfolding equal_priority
equal_priority_comm none none = refl
equal_priority_comm none (some b) = refl
equal_priority_comm (some a) none = refl
equal_priority_comm (some a) (some b) = eqb_sym a b

no_priority_comm : (a b : Option ℕ) → no_priority a b ≡ no_priority b a
unfolding no_priority
no_priority_comm none none = refl
no_priority_comm none (some b) = refl
no_priority_comm (some a) none = refl
no_priority_comm (some a) (some b) = refl

alike_comm : (t u : Transition) → alike t u ≡ alike u t
unfolding alike same_pattern
alike_comm t u = ap₂ ◌&&◌ (eq_name_sym t.state u.state) (eq_name_sym _ _)

same_guard_comm : (t u : Transition) → same_guard t u ≡ same_guard u t
unfolding same_guard
same_guard_comm t u = eq_name_sym _ _

-- what is noted of two transitions at places in rising order
abbrev risen : (Transition → Transition → ℕ → ℕ → List Note) → Placed Transition → Placed Transition → List Note
risen f x y = f x.item y.item (min x.place y.place) (max x.place y.place)

abbrev clash_at : Transition → Transition → ℕ → ℕ → List Note
clash_at t u i j =
    noted (alike t u && equal_priority t.priority u.priority) (note 14 i j 0)
    ++ noted (alike t u && no_priority t.priority u.priority && same_guard t u) (note 15 i j 0)

abbrev ambiguous_at : Transition → Transition → ℕ → ℕ → List Note
ambiguous_at t u i j = noted (alike t u && no_priority t.priority u.priority && not (same_guard t u)) (note 24 i j 0)

clash_at_comm : (t u : Transition) (i j : ℕ) → clash_at t u i j ≡ clash_at u t i j
clash_at_comm t u i j = rw (alike_comm t u, equal_priority_comm t.priority u.priority, no_priority_comm t.priority u.priority, same_guard_comm t u)

ambiguous_at_comm : (t u : Transition) (i j : ℕ) → ambiguous_at t u i j ≡ ambiguous_at u t i j
ambiguous_at_comm t u i j = rw (alike_comm t u, no_priority_comm t.priority u.priority, same_guard_comm t u)

-- g is f with the places in rising order: renaming f's places gives g at the new places, and g does not depend on the order
pub record Rises (f g : Placed Transition → Placed Transition → List Note) : Type 0 where
  pub renames : (ρ : ℕ → ℕ) (x y : Placed Transition) → map (renamed_note ρ) (f x y) ≡ g (move ρ x) (move ρ y)
  pub symmetric : (x y : Placed Transition) → g x y ≡ g y x
  pub rising : (x y : Placed Transition) → x.place < y.place → f x y ≡ g x y

module _ (f : Transition → Transition → ℕ → ℕ → List Note) where
  risen_comm : ((t u : Transition) (i j : ℕ) → f t u i j ≡ f u t i j) → (x y : Placed Transition) → risen f x y ≡ risen f y x
  risen_comm h x y = h x.item y.item _ _ ∙ ap₂ (f y.item x.item) (min_comm x.place y.place) (max_comm x.place y.place)

  risen_lt : (x y : Placed Transition) → x.place < y.place → f x.item y.item x.place y.place ≡ risen f x y
  risen_lt x y h = sym (ap₂ (f x.item y.item) (min-eq_left (omega arith)) (max-eq_right (omega arith)))

pub clash_rises : Rises clash (risen clash_at)
unfolding clash
clash_rises = record { renames = λ ρ x y. simp (map-append, map_cond); symmetric = risen_comm clash_at clash_at_comm; rising = risen_lt clash_at }

pub ambiguous_rises : Rises ambiguous (risen ambiguous_at)
unfolding ambiguous
ambiguous_rises = record { renames = λ ρ x y. simp map_cond; symmetric = risen_comm ambiguous_at ambiguous_at_comm; rising = risen_lt ambiguous_at }
