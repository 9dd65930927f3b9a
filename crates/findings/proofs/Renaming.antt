-- Renaming transition places: a part that has none keeps its notes, and the notes of one transition are those of the transition at its new
-- place.
use Prim.Native.Nat.{ℕ, ◌≤◌}
use mathlib.Core.Path.{◌≡◌, refl}
use mathlib.Core.List.{List, [], ◌∷◌, map, map-append, Memᴰ}
use mathlib.Core.Option.{Option, none, some}
use mathlib.Core.Bool.{true, false}
use native.Mathlib.Omega.{arith}
use lib.Dec.{leb}
use borrow.Author.Tests.{ne_eqb, le-leb, lt-leb, leb-true}
use Rattle.reading.specs.Expr.{Expr}
use Rattle.reading.specs.Transition.{Transition}
use Rattle.reading.specs.Module.{Module}
use Rattle.typing.specs.Causes.{Cause, Answer, is, fails, Blame}
use Rattle.typing.specs.Env.{Env}
use Rattle.typing.specs.Typing.{type_expr}
use Rattle.findings.specs.Lists.{Placed}
use Rattle.findings.specs.Finding.{Note, caused, blamed}
use Rattle.findings.specs.Errors.{unknown_state, guard_typed, guard_notes, set_notes, emit_notes, body_notes, judged_notes, own}
use Rattle.findings.specs.Warnings.{impossible_guard, impossible}
use Rattle.findings.specs.Demand.{is_pair, is_own, renamed_note}
use Rattle.findings.proofs.ListLaws.{map_cond, map_each}
use Rattle.findings.proofs.Places.{move}
use Rattle.findings.proofs.Sites.{Sites, between, between_le}

map_caused : (r : Note → Note) (f : ℕ → Note) (o : Option Cause) → map r (caused f o) ≡ caused (λ c. r (f c)) o
unfolding caused
map_caused r f none = refl
map_caused r f (some c) = refl

map_blamed : (r : Note → Note) (f : ℕ → Note) (o : Option Blame) → map r (blamed f o) ≡ blamed (λ c. r (f c)) o
unfolding blamed
map_blamed r f none = refl
map_blamed r f (some b) = refl

ruleset inward = (map-append, map_cond, map_each, map_caused, map_blamed)

-- neither the site of a pair nor of one transition
abbrev Placeless : ℕ → Type 0
Placeless s = (is_pair s ≡ false) × (is_own s ≡ false)

up_to_5 : (s : ℕ) → s ≤ 5 → Placeless s
up_to_5 s h = (
  rw (ne_eqb s 14 (λ e. omega arith), ne_eqb s 15 (λ e. omega arith), ne_eqb s 24 (λ e. omega arith)),
  rw (lt-leb 6 s (omega arith), ne_eqb s 25 (λ e. omega arith), ne_eqb s 26 (λ e. omega arith)),
)

from_16_to_23 : (s : ℕ) → 16 ≤ s → s ≤ 23 → Placeless s
from_16_to_23 s h k = (
  rw (ne_eqb s 14 (λ e. omega arith), ne_eqb s 15 (λ e. omega arith), ne_eqb s 24 (λ e. omega arith)),
  rw (le-leb 6 s (omega arith), lt-leb s 13 (omega arith), ne_eqb s 25 (λ e. omega arith), ne_eqb s 26 (λ e. omega arith)),
)

module _ (ρ : ℕ → ℕ) where
  fixed : {low high : ℕ} {l : List Note} → Sites low high l → ((s : ℕ) → low ≤ s → s ≤ high → Placeless s) → map (renamed_note ρ) l ≡ l
  fixed {low} {high} {l} p h = go l (λ x m. p.sited x m)
    where
      go : (l : List Note) → ((x : Note) → Memᴰ x l → between low high x.site ≡ true) → map (renamed_note ρ) l ≡ l
      go [] q = refl
      go (x ∷ l) q =
          let r = between_le low high x.site (q x (Memᴰ.head refl)) in
          let f = h x.site r.0 r.1 in
          rw (f.0, f.1, go l (λ y m. q y (Memᴰ.tail m)))

  -- the notes of parts of which no word is a transition's place
  pub early_fixed : {low high : ℕ} {l : List Note} → Sites low high l → leb high 5 ≡ true → map (renamed_note ρ) l ≡ l
  early_fixed {high} p h = fixed p (λ s _ k. up_to_5 s (omega (arith, leb-true high 5 h)))

  pub late_fixed : {low high : ℕ} {l : List Note} → Sites low high l → leb 16 low ≡ true → leb high 23 ≡ true → map (renamed_note ρ) l ≡ l
  late_fixed {low} {high} p h k = fixed p (λ s a b. from_16_to_23 s (omega (arith, leb-true 16 low h)) (omega (arith, leb-true high 23 k)))

  typed_moves : (i : ℕ) (a : Answer) → map (renamed_note ρ) (guard_typed i a) ≡ guard_typed (ρ i) a
  unfolding guard_typed
  typed_moves i (is t) = simp inward
  typed_moves i (fails c) = refl

  guard_moves : (env : Env) (i : ℕ) (g : Option Expr) → map (renamed_note ρ) (guard_notes env i g) ≡ guard_notes env (ρ i) g
  unfolding guard_notes
  guard_moves env i none = refl
  guard_moves env i (some e) = typed_moves i (type_expr env e)

  pub own_moves : (m : Module) (x : Placed Transition) → map (renamed_note ρ) (own m x) ≡ own m (move ρ x)
  unfolding own judged_notes unknown_state body_notes set_notes emit_notes
  own_moves m x = simp (inward, guard_moves)

  impossible_guard_moves : (i : ℕ) (g : Option Expr) → map (renamed_note ρ) (impossible_guard i g) ≡ impossible_guard (ρ i) g
  unfolding impossible_guard
  impossible_guard_moves i none = refl
  impossible_guard_moves i (some e) = simp inward

  pub impossible_moves : (x : Placed Transition) → map (renamed_note ρ) (impossible x) ≡ impossible (move ρ x)
  unfolding impossible
  impossible_moves x = impossible_guard_moves x.place x.item.guard
