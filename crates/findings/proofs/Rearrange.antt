-- A document of which one module is rearranged: the findings of that module are the same once places are renamed, and there are as many
-- errors and as many warnings.
use Prim.Native.Nat.{ℕ, zero, suc, ◌+◌, ◌<◌}
use mathlib.Core.Path.{◌≡◌, refl, sym, ap, ap₂, ◌∙◌, subst}
use mathlib.Core.List.{List, [], ◌∷◌, ◌++◌, map, map-append, append-nil, Permᴰ}
use mathlib.Core.Option.{some}
use mathlib.Core.Bool.{Bool, true, false, cond}
use native.Mathlib.Nat.{zero-add, add-zero}
use native.Mathlib.Omega.{arith}
use lib.Dec.{eqb}
use lib.ListN.{length, length-append, length-map, get_elem?}
use borrow.Author.Tests.{eq-eqb, ne_eqb}
use Rattle.reading.specs.Transition.{Transition}
use Rattle.reading.specs.Module.{Module, Ir}
use Rattle.findings.specs.Lists.{placed, each}
use Rattle.findings.specs.Finding.{Note, Finding, in_module}
use Rattle.findings.specs.Errors.{errors}
use Rattle.findings.specs.Warnings.{warnings}
use Rattle.findings.specs.Findings.{by_module, all_errors, all_warnings, findings}
use Rattle.findings.specs.Demand.{Rearranged, with_transitions, in_place, rearranged, renamed_note, renamed, of_module}
use Rattle.findings.proofs.ListLaws.{cond_same, each_append}
use Rattle.findings.proofs.Permutations.{perm_append, perm_map}
use Rattle.findings.proofs.Places.{nowhere}
use Rattle.findings.proofs.Parts.{Same, same_length, same_errors, same_warnings}

-- ── the findings of one module ──
of_module_named : (m k : ℕ) (l : List Note) → of_module m (map (in_module k) l) ≡ cond (eqb k m) (map (in_module k) l) []
of_module_named m k [] = sym (cond_same (eqb k m) [])
of_module_named m k (x ∷ l) = ap (λ r. cond (eqb k m) (in_module k x ∷ []) [] ++ r) (of_module_named m k l) ∙ go (eqb k m)
  where
    go : (b : Bool) → cond b (in_module k x ∷ []) [] ++ cond b (map (in_module k) l) [] ≡ cond b (in_module k x ∷ map (in_module k) l) []
    go true = refl
    go false = refl

module _ (f : Module → List Note) where
  -- what f notes of the modules, whose places count from k
  abbrev noting : ℕ → List Module → List Finding
  noting k ms = each (λ x. map (in_module x.place) (f x.item)) (placed k ms)

  of_module_later : (m k : ℕ) (ms : List Module) → m < k → of_module m (noting k ms) ≡ []
  of_module_later m k [] h = refl
  of_module_later m k (y ∷ ms) h =
      each_append _ (map (in_module k) (f y)) (noting (suc k) ms)
      ∙ ap₂ ◌++◌ (of_module_named m k (f y) ∙ ap (λ b. cond b (map (in_module k) (f y)) []) (ne_eqb k m (λ e. omega arith))) (of_module_later m (suc k) ms (omega arith))

  of_module_here : (k i : ℕ) (ms : List Module) (y : Module) → get_elem? ms i ≡ some y → of_module (k + i) (noting k ms) ≡ map (in_module (k + i)) (f y)
  of_module_here k i [] y e = absurd (nowhere e)
  of_module_here k zero (z ∷ ms) y e =
      let q : z ≡ y = cc in
      rw (add-zero, ← q)
      (each_append _ (map (in_module k) (f z)) (noting (suc k) ms)
      ∙ ap₂ ◌++◌ (of_module_named k k (f z) ∙ ap (λ b. cond b (map (in_module k) (f z)) []) (eq-eqb k k refl)) (of_module_later k (suc k) ms (omega arith))
      ∙ append-nil _)
  of_module_here k (suc i) (z ∷ ms) y e =
      let s : suc k + i ≡ k + suc i = omega arith in
      each_append _ (map (in_module k) (f z)) (noting (suc k) ms)
      ∙ ap₂ ◌++◌ (of_module_named (k + suc i) k (f z) ∙ ap (λ b. cond b (map (in_module k) (f z)) []) (ne_eqb k (k + suc i) (λ p. omega arith))) (subst (λ (n : ℕ). of_module n (noting (suc k) ms) ≡ map (in_module n) (f y)) s (of_module_here (suc k) i ms y e))

  of_module_by_module : (ms : List Module) (m : ℕ) (y : Module) → get_elem? ms m ≡ some y → of_module m (by_module f ms) ≡ map (in_module m) (f y)
  unfolding by_module
  of_module_by_module ms m y e = rw zero-add at (of_module_here 0 m ms y e)

module _ (x : Ir) (m : ℕ) (y : Module) (e : get_elem? x.modules m ≡ some y) where
  pub module_findings : of_module m (findings x) ≡ map (in_module m) (errors y) ++ map (in_module m) (warnings y)
  unfolding findings all_errors all_warnings
  module_findings =
      each_append _ (all_errors x) (all_warnings x)
      ∙ ap₂ ◌++◌ (of_module_by_module errors x.modules m y e) (of_module_by_module warnings x.modules m y e)

pub in_place_there : (ms : List Module) (m : ℕ) (us : List Transition) (y : Module) → get_elem? ms m ≡ some y → get_elem? (in_place m us ms) m ≡ some (with_transitions us y)
in_place_there [] m us y e = absurd (nowhere e)
in_place_there (z ∷ ms) zero us y e = let q : z ≡ y = cc in ap (λ w. some (with_transitions us w)) q
in_place_there (z ∷ ms) (suc m) us y e = in_place_there ms m us y e

-- ── the same findings ──
renamed_in_module : (ρ : ℕ → ℕ) (m : ℕ) (l : List Note) → map (renamed ρ) (map (in_module m) l) ≡ map (in_module m) (map (renamed_note ρ) l)
renamed_in_module ρ m [] = refl
renamed_in_module ρ m (x ∷ l) = ap (λ k. in_module m (renamed_note ρ x) ∷ k) (renamed_in_module ρ m l)

same_in_module : (ρ : ℕ → ℕ) (m : ℕ) {a b : List Note} → Same ρ a b → Permᴰ (map (renamed ρ) (map (in_module m) a)) (map (in_module m) b)
same_in_module ρ m s = rw renamed_in_module (perm_map (in_module m) s.perm)

-- ── as many ──
module _ (f : Module → List Note) (us : List Transition) where
  noting_length : (k i : ℕ) (ms : List Module) (y : Module) → get_elem? ms i ≡ some y → length (f (with_transitions us y)) ≡ length (f y) → length (noting f k (in_place i us ms)) ≡ length (noting f k ms)
  noting_length k i [] y e h = refl
  noting_length k zero (z ∷ ms) y e h =
      let q : z ≡ y = cc in
      simp (length-append, length-map) (ap (λ n. n + length (noting f (suc k) ms)) (rw q h))
  noting_length k (suc i) (z ∷ ms) y e h =
      simp length-append (ap (λ n. length (map (in_module k) (f z)) + n) (noting_length (suc k) i ms y e h))

module _ (x : Ir) (m : ℕ) (y : Module) (ρ : ℕ → ℕ) (us : List Transition) (e : get_elem? x.modules m ≡ some y) (r : Rearranged ρ y.transitions us) where
  pub same_findings : Permᴰ (map (renamed ρ) (of_module m (findings x))) (of_module m (findings (rearranged m us x)))
  same_findings =
      rw (module_findings x m y e, module_findings (rearranged m us x) m (with_transitions us y) (in_place_there x.modules m us y e), map-append)
      (perm_append (same_in_module ρ m (same_errors y r)) (same_in_module ρ m (same_warnings y r)))

  pub as_many_errors : length (all_errors (rearranged m us x)) ≡ length (all_errors x)
  unfolding all_errors by_module
  as_many_errors = noting_length errors us 0 m x.modules y e (same_length (same_errors y r))

  pub as_many_warnings : length (all_warnings (rearranged m us x)) ≡ length (all_warnings x)
  unfolding all_warnings by_module
  as_many_warnings = noting_length warnings us 0 m x.modules y e (same_length (same_warnings y r))
