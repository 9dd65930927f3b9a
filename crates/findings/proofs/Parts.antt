-- A module's errors and warnings, each as often before and after a rearrangement.
use Prim.Native.Nat.{ℕ}
use mathlib.Core.Path.{◌≡◌, refl, sym, ap, ◌∙◌}
use mathlib.Core.List.Permᴰ
use mathlib.Core.List.{List, ◌++◌, map, map-append, Permᴰ}
use mathlib.Core.Option.{Option, none, some}
use mathlib.Core.Bool.{not}
use lib.ListN.{length, length-map}
use Rattle.reading.specs.Transition.{OnError, Transition}
use Rattle.reading.specs.Module.{Module}
use Rattle.typing.specs.Env.{for_module}
use Rattle.findings.specs.Lists.{Placed, placed, each}
use Rattle.findings.specs.Finding.{Note}
use Rattle.findings.specs.Mentions.{states, all_touched}
use Rattle.findings.specs.Pairs.{by_state}
use Rattle.findings.specs.Errors.{is_empty, opening, judged_notes, own, error_emit_notes, on_error_notes, claims, closing, errors}
use Rattle.findings.specs.Warnings.{unreachable, dead, unused, impossible, warnings}
use Rattle.findings.specs.Demand.{Rearranged, with_transitions, renamed_note}
use Rattle.findings.proofs.ListLaws.{map_each, each_map, map_each_pair, each_pair_map, each_cong, each_pair_cong}
use Rattle.findings.proofs.Permutations.{perm_eq, perm_append, perm_length, perm_map, perm_each, perm_each_pair}
use Rattle.findings.proofs.Places.{move, each_pair_rising, placed_perm, items_perm}
use Rattle.findings.proofs.Sites.{opening_sites, closing_sites, unreachable_sites, dead_sites, unused_sites}
use Rattle.findings.proofs.Renaming.{early_fixed, late_fixed, own_moves, impossible_moves}
use Rattle.findings.proofs.PairLaws.{by_state_perm, Rises, clash_rises, ambiguous_rises}
use Rattle.findings.proofs.Orderless.{perm_is_empty, unreachable_perm, dead_perm, unused_perm}

-- the same notes once places are renamed, each as often
pub record Same (ρ : ℕ → ℕ) (a b : List Note) : Type 0 where
  pub perm : Permᴰ (map (renamed_note ρ) a) b

pub same_length : {ρ : ℕ → ℕ} {a b : List Note} → Same ρ a b → length b ≡ length a
same_length {ρ} {a} s = sym (perm_length s.perm) ∙ length-map a (renamed_note ρ)

module _ {ρ : ℕ → ℕ} where
  same_append : {a b c d : List Note} → Same ρ a b → Same ρ c d → Same ρ (a ++ c) (b ++ d)
  same_append p q = record { perm = rw map-append (perm_append p.perm q.perm) }

  -- a part that has no transition places
  same_fixed : {a b : List Note} → map (renamed_note ρ) a ≡ a → a ≡ b → Same ρ a b
  same_fixed e p = record { perm = perm_eq (e ∙ p) }

module _ {ρ : ℕ → ℕ} {ts us : List Transition} (r : Rearranged ρ ts us) where
  -- a part for each transition by itself
  same_each : (f : Placed Transition → List Note) → ((x : Placed Transition) → map (renamed_note ρ) (f x) ≡ f (move ρ x)) → Same ρ (each f (placed 0 ts)) (each f (placed 0 us))
  same_each f e =
      let moved = map_each (renamed_note ρ) f (placed 0 ts) ∙ each_cong (placed 0 ts) e ∙ sym (each_map f (move ρ) (placed 0 ts)) in
      record { perm = Permᴰ.trans (perm_eq moved) (perm_each f (placed_perm r)) }

  -- a part for each pair
  same_pairs : {f g : Placed Transition → Placed Transition → List Note} → Rises f g → Same ρ (by_state f ts) (by_state f us)
  same_pairs {f} {g} s =
      let moved = map_each_pair (renamed_note ρ) f (placed 0 ts) ∙ each_pair_cong (placed 0 ts) (λ x _. s.renames ρ x) ∙ sym (each_pair_map g (move ρ) (placed 0 ts)) in
      record {
        perm =
            Permᴰ.trans
            (perm_map (renamed_note ρ) (by_state_perm f ts))
            (Permᴰ.trans
            (perm_eq moved)
            (Permᴰ.trans
            (perm_each_pair g s.symmetric (placed_perm r))
            (Permᴰ.trans (perm_eq (sym (each_pair_rising f g 0 us s.rising))) (Permᴰ.symm (by_state_perm f us)))));
      }

module _ {ρ : ℕ → ℕ} {us : List Transition} (y : Module) (r : Rearranged ρ y.transitions us) where
  same_opening : Same ρ (opening y (not (is_empty y.transitions))) (opening (with_transitions us y) (not (is_empty us)))
  unfolding opening states for_module
  same_opening =
      same_fixed (early_fixed ρ (opening_sites y _) refl) (ap (λ b. opening y (not b)) (perm_is_empty (items_perm r)))

  same_own : Same ρ (each (own y) (placed 0 y.transitions)) (each (own (with_transitions us y)) (placed 0 us))
  unfolding own judged_notes states for_module
  same_own = same_each r (own y) (own_moves ρ y)

  same_on_error : (e : Option OnError) → on_error_notes y e ≡ on_error_notes (with_transitions us y) e
  unfolding on_error_notes error_emit_notes states for_module
  same_on_error none = refl
  same_on_error (some e) = refl

  same_closing : Same ρ (closing y) (closing (with_transitions us y))
  unfolding closing claims for_module
  same_closing = same_fixed (late_fixed ρ (closing_sites y) refl refl) (rw (same_on_error y.on_error))

  pub same_errors : Same ρ (errors y) (errors (with_transitions us y))
  unfolding errors
  same_errors = same_append (same_append (same_append same_opening same_own) (same_pairs r clash_rises)) same_closing

  same_unreachable : Same ρ (unreachable (states y) y.initial_state y.transitions) (unreachable (states (with_transitions us y)) y.initial_state us)
  unfolding states
  same_unreachable = same_fixed (late_fixed ρ (unreachable_sites (states y) y.initial_state y.transitions) refl refl) (unreachable_perm (items_perm r) (states y) y.initial_state)

  same_dead : Same ρ (dead y.events y.transitions) (dead y.events us)
  same_dead = same_fixed (late_fixed ρ (dead_sites y.events y.transitions) refl refl) (dead_perm (items_perm r) y.events)

  same_unused : Same ρ (unused (all_touched y) y.vars) (unused (all_touched (with_transitions us y)) y.vars)
  same_unused = same_fixed (late_fixed ρ (unused_sites (all_touched y) y.vars) refl refl) (unused_perm (items_perm r) y)

  pub same_warnings : Same ρ (warnings y) (warnings (with_transitions us y))
  unfolding warnings
  same_warnings =
      same_append
      (same_append (same_append (same_append same_unreachable same_dead) same_unused) (same_pairs r ambiguous_rises))
      (same_each r impossible (impossible_moves ρ))
