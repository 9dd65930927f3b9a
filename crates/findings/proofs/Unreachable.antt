-- Site 21: a State variant is named unreachable exactly when no chain leads to it.
use Prim.Native.Nat.{ℕ}
use mathlib.Core.Path.{◌≡◌, refl, sym, ap, ◌∙◌}
use mathlib.Core.Logic.{◌↔◌, ◌⊎◌, inl, inr}
use mathlib.Core.List.Memᴰ
use mathlib.Core.List.{List, ◌++◌, map, Memᴰ}
use mathlib.Core.Option.{Option, none, some}
use mathlib.Core.Bool.{Bool, true, false, not, true≢false}
use native.Mathlib.Nat.{zero-add}
use native.Mathlib.Omega.{arith}
use lib.Dec.{eqb}
use lib.ListN.{get_elem?}
use borrow.Author.Tests.{eq-eqb, not-true}
use Rattle.reading.specs.Text.{Name}
use Rattle.reading.specs.Transition.{Transition}
use Rattle.reading.specs.Module.{Module, Ir}
use Rattle.typing.specs.Names.{member}
use Rattle.findings.specs.Lists.{Placed, placed, each}
use Rattle.findings.specs.Finding.{Note, note, in_module, noted}
use Rattle.findings.specs.Mentions.{states}
use Rattle.findings.specs.Reach.{Leads, reached}
use Rattle.findings.specs.Errors.{errors}
use Rattle.findings.specs.Warnings.{starts_at, leads_to, unreachable, warnings}
use Rattle.findings.specs.Findings.{findings}
use Rattle.findings.specs.Demand.{StartsAt, Unreachables}
use Rattle.findings.proofs.ListLaws.{mem_kept, kept_mem, mem_each, each_mem}
use Rattle.findings.proofs.Places.{nowhere, mem_placed, placed_mem}
use Rattle.findings.proofs.Chains.{reached_iff}
use Rattle.findings.proofs.Sites.{not_at, errors_sites, dead_sites, unused_sites, ambiguous_sites, impossible_sites}
use Rattle.findings.proofs.Orderless.{starts_meant}
use Rattle.findings.proofs.Rearrange.{module_findings}

-- ── site 21 in the whole list is site 21 of the module's unreachable variants ──
in_module_mem : {m : ℕ} {f : Note} (l : List Note) → Memᴰ (in_module m f) (map (in_module m) l) → Memᴰ f l
in_module_mem {m} l h = let r = Memᴰ.of_map (in_module m) l h in Memᴰ.cast (ap (λ z. z.note) (sym r.2)) r.1

module _ {A : Type 0} where
  -- a member of an append that is none of the second list
  left_of : {x : A} (a : List A) {b : List A} → (Memᴰ x b → ⊥) → Memᴰ x (a ++ b) → Memᴰ x a
  left_of {x} a {b} h m = go (Memᴰ.append_cases a m)
    where
      go : Memᴰ x a ⊎ Memᴰ x b → Memᴰ x a
      go (inl n) = n
      go (inr n) = absurd (h n)

module _ (y : Module) (v : ℕ) where
  -- of the warnings, only those of unreachable variants have site 21
  warnings_21 : Memᴰ (note 21 v 0 0) (warnings y) → Memᴰ (note 21 v 0 0) (unreachable (states y) y.initial_state y.transitions)
  unfolding warnings
  warnings_21 h =
      left_of _ (not_at (dead_sites y.events y.transitions) (note 21 v 0 0) refl)
      (left_of _ (not_at (unused_sites _ y.vars) (note 21 v 0 0) refl)
      (left_of _ (not_at (ambiguous_sites y.transitions) (note 21 v 0 0) refl)
      (left_of _ (not_at (impossible_sites y.transitions) (note 21 v 0 0) refl) h)))

  unreachable_warned : Memᴰ (note 21 v 0 0) (unreachable (states y) y.initial_state y.transitions) → Memᴰ (note 21 v 0 0) (warnings y)
  unfolding warnings
  unreachable_warned h = Memᴰ.append_left _ (Memᴰ.append_left _ (Memᴰ.append_left _ (Memᴰ.append_left _ h)))

module _ (x : Ir) (m : ℕ) (y : Module) (e : get_elem? x.modules m ≡ some y) where
  found_iff : (v : ℕ) → Memᴰ (in_module m (note 21 v 0 0)) (findings x) ↔ Memᴰ (note 21 v 0 0) (unreachable (states y) y.initial_state y.transitions)
  found_iff v = (to, from)
    where
      f : Note
      f = note 21 v 0 0

      sort : Memᴰ (in_module m f) (map (in_module m) (errors y)) ⊎ Memᴰ (in_module m f) (map (in_module m) (warnings y)) → Memᴰ f (unreachable (states y) y.initial_state y.transitions)
      sort (inl n) = absurd (not_at (errors_sites y) f refl (in_module_mem (errors y) n))
      sort (inr n) = warnings_21 y v (in_module_mem (warnings y) n)

      to : Memᴰ (in_module m f) (findings x) → Memᴰ f (unreachable (states y) y.initial_state y.transitions)
      to n =
          let own = mem_kept (λ g. eqb g.owner m) n (eq-eqb m m refl) in
          sort (Memᴰ.append_cases (map (in_module m) (errors y)) (rw (module_findings x m y e) at own))

      from : Memᴰ f (unreachable (states y) y.initial_state y.transitions) → Memᴰ (in_module m f) (findings x)
      from n =
          let own = Memᴰ.append_right (map (in_module m) (errors y)) (Memᴰ.map (in_module m) (unreachable_warned y v n)) in
          kept_mem (λ g. eqb g.owner m) (findings x) (rw (module_findings x m y e) own)

-- ── a variant is named exactly when no chain leads to it ──
noted_mem : (b : Bool) (f g : Note) → Memᴰ f (noted b g) → (b ≡ true) × (f ≡ g)
noted_mem true f g m = (refl, Memᴰ.eq_of_singleton m)
noted_mem false f g m = absurd (Memᴰ.not-nil m)

true_not : (b : Bool) → (b ≡ true → ⊥) → not b ≡ true
true_not true h = absurd (h refl)
true_not false h = refl

unreachable_iff : (vs : List Name) (o : Option Name) (ts : List Transition) (v : ℕ) (n : Name) → get_elem? vs v ≡ some n → Memᴰ (note 21 v 0 0) (unreachable vs o ts) ↔ ((s : Name) × (o ≡ some s) × (Leads StartsAt leads_to ts s n → ⊥))
unfolding unreachable
unreachable_iff vs none ts v n e = (λ m. absurd (Memᴰ.not-nil m), λ r. absurd (nowhere r.1))
unreachable_iff vs (some s) ts v n e = (to, from)
  where
    law : member n (reached starts_at leads_to s ts) ≡ true ↔ Leads StartsAt leads_to ts s n
    law = reached_iff StartsAt starts_at leads_to starts_meant ts s n

    part : Placed Name → List Note
    part y = noted (not (member y.item (reached starts_at leads_to s ts))) (note 21 y.place 0 0)

    called : (i : ℕ) (k : Name) → i ≡ v → get_elem? vs i ≡ some k → k ≡ n
    called i k p h = let h' : some k ≡ some n = sym h ∙ ap (get_elem? vs) p ∙ e in cc

    to : Memᴰ (note 21 v 0 0) (each part (placed 0 vs)) → (r : Name) × (some s ≡ some r) × (Leads StartsAt leads_to ts r n → ⊥)
    to m =
        let r = each_mem part (placed 0 vs) m in
        let i = placed_mem 0 vs r.0 r.1 in
        let g = noted_mem (not (member r.0.item (reached starts_at leads_to s ts))) (note 21 v 0 0) (note 21 r.0.place 0 0) r.2 in
        let q : r.0.item ≡ n = called i.0 r.0.item (omega (arith, i.2, ap (λ z. z.first) g.1)) i.1 in
        (s, refl, λ l. true≢false (sym (law.1 l) ∙ not-true _ (rw q at g.0)))

    from : (r : Name) × (some s ≡ some r) × (Leads StartsAt leads_to ts r n → ⊥) → Memᴰ (note 21 v 0 0) (each part (placed 0 vs))
    from r =
        let q : s ≡ r.0 = (let p = r.1 in cc) in
        mem_each
        part
        (rw zero-add at (mem_placed 0 v vs n e))
        (rw (true_not _ (λ h. r.2 (rw q at (law.0 h)))) (Memᴰ.head refl))

pub unreachables : (x : Ir) (m : ℕ) (y : Module) → get_elem? x.modules m ≡ some y → Unreachables y m (findings x)
unreachables x m y e v n h =
    let a = found_iff x m y e v in
    let b = unreachable_iff (states y) y.initial_state y.transitions v n h in
    (λ k. b.0 (a.0 k), λ k. a.1 (b.1 k))
