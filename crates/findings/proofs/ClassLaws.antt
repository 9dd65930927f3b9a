-- Classes: the first place of each is found by going through the places before, and equal numbers of first places say one class.
use Prim.Native.Nat.{ℕ, ◌+◌, ◌%◌, ◌<◌, ◌≤◌}
use mathlib.Core.Path.{◌≡◌, sym, ap, ◌∙◌}
use mathlib.Core.Logic.{◌≢◌}
use mathlib.Core.List.{List}
use mathlib.Core.Option.{some}
use native.Mathlib.Omega.{arith}
use native.Mathlib.Decide.{ℕ_discrete}
use lib.Dec.{ltb}
use lib.ListN.{length, get_or, get_elem?, set, length-set}
use lib.Seq.{get_or-set_same, get_or-set_other}
use borrow.Author.Tests.{ltb-true, ltb-false}
use Rattle.reading.specs.Transition.{Transition}
use Rattle.reading.proofs.Rules.{by}
use Rattle.findings.specs.Classes.{First, FirstAt, Tabled}
use Rattle.findings.proofs.PlaceLaws.{entry_at, entry_below}
use Rattle.findings.proofs.PrintLaws.{set_seen}

-- a table word by word: the first i words are what Q asks
module _ (Q : ℕ → ℕ → Type 0) (count : ℕ) where
  pub record Filling (i : ℕ) (table : List ℕ) : Type 0 where
    pub few : count ≤ 255
    pub size : length table ≡ 256
    pub each : (k : ℕ) → k < i → Q k (get_or table k 0)

  pub filling_start : (table : List ℕ) → count ≤ 255 → length table ≡ 256 → Filling 0 table
  filling_start table h e = record { few = h; size = e; each = λ k l. absurd (omega arith) }

  module _ {i : ℕ} {table : List ℕ} (w : Filling i table) where
    pub filling_more : {r : ℕ} → i < count → Q i r → Filling (i + 1) (set table i r)
    filling_more {r} h q = record { few = w.few; size = length-set table i r ∙ w.size; each = λ k l. at k l (ℕ_discrete k i) }
      where
        at : (k : ℕ) → k < i + 1 → Dec (k ≡ i) → Q k (get_or (set table i r) k 0)
        at k l (yes e) =
            let m = w.few in
            let n = w.size in
            rw (e, get_or-set_same table i r 0 (omega arith)) q
        at k l (no d) = rw (get_or-set_other table i k r 0 d) (w.each k (omega arith))

    pub filling_done : count ≤ i → Tabled Q count table
    filling_done h = record { each = λ k l. w.each k (omega arith) }

module _ {A : Type 0} (f : Transition → A) (K : List Transition → Type 0) (count : ℕ) where
  -- none before place j is of the class of transition i
  module _ (i : ℕ) where
    pub record Passed (j : ℕ) : Type 0 where
      pub of : (ts : List Transition) → K ts → count ≡ length ts → (u : Transition) → get_elem? ts i ≡ some u → (k : ℕ) → k < j → (t : Transition) → get_elem? ts k ≡ some t → f t ≡ f u → ⊥

    pub passed_start : Passed 0
    passed_start = record { of = λ ts x e u g k l t h q. absurd (omega arith) }

    module _ {j : ℕ} (w : Passed j) where
      pub passed_more : ((ts : List Transition) → K ts → count ≡ length ts → (t u : Transition) → get_elem? ts j ≡ some t → get_elem? ts i ≡ some u → f t ≡ f u → ⊥) → Passed (j + 1)
      passed_more d = record { of = λ ts x e u g k l t h. at ts x e u g k l t h (ℕ_discrete k j) }
        where
          at : (ts : List Transition) → K ts → count ≡ length ts → (u : Transition) → get_elem? ts i ≡ some u → (k : ℕ) → k < j + 1 → (t : Transition) → get_elem? ts k ≡ some t → Dec (k ≡ j) → f t ≡ f u → ⊥
          at ts x e u g k l t h (yes q) = d ts x e t u (rw q at h) g
          at ts x e u g k l t h (no q) = w.of ts x e u g k (omega arith) t h

      pub passed_found : j < i → ((ts : List Transition) → K ts → (t u : Transition) → get_elem? ts j ≡ some t → get_elem? ts i ≡ some u → f t ≡ f u) → FirstAt f K count i j
      passed_found l d = record {
        of = λ ts x e u g. record { low = omega arith; same = λ t h. d ts x t u h g; least = w.of ts x e u g };
      }

      pub passed_all : i ≤ j → FirstAt f K count i i
      passed_all l = record {
        of = λ ts x e u g. record { low = omega arith; same = λ t h. let q : t ≡ u = cc in ap f q; least = λ k m. w.of ts x e u g k (omega arith) };
      }

  -- the first places up to i stand in the table, and the remainders of their keys are seen
  module _ (key : ℕ → ℕ) where
    pub record Firsts (i : ℕ) (table seen : List ℕ) : Type 0 where
      pub filling : Filling (FirstAt f K count) count i table
      pub size : length seen ≡ 2048
      pub seen_are : (k : ℕ) → k < i → get_or seen (key k % 2039) 0 ≡ 1

    pub firsts_start : (table seen : List ℕ) → count ≤ 255 → length table ≡ 256 → length seen ≡ 2048 → Firsts 0 table seen
    firsts_start table seen h e q = record { filling = filling_start (FirstAt f K count) count table h e; size = q; seen_are = λ k l. absurd (omega arith) }

    module _ {i : ℕ} {table seen : List ℕ} (w : Firsts i table seen) where
      pub firsts_more : {v r : ℕ} → i < count → FirstAt f K count i r → v ≡ r → Firsts (i + 1) (set table i v) (set seen (key i % 2039) 1)
      firsts_more {v} {r} h q e = record {
        filling = filling_more (FirstAt f K count) count w.filling h (rw e q);
        size = length-set seen (key i % 2039) 1 ∙ w.size;
        seen_are = λ k l.
            let z = w.size in
            set_seen seen (key i % 2039) (key k % 2039) (omega arith) (λ d.
            let n : k ≢ i = λ y. d (ap (λ (j : ℕ). key j % 2039) y) in
            w.seen_are k (omega arith));
      }

      pub firsts_fresh : {v : ℕ} → ((ts : List Transition) → K ts → count ≡ length ts → (k : ℕ) (t u : Transition) → get_elem? ts k ≡ some t → get_elem? ts i ≡ some u → f t ≡ f u → key k ≡ key i) → i < count → get_or seen (key i % 2039) 0 ≡ 0 → v ≡ i → Firsts (i + 1) (set table i v) (set seen (key i % 2039) 1)
      firsts_fresh d h z e = firsts_more h (passed_all i alone (omega arith)) e
        where
          alone : Passed i i
          alone = record {
            of = λ ts x q u g k l t m y.
                let a = w.seen_are k l in
                let b : get_or seen (key i % 2039) 0 ≡ 1 = ap (λ (j : ℕ). get_or seen (j % 2039) 0) (sym (d ts x q k t u m g y)) ∙ a in
                omega (arith, b, z);
          }

      pub firsts_done : count ≤ i → Tabled (FirstAt f K count) count table
      firsts_done h = filling_done (FirstAt f K count) count w.filling h

  -- what equal numbers say
  module _ {table : List ℕ} (w : Tabled (FirstAt f K count) count table) (ts : List Transition) (x : K ts) (e : count ≡ length ts) (i j : ℕ) (t u : Transition) (g : get_elem? ts i ≡ some t) (h : get_elem? ts j ≡ some u) where
    here : First f ts i t (get_or table i 0)
    here = let l = entry_below ts i t g in (w.each i (omega arith)).of ts x e t g

    there : First f ts j u (get_or table j 0)
    there = let l = entry_below ts j u h in (w.each j (omega arith)).of ts x e u h

    pub class_same : get_or table i 0 ≡ get_or table j 0 → f t ≡ f u
    class_same q =
        let l = entry_below ts i t g in
        let m = here.low in
        let v = entry_at ts (get_or table i 0) (omega arith) in
        sym (here.same v.item v.is) ∙ there.same v.item (ap (get_elem? ts) (sym q) ∙ v.is)

    pub class_apart : (get_or table i 0 ≡ get_or table j 0 → ⊥) → f t ≡ f u → ⊥
    class_apart d q =
        by (ltb (get_or table i 0) (get_or table j 0))
        (λ z.
        let l = entry_below ts i t g in
        let m = here.low in
        let v = entry_at ts (get_or table i 0) (omega arith) in
        there.least (get_or table i 0) (ltb-true _ _ z) v.item v.is (here.same v.item v.is ∙ q))
        (λ z.
        let l = entry_below ts j u h in
        let m = there.low in
        let n = ltb-false (get_or table i 0) (get_or table j 0) z in
        let v = entry_at ts (get_or table j 0) (omega arith) in
        here.least (get_or table j 0) (omega arith) v.item v.is (there.same v.item v.is ∙ sym q))
