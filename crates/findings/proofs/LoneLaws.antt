-- Transitions that are the only ones of their kind: how they are marked, and that a state of such alone may be left out.
use Prim.Native.Nat.{ℕ, zero, suc, ◌+◌, ◌<◌, ◌≤◌}
use mathlib.Core.Path.{◌≡◌, refl, sym, ap, ◌∙◌}
use mathlib.Core.Logic.{◌≢◌, ⊎_elim}
use mathlib.Core.List.Memᴰ
use mathlib.Core.List.{List, [], ◌∷◌, map, Memᴰ}
use mathlib.Core.Bool.{Bool, true, false, cond}
use mathlib.Core.Option.{some}
use native.Mathlib.Omega.{arith}
use lib.Dec.{eqb}
use lib.ListN.{length, get_or, get_elem?, set, length-map}
use borrow.Author.Tests.{eq-eqb, ne_eqb, eqb-true, eqb-false}
use Rattle.reading.specs.Text.{Name}
use Rattle.reading.specs.Transition.{Transition}
use Rattle.reading.proofs.Rules.{by, no}
use Rattle.typing.specs.Names.{eq_name, member}
use Rattle.typing.proofs.NameLaws.{eq_name_eq}
use Rattle.findings.specs.Lists.{placed, each, each_pair}
use Rattle.findings.specs.Finding.{Note}
use Rattle.findings.specs.Order.{ordered}
use Rattle.findings.specs.Pairs.{state_of, state_names, by_state}
use Rattle.findings.specs.Scene.{Rows}
use Rattle.findings.specs.Prints.{Prints}
use Rattle.findings.specs.PairPromises.{pair_notes}
use Rattle.findings.specs.Classes.{unmarked, Lone, Classed}
use Rattle.findings.specs.StateSteps.{undone, in_state}
use Rattle.findings.proofs.PlaceLaws.{entry_below}
use Rattle.findings.proofs.NamesOnce.{member_mem, mem_member}
use Rattle.findings.proofs.LeastLaws.{skims}
use Rattle.findings.proofs.ClashLaws.{kind_none}
use Rattle.findings.proofs.FirstLaws.{two_kinds}
use Rattle.findings.proofs.RivalLaws.{each_pair_none}

-- a mark less keeps what was not marked
cleared : (marks : List ℕ) (i k : ℕ) → (k ≢ i → get_or marks k 0 ≡ 0) → get_or (set marks i 0) k 0 ≡ 0
cleared [] i k h = refl
cleared (x ∷ xs) zero zero h = refl
cleared (x ∷ xs) zero (suc k) h = h (λ e. omega arith)
cleared (x ∷ xs) (suc i) zero h = h (λ e. omega arith)
cleared (x ∷ xs) (suc i) (suc k) h = cleared xs i k (λ d. h (λ e. d (omega arith)))

module _ (marks : List ℕ) (i j : ℕ) where
  pub unmark_one : i ≡ j → marks ≡ unmarked i j marks
  unfolding unmarked
  unmark_one e = rw (eq-eqb i j e)

  pub unmark_two : (i ≡ j → ⊥) → set (set marks i 0) j 0 ≡ unmarked i j marks
  unfolding unmarked
  unmark_two d = rw (ne_eqb i j d)

  -- a place is not marked where it was not, or is one of the two
  unmark_at : (k : ℕ) → ((i ≢ j → k ≢ i) → (i ≢ j → k ≢ j) → get_or marks k 0 ≡ 0) → get_or (unmarked i j marks) k 0 ≡ 0
  unfolding unmarked
  unmark_at k h =
      by (eqb i j)
      (λ e. rw e (h (λ d. absurd (d (eqb-true i j e))) (λ d. absurd (d (eqb-true i j e)))))
      (λ e. rw e (cleared (set marks i 0) j k (λ d. cleared marks i k (λ n. h (λ m. n) (λ m. d)))))

-- of those passed, one that has another's number is not marked, nor is that other
module _ (kinds : List ℕ) where
  pub record Unmarking (i : ℕ) (marks : List ℕ) : Type 0 where
    pub own : (k : ℕ) → k < i → k ≢ get_or kinds k 0 → get_or marks k 0 ≡ 0
    pub first : (k : ℕ) → k < i → k ≢ get_or kinds k 0 → get_or marks (get_or kinds k 0) 0 ≡ 0

  pub unmarking_start : (marks : List ℕ) → Unmarking 0 marks
  unmarking_start marks = record { own = λ k l h. absurd (omega arith); first = λ k l h. absurd (omega arith) }

  module _ {i : ℕ} {marks : List ℕ} (w : Unmarking i marks) where
    pub unmarking_more : {marks' : List ℕ} → marks' ≡ unmarked i (get_or kinds i 0) marks → Unmarking (i + 1) marks'
    unmarking_more e = rw e (record {
      own = λ k l h. unmark_at marks i (get_or kinds i 0) k (λ a b.
          let n : k ≢ i = λ q. a (rw q at h) q in
          w.own k (omega arith) h);
      first = λ k l h. unmark_at marks i (get_or kinds i 0) (get_or kinds k 0) (λ a b.
          let n : k ≢ i = λ q. b (rw q at h) (ap (λ (j : ℕ). get_or kinds j 0) q) in
          w.first k (omega arith) h);
    })

    pub unmarking_done : {count : ℕ} → count ≤ i → Lone count kinds marks
    unmarking_done g = record {
      of = λ k j l m d q.
          by (eqb k (get_or kinds k 0))
          (λ e. let z = eqb-true k (get_or kinds k 0) e ∙ q in ap (λ (p : ℕ). get_or marks p 0) z ∙ w.first j (omega arith) (λ y. d (z ∙ sym y)))
          (λ e. w.own k (omega arith) (eqb-false k (get_or kinds k 0) e));
    }

-- the states of those that are not marked
module _ (marks : List ℕ) where
  undone_few : (k : ℕ) (ts : List Transition) → length (undone marks k ts) ≤ length ts
  unfolding undone
  undone_few k [] = omega arith
  undone_few k (t ∷ ts) =
      let l = undone_few (suc k) ts in
      by (eqb (get_or marks k 0) 0) (λ e. rw e (omega arith)) (λ e. rw e (omega arith))

  undone_some : (k : ℕ) (ts : List Transition) (v : Name) → Memᴰ v (undone marks k ts) → Memᴰ v (map state_of ts)
  unfolding undone
  undone_some k [] v m = m
  undone_some k (t ∷ ts) v m = go (eqb (get_or marks k 0) 0) (undone_some (suc k) ts v) m
    where
      go : (b : Bool) {l r : List Name} → (Memᴰ v l → Memᴰ v r) → Memᴰ v (cond b (t.state ∷ l) l) → Memᴰ v (t.state ∷ r)
      go true h n = ⊎_elim (λ e. Memᴰ.head e) (λ i. Memᴰ.tail (h i)) (Memᴰ.cases_cons n)
      go false h n = Memᴰ.tail (h n)

  undone_at : (o : ℕ) (ts : List Transition) (i : ℕ) (t : Transition) → get_elem? ts i ≡ some t → (k : ℕ) → k ≡ i + o → get_or marks k 0 ≡ 0 → Memᴰ t.state (undone marks o ts)
  unfolding undone
  undone_at o [] i t g k e z = no (cc)
  undone_at o (u ∷ ts) zero t g k e z =
      let q : u ≡ t = cc in
      let y : k ≡ o = omega arith in
      rw (eq-eqb (get_or marks o 0) 0 (rw y at z)) (Memᴰ.head (ap state_of (sym q)))
  undone_at o (u ∷ ts) (suc i) t g k e z = go (eqb (get_or marks o 0) 0) (undone_at (suc o) ts i t g k (omega arith) z)
    where
      go : (b : Bool) {l : List Name} → Memᴰ t.state l → Memᴰ t.state (cond b (u.state ∷ l) l)
      go true m = Memᴰ.tail m
      go false m = m

-- what is noted of one state
abbrev pub group : Bool → List Transition → Name → List Note
group warn ts w = each_pair (in_state warn w) (placed 0 ts)

-- nothing is noted of a state whose transitions are all marked
module _ {s rows prints : List ℕ} {count : ℕ} {kinds guards : List ℕ} (c : Classed s rows prints count kinds guards) {marks : List ℕ} (m : Lone count kinds marks) (warn : Bool) (ts : List Transition) (R : Rows s rows ts) (P : Prints prints ts) (e : count ≡ length ts) where
  paired : (i j : ℕ) (t u : Transition) → i < j → get_elem? ts i ≡ some t → get_elem? ts j ≡ some u → get_or kinds j 0 ≡ get_or kinds i 0 → member t.state (undone marks 0 ts) ≡ true
  paired i j t u l f g z =
      let a = entry_below ts j u g in
      mem_member (undone_at marks 0 ts i t f i (omega arith) (m.of i j (omega arith) (omega arith) (λ d. omega arith) (sym z)))

  group_none : (v : Name) → member v (undone marks 0 ts) ≡ false → group warn ts v ≡ []
  unfolding in_state
  group_none v h = each_pair_none (in_state warn v) 0 ts (λ i j x y l f g.
      by (eq_name v x.item.state)
      (λ q. rw q (sym (kind_none warn x y (two_kinds c ts R P e i j x.item y.item f g (λ z.
      let p = paired i j x.item y.item l f g z in
      let r = eq_name_eq v x.item.state q in
      no (cc))))))
      (λ q. rw q))

  pub undone_groups : (k : ℕ) → length ts ≤ k → by_state (pair_notes warn) ts ≡ each (group warn ts) (ordered k (undone marks 0 ts))
  unfolding by_state state_names in_state
  undone_groups k l =
      skims (group warn ts) (length ts) (map state_of ts) (omega (arith, length-map ts state_of)) k (undone marks 0 ts) (omega (arith, undone_few marks 0 ts))
      (record { some_of = λ v h. mem_member (undone_some marks 0 ts v (member_mem v (undone marks 0 ts) h)); others = λ v h g. group_none v h })
