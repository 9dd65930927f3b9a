-- Lanes: each transition is put before those of its lane, the last one first; and a sweep along a lane passes nothing that is to be taken.
use Prim.Native.Nat.{ℕ, ◌+◌, ◌-◌, ◌*◌, ◌%◌, ◌<◌, ◌≤◌}
use mathlib.Core.Path.{◌≡◌, refl, sym, ap, subst, ◌∙◌}
use mathlib.Core.Logic.{◌⊎◌, inl, inr, ◌≢◌}
use mathlib.Core.Bool.{Bool, false}
use mathlib.Core.List.{List}
use native.Mathlib.Omega.{arith}
use native.Mathlib.Decide.{ℕ_discrete}
use lib.Dec.{ltb}
use borrow.Author.Tests.{ltb-true, ltb-false}
use lib.ListN.{length, get_or, set, replicate, length-set, length-replicate, get_or-replicate}
use lib.Seq.{get_or-set_same, get_or-set_other}
use Rattle.reading.proofs.Rules.{by}
use Rattle.findings.specs.Prints.{print_at}
use Rattle.findings.specs.PairPromises.{LeadsOn}
use Rattle.findings.specs.Reaching.{Taken, Queued, Stepped, Swept}
use Rattle.findings.specs.Links.{lane_of, lead_of, Linked, Rising, Links, Ahead, Heads, Forth}
use Rattle.findings.proofs.PairTests.{leads_apart}
use Rattle.findings.proofs.ReachLaws.{leads_on, sweep_none, sweep_more, sweep_skip, sweep_all}

-- filled from the last transition on
module _ (prints : List ℕ) (count : ℕ) where
  pub heads_size : {heads : List ℕ} → heads ≡ replicate 256 255 → length heads ≡ 256
  heads_size e = ap length e ∙ length-replicate {A = ℕ} 256 255

  pub linked_none : {heads links : List ℕ} → heads ≡ replicate 256 255 → length links ≡ 256 → count ≤ 255 → Linked prints count count heads links
  linked_none {heads} e l b = record {
    heads_size = heads_size e;
    links_size = l;
    low = λ h m. let g = all h m in omega arith;
    head_on = λ h m n. let g = all h m in absurd (omega arith);
    head_first = λ h j m n x y z. absurd (omega arith);
    rising = λ k m n. absurd (omega arith);
    link_on = λ k m n. absurd (omega arith);
    link_next = λ k j m n x. absurd (omega arith);
  }
    where
      all : (h : ℕ) → h < 256 → get_or heads h 0 ≡ 255
      all h m = ap (λ (x : List ℕ). get_or x h 0) e ∙ get_or-replicate {A = ℕ} 256 h 255 0 m

  module _ {i : ℕ} {heads links : List ℕ} (w : Linked prints count (i + 1) heads links) (b : i < count) (f : count ≤ 255) where
    linked_before : Linked prints count i (set heads (lane_of prints i) i) (set links i (get_or heads (lane_of prints i) 0))
    linked_before = record {
      heads_size = length-set heads c i ∙ w.heads_size;
      links_size = length-set links i (get_or heads c 0) ∙ w.links_size;
      low = λ h m. low_at h m (ℕ_discrete h c);
      head_on = λ h m. on_at h m (ℕ_discrete h c);
      head_first = λ h j m n x. first_at h j m n x (ℕ_discrete h c) (ℕ_discrete j i);
      rising = λ k m n. rising_at k m n (ℕ_discrete k i);
      link_on = λ k m n. link_at k m n (ℕ_discrete k i);
      link_next = λ k j m n x. next_at k j m n x (ℕ_discrete k i);
    }
      where
        c : ℕ
        c = lane_of prints i

        c_small : c < 256
        c_small = omega arith

        head_new : get_or (set heads c i) c 0 ≡ i
        head_new = get_or-set_same heads c i 0 (let z = w.heads_size in let y = c_small in omega arith)

        link_new : get_or (set links i (get_or heads c 0)) i 0 ≡ get_or heads c 0
        link_new = get_or-set_same links i (get_or heads c 0) 0 (let z = w.links_size in omega arith)

        head_old : (h : ℕ) → h ≢ c → get_or (set heads c i) h 0 ≡ get_or heads h 0
        head_old h d = get_or-set_other heads c h i 0 d

        link_old : (k : ℕ) → k ≢ i → get_or (set links i (get_or heads c 0)) k 0 ≡ get_or links k 0
        link_old k d = get_or-set_other links i k (get_or heads c 0) 0 d

        low_at : (h : ℕ) → h < 256 → Dec (h ≡ c) → i ≤ get_or (set heads c i) h 0
        low_at h m (yes e) = rw (e, head_new) (omega arith)
        low_at h m (no d) = rw (head_old h d) (let z = w.low h m in omega arith)

        on_at : (h : ℕ) → h < 256 → Dec (h ≡ c) → get_or (set heads c i) h 0 < count → lane_of prints (get_or (set heads c i) h 0) ≡ h
        on_at h m (yes e) x = rw (e, head_new)
        on_at h m (no d) x = rw (head_old h d) (w.head_on h m (rw (head_old h d) at x))

        first_at : (h j : ℕ) → h < 256 → i ≤ j → j < count → Dec (h ≡ c) → Dec (j ≡ i) → j < get_or (set heads c i) h 0 → lane_of prints j ≡ h → ⊥
        first_at h j m n x (yes e) q y z = let u : get_or (set heads c i) h 0 ≡ i = ap (λ (k : ℕ). get_or (set heads c i) k 0) e ∙ head_new in omega arith
        first_at h j m n x (no d) (yes q) y z = d (sym z ∙ ap (lane_of prints) q)
        first_at h j m n x (no d) (no q) y z = w.head_first h j m (omega arith) x (rw (head_old h d) at y) z

        rising_at : (k : ℕ) → i ≤ k → k < count → Dec (k ≡ i) → k < get_or (set links i (get_or heads c 0)) k 0
        rising_at k m n (yes e) = rw (e, link_new) (let z = w.low c c_small in omega arith)
        rising_at k m n (no d) = rw (link_old k d) (w.rising k (omega arith) n)

        link_at : (k : ℕ) → i ≤ k → k < count → Dec (k ≡ i) → get_or (set links i (get_or heads c 0)) k 0 < count → lane_of prints (get_or (set links i (get_or heads c 0)) k 0) ≡ lane_of prints k
        link_at k m n (yes e) x =
            let u : get_or (set links i (get_or heads c 0)) k 0 ≡ get_or heads c 0 = ap (λ (j : ℕ). get_or (set links i (get_or heads c 0)) j 0) e ∙ link_new in
            ap (lane_of prints) u ∙ w.head_on c c_small (omega arith) ∙ ap (lane_of prints) (sym e)
        link_at k m n (no d) x = ap (lane_of prints) (link_old k d) ∙ w.link_on k (omega arith) n (rw (link_old k d) at x)

        next_at : (k j : ℕ) → i ≤ k → k < j → j < count → Dec (k ≡ i) → j < get_or (set links i (get_or heads c 0)) k 0 → lane_of prints j ≡ lane_of prints k → ⊥
        next_at k j m n x (yes e) y z =
            let u : get_or (set links i (get_or heads c 0)) k 0 ≡ get_or heads c 0 = ap (λ (l : ℕ). get_or (set links i (get_or heads c 0)) l 0) e ∙ link_new in
            w.head_first c j c_small (omega arith) x (omega arith) (z ∙ ap (lane_of prints) e)
        next_at k j m n x (no d) y z = w.link_next k j (omega arith) n x (rw (link_old k d) at y) z

  pub linked_more : {i : ℕ} {heads links : List ℕ} → Linked prints count i heads links → 0 < i → i ≤ count → count ≤ 255 → Linked prints count (i - 1) (set heads (lane_of prints (i - 1)) (i - 1)) (set links (i - 1) (get_or heads (lane_of prints (i - 1)) 0))
  linked_more {i} {heads} {links} w p b f =
      let e : i ≡ i - 1 + 1 = omega arith in
      linked_before (subst (λ (k : ℕ). Linked prints count k heads links) e w) (omega arith) f

  pub linked_all : {i : ℕ} {heads links : List ℕ} → Linked prints count i heads links → i ≤ 0 → Linked prints count 0 heads links
  linked_all {i} {heads} {links} w h = let e : i ≡ 0 = omega arith in subst (λ (k : ℕ). Linked prints count k heads links) e w

  -- what is filled
  module _ {heads links : List ℕ} (w : Linked prints count 0 heads links) where
    pub linked_links : Links prints count links
    linked_links = record {
      rising = record { at = λ k m. w.rising k (omega arith) m };
      on = λ k m. w.link_on k (omega arith) m;
      next = λ k j m. w.link_next k j (omega arith) m;
    }

    pub linked_heads : (m : List ℕ) → Heads prints count heads m
    linked_heads m = record {
      at = λ h l. record { on = w.head_on h l; before = λ j a b e. absurd (w.head_first h j l (omega arith) a b e) };
    }

-- along a lane
pub fewer : {count k : ℕ} {links : List ℕ} → Rising count links → k < count → count - get_or links k 0 < count - k
fewer {count} {k} w h = let z = w.at k h in omega arith

module _ {prints : List ℕ} {count : ℕ} {links m : List ℕ} {h k : ℕ} (L : Links prints count links) (w : Ahead prints count m h k) (l : k < count) where
  ahead_next : Taken m k → Ahead prints count m h (get_or links k 0)
  ahead_next t = record { on = λ b. L.on k l b ∙ w.on l; before = λ j a b e. at j a b e (ℕ_discrete j k) }
    where
      at : (j : ℕ) → j < count → j < get_or links k 0 → lane_of prints j ≡ h → Dec (j ≡ k) → Taken m j
      at j a b e (yes q) = subst (Taken m) (sym q) t
      at j a b e (no d) =
          by (ltb j k) (λ q. w.before j a (ltb-true j k q) e) (λ q.
          let y = ltb-false j k q in
          absurd (L.next k j (omega arith) a b (e ∙ sym (w.on l))))

module _ (count : ℕ) (links m : List ℕ) (from : ℕ) where
  pub forth_start : Forth count links m from from
  forth_start = record { of = λ prints h L w. w }

  pub forth_more : {k : ℕ} → Forth count links m from k → k < count → (get_or m k 0 ≡ 0 → ⊥) → Forth count links m from (get_or links k 0)
  forth_more w l t = record { of = λ prints h L a. ahead_next L (w.of prints h L a) l t }

-- the heads: where the lane starts of the state that p leads to, and after a sweep and a step forth
pub heads_at : {prints : List ℕ} {count : ℕ} {heads m : List ℕ} (p : ℕ) {x : ℕ} → x ≡ print_at prints p 1 → Heads prints count heads m → Ahead prints count m (lead_of prints p) (get_or heads (x % 256) 0)
heads_at {prints} {count} {heads} {m} p e w = rw e (w.at (lead_of prints p) (omega arith))

module _ {prints : List ℕ} {count : ℕ} {links heads m m' : List ℕ} (L : Links prints count links) (w : Heads prints count heads m) (size : length heads ≡ 256) (T : ℕ → Bool → Type 0) {q q' : List ℕ} {t t' : ℕ} (x : Swept T count m q t count m' q' t') where
  ahead_kept : {h k : ℕ} → Ahead prints count m h k → Ahead prints count m' h k
  ahead_kept a = record { on = a.on; before = λ j l b e. x.kept j (a.before j l b e) }

  pub heads_more : (y : ℕ) {r : ℕ} → Forth count links m' (get_or heads (y % 256) 0) r → Heads prints count (set heads (y % 256) r) m'
  heads_more y {r} f = record { at = λ g b. at g b (ℕ_discrete g (y % 256)) }
    where
      at : (g : ℕ) → g < 256 → Dec (g ≡ y % 256) → Ahead prints count m' g (get_or (set heads (y % 256) r) g 0)
      at g b (yes e) = rw (e, get_or-set_same heads (y % 256) r 0 (omega arith)) (f.of prints (y % 256) L (ahead_kept (w.at (y % 256) (omega arith))))
      at g b (no d) = rw (get_or-set_other heads (y % 256) g r 0 d) (ahead_kept (w.at g b))

-- a sweep along the lane of the state that p leads to
module _ (s rows prints : List ℕ) (count p : ℕ) where
  lead_apart : (j : ℕ) → (lane_of prints j ≡ lead_of prints p → ⊥) → LeadsOn s rows prints count p j false
  lead_apart j d =
      let z : 3 * j + 0 ≡ 3 * j = omega arith in
      leads_on s rows prints count p j (leads_apart s rows p j prints (λ e. d (ap (λ (k : ℕ). get_or prints k 0 % 256) (sym z) ∙ ap (λ (k : ℕ). k % 256) (sym e))) refl refl)

  pub record Sweeping (m q : List ℕ) (t i : ℕ) (m' q' : List ℕ) (t' : ℕ) : Type 0 where
    pub on : i < count → lane_of prints i ≡ lead_of prints p
    pub swept : Swept (LeadsOn s rows prints count p) count m q t i m' q' t'

  module _ (m q : List ℕ) (t : ℕ) where
    pub lane_start : {from : ℕ} → Queued count m q t → Ahead prints count m (lead_of prints p) from → Sweeping m q t from m q t
    lane_start {from} g a = record {
      on = a.on;
      swept = sweep_skip (LeadsOn s rows prints count p) count m q t 0 (sweep_none (LeadsOn s rows prints count p) count m q t g) from (λ j l b n. at j l b (ℕ_discrete (lane_of prints j) (lead_of prints p)));
    }
      where
        at : (j : ℕ) → j < count → j < from → Dec (lane_of prints j ≡ lead_of prints p) → Taken m j ⊎ LeadsOn s rows prints count p j false
        at j l b (yes e) = inl (a.before j l b e)
        at j l b (no d) = inr (lead_apart j d)

    module _ {i : ℕ} {m' q' : List ℕ} {t' : ℕ} (x : Sweeping m q t i m' q' t') where
      pub lane_queued : Queued count m' q' t'
      lane_queued = x.swept.queued

      pub lane_more : {links m'' q'' : List ℕ} {t'' : ℕ} → Links prints count links → i < count → Stepped (LeadsOn s rows prints count p) i m' q' t' m'' q'' t'' → Sweeping m q t (get_or links i 0) m'' q'' t''
      lane_more {links} L l y = record {
        on = λ b. L.on i l b ∙ x.on l;
        swept =
            sweep_skip (LeadsOn s rows prints count p) count m q t (i + 1) (sweep_more (LeadsOn s rows prints count p) count m q t i x.swept l y) (get_or links i 0) (λ j a b n.
            inr (lead_apart j (λ e. L.next i j (omega arith) a b (e ∙ sym (x.on l)))));
      }

      pub lane_done : count ≤ i → Swept (LeadsOn s rows prints count p) count m q t count m' q' t'
      lane_done h = sweep_all (LeadsOn s rows prints count p) count m q t i x.swept h
