-- Chains: items that are linked from the last on are on the lanes of their prints, and so a walk along a print's lane passes no item of the print.
use Prim.Native.Nat.{ℕ, zero, suc, ◌+◌, ◌-◌, ◌*◌, ◌/◌, ◌%◌, ◌^◌, ◌<◌, ◌≤◌}
use mathlib.Core.Path.{◌≡◌, refl, sym, ap, ◌∙◌}
use mathlib.Core.List.{List}
use native.Mathlib.Omega.{arith}
use native.Mathlib.Nat.{mod-lt}
use native.Mathlib.Decide.{ℕ_discrete}
use lib.ListN.{length, get_or, set, take, replicate, length-set}
use lib.Seq.{get_or-set_same, get_or-set_other, take-set-le}
use borrow.Author.Tests.{eq-eqb, ne_eqb}
use Rattle.reading.specs.Read.{pick}
use Rattle.typing.specs.Rolls.{print_of, hint_of, next_of, roll_lane, Chained, Hinted, StartsOn, next_from, PutsLinks, PutsHints}

lane_less : (n p : ℕ) → 0 < n → roll_lane n p < n
unfolding roll_lane
lane_less n p h = mod-lt _ h

-- items of the same prints, hints and nexts are on their lanes too
module _ {print hint next print' hint' next' : ℕ → ℕ} {n : ℕ} (c : Chained print n hint next) (p : (i : ℕ) → i < n → print' i ≡ print i) (h : (i : ℕ) → i < n → hint' i ≡ hint i) (x : (i : ℕ) → i < n → next' i ≡ next i) where
  lane_same : (i : ℕ) → i < n → roll_lane n (print' i) ≡ roll_lane n (print i)
  lane_same i a = ap (roll_lane n) (p i a)

  hint_same : (i : ℕ) → i < n → hint' (roll_lane n (print' i)) ≡ hint (roll_lane n (print i))
  hint_same i a = ap hint' (lane_same i a) ∙ h (roll_lane n (print i)) (lane_less n (print i) (omega arith))

  pub chained_same : Chained print' n hint' next'
  chained_same = record {
    some_hint = λ i a. rw (hint_same i a) (c.some_hint i a);
    hint_first = λ i a. rw (hint_same i a) (c.hint_first i a);
    hint_on = λ i a.
        let l = c.some_hint i a in
        let m = c.hint_first i a in
        rw (hint_same i a) (lane_same _ (omega arith) ∙ c.hint_on i a ∙ sym (lane_same i a));
    next_first = λ i j a b e d.
        let k : i < n = omega arith in
        rw (x i k) (c.next_first i j a b (sym (lane_same j b) ∙ e ∙ lane_same i k) (λ z. d (p j b ∙ z ∙ sym (p i k))));
    next_on = λ i a l m.
        let e = x i a in
        rw e (lane_same _ (omega arith) ∙ c.next_on i a (omega arith) (omega arith) ∙ sym (lane_same i a));
  }

-- the next of an item
module _ (T : List ℕ) (o i : ℕ) (N : List ℕ) where
  pub next_none : (h : ℕ) → h ≡ 0 → 0 ≡ next_from T o i h N
  unfolding next_from
  next_none h e = rw e

  pub next_same : (h : ℕ) → (h ≡ 0 → ⊥) → print_of (get_or T (o + (h - 1)) 0) ≡ print_of (get_or T (o + i) 0) → get_or N (h - 1) 0 ≡ next_from T o i h N
  unfolding next_from pick
  next_same zero d e = absurd (d refl)
  next_same (suc j) d e = let z : suc j - 1 ≡ j = omega arith in rw (z, eq-eqb (print_of (get_or T (o + j) 0)) (print_of (get_or T (o + i) 0)) (rw z at e))

  pub next_other : (h : ℕ) → (h ≡ 0 → ⊥) → (print_of (get_or T (o + (h - 1)) 0) ≡ print_of (get_or T (o + i) 0) → ⊥) → h ≡ next_from T o i h N
  unfolding next_from pick
  next_other zero d e = absurd (d refl)
  next_other (suc j) d e = let z : suc j - 1 ≡ j = omega arith in rw (ne_eqb (print_of (get_or T (o + j) 0)) (print_of (get_or T (o + i) 0)) (rw z at e))

-- items are linked from the last on: those from item i on are
module _ (T : List ℕ) (o n : ℕ) where
  abbrev print : ℕ → ℕ
  print j = print_of (get_or T (o + j) 0)

  pub record Linking (i : ℕ) (H N : List ℕ) : Type 0 where
    pub low : i ≤ n
    pub hints_size : length H ≡ 256
    pub nexts_size : length N ≡ 256
    pub hint_first : (j : ℕ) → i ≤ j → j < n → (0 < get_or H (roll_lane n (print j)) 0) × (get_or H (roll_lane n (print j)) 0 ≤ j + 1)
    pub hint_on : (h : ℕ) → 0 < get_or H h 0 → (i < get_or H h 0) × (get_or H h 0 ≤ n) × (roll_lane n (print (get_or H h 0 - 1)) ≡ h)
    pub next_first : (j k : ℕ) → i ≤ j → j < k → k < n → roll_lane n (print k) ≡ roll_lane n (print j) → (print k ≡ print j → ⊥) → (j + 1 < get_or N j 0) × (get_or N j 0 ≤ k + 1)
    pub next_on : (j : ℕ) → i ≤ j → j < n → 0 < get_or N j 0 → roll_lane n (print (get_or N j 0 - 1)) ≡ roll_lane n (print j)

  pub link_start : (H N : List ℕ) → length H ≡ 256 → length N ≡ 256 → ((h : ℕ) → get_or H h 0 ≡ 0) → Linking n H N
  link_start H N l m z = record {
    low = omega arith;
    hints_size = l;
    nexts_size = m;
    hint_first = λ j a b. absurd (omega arith);
    hint_on = λ h a. let e = z h in absurd (omega arith);
    next_first = λ j k a b c. absurd (omega arith);
    next_on = λ j a b. absurd (omega arith);
  }

  module _ {i : ℕ} {H N : List ℕ} (g : Linking i H N) where
    pub link_done : i ≤ 0 → Chained print n (λ h. get_or H h 0) (λ j. get_or N j 0)
    link_done z = record {
      some_hint = λ j a. (g.hint_first j (omega arith) a).0;
      hint_first = λ j a. (g.hint_first j (omega arith) a).1;
      hint_on = λ j a. (g.hint_on (roll_lane n (print j)) (g.hint_first j (omega arith) a).0).2;
      next_first = λ j k. g.next_first j k (omega arith);
      next_on = λ j a l m. g.next_on j (omega arith) a l;
    }

    pub link_room : (h m : ℕ) → o + n ≤ m → o + get_or H h 0 ≤ m
    link_room h m l = at (ℕ_discrete (get_or H h 0) 0)
      where
        at : Dec (get_or H h 0 ≡ 0) → o + get_or H h 0 ≤ m
        at (yes z) = omega arith
        at (no d) = let k = (g.hint_on h (omega arith)).1 in omega arith

    -- the turn of item i - 1, whose lane is c
    module _ (few : n ≤ 255) (more : 0 < i) {c x : ℕ} (lane : c ≡ roll_lane n (get_or T (o + (i - 1)) 0 % 4294967296)) (on : c < n) (e : x ≡ next_from T o (i - 1) (get_or H c 0) N) where
      abbrev hint : ℕ
      hint = get_or H c 0

      -- its lane goes on with no item; with one of its print; with one of another
      data Goes : Type 0 where
        ends : hint ≡ 0 → x ≡ 0 → Goes
        alike : 0 < hint → print (hint - 1) ≡ print (i - 1) → x ≡ get_or N (hint - 1) 0 → Goes
        apart : 0 < hint → (print (hint - 1) ≡ print (i - 1) → ⊥) → x ≡ hint → Goes

      goes : Goes
      goes = at (ℕ_discrete hint 0) (ℕ_discrete (print (hint - 1)) (print (i - 1)))
        where
          at : Dec (hint ≡ 0) → Dec (print (hint - 1) ≡ print (i - 1)) → Goes
          at (yes z) q = ends z (e ∙ sym (next_none T o (i - 1) N hint z))
          at (no z) (yes p) = alike (omega arith) p (e ∙ sym (next_same T o (i - 1) N hint z p))
          at (no z) (no p) = apart (omega arith) p (e ∙ sym (next_other T o (i - 1) N hint z p))

      turn_first : (k : ℕ) → i - 1 < k → k < n → roll_lane n (print k) ≡ roll_lane n (print (i - 1)) → (print k ≡ print (i - 1) → ⊥) → (i - 1 + 1 < x) × (x ≤ k + 1)
      turn_first k a b l d = at goes
        where
          f : (0 < hint) × (hint ≤ k + 1)
          f = rw (l ∙ sym lane) at (g.hint_first k (omega arith) b)

          at : Goes → (i - 1 + 1 < x) × (x ≤ k + 1)
          at (ends z q) = let y = f.0 in absurd (omega arith)
          at (alike z p q) =
              let w = g.hint_on c z in
              let v = w.0 in
              let y = f.1 in
              let u : (k ≡ hint - 1 → ⊥) = λ (r : k ≡ hint - 1). d (ap print r ∙ p) in
              let m = g.next_first (hint - 1) k (omega arith) (omega arith) b (l ∙ ap (roll_lane n) (sym p)) (λ r. d (r ∙ p)) in
              let s = m.0 in
              let t = m.1 in
              (omega arith, omega arith)
          at (apart z p q) = let v = (g.hint_on c z).0 in let y = f.1 in (omega arith, omega arith)

      turn_on : 0 < x → roll_lane n (print (x - 1)) ≡ roll_lane n (print (i - 1))
      turn_on l = at goes
        where
          at : Goes → roll_lane n (print (x - 1)) ≡ roll_lane n (print (i - 1))
          at (ends z q) = absurd (omega arith)
          at (alike z p q) =
              let w = g.hint_on c z in
              let v = w.0 in
              let u = w.1 in
              rw q (g.next_on (hint - 1) (omega arith) (omega arith) (omega arith) ∙ ap (roll_lane n) p)
          at (apart z p q) = rw q ((g.hint_on c z).2 ∙ lane)

      abbrev H' : List ℕ
      H' = set H c (i - 1 + 1)

      abbrev N' : List ℕ
      N' = set N (i - 1) x

      hint_here : get_or H' c 0 ≡ i - 1 + 1
      hint_here = let y = g.hints_size in get_or-set_same H c (i - 1 + 1) 0 (omega arith)

      hint_other : (h : ℕ) → (h ≡ c → ⊥) → get_or H' h 0 ≡ get_or H h 0
      hint_other h d = get_or-set_other H c h (i - 1 + 1) 0 d

      next_here : get_or N' (i - 1) 0 ≡ x
      next_here = let y = g.nexts_size in let z = g.low in get_or-set_same N (i - 1) x 0 (omega arith)

      next_later : (j : ℕ) → i ≤ j → get_or N' j 0 ≡ get_or N j 0
      next_later j a = get_or-set_other N (i - 1) j x 0 (λ (z : j ≡ i - 1). omega arith)

      first_at : (j : ℕ) → i - 1 ≤ j → j < n → Dec (roll_lane n (print j) ≡ c) → (0 < get_or H' (roll_lane n (print j)) 0) × (get_or H' (roll_lane n (print j)) 0 ≤ j + 1)
      first_at j a b (yes z) = rw (z, hint_here) (omega arith, omega arith)
      first_at j a b (no d) = rw (hint_other _ d) (g.hint_first j (later (ℕ_discrete j (i - 1))) b)
        where
          later : Dec (j ≡ i - 1) → i ≤ j
          later (yes z) = absurd (d (ap (λ (k : ℕ). roll_lane n (print k)) z ∙ sym lane))
          later (no y) = omega arith

      on_at : (h : ℕ) → Dec (h ≡ c) → 0 < get_or H' h 0 → (i - 1 < get_or H' h 0) × (get_or H' h 0 ≤ n) × (roll_lane n (print (get_or H' h 0 - 1)) ≡ h)
      on_at h (yes z) l = let y = g.low in let k : i - 1 + 1 - 1 ≡ i - 1 = omega arith in rw (z, hint_here, k) (omega arith, omega arith, sym lane)
      on_at h (no d) l = let w = g.hint_on h (rw (hint_other h d) at l) in let v = w.0 in rw (hint_other h d) (omega arith, w.1, w.2)

      next_first_at : (j k : ℕ) → i - 1 ≤ j → Dec (j ≡ i - 1) → j < k → k < n → roll_lane n (print k) ≡ roll_lane n (print j) → (print k ≡ print j → ⊥) → (j + 1 < get_or N' j 0) × (get_or N' j 0 ≤ k + 1)
      next_first_at j k a (yes z) b l m d = rw (z, next_here) (turn_first k (omega arith) l (rw z at m) (rw z at d))
      next_first_at j k a (no y) b l m d = rw (next_later j (omega arith)) (g.next_first j k (omega arith) b l m d)

      next_on_at : (j : ℕ) → i - 1 ≤ j → Dec (j ≡ i - 1) → j < n → 0 < get_or N' j 0 → roll_lane n (print (get_or N' j 0 - 1)) ≡ roll_lane n (print j)
      next_on_at j a (yes z) b l = rw (z, next_here) (turn_on (rw (z, next_here) at l))
      next_on_at j a (no y) b l = let q = next_later j (omega arith) in rw q (g.next_on j (omega arith) b (rw q at l))

      pub link_more : Linking (i - 1) H' N'
      link_more = record {
        low = let y = g.low in omega arith;
        hints_size = length-set H c (i - 1 + 1) ∙ g.hints_size;
        nexts_size = length-set N (i - 1) x ∙ g.nexts_size;
        hint_first = λ j a b. first_at j a b (ℕ_discrete _ c);
        hint_on = λ h. on_at h (ℕ_discrete h c);
        next_first = λ j k a. next_first_at j k a (ℕ_discrete j (i - 1));
        next_on = λ j a. next_on_at j a (ℕ_discrete j (i - 1));
      }

-- where nothing is put there are zeros
pub zeros : (k h : ℕ) → get_or {A = ℕ} (replicate k 0) h 0 ≡ 0
zeros zero h = refl
zeros (suc k) zero = refl
zeros (suc k) (suc h) = zeros k h

-- the links of the items before item i are put
module _ (T : List ℕ) (o n : ℕ) (H N : List ℕ) where
  pub record Putting (i : ℕ) (T' : List ℕ) : Type 0 where
    pub low : i ≤ n
    pub size : length T' ≡ length T
    pub kept : take o T' ≡ take o T
    pub later : (j : ℕ) → i ≤ j → get_or T' (o + j) 0 ≡ get_or T (o + j) 0
    pub index : (j : ℕ) → j < i → get_or T' (o + j) 0 ≡ print_of (get_or T (o + j) 0) + 2 ^ 32 * (get_or H j 0 + 2 ^ 8 * get_or N j 0)
    pub bytes : (j : ℕ) → j < i → (get_or H j 0 < 2 ^ 8) × (get_or N j 0 < 2 ^ 8)

  pub links_start : Putting 0 T
  links_start = record { low = omega arith; size = refl; kept = refl; later = λ j a. refl; index = λ j a. absurd (omega arith); bytes = λ j a. absurd (omega arith) }

  module _ {i : ℕ} {T' : List ℕ} (g : Putting i T') where
    pub links_done : n ≤ i → PutsLinks T o n H N T'
    links_done h = record { size = g.size; kept = g.kept; index = λ j a. g.index j (omega arith); bytes = λ j a. g.bytes j (omega arith) }

    pub links_more : o + n ≤ length T → i < n → get_or H i 0 < 2 ^ 8 → get_or N i 0 < 2 ^ 8 → Putting (i + 1) (set T' (o + i) (get_or T' (o + i) 0 % 4294967296 + (get_or H i 0 + get_or N i 0 * 256) * 4294967296))
    links_more room h k l = record {
      low = omega arith;
      size = length-set T' (o + i) w ∙ g.size;
      kept = take-set-le o T' (o + i) w (omega arith) ∙ g.kept;
      later = λ j a. get_or-set_other T' (o + i) (o + j) w 0 (λ (e : o + j ≡ o + i). omega arith) ∙ g.later j (omega arith);
      index = λ j a. at j a (ℕ_discrete j i);
      bytes = λ j a. bytes_at j a (ℕ_discrete j i);
    }
      where
        w : ℕ
        w = get_or T' (o + i) 0 % 4294967296 + (get_or H i 0 + get_or N i 0 * 256) * 4294967296

        at : (j : ℕ) → j < i + 1 → Dec (j ≡ i) → get_or (set T' (o + i) w) (o + j) 0 ≡ print_of (get_or T (o + j) 0) + 2 ^ 32 * (get_or H j 0 + 2 ^ 8 * get_or N j 0)
        at j a (yes e) = let y = g.size in let z = g.later i (omega arith) in rw e (get_or-set_same T' (o + i) w 0 (omega arith) ∙ omega arith)
        at j a (no d) = get_or-set_other T' (o + i) (o + j) w 0 (λ (e : o + j ≡ o + i). d (omega arith)) ∙ g.index j (omega arith)

        bytes_at : (j : ℕ) → j < i + 1 → Dec (j ≡ i) → (get_or H j 0 < 2 ^ 8) × (get_or N j 0 < 2 ^ 8)
        bytes_at j a (yes e) = rw e (k, l)
        bytes_at j a (no d) = g.bytes j (omega arith)

  -- where the items are linked
  pub hints_put : {T' : List ℕ} → Chained (λ i. print_of (get_or T (o + i) 0)) n (λ h. get_or H h 0) (λ i. get_or N i 0) → PutsLinks T o n H N T' → PutsHints T o n T'
  hints_put {T'} c p = record {
    size = p.size;
    kept = p.kept;
    print_kept = print_is;
    bare = λ i a. let e = p.index i a in let b = p.bytes i a in omega arith;
    hinted = chained_same c print_is hint_is next_is;
  }
    where
      print_is : (i : ℕ) → i < n → print_of (get_or T' (o + i) 0) ≡ print_of (get_or T (o + i) 0)
      print_is i a = let e = p.index i a in omega arith

      hint_is : (i : ℕ) → i < n → hint_of (get_or T' (o + i) 0) ≡ get_or H i 0
      hint_is i a = let e = p.index i a in let b = p.bytes i a in omega arith

      next_is : (i : ℕ) → i < n → next_of (get_or T' (o + i) 0) ≡ get_or N i 0
      next_is i a = let e = p.index i a in let b = p.bytes i a in omega arith

-- the walk along the lane of a print: an item of the print is not before item h - 1, which is on the lane
module _ (T : List ℕ) (o n p : ℕ) where
  pub record Leads (h left : ℕ) : Type 0 where
    pub of : Hinted T o n → (i : ℕ) → i < n → print_of (get_or T (o + i) 0) ≡ p → (0 < h) × (h ≤ i + 1) × (n < left + h) × (roll_lane n (print_of (get_or T (o + (h - 1)) 0)) ≡ roll_lane n p)

  pub leads_start : {c : ℕ} → c ≡ roll_lane n p → Leads (get_or T (o + c) 0 / 4294967296 % 256) n
  leads_start {c} e = record {
    of = λ g i a z.
        let y : roll_lane n (print_of (get_or T (o + i) 0)) ≡ c = ap (roll_lane n) z ∙ sym e in
        let l = rw y at (g.some_hint i a) in
        let m = rw y at (g.hint_first i a) in
        (l, m, omega arith, rw y at (g.hint_on i a) ∙ e);
  }

  module _ {h left : ℕ} (g : Leads h left) where
    -- where no item is, none has the print
    out : ((i : ℕ) → i < n → 0 < h → h ≤ i + 1 → n < left + h → ⊥) → StartsOn T o n p n
    unfolding StartsOn
    out f = λ c i a z. let w = g.of c i a z in absurd (f i a w.0 w.1 w.2)

    pub leads_end : h ≡ 0 → StartsOn T o n p n
    leads_end e = out (λ i a l m k. omega arith)

    pub leads_past : n < h → StartsOn T o n p n
    leads_past e = out (λ i a l m k. omega arith)

    pub leads_over : left ≤ 0 → StartsOn T o n p n
    leads_over e = out (λ i a l m k. omega arith)

    pub leads_hit : StartsOn T o n p (h - 1)
    unfolding StartsOn
    leads_hit = λ c i a z. let w = g.of c i a z in let y = w.1 in omega arith

    pub leads_more : 0 < left → (get_or T (o + (h - 1)) 0 % 4294967296 ≡ p → ⊥) → Leads (get_or T (o + (h - 1)) 0 / 1099511627776 % 256) (left - 1)
    leads_more l d = record {
      of = λ c i a z.
          let w = g.of c i a z in
          let y = w.0 in
          let m = w.1 in
          let k = w.2 in
          let u : (i ≡ h - 1 → ⊥) = λ (r : i ≡ h - 1). d (ap (λ (j : ℕ). print_of (get_or T (o + j) 0)) (sym r) ∙ z) in
          let v = c.next_first (h - 1) i (omega arith) a (ap (roll_lane n) z ∙ sym w.3) (λ r. d (sym r ∙ z)) in
          let s = v.0 in
          let t = v.1 in
          (omega arith, t, omega arith, c.next_on (h - 1) (omega arith) (omega arith) (omega arith) ∙ w.3);
    }
