-- The walk's marks: each step keeps what is queued, and at the end the marks are closed under steps, with a chain to each.
use Prim.Native.Nat.{ℕ, zero, suc, ◌+◌, ◌*◌, ◌<◌, ◌≤◌}
use mathlib.Core.Path.{◌≡◌, refl, sym, ap, subst, ◌∙◌}
use mathlib.Core.Logic.{◌⊎◌, inl, inr}
use mathlib.Core.Bool.{Bool, true, false, cond}
use mathlib.Core.List.{List}
use native.Mathlib.Omega.{arith}
use lib.ListN.{length, get_or, set, replicate, length-set, length-replicate, get_or-replicate}
use lib.Seq.{get_or-set_same, get_or-set_other}
use lib.Dec.{eqb, ltb}
use borrow.Author.Tests.{eqb-true, eqb-false, ltb-true, ltb-false}
use Rattle.reading.specs.Text.{Name}
use Rattle.reading.specs.Skip.{text_at}
use Rattle.reading.proofs.Rules.{by}
use Rattle.reading.proofs.Walks.{name_text}
use Rattle.typing.specs.Names.{eq_name}
use Rattle.typing.specs.Lanes.{print}
use Rattle.typing.proofs.NameLaws.{eq_name_eq}
use Rattle.findings.specs.Scene.{field}
use Rattle.findings.specs.PairPromises.{LeadsTo, LeadsOn}
use Rattle.findings.specs.Reaching.{Taken, free, Queued, Stepped, stays, takes, Swept, Chained, first, next, Walked, BeginsAt}
use Rattle.findings.proofs.TouchLaws.{last_or_before}
use Rattle.findings.proofs.PairTests.{isn't}

same_or_not : (a b : ℕ) → (a ≡ b) ⊎ (a ≡ b → ⊥)
same_or_not a b = go (eqb a b) refl
  where
    go : (t : Bool) → eqb a b ≡ t → (a ≡ b) ⊎ (a ≡ b → ⊥)
    go true e = inl (eqb-true a b e)
    go false e = inr (eqb-false a b e)

-- one mark more
module _ (m : List ℕ) (i : ℕ) (h : i < length m) where
  set_taken : Taken (set m i 1) i
  set_taken z = let g : get_or (set m i 1) i 0 ≡ 1 = get_or-set_same m i 1 0 h in omega arith

  set_keeps : (j : ℕ) → Taken m j → Taken (set m i 1) j
  set_keeps j t = go (same_or_not j i)
    where
      go : (j ≡ i) ⊎ (j ≡ i → ⊥) → Taken (set m i 1) j
      go (inl p) = subst (Taken (set m i 1)) (sym p) set_taken
      go (inr p) = λ r. t (sym (get_or-set_other m i j 1 0 p) ∙ r)

  set_only : (j : ℕ) → Taken (set m i 1) j → (j ≡ i) ⊎ Taken m j
  set_only j t = go (same_or_not j i)
    where
      go : (j ≡ i) ⊎ (j ≡ i → ⊥) → (j ≡ i) ⊎ Taken m j
      go (inl p) = inl p
      go (inr p) = inr (λ r. t (get_or-set_other m i j 1 0 p ∙ r))

-- how many are free
free_set_past : (m : List ℕ) (n i : ℕ) → n ≤ i → free (set m i 1) n ≡ free m n
unfolding free
free_set_past m zero i h = refl
free_set_past m (suc n) i h = rw (get_or-set_other m i n 1 0 (λ e. omega arith), free_set_past m n i (omega arith))

free_set : (m : List ℕ) (n i : ℕ) → i < n → i < length m → get_or m i 0 ≡ 0 → suc (free (set m i 1) n) ≡ free m n
unfolding free
free_set m zero i h l e = absurd (omega arith)
free_set m (suc n) i h l e = go (last_or_before i n (omega arith)) (free_set m n i)
  where
    keep : (b : Bool) (x y : ℕ) → suc x ≡ y → suc (cond b (suc x) x) ≡ cond b (suc y) y
    keep true x y q = ap suc q
    keep false x y q = q

    go : (i ≡ n) ⊎ (i < n) → (i < n → i < length m → get_or m i 0 ≡ 0 → suc (free (set m i 1) n) ≡ free m n) → suc (cond (eqb (get_or (set m i 1) n 0) 0) (suc (free (set m i 1) n)) (free (set m i 1) n)) ≡ cond (eqb (get_or m n 0) 0) (suc (free m n)) (free m n)
    go (inl p) r =
        let a : get_or (set m i 1) n 0 ≡ 1 = ap (λ (k : ℕ). get_or (set m i 1) k 0) (sym p) ∙ get_or-set_same m i 1 0 l in
        let b : get_or m n 0 ≡ 0 = ap (λ (k : ℕ). get_or m k 0) (sym p) ∙ e in
        rw (a, b) (ap suc (free_set_past m n i (omega arith)))
    go (inr p) r = rw (get_or-set_other m i n 1 0 (λ q. omega arith)) (keep (eqb (get_or m n 0) 0) (free (set m i 1) n) (free m n) (r p l e))

free_all : (n : ℕ) → n ≤ 256 → free (replicate 256 0) n ≡ n
unfolding free
free_all zero h = refl
free_all (suc n) h = rw (get_or-replicate {A = ℕ} 256 n 0 0 h, free_all n (omega arith))

-- nothing is taken yet
pub queued_none : (count : ℕ) (m q : List ℕ) → m ≡ replicate 256 0 → length q ≡ 256 → count ≤ 255 → Queued count m q 0
queued_none count m q e w h = record {
  long = ap length e ∙ length-replicate {A = ℕ} 256 0;
  wide = w;
  few = h;
  balance = omega (arith, ap (λ (x : List ℕ). free x count) e ∙ free_all count (omega arith));
  inside = λ k l. absurd (omega arith);
  taken = λ k l. absurd (omega arith);
  found = λ i l t. absurd (t (ap (λ (x : List ℕ). get_or x i 0) e ∙ get_or-replicate {A = ℕ} 256 i 0 0 (omega arith)));
}

-- there is room for one that is not taken
pub queue_room : (count : ℕ) (m q : List ℕ) (t i : ℕ) → Queued count m q t → i < count → get_or m i 0 ≡ 0 → t < length q
queue_room count m q t i g h e = omega (arith, g.balance, g.few, g.wide, g.long, free_set m count i h (omega (arith, g.long, g.few)) e)

-- one more is taken
module _ (count : ℕ) (m q : List ℕ) (t i : ℕ) (g : Queued count m q t) (h : i < count) (e : get_or m i 0 ≡ 0) where
  mark_room : i < length m
  mark_room = omega (arith, g.long, g.few)

  room : t < length q
  room = queue_room count m q t i g h e

  queued_more : Queued count (set m i 1) (set q t i) (t + 1)
  queued_more = record {
    long = length-set m i 1 ∙ g.long;
    wide = length-set q t i ∙ g.wide;
    few = g.few;
    balance = omega (arith, g.balance, free_set m count i h mark_room e);
    inside = λ k l. in_go k (last_or_before k t l);
    taken = λ k l. taken_go k (last_or_before k t l);
    found = λ j l x. found_go j l (set_only m i mark_room j x);
  }
    where
      in_go : (k : ℕ) → (k ≡ t) ⊎ (k < t) → get_or (set q t i) k 0 < count
      in_go k (inl p) = rw (p, get_or-set_same q t i 0 room) h
      in_go k (inr p) = rw (get_or-set_other q t k i 0 (λ z. omega arith)) (g.inside k p)

      taken_go : (k : ℕ) → (k ≡ t) ⊎ (k < t) → Taken (set m i 1) (get_or (set q t i) k 0)
      taken_go k (inl p) = rw (p, get_or-set_same q t i 0 room) (set_taken m i mark_room)
      taken_go k (inr p) = rw (get_or-set_other q t k i 0 (λ z. omega arith)) (set_keeps m i mark_room (get_or q k 0) (g.taken k p))

      found_go : (j : ℕ) → j < count → (j ≡ i) ⊎ Taken m j → (k : ℕ) × (k < t + 1) × (get_or (set q t i) k 0 ≡ j)
      found_go j l (inl p) = (t, omega arith, get_or-set_same q t i 0 room ∙ sym p)
      found_go j l (inr x) = let r = g.found j l x in (r.0, omega (arith, r.1), get_or-set_other q t r.0 i 0 (λ z. omega (arith, r.1)) ∙ r.2)

-- a sweep
module _ (T : ℕ → Bool → Type 0) (count : ℕ) (m q : List ℕ) (t : ℕ) where
  pub sweep_none : Queued count m q t → Swept T count m q t 0 m q t
  sweep_none g = record { queued = g; more = omega arith; same_queue = λ k l. refl; kept = λ j x. x; new = λ j b l. absurd (omega arith); only = λ j x. inl x }

  module _ (i : ℕ) {m' q' : List ℕ} {t' : ℕ} (x : Swept T count m q t i m' q' t') where
    stay : Taken m' i ⊎ T i false → Swept T count m q t (i + 1) m' q' t'
    stay d = record { queued = x.queued; more = x.more; same_queue = x.same_queue; kept = x.kept; new = λ j b l. go j b (last_or_before j i l); only = x.only }
      where
        go : (j : ℕ) → j < count → (j ≡ i) ⊎ (j < i) → Taken m' j ⊎ T j false
        go j b (inl p) = subst (λ (k : ℕ). Taken m' k ⊎ T k false) (sym p) d
        go j b (inr p) = x.new j b p

    taking : i < count → get_or m' i 0 ≡ 0 → T i true → Swept T count m q t (i + 1) (set m' i 1) (set q' t' i) (t' + 1)
    taking h e y = record {
      queued = queued_more count m' q' t' i x.queued h e;
      more = let z = x.more in omega arith;
      same_queue = λ k l. let z = x.more in get_or-set_other q' t' k i 0 (λ p. omega arith) ∙ x.same_queue k l;
      kept = λ j z. set_keeps m' i lm j (x.kept j z);
      new = λ j b l. new_go j b (last_or_before j i l);
      only = λ j z. only_go j (set_only m' i lm j z);
    }
      where
        lm : i < length m'
        lm = omega (arith, x.queued.long, x.queued.few)

        up : (j : ℕ) → Taken m' j ⊎ T j false → Taken (set m' i 1) j ⊎ T j false
        up j (inl z) = inl (set_keeps m' i lm j z)
        up j (inr z) = inr z

        new_go : (j : ℕ) → j < count → (j ≡ i) ⊎ (j < i) → Taken (set m' i 1) j ⊎ T j false
        new_go j b (inl p) = inl (subst (Taken (set m' i 1)) (sym p) (set_taken m' i lm))
        new_go j b (inr p) = up j (x.new j b p)

        only_go : (j : ℕ) → (j ≡ i) ⊎ Taken m' j → Taken m j ⊎ T j true
        only_go j (inl p) = inr (subst (λ (k : ℕ). T k true) (sym p) y)
        only_go j (inr z) = x.only j z

    pub sweep_more : {m'' q'' : List ℕ} {t'' : ℕ} → i < count → Stepped T i m' q' t' m'' q'' t'' → Swept T count m q t (i + 1) m'' q'' t''
    sweep_more h (stays d a b c) = rw (a, b, c) (stay d)
    sweep_more h (takes e y a b c) = rw (a, b, c) (taking h e y)

    -- those up to k are passed
    pub sweep_skip : (k : ℕ) → ((j : ℕ) → j < count → j < k → i ≤ j → Taken m' j ⊎ T j false) → Swept T count m q t k m' q' t'
    sweep_skip k d = record { queued = x.queued; more = x.more; same_queue = x.same_queue; kept = x.kept; new = λ j b l. by (ltb j i) (λ z. x.new j b (ltb-true j i z)) (λ z. d j b l (ltb-false j i z)); only = x.only }

    pub sweep_all : count ≤ i → Swept T count m q t count m' q' t'
    sweep_all h = sweep_skip count (λ j b l a. absurd (omega arith))

-- the steps of the code
module _ (T : ℕ → Bool → Type 0) (i : ℕ) (m q : List ℕ) (t : ℕ) where
  pub step_was : (get_or m i 0 ≡ 0 → ⊥) → Stepped T i m q t m q t
  step_was h = stays (inl h) refl refl refl

  module _ {b : Bool} (y : T i b) where
    pub step_no : b ≡ false → Stepped T i m q t m q t
    step_no e = stays (inr (subst (T i) e y)) refl refl refl

    pub step_yes : {m' q' : List ℕ} {t' : ℕ} → b ≡ true → get_or m i 0 ≡ 0 → m' ≡ set m i 1 → q' ≡ set q t i → t' ≡ t + 1 → Stepped T i m q t m' q' t'
    step_yes e z a c d = takes z (subst (T i) e y) a c d

pub starts_at_lem : (s rows prints : List ℕ) (w : Name) (i : ℕ) {at : ℕ} {text : Name} {b : Bool} → at ≡ field rows i 1 → text ≡ text_at s at → b ≡ eq_name text w → BeginsAt s rows prints w i b
starts_at_lem s rows prints w i e t q = record { of = λ u g p. q ∙ ap (λ (x : Name). eq_name x w) (t ∙ ap (text_at s) e ∙ name_text s (field rows i 1) u.state (field rows i 2) g.state_is) }

pub starts_apart : (s rows prints : List ℕ) (w : Name) (i : ℕ) (m q : List ℕ) (t : ℕ) {code : ℕ} → code ≡ print 0 w → (get_or prints (3 * i) 0 ≡ code → ⊥) → Stepped (BeginsAt s rows prints w) i m q t m q t
starts_apart s rows prints w i m q t e d =
    let z : 3 * i ≡ 3 * i + 0 = omega arith in
    stays (inr (record { of = λ u g p. isn't (eq_name u.state w) (λ y. d (ap (λ (k : ℕ). get_or prints k 0) z ∙ p.state_is ∙ ap (print 0) (eq_name_eq u.state w y) ∙ sym e)) })) refl refl refl

-- the walk: the first head places of the queue are followed
module _ (T : ℕ → Bool → Type 0) (U : ℕ → ℕ → Bool → Type 0) (count : ℕ) where
  pub record Following (m q : List ℕ) (t head : ℕ) : Type 0 where
    pub queued : Queued count m q t
    pub start : (j : ℕ) → j < count → Taken m j ⊎ T j false
    pub done : (k j : ℕ) → k < head → j < count → Taken m j ⊎ U (get_or q k 0) j false
    pub sound : (j : ℕ) → j < count → Taken m j → Chained T U count j

  pub following_start : {m q m' q' : List ℕ} {t : ℕ} → Queued count m q 0 → Swept T count m q 0 count m' q' t → Following m' q' t 0
  following_start {m} g x = record {
    queued = x.queued;
    start = λ j b. x.new j b b;
    done = λ k j h. absurd (omega arith);
    sound = λ j h z. go j h (x.only j z);
  }
    where
      go : (j : ℕ) → j < count → Taken m j ⊎ T j true → Chained T U count j
      go j h (inl z) = let r = g.found j h z in absurd (omega (arith, r.1))
      go j h (inr y) = first y

  module _ {m q : List ℕ} {t head : ℕ} (w : Following m q t head) where
    pub following_more : {m' q' : List ℕ} {t' : ℕ} → head < t → Swept (U (get_or q head 0)) count m q t count m' q' t' → Following m' q' t' (head + 1)
    following_more {m'} {q'} {t'} h x = record {
      queued = x.queued;
      start = λ j l. up (T j false) j (w.start j l);
      done = λ k j l b. done_go k j b (last_or_before k head l);
      sound = λ j l z. sound_go j l (x.only j z);
    }
      where
        up : (P : Type 0) (j : ℕ) → Taken m j ⊎ P → Taken m' j ⊎ P
        up P j (inl z) = inl (x.kept j z)
        up P j (inr y) = inr y

        done_go : (k j : ℕ) → j < count → (k ≡ head) ⊎ (k < head) → Taken m' j ⊎ U (get_or q' k 0) j false
        done_go k j b (inl p) = subst (λ (n : ℕ). Taken m' j ⊎ U n j false) (sym (ap (λ (y : ℕ). get_or q' y 0) p ∙ x.same_queue head h)) (x.new j b b)
        done_go k j b (inr p) = subst (λ (n : ℕ). Taken m' j ⊎ U n j false) (sym (x.same_queue k (omega arith))) (up (U (get_or q k 0) j false) j (w.done k j p b))

        sound_go : (j : ℕ) → j < count → Taken m j ⊎ U (get_or q head 0) j true → Chained T U count j
        sound_go j l (inl z) = w.sound j l z
        sound_go j l (inr y) = next (w.sound (get_or q head 0) (w.queued.inside head h) (w.queued.taken head h)) (w.queued.inside head h) y

    pub following_end : t ≤ head → Walked T U count m
    following_end h = record {
      start = w.start;
      closed = λ i j a b z.
          let r = w.queued.found i a z in
          subst (λ (n : ℕ). Taken m j ⊎ U n j false) r.2 (w.done r.0 j (omega (arith, r.1)) b);
      sound = w.sound;
    }

module _ (s rows prints : List ℕ) (count p i : ℕ) where
  -- the code's answer
  pub leads_on : {b : Bool} → LeadsTo s rows prints p i b → LeadsOn s rows prints count p i b
  leads_on y = record { of = λ ts R P c t u g h. y.of t u (R.at p t g) (R.at i u h) (P.at p t g) (P.at i u h) }

  module _ (m q : List ℕ) (t : ℕ) {b : Bool} (y : LeadsTo s rows prints p i b) where
    pub lead_no : b ≡ false → Stepped (LeadsOn s rows prints count p) i m q t m q t
    lead_no = step_no (LeadsOn s rows prints count p) i m q t (leads_on y)

    pub lead_yes : {m' q' : List ℕ} {t' : ℕ} → b ≡ true → get_or m i 0 ≡ 0 → m' ≡ set m i 1 → q' ≡ set q t i → t' ≡ t + 1 → Stepped (LeadsOn s rows prints count p) i m q t m' q' t'
    lead_yes = step_yes (LeadsOn s rows prints count p) i m q t (leads_on y)
