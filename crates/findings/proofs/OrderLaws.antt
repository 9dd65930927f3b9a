-- The least state that is not done, place by place, and the marks of those that are.
use Prim.Native.Nat.{ℕ, suc, ◌+◌, ◌*◌, ◌<◌, ◌≤◌}
use mathlib.Core.Path.{◌≡◌, refl, sym, ap, ap₂, ◌∙◌}
use mathlib.Core.Logic.{◌≢◌}
use mathlib.Core.List.{List, [], ◌∷◌}
use mathlib.Core.Bool.{Bool, true, false, not, cond, ◌&&◌, ◌||◌}
use mathlib.Core.Option.{Option, none, some}
use native.Mathlib.Omega.{arith}
use native.Mathlib.Numerals.{add-one}
use native.Mathlib.Decide.{ℕ_discrete}
use lib.Dec.{eqb, ltb}
use lib.ListN.{length, drop, get_or, get_elem?, set, length-set, drop_of_length-le}
use lib.Seq.{drop-cons, get_or-set_same, get_or-set_other}
use borrow.Author.Tests.{eq-eqb, ne_eqb, le-ltb, ltb-true, ltb-false}
use Rattle.reading.specs.Text.{Name}
use Rattle.reading.specs.Skip.{text_at}
use Rattle.reading.specs.Transition.{Transition}
use Rattle.reading.proofs.Rules.{by}
use Rattle.typing.specs.Names.{eq_name}
use Rattle.findings.specs.Order.{earlier, least, without}
use Rattle.findings.specs.Scene.{field, Rows}
use Rattle.findings.specs.Prints.{Prints}
use Rattle.findings.specs.StateSteps.{undone, next_name, state_in, Better, NextState, StateMarked}
use Rattle.findings.proofs.PlaceLaws.{entry_at, entry_below, entry_past, drop_entry}
use Rattle.findings.proofs.PairTests.{state_text, states_bytes, states_differ}

-- two names from place i on
or_false_lem : (a : Bool) → a ≡ (a || false)
or_false_lem true = refl
or_false_lem false = refl

module _ (a b : Name) (i : ℕ) (r : earlier (drop i a) (drop i b) ≡ earlier a b) where
  here : i < length a → i < length b → earlier (drop i a) (drop i b) ≡ (ltb (get_or a i 0) (get_or b i 0) || eqb (get_or a i 0) (get_or b i 0) && earlier (drop (i + 1) a) (drop (i + 1) b))
  unfolding earlier
  here h k = rw (drop-cons a i 0 h, drop-cons b i 0 k, add-one)

  pub earlier_short : i < length a → length b ≤ i → false ≡ earlier a b
  unfolding earlier
  earlier_short h k = rw (drop-cons a i 0 h, drop_of_length-le b k) at r

  pub earlier_differ : i < length a → i < length b → (get_or a i 0 ≡ get_or b i 0 → ⊥) → ltb (get_or a i 0) (get_or b i 0) ≡ earlier a b
  earlier_differ h k d = or_false_lem (ltb (get_or a i 0) (get_or b i 0)) ∙ sym (rw (ne_eqb (get_or a i 0) (get_or b i 0) d) at (here h k)) ∙ r

  pub earlier_more : i < length a → i < length b → get_or a i 0 ≡ get_or b i 0 → earlier (drop (i + 1) a) (drop (i + 1) b) ≡ earlier a b
  earlier_more h k e =
      let l : get_or b i 0 ≤ get_or a i 0 = omega arith in
      sym (rw (le-ltb (get_or a i 0) (get_or b i 0) l, eq-eqb (get_or a i 0) (get_or b i 0) e) at (here h k)) ∙ r

  pub earlier_done : length a ≤ i → ltb i (length b) ≡ earlier a b
  unfolding earlier
  earlier_done h = end ∙ ap (λ (x : Name). earlier x (drop i b)) (sym (drop_of_length-le a h)) ∙ r
    where
      end : ltb i (length b) ≡ earlier [] (drop i b)
      end =
          by (ltb i (length b))
          (λ e. let l = ltb-true i (length b) e in rw (e, drop-cons b i 0 l))
          (λ e. let l = ltb-false i (length b) e in rw (e, drop_of_length-le b l))

pub states_earlier : (s : List ℕ) (a b c d : ℕ) (x y : Name) {r : Bool} → r ≡ earlier x y → x ≡ text_at s a → y ≡ text_at s b → a ≡ c → b ≡ d → r ≡ earlier (text_at s c) (text_at s d)
states_earlier s a b c d x y e p q u v = rw (p, q, u, v) at e

-- one name more
module _ (x b : Name) (rest : List Name) where
  next_new : earlier x b ≡ true → next_name (some x) rest ≡ next_name (some b) (x ∷ rest)
  unfolding next_name
  next_new h = ap (λ (e : Bool). some (least (cond e x b) rest)) (sym h)

  next_old : earlier x b ≡ false → next_name (some b) rest ≡ next_name (some b) (x ∷ rest)
  unfolding next_name
  next_old h = ap (λ (e : Bool). some (least (cond e x b) rest)) (sym h)

-- the better of two places
module _ (s rows : List ℕ) where
  module _ (count : ℕ) (marks : List ℕ) (i b : ℕ) where
    pub better_marked : (get_or marks i 0 ≡ 0 → ⊥) → Better s rows count marks b i b
    better_marked d = record { of = λ ts R e t g rest. rw (ne_eqb (get_or marks i 0) 0 d) }

    module _ (z : get_or marks i 0 ≡ 0) where
      pub better_none : count ≤ b → Better s rows count marks b i i
      unfolding next_name state_in
      better_none h = record {
        of = λ ts R e t g rest. let l : length ts ≤ b = omega arith in rw (eq-eqb (get_or marks i 0) 0 z, g, entry_past ts b l);
      }

      module _ {e : Bool} (q : e ≡ earlier (text_at s (field rows i 1)) (text_at s (field rows b 1))) (h : b < count) where
        both : (ts : List Transition) → Rows s rows ts → (t u : Transition) → get_elem? ts i ≡ some t → get_elem? ts b ≡ some u → e ≡ earlier t.state u.state
        both ts R t u f g = q ∙ ap₂ earlier (state_text s rows i t (R.at i t f)) (state_text s rows b u (R.at b u g))

        pub better_new : e ≡ true → Better s rows count marks b i i
        unfolding state_in
        better_new w = record {
          of = λ ts R n t g rest.
              let u = entry_at ts b (omega arith) in
              let f = both ts R t u.item g u.is in
              rw (eq-eqb (get_or marks i 0) 0 z, g, u.is) (next_new t.state u.item.state rest (sym f ∙ w));
        }

        pub better_old : e ≡ false → Better s rows count marks b i b
        unfolding state_in
        better_old w = record {
          of = λ ts R n t g rest.
              let u = entry_at ts b (omega arith) in
              let f = both ts R t u.item g u.is in
              rw (eq-eqb (get_or marks i 0) 0 z, u.is) (next_old t.state u.item.state rest (sym f ∙ w));
        }

  -- of the states before place i that are not done, the least is that of place b
  module _ (count : ℕ) (marks : List ℕ) where
    pub record Seeking (b i : ℕ) : Type 0 where
      pub of : (ts : List Transition) → Rows s rows ts → count ≡ length ts → next_name (state_in (get_elem? ts b)) (undone marks i (drop i ts)) ≡ next_name none (undone marks 0 ts)

    undone_here : (i : ℕ) (t : Transition) (us ts : List Transition) → ts ≡ t ∷ us → undone marks i ts ≡ cond (eqb (get_or marks i 0) 0) (t.state ∷ undone marks (i + 1) us) (undone marks (i + 1) us)
    unfolding undone
    undone_here i t us ts e = rw (e, add-one)

    pub seek_start : Seeking count 0
    unfolding state_in
    seek_start = record {
      of = λ ts R e. let l : length ts ≤ count = omega arith in rw (entry_past ts count l);
    }

    module _ {b i : ℕ} (w : Seeking b i) where
      pub seek_more : {r : ℕ} → i < count → Better s rows count marks b i r → Seeking r (i + 1)
      seek_more h p = record {
        of = λ ts R e.
            let t = entry_at ts i (omega arith) in
            p.of ts R e t.item t.is (undone marks (i + 1) (drop (i + 1) ts))
            ∙ ap (next_name (state_in (get_elem? ts b))) (sym (undone_here i t.item (drop (i + 1) ts) (drop i ts) (drop_entry ts i t.item t.is)))
            ∙ w.of ts R e;
      }

      pub seek_done : count ≤ i → NextState s rows count marks b
      unfolding undone next_name
      seek_done h = record {
        of = λ ts R e.
            let l : length ts ≤ i = omega arith in
            alone (state_in (get_elem? ts b)) ∙ ap (λ (us : List Transition). next_name (state_in (get_elem? ts b)) (undone marks i us)) (sym (drop_of_length-le ts l)) ∙ w.of ts R e;
      }
        where
          alone : (o : Option Name) → o ≡ next_name o []
          alone none = refl
          alone (some x) = refl

      pub seek_none : count ≤ i → count ≤ b → NextState s rows count marks count
      seek_none h l = record {
        of = λ ts R e.
            let p : length ts ≤ count = omega arith in
            let q : length ts ≤ b = omega arith in
            ap state_in (entry_past ts count p) ∙ sym (ap state_in (entry_past ts b q)) ∙ (seek_done h).of ts R e;
      }

-- marks leave the other states
module _ (w : Name) where
  joined : (a b e : Bool) (x : Name) (xs ys : List Name) → a ≡ (b && not e) → eq_name w x ≡ e → xs ≡ without w ys → cond a (x ∷ xs) xs ≡ without w (cond b (x ∷ ys) ys)
  joined a false e x xs ys p q r = rw p r
  joined a true true x xs ys p q r = rw (p, q) r
  joined a true false x xs ys p q r = rw (p, q, r)

  undone_marked : (new old : List ℕ) (o : ℕ) (ts : List Transition) → ((k : ℕ) (u : Transition) → get_elem? ts k ≡ some u → (m : ℕ) → m ≡ k + o → eqb (get_or new m 0) 0 ≡ (eqb (get_or old m 0) 0 && not (eq_name w u.state))) → undone new o ts ≡ without w (undone old o ts)
  unfolding undone
  undone_marked new old o [] h = refl
  undone_marked new old o (u ∷ us) h =
      joined (eqb (get_or new o 0) 0) (eqb (get_or old o 0) 0) (eq_name w u.state) u.state (undone new (suc o) us) (undone old (suc o) us)
      (h 0 u refl o (omega arith)) refl (undone_marked new old (suc o) us (λ k v e m q. h (suc k) v e m (omega arith)))

and_true : (a : Bool) → a ≡ (a && true)
and_true true = refl
and_true false = refl

and_false : (a : Bool) → false ≡ (a && false)
and_false true = refl
and_false false = refl

-- those before place j are marked
module _ (s rows prints : List ℕ) (count b : ℕ) (old : List ℕ) where
  abbrev Marks : ℕ → ℕ → Transition → Transition → Type 0
  Marks x k t u = eqb x 0 ≡ (eqb (get_or old k 0) 0 && not (eq_name t.state u.state))

  pub record Marking (j : ℕ) (new : List ℕ) : Type 0 where
    pub few : count ≤ 255
    pub size : length new ≡ 256
    pub of : (ts : List Transition) → Rows s rows ts → Prints prints ts → (t : Transition) → get_elem? ts b ≡ some t → (k : ℕ) (u : Transition) → get_elem? ts k ≡ some u → k < j → Marks (get_or new k 0) k t u
    pub later : (k : ℕ) → j ≤ k → get_or new k 0 ≡ get_or old k 0

  pub mark_start : count ≤ 255 → length old ≡ 256 → Marking 0 old
  mark_start m h = record { few = m; size = h; of = λ ts R P t g k u f l. absurd (omega arith); later = λ k l. refl }

  module _ {j : ℕ} {new : List ℕ} (w : Marking j new) where
    -- another state
    keep : ((ts : List Transition) → Rows s rows ts → Prints prints ts → (t u : Transition) → get_elem? ts b ≡ some t → get_elem? ts j ≡ some u → false ≡ eq_name t.state u.state) → Marking (j + 1) new
    keep d = record {
      few = w.few;
      size = w.size;
      of = λ ts R P t g k u f l. at ts R P t g k u f l (ℕ_discrete k j);
      later = λ k l. w.later k (omega arith);
    }
      where
        at : (ts : List Transition) → Rows s rows ts → Prints prints ts → (t : Transition) → get_elem? ts b ≡ some t → (k : ℕ) (u : Transition) → get_elem? ts k ≡ some u → k < j + 1 → Dec (k ≡ j) → Marks (get_or new k 0) k t u
        at ts R P t g k u f l (no q) = w.of ts R P t g k u f (omega arith)
        at ts R P t g k u f l (yes q) =
            rw (w.later k (omega arith), ← d ts R P t u g (rw q at f)) (and_true (eqb (get_or old k 0) 0))

    pub mark_skip : (get_or prints (3 * j) 0 ≡ get_or prints (3 * b) 0 → ⊥) → Marking (j + 1) new
    mark_skip d = keep (λ ts R P t u g f. states_differ j b prints t u (P.at j u f) (P.at b t g) d)

    module _ {e : Bool} (q : e ≡ eq_name (text_at s (field rows b 1)) (text_at s (field rows j 1))) where
      pub mark_other : e ≡ false → Marking (j + 1) new
      mark_other h = keep (λ ts R P t u g f. sym h ∙ states_bytes s rows b j q t u (R.at b t g) (R.at j u f))

      pub mark_here : e ≡ true → j < count → Marking (j + 1) (set new j 1)
      mark_here h n = record {
        few = w.few;
        size = length-set new j 1 ∙ w.size;
        of = λ ts R P t g k u f l. at ts R P t g k u f l (ℕ_discrete k j);
        later = λ k m. let d : k ≢ j = λ p. omega arith in get_or-set_other new j k 1 0 d ∙ w.later k (omega arith);
      }
        where
          at : (ts : List Transition) → Rows s rows ts → Prints prints ts → (t : Transition) → get_elem? ts b ≡ some t → (k : ℕ) (u : Transition) → get_elem? ts k ≡ some u → k < j + 1 → Dec (k ≡ j) → Marks (get_or (set new j 1) k 0) k t u
          at ts R P t g k u f m (no d) = rw (get_or-set_other new j k 1 0 d) (w.of ts R P t g k u f (omega arith))
          at ts R P t g k u f m (yes d) =
              let v = w.size in
              let x = w.few in
              let a : get_or (set new j 1) j 0 ≡ 1 = get_or-set_same new j 1 0 (omega arith) in
              let z : true ≡ eq_name t.state u.state = sym h ∙ states_bytes s rows b j q t u (R.at b t g) (R.at j u (rw d at f)) in
              rw (d, a, ← z) (and_false (eqb (get_or old j 0) 0))

    pub mark_done : count ≤ j → StateMarked s rows count old prints b new
    mark_done h = record {
      of = λ ts R P e t g.
          undone_marked t.state new old 0 ts (λ k u f m q.
          let l = entry_below ts k u f in
          let z : m ≡ k = omega arith in
          rw z (w.of ts R P t g k u f (omega arith)));
    }
