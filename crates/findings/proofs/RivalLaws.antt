-- Whether two transitions have one key, pair by pair; and where no two have there is nothing to note.
use Prim.Native.Nat.{ℕ, zero, suc, ◌+◌, ◌-◌, ◌%◌, ◌<◌, ◌≤◌}
use mathlib.Core.Path.{◌≡◌, refl, sym, ap, ◌∙◌}
use mathlib.Core.List.{List, [], ◌∷◌}
use mathlib.Core.Bool.{Bool, true, false, cond, ◌||◌}
use mathlib.Core.Logic.{◌≢◌}
use mathlib.Core.Option.{some}
use native.Mathlib.Omega.{arith}
use lib.ListN.{length, drop, get_or, get_elem?, set, replicate, length-set, length-replicate, drop_of_length-le}
use borrow.Author.Tests.{eq-eqb, ne_eqb}
use Rattle.reading.specs.Text.{Name}
use Rattle.reading.specs.Transition.{Transition}
use Rattle.reading.proofs.Rules.{no}
use Rattle.typing.specs.Names.{eq_name}
use Rattle.findings.specs.Lists.{Placed, placed, any, each, each_pair}
use Rattle.findings.specs.Finding.{Note}
use Rattle.findings.specs.Pairs.{state_names, by_state}
use Rattle.findings.specs.Prints.{print_at, key_of, rival, PrintOf, Prints}
use Rattle.findings.specs.Promises.{at_place}
use Rattle.findings.specs.PairPromises.{pair_notes}
use Rattle.findings.specs.PairSteps.{has_pair, HasRival, NoPairs}
use Rattle.findings.proofs.PlaceLaws.{entry_at, entry_below, drop_entry}
use Rattle.findings.proofs.PrintLaws.{set_seen}
use Rattle.findings.proofs.ClashLaws.{rival_none}

any_here : {A : Type 0} (p : A → Bool) (x : A) (xs ys : List A) → ys ≡ x ∷ xs → any p ys ≡ (p x || any p xs)
any_here p x xs ys e = ap (any p) e

-- unequal words of two rows of prints tell the keys apart, and equal ones don't
module _ (prints : List ℕ) (i j : ℕ) (t u : Transition) (p : PrintOf prints i t) (q : PrintOf prints j u) where
  keys_apart : (print_at prints j 2 ≡ print_at prints i 2 → ⊥) → false ≡ rival t u
  unfolding rival
  keys_apart d = sym (ne_eqb (key_of t) (key_of u) (λ e. d (q.key_is ∙ sym e ∙ sym p.key_is)))

  keys_same : print_at prints j 2 ≡ print_at prints i 2 → true ≡ rival t u
  unfolding rival
  keys_same d = sym (eq-eqb (key_of t) (key_of u) (sym p.key_is ∙ sym d ∙ q.key_is))

-- none of the later transitions before number j has the key of transition i
module _ (prints : List ℕ) (count i : ℕ) where
  pub record RivalLeft (j : ℕ) : Type 0 where
    pub of : (ts : List Transition) → Prints prints ts → count ≡ length ts → (t : Transition) → get_elem? ts i ≡ some t → any (rival t) (drop j ts) ≡ any (rival t) (drop (i + 1) ts)

  pub rival_start : RivalLeft (i + 1)
  rival_start = record { of = λ ts P e t g. refl }

  module _ {j : ℕ} (w : RivalLeft j) where
    turn : (b : Bool) (ts : List Transition) (t u : Transition) → get_elem? ts j ≡ some u → b ≡ rival t u → any (rival t) (drop j ts) ≡ (b || any (rival t) (drop (j + 1) ts))
    turn b ts t u f q = any_here (rival t) u (drop (j + 1) ts) (drop j ts) (drop_entry ts j u f) ∙ ap (λ (x : Bool). x || any (rival t) (drop (j + 1) ts)) (sym q)

    pub rival_skip : j < count → (print_at prints j 2 ≡ print_at prints i 2 → ⊥) → RivalLeft (j + 1)
    rival_skip h d = record {
      of = λ ts P e t g.
          let u = entry_at ts j (omega arith) in
          sym (turn false ts t u.item u.is (keys_apart prints i j t u.item (P.at i t g) (P.at j u.item u.is) d)) ∙ w.of ts P e t g;
    }

    pub rival_found : j < count → print_at prints j 2 ≡ print_at prints i 2 → HasRival prints count i true
    rival_found h d = record {
      of = λ ts P e t g.
          let u = entry_at ts j (omega arith) in
          sym (turn true ts t u.item u.is (keys_same prints i j t u.item (P.at i t g) (P.at j u.item u.is) d)) ∙ w.of ts P e t g;
    }

    pub rival_missing : count ≤ j → HasRival prints count i false
    rival_missing h = record {
      of = λ ts P e t g.
          let l : length ts ≤ j = omega arith in
          ap (any (rival t)) (sym (drop_of_length-le ts l)) ∙ w.of ts P e t g;
    }

none_from : {A : Type 0} (p : A → Bool) (xs : List A) (i : ℕ) → ((j : ℕ) (x : A) → i ≤ j → get_elem? xs j ≡ some x → p x ≡ false) → any p (drop i xs) ≡ false
none_from p [] zero h = refl
none_from p [] (suc i) h = refl
none_from p (x ∷ xs) zero h = rw (h 0 x (omega arith) refl) (none_from p xs 0 (λ j y l e. h (suc j) y (omega arith) e))
none_from p (x ∷ xs) (suc i) h = none_from p xs i (λ j y l e. h (suc j) y (omega arith) e)

-- of the transitions from number i on no two have one key, and the remainders of their keys are seen
module _ (prints : List ℕ) (count : ℕ) where
  abbrev left_over : ℕ → ℕ
  left_over j = print_at prints j 2 % 2039

  pub record PairsLeft (i : ℕ) (seen : List ℕ) : Type 0 where
    pub of : (ts : List Transition) → Prints prints ts → count ≡ length ts → has_pair (drop i ts) ≡ false
    pub marked : (j : ℕ) → i ≤ j → j < count → get_or seen (left_over j) 0 ≡ 1
    pub most : i ≤ count
    pub size : length seen ≡ 2048

  pub pairs_start : PairsLeft count (replicate 2048 0)
  unfolding has_pair
  pairs_start = record {
    of = λ ts P e.
        let l : length ts ≤ count = omega arith in
        ap has_pair (drop_of_length-le ts l);
    marked = λ j l m. absurd (omega arith);
    most = omega arith;
    size = length-replicate {A = ℕ} 2048 0;
  }

  has_here : (t : Transition) (us ts : List Transition) → ts ≡ t ∷ us → has_pair ts ≡ (any (rival t) us || has_pair us)
  unfolding has_pair
  has_here t us ts e = rw e

  module _ {i : ℕ} {seen : List ℕ} (w : PairsLeft i seen) (h : 0 < i) where
    step : (b : Bool) (ts : List Transition) → Prints prints ts → count ≡ length ts → HasRival prints count (i - 1) b → has_pair (drop (i - 1) ts) ≡ b
    step b ts P e p =
        let m = w.most in
        let t = entry_at ts (i - 1) (omega arith) in
        let z : i - 1 + 1 ≡ i = omega arith in
        has_here t.item (drop (i - 1 + 1) ts) (drop (i - 1) ts) (drop_entry ts (i - 1) t.item t.is)
        ∙ ap (λ (x : Bool). x || has_pair (drop (i - 1 + 1) ts)) (sym (p.of ts P e t.item t.is))
        ∙ ap (λ (k : ℕ). b || has_pair (drop k ts)) z
        ∙ ap (λ (x : Bool). b || x) (w.of ts P e)
        ∙ or_false_lem b
      where
        or_false_lem : (b : Bool) → (b || false) ≡ b
        or_false_lem true = refl
        or_false_lem false = refl

    -- a remainder that was not seen
    pairs_fresh : get_or seen (left_over (i - 1)) 0 ≡ 0 → HasRival prints count (i - 1) false
    pairs_fresh f = record {
      of = λ ts P e t g. sym (none_from (rival t) ts (i - 1 + 1) (λ j u l q.
          let b = entry_below ts j u q in
          sym (keys_apart prints (i - 1) j t u (P.at (i - 1) t g) (P.at j u q) (λ d.
          let y : get_or seen (left_over (i - 1)) 0 ≡ 1 = ap (λ (k : ℕ). get_or seen (k % 2039) 0) (sym d) ∙ w.marked j (omega arith) (omega arith) in
          absurd (omega (arith, y, f))))));
    }

    module _ {b : Bool} (p : HasRival prints count (i - 1) b) where
      pub pairs_more : b ≡ false → PairsLeft (i - 1) (set seen (left_over (i - 1)) 1)
      pairs_more q = record {
        of = λ ts P e. step b ts P e p ∙ q;
        marked = λ j l m. set_seen seen (left_over (i - 1)) (left_over j) (let s = w.size in omega arith) (λ d.
            let k : j ≢ i - 1 = λ e. d (ap left_over e) in
            w.marked j (omega arith) m);
        most = let m = w.most in omega arith;
        size = length-set seen (left_over (i - 1)) 1 ∙ w.size;
      }

    pub pairs_skip : get_or seen (left_over (i - 1)) 0 ≡ 0 → PairsLeft (i - 1) (set seen (left_over (i - 1)) 1)
    pairs_skip f = pairs_more (pairs_fresh f) refl

  pub pairs_found : NoPairs prints count false
  pairs_found = record { of = λ ts P e q. no (cc) }

  pub pairs_none : {seen : List ℕ} {i : ℕ} → PairsLeft i seen → i ≤ 0 → NoPairs prints count true
  pairs_none {seen} {i} w h = record {
    of = λ ts P e q. let z : i ≡ 0 = omega arith in rw z at (w.of ts P e);
  }

-- nothing to note
or_left : (a b : Bool) → (a || b) ≡ false → a ≡ false
or_left true b e = no (cc)
or_left false b e = refl

or_right : (a b : Bool) → (a || b) ≡ false → b ≡ false
or_right true b e = no (cc)
or_right false b e = e

pub each_none : {A B : Type 0} (f : A → List B) (xs : List A) → ((x : A) → f x ≡ []) → each f xs ≡ []
each_none f [] h = refl
each_none f (x ∷ xs) h = rw (h x) (each_none f xs h)

each_placed_none : {A B : Type 0} (f : Placed A → List B) (o : ℕ) (ts : List A) → ((j : ℕ) (y : Placed A) → get_elem? ts j ≡ some y.item → f y ≡ []) → each f (placed o ts) ≡ []
each_placed_none f o [] h = refl
each_placed_none f o (t ∷ ts) h = rw (h 0 (at_place o t) refl) (each_placed_none f (suc o) ts (λ j. h (suc j)))

pub each_pair_none : {A B : Type 0} (f : Placed A → Placed A → List B) (o : ℕ) (ts : List A) → ((i j : ℕ) (x y : Placed A) → i < j → get_elem? ts i ≡ some x.item → get_elem? ts j ≡ some y.item → f x y ≡ []) → each_pair f (placed o ts) ≡ []
each_pair_none f o [] h = refl
each_pair_none f o (t ∷ ts) h =
    rw (each_placed_none (f (at_place o t)) (suc o) ts (λ j y g. h 0 (suc j) (at_place o t) y (omega arith) refl g)) (each_pair_none f (suc o) ts (λ i j x y l. h (suc i) (suc j) x y (omega arith)))

later_none : (warn : Bool) (x : Placed Transition) (k : ℕ) (us : List Transition) → any (rival x.item) us ≡ false → each (pair_notes warn x) (placed k us) ≡ []
later_none warn x k [] e = refl
later_none warn x k (u ∷ us) e =
    rw (← rival_none warn x (at_place k u) (sym (or_left (rival x.item u) _ e))) (later_none warn x (suc k) us (or_right (rival x.item u) _ e))

cond_each : (b : Bool) (f : Placed Transition → List Note) (ys : List (Placed Transition)) → each f ys ≡ [] → each (λ (y : Placed Transition). cond b (f y) []) ys ≡ []
cond_each true f ys e = e
cond_each false f ys e = each_none _ ys (λ y. refl)

state_none : (warn : Bool) (w : Name) (k : ℕ) (ts : List Transition) → has_pair ts ≡ false → each_pair (λ (x y : Placed Transition). cond (eq_name w x.item.state) (pair_notes warn x y) []) (placed k ts) ≡ []
unfolding has_pair
state_none warn w k [] e = refl
state_none warn w k (t ∷ ts) e =
    rw (cond_each (eq_name w t.state) (pair_notes warn (at_place k t)) (placed (suc k) ts) (later_none warn (at_place k t) (suc k) ts (or_left (any (rival t) ts) (has_pair ts) e))) (state_none warn w (suc k) ts (or_right (any (rival t) ts) (has_pair ts) e))

pub by_state_none : (warn : Bool) (ts : List Transition) → has_pair ts ≡ false → by_state (pair_notes warn) ts ≡ []
unfolding by_state
by_state_none warn ts e = each_none _ (state_names ts) (λ w. state_none warn w 0 ts e)
