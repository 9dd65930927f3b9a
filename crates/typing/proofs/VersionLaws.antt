-- A version string's format, judged from left to right.
use Prim.Native.Nat.{ℕ, suc, ◌+◌, ◌<◌, ◌≤◌}
use mathlib.Core.Path.{◌≡◌, refl, sym, ◌∙◌}
use mathlib.Core.Bool.{Bool, true, false}
use mathlib.Core.List.{List, [], ◌∷◌}
use native.Mathlib.Omega.{arith}
use native.Mathlib.Numerals.{add-one}
use lib.Dec.{eqb}
use lib.ListN.{length, drop, get_or, drop_of_length-le}
use lib.Seq.{drop-cons}
use borrow.Author.Tests.{eq-eqb, ne_eqb}
use Rattle.reading.specs.Read.{pick}
use Rattle.reading.proofs.Rules.{by, pick_true, pick_false}
use Rattle.typing.specs.Version.{is_digit, all_digits, is_part, all_parts, onto, split, two_or_three, is_valid_version_format, after_dot, after_digit, next_version_state, is_end, run}

-- the parts that are left: the first may have begun, and so many have to come
abbrev begun : List (List ℕ) → Bool
begun [] = false
begun (p ∷ ps) = pick (all_digits p) (all_parts ps) false

abbrev fresh : List (List ℕ) → Bool
fresh [] = false
fresh (p ∷ ps) = pick (is_part p) (all_parts ps) false

abbrev both : Bool → Bool → Bool
both a b = pick a b false

out_next : (b : ℕ) → next_version_state 6 b ≡ 6
unfolding next_version_state after_dot after_digit pick
out_next b = by (eqb b 46) (λ e. rw e) (λ e. by (is_digit b) (λ d. rw (e, d)) (λ d. rw (e, d)))

out_stays : (bs : List ℕ) → run 6 bs ≡ false
unfolding run is_end pick
out_stays [] = refl
out_stays (b ∷ bs) = rw (out_next b) (out_stays bs)

-- what each state means
record Means (bs : List ℕ) : Type 0 where
  pub state_0 : run 0 bs ≡ both (fresh (split bs)) (two_or_three (length (split bs)))
  pub state_1 : run 1 bs ≡ both (begun (split bs)) (two_or_three (length (split bs)))
  pub state_2 : run 2 bs ≡ both (fresh (split bs)) (two_or_three (suc (length (split bs))))
  pub state_3 : run 3 bs ≡ both (begun (split bs)) (two_or_three (suc (length (split bs))))
  pub state_4 : run 4 bs ≡ both (fresh (split bs)) (two_or_three (suc (suc (length (split bs)))))
  pub state_5 : run 5 bs ≡ both (begun (split bs)) (two_or_three (suc (suc (length (split bs)))))

record Some (bs : List ℕ) : Type 0 where
  pub part : List ℕ
  pub parts : List (List ℕ)
  pub is : split bs ≡ part ∷ parts

onto_some : (b : ℕ) (s : List (List ℕ)) → (p : List ℕ) × (ps : List (List ℕ)) × (onto b s ≡ p ∷ ps)
unfolding onto
onto_some b [] = (_, _, refl)
onto_some b (p ∷ ps) = (_, _, refl)

split_some : (bs : List ℕ) → Some bs
unfolding split pick
split_some [] = record { part = []; parts = []; is = refl }
split_some (b ∷ bs) = by (eqb b 46)
    (λ e. record { part = []; parts = split bs; is = rw e })
    (λ e. let o = onto_some b (split bs) in record { part = o.0; parts = o.1; is = rw e o.2 })

too_many : (n : ℕ) → two_or_three (suc (suc (suc (suc n)))) ≡ false
unfolding two_or_three pick
too_many n =
    let a : suc (suc (suc (suc n))) ≡ 2 → ⊥ = λ e. omega arith in
    let b : suc (suc (suc (suc n))) ≡ 3 → ⊥ = λ e. omega arith in
    rw (ne_eqb (suc (suc (suc (suc n)))) 2 a, ne_eqb (suc (suc (suc (suc n)))) 3 b)

-- a dot: a part that has begun ends, and another has to begin
dot : (b : ℕ) (bs : List ℕ) → eqb b 46 ≡ true → Means bs → Means (b ∷ bs)
unfolding run next_version_state after_dot after_digit split pick all_digits is_part all_parts
dot b bs e m =
    let s = split_some bs in
    record {
      state_0 = rw e (out_stays bs);
      state_1 = rw (e, m.state_2, s.is);
      state_2 = rw e (out_stays bs);
      state_3 = rw (e, m.state_4, s.is);
      state_4 = rw e (out_stays bs);
      state_5 = rw (e, out_stays bs, s.is, too_many (length s.parts)) (none_more (all_parts (s.part ∷ s.parts)));
    }
  where
    none_more : (t : Bool) → false ≡ pick t false false
    none_more true = refl
    none_more false = refl

-- a digit: the part has begun
digit : (b : ℕ) (bs : List ℕ) → eqb b 46 ≡ false → is_digit b ≡ true → Means bs → Means (b ∷ bs)
unfolding run next_version_state after_dot after_digit split onto pick all_digits is_part all_parts
digit b bs e d m =
    let s = split_some bs in
    record {
      state_0 = rw (e, d, m.state_1, s.is, d);
      state_1 = rw (e, d, m.state_1, s.is, d);
      state_2 = rw (e, d, m.state_3, s.is, d);
      state_3 = rw (e, d, m.state_3, s.is, d);
      state_4 = rw (e, d, m.state_5, s.is, d);
      state_5 = rw (e, d, m.state_5, s.is, d);
    }

-- any other byte
other : (b : ℕ) (bs : List ℕ) → eqb b 46 ≡ false → is_digit b ≡ false → Means (b ∷ bs)
unfolding run next_version_state after_dot after_digit split onto pick all_digits is_part all_parts
other b bs e d =
    let s = split_some bs in
    record {
      state_0 = rw (e, d, out_stays bs, s.is, d);
      state_1 = rw (e, d, out_stays bs, s.is, d);
      state_2 = rw (e, d, out_stays bs, s.is, d);
      state_3 = rw (e, d, out_stays bs, s.is, d);
      state_4 = rw (e, d, out_stays bs, s.is, d);
      state_5 = rw (e, d, out_stays bs, s.is, d);
    }

means : (bs : List ℕ) → Means bs
unfolding run is_end split pick all_digits is_part all_parts two_or_three
means [] = record { state_0 = refl; state_1 = refl; state_2 = refl; state_3 = refl; state_4 = refl; state_5 = refl }
means (b ∷ bs) = by (eqb b 46) (λ e. dot b bs e (means bs)) (λ e. by (is_digit b) (λ d. digit b bs e d (means bs)) (λ d. other b bs e d))

-- the whole string, from its start
pub run_all : (v : List ℕ) → run 0 v ≡ is_valid_version_format v
unfolding is_valid_version_format all_parts
run_all v =
    let s = split_some v in
    (means v).state_0 ∙ rw s.is (swap (fresh (s.part ∷ s.parts)) (two_or_three (length (s.part ∷ s.parts))))
  where
    swap : (a b : Bool) → pick a b false ≡ pick b a false
    swap true true = pick_true _ _ ∙ sym (pick_true _ _)
    swap true false = pick_true _ _ ∙ sym (pick_false _ _)
    swap false true = pick_false _ _ ∙ sym (pick_true _ _)
    swap false false = refl

-- the loop: what is left decides
module _ (v : List ℕ) (i n : ℕ) (r : run n (drop i v) ≡ is_valid_version_format v) where
  pub run_step : {m : ℕ} → i < length v → m ≡ next_version_state n (get_or v i 0) → run m (drop (i + 1) v) ≡ is_valid_version_format v
  unfolding run
  run_step h e = rw (e, add-one i) (rw (drop-cons v i 0 h) at r)

  pub run_done : {b : Bool} → length v ≤ i → b ≡ is_end n → b ≡ is_valid_version_format v
  unfolding run
  run_done h e = e ∙ (rw (drop_of_length-le v h) at r)

-- one byte
module _ (n b : ℕ) where
  pub next_dot : {r : ℕ} → b ≡ 46 → r ≡ after_dot n → r ≡ next_version_state n b
  unfolding next_version_state pick
  next_dot e h = rw (eq-eqb b 46 e) h

  module _ (e : b ≡ 46 → ⊥) {t : Bool} (d : t ≡ is_digit b) where
    pub next_digit : {r : ℕ} → t ≡ true → r ≡ after_digit n → r ≡ next_version_state n b
    unfolding next_version_state pick
    next_digit q h = rw (ne_eqb b 46 e, sym d ∙ q) h

    pub next_out : t ≡ false → 6 ≡ next_version_state n b
    unfolding next_version_state pick
    next_out q = rw (ne_eqb b 46 e, sym d ∙ q)
