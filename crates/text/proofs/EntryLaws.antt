-- Entries of lists by their number: the loop that passes items, and what reads where it ends.
use Rattle.std.specs.Prelude.{Option, Some, None, Result, Ok, Err}
use Prim.Native.Nat.{ℕ, zero, suc, ◌+◌, ◌-◌, ◌<◌, ◌≤◌}
use mathlib.Core.Path.{◌≡◌, refl, sym, ap, ◌∙◌}
use mathlib.Core.List.{List}
use mathlib.Core.Bool.{Bool, true, false, cond}
use native.Mathlib.Omega.{arith}
use lib.Dec.{ltb}
use borrow.Author.Tests.{lt-ltb, le-ltb}
use Rattle.reading.specs.Item.{read_count}
use Rattle.reading.specs.Link.{answer}
use Rattle.reading.specs.declared.cursor.Cursor.{Cursor}
use Rattle.reading.proofs.Answers.{got, out}
use Rattle.reading.proofs.Rules.{no}
use Rattle.typing.specs.Table.{after_item, Past}
use Rattle.text.specs.Says.{passed, entry_of, entry_at, Picked}
use Rattle.text.specs.Near.{Kept, Starts, PickedFrom, KeptModule}
use Rattle.text.specs.declared.entry.Near.{Near}
use Rattle.text.specs.declared.entry.Numbered.{Numbered}
-- so many items, and then as many more
use Rattle.reading.specs.declared.fault.Refusal.{Refusal}

pub passed_both : (m n : ℕ) (s : List ℕ) (at : ℕ) → passed m s (passed n s at) ≡ passed (n + m) s at
unfolding passed
passed_both m zero s at = let e : m ≡ 0 + m = omega arith in ap (λ (j : ℕ). passed j s at) e
passed_both m (suc n) s at = let e : suc (n + m) ≡ suc n + m = omega arith in passed_both m n s (after_item s at) ∙ ap (λ (j : ℕ). passed j s at) e

-- the loop: what is still to be passed decides which place it ends at, w
pub passed_turn : (s : List ℕ) (k i here w : ℕ) {here' : ℕ} → i < k → Past s here here' → passed (k - i) s here ≡ w → passed (k - (i + 1)) s here' ≡ w
unfolding passed
passed_turn s k i here w {here'} h p e =
    let x : suc (k - (i + 1)) ≡ k - i = omega arith in
    ap (passed (k - (i + 1)) s) p.is ∙ ap (λ (j : ℕ). passed j s here) x ∙ e

passed_done : (s : List ℕ) (k i here w : ℕ) → k ≤ i → passed (k - i) s here ≡ w → here ≡ w
unfolding passed
passed_done s k i here w h e = let x : 0 ≡ k - i = omega arith in ap (λ (j : ℕ). passed j s here) x ∙ e

-- where to start
module _ (at k first : ℕ) where
  pub starts_first : {near : Option Near} → Starts near at first (record { number = 0; place = first })
  unfolding passed
  starts_first = record { of = λ most s many h e. refl }

  module _ {near : Option Near} {x : Near} (q : near ≡ Some x) where
    pub starts_near : x.list ≡ at → Starts near at first (record { number = x.number; place = x.place })
    unfolding Kept
    starts_near z = record { of = λ most s many h e. (rw q at h).of many first (rw z e) }

module _ (most : ℕ) (s : List ℕ) (at k : ℕ) {a : Result (ℕ × Cursor) Refusal} (e : a ≡ answer (read_count most s at)) where
  pub picked_refused : {f : Refusal} → a ≡ Err f → None ≡ entry_at most s at k
  unfolding entry_at entry_of
  picked_refused q = rw (out _ e q)

  pub picked_past : {many : ℕ} {c : Cursor} → a ≡ Ok (many, c) → many ≤ k → None ≡ entry_at most s at k
  unfolding entry_at entry_of
  picked_past {many} q h = rw (got _ e q, le-ltb k many h)

  -- from the start on
  module _ {near : Option Near} {r : Numbered} {many : ℕ} {c : Cursor} (kept : Kept most s near) (starts : Starts near at c.at r) (q : a ≡ Ok (many, c)) where
    ends : {i here : ℕ} → r.number ≤ k → k ≤ i → passed (k - i) s here ≡ passed (k - r.number) s r.place → here ≡ passed k s c.at
    ends {i} {here} l m x =
        let z : r.number + (k - r.number) ≡ k = omega arith in
        passed_done s k i here _ m x ∙ ap (passed (k - r.number) s) (starts.of most s many kept (got _ e q)) ∙ passed_both (k - r.number) r.number s c.at ∙ ap (λ (j : ℕ). passed j s c.at) z

    pub picked_here : {i here : ℕ} → k < many → r.number ≤ k → k ≤ i → passed (k - i) s here ≡ passed (k - r.number) s r.place → (Some here) ≡ entry_at most s at k
    unfolding entry_at entry_of
    picked_here h l m x = rw (got _ e q, lt-ltb k many h, ends l m x)

-- nothing was looked up yet
pub kept_none : (most : ℕ) (s : List ℕ) → Kept most s None
unfolding Kept
kept_none most s = tt

pub no_module_kept : (s : List ℕ) → KeptModule s None
no_module_kept s = record { of = λ x n g. kept_none _ s }

pub picked_from : {near : Option Near} {most : ℕ} {s : List ℕ} {at k : ℕ} {f : Option ℕ} → Kept most s near → PickedFrom near most s at k f → Picked most s at k f
picked_from h p = p.of h

-- what is looked up stands there
module _ (most : ℕ) (s : List ℕ) (at k : ℕ) {f : Option ℕ} (p : Picked most s at k f) where
  pub up_here : {place : ℕ} → f ≡ Some place → Kept most s (Some (record { list = at; number = k; place = place }))
  unfolding Kept entry_at entry_of
  up_here {place} q = record { of = λ many first e. same_place (ltb k many) (sym q ∙ p.is ∙ ap (entry_of s k) e) }
    where
      same_place : {n : ℕ} (b : Bool) → (Some place) ≡ cond b (Some n) None → place ≡ n
      same_place true z = cc
      same_place false z = no (cc)
