-- What a reader gave, from what the code learnt of its answer: each law gives an equation to rewrite with.
use Prim.Native.Nat.{ℕ}
use mathlib.Core.Path.{◌≡◌, refl, ap}
use borrow.Author.Tests.{le-ltb, lt-ltb, le-leb, lt-leb, eq-eqb, ne_eqb}
use Rattle.std.specs.Prelude.{Result, Ok, Err}
use Rattle.reading.specs.Read.{Read, ok, refused}
use Rattle.reading.specs.Link.{answer, stands, refusal}
use Rattle.reading.specs.declared.fault.Fault.{Fault}
use Rattle.reading.specs.declared.fault.Refusal.{Refusal}
use Rattle.reading.specs.declared.cursor.Cursor.{Cursor}
use Rattle.reading.proofs.Rules.{no, pick_true, pick_false, bind_ok, bind_out, map_ok, map_out}

module _ {A : Type 0} where
  -- it was read
  pub got : (m : Read A) {r : Result (A × Cursor) Refusal} {a : A} {c : Cursor} → r ≡ answer m → r ≡ Ok (a, c) → m ≡ ok a c.at
  unfolding answer
  got (ok b n) {r} {a} {c} e q =
      let t : ◌≡◌ {A = A × Cursor} (b, record { at = n }) (a, c) = cc in
      λ i. ok (t i).0 (t i).1.at
  got (refused f p) e q = no (cc)

  -- it was refused
  pub out : (m : Read A) {r : Result (A × Cursor) Refusal} {w : Refusal} → r ≡ answer m → r ≡ Err w → m ≡ refused w.fault w.place
  unfolding answer
  out (ok b n) e q = no (cc)
  out (refused f p) {r} {w} e q =
      let t : refusal f p ≡ w = cc in
      λ i. refused (t i).fault (t i).place

  -- the same of where it ends
  pub stood : (m : Read A) {r : Result Cursor Refusal} {c : Cursor} → r ≡ stands m → r ≡ Ok c → (a : A) × (m ≡ ok a c.at)
  unfolding stands
  stood (ok a n) {r} {c} e q = let t : record { at = n } ≡ c = cc in (a, ap (λ (z : Cursor). ok a z.at) t)
  stood (refused f p) e q = no (cc)

  pub stood_out : (m : Read A) {r : Result Cursor Refusal} {w : Refusal} → r ≡ stands m → r ≡ Err w → m ≡ refused w.fault w.place
  unfolding stands
  stood_out (ok a n) e q = no (cc)
  stood_out (refused f p) {r} {w} e q =
      let t : refusal f p ≡ w = cc in
      λ i. refused (t i).fault (t i).place

  -- the rules for what is answered
  pub answer_ok : (a : A) (n : ℕ) → answer (ok a n) ≡ Ok (a, record { at = n })
  unfolding answer
  answer_ok a n = refl

  pub stands_ok : (a : A) (n : ℕ) → stands (ok a n) ≡ Ok (record { at = n })
  unfolding stands
  stands_ok a n = refl

pub answer_out : (A : Type 0) (f : Fault) (p : ℕ) → answer {A = A} (refused f p) ≡ Err (refusal f p)
unfolding answer
answer_out A f p = refl

pub stands_out : (A : Type 0) (f : Fault) (p : ℕ) → stands {A = A} (refused f p) ≡ Err (refusal f p)
unfolding stands
stands_out A f p = refl

-- a refusal that was made
module _ {e : Refusal} {f : Fault} {p : ℕ} (q : e ≡ refusal f p) where
  pub refused_answer : (A : Type 0) → Err e ≡ answer {A = A} (refused f p)
  unfolding answer
  refused_answer A = rw q

  pub refused_stands : (A : Type 0) → Err e ≡ stands {A = A} (refused f p)
  unfolding stands
  refused_stands A = rw q

pub ruleset tests = (pick_true, pick_false, bind_ok, bind_out, map_ok, map_out, lt-ltb, le-ltb, le-leb, lt-leb, eq-eqb, ne_eqb, answer_ok, answer_out, stands_ok, stands_out, refused_answer, refused_stands)
