-- Priorities: null is none, and anything else is a number.
use Prim.Native.Nat.{ℕ, ◌+◌, ◌*◌, ◌%◌}
use mathlib.Core.Path.{◌≡◌, refl, sym, ap, ◌∙◌}
use mathlib.Core.List.{List}
use mathlib.Core.Bool.{Bool, true, false}
use mathlib.Core.Option.{Option, none, some}
use lib.ListN.{get_or}
use lib.Dec.{eqb}
use borrow.Author.Tests.{eqb-true, eqb-false}
use Rattle.reading.specs.Read.{ok}
use Rattle.reading.specs.Limits.{max_u32}
use Rattle.reading.specs.Item.{read_number}
use Rattle.reading.specs.Combine.{optional}
use Rattle.reading.specs.Link.{answer}
use Rattle.reading.specs.Views.{OptionAt, absent, present}
use Rattle.reading.specs.declared.cursor.Cursor.{Cursor}
use Rattle.reading.proofs.Rules.{no}
use Rattle.reading.proofs.Answers.{got, out}
use Rattle.reading.proofs.ListViews.{option_at}
use Rattle.findings.specs.Scene.{field, Reads}
use Rattle.findings.specs.Prints.{ranked}
use Rattle.findings.specs.Parts.{Ranked}
use Rattle.findings.specs.Classes.{bare, Bare}
use Rattle.findings.specs.PairSteps.{PriorityAt, SamePriority}
use Rattle.std.specs.Prelude.{Result, Ok, Err}
use Rattle.reading.specs.declared.fault.Refusal.{Refusal}

module _ (s : List ℕ) where
  abbrev Priority : ℕ → Option ℕ → Type 0
  Priority p a = Reads (optional (read_number max_u32)) s p a

  abbrev null : ℕ → Bool
  null p = eqb (get_or s p 0) 246

  null_is : {p : ℕ} {a : Option ℕ} → null p ≡ true → Priority p a → a ≡ none
  null_is {p} {a} e g = by (option_at (read_number max_u32) s p a g.end g.is)
    where
      by : {x : Option ℕ} {n : ℕ} → OptionAt (read_number max_u32) s p x n → x ≡ none
      by (absent h k) = refl
      by (present h k) = absurd (h (eqb-true (get_or s p 0) 246 e))

  given_is : {p : ℕ} {a : Option ℕ} → null p ≡ false → (g : Priority p a) → (v : ℕ) × (a ≡ some v) × (read_number max_u32 s p ≡ ok v g.end)
  given_is {p} {a} e g = by (option_at (read_number max_u32) s p a g.end g.is)
    where
      by : {x : Option ℕ} {n : ℕ} → OptionAt (read_number max_u32) s p x n → (v : ℕ) × (x ≡ some v) × (read_number max_u32 s p ≡ ok v n)
      by (absent h k) = absurd (eqb-false (get_or s p 0) 246 e h)
      by (present {x} h k) = (x, refl, k)

  module _ {at : ℕ} {a : Result (ℕ × Cursor) Refusal} (e : a ≡ answer (read_number max_u32 s at)) where
    pub priority_got : {v : ℕ} {c : Cursor} → a ≡ Ok (v, c) → PriorityAt s at v
    priority_got q = record { of = λ w n h. let x = got _ e q in cc }

    pub priority_none : {f : Refusal} (r : ℕ) → a ≡ Err f → PriorityAt s at r
    priority_none r q = record { of = λ w n h. no (let x = out _ e q in cc) }

  -- a print with a priority
  module _ {at h : ℕ} {b : Bool} (e : b ≡ null at) where
    pub rank_none : b ≡ true → Ranked s at h h
    unfolding ranked
    rank_none q = record { of = λ a g. rw (null_is (sym e ∙ q) g) }

    pub rank_given : {v : ℕ} → b ≡ false → PriorityAt s at v → Ranked s at h ((h * 31 + v % 4294967296 + 1) % 4294967296)
    unfolding ranked
    rank_given {v} q p = record {
      of = λ a g.
          let u = given_is (sym e ∙ q) g in
          rw u.1 (ap (λ (x : ℕ). (h * 31 + x % 4294967296 + 1) % 4294967296) (p.of u.0 g.end u.2));
    }

  module _ {p q : ℕ} where
    pub priority_first : {b r : Bool} → b ≡ null p → b ≡ true → r ≡ null q → SamePriority s p q r
    priority_first e h d = record {
      of = λ m n f g. record {
        holds = λ z. null_is (sym e ∙ h) f ∙ sym (null_is (sym d ∙ z) g);
        fails = λ z y. let u = null_is (sym e ∙ h) f in let v = (given_is (sym d ∙ z) g).1 in no (cc);
      };
    }

    module _ {b c : Bool} (e : b ≡ null p) (h : b ≡ false) (d : c ≡ null q) where
      pub priority_second : c ≡ true → SamePriority s p q false
      priority_second k = record {
        of = λ m n f g. record {
          holds = λ z. no (cc);
          fails = λ z y. let u = (given_is (sym e ∙ h) f).1 in let v = null_is (sym d ∙ k) g in no (cc);
        };
      }

      pub priority_given : {v w : ℕ} → c ≡ false → PriorityAt s p v → PriorityAt s q w → SamePriority s p q (eqb v w)
      priority_given {v} {w} k x y = record {
        of = λ m n f g.
            let i = given_is (sym e ∙ h) f in
            let j = given_is (sym d ∙ k) g in
            let a : v ≡ i.0 = x.of i.0 f.end i.2 in
            let b : w ≡ j.0 = y.of j.0 g.end j.2 in
            let l = i.1 in
            let o = j.1 in
            record {
              holds = λ z. l ∙ ap some (sym a ∙ eqb-true v w z ∙ b) ∙ sym o;
              fails = λ z r. let t : i.0 ≡ j.0 = cc in eqb-false v w z (a ∙ t ∙ sym b);
            };
      }

  -- of a row
  pub bare_row : {p : ℕ} (rows : List ℕ) (i : ℕ) (r : Bool) → r ≡ null p → p ≡ field rows i 7 → Bare s rows i r
  unfolding bare
  bare_row rows i true d e = let h = rw e at d in record { of = λ t a. rw (null_is (sym h) a.priority_is) }
  bare_row rows i false d e = let h = rw e at d in record { of = λ t a. rw (given_is (sym h) a.priority_is).1 }
