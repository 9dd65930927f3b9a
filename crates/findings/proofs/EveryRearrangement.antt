-- Every rearranged list has its renaming of places, by the steps that rearranged it.
use Prim.Native.Nat.{ℕ, zero, suc, ◌<◌}
use mathlib.Core.Path.{◌≡◌, refl, sym, ap, ◌∙◌}
use mathlib.Core.List.{List, [], ◌∷◌, Permᴰ}
use mathlib.Core.Option.{some}
use native.Mathlib.Nat.{le_of_suc-le-suc, not-suc-le-zero}
use native.Mathlib.Omega.{arith}
use lib.ListN.{length, get_elem?}
use Rattle.reading.specs.Transition.{Transition}
use Rattle.findings.specs.Demand.{Rearranged}
use Rattle.findings.proofs.Places.{nowhere}

module _ {A : Type 0} where
  lt_some : (l : List A) (i : ℕ) → i < length l → (a : A) × (get_elem? l i ≡ some a)
  lt_some [] i h = absurd (not-suc-le-zero h)
  lt_some (x ∷ l) zero h = (x, refl)
  lt_some (x ∷ l) (suc i) h = lt_some l i (le_of_suc-le-suc h)

  some_lt : (l : List A) (i : ℕ) (a : A) → get_elem? l i ≡ some a → i < length l
  some_lt [] i a e = absurd (nowhere e)
  some_lt (x ∷ l) zero a e = omega arith
  some_lt (x ∷ l) (suc i) a e = omega (arith, some_lt l i a e)

-- the first stays, and ρ moves the others
abbrev behind_first : (ℕ → ℕ) → ℕ → ℕ
behind_first ρ zero = 0
behind_first ρ (suc i) = suc (ρ i)

-- the first two change places
abbrev exchange : ℕ → ℕ
exchange zero = 1
exchange (suc zero) = 0
exchange (suc (suc i)) = suc (suc i)

rearranged_cons : {ρ : ℕ → ℕ} {t u : Transition} {ts us : List Transition} → t ≡ u → Rearranged ρ ts us → Rearranged (behind_first ρ) (t ∷ ts) (u ∷ us)
rearranged_cons {ρ} {t} {u} {ts} {us} e r = record { as_many = ap suc r.as_many; apart = apart; moved = moved }
  where
    apart : (i j : ℕ) → i < suc (length ts) → j < suc (length ts) → behind_first ρ i ≡ behind_first ρ j → i ≡ j
    apart zero zero h k p = refl
    apart zero (suc j) h k p = absurd (omega arith)
    apart (suc i) zero h k p = absurd (omega arith)
    apart (suc i) (suc j) h k p = ap suc (r.apart i j (le_of_suc-le-suc h) (le_of_suc-le-suc k) (omega arith))

    moved : (i : ℕ) → i < suc (length ts) → get_elem? (u ∷ us) (behind_first ρ i) ≡ get_elem? (t ∷ ts) i
    moved zero h = ap some (sym e)
    moved (suc i) h = r.moved i (le_of_suc-le-suc h)

rearranged_swap : {a b c d : Transition} {l : List Transition} → a ≡ d → b ≡ c → Rearranged exchange (a ∷ b ∷ l) (c ∷ d ∷ l)
rearranged_swap {a} {b} {c} {d} {l} e₁ e₂ = record { as_many = refl; apart = λ i j h k p. apart i j p; moved = λ i h. moved i }
  where
    apart : (i j : ℕ) → exchange i ≡ exchange j → i ≡ j
    apart zero zero p = refl
    apart zero (suc zero) p = absurd (omega arith)
    apart zero (suc (suc j)) p = absurd (omega arith)
    apart (suc zero) zero p = absurd (omega arith)
    apart (suc zero) (suc zero) p = refl
    apart (suc zero) (suc (suc j)) p = absurd (omega arith)
    apart (suc (suc i)) zero p = absurd (omega arith)
    apart (suc (suc i)) (suc zero) p = absurd (omega arith)
    apart (suc (suc i)) (suc (suc j)) p = p

    moved : (i : ℕ) → get_elem? (c ∷ d ∷ l) (exchange i) ≡ get_elem? (a ∷ b ∷ l) i
    moved zero = ap some (sym e₁)
    moved (suc zero) = ap some (sym e₂)
    moved (suc (suc i)) = refl

rearranged_trans : {ρ σ : ℕ → ℕ} {ts us vs : List Transition} → Rearranged ρ ts us → Rearranged σ us vs → Rearranged (λ i. σ (ρ i)) ts vs
rearranged_trans {ρ} {σ} {ts} {us} {vs} r s =
    record {
      as_many = s.as_many ∙ r.as_many;
      apart = λ i j h k p. r.apart i j h k (s.apart (ρ i) (ρ j) (lands i h) (lands j k) p);
      moved = λ i h. s.moved (ρ i) (lands i h) ∙ r.moved i h;
    }
  where
    lands : (i : ℕ) → i < length ts → ρ i < length us
    lands i h = let a = lt_some ts i h in some_lt us (ρ i) a.0 (r.moved i h ∙ a.1)

pub every_rearrangement : {ts us : List Transition} → Permᴰ ts us → (ρ : ℕ → ℕ) × Rearranged ρ ts us
every_rearrangement Permᴰ.nil = (λ i. i, record { as_many = refl; apart = λ i j h k e. e; moved = λ i h. refl })
every_rearrangement (Permᴰ.cons e d) = let r = every_rearrangement d in (behind_first r.0, rearranged_cons e r.1)
every_rearrangement (Permᴰ.swap e₁ e₂) = (exchange, rearranged_swap e₁ e₂)
every_rearrangement (Permᴰ.trans d₁ d₂) =
    let r = every_rearrangement d₁ in
    let s = every_rearrangement d₂ in
    (λ i. s.0 (r.0 i), rearranged_trans r.1 s.1)
