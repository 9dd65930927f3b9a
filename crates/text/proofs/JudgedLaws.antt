-- What is said by site, by the names with those that the pattern binds.
use Rattle.std.specs.Prelude.{Option, Some, None}
use Prim.Native.Nat.{ℕ, ◌-◌, ◌≤◌}
use mathlib.Core.Path.{◌≡◌, sym, subst}
use mathlib.Core.List.{List}
use native.Mathlib.Omega.{arith}
use lib.ListN.{take}
use Rattle.reading.specs.Module.{Module}
use Rattle.reading.specs.Transition.{Transition}
use Rattle.reading.proofs.Rules.{no}
use Rattle.typing.specs.Env.{Agree, for_module, with_bindings}
use Rattle.typing.specs.Patterns.{validate_event_pattern}
use Rattle.typing.specs.Blocks.{env_at}
use Rattle.findings.specs.Scene.{RowAt, Scene}
use Rattle.findings.specs.Promises.{JudgesOwn}
use Rattle.findings.specs.declared.transition.Judged.{Judged}
use Rattle.text.specs.Message.{inside}
use Rattle.text.specs.Says.{SaysPattern, SaysGuard, SaysGuardType, SaysValue, SaysEmit, SaysInside, SaysJudged}
use Rattle.text.specs.Bound.{SeesNames, BoundTo}
use Rattle.text.specs.declared.judged.Bound.{Bound}
use Rattle.text.specs.declared.said.Said.{Said}

module _ (s places rows : List ℕ) (i : ℕ) where
  module _ (names enums : List ℕ) (site j : ℕ) {r : Option Said} where
    pub inside_guard : site ≡ 9 → SaysGuard s places rows i names enums r → SaysInside s places rows i names enums site j r
    inside_guard q p = record { guard = λ e. p; guard_type = λ e. no (cc); value = λ e. no (cc); emit = λ e. no (cc) }

    pub inside_guard_type : site ≡ 10 → SaysGuardType s places rows i names enums r → SaysInside s places rows i names enums site j r
    inside_guard_type q p = record { guard = λ e. no (cc); guard_type = λ e. p; value = λ e. no (cc); emit = λ e. no (cc) }

    pub inside_value : site ≡ 12 → SaysValue s places rows i names enums j r → SaysInside s places rows i names enums site j r
    inside_value q p = record { guard = λ e. no (cc); guard_type = λ e. no (cc); value = λ e. p; emit = λ e. no (cc) }

    pub inside_emit : (site ≡ 9 → ⊥) → (site ≡ 10 → ⊥) → (site ≡ 12 → ⊥) → SaysEmit s places rows i names enums j r → SaysInside s places rows i names enums site j r
    inside_emit a b c p = record { guard = λ e. absurd (a e); guard_type = λ e. absurd (b e); value = λ e. absurd (c e); emit = λ e. p }

-- the names that a transition sees
module _ (s places rows : List ℕ) (i : ℕ) (vars enums : List ℕ) (site j : ℕ) (table : List ℕ) (n : ℕ) (g : (m : Module) (t : Transition) (enums : List ℕ) → Scene s places m → RowAt s rows i t → Agree (env_at s vars enums) (for_module m) → Agree (env_at s (take n table) enums) (with_bindings (validate_event_pattern m.events t.pattern).bound (for_module m))) where
  names_inside : (m : Module) (t : Transition) → Scene s places m → RowAt s rows i t → Agree (env_at s vars enums) (for_module m) → Agree (env_at s (take (n - 0) table) enums) (inside m t)
  unfolding inside
  names_inside m t c w y = let z : n - 0 ≡ n = omega arith in rw z (g m t enums c w y)

  from_inside : {r : Option Said} → (site ≡ 8 → ⊥) → SaysInside s places rows i (take (n - 0) table) enums site j r → SaysJudged s places rows i vars enums site j r
  from_inside q f = record {
    pattern = λ e. absurd (q e);
    guard = λ e m t c w y. (f.guard e).of m t c w (names_inside m t c w y);
    guard_type = λ e m t c w y. (f.guard_type e).of m t c w (names_inside m t c w y);
    value = λ e m t c w y. (f.value e).of m t c w (names_inside m t c w y);
    emit = λ e m t c w y. (f.emit e).of m t c w (names_inside m t c w y);
  }

-- by what was judged, and by what a table keeps of it
module _ (s places rows : List ℕ) (i : ℕ) (table enums : List ℕ) (site j : ℕ) {p : Judged} {table' : List ℕ} (g : JudgesOwn s places rows i table p table') where
  pub judged_pattern : {r : Option Said} → site ≡ 8 → SaysPattern s places i p.blame r → SaysJudged s places rows i (take 829 table) enums site j r
  judged_pattern q f = record {
    pattern = λ e m t c w y. f.of m t c (g.fault m t c w);
    guard = λ e. no (cc);
    guard_type = λ e. no (cc);
    value = λ e. no (cc);
    emit = λ e. no (cc);
  }

  pub judged_inside : {r : Option Said} → (site ≡ 8 → ⊥) → SaysInside s places rows i (take (p.names - 0) table') enums site j r → SaysJudged s places rows i (take 829 table) enums site j r
  judged_inside = from_inside s places rows i (take 829 table) enums site j table' p.names g.bound

pub judged_seen : (s places rows : List ℕ) (i : ℕ) (vars enums : List ℕ) (site j : ℕ) {table : List ℕ} {n : ℕ} → SeesNames s places rows i vars table n → {r : Option Said} → (site ≡ 8 → ⊥) → SaysInside s places rows i (take (n - 0) table) enums site j r → SaysJudged s places rows i vars enums site j r
judged_seen s places rows i vars enums site j {table} {n} g = from_inside s places rows i vars enums site j table n g.of

-- a table keeps the names that a transition sees
module _ (s places rows : List ℕ) (i : ℕ) where
  pub sees_judged : (table : List ℕ) {p : Judged} {table' : List ℕ} → JudgesOwn s places rows i table p table' → 829 ≤ p.names → p.names ≤ 1658 → SeesNames s places rows i (take 829 table) table' p.names
  sees_judged table g a b = record { low = a; high = b; of = g.bound }

  pub bound_row : (table : List ℕ) {table' : List ℕ} {n : ℕ} → SeesNames s places rows i (take 829 table) table' n → take 829 table' ≡ take 829 table → BoundTo s places rows table' (Some (record { row = i; names = n }))
  unfolding BoundTo
  bound_row table {table'} {n} g e = subst (λ (v : List ℕ). SeesNames s places rows i v table' n) (sym e) g

  pub bound_judged : (table : List ℕ) {p : Judged} {table' : List ℕ} → JudgesOwn s places rows i table p table' → 829 ≤ p.names → p.names ≤ 1658 → take 829 table' ≡ take 829 table → BoundTo s places rows table' (Some (record { row = i; names = p.names }))
  bound_judged table g a b = bound_row table (sees_judged table g a b)

  pub bound_kept : {table : List ℕ} {bound : Option Bound} {b : Bound} → BoundTo s places rows table bound → bound ≡ Some b → b.row ≡ i → SeesNames s places rows i (take 829 table) table b.names
  unfolding BoundTo
  bound_kept {table} {b = b} k e q = subst (λ (x : ℕ). SeesNames s places rows x (take 829 table) table b.names) q (subst (BoundTo s places rows table) e k)

pub bound_none : (s places rows table : List ℕ) → BoundTo s places rows table None
unfolding BoundTo
bound_none s places rows table = tt
