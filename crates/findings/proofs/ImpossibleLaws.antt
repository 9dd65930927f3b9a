-- What is noted of a guard, by what its judging answers; and of the guards of all transitions, row by row.
use Rattle.std.specs.Prelude.{Option, Some, None}
use Prim.Native.Nat.{ℕ, ◌+◌, ◌<◌, ◌≤◌}
use mathlib.Core.Path.{◌≡◌, sym, ap, subst, ◌∙◌}
use mathlib.Core.Bool.{Bool, true, false}
use mathlib.Core.List.{List, [], ◌∷◌}
use mathlib.Core.Option.{some}
use native.Mathlib.Omega.{arith}
use lib.ListN.{length, get_or}
use lib.Dec.{eqb}
use Rattle.reading.specs.Read.{ok}
use Rattle.reading.specs.Expr.{Expr}
use Rattle.reading.specs.Transition.{Transition, read_top_expr}
use Rattle.typing.specs.Env.{given}
use Rattle.typing.specs.Holds.{clash_of, LiteralFalse, Contradicts}
use Rattle.typing.specs.declared.guard.Clash.{Clash}
use Rattle.findings.specs.Lists.{placed, each}
use Rattle.findings.specs.Finding.{Note, note}
use Rattle.findings.specs.Warnings.{impossible_guard, impossible}
use Rattle.findings.specs.Noting.{Noted}
use Rattle.findings.specs.Scene.{field, Rows}
use Rattle.findings.specs.WarningPromises.{NotesGuardImpossible, NotesImpossible}
use Rattle.findings.proofs.NoteLaws.{note_nothing, note_as}
use Rattle.findings.proofs.EachLaws.{Left, left_all, get_some, each_from, each_turn, each_done}
use Rattle.findings.proofs.OptionLaws.{not_given, is_given}

module _ (s : List ℕ) (owner : ℕ) (o : List ℕ) (skip n at i : ℕ) {b : Bool} (e : b ≡ eqb (get_or s at 0) 246) where
  abbrev Notes : ℕ → List ℕ → Type 0
  Notes r o' = NotesGuardImpossible s owner o skip n r o' at i

  pub guard_absent : b ≡ true → Notes n o
  unfolding impossible_guard
  guard_absent q = record { of = λ g k. rw (not_given read_top_expr s at k e q) (note_nothing owner o skip n) }

  -- what is noted where a guard is given
  module _ (q : b ≡ false) {l : Bool} (f : LiteralFalse 32 s at l) where
    by_guard : {r : ℕ} {o' : List ℕ} (xs : List Note) → ((x : Expr) (m : ℕ) → read_top_expr s at ≡ ok x m → xs ≡ impossible_guard i (some x)) → Noted owner o skip n xs r o' → Notes r o'
    by_guard xs h p = record {
      of = λ g k.
          let v = is_given read_top_expr s at k e q in
          note_as owner (impossible_guard i g) (h v.item v.reads.end v.reads.is ∙ ap (impossible_guard i) (sym v.is)) p;
    }

    pub guard_false : {r : ℕ} {o' : List ℕ} → l ≡ true → Noted owner o skip n (note 25 i 0 0 ∷ []) r o' → Notes r o'
    unfolding impossible_guard read_top_expr
    guard_false z p = by_guard (note 25 i 0 0 ∷ []) (λ x m k. rw (sym (f.of x m k) ∙ z)) p

    module _ (z : l ≡ false) {c : Option Clash} (g : Contradicts 32 s at c) where
      pub guard_fine : c ≡ None → Notes n o
      unfolding impossible_guard read_top_expr given clash_of
      guard_fine w = by_guard [] (λ x m k. rw (sym (f.of x m k) ∙ z, sym (g.of x m k) ∙ ap (clash_of s) w)) (note_nothing owner o skip n)

      pub guard_clash : {d : Clash} {r : ℕ} {o' : List ℕ} → c ≡ Some d → Noted owner o skip n (note 26 i 0 0 ∷ []) r o' → Notes r o'
      unfolding impossible_guard read_top_expr given clash_of
      guard_clash w p = by_guard (note 26 i 0 0 ∷ []) (λ x m k. rw (sym (f.of x m k) ∙ z, sym (g.of x m k) ∙ ap (clash_of s) w)) p

-- the guards of the transitions from number i on are still to be noted
module _ (s : List ℕ) (owner : ℕ) (o : List ℕ) (skip n : ℕ) (rows : List ℕ) (count : ℕ) where
  pub record GuardsLeft (i r : ℕ) (o' : List ℕ) : Type 0 where
    pub of : (ts : List Transition) → Rows s rows ts → count ≡ length ts → Left owner o skip n (each impossible (placed 0 ts)) r o' (each_from impossible i ts)

  pub guards_start : GuardsLeft 0 n o
  guards_start = record { of = λ ts w q. left_all owner o skip n (each impossible (placed 0 ts)) }

  module _ (i r : ℕ) {o' : List ℕ} (g : GuardsLeft i r o') where
    pub guards_more : {r' : ℕ} {o'' : List ℕ} → i < count → NotesGuardImpossible s owner o' skip r r' o'' (field rows i 3) i → GuardsLeft (i + 1) r' o''
    unfolding impossible
    guards_more h p = record {
      of = λ ts w q.
          let x = get_some ts i (omega arith) in
          let k = (w.at i x.0 x.1).guard_is in
          each_turn impossible i ts x.0 x.1 (g.of ts w q) (p.of x.0.guard (record { end = field rows i 4; is = k }));
    }

    pub guards_done : count ≤ i → NotesImpossible s owner o skip n r o' rows count
    guards_done h = record { of = λ ts w q. each_done impossible i ts (omega arith) (g.of ts w q) }

-- a guard whose place is known
pub guard_at : (s : List ℕ) (owner : ℕ) {o : List ℕ} {skip n r : ℕ} {o' : List ℕ} {at at' i : ℕ} → at ≡ at' → NotesGuardImpossible s owner o skip n r o' at i → NotesGuardImpossible s owner o skip n r o' at' i
guard_at s owner {o} {skip} {n} {r} {o'} {at} {at'} {i} e p = subst (λ (k : ℕ). NotesGuardImpossible s owner o skip n r o' k i) e p
