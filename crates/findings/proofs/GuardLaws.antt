-- What each step of a guard's notes gives, for whatever reads there.
use Rattle.std.specs.Prelude.{Ok, Err}
use Prim.Native.Nat.{ℕ}
use mathlib.Core.Path.{◌≡◌, sym}
use mathlib.Core.List.{List, [], ◌∷◌}
use mathlib.Core.Bool.{Bool, true, false, not}
use lib.ListN.{get_or}
use lib.Dec.{eqb}
use Rattle.reading.specs.Read.{ok}
use Rattle.reading.specs.Limits.{max_depth}
use Rattle.reading.specs.Expr.{Expr}
use Rattle.reading.specs.Transition.{read_top_expr}
use Rattle.typing.specs.Causes.{number}
use Rattle.typing.specs.Rules.{is_bool}
use Rattle.typing.specs.Env.{Env, Agree}
use Rattle.typing.specs.Typing.{type_expr}
use Rattle.typing.specs.Means.{ty_of, cause_of, Typed}
use Rattle.typing.specs.Blocks.{env_at}
use Rattle.typing.specs.Typed.{Types}
use Rattle.typing.specs.declared.ty.Ty.{Ty}
use Rattle.typing.specs.declared.cause.Cause.{Cause}
use Rattle.typing.proofs.Depends.{type_agree}
use Rattle.typing.proofs.TypeLaws.{is_typed, is_failed}
use Rattle.findings.specs.Finding.{Note, note, noted}
use Rattle.findings.specs.Errors.{guard_typed, guard_notes}
use Rattle.findings.specs.Noting.{Noted}
use Rattle.findings.specs.Promises.{NotesGuard}
use Rattle.findings.proofs.NoteLaws.{note_nothing, note_as}
use Rattle.findings.proofs.OptionLaws.{not_given, is_given}

module _ (s : List ℕ) (at i : ℕ) (names enums : List ℕ) (owner : ℕ) (o : List ℕ) (skip n : ℕ) {b : Bool} (e : b ≡ eqb (get_or s at 0) 246) where
  pub guard_absent : b ≡ true → NotesGuard s owner o skip n n o at i names enums
  unfolding guard_notes
  guard_absent q = record { of = λ g env h a. rw (not_given read_top_expr s at h e q) (note_nothing owner o skip n) }

  module _ (q : b ≡ false) {t : Typed} (h : Types (env_at s names enums) max_depth s at t) {r : ℕ} {o' : List ℕ} where
    -- by what the guard's type is
    guard_by : (xs : List Note) → Noted owner o skip n xs r o' → ((x : Expr) (m : ℕ) (env : Env) → read_top_expr s at ≡ ok x m → Agree (env_at s names enums) env → xs ≡ guard_typed i (type_expr env x)) → NotesGuard s owner o skip n r o' at i names enums
    unfolding guard_notes
    guard_by xs p f = record {
      of = λ g env w a.
          let v = is_given read_top_expr s at w e q in
          rw v.is (note_as owner (guard_typed i (type_expr env v.item)) (f v.item v.reads.end env v.reads.is a) p);
    }

    pub guard_fails : {c : Cause} {w : ℕ} → t ≡ Err c → w ≡ number (cause_of s c) → Noted owner o skip n (note 9 i 0 w ∷ []) r o' → NotesGuard s owner o skip n r o' at i names enums
    unfolding guard_typed read_top_expr
    guard_fails z k p = guard_by _ p λ x m env v a. rw (sym (type_agree a x), is_failed (env_at s names enums) max_depth s at h x m v z, k)

    pub guard_typed_lem : {τ : Ty} {m : ℕ} {d : Bool} → t ≡ Ok (τ, m) → d ≡ is_bool (ty_of s τ) → Noted owner o skip n (noted (not d) (note 10 i 0 0)) r o' → NotesGuard s owner o skip n r o' at i names enums
    unfolding guard_typed read_top_expr
    guard_typed_lem z k p = guard_by _ p λ x m env v a. rw (sym (type_agree a x), (is_typed (env_at s names enums) max_depth s at h x m v z).0, k)
