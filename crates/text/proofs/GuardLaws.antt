-- What is said of a guard, by the names that it sees, for whatever reads there.
use Rattle.std.specs.Prelude.{Option, None, Result, Ok, Err, ⊤}
use Prim.Native.Nat.{ℕ}
use mathlib.Core.Path.{◌≡◌, refl, sym, ap, ◌∙◌}
use mathlib.Core.List.{List}
use mathlib.Core.Bool.{Bool, true, false}
use lib.ListN.{get_or}
use lib.Dec.{eqb}
use Rattle.reading.specs.Limits.{max_depth}
use Rattle.reading.specs.Expr.{Expr}
use Rattle.reading.specs.Transition.{read_top_expr}
use Rattle.typing.specs.Env.{Env, Agree}
use Rattle.typing.specs.Typing.{type_expr}
use Rattle.typing.specs.Means.{blame_of, Typed}
use Rattle.typing.specs.Blocks.{env_at}
use Rattle.typing.specs.Typed.{Types}
use Rattle.typing.specs.declared.ty.Ty.{Ty}
use Rattle.typing.specs.declared.cause.Blame.{Blame}
use Rattle.typing.specs.declared.cause.Cause.{Cause}
use Rattle.typing.proofs.Depends.{type_agree}
use Rattle.typing.proofs.TypeLaws.{is_typed, is_failed}
use Rattle.findings.specs.Scene.{Reads, field}
use Rattle.text.specs.Message.{of_given, untyped, guard_found}
use Rattle.text.specs.Said.{shown, saying_of, line}
use Rattle.text.specs.Says.{Untyped, SaysGuard, SaysGuardType}
use Rattle.text.specs.declared.said.Arg.TheVariants.{Blank, Name, Number, Debug}
use Rattle.text.specs.declared.said.Said.{Said}
use Rattle.text.proofs.LineLaws.{line_says, module_shown, guard_none, guard_some}

-- why the expression at a place has no type, in an environment that the tables tell
pub expr_blame : (s names enums : List ℕ) {at : ℕ} {d : Typed} {w : Result ⊤ Blame} {env : Env} → Types (env_at s names enums) max_depth s at d → Untyped s d w → Agree (env_at s names enums) env → (x : Expr) → Reads read_top_expr s at x → blame_of s w ≡ untyped (type_expr env x)
unfolding read_top_expr
expr_blame s names enums g u a x r = u.of (type_expr (env_at s names enums) x) r.end (g.of x r.end r.is) ∙ ap untyped (type_agree a x)

module _ (s places rows : List ℕ) (i : ℕ) where
  module _ (names enums : List ℕ) {at : ℕ} (h : at ≡ field rows i 3) {b : Bool} (e : b ≡ eqb (get_or s at 0) 246) where
    pub guard_type_absent : b ≡ true → SaysGuardType s places rows i names enums None
    unfolding of_given saying_of
    guard_type_absent q = record { of = λ m t y w n. rw (guard_none s rows i h e q w) }

    module _ (q : b ≡ false) {d : Typed} (g : Types (env_at s names enums) max_depth s at d) where
      pub guard_type_fails : {c : Cause} → d ≡ Err c → SaysGuardType s places rows i names enums None
      unfolding of_given saying_of guard_found read_top_expr
      guard_type_fails z = record {
        of = λ m t y w n.
            let v = guard_some s rows i h e q w in
            ap (guard_found m i t) (sym (is_failed (env_at s names enums) max_depth s at g v.item v.reads.end v.reads.is z) ∙ type_agree n v.item)
            ∙ ap (of_given _) (sym v.is);
      }

      pub guard_type_said_lem : {τ : Ty} {k a : ℕ} {r : Option Said} → d ≡ Ok (τ, k) → a ≡ get_or places 0 0 → r ≡ line (Name a) (Number i) (Debug τ) Blank Blank (Ok tt) → SaysGuardType s places rows i names enums r
      unfolding of_given guard_found read_top_expr shown blame_of
      guard_type_said_lem z f l = record {
        of = λ m t y w n.
            let v = guard_some s rows i h e q w in
            let u = sym (is_typed (env_at s names enums) max_depth s at g v.item v.reads.end v.reads.is z).0 ∙ type_agree n v.item in
            line_says s l (module_shown s f y) refl refl refl refl refl
            ∙ ap (guard_found m i t) u
            ∙ ap (of_given _) (sym v.is);
      }

  module _ (names enums : List ℕ) {at : ℕ} (h : at ≡ field rows i 3) {b : Bool} (e : b ≡ eqb (get_or s at 0) 246) where
    pub guard_absent : b ≡ true → SaysGuard s places rows i names enums None
    unfolding of_given saying_of
    guard_absent q = record { of = λ m t y w n. rw (guard_none s rows i h e q w) }

    pub guard_said_lem : {d : Typed} {f : Result ⊤ Blame} {a : ℕ} {r : Option Said} → b ≡ false → Types (env_at s names enums) max_depth s at d → Untyped s d f → a ≡ get_or places 0 0 → r ≡ line (Name a) (Number i) Blank Blank Blank f → SaysGuard s places rows i names enums r
    unfolding of_given shown
    guard_said_lem q g u f l = record {
      of = λ m t y w n.
          let v = guard_some s rows i h e q w in
          line_says s l (module_shown s f y) refl refl refl refl (expr_blame s names enums g u n v.item v.reads) ∙ ap (of_given _) (sym v.is);
    }
