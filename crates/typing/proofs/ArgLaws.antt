-- What each step of the judging of an argument gives, for whatever reads there.
use Rattle.std.specs.Prelude.{Ok, Err}
use Prim.Native.Nat.{ℕ}
use mathlib.Core.Path.{◌≡◌, ap, ◌∙◌}
use mathlib.Core.List.{List}
use Rattle.reading.specs.Limits.{max_depth}
use Rattle.typing.specs.Rules.{compatible_with}
use Rattle.typing.specs.Env.{Env}
use Rattle.typing.specs.Typing.{type_expr}
use Rattle.typing.specs.Outputs.{arg_cause}
use Rattle.typing.specs.Means.{ty_of, typed_of, unfit_of, Fit, Typed}
use Rattle.typing.specs.Table.{expr_type_at}
use Rattle.typing.specs.Typed.{Types}
use Rattle.typing.specs.Arguments.{AcceptsTyped, AcceptsArg}
use Rattle.typing.specs.declared.ty.Ty.{Ty}
use Rattle.typing.specs.declared.cause.Cause.{Cause}
use Rattle.typing.proofs.EnvLaws.{type_is}
use Rattle.typing.proofs.TypeLaws.{type_was, cause_was}

module _ (s : List ℕ) (ty : ℕ) {t : Typed} where
  pub typed_fails : {c : Cause} → t ≡ Err c → AcceptsTyped s t ty (Err c)
  unfolding arg_cause unfit_of typed_of
  typed_fails q = record { of = λ a n y m g i. rw (cause_was a n (rw q at g)) }

  pub typed_is : {τ : Ty} {k : ℕ} (due : Ty) (r : Fit) → t ≡ Ok (τ, k) → ty_of s due ≡ expr_type_at s ty → unfit_of s r ≡ compatible_with (ty_of s τ) (ty_of s due) → AcceptsTyped s t ty r
  unfolding arg_cause typed_of
  typed_is {τ} due r q f c = record {
    of = λ a n y m g i.
        rw (type_was a (rw q at g)).0 (c ∙ ap (compatible_with (ty_of s τ)) (f ∙ type_is s ty y m i));
  }

  pub arg_accepts : (env : Env) (at : ℕ) (r : Fit) → Types env max_depth s at t → AcceptsTyped s t ty r → AcceptsArg env s at ty r
  arg_accepts env at r h k = record { of = λ e n y m g i. k.of (type_expr env e) n y m (h.of e n g) i }
