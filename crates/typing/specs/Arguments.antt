-- What the judging of an argument promises: for whatever reads there, its answer is the definition's.
use Rattle.std.specs.Prelude.{ℕ, ◌≡◌, List}
use Rattle.reading.specs.Read.{ok}
use Rattle.reading.specs.Limits.{max_depth}
use Rattle.reading.specs.Expr.{Expr, read_expr}
use Rattle.reading.specs.Decl.{Ty, read_ty}
use Rattle.typing.specs.Types.{type_to_expr_type}
use Rattle.typing.specs.Causes.{Answer}
use Rattle.typing.specs.Env.{Env}
use Rattle.typing.specs.Typing.{type_expr}
use Rattle.typing.specs.Outputs.{arg_cause}
use Rattle.typing.specs.Means.{typed_of, outcome, unfit_of, Fit, Typed}

-- an argument that was typed, of a field whose type stands at a place
pub record AcceptsTyped (s : List ℕ) (t : Typed) (ty : ℕ) (r : Fit) : Type 0 where
  pub of : (a : Answer) (n : ℕ) (u : Ty) (m : ℕ) → typed_of s t ≡ outcome n a → read_ty s ty ≡ ok u m → unfit_of s r ≡ arg_cause a (type_to_expr_type u)

-- the argument at a place, of a field whose type stands at another
pub record AcceptsArg (env : Env) (s : List ℕ) (at ty : ℕ) (r : Fit) : Type 0 where
  pub of : (e : Expr) (n : ℕ) (t : Ty) (m : ℕ) → read_expr max_depth s at ≡ ok e n → read_ty s ty ≡ ok t m → unfit_of s r ≡ arg_cause (type_expr env e) (type_to_expr_type t)
