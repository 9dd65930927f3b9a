-- What the typing of an expression promises: for whatever reads there, its answer is the definition's.
use Rattle.std.specs.Prelude.{ℕ, ◌≡◌, List}
use Rattle.reading.specs.Read.{ok}
use Rattle.reading.specs.Item.{read_case}
use Rattle.reading.specs.Text.{Name}
use Rattle.reading.specs.Expr.{Expr, unary, binary, unary_ops, bin_ops, read_path, read_expr}
use Rattle.typing.specs.Env.{Env}
use Rattle.typing.specs.Typing.{resolve_path, type_expr}
use Rattle.typing.specs.Means.{typed_of, outcome, Typed}

-- a path at a place, in an expression that ends at next
pub record Resolves (env : Env) (s : List ℕ) (at next : ℕ) (r : Typed) : Type 0 where
  pub of : (p : List Name) (n : ℕ) → read_path s at ≡ ok p n → typed_of s r ≡ outcome next (resolve_path env p)

-- an expression at a place, with as many levels left
pub record Types (env : Env) (d : ℕ) (s : List ℕ) (at : ℕ) (r : Typed) : Type 0 where
  pub of : (e : Expr) (n : ℕ) → read_expr d s at ≡ ok e n → typed_of s r ≡ outcome n (type_expr env e)

-- the fields of a unary expression at a place
pub record TypesUnary (env : Env) (d : ℕ) (s : List ℕ) (at : ℕ) (r : Typed) : Type 0 where
  pub of : (op k : ℕ) (e : Expr) (n : ℕ) → read_case unary_ops s at ≡ ok op k → read_expr d s k ≡ ok e n → typed_of s r ≡ outcome n (type_expr env (unary op e))

-- the fields of a binary expression at a place
pub record TypesBinary (env : Env) (d : ℕ) (s : List ℕ) (at : ℕ) (r : Typed) : Type 0 where
  pub of : (op k : ℕ) (a : Expr) (j : ℕ) (b : Expr) (n : ℕ) → read_case bin_ops s at ≡ ok op k → read_expr d s k ≡ ok a j → read_expr d s j ≡ ok b n → typed_of s r ≡ outcome n (type_expr env (binary op a b))
