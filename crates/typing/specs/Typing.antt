-- The type of an expression.
use Rattle.std.specs.Prelude.{ℕ, List, [], ◌∷◌, length, ltb}
use Rattle.std.proofs.Math.Option.{Option, none, some}
use Rattle.reading.specs.Read.{pick}
use Rattle.reading.specs.Text.{Name}
use Rattle.reading.specs.Expr.{Expr}
use Rattle.reading.specs.Expr as expr
use Rattle.typing.specs.Types.{ExprType, bool, int_lit, enum}
use Rattle.typing.specs.Causes.{empty_path, unknown_identifier, unknown_enum, unknown_variant, path_length, Answer, is, fails, and_then}
use Rattle.typing.specs.Names.{eq_name, state_word, state_enum}
use Rattle.typing.specs.Rules.{unary_type, bin_op, binary_type}
use Rattle.typing.specs.Env.{Env, named, state_variants}

-- "variants of the last enum called State"
unfoldable pub resolve_state : Env → Name → Answer
resolve_state env n = pick (state_variants env n) (is (enum state_enum)) (fails (unknown_identifier n))

-- "then bindings, variables"
unfoldable pub or_state : Env → Name → Option ExprType → Answer
or_state env n (some t) = is t
or_state env n none = resolve_state env n

-- "One segment: "state" first, always Enum State"
unfoldable pub resolve_name : Env → Name → Answer
resolve_name env n = pick (eq_name n state_word) (is (enum state_enum)) (or_state env n (named env n))

-- "Longer path: enum, then variant, then length over 2"; n is the path's length
unfoldable pub resolve_variant : Env → Name → Name → ℕ → Answer
resolve_variant env e v n =
    pick (env.enums e)
    (pick (env.variants e v)
    (pick (ltb 2 n) (fails (path_length n)) (is (enum e)))
    (fails (unknown_variant v e)))
    (fails (unknown_enum e))

-- resolve_path
unfoldable pub resolve_path : Env → List Name → Answer
resolve_path env [] = fails empty_path
resolve_path env (n ∷ []) = resolve_name env n
resolve_path env (e ∷ (v ∷ ws)) = resolve_variant env e v (length (e ∷ (v ∷ ws)))

-- "An expression's type depends on its operands', through unary and binary rules; left goes first, the first cause wins"
unfoldable pub type_expr : Env → Expr → Answer
type_expr env (expr.int v) = is int_lit
type_expr env (expr.bool b) = is bool
type_expr env (expr.path p) = resolve_path env p
type_expr env (expr.unary op e) = and_then (type_expr env e) (unary_type op)
type_expr env (expr.binary op l r) = and_then (type_expr env l) λ a. and_then (type_expr env r) (binary_type (bin_op op) a)
