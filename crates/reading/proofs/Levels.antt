-- What nests by levels: nothing starts where no level is left, and a start takes one.
use Prim.Native.Nat.{ℕ, suc, ◌-◌}
use mathlib.Core.Path.{◌≡◌, ap, ◌∙◌}
use mathlib.Core.List.{List}
use native.Mathlib.Omega.{arith}
use Rattle.std.specs.Prelude.{Result, Err}
use Rattle.reading.specs.Combine.{enum_of}
use Rattle.reading.specs.Expr.{read_expr, expr_cases}
use Rattle.reading.specs.Formula.{read_formula, formula_cases}
use Rattle.reading.specs.Link.{stands, refusal}
use Rattle.reading.specs.declared.fault.Fault.TheVariants.{TooDeep}
use Rattle.reading.specs.declared.fault.Refusal.{Refusal}
use Rattle.reading.specs.declared.cursor.Cursor.{Cursor}

module _ (s : List ℕ) (at d : ℕ) where
  pub expr_none : d ≡ 0 → {e : Refusal} → e ≡ refusal TooDeep at → Err e ≡ stands (read_expr d s at)
  unfolding read_expr stands
  expr_none z q = rw (q, z)

  pub formula_none : d ≡ 0 → {e : Refusal} → e ≡ refusal TooDeep at → Err e ≡ stands (read_formula d s at)
  unfolding read_formula stands
  formula_none z q = rw (q, z)

  module _ {x : Result Cursor Refusal} (h : d ≡ 0 → ⊥) where
    pub expr_level : x ≡ stands (enum_of (expr_cases (read_expr (d - 1))) s at) → x ≡ stands (read_expr d s at)
    unfolding read_expr
    expr_level q = q ∙ ap (λ (k : ℕ). stands (read_expr k s at)) (let k : suc (d - 1) ≡ d = omega arith in k)

    pub formula_level : x ≡ stands (enum_of (formula_cases (read_formula (d - 1)) (read_expr (d - 1))) s at) → x ≡ stands (read_formula d s at)
    unfolding read_formula
    formula_level q = q ∙ ap (λ (k : ℕ). stands (read_formula k s at)) (let k : suc (d - 1) ≡ d = omega arith in k)
