-- Formulas and outputs too depend on their content and on what names mean.
use mathlib.Core.Path.{◌≡◌, refl}
use mathlib.Core.List.{List, [], ◌∷◌}
use mathlib.Core.Option.{Option, none, some}
use Rattle.reading.specs.Text.{Name}
use Rattle.reading.specs.Expr.{Expr}
use Rattle.reading.specs.Decl.{FieldDecl, ConstructorVariant, ConstructorGroup}
use Rattle.reading.specs.Transition.{OutputExpr}
use Rattle.reading.specs.Formula.{Formula}
use Rattle.reading.specs.Formula as formula
use Rattle.typing.specs.Env.{Env, Agree}
use Rattle.typing.specs.Formulas.{type_formula}
use Rattle.typing.specs.Outputs.{judge_args, variant_name, judge_output_variant, judge_output_name, judge_output, validate_output_expr}
use Rattle.typing.proofs.Depends.{type_agree}

module _ {a b : Env} (g : Agree a b) where
  pub formula_agree : (f : Formula) → type_formula a f ≡ type_formula b f
  unfolding type_formula
  formula_agree (formula.input_is p) = refl
  formula_agree (formula.output_has p) = refl
  formula_agree (formula.expr e) = rw (type_agree g e)
  formula_agree (formula.not f) = formula_agree f
  formula_agree (formula.and f h) = rw (formula_agree f, formula_agree h)
  formula_agree (formula.or f h) = rw (formula_agree f, formula_agree h)
  formula_agree (formula.implies f h) = rw (formula_agree f, formula_agree h)
  formula_agree (formula.next f) = formula_agree f
  formula_agree (formula.always f) = formula_agree f
  formula_agree (formula.bounded_always n f) = formula_agree f
  formula_agree (formula.bounded_eventually n f) = formula_agree f
  formula_agree (formula.eventually f) = formula_agree f
  formula_agree (formula.until f h) = rw (formula_agree f, formula_agree h)

  args_agree : (es : List Expr) (fs : List FieldDecl) → judge_args a es fs ≡ judge_args b es fs
  unfolding judge_args
  args_agree [] fs = refl
  args_agree (e ∷ es) [] = refl
  args_agree (e ∷ es) (f ∷ fs) = rw (type_agree g e, args_agree es fs)

  variant_agree : (o : OutputExpr) (v : Name) (d : Option ConstructorVariant) → judge_output_variant a o v d ≡ judge_output_variant b o v d
  unfolding judge_output_variant
  variant_agree o v none = refl
  variant_agree o v (some d) = rw (args_agree o.args)

  name_agree : (o : OutputExpr) (h : ConstructorGroup) (v : Option Name) → judge_output_name a o h v ≡ judge_output_name b o h v
  unfolding judge_output_name
  name_agree o h none = refl
  name_agree o h (some v) = variant_agree o v _

  group_agree : (o : OutputExpr) (h : Option ConstructorGroup) → judge_output a o h ≡ judge_output b o h
  unfolding judge_output
  group_agree o none = refl
  group_agree o (some h) = name_agree o h (variant_name o.variant h.variants)

  pub output_agree : (outputs : List ConstructorGroup) (o : OutputExpr) → validate_output_expr outputs a o ≡ validate_output_expr outputs b o
  unfolding validate_output_expr
  output_agree outputs o = group_agree o _
