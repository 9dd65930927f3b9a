-- Outputs: what is wrong with what is emitted.
use Rattle.std.specs.Prelude.{List, [], ◌∷◌, length, eqb}
use Rattle.std.proofs.Math.Option.{Option, none, some}
use Rattle.reading.specs.Read.{pick}
use Rattle.reading.specs.Text.{Name}
use Rattle.reading.specs.Expr.{Expr}
use Rattle.reading.specs.Decl.{FieldDecl, ConstructorVariant, ConstructorGroup}
use Rattle.reading.specs.Decl as decl
use Rattle.reading.specs.Transition.{OutputExpr}
use Rattle.typing.specs.Types.{ExprType, type_to_expr_type}
use Rattle.typing.specs.Causes.{Cause, unknown_output_group, bare_output, unknown_output_variant, argument_count, Answer, is, fails, first_of, alone, arg, Blame, blame}
use Rattle.typing.specs.Names.{first_called}
use Rattle.typing.specs.Rules.{compatible_with}
use Rattle.typing.specs.Env.{Env}
use Rattle.typing.specs.Typing.{type_expr}
use Rattle.typing.specs.Patterns.{declared_name}

unfoldable pub fields_of : ConstructorVariant → List FieldDecl
fields_of (decl.unit n) = []
fields_of (decl.struct n fs) = fs

unfoldable pub arg_cause : Answer → ExprType → Option Cause
arg_cause (is t) due = compatible_with t due
arg_cause (fails c) due = some c

-- each argument with its field
unfoldable pub judge_args : Env → List Expr → List FieldDecl → Option Blame
judge_args env [] fs = none
judge_args env (e ∷ es) [] = none
judge_args env (e ∷ es) (f ∷ fs) =
    first_of (blame (arg f.name) (arg_cause (type_expr env e) (type_to_expr_type f.ty))) (judge_args env es fs)

-- the variant's name: the one given, or the group's only one
unfoldable pub variant_name : Option Name → List ConstructorVariant → Option Name
variant_name (some v) vs = some v
variant_name none [] = none
variant_name none (v ∷ []) = some (declared_name v)
variant_name none (v ∷ (w ∷ ws)) = none

unfoldable pub judge_output_variant : Env → OutputExpr → Name → Option ConstructorVariant → Option Blame
judge_output_variant env o v none = blame alone (some (unknown_output_variant v o.group))
judge_output_variant env o v (some d) =
    pick (eqb (length o.args) (length (fields_of d))) (judge_args env o.args (fields_of d))
    (blame alone (some (argument_count v (length o.args) (length (fields_of d)))))

unfoldable pub judge_output_name : Env → OutputExpr → ConstructorGroup → Option Name → Option Blame
judge_output_name env o g none = blame alone (some (bare_output o.group))
judge_output_name env o g (some v) = judge_output_variant env o v (first_called declared_name v g.variants)

unfoldable pub judge_output : Env → OutputExpr → Option ConstructorGroup → Option Blame
judge_output env o none = blame alone (some (unknown_output_group o.group))
judge_output env o (some g) = judge_output_name env o g (variant_name o.variant g.variants)

-- validate_output_expr, by the groups of outputs: the first of the name
unfoldable pub validate_output_expr : List ConstructorGroup → Env → OutputExpr → Option Blame
validate_output_expr outputs env o = judge_output env o (first_called (λ (g : ConstructorGroup). g.name) o.group outputs)
