-- Formulas: what is wrong with one, and its bounds.
use Rattle.std.specs.Prelude.{List, [], ◌∷◌, Bool, true, false, ltb}
use Rattle.std.proofs.Math.Option.{Option, none, some}
use Rattle.reading.specs.Read.{pick}
use Rattle.reading.specs.Pattern.{PatternField, PatternVariant, Pattern}
use Rattle.reading.specs.Pattern as pattern
use Rattle.reading.specs.Formula.{Formula}
use Rattle.reading.specs.Formula as formula
use Rattle.typing.specs.Causes.{Cause, binding_in_formula, Answer, is, fails, first_of}
use Rattle.typing.specs.Rules.{must_bool}
use Rattle.typing.specs.Env.{Env, given}
use Rattle.typing.specs.Typing.{type_expr}
use Rattle.typing.specs.declared.cause.What.{What}
use Rattle.typing.specs.declared.cause.What.TheVariants.{Formula as FormulaExpr}

-- an expression that has to be a bool
unfoldable pub bool_cause : What → Answer → Option Cause
bool_cause what (is t) = must_bool what t
bool_cause what (fails c) = some c

-- whether a field has a name
unfoldable pub fields_bind : List PatternField → Bool
fields_bind [] = false
fields_bind (p ∷ ps) = pick (given p.name) true (fields_bind ps)

unfoldable pub variant_binds : Option PatternVariant → Bool
variant_binds none = false
variant_binds (some (pattern.unit n)) = false
variant_binds (some (pattern.struct n ps)) = fields_bind ps

-- check_pattern_group
unfoldable pub check_pattern_group : Pattern → Option Cause
check_pattern_group p = pick (variant_binds p.variant) (some binding_in_formula) none

-- type_formula
unfoldable pub type_formula : Env → Formula → Option Cause
type_formula env (formula.input_is p) = check_pattern_group p
type_formula env (formula.output_has p) = none
type_formula env (formula.expr e) = bool_cause FormulaExpr (type_expr env e)
type_formula env (formula.not f) = type_formula env f
type_formula env (formula.and f g) = first_of (type_formula env f) (type_formula env g)
type_formula env (formula.or f g) = first_of (type_formula env f) (type_formula env g)
type_formula env (formula.implies f g) = first_of (type_formula env f) (type_formula env g)
type_formula env (formula.next f) = type_formula env f
type_formula env (formula.always f) = type_formula env f
type_formula env (formula.bounded_always b f) = type_formula env f
type_formula env (formula.bounded_eventually b f) = type_formula env f
type_formula env (formula.eventually f) = type_formula env f
type_formula env (formula.until f g) = first_of (type_formula env f) (type_formula env g)

-- bounded_always_error: an always[N] with N below 1 somewhere in it
unfoldable pub bounded_always_error : Formula → Bool
bounded_always_error (formula.input_is p) = false
bounded_always_error (formula.output_has p) = false
bounded_always_error (formula.expr e) = false
bounded_always_error (formula.not f) = bounded_always_error f
bounded_always_error (formula.and f g) = pick (bounded_always_error f) true (bounded_always_error g)
bounded_always_error (formula.or f g) = pick (bounded_always_error f) true (bounded_always_error g)
bounded_always_error (formula.implies f g) = pick (bounded_always_error f) true (bounded_always_error g)
bounded_always_error (formula.next f) = bounded_always_error f
bounded_always_error (formula.always f) = bounded_always_error f
bounded_always_error (formula.bounded_always b f) = pick (ltb b 1) true (bounded_always_error f)
bounded_always_error (formula.bounded_eventually b f) = bounded_always_error f
bounded_always_error (formula.eventually f) = bounded_always_error f
bounded_always_error (formula.until f g) = pick (bounded_always_error f) true (bounded_always_error g)
