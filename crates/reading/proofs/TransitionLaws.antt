-- The laws of transitions and of what they emit and set, from those of their fields.
use mathlib.Core.Path.{refl}
use mathlib.Core.List.{append_assoc}
use native.Mathlib.Omega.{arith}
use Rattle.reading.specs.Limits.{max_u32, max_list, max_depth}
use Rattle.reading.specs.Expr.{read_expr, enc_expr}
use Rattle.reading.specs.Transition.{read_top_expr, read_output_expr, read_assignment, read_on_error, read_transition, enc_output_expr, enc_assignment, enc_on_error, enc_transition, WithinTopExpr, WithinOutputExpr, WithinAssignment, WithinOnError, WithinTransition}
use Rattle.reading.proofs.Formats.{Laws, From, of, flat, by_bytes}
use Rattle.reading.proofs.ExprLaws.{u64, name_laws, name_solid, expr_laws, expr_solid}
use Rattle.reading.proofs.PatternLaws.{pattern_laws}
use Rattle.reading.proofs.ItemLaws.{number_laws}
use Rattle.reading.proofs.RecordLaws.{◌also◌, record_laws}
use Rattle.reading.proofs.ListLaws.{list_laws}
use Rattle.reading.proofs.OptionLaws.{option_laws, Solid, number_solid, record_solid}

pub top_expr_laws : Laws read_top_expr enc_expr WithinTopExpr 1 (From (read_expr max_depth))
unfolding read_top_expr
top_expr_laws = expr_laws max_depth

pub top_expr_solid : Solid read_top_expr
unfolding read_top_expr
top_expr_solid = expr_solid 31

pub output_expr_laws : Laws read_output_expr enc_output_expr WithinOutputExpr 1 (From (read_expr max_depth))
unfolding read_output_expr enc_output_expr WithinOutputExpr
output_expr_laws =
    by_bytes (λ _. simp append_assoc)
    (record_laws (flat name_laws also flat (option_laws name_laws name_solid) also of (list_laws top_expr_laws max_list (omega arith))) _
    (λ x. (x.group, (x.variant, x.args))) (λ _. refl) (λ _. refl) (omega arith))

pub assignment_laws : Laws read_assignment enc_assignment WithinAssignment 1 (From (read_expr max_depth))
unfolding read_assignment enc_assignment WithinAssignment
assignment_laws = record_laws (flat name_laws also of top_expr_laws) _ (λ x. (x.var, x.value)) (λ _. refl) (λ _. refl) (omega arith)

pub on_error_laws : Laws read_on_error enc_on_error WithinOnError 1 (From (read_expr max_depth))
unfolding read_on_error enc_on_error WithinOnError
on_error_laws =
    record_laws (flat name_laws also of (list_laws output_expr_laws max_list (omega arith))) _ (λ x. (x.next_state, x.emits)) (λ _. refl) (λ _. refl) (omega arith)

pub on_error_solid : Solid read_on_error
unfolding read_on_error
on_error_solid = record_solid _ _ _

pub transition_laws : Laws read_transition enc_transition WithinTransition 1 (From (read_expr max_depth))
unfolding read_transition enc_transition WithinTransition
transition_laws =
    by_bytes (λ _. simp append_assoc)
    (record_laws
    (u64
    also flat name_laws
    also flat pattern_laws
    also of (option_laws top_expr_laws top_expr_solid)
    also flat name_laws
    also of (list_laws output_expr_laws max_list (omega arith))
    also of (list_laws assignment_laws max_list (omega arith))
    also flat (option_laws (number_laws max_u32 (omega arith)) (number_solid max_u32)))
    _ (λ x. (x.id, (x.state, (x.pattern, (x.guard, (x.next_state, (x.emits, (x.assignments, x.priority)))))))) (λ _. refl) (λ _. refl) (omega arith))
