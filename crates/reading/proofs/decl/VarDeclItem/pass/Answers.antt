-- One field after the other.
use Rattle.std.proofs.Common.{rules}
use Rattle.reading.specs.Decl.{read_var_decl}
use Rattle.reading.specs.Transition.{read_top_expr}
use Rattle.reading.proofs.Threads.{on_error, record_out, record_on, then_out, then_on}
use Rattle.reading.proofs.decl.VarDeclItem.pass.Goals as goal

pub returns-in_err-fields-clause-value : goal.returns-in_err-fields-clause-value
unfolding read_var_decl read_top_expr
returns-in_err-fields-clause-value c = on_error (record_out _ _ _ _ _ c.fields.ensures c.in_err-fields.was) (search rules)

pub returns-in_err-past-clause-value : goal.returns-in_err-past-clause-value
unfolding read_var_decl read_top_expr
returns-in_err-past-clause-value c = on_error (record_on _ _ _ _ _ c.fields.ensures c.in_ok-fields.was (then_out _ _ _ _ c.past.ensures c.in_err-past.was)) (search rules)

pub returns-in_err-past-2-clause-value : goal.returns-in_err-past-2-clause-value
unfolding read_var_decl read_top_expr
returns-in_err-past-2-clause-value c = on_error (record_on _ _ _ _ _ c.fields.ensures c.in_ok-fields.was (then_on _ _ _ _ c.past.ensures c.in_ok-past.was (then_out _ _ _ _ c.past-2.ensures c.in_err-past-2.was))) (search rules)

pub returns-clause-value : goal.returns-clause-value
unfolding read_var_decl read_top_expr
returns-clause-value c = record_on _ _ _ _ _ c.fields.ensures c.in_ok-fields.was (then_on _ _ _ _ c.past.ensures c.in_ok-past.was (then_on _ _ _ _ c.past-2.ensures c.in_ok-past-2.was c.past-3.ensures))
