-- One field after the other.
use Rattle.std.proofs.Common.{rules}
use Rattle.reading.specs.Decl.{read_names, read_enum_decl}
use Rattle.reading.proofs.Threads.{on_error, record_out, record_on, then_out, then_on, list_stands}
use Rattle.reading.proofs.decl.EnumDeclItem.pass.Goals as goal

pub returns-in_err-fields-clause-value : goal.returns-in_err-fields-clause-value
unfolding read_enum_decl read_names
returns-in_err-fields-clause-value c = on_error (record_out _ _ _ _ _ c.fields.ensures c.in_err-fields.was) (search rules)

pub returns-in_err-past-clause-value : goal.returns-in_err-past-clause-value
unfolding read_enum_decl read_names
returns-in_err-past-clause-value c = on_error (record_on _ _ _ _ _ c.fields.ensures c.in_ok-fields.was (then_out _ _ _ _ c.past.ensures c.in_err-past.was)) (search rules)

pub returns-clause-value : goal.returns-clause-value
unfolding read_enum_decl read_names
returns-clause-value c = record_on _ _ _ _ _ c.fields.ensures c.in_ok-fields.was (then_on _ _ _ _ c.past.ensures c.in_ok-past.was (list_stands _ _ _ _ c.list_here.ensures))
