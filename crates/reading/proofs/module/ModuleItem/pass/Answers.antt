-- One field after the other.
use Rattle.std.proofs.Common.{rules}
use Rattle.reading.specs.Module.{read_module}
use Rattle.reading.proofs.Threads.{on_error, record_out, record_on, then_out, then_on, list_stands, optional_stands}
use Rattle.reading.proofs.module.ModuleItem.pass.Goals as goal

pub returns-in_err-fields-clause-value : goal.returns-in_err-fields-clause-value
unfolding read_module
returns-in_err-fields-clause-value c = on_error (record_out _ _ _ _ _ c.fields.ensures c.in_err-fields.was) (search rules)

pub returns-in_err-past-clause-value : goal.returns-in_err-past-clause-value
unfolding read_module
returns-in_err-past-clause-value c = on_error (record_on _ _ _ _ _ c.fields.ensures c.in_ok-fields.was (then_out _ _ _ _ c.past.ensures c.in_err-past.was)) (search rules)

pub returns-in_err-optional-clause-value : goal.returns-in_err-optional-clause-value
unfolding read_module
returns-in_err-optional-clause-value c = on_error (record_on _ _ _ _ _ c.fields.ensures c.in_ok-fields.was (then_on _ _ _ _ c.past.ensures c.in_ok-past.was (then_out _ _ _ _ (optional_stands _ _ _ c.optional.ensures) c.in_err-optional.was))) (search rules)

pub returns-in_err-optional-2-clause-value : goal.returns-in_err-optional-2-clause-value
unfolding read_module
returns-in_err-optional-2-clause-value c = on_error (record_on _ _ _ _ _ c.fields.ensures c.in_ok-fields.was (then_on _ _ _ _ c.past.ensures c.in_ok-past.was (then_on _ _ _ _ (optional_stands _ _ _ c.optional.ensures) c.in_ok-optional.was (then_out _ _ _ _ (optional_stands _ _ _ c.optional-2.ensures) c.in_err-optional-2.was)))) (search rules)

pub returns-in_err-list-clause-value : goal.returns-in_err-list-clause-value
unfolding read_module
returns-in_err-list-clause-value c = on_error (record_on _ _ _ _ _ c.fields.ensures c.in_ok-fields.was (then_on _ _ _ _ c.past.ensures c.in_ok-past.was (then_on _ _ _ _ (optional_stands _ _ _ c.optional.ensures) c.in_ok-optional.was (then_on _ _ _ _ (optional_stands _ _ _ c.optional-2.ensures) c.in_ok-optional-2.was (then_out _ _ _ _ (list_stands _ _ _ _ c.list.ensures) c.in_err-list.was))))) (search rules)

pub returns-in_err-optional-3-clause-value : goal.returns-in_err-optional-3-clause-value
unfolding read_module
returns-in_err-optional-3-clause-value c = on_error (record_on _ _ _ _ _ c.fields.ensures c.in_ok-fields.was (then_on _ _ _ _ c.past.ensures c.in_ok-past.was (then_on _ _ _ _ (optional_stands _ _ _ c.optional.ensures) c.in_ok-optional.was (then_on _ _ _ _ (optional_stands _ _ _ c.optional-2.ensures) c.in_ok-optional-2.was (then_on _ _ _ _ (list_stands _ _ _ _ c.list.ensures) c.in_ok-list.was (then_out _ _ _ _ (optional_stands _ _ _ c.optional-3.ensures) c.in_err-optional-3.was)))))) (search rules)

pub returns-in_err-list-2-clause-value : goal.returns-in_err-list-2-clause-value
unfolding read_module
returns-in_err-list-2-clause-value c = on_error (record_on _ _ _ _ _ c.fields.ensures c.in_ok-fields.was (then_on _ _ _ _ c.past.ensures c.in_ok-past.was (then_on _ _ _ _ (optional_stands _ _ _ c.optional.ensures) c.in_ok-optional.was (then_on _ _ _ _ (optional_stands _ _ _ c.optional-2.ensures) c.in_ok-optional-2.was (then_on _ _ _ _ (list_stands _ _ _ _ c.list.ensures) c.in_ok-list.was (then_on _ _ _ _ (optional_stands _ _ _ c.optional-3.ensures) c.in_ok-optional-3.was (then_out _ _ _ _ (list_stands _ _ _ _ c.list-2.ensures) c.in_err-list-2.was))))))) (search rules)

pub returns-in_err-list-3-clause-value : goal.returns-in_err-list-3-clause-value
unfolding read_module
returns-in_err-list-3-clause-value c = on_error (record_on _ _ _ _ _ c.fields.ensures c.in_ok-fields.was (then_on _ _ _ _ c.past.ensures c.in_ok-past.was (then_on _ _ _ _ (optional_stands _ _ _ c.optional.ensures) c.in_ok-optional.was (then_on _ _ _ _ (optional_stands _ _ _ c.optional-2.ensures) c.in_ok-optional-2.was (then_on _ _ _ _ (list_stands _ _ _ _ c.list.ensures) c.in_ok-list.was (then_on _ _ _ _ (optional_stands _ _ _ c.optional-3.ensures) c.in_ok-optional-3.was (then_on _ _ _ _ (list_stands _ _ _ _ c.list-2.ensures) c.in_ok-list-2.was (then_out _ _ _ _ (list_stands _ _ _ _ c.list-3.ensures) c.in_err-list-3.was)))))))) (search rules)

pub returns-in_err-list-4-clause-value : goal.returns-in_err-list-4-clause-value
unfolding read_module
returns-in_err-list-4-clause-value c = on_error (record_on _ _ _ _ _ c.fields.ensures c.in_ok-fields.was (then_on _ _ _ _ c.past.ensures c.in_ok-past.was (then_on _ _ _ _ (optional_stands _ _ _ c.optional.ensures) c.in_ok-optional.was (then_on _ _ _ _ (optional_stands _ _ _ c.optional-2.ensures) c.in_ok-optional-2.was (then_on _ _ _ _ (list_stands _ _ _ _ c.list.ensures) c.in_ok-list.was (then_on _ _ _ _ (optional_stands _ _ _ c.optional-3.ensures) c.in_ok-optional-3.was (then_on _ _ _ _ (list_stands _ _ _ _ c.list-2.ensures) c.in_ok-list-2.was (then_on _ _ _ _ (list_stands _ _ _ _ c.list-3.ensures) c.in_ok-list-3.was (then_out _ _ _ _ (list_stands _ _ _ _ c.list-4.ensures) c.in_err-list-4.was))))))))) (search rules)

pub returns-in_err-list-5-clause-value : goal.returns-in_err-list-5-clause-value
unfolding read_module
returns-in_err-list-5-clause-value c = on_error (record_on _ _ _ _ _ c.fields.ensures c.in_ok-fields.was (then_on _ _ _ _ c.past.ensures c.in_ok-past.was (then_on _ _ _ _ (optional_stands _ _ _ c.optional.ensures) c.in_ok-optional.was (then_on _ _ _ _ (optional_stands _ _ _ c.optional-2.ensures) c.in_ok-optional-2.was (then_on _ _ _ _ (list_stands _ _ _ _ c.list.ensures) c.in_ok-list.was (then_on _ _ _ _ (optional_stands _ _ _ c.optional-3.ensures) c.in_ok-optional-3.was (then_on _ _ _ _ (list_stands _ _ _ _ c.list-2.ensures) c.in_ok-list-2.was (then_on _ _ _ _ (list_stands _ _ _ _ c.list-3.ensures) c.in_ok-list-3.was (then_on _ _ _ _ (list_stands _ _ _ _ c.list-4.ensures) c.in_ok-list-4.was (then_out _ _ _ _ (list_stands _ _ _ _ c.list-5.ensures) c.in_err-list-5.was)))))))))) (search rules)

pub returns-in_err-list-6-clause-value : goal.returns-in_err-list-6-clause-value
unfolding read_module
returns-in_err-list-6-clause-value c = on_error (record_on _ _ _ _ _ c.fields.ensures c.in_ok-fields.was (then_on _ _ _ _ c.past.ensures c.in_ok-past.was (then_on _ _ _ _ (optional_stands _ _ _ c.optional.ensures) c.in_ok-optional.was (then_on _ _ _ _ (optional_stands _ _ _ c.optional-2.ensures) c.in_ok-optional-2.was (then_on _ _ _ _ (list_stands _ _ _ _ c.list.ensures) c.in_ok-list.was (then_on _ _ _ _ (optional_stands _ _ _ c.optional-3.ensures) c.in_ok-optional-3.was (then_on _ _ _ _ (list_stands _ _ _ _ c.list-2.ensures) c.in_ok-list-2.was (then_on _ _ _ _ (list_stands _ _ _ _ c.list-3.ensures) c.in_ok-list-3.was (then_on _ _ _ _ (list_stands _ _ _ _ c.list-4.ensures) c.in_ok-list-4.was (then_on _ _ _ _ (list_stands _ _ _ _ c.list-5.ensures) c.in_ok-list-5.was (then_out _ _ _ _ (list_stands _ _ _ _ c.list-6.ensures) c.in_err-list-6.was))))))))))) (search rules)

pub returns-clause-value : goal.returns-clause-value
unfolding read_module
returns-clause-value c = record_on _ _ _ _ _ c.fields.ensures c.in_ok-fields.was (then_on _ _ _ _ c.past.ensures c.in_ok-past.was (then_on _ _ _ _ (optional_stands _ _ _ c.optional.ensures) c.in_ok-optional.was (then_on _ _ _ _ (optional_stands _ _ _ c.optional-2.ensures) c.in_ok-optional-2.was (then_on _ _ _ _ (list_stands _ _ _ _ c.list.ensures) c.in_ok-list.was (then_on _ _ _ _ (optional_stands _ _ _ c.optional-3.ensures) c.in_ok-optional-3.was (then_on _ _ _ _ (list_stands _ _ _ _ c.list-2.ensures) c.in_ok-list-2.was (then_on _ _ _ _ (list_stands _ _ _ _ c.list-3.ensures) c.in_ok-list-3.was (then_on _ _ _ _ (list_stands _ _ _ _ c.list-4.ensures) c.in_ok-list-4.was (then_on _ _ _ _ (list_stands _ _ _ _ c.list-5.ensures) c.in_ok-list-5.was (then_on _ _ _ _ (list_stands _ _ _ _ c.list-6.ensures) c.in_ok-list-6.was (list_stands _ _ _ _ c.list-7.ensures)))))))))))
