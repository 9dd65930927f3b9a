-- One field after the other.
use Rattle.std.proofs.Common.{rules}
use Rattle.reading.specs.Pattern.{read_pattern_field}
use Rattle.reading.proofs.Threads.{on_error, record_out, record_on, then_out, then_on, optional_stands}
use Rattle.reading.proofs.pattern.PatternFieldItem.pass.Goals as goal

pub returns-in_err-fields-clause-value : goal.returns-in_err-fields-clause-value
unfolding read_pattern_field
returns-in_err-fields-clause-value c = on_error (record_out _ _ _ _ _ c.fields.ensures c.in_err-fields.was) (search rules)

pub returns-in_err-optional-clause-value : goal.returns-in_err-optional-clause-value
unfolding read_pattern_field
returns-in_err-optional-clause-value c = on_error (record_on _ _ _ _ _ c.fields.ensures c.in_ok-fields.was (then_out _ _ _ _ (optional_stands _ _ _ c.optional.ensures) c.in_err-optional.was)) (search rules)

pub returns-clause-value : goal.returns-clause-value
unfolding read_pattern_field
returns-clause-value c = record_on _ _ _ _ _ c.fields.ensures c.in_ok-fields.was (then_on _ _ _ _ (optional_stands _ _ _ c.optional.ensures) c.in_ok-optional.was c.past.ensures)
