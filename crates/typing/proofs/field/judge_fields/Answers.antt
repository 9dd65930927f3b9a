use native.Mathlib.Omega.{arith}
use Rattle.typing.proofs.WalkLaws.{fields_start, fields_done, fields_stop, fields_more, done_spares, stop_spares}
use Rattle.typing.proofs.field.judge_fields.Goals as goal

pub loop-i-init : goal.loop-i-init
loop-i-init c = fields_start _ _ _ _ _ _ (omega arith)

pub returns-in_default-clause-judges_fields : goal.returns-in_default-clause-judges_fields
returns-in_default-clause-judges_fields c = search fields_stop

pub returns-in_default-clause-spares : goal.returns-in_default-clause-spares
returns-in_default-clause-spares c = search stop_spares

pub loop-i-preserved : goal.loop-i-preserved
loop-i-preserved c = search fields_more

pub returns-clause-judges_fields : goal.returns-clause-judges_fields
returns-clause-judges_fields c = search fields_done

pub returns-clause-spares : goal.returns-clause-spares
returns-clause-spares c = search done_spares
