-- One byte more is counted.
use Rattle.std.proofs.Common.{rules}
use Rattle.reading.proofs.Strings.{count_step, count_done}
use Rattle.reading.proofs.text.count_name_bytes.Goals as goal

pub loop-b-preserved : goal.loop-b-preserved
loop-b-preserved c = search (rules, count_step)

pub returns : goal.returns
returns c = search count_done
