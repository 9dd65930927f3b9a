use Rattle.typing.proofs.Counts.{all_left, some_left, none_left, fewer_left}
use mathlib.Core.Path.{refl}
use Rattle.typing.proofs.FieldLaws.{named_none, named_hit, named_miss}
use Rattle.typing.proofs.field.named_from.Goals as goal

pub loop-init : goal.loop-init
loop-init c = rw (all_left _) (refl)

pub returns-then-field_named : goal.returns-then-field_named
returns-then-field_named c = search (named_hit, some_left)

pub loop-preserved : goal.loop-preserved
loop-preserved c = rw (fewer_left _ _) (search (named_miss, some_left))

pub returns : goal.returns
returns c = search (named_none, none_left)
