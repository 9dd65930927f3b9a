-- By the case that stands there.
use Rattle.typing.proofs.TableLaws.{type_none, type_bool, type_width, type_enum, type_beyond}
use Rattle.typing.proofs.table.ty_at.Goals as goal

pub returns-in_default : goal.returns-in_default
returns-in_default c = search type_none

pub returns-in-0 : goal.returns-in-0
returns-in-0 c = search type_bool

pub returns-in-1 : goal.returns-in-1
returns-in-1 c = search type_width

pub returns-in-2 : goal.returns-in-2
returns-in-2 c = search type_enum

pub returns-in-3-to-18446744073709551615 : goal.returns-in-3-to-18446744073709551615
returns-in-3-to-18446744073709551615 c = search type_beyond
