-- By the byte.
use Rattle.typing.proofs.VersionLaws.{next_dot, next_digit, next_out}
use Rattle.typing.proofs.version.next_state.Goals as goal

pub returns-then-b-eq46 : goal.returns-then-b-eq46
returns-then-b-eq46 c = search next_dot

pub returns-then-is_digit : goal.returns-then-is_digit
returns-then-is_digit c = search next_digit

pub returns : goal.returns
returns c = search next_out
