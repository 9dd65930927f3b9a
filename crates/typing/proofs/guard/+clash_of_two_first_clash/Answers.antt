use Rattle.typing.proofs.GuardLaws.{clash_right, clash_left, clash_deep, clash_and, clash_one}
use Rattle.typing.proofs.guard.+clash_of_two_first_clash.Goals as goal

pub clash_of_two-returns-in_default : goal.clash_of_two-returns-in_default
clash_of_two-returns-in_default t c = search clash_right

pub clash_of_two-returns : goal.clash_of_two-returns
clash_of_two-returns t c = search clash_left

pub first_clash-returns-then-depth-eq0 : goal.first_clash-returns-then-depth-eq0
first_clash-returns-then-depth-eq0 t c = search clash_deep

pub first_clash-returns-in-And : goal.first_clash-returns-in-And
first_clash-returns-in-And t c = search clash_and

pub first_clash-returns-in-One : goal.first_clash-returns-in-One
first_clash-returns-in-One t c = search clash_one
