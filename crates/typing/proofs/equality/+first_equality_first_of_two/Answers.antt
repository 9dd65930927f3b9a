use Rattle.typing.proofs.EqualityLaws.{first_deep, first_and, first_called_lem, two_right, two_left}
use Rattle.typing.proofs.equality.+first_equality_first_of_two.Goals as goal

pub first_equality-returns-then-depth-eq0 : goal.first_equality-returns-then-depth-eq0
first_equality-returns-then-depth-eq0 t c = search first_deep

pub first_equality-returns-in-And : goal.first_equality-returns-in-And
first_equality-returns-in-And t c = search first_and

pub first_equality-returns-in-One : goal.first_equality-returns-in-One
first_equality-returns-in-One t c = search first_called_lem

pub first_of_two-returns-in_default : goal.first_of_two-returns-in_default
first_of_two-returns-in_default t c = search two_right

pub first_of_two-returns : goal.first_of_two-returns
first_of_two-returns t c = search two_left
