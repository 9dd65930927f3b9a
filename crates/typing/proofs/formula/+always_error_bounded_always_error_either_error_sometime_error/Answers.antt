use Rattle.typing.proofs.ShapeLaws.{bounds_deep, bounds_no_tag, bounds_input, bounds_output, bounds_expression, bounds_one, bounds_always, bounds_sometime, bounds_two, bounds_unknown, always_none, always_zero, always_more, sometime_none, sometime_goes, two_left, two_right}
use Rattle.typing.proofs.formula.+always_error_bounded_always_error_either_error_sometime_error.Goals as goal

pub always_error-returns-in_default : goal.always_error-returns-in_default
always_error-returns-in_default t c = search always_none

pub always_error-returns-then-bound-lt1 : goal.always_error-returns-then-bound-lt1
always_error-returns-then-bound-lt1 t c = search always_zero

pub always_error-returns : goal.always_error-returns
always_error-returns t c = search always_more

pub bounded_always_error-returns-then-depth-eq0 : goal.bounded_always_error-returns-then-depth-eq0
bounded_always_error-returns-then-depth-eq0 t c = search bounds_deep

pub bounded_always_error-returns-in_default : goal.bounded_always_error-returns-in_default
bounded_always_error-returns-in_default t c = search bounds_no_tag

pub bounded_always_error-returns-in-Input : goal.bounded_always_error-returns-in-Input
bounded_always_error-returns-in-Input t c = search bounds_input

pub bounded_always_error-returns-in-Output : goal.bounded_always_error-returns-in-Output
bounded_always_error-returns-in-Output t c = search bounds_output

pub bounded_always_error-returns-in-Expression : goal.bounded_always_error-returns-in-Expression
bounded_always_error-returns-in-Expression t c = search bounds_expression

pub bounded_always_error-returns-in-One : goal.bounded_always_error-returns-in-One
bounded_always_error-returns-in-One t c = search bounds_one

pub bounded_always_error-returns-in-Always : goal.bounded_always_error-returns-in-Always
bounded_always_error-returns-in-Always t c = search bounds_always

pub bounded_always_error-returns-in-Sometime : goal.bounded_always_error-returns-in-Sometime
bounded_always_error-returns-in-Sometime t c = search bounds_sometime

pub bounded_always_error-returns-in-Two : goal.bounded_always_error-returns-in-Two
bounded_always_error-returns-in-Two t c = search bounds_two

pub bounded_always_error-returns-in-Unknown : goal.bounded_always_error-returns-in-Unknown
bounded_always_error-returns-in-Unknown t c = search bounds_unknown

pub either_error-returns-then-bounded_always_error : goal.either_error-returns-then-bounded_always_error
either_error-returns-then-bounded_always_error t c = search two_left

pub either_error-returns : goal.either_error-returns
either_error-returns t c = search two_right

pub sometime_error-returns-in_default : goal.sometime_error-returns-in_default
sometime_error-returns-in_default t c = search sometime_none

pub sometime_error-returns : goal.sometime_error-returns
sometime_error-returns t c = search sometime_goes
