-- What is left of both lists, put after what is bound already, makes the whole.
use Rattle.typing.proofs.WalkLaws.{Walking}
use Rattle.typing.proofs.field.judge_fields.Given as goal

abbrev pub invariant-loop-i : goal.invariant-loop-i
invariant-loop-i l = Walking l.doc l.at l.fields l.count l.k l.initial.table l.i l.p l.f l.j l.table
