-- By its name: none, one that is bound already, or a new one.
use Rattle.typing.proofs.FieldLaws.{judge_unnamed, judge_again, judge_fresh}
use Rattle.typing.proofs.field.judge_field.Goals as goal

pub returns-in-Unnamed : goal.returns-in-Unnamed
returns-in-Unnamed c = search judge_unnamed

pub returns-in-Again : goal.returns-in-Again
returns-in-Again c = search judge_again

pub returns-in-Fresh : goal.returns-in-Fresh
returns-in-Fresh c = search judge_fresh
