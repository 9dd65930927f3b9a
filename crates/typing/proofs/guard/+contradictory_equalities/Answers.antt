use borrow.Author.Rules.{rules}
use Rattle.typing.proofs.GuardLaws.{contradicts, pass_none, pass_clash, long_less}
use Rattle.typing.proofs.guard.+contradictory_equalities.Goals as goal

pub contradictory_equalities-requires : goal.contradictory_equalities-requires
contradictory_equalities-requires t c = search (rules, long_less)

pub returns-in_default : goal.returns-in_default
returns-in_default t c = search pass_none

pub returns-in-Clash : goal.returns-in-Clash
returns-in-Clash t c = search pass_clash

pub returns : goal.returns
returns t c = search contradicts
