-- By site.
use native.Mathlib.Omega.{arith}
use Rattle.text.proofs.SayLaws.{plain_0, plain_module, plain_2, plain_4, plain_5, plain_14, plain_15, plain_16, plain_17, plain_claim, plain_19, plain_warning}
use Rattle.text.proofs.say.say_plain.Goals as goal

pub returns-in-0 : goal.returns-in-0
returns-in-0 c = search plain_0

pub returns-in-1 : goal.returns-in-1
returns-in-1 c = search plain_module

pub returns-in-2 : goal.returns-in-2
returns-in-2 c = search plain_2

pub returns-in-4 : goal.returns-in-4
returns-in-4 c = search plain_4

pub returns-in-5 : goal.returns-in-5
returns-in-5 c = search plain_5

pub returns-in-14 : goal.returns-in-14
returns-in-14 c = search plain_14

pub returns-in-15 : goal.returns-in-15
returns-in-15 c = search plain_15

pub returns-in-16 : goal.returns-in-16
returns-in-16 c = search plain_16

pub returns-in-17 : goal.returns-in-17
returns-in-17 c = search plain_17

pub returns-in-18 : goal.returns-in-18
returns-in-18 c = search plain_claim

pub returns-in-19 : goal.returns-in-19
returns-in-19 c = search plain_19

pub returns-in_default : goal.returns-in_default
returns-in_default c = plain_warning _ _ _ _ _ _ _ _ _ _ _ (grind arith) (λ l. grind arith) c.say_warning.ensures
