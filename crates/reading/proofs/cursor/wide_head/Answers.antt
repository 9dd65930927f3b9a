-- Each arm is the head of its width.
use Rattle.reading.specs.Head.{wide_head, long_head}
use Rattle.reading.proofs.Answers.{tests}
use mathlib.Core.Path.{◌∙◌}
use Rattle.reading.proofs.Rules.{pick_true, pick_false}
use borrow.Author.Tests.{le-ltb}
use Rattle.reading.proofs.cursor.wide_head.Goals as goal

pub returns-then-left-lt1 : goal.returns-then-left-lt1
unfolding wide_head long_head
returns-then-left-lt1 c = search (tests, c.in-24.is)

pub returns-then-left-lt2 : goal.returns-then-left-lt2
unfolding wide_head long_head
returns-then-left-lt2 c = search (tests, c.in-25.is)

pub returns-then-left-lt4 : goal.returns-then-left-lt4
unfolding wide_head long_head
returns-then-left-lt4 c = search (tests, c.in-26.is)

pub returns-then-left-lt8 : goal.returns-then-left-lt8
unfolding wide_head long_head
returns-then-left-lt8 c = search (tests, c.in_default.in_default-own.rest.0.0.1, c.in_default.in_default-own.rest.0.1, c.in_default.in_default-own.rest.1)

pub returns-else-left-lt1 : goal.returns-else-left-lt1
unfolding wide_head long_head
returns-else-left-lt1 c = c.settle.ensures ∙ simp (pick_true, pick_false, le-ltb _ _ c.if-left-lt1.false, c.in-24.is, c.one.ensures.0)

pub returns-else-left-lt2 : goal.returns-else-left-lt2
unfolding wide_head long_head
returns-else-left-lt2 c = c.settle-in-25.ensures ∙ simp (pick_true, pick_false, le-ltb _ _ c.if-left-lt2.false, c.in-25.is, c.two.ensures.0)

pub returns-else-left-lt4 : goal.returns-else-left-lt4
unfolding wide_head long_head
returns-else-left-lt4 c = c.settle-in-26.ensures ∙ simp (pick_true, pick_false, le-ltb _ _ c.if-left-lt4.false, c.in-26.is, c.four.ensures.0)

pub returns-else-left-lt8 : goal.returns-else-left-lt8
unfolding wide_head long_head
returns-else-left-lt8 c = c.settle-in_default.ensures ∙ search (tests, c.in_default.in_default-own.rest.0.0.1, c.in_default.in_default-own.rest.0.1, c.in_default.in_default-own.rest.1, c.eight.ensures)
