-- The head, then the row of its number.
use Rattle.std.proofs.Common.{rules}
use mathlib.Core.Path.{refl}
use native.Mathlib.Omega.{arith}
use Rattle.reading.specs.Read.{pick}
use Rattle.reading.specs.Limits.{max_u64}
use Rattle.reading.specs.Item.{read_number, read_bool}
use Rattle.reading.specs.Text.{read_name}
use Rattle.reading.specs.Combine.{nothing, row}
use Rattle.reading.specs.Expr.{read_path}
use Rattle.reading.specs.Pattern.{wildcard, bind, int, bool, enum_variant, read_pattern_expr, pattern_expr_cases}
use Rattle.reading.proofs.Threads.{enum_out, enum_on, one_stands}
use Rattle.reading.proofs.Arms.{arm, pattern_expr_unknown}
use Rattle.reading.proofs.pattern.PatternExprItem.pass.Goals as goal

pub returns-in_err-tag : goal.returns-in_err-tag
unfolding read_pattern_expr
returns-in_err-tag c = search (rules, enum_out _ _ pattern_expr_cases c.tag.ensures c.in_err-tag.was)

pub returns-in-0 : goal.returns-in-0
unfolding read_pattern_expr pattern_expr_cases row nothing pick
returns-in-0 c = enum_on _ _ pattern_expr_cases c.tag.ensures c.in_ok-tag.was (arm pattern_expr_cases (λ _. wildcard) _ _ _ 0 1 _ refl c.in-0.is c.sized.ensures)

pub returns-in-1 : goal.returns-in-1
unfolding read_pattern_expr pattern_expr_cases row nothing pick
returns-in-1 c = enum_on _ _ pattern_expr_cases c.tag.ensures c.in_ok-tag.was (arm pattern_expr_cases bind _ _ _ 1 2 _ refl c.in-1.is (one_stands read_name _ _ _ c.one.ensures))

pub returns-in-2 : goal.returns-in-2
unfolding read_pattern_expr pattern_expr_cases row nothing pick
returns-in-2 c = enum_on _ _ pattern_expr_cases c.tag.ensures c.in_ok-tag.was (arm pattern_expr_cases int _ _ _ 2 2 _ refl c.in-2.is (one_stands (read_number max_u64) _ _ _ c.one-in-2.ensures))

pub returns-in-3 : goal.returns-in-3
unfolding read_pattern_expr pattern_expr_cases row nothing pick
returns-in-3 c = enum_on _ _ pattern_expr_cases c.tag.ensures c.in_ok-tag.was (arm pattern_expr_cases bool _ _ _ 3 2 _ refl c.in-3.is (one_stands read_bool _ _ _ c.one-in-3.ensures))

pub returns-in-4 : goal.returns-in-4
unfolding read_pattern_expr pattern_expr_cases row nothing pick
returns-in-4 c = enum_on _ _ pattern_expr_cases c.tag.ensures c.in_ok-tag.was (arm pattern_expr_cases enum_variant _ _ _ 4 2 _ refl c.in-4.is (one_stands read_path _ _ _ c.one-in-4.ensures))

pub returns-in-5-to-18446744073709551615 : goal.returns-in-5-to-18446744073709551615
unfolding read_pattern_expr
returns-in-5-to-18446744073709551615 c = enum_on _ _ pattern_expr_cases c.tag.ensures c.in_ok-tag.was (pattern_expr_unknown _ _ _ (omega arith) c.at.ensures)
