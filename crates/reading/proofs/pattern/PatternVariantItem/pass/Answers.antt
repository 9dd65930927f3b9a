-- The head, then the row of its number.
use Rattle.std.proofs.Common.{rules}
use mathlib.Core.Path.{refl}
use native.Mathlib.Omega.{arith}
use Rattle.reading.specs.Read.{pick}
use Rattle.reading.specs.Limits.{max_list}
use Rattle.reading.specs.Text.{read_name}
use Rattle.reading.specs.Combine.{◌then◌, list_of, row, pair}
use Rattle.reading.specs.Pattern.{unit, struct, read_pattern_field, read_pattern_variant, pattern_variant_cases}
use Rattle.reading.proofs.Threads.{on_error, enum_out, enum_on, sized_out, sized_on, then_out, then_on, list_stands, one_stands}
use Rattle.reading.proofs.Arms.{arm, pattern_variant_unknown}
use Rattle.reading.proofs.pattern.PatternVariantItem.pass.Goals as goal

pub returns-in_err-tag : goal.returns-in_err-tag
unfolding read_pattern_variant
returns-in_err-tag c = search (rules, enum_out _ _ pattern_variant_cases c.tag.ensures c.in_err-tag.was)

pub returns-in-0 : goal.returns-in-0
unfolding read_pattern_variant pattern_variant_cases row pick
returns-in-0 c = enum_on _ _ pattern_variant_cases c.tag.ensures c.in_ok-tag.was (arm pattern_variant_cases unit _ _ _ 0 2 _ refl c.in-0.is (one_stands read_name _ _ _ c.one.ensures))

pub returns-in_err-sized-in-1 : goal.returns-in_err-sized-in-1
unfolding read_pattern_variant pattern_variant_cases row pick
returns-in_err-sized-in-1 c = on_error (enum_on _ _ pattern_variant_cases c.tag.ensures c.in_ok-tag.was (arm pattern_variant_cases (pair struct) _ _ _ 1 3 _ refl c.in-1.is (sized_out _ _ _ _ (read_name then list_of max_list read_pattern_field) c.sized.ensures c.in_err-sized-in-1.was))) (search rules)

pub returns-in_err-past-in-1 : goal.returns-in_err-past-in-1
unfolding read_pattern_variant pattern_variant_cases row pick
returns-in_err-past-in-1 c = on_error (enum_on _ _ pattern_variant_cases c.tag.ensures c.in_ok-tag.was (arm pattern_variant_cases (pair struct) _ _ _ 1 3 _ refl c.in-1.is (sized_on _ _ _ _ (read_name then list_of max_list read_pattern_field) c.sized.ensures c.in_ok-sized-in-1.was (then_out _ _ _ _ c.past.ensures c.in_err-past-in-1.was)))) (search rules)

pub returns-in_ok-past-in-1 : goal.returns-in_ok-past-in-1
unfolding read_pattern_variant pattern_variant_cases row pick
returns-in_ok-past-in-1 c = enum_on _ _ pattern_variant_cases c.tag.ensures c.in_ok-tag.was (arm pattern_variant_cases (pair struct) _ _ _ 1 3 _ refl c.in-1.is (sized_on _ _ _ _ (read_name then list_of max_list read_pattern_field) c.sized.ensures c.in_ok-sized-in-1.was (then_on _ _ _ _ c.past.ensures c.in_ok-past-in-1.was (list_stands _ _ _ _ c.list.ensures))))

pub returns-in-2-to-18446744073709551615 : goal.returns-in-2-to-18446744073709551615
unfolding read_pattern_variant
returns-in-2-to-18446744073709551615 c = enum_on _ _ pattern_variant_cases c.tag.ensures c.in_ok-tag.was (pattern_variant_unknown _ _ _ (omega arith) c.at.ensures)
