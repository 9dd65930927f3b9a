-- The settled examples of document 01, proved together: each by computation.
use mathlib.Core.Path.{refl}
use Rattle.reading.specs.Read.{pick}
use Rattle.typing.specs.Causes.{number, cause_word, and_then, unless, first_of}
use Rattle.typing.specs.Names.{called, first_called}
use Rattle.typing.specs.Rules.{is_bool, bits_of, bit_pair, bit_op_type, same_type, literal_with_bits, literal_with_bool, mismatch, compatible_with, compare_type, bin_op, binary_type}
use Rattle.typing.specs.Typing.{type_expr}
use Rattle.typing.specs.Patterns.{fits, pattern_expr_compatible}
use Rattle.typing.specs.Formulas.{bounded_always_error}
use Rattle.typing.specs.Version.{is_digit, all_digits, is_part, all_parts, onto, split, two_or_three, is_valid_version_format}
use Rattle.typing.specs.Guards.{conjuncts, one_name, path_is, equated, equality, against, judge_equality, clashes, contradictory_equalities}
use Rattle.typing.specs.Settled.{Settled}
use Rattle.typing.proofs.NameLaws.{eq_name_refl}

pub settled : Settled
unfolding pick number cause_word and_then unless first_of called first_called is_bool bits_of bit_pair bit_op_type same_type literal_with_bits literal_with_bool mismatch compatible_with compare_type bin_op binary_type type_expr fits pattern_expr_compatible bounded_always_error is_digit all_digits is_part all_parts onto split two_or_three is_valid_version_format conjuncts one_name path_is equated equality against judge_equality clashes contradictory_equalities
settled = record {
  settled_1 = refl;
  settled_2 = refl;
  settled_3 = refl;
  settled_4 = refl;
  settled_5 = refl;
  settled_6 = refl;
  settled_7 = refl;
  settled_8 = refl;
  settled_9 = refl;
  settled_10 = refl;
  settled_11 = λ env e h. rw h;
  settled_12 = λ env e h. rw h;
  settled_13 = λ a. rw (eq_name_refl a);
  settled_14 = λ f. refl;
  settled_14_none = λ f. refl;
}
