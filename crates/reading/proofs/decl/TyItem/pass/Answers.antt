-- The head, then the row of its number.
use Rattle.std.proofs.Common.{rules}
use mathlib.Core.Path.{refl}
use native.Mathlib.Omega.{arith}
use Rattle.reading.specs.Read.{pick}
use Rattle.reading.specs.Limits.{max_u32}
use Rattle.reading.specs.Item.{read_number}
use Rattle.reading.specs.Text.{read_name}
use Rattle.reading.specs.Combine.{nothing, row}
use Rattle.reading.specs.Decl.{bool, bit, enum, read_ty, ty_cases}
use Rattle.reading.proofs.Threads.{enum_out, enum_on, one_stands}
use Rattle.reading.proofs.Arms.{arm, ty_unknown}
use Rattle.reading.proofs.decl.TyItem.pass.Goals as goal

pub returns-in_err-tag : goal.returns-in_err-tag
unfolding read_ty
returns-in_err-tag c = search (rules, enum_out _ _ ty_cases c.any_tag.ensures c.in_err-tag.was)

pub returns-in-0 : goal.returns-in-0
unfolding read_ty ty_cases row nothing pick
returns-in-0 c = enum_on _ _ ty_cases c.any_tag.ensures c.in_ok-tag.was (arm ty_cases (λ _. bool) _ _ _ 0 1 _ refl c.in-0.is c.sized.ensures)

pub returns-in-1 : goal.returns-in-1
unfolding read_ty ty_cases row nothing pick
returns-in-1 c = enum_on _ _ ty_cases c.any_tag.ensures c.in_ok-tag.was (arm ty_cases bit _ _ _ 1 2 _ refl c.in-1.is (one_stands (read_number max_u32) _ _ _ c.one.ensures))

pub returns-in-2 : goal.returns-in-2
unfolding read_ty ty_cases row nothing pick
returns-in-2 c = enum_on _ _ ty_cases c.any_tag.ensures c.in_ok-tag.was (arm ty_cases enum _ _ _ 2 2 _ refl c.in-2.is (one_stands read_name _ _ _ c.one-in-2.ensures))

pub returns-in-3-to-18446744073709551615 : goal.returns-in-3-to-18446744073709551615
unfolding read_ty
returns-in-3-to-18446744073709551615 c = enum_on _ _ ty_cases c.any_tag.ensures c.in_ok-tag.was (ty_unknown _ _ _ (omega arith) c.at.ensures)
