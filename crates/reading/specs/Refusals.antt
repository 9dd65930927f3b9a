-- When the rows 7, 8 and 9 of the table of refusals hold, each said by itself.
use Rattle.std.specs.Prelude.{ℕ, suc, ◌<◌, ◌≡◌, List, ◌++◌, length}
use Rattle.reading.specs.Read.{ok}
use Rattle.reading.specs.Limits.{max_u64, max_version}
use Rattle.reading.specs.Item.{read_kind, read_number, read_case, read_fields, read_tag}
use Rattle.reading.specs.Expr.{Expr, unary_ops, bin_ops, read_expr}
use Rattle.reading.specs.Formula.{Formula, read_formula}
use Rattle.reading.specs.Module.{Ir, read_ir, enc_ir, WithinIr}
use Rattle.reading.specs.declared.item.Tag.{Tag}

-- 9: an ir_version that is too new stands at p, first in the document that starts at `at`
pub record NewerVersion (s : List ℕ) (at p : ℕ) : Type 0 where
  pub opens : read_fields 2 s at ≡ ok tt p
  pub version : ℕ
  pub end : ℕ
  pub number : read_kind 0 s p ≡ ok version end
  pub newer : max_version < version

-- 8: the document ends at p, and bytes follow
pub record Followed (s : List ℕ) (p : ℕ) : Type 0 where
  pub content : Ir
  pub reads : read_ir s 0 ≡ ok content p
  pub more : p < length s

-- 8, by the bytes: those of a content within the limits, and more after them
pub record Longer (s : List ℕ) (p : ℕ) : Type 0 where
  pub content : Ir
  pub within : WithinIr content
  pub rest : List ℕ
  pub bytes : s ≡ enc_ir content ++ rest
  pub more : 0 < length rest
  pub place : p ≡ length (enc_ir content)

-- a data enum of this case and count stands at `at`, and its fields start at m
pub record Opens (s : List ℕ) (at case count m : ℕ) : Type 0 where
  pub tag : Tag
  pub tagged : read_tag s at ≡ ok tag m
  pub is : tag.case ≡ case
  pub has : tag.count ≡ count

-- 7: an expression starts at `at` with d levels left, and in it, after what reads, one starts at p with none left
pub data DeepExpr (s : List ℕ) : ℕ → ℕ → ℕ → Type 0 where
  here : {at : ℕ} → DeepExpr s 0 at at
  operand : {d at p m op k : ℕ} → Opens s at 3 3 m → read_case unary_ops s m ≡ ok op k → DeepExpr s d k p → DeepExpr s (suc d) at p
  left : {d at p m op k : ℕ} → Opens s at 4 4 m → read_case bin_ops s m ≡ ok op k → DeepExpr s d k p → DeepExpr s (suc d) at p
  right : {d at p m op k : ℕ} {l : Expr} {j : ℕ} → Opens s at 4 4 m → read_case bin_ops s m ≡ ok op k → read_expr d s k ≡ ok l j → DeepExpr s d j p → DeepExpr s (suc d) at p

-- the cases of a formula with one formula inside, with a bound before it, and with two
pub data One : ℕ → Type 0 where
  not : One 3
  next : One 7
  always : One 8
  eventually : One 11

pub data Bounded : ℕ → Type 0 where
  bounded_always_case : Bounded 9
  bounded_eventually_case : Bounded 10

pub data Two : ℕ → Type 0 where
  and : Two 4
  or : Two 5
  implies : Two 6
  until : Two 12

-- the same of formulas, and of the expressions in them
pub data DeepFormula (s : List ℕ) : ℕ → ℕ → ℕ → Type 0 where
  here : {at : ℕ} → DeepFormula s 0 at at
  expr : {d at p m : ℕ} → Opens s at 2 2 m → DeepExpr s d m p → DeepFormula s (suc d) at p
  inside : {c d at p m : ℕ} → One c → Opens s at c 2 m → DeepFormula s d m p → DeepFormula s (suc d) at p
  bounded : {c d at p m b k : ℕ} → Bounded c → Opens s at c 3 m → read_number max_u64 s m ≡ ok b k → DeepFormula s d k p → DeepFormula s (suc d) at p
  left : {c d at p m : ℕ} → Two c → Opens s at c 3 m → DeepFormula s d m p → DeepFormula s (suc d) at p
  right : {c d at p m : ℕ} {f : Formula} {k : ℕ} → Two c → Opens s at c 3 m → read_formula d s m ≡ ok f k → DeepFormula s d k p → DeepFormula s (suc d) at p
