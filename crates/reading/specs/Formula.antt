-- Formulas: the thirteen cases of ir.rs.
use Rattle.std.specs.Prelude.{ℕ, zero, suc, ◌≤◌, List, ◌++◌}
use Rattle.reading.specs.Read.{Reader, refused}
use Rattle.reading.specs.Limits.{max_u64}
use Rattle.reading.specs.Item.{read_number}
use Rattle.reading.specs.Combine.{◌then◌, Cases, row, unknown, enum_of, pair}
use Rattle.reading.specs.Encode.{enc_head, enc_case, ◌&◌}
use Rattle.reading.specs.Expr.{Expr, read_expr, enc_expr, WithinExpr}
use Rattle.reading.specs.Pattern.{Pattern, read_pattern, enc_pattern, WithinPattern}
use Rattle.reading.specs.declared.fault.Fault.TheVariants.{TooDeep}

pub data Formula : Type 0 where
  input_is : Pattern → Formula
  output_has : Pattern → Formula
  expr : Expr → Formula
  not : Formula → Formula
  and : Formula → Formula → Formula
  or : Formula → Formula → Formula
  implies : Formula → Formula → Formula
  next : Formula → Formula
  always : Formula → Formula
  bounded_always : ℕ → Formula → Formula
  bounded_eventually : ℕ → Formula → Formula
  eventually : Formula → Formula
  until : Formula → Formula → Formula

-- formulas inside are read by rec, and expressions by operand
unfoldable pub formula_cases : Reader Formula → Reader Expr → Cases Formula
formula_cases rec operand =
    row 0 2 read_pattern input_is
    (row 1 2 read_pattern output_has
    (row 2 2 operand expr
    (row 3 2 rec not
    (row 4 3 (rec then rec) (pair and)
    (row 5 3 (rec then rec) (pair or)
    (row 6 3 (rec then rec) (pair implies)
    (row 7 2 rec next
    (row 8 2 rec always
    (row 9 3 (read_number max_u64 then rec) (pair bounded_always)
    (row 10 3 (read_number max_u64 then rec) (pair bounded_eventually)
    (row 11 2 rec eventually
    (row 12 3 (rec then rec) (pair until)
    unknown))))))))))))

-- a formula at whose start as many levels are left; its expression is one level deeper
unfoldable pub read_formula : ℕ → Reader Formula
read_formula zero s at = refused TooDeep at
read_formula (suc d) s at = enum_of (formula_cases (read_formula d) (read_expr d)) s at

unfoldable pub enc_formula : Formula → List ℕ
enc_formula (input_is p) = enc_case 2 0 (enc_pattern p)
enc_formula (output_has p) = enc_case 2 1 (enc_pattern p)
enc_formula (expr e) = enc_case 2 2 (enc_expr e)
enc_formula (not f) = enc_case 2 3 (enc_formula f)
enc_formula (and f g) = enc_case 3 4 (enc_formula f ++ enc_formula g)
enc_formula (or f g) = enc_case 3 5 (enc_formula f ++ enc_formula g)
enc_formula (implies f g) = enc_case 3 6 (enc_formula f ++ enc_formula g)
enc_formula (next f) = enc_case 2 7 (enc_formula f)
enc_formula (always f) = enc_case 2 8 (enc_formula f)
enc_formula (bounded_always b f) = enc_case 3 9 (enc_head 0 b ++ enc_formula f)
enc_formula (bounded_eventually b f) = enc_case 3 10 (enc_head 0 b ++ enc_formula f)
enc_formula (eventually f) = enc_case 2 11 (enc_formula f)
enc_formula (until f g) = enc_case 3 12 (enc_formula f ++ enc_formula g)

-- with as many levels left
unfoldable pub WithinFormula : ℕ → Formula → Type 0
WithinFormula zero f = ⊥
WithinFormula (suc d) (input_is p) = WithinPattern p
WithinFormula (suc d) (output_has p) = WithinPattern p
WithinFormula (suc d) (expr e) = WithinExpr d e
WithinFormula (suc d) (not f) = WithinFormula d f
WithinFormula (suc d) (and f g) = WithinFormula d f & WithinFormula d g
WithinFormula (suc d) (or f g) = WithinFormula d f & WithinFormula d g
WithinFormula (suc d) (implies f g) = WithinFormula d f & WithinFormula d g
WithinFormula (suc d) (next f) = WithinFormula d f
WithinFormula (suc d) (always f) = WithinFormula d f
WithinFormula (suc d) (bounded_always b f) = (b ≤ max_u64) & WithinFormula d f
WithinFormula (suc d) (bounded_eventually b f) = (b ≤ max_u64) & WithinFormula d f
WithinFormula (suc d) (eventually f) = WithinFormula d f
WithinFormula (suc d) (until f g) = WithinFormula d f & WithinFormula d g
