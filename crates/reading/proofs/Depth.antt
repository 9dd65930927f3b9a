-- 7 is given exactly where an expression or formula starts with no level left: by recursion on the levels, each way.
use Prim.Native.Nat.{ℕ, zero, suc}
use mathlib.Core.Path.{◌≡◌, refl}
use mathlib.Core.List.{List}
use mathlib.Core.Logic.{◌↔◌}
use Rattle.reading.specs.Read.{Reader, ok, refused}
use Rattle.reading.specs.Limits.{max_u64}
use Rattle.reading.specs.Item.{read_number}
use Rattle.reading.specs.Combine.{◌then◌, sized, row, enum_of}
use Rattle.reading.specs.Expr.{Expr, expr_cases, read_expr}
use Rattle.reading.specs.Formula.{Formula, formula_cases, read_formula}
use Rattle.reading.specs.Refusals.{Opens, DeepExpr, here, operand, left, right, One, not, next, always, eventually, Bounded, bounded_always_case, bounded_eventually_case, Two, and, or, implies, until, DeepFormula, expr, inside, bounded}
use Rattle.reading.specs.declared.fault.Fault.{Fault}
use Rattle.reading.specs.declared.fault.Fault.TheVariants.{TooDeep}
use Rattle.reading.proofs.Rules.{pick_true, pick_false, bind_ok, bind_out, map_out}
use Rattle.reading.proofs.Blames.{Blames, Inner, unexpected, deep_start, inner_more, blames_refused, blames_bind, blames_map}
use Rattle.reading.proofs.Formats.{Laws, Never}
use Rattle.reading.proofs.ExprLaws.{path_laws}
use Rattle.reading.proofs.PatternLaws.{pattern_laws}
use Rattle.reading.proofs.ItemLaws.{bool_laws, tag_blames, number_blames, case_blames}
use Rattle.reading.proofs.EnumLaws.{row_blames, none_blames}

-- of one after the other
then_blames : {A B : Type 0} (P : Fault → ℕ → Type 0) (F : Reader A) (G : Reader B) (s : List ℕ) (at : ℕ) → Blames P (F s at) → ((a : A) (n : ℕ) → F s at ≡ ok a n → Blames P (G s n)) → Blames P ((F then G) s at)
unfolding ◌then◌
then_blames P F G s at h k = blames_bind P _ _ h λ a n e. blames_map P _ _ (k a n e)

-- of a reader that never gives 7
flat_blames : {A : Type 0} {read : Reader A} {enc : A → List ℕ} {Within : A → Type 0} {count : ℕ} {D : ℕ → Type 0} → Laws read enc Within count Never → (s : List ℕ) (at : ℕ) → Blames (Inner D) (read s at)
flat_blames l s at f p e = inner_more (λ q z. absurd z) (l.blames s at f p e)

-- 7, and no other number
the_place : {D : ℕ → Type 0} {p : ℕ} → Inner D TooDeep p → D p
the_place (deep_start d) = d

module _ (s : List ℕ) where
  expr_deep : (d at : ℕ) → Blames (Inner (DeepExpr s d at)) (read_expr d s at)
  unfolding read_expr enum_of expr_cases
  expr_deep zero at = blames_refused (Inner (DeepExpr s 0 at)) TooDeep at (deep_start here)
  expr_deep (suc d) at =
      let P : Fault → ℕ → Type 0 = Inner (DeepExpr s (suc d) at) in
      blames_bind P _ _ (tag_blames s at) λ t m e.
      row_blames _ _ _ _ _ P s t m unexpected (λ _ _. number_blames s m max_u64)
      (row_blames _ _ _ _ _ P s t m unexpected (λ _ _. flat_blames bool_laws s m)
      (row_blames _ _ _ _ _ P s t m unexpected (λ _ _. flat_blames path_laws s m)
      (row_blames _ _ _ _ _ P s t m unexpected (λ c i.
      let o : Opens s at 3 3 m = record { tag = t; tagged = e; is = c; has = i } in
      then_blames P _ _ s m (case_blames s m _) λ op k q f p r. inner_more (λ p z. operand o q z) (expr_deep d k f p r))
      (row_blames _ _ _ _ _ P s t m unexpected (λ c i.
      let o : Opens s at 4 4 m = record { tag = t; tagged = e; is = c; has = i } in
      then_blames P _ _ s m (case_blames s m _) λ op k q.
      then_blames P _ _ s k (λ f p r. inner_more (λ p z. left o q z) (expr_deep d k f p r)) λ l j w f p r. inner_more (λ p z. right o q w z) (expr_deep d j f p r))
      (none_blames s t m)))))

  deep_expr : {d at p : ℕ} → DeepExpr s d at p → read_expr d s at ≡ refused TooDeep p
  unfolding read_expr enum_of expr_cases row sized ◌then◌
  deep_expr here = refl
  deep_expr (operand o q z) = simp (o.tagged, bind_ok, o.is, o.has, pick_true, pick_false, q, deep_expr z, map_out)
  deep_expr (left o q z) = simp (o.tagged, bind_ok, o.is, o.has, pick_true, pick_false, q, deep_expr z, bind_out, map_out)
  deep_expr (right o q w z) = simp (o.tagged, bind_ok, o.is, o.has, pick_true, pick_false, q, w, deep_expr z, map_out)

  pub expr_too_deep : (d at p : ℕ) → (read_expr d s at ≡ refused TooDeep p) ↔ DeepExpr s d at p
  expr_too_deep d at p = (λ e. the_place (expr_deep d at TooDeep p e), deep_expr)

  -- a formula is refused as its fields are
  module _ (rec : Reader Formula) (arg : Reader Expr) {at m : ℕ} {f : Fault} {p : ℕ} where
    expr_out : (o : Opens s at 2 2 m) → arg s m ≡ refused f p → formula_cases rec arg s o.tag m ≡ refused f p
    unfolding formula_cases row sized
    expr_out o e = simp (o.is, o.has, pick_true, pick_false, e, map_out)

    one_out : {c : ℕ} → One c → (o : Opens s at c 2 m) → rec s m ≡ refused f p → formula_cases rec arg s o.tag m ≡ refused f p
    unfolding formula_cases row sized
    one_out not o e = simp (o.is, o.has, pick_true, pick_false, e, map_out)
    one_out next o e = simp (o.is, o.has, pick_true, pick_false, e, map_out)
    one_out always o e = simp (o.is, o.has, pick_true, pick_false, e, map_out)
    one_out eventually o e = simp (o.is, o.has, pick_true, pick_false, e, map_out)

    bounded_out : {c : ℕ} → Bounded c → (o : Opens s at c 3 m) → (read_number max_u64 then rec) s m ≡ refused f p → formula_cases rec arg s o.tag m ≡ refused f p
    unfolding formula_cases row sized
    bounded_out bounded_always_case o e = simp (o.is, o.has, pick_true, pick_false, e, map_out)
    bounded_out bounded_eventually_case o e = simp (o.is, o.has, pick_true, pick_false, e, map_out)

    two_out : {c : ℕ} → Two c → (o : Opens s at c 3 m) → (rec then rec) s m ≡ refused f p → formula_cases rec arg s o.tag m ≡ refused f p
    unfolding formula_cases row sized
    two_out and o e = simp (o.is, o.has, pick_true, pick_false, e, map_out)
    two_out or o e = simp (o.is, o.has, pick_true, pick_false, e, map_out)
    two_out implies o e = simp (o.is, o.has, pick_true, pick_false, e, map_out)
    two_out until o e = simp (o.is, o.has, pick_true, pick_false, e, map_out)

  deep_formula : {d at p : ℕ} → DeepFormula s d at p → read_formula d s at ≡ refused TooDeep p
  unfolding read_formula enum_of ◌then◌
  deep_formula here = refl
  deep_formula (expr {d = d} o z) = simp (o.tagged, bind_ok) (expr_out (read_formula d) (read_expr d) o (deep_expr z))
  deep_formula (inside {d = d} c o z) = simp (o.tagged, bind_ok) (one_out (read_formula d) (read_expr d) c o (deep_formula z))
  deep_formula (bounded {d = d} c o q z) = simp (o.tagged, bind_ok) (bounded_out (read_formula d) (read_expr d) c o (rw (q, bind_ok, deep_formula z, map_out)))
  deep_formula (left {d = d} c o z) = simp (o.tagged, bind_ok) (two_out (read_formula d) (read_expr d) c o (rw (deep_formula z, bind_out)))
  deep_formula (right {d = d} c o q z) = simp (o.tagged, bind_ok) (two_out (read_formula d) (read_expr d) c o (rw (q, bind_ok, deep_formula z, map_out)))

  -- the kinds of a formula's fields
  module _ (d at : ℕ) (rec : (at : ℕ) → Blames (Inner (DeepFormula s d at)) (read_formula d s at)) where
    abbrev P : Fault → ℕ → Type 0
    P = Inner (DeepFormula s (suc d) at)

    one_deep : {c : ℕ} → One c → (m : ℕ) → Opens s at c 2 m → Blames P (read_formula d s m)
    one_deep c m o f p e = inner_more (λ p z. inside c o z) (rec m f p e)

    bounded_deep : {c : ℕ} → Bounded c → (m : ℕ) → Opens s at c 3 m → Blames P ((read_number max_u64 then read_formula d) s m)
    bounded_deep c m o = then_blames P _ _ s m (number_blames s m max_u64) λ b k q f p e. inner_more (λ p z. bounded c o q z) (rec k f p e)

    two_deep : {c : ℕ} → Two c → (m : ℕ) → Opens s at c 3 m → Blames P ((read_formula d then read_formula d) s m)
    two_deep c m o = then_blames P _ _ s m (λ f p e. inner_more (λ p z. left c o z) (rec m f p e)) λ g k q f p e. inner_more (λ p z. right c o q z) (rec k f p e)

  formula_deep : (d at : ℕ) → Blames (Inner (DeepFormula s d at)) (read_formula d s at)
  unfolding read_formula enum_of formula_cases
  formula_deep zero at = blames_refused (Inner (DeepFormula s 0 at)) TooDeep at (deep_start here)
  formula_deep (suc d) at =
      let P : Fault → ℕ → Type 0 = Inner (DeepFormula s (suc d) at) in
      blames_bind P _ _ (tag_blames s at) λ t m e.
      let o : (k n : ℕ) → t.case ≡ k → t.count ≡ n → Opens s at k n m = λ k n c i. record { tag = t; tagged = e; is = c; has = i } in
      row_blames _ _ _ _ _ P s t m unexpected (λ _ _. flat_blames pattern_laws s m)
      (row_blames _ _ _ _ _ P s t m unexpected (λ _ _. flat_blames pattern_laws s m)
      (row_blames _ _ _ _ _ P s t m unexpected (λ c i f p r. inner_more (λ p z. expr (o 2 2 c i) z) (expr_deep d m f p r))
      (row_blames _ _ _ _ _ P s t m unexpected (λ c i. one_deep d at (formula_deep d) not m (o _ _ c i))
      (row_blames _ _ _ _ _ P s t m unexpected (λ c i. two_deep d at (formula_deep d) and m (o _ _ c i))
      (row_blames _ _ _ _ _ P s t m unexpected (λ c i. two_deep d at (formula_deep d) or m (o _ _ c i))
      (row_blames _ _ _ _ _ P s t m unexpected (λ c i. two_deep d at (formula_deep d) implies m (o _ _ c i))
      (row_blames _ _ _ _ _ P s t m unexpected (λ c i. one_deep d at (formula_deep d) next m (o _ _ c i))
      (row_blames _ _ _ _ _ P s t m unexpected (λ c i. one_deep d at (formula_deep d) always m (o _ _ c i))
      (row_blames _ _ _ _ _ P s t m unexpected (λ c i. bounded_deep d at (formula_deep d) bounded_always_case m (o _ _ c i))
      (row_blames _ _ _ _ _ P s t m unexpected (λ c i. bounded_deep d at (formula_deep d) bounded_eventually_case m (o _ _ c i))
      (row_blames _ _ _ _ _ P s t m unexpected (λ c i. one_deep d at (formula_deep d) eventually m (o _ _ c i))
      (row_blames _ _ _ _ _ P s t m unexpected (λ c i. two_deep d at (formula_deep d) until m (o _ _ c i))
      (none_blames s t m)))))))))))))

  pub formula_too_deep : (d at p : ℕ) → (read_formula d s at ≡ refused TooDeep p) ↔ DeepFormula s d at p
  formula_too_deep d at p = (λ e. the_place (formula_deep d at TooDeep p e), deep_formula)
