-- The arms of a match on a case number: what an arm reads is what the definition's row of that number reads.
use Prim.Native.Nat.{ℕ, zero, suc, ◌<◌, ◌≤◌}
use mathlib.Core.Path.{◌≡◌, sym, ap, ◌∙◌}
use mathlib.Core.List.{List}
use mathlib.Core.Bool.{false}
use native.Mathlib.Omega.{arith}
use lib.Dec.{eqb, lit<}
use borrow.Author.Tests.{ne_eqb}
use Rattle.reading.specs.Read.{Read, Reader, map_r}
use Rattle.reading.specs.Combine.{Cases, sized, row, unknown}
use Rattle.reading.specs.Expr.{Expr, expr_cases}
use Rattle.reading.specs.Decl.{ty_cases, constructor_variant_cases}
use Rattle.reading.specs.Pattern.{pattern_expr_cases, pattern_variant_cases}
use Rattle.reading.specs.Formula.{Formula, formula_cases}
use Rattle.reading.specs.Link.{stands, refusal}
use Rattle.reading.specs.declared.fault.Fault.TheVariants.{Unexpected}
use Rattle.reading.specs.declared.item.Tag.{Tag}
use Rattle.reading.specs.declared.fault.Refusal.{Refusal}
use Rattle.reading.specs.declared.cursor.Cursor.{Cursor}
use Rattle.std.specs.Prelude.{Result, Err}
use Rattle.reading.proofs.Rules.{pick_false}
use Rattle.reading.proofs.Answers.{stands_out}
use Rattle.reading.proofs.Threads.{stands_map}

-- a head with the case number k
abbrev pub at_case : Tag → ℕ → Tag
at_case t k = record { start = t.start; count = t.count; case = k; place = t.place }

module _ {A B : Type 0} (cases : Cases A) (make : B → A) (s : List ℕ) (t : Tag) (n k items : ℕ) where
  -- the row of k, its fields read as m
  pub arm : (m : Read B) {x : Result Cursor Refusal} → cases s (at_case t k) n ≡ map_r make (sized (at_case t k) items m) → t.case ≡ k → x ≡ stands (sized t items m) → x ≡ stands (cases s t n)
  unfolding sized
  arm m d e q =
      let same : cases s (at_case t k) n ≡ cases s t n = λ i. cases s (at_case t (sym e i)) n in
      q ∙ sym (stands_map make (sized t items m)) ∙ ap stands (sym d ∙ same)

-- a number that is none of the first k
abbrev pub Beyond : ℕ → ℕ → Type 0
Beyond zero x = Unit {0}
Beyond (suc k) x = Beyond k x × (x ≡ k → ⊥)

pub beyond : (k x : ℕ) → Beyond k x → k ≤ x
beyond zero x h = omega arith
beyond (suc k) x h =
    let l = beyond k x h.0 in
    let n = h.1 in
    omega arith

-- no row has the case number
module _ (s : List ℕ) (t : Tag) (n : ℕ) where
  none_of : (cases k : ℕ) → cases ≤ t.case → k < cases → eqb t.case k ≡ false
  none_of cases k h l = ne_eqb t.case k (λ q. omega arith)

  pub ty_unknown : 3 ≤ t.case → {e : Refusal} → e ≡ refusal Unexpected t.place → Err e ≡ stands (ty_cases s t n)
  unfolding ty_cases row unknown
  ty_unknown h q =
      let no : (k : ℕ) → k < 3 → eqb t.case k ≡ false = λ k. none_of 3 k h in
      simp (q, no 0 (lit< tt), no 1 (lit< tt), no 2 (lit< tt), pick_false, stands_out)

  pub constructor_variant_unknown : 2 ≤ t.case → {e : Refusal} → e ≡ refusal Unexpected t.place → Err e ≡ stands (constructor_variant_cases s t n)
  unfolding constructor_variant_cases row unknown
  constructor_variant_unknown h q =
      let no : (k : ℕ) → k < 2 → eqb t.case k ≡ false = λ k. none_of 2 k h in
      simp (q, no 0 (lit< tt), no 1 (lit< tt), pick_false, stands_out)

  pub pattern_variant_unknown : 2 ≤ t.case → {e : Refusal} → e ≡ refusal Unexpected t.place → Err e ≡ stands (pattern_variant_cases s t n)
  unfolding pattern_variant_cases row unknown
  pattern_variant_unknown h q =
      let no : (k : ℕ) → k < 2 → eqb t.case k ≡ false = λ k. none_of 2 k h in
      simp (q, no 0 (lit< tt), no 1 (lit< tt), pick_false, stands_out)

  pub pattern_expr_unknown : 5 ≤ t.case → {e : Refusal} → e ≡ refusal Unexpected t.place → Err e ≡ stands (pattern_expr_cases s t n)
  unfolding pattern_expr_cases row unknown
  pattern_expr_unknown h q =
      let no : (k : ℕ) → k < 5 → eqb t.case k ≡ false = λ k. none_of 5 k h in
      simp (q, no 0 (lit< tt), no 1 (lit< tt), no 2 (lit< tt), no 3 (lit< tt), no 4 (lit< tt), pick_false, stands_out)

  pub expr_unknown : (rec : Reader Expr) → 5 ≤ t.case → {e : Refusal} → e ≡ refusal Unexpected t.place → Err e ≡ stands (expr_cases rec s t n)
  unfolding expr_cases row unknown
  expr_unknown rec h q =
      let no : (k : ℕ) → k < 5 → eqb t.case k ≡ false = λ k. none_of 5 k h in
      simp (q, no 0 (lit< tt), no 1 (lit< tt), no 2 (lit< tt), no 3 (lit< tt), no 4 (lit< tt), pick_false, stands_out)

  pub formula_unknown : (rec : Reader Formula) (operand : Reader Expr) → 13 ≤ t.case → {e : Refusal} → e ≡ refusal Unexpected t.place → Err e ≡ stands (formula_cases rec operand s t n)
  unfolding formula_cases row unknown
  formula_unknown rec operand h q =
      let no : (k : ℕ) → k < 13 → eqb t.case k ≡ false = λ k. none_of 13 k h in
      simp (q, no 0 (lit< tt), no 1 (lit< tt), no 2 (lit< tt), no 3 (lit< tt), no 4 (lit< tt), no 5 (lit< tt), no 6 (lit< tt), no 7 (lit< tt), no 8 (lit< tt), no 9 (lit< tt), no 10 (lit< tt), no 11 (lit< tt), no 12 (lit< tt), pick_false, stands_out)
