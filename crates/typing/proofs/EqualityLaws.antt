-- What each step of the search for a guard's equalities gives, for whatever reads there.
use Rattle.std.specs.Prelude.{Option as Maybe, Some, None, Result, Ok, Err}
use Prim.Native.Nat.{ℕ, zero, suc, ◌-◌}
use mathlib.Core.Path.{◌≡◌, refl, sym, ap, ◌∙◌}
use mathlib.Core.Bool.{Bool, true, false}
use mathlib.Core.List.{List, [], ◌∷◌, ◌++◌}
use mathlib.Core.Option.{Option, none, some}
use native.Mathlib.Omega.{arith}
use lib.ListN.{length}
use borrow.Author.Tests.{ne_eqb}
use Rattle.reading.specs.Read.{ok, pick}
use Rattle.reading.specs.Limits.{max_u64, max_path}
use Rattle.reading.specs.Item.{read_number, read_case, read_count, read_tag}
use Rattle.reading.specs.Text.{Name, read_name}
use Rattle.reading.specs.Expr.{Expr, bin_ops, read_path, read_expr}
use Rattle.reading.specs.Expr as expr
use Rattle.reading.specs.Combine.{entries}
use Rattle.reading.specs.Skip.{text_at}
use Rattle.reading.specs.Link.{answer}
use Rattle.reading.specs.Views.{EnumAt, ExprAt, int_expr, bool_expr, path_expr, unary_expr, binary_expr}
use Rattle.reading.specs.declared.cursor.Cursor.{Cursor}
use Rattle.reading.specs.declared.item.Tag.{Tag}
use Rattle.reading.proofs.Rules.{no}
use Rattle.reading.proofs.Answers.{got, out}
use Rattle.reading.proofs.CaseViews.{expr_at, by_tag}
use Rattle.reading.proofs.ListViews.{list_at}
use Rattle.reading.proofs.Walks.{name_text}
use Rattle.typing.specs.Causes.{first_of}
use Rattle.typing.specs.Names.{eq_name, called, first_called}
use Rattle.typing.specs.Guards as guards
use Rattle.typing.specs.Guards.{conjuncts, one_name, literal_is, path_is, equated, equality}
use Rattle.typing.specs.Tells.{Ends}
use Rattle.typing.specs.Equalities.{value, name, other, name_of, operand_of, paired, listed, equalities, equalities_of, name_in, side_of, equality_of, ConjunctIs, and_is, one_is, ValueAt, NameAt, SideAt, EqualityAt, OperatorAt, ConjunctAt, FirstEquality, FirstOfTwo}
use Rattle.typing.specs.declared.equality.Equality.{Equality}
use Rattle.typing.specs.declared.equality.Conjunct.{Conjunct}
use Rattle.typing.specs.declared.equality.Conjunct.TheVariants.{And, One}
use Rattle.typing.specs.declared.side.Side.{Side}
use Rattle.typing.specs.declared.side.Side.TheVariants as side
use Rattle.typing.proofs.EnvLaws.{entry}
use Rattle.typing.proofs.ClashLaws.{called_append, equalities_append}
-- an expression that reads has a level, and a case
use Rattle.reading.specs.declared.fault.Refusal.{Refusal}

pub deep_enough : (d : ℕ) (s : List ℕ) (at : ℕ) (x : Expr) (n : ℕ) → read_expr d s at ≡ ok x n → d ≡ 0 → ⊥
unfolding read_expr
deep_enough zero s at x n e z = no (cc)
deep_enough (suc d) s at x n e z = omega arith

pub stands : (d : ℕ) (s : List ℕ) (at : ℕ) (x : Expr) (n : ℕ) → read_expr d s at ≡ ok x n → EnumAt (ExprAt (d - 1) s) s at x n
stands d s at x n g =
    let z = deep_enough d s at x n g in
    let k : d ≡ suc (d - 1) = omega arith in
    expr_at (d - 1) s at x n (ap (λ (i : ℕ). read_expr i s at) (sym k) ∙ g)

module _ (d : ℕ) (s : List ℕ) (at : ℕ) {a : Result (Tag × Cursor) Refusal} (e : a ≡ answer (read_tag s at)) (x : Expr) (n : ℕ) (g : read_expr d s at ≡ ok x n) where
  pub case_fields : {t : Tag} {c : Cursor} → a ≡ Ok (t, c) → ExprAt (d - 1) s c.at t.case x n
  case_fields q = by_tag (stands d s at x n g) (got _ e q)

  pub no_case : {A : Type 0} {f : Refusal} → a ≡ Err f → A
  no_case q =
      let u = (stands d s at x n g).tagged in
      let w = out _ e q in
      no (cc)

-- a literal
module _ (s : List ℕ) (at : ℕ) {a : Result (ℕ × Cursor) Refusal} (e : a ≡ answer (read_number max_u64 s at)) where
  pub value_none : (r : Side) {f : Refusal} → a ≡ Err f → ValueAt s at r
  value_none r q = record { of = λ v n g. no (let w = out _ e q in cc) }

  pub value_is : {v : ℕ} {c : Cursor} → a ≡ Ok (v, c) → ValueAt s at (side.Value v)
  unfolding side_of
  value_is {v} q = record { of = λ x n g. let w = got _ e q in let y : v ≡ x = cc in ap value y }

-- a path
module _ (s : List ℕ) (at : ℕ) {a : Result (ℕ × Cursor) Refusal} (e : a ≡ answer (read_count max_path s at)) where
  pub name_none : (r : Side) {f : Refusal} → a ≡ Err f → NameAt s at r
  unfolding read_path
  name_none r q = record { of = λ p n g. let l = list_at read_name s max_path at p n g in no (let x = out _ e q in let y = l.opens in cc) }

  module _ {m : ℕ} {c : Cursor} (q : a ≡ Ok (m, c)) where
    pub name_other : (m ≡ 1 → ⊥) → NameAt s at side.Other
    unfolding read_path name_of side_of
    name_other h = record {
      of = λ p n g.
          let l = list_at read_name s max_path at p n g in
          let x = got _ e q in
          let y = l.opens in
          let u : m ≡ length p = cc in
          go p u;
    }
      where
        go : (p : List Name) → m ≡ length p → other ≡ name_of p
        go [] i = refl
        go (x ∷ []) i = absurd (h i)
        go (x ∷ (y ∷ ys)) i = refl

    pub name_only : m ≡ 1 → NameAt s at (side.Name c.at)
    unfolding read_path name_of side_of
    name_only h = record {
      of = λ p n g.
          let l = list_at read_name s max_path at p n g in
          let x = got _ e q in
          let y = l.opens in
          let u : m ≡ length p = cc in
          let v : l.first ≡ c.at = cc in
          go p n u (ap (entries (length p) read_name s) (sym v) ∙ l.entries_are);
    }
      where
        go : (p : List Name) (n : ℕ) → m ≡ length p → entries (length p) read_name s c.at ≡ ok p n → name (text_at s c.at) ≡ name_of p
        go [] n i r = absurd (omega arith)
        go (x ∷ []) n i r = let u = entry read_name s c.at x [] n r in ap name (name_text s c.at x u.end u.here)
        go (x ∷ (y ∷ ys)) n i r = absurd (omega arith)

-- a side, by the case
module _ (d : ℕ) (s : List ℕ) (at : ℕ) {a : Result (Tag × Cursor) Refusal} (e : a ≡ answer (read_tag s at)) where
  pub side_none : (r : Side) {f : Refusal} → a ≡ Err f → SideAt d s at r
  side_none r q = record { of = λ x n g. no_case d s at e x n g q }

  module _ {t : Tag} {c : Cursor} (q : a ≡ Ok (t, c)) where
    pub side_int : (r : Side) → t.case ≡ 0 → ValueAt s c.at r → SideAt d s at r
    unfolding operand_of
    side_int r k h = record { of = λ x n g. go (case_fields d s at e x n g q) k }
      where
        go : {m : ℕ} {x : Expr} {n : ℕ} → ExprAt (d - 1) s c.at m x n → m ≡ 0 → side_of s r ≡ operand_of x
        go (int_expr u) i = h.of _ _ u
        go (bool_expr u) i = absurd (omega arith)
        go (path_expr u) i = absurd (omega arith)
        go (unary_expr u v) i = absurd (omega arith)
        go (binary_expr u v w) i = absurd (omega arith)

    pub side_path : (r : Side) → t.case ≡ 2 → NameAt s c.at r → SideAt d s at r
    unfolding operand_of
    side_path r k h = record { of = λ x n g. go (case_fields d s at e x n g q) k }
      where
        go : {m : ℕ} {x : Expr} {n : ℕ} → ExprAt (d - 1) s c.at m x n → m ≡ 2 → side_of s r ≡ operand_of x
        go (int_expr u) i = absurd (omega arith)
        go (bool_expr u) i = absurd (omega arith)
        go (path_expr u) i = h.of _ _ u
        go (unary_expr u v) i = absurd (omega arith)
        go (binary_expr u v w) i = absurd (omega arith)

    pub side_other : (t.case ≡ 0 → ⊥) → (t.case ≡ 2 → ⊥) → SideAt d s at side.Other
    unfolding operand_of side_of
    side_other k l = record { of = λ x n g. go (case_fields d s at e x n g q) k l }
      where
        go : {m : ℕ} {x : Expr} {n : ℕ} → ExprAt (d - 1) s c.at m x n → (m ≡ 0 → ⊥) → (m ≡ 2 → ⊥) → other ≡ operand_of x
        go (int_expr u) i j = absurd (i refl)
        go (bool_expr u) i j = refl
        go (path_expr u) i j = absurd (j refl)
        go (unary_expr u v) i j = refl
        go (binary_expr u v w) i j = refl

-- two sides
one_left : (p : List Name) (v : ℕ) → one_name p v ≡ paired (name_of p) (value v)
unfolding one_name paired name_of
one_left [] v = refl
one_left (n ∷ []) v = refl
one_left (n ∷ (m ∷ ms)) v = refl

one_right : (p : List Name) (v : ℕ) → one_name p v ≡ paired (value v) (name_of p)
unfolding one_name paired name_of
one_right [] v = refl
one_right (n ∷ []) v = refl
one_right (n ∷ (m ∷ ms)) v = refl

path_other : (p : List Name) → none ≡ paired (name_of p) other
unfolding paired name_of
path_other [] = refl
path_other (n ∷ []) = refl
path_other (n ∷ (m ∷ ms)) = refl

path_path : (p q : List Name) → none ≡ paired (name_of p) (name_of q)
unfolding paired name_of
path_path [] q = refl
path_path (n ∷ []) [] = refl
path_path (n ∷ []) (m ∷ []) = refl
path_path (n ∷ []) (m ∷ (k ∷ ks)) = refl
path_path (n ∷ (m ∷ ms)) q = refl

equated_is : (a b : Expr) → equated a b ≡ paired (operand_of a) (operand_of b)
unfolding equated literal_is path_is operand_of paired
equated_is (expr.int v) (expr.int w) = refl
equated_is (expr.int v) (expr.bool c) = refl
equated_is (expr.int v) (expr.path p) = one_right p v
equated_is (expr.int v) (expr.unary op e) = refl
equated_is (expr.int v) (expr.binary op l r) = refl
equated_is (expr.bool c) b = refl
equated_is (expr.path p) (expr.int v) = one_left p v
equated_is (expr.path p) (expr.bool c) = path_other p
equated_is (expr.path p) (expr.path q) = path_path p q
equated_is (expr.path p) (expr.unary op e) = path_other p
equated_is (expr.path p) (expr.binary op l r) = path_other p
equated_is (expr.unary op e) b = refl
equated_is (expr.binary op l r) b = refl

pub equality_is : (d : ℕ) (s : List ℕ) (at : ℕ) {a b : Side} {right : ℕ} (r : Maybe Equality) → SideAt d s at a → Ends (read_expr d s at) right → SideAt d s right b → equality_of s r ≡ paired (side_of s a) (side_of s b) → EqualityAt d s at r
equality_is d s at r f w g h = record {
  of = λ x j y n u v. h ∙ rw (f.of x j u, g.of y n (ap (read_expr d s) (w.of x j u) ∙ v)) (sym (equated_is x y));
}

-- a binary expression, by its operator
listed_all : (o : Option guards.Equality) → listed o ++ [] ≡ listed o
unfolding listed
listed_all none = refl
listed_all (some e) = refl

module _ (d : ℕ) (s : List ℕ) (at : ℕ) {a : Result (ℕ × Cursor) Refusal} (e : a ≡ answer (read_case bin_ops s at)) where
  pub operator_none : (r : Conjunct) {f : Refusal} → a ≡ Err f → OperatorAt d s at r
  operator_none r q = record { of = λ op k x j y n u v w. no (let z = out _ e q in cc) }

  module _ {op : ℕ} {c : Cursor} (q : a ≡ Ok (op, c)) where
    pub operator_and : op ≡ 15 → OperatorAt d s at (And c.at)
    unfolding conjuncts pick
    operator_and z = record {
      of = λ o k x j y n u v w.
          let b = got _ e q in
          let i : c.at ≡ k = cc in
          let t : o ≡ 15 = cc in
          rw (t, equalities_append (conjuncts y) (conjuncts x)) (and_is (ap (read_expr d s) i ∙ v) w);
    }

    pub operator_equal : (r : Maybe Equality) → op ≡ 5 → EqualityAt d s c.at r → OperatorAt d s at (One r)
    unfolding conjuncts equalities equality pick
    operator_equal r z h = record {
      of = λ o k x j y n u v w.
          let b = got _ e q in
          let i : c.at ≡ k = cc in
          let t : o ≡ 5 = cc in
          rw (t, listed_all) (one_is (ap listed (sym (h.of x j y n (ap (read_expr d s) i ∙ v) w))));
    }

    pub operator_other : (op ≡ 15 → ⊥) → (op ≡ 5 → ⊥) → OperatorAt d s at (One None)
    unfolding conjuncts equalities equality listed equality_of pick
    operator_other z z' = record {
      of = λ o k x j y n u v w.
          let b = got _ e q in
          let t : op ≡ o = cc in
          rw (sym t, ne_eqb op 15 z, ne_eqb op 5 z') (one_is refl);
    }

-- an expression, by its case
module _ (d : ℕ) (s : List ℕ) (at : ℕ) where
  pub conjunct_deep : (r : Conjunct) → d ≡ 0 → ConjunctAt d s at r
  conjunct_deep r z = record { of = λ x n g. absurd (deep_enough d s at x n g z) }

  module _ {a : Result (Tag × Cursor) Refusal} (e : a ≡ answer (read_tag s at)) where
    pub conjunct_none : (r : Conjunct) {f : Refusal} → a ≡ Err f → ConjunctAt d s at r
    conjunct_none r q = record { of = λ x n g. no_case d s at e x n g q }

    module _ {t : Tag} {c : Cursor} (q : a ≡ Ok (t, c)) where
      pub conjunct_other : (t.case ≡ 4 → ⊥) → ConjunctAt d s at (One None)
      unfolding conjuncts equalities equality listed equality_of
      conjunct_other k = record { of = λ x n g. go (case_fields d s at e x n g q) k }
        where
          go : {m : ℕ} {x : Expr} {n : ℕ} → ExprAt (d - 1) s c.at m x n → (m ≡ 4 → ⊥) → ConjunctIs (d - 1) s (One None) (equalities_of x)
          go (int_expr u) i = one_is refl
          go (bool_expr u) i = one_is refl
          go (path_expr u) i = one_is refl
          go (unary_expr u v) i = one_is refl
          go (binary_expr u v w) i = absurd (i refl)

      pub conjunct_binary : (r : Conjunct) → t.case ≡ 4 → OperatorAt (d - 1) s c.at r → ConjunctAt d s at r
      conjunct_binary r k h = record { of = λ x n g. go (case_fields d s at e x n g q) k }
        where
          go : {m : ℕ} {x : Expr} {n : ℕ} → ExprAt (d - 1) s c.at m x n → m ≡ 4 → ConjunctIs (d - 1) s r (equalities_of x)
          go (int_expr u) i = absurd (omega arith)
          go (bool_expr u) i = absurd (omega arith)
          go (path_expr u) i = absurd (omega arith)
          go (unary_expr u v) i = absurd (omega arith)
          go (binary_expr u v w) i = h.of _ _ _ _ _ _ u v w

-- an equality of a name
module _ (s : List ℕ) (w : Name) {q : Maybe Equality} where
  pub called_nothing : q ≡ None → equality_of s None ≡ first_called name_in w (listed (equality_of s q))
  unfolding equality_of first_called listed
  called_nothing e = rw e

  module _ {p : Equality} {text : Name} {b : Bool} (e : q ≡ Some p) (t : text ≡ text_at s p.name) (f : b ≡ eq_name text w) where
    pub called_hit : b ≡ true → equality_of s q ≡ first_called name_in w (listed (equality_of s q))
    unfolding equality_of first_called called first_of listed pick
    called_hit z = rw (e, sym t, sym f ∙ z)

    pub called_miss : b ≡ false → equality_of s None ≡ first_called name_in w (listed (equality_of s q))
    unfolding equality_of first_called called first_of listed pick
    called_miss z = rw (e, sym t, sym f ∙ z)

-- what an expression says, from what the code learnt of it
pub was_and : {d : ℕ} {s : List ℕ} {c : Conjunct} {es : List guards.Equality} {k : ℕ} → ConjunctIs d s c es → c ≡ And k → (a : Expr) × (j : ℕ) × (b : Expr) × (n : ℕ) × (read_expr d s k ≡ ok a j) × (read_expr d s j ≡ ok b n) × (es ≡ equalities_of b ++ equalities_of a)
was_and {d} {s} {k = k} (and_is {k = i} u v) q = let y : i ≡ k = cc in (_, _, _, _, ap (read_expr d s) (sym y) ∙ u, v, refl)
was_and (one_is u) q = no (cc)

pub was_one : {d : ℕ} {s : List ℕ} {c : Conjunct} {es : List guards.Equality} {q : Maybe Equality} → ConjunctIs d s c es → c ≡ One q → es ≡ listed (equality_of s q)
was_one (and_is u v) z = no (cc)
was_one {s = s} {q = q} (one_is {q = q'} u) z = let y : q' ≡ q = cc in u ∙ ap (λ (x : Maybe Equality). listed (equality_of s x)) y

-- the first of a name
module _ (d : ℕ) (s : List ℕ) (at : ℕ) (w : Name) (r : Maybe Equality) where
  pub first_deep : d ≡ 0 → FirstEquality d s at w r
  first_deep z = record { of = λ x n g. absurd (deep_enough d s at x n g z) }

  module _ {c : Conjunct} (h : ConjunctAt d s at c) where
    pub first_and : {k : ℕ} → c ≡ And k → FirstOfTwo (d - 1) s k w r → FirstEquality d s at w r
    first_and q g = record { of = λ x n u. let v = was_and (h.of x n u) q in g.of v.0 v.1 v.2 v.3 v.4 v.5 ∙ ap (first_called name_in w) (sym v.6) }

    pub first_called_lem : {q : Maybe Equality} → c ≡ One q → equality_of s r ≡ first_called name_in w (listed (equality_of s q)) → FirstEquality d s at w r
    first_called_lem q g = record { of = λ x n u. g ∙ ap (first_called name_in w) (sym (was_one (h.of x n u) q)) }

module _ (d : ℕ) (s : List ℕ) (at : ℕ) (w : Name) {right : ℕ} {x : Maybe Equality} (h : Ends (read_expr d s at) right) (g : FirstEquality d s right w x) where
  first_right : (a : Expr) (j : ℕ) (b : Expr) (n : ℕ) → read_expr d s at ≡ ok a j → read_expr d s j ≡ ok b n → first_called name_in w (equalities_of b ++ equalities_of a) ≡ first_of (equality_of s x) (first_called name_in w (equalities_of a))
  first_right a j b n u v = rw (called_append name_in w (equalities_of b) (equalities_of a), g.of b n (ap (read_expr d s) (h.of a j u) ∙ v))

  pub two_right : {p : Equality} → x ≡ Some p → FirstOfTwo d s at w x
  unfolding equality_of first_of
  two_right q = record { of = λ a j b n u v. rw (first_right a j b n u v, q) }

  pub two_left : (r : Maybe Equality) → x ≡ None → FirstEquality d s at w r → FirstOfTwo d s at w r
  unfolding equality_of first_of
  two_left r q f = record { of = λ a j b n u v. rw (first_right a j b n u v, q) (f.of a j u) }
