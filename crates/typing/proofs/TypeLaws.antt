-- What each step of an expression's typing gives, for whatever reads there.
use Rattle.std.specs.Prelude.{Ok, Err, Result}
use Prim.Native.Nat.{ℕ, suc, ◌-◌}
use mathlib.Core.Path.{◌≡◌, refl, sym, ap, subst, ◌∙◌}
use mathlib.Core.Bool.{Bool, true}
use mathlib.Core.List.{List}
use native.Mathlib.Omega.{arith}
use Rattle.reading.specs.Read.{ok}
use Rattle.reading.specs.Item.{read_case, read_tag}
use Rattle.reading.specs.Limits.{max_u64}
use Rattle.reading.specs.Expr.{Expr, unary_ops, bin_ops, read_path, read_expr}
use Rattle.reading.specs.Link.{answer}
use Rattle.reading.specs.Views.{ExprAt, int_expr, bool_expr, path_expr, unary_expr, binary_expr}
use Rattle.reading.specs.declared.cursor.Cursor.{Cursor}
use Rattle.reading.specs.declared.item.Tag.{Tag}
use Rattle.reading.proofs.Rules.{no}
use Rattle.reading.proofs.Answers.{got, out}
use Rattle.reading.proofs.ItemLaws.{number_laws, bool_laws}
use Rattle.reading.proofs.ExprLaws.{expr_laws}
use Rattle.reading.proofs.CaseViews.{expr_at, by_tag}
use Rattle.reading.proofs.Walks.{passed}
use Rattle.typing.specs.Types.{ExprType, bool, int_lit}
use Rattle.typing.specs.Causes as causes
use Rattle.typing.specs.Causes.{Answer as TypeAnswer, is, fails, and_then}
use Rattle.typing.specs.Rules.{is_bool, unary_type, bin_op, binary_type}
use Rattle.typing.specs.Env.{Env, Agree}
use Rattle.typing.specs.Typing.{type_expr}
use Rattle.typing.specs.Means.{ty_of, cause_of, good, bad, typed_of, outcome, Typed}
use Rattle.typing.specs.Tells.{Ends}
use Rattle.typing.specs.Table.{place_after, Past}
use Rattle.typing.specs.Typed.{Resolves, Types, TypesUnary, TypesBinary}
use Rattle.typing.specs.declared.ty.Ty.{Ty}
use Rattle.typing.specs.declared.ty.Ty.TheVariants as ty
use Rattle.typing.specs.declared.cause.Cause.{Cause}
use Rattle.typing.proofs.RuleLaws.{not_bool}
use Rattle.typing.proofs.EnvLaws.{after_is}
use Rattle.typing.proofs.Depends.{type_agree}
-- an expression ends where the item does
use Rattle.reading.specs.declared.fault.Refusal.{Refusal}

pub expr_ends : (d : ℕ) (s : List ℕ) (at : ℕ) {r : ℕ} → Past s at r → Ends (read_expr d s at) r
unfolding place_after
expr_ends d s at e = record { of = λ x n q. e.is ∙ ap place_after (passed (expr_laws d) s e.each at x n q) }

-- an answer that was taken apart
pub type_was : (a : TypeAnswer) {t : ExprType} {m n : ℕ} → good t m ≡ outcome n a → (a ≡ is t) × (m ≡ n)
unfolding outcome
type_was (is u) e = (ap is (cc), cc)
type_was (fails c) e = no (cc)

pub cause_was : (a : TypeAnswer) (n : ℕ) {c : causes.Cause} → bad c ≡ outcome n a → a ≡ fails c
unfolding outcome
cause_was (is u) n e = no (cc)
cause_was (fails d) n e = cc

module _ (env : Env) (d : ℕ) (s : List ℕ) (at : ℕ) {t : Typed} (h : Types env d s at t) (e : Expr) (n : ℕ) (q : read_expr d s at ≡ ok e n) where
  pub is_typed : {τ : Ty} {m : ℕ} → t ≡ Ok (τ, m) → (type_expr env e ≡ is (ty_of s τ)) × (m ≡ n)
  unfolding typed_of
  is_typed z = type_was (type_expr env e) (rw z at (h.of e n q))

  pub is_failed : {c : Cause} → t ≡ Err c → type_expr env e ≡ fails (cause_of s c)
  unfolding typed_of
  is_failed z = cause_was (type_expr env e) n (rw z at (h.of e n q))

-- the fields of the case that stands there
module _ (d : ℕ) (s : List ℕ) (at : ℕ) {a : Result (Tag × Cursor) Refusal} (e : a ≡ answer (read_tag s at)) where
  pub fields_are : (d ≡ 0 → ⊥) → {t : Tag} {c : Cursor} → a ≡ Ok (t, c) → (x : Expr) (n : ℕ) → read_expr d s at ≡ ok x n → ExprAt (d - 1) s c.at t.case x n
  fields_are z q x n g =
      let k : d ≡ suc (d - 1) = omega arith in
      by_tag (expr_at (d - 1) s at x n (ap (λ (i : ℕ). read_expr i s at) (sym k) ∙ g)) (got _ e q)

-- no expression stands there
module _ (env : Env) (d : ℕ) (s : List ℕ) (at : ℕ) (r : Typed) where
  pub too_deep : d ≡ 0 → Types env d s at r
  unfolding read_expr
  too_deep z = record { of = λ e n q. let w = rw z at q in no (cc) }

  pub no_tag : {a : Result (Tag × Cursor) Refusal} {f : Refusal} → (d ≡ 0 → ⊥) → a ≡ answer (read_tag s at) → a ≡ Err f → Types env d s at r
  no_tag z e q = record {
    of = λ x n g.
        let k : d ≡ suc (d - 1) = omega arith in
        let v = expr_at (d - 1) s at x n (ap (λ (i : ℕ). read_expr i s at) (sym k) ∙ g) in
        let u = v.tagged in
        let w = out _ e q in
        no (cc);
  }

-- by the case
module _ (env : Env) {d : ℕ} {s : List ℕ} {m : ℕ} where
  int_type : {k : ℕ} {e : Expr} {n next : ℕ} → ExprAt d s m k e n → k ≡ 0 → Past s m next → (type_expr env e ≡ is int_lit) × (next ≡ n)
  unfolding type_expr
  int_type (int_expr q) z o = (refl, o.is ∙ after_is (number_laws max_u64 (omega arith)) s o.each m _ _ q)
  int_type (bool_expr q) z o = absurd (omega arith)
  int_type (path_expr q) z o = absurd (omega arith)
  int_type (unary_expr q r) z o = absurd (omega arith)
  int_type (binary_expr q r t) z o = absurd (omega arith)

  bool_type : {k : ℕ} {e : Expr} {n next : ℕ} → ExprAt d s m k e n → k ≡ 1 → Past s m next → (type_expr env e ≡ is bool) × (next ≡ n)
  unfolding type_expr
  bool_type (int_expr q) z o = absurd (omega arith)
  bool_type (bool_expr q) z o = (refl, o.is ∙ after_is bool_laws s o.each m _ _ q)
  bool_type (path_expr q) z o = absurd (omega arith)
  bool_type (unary_expr q r) z o = absurd (omega arith)
  bool_type (binary_expr q r t) z o = absurd (omega arith)

  path_type : {k : ℕ} {e : Expr} {n : ℕ} (r : Typed) (next : ℕ) → ExprAt d s m k e n → k ≡ 2 → Ends (read_path s m) next → Resolves env s m next r → typed_of s r ≡ outcome n (type_expr env e)
  unfolding type_expr
  path_type r next (int_expr q) z g h = absurd (omega arith)
  path_type r next (bool_expr q) z g h = absurd (omega arith)
  path_type {e = e} r next (path_expr q) z g h = subst (λ (i : ℕ). typed_of s r ≡ outcome i (type_expr env e)) (g.of _ _ q) (h.of _ _ q)
  path_type r next (unary_expr q t) z g h = absurd (omega arith)
  path_type r next (binary_expr q t u) z g h = absurd (omega arith)

  unary_type_lem : {k : ℕ} {e : Expr} {n : ℕ} (r : Typed) → ExprAt d s m k e n → k ≡ 3 → TypesUnary env d s m r → typed_of s r ≡ outcome n (type_expr env e)
  unary_type_lem r (int_expr q) z h = absurd (omega arith)
  unary_type_lem r (bool_expr q) z h = absurd (omega arith)
  unary_type_lem r (path_expr q) z h = absurd (omega arith)
  unary_type_lem r (unary_expr q t) z h = h.of _ _ _ _ q t
  unary_type_lem r (binary_expr q t u) z h = absurd (omega arith)

  binary_type_lem : {k : ℕ} {e : Expr} {n : ℕ} (r : Typed) → ExprAt d s m k e n → k ≡ 4 → TypesBinary env d s m r → typed_of s r ≡ outcome n (type_expr env e)
  binary_type_lem r (int_expr q) z h = absurd (omega arith)
  binary_type_lem r (bool_expr q) z h = absurd (omega arith)
  binary_type_lem r (path_expr q) z h = absurd (omega arith)
  binary_type_lem r (unary_expr q t) z h = absurd (omega arith)
  binary_type_lem r (binary_expr q t u) z h = h.of _ _ _ _ _ _ q t u

  beyond_type : {A : Type 0} {k : ℕ} {e : Expr} {n : ℕ} → ExprAt d s m k e n → (k ≡ 0 → ⊥) → (k ≡ 1 → ⊥) → (k ≡ 2 → ⊥) → (k ≡ 3 → ⊥) → (k ≡ 4 → ⊥) → A
  beyond_type (int_expr q) a b c f g = absurd (a refl)
  beyond_type (bool_expr q) a b c f g = absurd (b refl)
  beyond_type (path_expr q) a b c f g = absurd (c refl)
  beyond_type (unary_expr q t) a b c f g = absurd (f refl)
  beyond_type (binary_expr q t u) a b c f g = absurd (g refl)

-- the arms
module _ (env : Env) (d : ℕ) (s : List ℕ) (at : ℕ) {a : Result (Tag × Cursor) Refusal} {t : Tag} {c : Cursor} (z : d ≡ 0 → ⊥) (e : a ≡ answer (read_tag s at)) (q : a ≡ Ok (t, c)) where
  pub arm_int : {next : ℕ} → t.case ≡ 0 → Past s c.at next → Types env d s at (Ok (ty.IntLit, next))
  unfolding typed_of outcome ty_of
  arm_int k o = record { of = λ x n w. let y = int_type env (fields_are d s at e z q x n w) k o in rw (y.0, y.1) }

  pub arm_bool : {next : ℕ} → t.case ≡ 1 → Past s c.at next → Types env d s at (Ok (ty.Bool, next))
  unfolding typed_of outcome ty_of
  arm_bool k o = record { of = λ x n w. let y = bool_type env (fields_are d s at e z q x n w) k o in rw (y.0, y.1) }

  pub arm_path : (r : Typed) {next : ℕ} → t.case ≡ 2 → Ends (read_path s c.at) next → Resolves env s c.at next r → Types env d s at r
  arm_path r k g h = record { of = λ x n w. path_type env r _ (fields_are d s at e z q x n w) k g h }

  pub arm_unary : (r : Typed) → t.case ≡ 3 → TypesUnary env (d - 1) s c.at r → Types env d s at r
  arm_unary r k h = record { of = λ x n w. unary_type_lem env r (fields_are d s at e z q x n w) k h }

  pub arm_binary : (r : Typed) → t.case ≡ 4 → TypesBinary env (d - 1) s c.at r → Types env d s at r
  arm_binary r k h = record { of = λ x n w. binary_type_lem env r (fields_are d s at e z q x n w) k h }

  pub arm_beyond : (r : Typed) → (t.case ≡ 0 → ⊥) → (t.case ≡ 1 → ⊥) → (t.case ≡ 2 → ⊥) → (t.case ≡ 3 → ⊥) → (t.case ≡ 4 → ⊥) → Types env d s at r
  arm_beyond r k l m o p = record { of = λ x n w. beyond_type env (fields_are d s at e z q x n w) k l m o p }

-- a unary expression, from its operator on
module _ (env : Env) (d : ℕ) (s : List ℕ) (at : ℕ) {a : Result (ℕ × Cursor) Refusal} (e : a ≡ answer (read_case unary_ops s at)) where
  pub unary_none : (r : Typed) {f : Refusal} → a ≡ Err f → TypesUnary env d s at r
  unary_none r q = record { of = λ op k x n u v. no (let w = out _ e q in cc) }

  module _ {op : ℕ} {c : Cursor} {t : Typed} (q : a ≡ Ok (op, c)) (h : Types env d s c.at t) where
    pub unary_out : {x : Cause} {r : Typed} → t ≡ Err x → r ≡ Err x → TypesUnary env d s at r
    unfolding type_expr and_then typed_of outcome
    unary_out z g = record {
      of = λ o k x n u v.
          let w = got _ e q in
          let y : c.at ≡ k = cc in
          let v' = ap (read_expr d s) y ∙ v in
          rw (g, is_failed env d s c.at h x n v' z);
    }

    pub unary_goes : {τ : Ty} {next : ℕ} (r : Typed) → t ≡ Ok (τ, next) → typed_of s r ≡ outcome next (unary_type op (ty_of s τ)) → TypesUnary env d s at r
    unfolding type_expr and_then
    unary_goes r z g = record {
      of = λ o k x n u v.
          let w = got _ e q in
          let y : c.at ≡ k = cc in
          let i : op ≡ o = cc in
          let j = is_typed env d s c.at h x n (ap (read_expr d s) y ∙ v) z in
          rw j.0 (rw (i, j.1) at g);
    }

    pub unary_not : {τ : Ty} {next : ℕ} {x : Bool} → t ≡ Ok (τ, next) → op ≡ 0 → x ≡ is_bool (ty_of s τ) → x ≡ true → TypesUnary env d s at (Ok (ty.Bool, next))
    unary_not {τ} {next} z k p g = unary_goes (Ok (ty.Bool, next)) z (not_bool s op τ next p k g)

-- a binary expression
module _ (env : Env) (d : ℕ) (s : List ℕ) (at : ℕ) {a : Result (ℕ × Cursor) Refusal} (e : a ≡ answer (read_case bin_ops s at)) where
  pub binary_none : (r : Typed) {f : Refusal} → a ≡ Err f → TypesBinary env d s at r
  binary_none r q = record { of = λ op k x j y n u v w. no (let z = out _ e q in cc) }

  module _ {op : ℕ} {c : Cursor} {t : Typed} (q : a ≡ Ok (op, c)) (h : Types env d s c.at t) where
    pub left_out : {x : Cause} {r : Typed} → t ≡ Err x → r ≡ Err x → TypesBinary env d s at r
    unfolding type_expr and_then typed_of outcome
    left_out z g = record {
      of = λ o k x j y n u v w.
          let b = got _ e q in
          let i : c.at ≡ k = cc in
          let v' = ap (read_expr d s) i ∙ v in
          rw (g, is_failed env d s c.at h x j v' z);
    }

    module _ {τ : Ty} {right : ℕ} {t' : Typed} (z : t ≡ Ok (τ, right)) (h' : Types env d s right t') where
      pub right_out : {x : Cause} {r : Typed} → t' ≡ Err x → r ≡ Err x → TypesBinary env d s at r
      unfolding type_expr and_then typed_of outcome
      right_out z' g = record {
        of = λ o k x j y n u v w.
            let b = got _ e q in
            let i : c.at ≡ k = cc in
            let f = is_typed env d s c.at h x j (ap (read_expr d s) i ∙ v) z in
            rw (g, f.0, is_failed env d s right h' y n (ap (read_expr d s) f.1 ∙ w) z');
      }

      pub binary_goes : {τ' : Ty} {next : ℕ} (r : Typed) → t' ≡ Ok (τ', next) → typed_of s r ≡ outcome next (binary_type (bin_op op) (ty_of s τ) (ty_of s τ')) → TypesBinary env d s at r
      unfolding type_expr and_then
      binary_goes r z' g = record {
        of = λ o k x j y n u v w.
            let b = got _ e q in
            let i : c.at ≡ k = cc in
            let p : op ≡ o = cc in
            let f = is_typed env d s c.at h x j (ap (read_expr d s) i ∙ v) z in
            let f' = is_typed env d s right h' y n (ap (read_expr d s) f.1 ∙ w) z' in
            rw (f.0, f'.0) (rw (p, f'.1) at g);
      }

-- the same promise by another environment in which names mean the same
pub types_agree : {a b : Env} {d : ℕ} {s : List ℕ} {at : ℕ} {r : Typed} → Agree a b → Types a d s at r → Types b d s at r
types_agree g h = record { of = λ e n q. h.of e n q ∙ ap (outcome n) (type_agree g e) }
