-- What each step of the judging of a formula gives, for whatever reads there.
use Rattle.std.specs.Prelude.{Ok, Err, Result}
use Prim.Native.Nat.{ℕ, suc, ◌-◌, ◌<◌, ◌≤◌}
use mathlib.Core.Path.{◌≡◌, refl, sym, ap, ◌∙◌}
use mathlib.Core.Bool.{Bool, true, false}
use mathlib.Core.List.{List}
use mathlib.Core.Option.{Option, none, some}
use native.Mathlib.Omega.{arith}
use lib.Dec.{eqb}
use lib.ListN.{length, get_or, get_or-eq_default}
use Rattle.reading.specs.Read.{ok, pick}
use Rattle.reading.specs.Limits.{max_u64}
use Rattle.reading.specs.Item.{read_number, read_tag}
use Rattle.reading.specs.Pattern.{PatternVariant, Pattern, read_pattern_field, read_pattern_variant, read_pattern}
use Rattle.reading.specs.Pattern as pattern
use Rattle.reading.specs.Formula.{Formula, read_formula}
use Rattle.reading.specs.Formula as formula
use Rattle.reading.specs.Link.{answer}
use Rattle.reading.specs.declared.cursor.Cursor.{Cursor}
use Rattle.reading.specs.declared.item.Tag.{Tag}
use Rattle.reading.proofs.Rules.{no}
use Rattle.reading.proofs.Answers.{got, out}
use Rattle.reading.proofs.PatternLaws.{pattern_field_laws}
use Rattle.reading.proofs.CaseViews.{formula_at}
use Rattle.reading.proofs.ListViews.{option_at}
use Rattle.typing.specs.Causes as causes
use Rattle.typing.specs.Causes.{first_of}
use Rattle.typing.specs.Rules.{is_bool, must_bool}
use Rattle.typing.specs.Env.{Env, given}
use Rattle.typing.specs.Formulas.{fields_bind, variant_binds, check_pattern_group, bool_cause, type_formula}
use Rattle.typing.specs.Means.{ty_of, cause_of, unfit_of, Fit, Typed}
use Rattle.typing.specs.Tells.{Ends}
use Rattle.typing.specs.Table.{after_head, Past}
use Rattle.typing.specs.Typed.{Types}
use Rattle.typing.specs.Shape.{kind_of}
use Rattle.typing.specs.Entries.{given_fields, FieldsAt}
use Rattle.typing.specs.Judges.{FieldBinds, FieldsBind, VariantBinds, ChecksGroup, TypesFormula, TypesBool, TypesBounded, TypesTwo}
use Rattle.typing.specs.declared.formula.Kind.{Kind}
use Rattle.typing.specs.declared.formula.Kind.TheVariants.{Input, Output, Expression, One, Always, Sometime, Two, Unknown}
use Rattle.typing.specs.declared.entries.Entries.{Entries}
use Rattle.typing.specs.declared.ty.Ty.{Ty}
use Rattle.typing.specs.declared.cause.Cause.{Cause}
use Rattle.typing.specs.declared.cause.Cause.TheVariants.{BindingInFormula, MustBeBool}
use Rattle.typing.specs.declared.cause.What.TheVariants as what
use Rattle.typing.proofs.EnvLaws.{after_is}
use Rattle.typing.proofs.EntryLaws.{Scanning, scan_done, scan_turn, scan_next}
use Rattle.typing.proofs.PartLaws.{option_null, option_there, name_stands, pattern_variant}
use Rattle.typing.proofs.TypeLaws.{is_typed, is_failed}
use Rattle.typing.proofs.ShapeLaws.{Shape, input, output, expression, one, always, sometime, two, shape, formula_fields}
-- a field of a pattern
use Rattle.reading.specs.declared.fault.Refusal.{Refusal}

module _ (s : List ℕ) (at : ℕ) {k : ℕ} {b : Bool} (h : k ≡ after_head s at) (e : b ≡ eqb (get_or s k 0) 246) where
  pub field_absent : b ≡ true → FieldBinds s at false
  unfolding given
  field_absent q = record { of = λ p n g. sym (ap given (option_null e q (name_stands s at p n g h).1)) }

  pub field_present : b ≡ false → FieldBinds s at true
  unfolding given
  field_present q = record { of = λ p n g. sym (ap given (option_there e q (name_stands s at p n g h).1).1) }

-- so many of them
module _ (s : List ℕ) (at many left k : ℕ) (g : Scanning read_pattern_field fields_bind s many at left k) where
  pub fields_done : left ≤ 0 → FieldsBind s at many false
  unfolding fields_bind
  fields_done h = record { of = λ ps e. scan_done g h ps e }

  module _ (h : 0 < left) {b : Bool} (o : FieldBinds s k b) where
    pub fields_hit : b ≡ true → FieldsBind s at many true
    unfolding fields_bind pick
    fields_hit q = record {
      of = λ ps e.
          let u = scan_turn g h ps e in
          rw (sym (o.of u.head u.end u.here) ∙ q) at u.same;
    }

    pub fields_miss : {k' : ℕ} → b ≡ false → Past s k k' → Scanning read_pattern_field fields_bind s many at (left - 1) k'
    unfolding fields_bind pick
    fields_miss q p = scan_next g h (λ x n i. p.is ∙ after_is pattern_field_laws s p.each k x n i) λ x n i rest. rw (sym (o.of x n i) ∙ q)

-- a variant that may be absent
binds_fields : (v : PatternVariant) → fields_bind (given_fields v) ≡ variant_binds (some v)
unfolding given_fields variant_binds fields_bind
binds_fields (pattern.unit n) = refl
binds_fields (pattern.struct n ps) = refl

module _ (s : List ℕ) (at : ℕ) {b : Bool} (e : b ≡ eqb (get_or s at 0) 246) where
  pub variant_absent : b ≡ true → VariantBinds s at false
  unfolding variant_binds
  variant_absent q = record { of = λ v n g. sym (ap variant_binds (option_null e q (option_at read_pattern_variant s at v n g))) }

  pub variant_there : {f : Entries} {r : Bool} → b ≡ false → FieldsAt s at f → FieldsBind s f.first f.many r → VariantBinds s at r
  variant_there q h o = record {
    of = λ v n g.
        let x = option_there e q (option_at read_pattern_variant s at v n g) in
        o.of (given_fields x.0) (h.given x.0 n x.2) ∙ binds_fields x.0 ∙ ap variant_binds (sym x.1);
  }

-- a pattern
module _ (s : List ℕ) (at : ℕ) {k m : ℕ} {b : Bool} (h : k ≡ after_head s at) (o : Past s k m) (e : VariantBinds s m b) where
  group_test : (p : Pattern) (n : ℕ) → read_pattern s at ≡ ok p n → b ≡ variant_binds p.variant
  group_test p n g = e.of p.variant n (pattern_variant s at p n g h o)

  pub group_binds : b ≡ true → ChecksGroup s at (Err BindingInFormula)
  unfolding check_pattern_group unfit_of cause_of pick
  group_binds q = record { of = λ p n g. rw (sym (group_test p n g) ∙ q) }

  pub group_fine : b ≡ false → ChecksGroup s at (Ok tt)
  unfolding check_pattern_group unfit_of pick
  group_fine q = record { of = λ p n g. rw (sym (group_test p n g) ∙ q) }

-- an expression that has to be a bool
module _ (env : Env) (d : ℕ) (s : List ℕ) (at : ℕ) {t : Typed} (h : Types env d s at t) where
  pub bool_fails : {c : Cause} → t ≡ Err c → TypesBool env d s at (Err c)
  unfolding type_formula bool_cause unfit_of
  bool_fails q = record { of = λ e n g. rw (is_failed env d s at h e n g q) }

  module _ {τ : Ty} {m : ℕ} {b : Bool} (q : t ≡ Ok (τ, m)) (f : b ≡ is_bool (ty_of s τ)) where
    pub bool_fine : b ≡ true → TypesBool env d s at (Ok tt)
    unfolding type_formula bool_cause unfit_of must_bool pick
    bool_fine z = record { of = λ e n g. rw ((is_typed env d s at h e n g q).0, sym f ∙ z) }

    pub bool_other : b ≡ false → TypesBool env d s at (Err (MustBeBool what.Formula τ))
    unfolding type_formula bool_cause unfit_of must_bool pick cause_of
    bool_other z = record { of = λ e n g. rw ((is_typed env d s at h e n g q).0, sym f ∙ z) }

-- the cause of each shape
module _ (env : Env) where
  abbrev type_shape : Shape → Option causes.Cause
  type_shape (input p) = check_pattern_group p
  type_shape output = none
  type_shape (expression e) = type_formula env (formula.expr e)
  type_shape (one f) = type_formula env f
  type_shape (always b f) = type_formula env f
  type_shape (sometime b f) = type_formula env f
  type_shape (two f g) = first_of (type_formula env f) (type_formula env g)

  type_shape_lem : (f : Formula) → type_formula env f ≡ type_shape (shape f)
  unfolding type_formula shape
  type_shape_lem (formula.input_is p) = refl
  type_shape_lem (formula.output_has p) = refl
  type_shape_lem (formula.expr e) = refl
  type_shape_lem (formula.not f) = refl
  type_shape_lem (formula.and f g) = refl
  type_shape_lem (formula.or f g) = refl
  type_shape_lem (formula.implies f g) = refl
  type_shape_lem (formula.next f) = refl
  type_shape_lem (formula.always f) = refl
  type_shape_lem (formula.bounded_always b f) = refl
  type_shape_lem (formula.bounded_eventually b f) = refl
  type_shape_lem (formula.eventually f) = refl
  type_shape_lem (formula.until f g) = refl

module _ (env : Env) (d : ℕ) (s : List ℕ) (at : ℕ) (r : Fit) where
  pub formula_deep : d ≡ 0 → TypesFormula env d s at r
  unfolding read_formula
  formula_deep z = record { of = λ e n q. let w = rw z at q in no (cc) }

  pub formula_no_tag : {a : Result (Tag × Cursor) Refusal} {f : Refusal} → (d ≡ 0 → ⊥) → a ≡ answer (read_tag s at) → a ≡ Err f → TypesFormula env d s at r
  formula_no_tag z e q = record {
    of = λ x n g.
        let k : d ≡ suc (d - 1) = omega arith in
        let v = formula_at (d - 1) s at x n (ap (λ (i : ℕ). read_formula i s at) (sym k) ∙ g) in
        let u = v.tagged in
        let w = out _ e q in
        no (cc);
  }

module _ (env : Env) (d : ℕ) (s : List ℕ) (at : ℕ) {a : Result (Tag × Cursor) Refusal} {t : Tag} {c : Cursor} {q : Kind} (z : d ≡ 0 → ⊥) (e : a ≡ answer (read_tag s at)) (w : a ≡ Ok (t, c)) (u : q ≡ kind_of t.case) where
  pub formula_output : q ≡ Output → TypesFormula env d s at (Ok tt)
  unfolding unfit_of
  formula_output v = record { of = λ f n g. let x = formula_fields d s at Output z e w u v f n g in sym (type_shape_lem env f ∙ ap (type_shape env) x) }

  module _ (r : Fit) where
    pub formula_unknown : q ≡ Unknown → TypesFormula env d s at r
    formula_unknown v = record { of = λ f n g. absurd (formula_fields d s at Unknown z e w u v f n g) }

    pub formula_input : q ≡ Input → ChecksGroup s c.at r → TypesFormula env d s at r
    formula_input v h = record { of = λ f n g. let x = formula_fields d s at Input z e w u v f n g in h.of _ _ x.2 ∙ sym (type_shape_lem env f ∙ ap (type_shape env) x.1) }

    pub formula_expression : q ≡ Expression → TypesBool env (d - 1) s c.at r → TypesFormula env d s at r
    formula_expression v h = record { of = λ f n g. let x = formula_fields d s at Expression z e w u v f n g in h.of _ _ x.2 ∙ sym (type_shape_lem env f ∙ ap (type_shape env) x.1) }

    pub formula_one : q ≡ One → TypesFormula env (d - 1) s c.at r → TypesFormula env d s at r
    formula_one v h = record { of = λ f n g. let x = formula_fields d s at One z e w u v f n g in h.of _ _ x.2 ∙ sym (type_shape_lem env f ∙ ap (type_shape env) x.1) }

    pub formula_always : q ≡ Always → TypesBounded env (d - 1) s c.at r → TypesFormula env d s at r
    formula_always v h = record { of = λ f n g. let x = formula_fields d s at Always z e w u v f n g in h.of _ _ _ _ x.4 x.5 ∙ sym (type_shape_lem env f ∙ ap (type_shape env) x.3) }

    pub formula_sometime : q ≡ Sometime → TypesBounded env (d - 1) s c.at r → TypesFormula env d s at r
    formula_sometime v h = record { of = λ f n g. let x = formula_fields d s at Sometime z e w u v f n g in h.of _ _ _ _ x.4 x.5 ∙ sym (type_shape_lem env f ∙ ap (type_shape env) x.3) }

    pub formula_two : q ≡ Two → TypesTwo env (d - 1) s c.at r → TypesFormula env d s at r
    formula_two v h = record { of = λ f n g. let x = formula_fields d s at Two z e w u v f n g in h.of _ _ _ _ x.4 x.5 ∙ sym (type_shape_lem env f ∙ ap (type_shape env) x.3) }

-- a bound and a formula, and two formulas
module _ (env : Env) (d : ℕ) (s : List ℕ) (at : ℕ) {a : Result (ℕ × Cursor) Refusal} (e : a ≡ answer (read_number max_u64 s at)) where
  pub bounded_none : (r : Fit) {f : Refusal} → a ≡ Err f → TypesBounded env d s at r
  bounded_none r q = record { of = λ b k f n u v. no (let w = out _ e q in cc) }

  pub bounded_goes : (r : Fit) {b : ℕ} {c : Cursor} → a ≡ Ok (b, c) → TypesFormula env d s c.at r → TypesBounded env d s at r
  bounded_goes r {b} {c} q g = record {
    of = λ x k f n u v.
        let w = got _ e q in
        let i : c.at ≡ k = cc in
        g.of f n (ap (read_formula d s) i ∙ v);
  }

module _ (env : Env) (d : ℕ) (s : List ℕ) (at : ℕ) {x : Fit} (h : TypesFormula env d s at x) where
  pub two_fails : {c : Cause} {r : Fit} → x ≡ Err c → r ≡ Err c → TypesTwo env d s at r
  unfolding first_of unfit_of
  two_fails q e = record { of = λ f k g n u v. rw (e, sym (h.of f k u) ∙ ap (unfit_of s) q) }

  pub two_goes : {y : Fit} {k : ℕ} → x ≡ Ok tt → Ends (read_formula d s at) k → TypesFormula env d s k y → TypesTwo env d s at y
  unfolding first_of unfit_of
  two_goes q w g = record { of = λ f k' g' n u v. rw (sym (h.of f k' u) ∙ ap (unfit_of s) q) (g.of g' n (ap (read_formula d s) (w.of f k' u) ∙ v)) }

-- past the end there is no null
pub no_null : (s : List ℕ) (at : ℕ) → length s ≤ at → false ≡ eqb (get_or s at 0) 246
no_null s at h = rw (get_or-eq_default s 0 {n = at} h)
