-- What each step of the judging of a pattern's field gives, for whatever reads there.
use Rattle.std.specs.Prelude.{Option, Some, None, Ok, Err, Result}
use Prim.Native.Nat.{ℕ, ◌<◌, ◌≤◌}
use mathlib.Core.Path.{◌≡◌, refl, sym, ap, ◌∙◌}
use mathlib.Core.Bool.{Bool, true, false}
use mathlib.Core.List.{List, [], ◌∷◌}
use mathlib.Core.Option.{none, some}
use native.Mathlib.Omega.{arith}
use lib.ListN.{length}
use Rattle.reading.specs.Read.{ok, pick}
use Rattle.reading.specs.Limits.{max_u64, max_path}
use Rattle.reading.specs.Item.{read_number, read_count, read_tag}
use Rattle.reading.specs.Text.{Name, read_name}
use Rattle.reading.specs.Expr.{read_path}
use Rattle.reading.specs.Combine.{entries}
use Rattle.reading.specs.Decl.{Ty, read_ty}
use Rattle.reading.specs.Decl as decl
use Rattle.reading.specs.Pattern.{PatternExpr}
use Rattle.reading.specs.Pattern as pattern
use Rattle.reading.specs.Skip.{text_at}
use Rattle.reading.specs.Link.{answer}
use Rattle.reading.specs.Views.{TyAt, bool_ty, bit_ty, enum_ty, PatternExprAt, wildcard_pattern, bind_pattern, int_pattern, bool_pattern, path_pattern}
use Rattle.reading.specs.declared.cursor.Cursor.{Cursor}
use Rattle.reading.specs.declared.item.Tag.{Tag}
use Rattle.reading.proofs.Rules.{no}
use Rattle.reading.proofs.Answers.{got, out}
use Rattle.reading.proofs.CaseViews.{ty_at, pattern_expr_at, by_tag}
use Rattle.reading.proofs.ListViews.{list_at}
use Rattle.reading.proofs.Walks.{name_text}
use Rattle.typing.specs.Types.{type_to_expr_type}
use Rattle.typing.specs.Causes.{variant_path, variant_on_non_enum}
use Rattle.typing.specs.Names.{eq_name}
use Rattle.typing.specs.Patterns.{fits, variant_of, pattern_expr_compatible}
use Rattle.typing.specs.Means.{ty_of, cause_of, names_of, unfit_of, Fit}
use Rattle.typing.specs.Table.{expr_type_at}
use Rattle.typing.specs.Accepts.{int_on, bool_on, enum_name, name_found, EnumOf, VariantOf, AcceptsInt, AcceptsPath, Accepts}
use Rattle.typing.specs.declared.ty.Ty.{Ty as CodeTy}
use Rattle.typing.specs.declared.ty.Ty.TheVariants as ty
use Rattle.typing.specs.declared.cause.Cause.TheVariants.{IntegerOnBool, IntegerOnEnum, DoesNotFit, VariantOnNonEnum, VariantPath}
use Rattle.typing.proofs.EnvLaws.{entry, type_is}
-- an integer literal
use Rattle.reading.specs.declared.fault.Refusal.{Refusal}

module _ (s : List ℕ) (at : ℕ) (τ : CodeTy) {a : Result (ℕ × Cursor) Refusal} (e : a ≡ answer (read_number max_u64 s at)) where
  pub int_none : (r : Fit) {f : Refusal} → a ≡ Err f → AcceptsInt s at (ty_of s τ) r
  int_none r q = record { of = λ v n g. no (let w = out _ e q in cc) }

  module _ {v : ℕ} {c : Cursor} (q : a ≡ Ok (v, c)) where
    int_is : {r : Fit} → unfit_of s r ≡ int_on v (ty_of s τ) → AcceptsInt s at (ty_of s τ) r
    int_is h = record { of = λ x n g. let w = got _ e q in let y : v ≡ x = cc in h ∙ ap (λ (z : ℕ). int_on z (ty_of s τ)) y }

    pub int_bool : τ ≡ ty.Bool → AcceptsInt s at (ty_of s τ) (Err IntegerOnBool)
    unfolding int_on ty_of unfit_of cause_of
    int_bool k = int_is (rw k)

    pub int_literal : τ ≡ ty.IntLit → AcceptsInt s at (ty_of s τ) (Err IntegerOnBool)
    unfolding int_on ty_of unfit_of cause_of
    int_literal k = int_is (rw k)

    pub int_state : τ ≡ ty.State → AcceptsInt s at (ty_of s τ) (Err IntegerOnEnum)
    unfolding int_on ty_of unfit_of cause_of
    int_state k = int_is (rw k)

    pub int_enum : {p : ℕ} → τ ≡ ty.Enum p → AcceptsInt s at (ty_of s τ) (Err IntegerOnEnum)
    unfolding int_on ty_of unfit_of cause_of
    int_enum k = int_is (rw k)

    module _ {w : ℕ} {b : Bool} (k : τ ≡ ty.Bit w) (f : b ≡ fits v w) where
      pub int_fits : b ≡ true → AcceptsInt s at (ty_of s τ) (Ok tt)
      unfolding int_on ty_of unfit_of pick
      int_fits z = int_is (rw (k, sym f ∙ z))

      pub int_wide : b ≡ false → AcceptsInt s at (ty_of s τ) (Err (DoesNotFit v w))
      unfolding int_on ty_of unfit_of pick cause_of
      int_wide z = int_is (rw (k, sym f ∙ z))

-- a path's first name
module _ (s : List ℕ) (at : ℕ) (w : Name) {a : Result (ℕ × Cursor) Refusal} (e : a ≡ answer (read_count max_path s at)) where
  pub segments_none : (r : Bool) {f : Refusal} → a ≡ Err f → VariantOf s at w r
  unfolding read_path
  segments_none r q = record { of = λ p n g. let l = list_at read_name s max_path at p n g in no (let x = out _ e q in let y = l.opens in cc) }

  module _ {m : ℕ} {c : Cursor} (q : a ≡ Ok (m, c)) where
    pub segments_few : m < 2 → VariantOf s at w false
    unfolding read_path variant_of
    segments_few h = record {
      of = λ p n g.
          let l = list_at read_name s max_path at p n g in
          let x = got _ e q in
          let y = l.opens in
          let u : length p ≡ m = cc in
          go p u;
    }
      where
        go : (p : List Name) → length p ≡ m → false ≡ variant_of p w
        go [] i = refl
        go (x ∷ []) i = refl
        go (x ∷ (y ∷ ys)) i = absurd (omega arith)

    pub segments_first : {b : Bool} {key : Name} → 2 ≤ m → b ≡ eq_name key w → key ≡ text_at s c.at → VariantOf s at w b
    unfolding read_path variant_of
    segments_first {b} {key} h f t = record {
      of = λ p n g.
          let l = list_at read_name s max_path at p n g in
          let x = got _ e q in
          let y = l.opens in
          let u : length p ≡ m = cc in
          let v : l.first ≡ c.at = cc in
          go p n u (ap (entries (length p) read_name s) (sym v) ∙ l.entries_are);
    }
      where
        go : (p : List Name) (n : ℕ) → length p ≡ m → entries (length p) read_name s c.at ≡ ok p n → b ≡ variant_of p w
        go [] n i r = absurd (omega arith)
        go (x ∷ []) n i r = absurd (omega arith)
        go (x ∷ (y ∷ ys)) n i r =
            let u = entry read_name s c.at x (y ∷ ys) n r in
            let k : key ≡ x = t ∙ name_text s c.at x u.end u.here in
            f ∙ ap (λ (z : Name). eq_name z w) k

-- the enum that is declared
module _ (s : List ℕ) (at : ℕ) {a : Result (Tag × Cursor) Refusal} (e : a ≡ answer (read_tag s at)) where
  pub enum_none : (r : Option ℕ) {f : Refusal} → a ≡ Err f → EnumOf s at r
  enum_none r q = record { of = λ t n g. let v = ty_at s at t n g in let u = v.tagged in let w = out _ e q in no (cc) }

  module _ {t : Tag} {c : Cursor} (q : a ≡ Ok (t, c)) where
    pub enum_not : t.case < 2 → EnumOf s at None
    unfolding enum_name name_found
    enum_not k = record { of = λ x n g. go (by_tag (ty_at s at x n g) (got _ e q)) k }
      where
        go : {m : ℕ} {x : Ty} {n : ℕ} → TyAt s c.at m x n → m < 2 → none ≡ enum_name x
        go bool_ty i = refl
        go (bit_ty r) i = refl
        go (enum_ty r) i = absurd (omega arith)

    pub enum_is : (t.case ≡ 0 → ⊥) → (t.case ≡ 1 → ⊥) → EnumOf s at (Some c.at)
    unfolding enum_name name_found
    enum_is k l = record { of = λ x n g. go (by_tag (ty_at s at x n g) (got _ e q)) k l }
      where
        go : {m : ℕ} {x : Ty} {n : ℕ} → TyAt s c.at m x n → (m ≡ 0 → ⊥) → (m ≡ 1 → ⊥) → some (text_at s c.at) ≡ enum_name x
        go bool_ty i j = absurd (i refl)
        go (bit_ty r) i j = absurd (j refl)
        go (enum_ty r) i j = ap some (name_text s c.at _ _ r)

    pub enum_bool : t.case ≡ 0 → EnumOf s at None
    enum_bool k = enum_not (omega arith)

    pub enum_bit : t.case ≡ 1 → EnumOf s at None
    enum_bit k = enum_not (omega arith)

-- a path on a type
path_on : (p : List Name) (t : Ty) → enum_name t ≡ none → pattern_expr_compatible (pattern.enum_variant p) t ≡ some variant_on_non_enum
unfolding enum_name pattern_expr_compatible
path_on p decl.bool e = refl
path_on p (decl.bit w) e = refl
path_on p (decl.enum n) e = no (cc)

path_enum : (p : List Name) (t : Ty) (w : Name) → enum_name t ≡ some w → pattern_expr_compatible (pattern.enum_variant p) t ≡ pick (variant_of p w) none (some (variant_path p w))
unfolding enum_name pattern_expr_compatible
path_enum p decl.bool w e = no (cc)
path_enum p (decl.bit v) w e = no (cc)
path_enum p (decl.enum n) w e = let q : n ≡ w = cc in rw q

module _ (s : List ℕ) (at ty : ℕ) {f : Option ℕ} (e : EnumOf s ty f) where
  pub path_non_enum : f ≡ None → AcceptsPath s at ty (Err VariantOnNonEnum)
  unfolding unfit_of cause_of name_found
  path_non_enum q = record { of = λ p n t m g h. sym (path_on p t (sym (e.of t m h) ∙ ap (name_found s) q)) }

  module _ {k : ℕ} {w : Name} {b : Bool} (q : f ≡ Some k) (u : w ≡ text_at s k) (v : VariantOf s at w b) where
    pub path_fine : b ≡ true → AcceptsPath s at ty (Ok tt)
    unfolding unfit_of name_found pick
    path_fine z = record {
      of = λ p n t m g h.
          rw (path_enum p t w (sym (e.of t m h) ∙ ap (name_found s) q ∙ ap some (sym u)), sym (v.of p n g) ∙ z);
    }

    pub path_other : b ≡ false → AcceptsPath s at ty (Err (VariantPath at k))
    unfolding unfit_of name_found pick cause_of names_of
    path_other z = record {
      of = λ p n t m g h.
          rw (path_enum p t w (sym (e.of t m h) ∙ ap (name_found s) q ∙ ap some (sym u)), sym (v.of p n g) ∙ z, g, u);
    }

-- literals by the type alone
int_on_lem : (v : ℕ) (t : Ty) → pattern_expr_compatible (pattern.int v) t ≡ int_on v (type_to_expr_type t)
unfolding pattern_expr_compatible int_on type_to_expr_type
int_on_lem v decl.bool = refl
int_on_lem v (decl.bit w) = refl
int_on_lem v (decl.enum n) = refl

bool_on_lem : (b : Bool) (t : Ty) → pattern_expr_compatible (pattern.bool b) t ≡ bool_on (type_to_expr_type t)
unfolding pattern_expr_compatible bool_on type_to_expr_type
bool_on_lem b decl.bool = refl
bool_on_lem b (decl.bit w) = refl
bool_on_lem b (decl.enum n) = refl

-- the pattern of a field
module _ (s : List ℕ) (at ty : ℕ) {a : Result (Tag × Cursor) Refusal} (e : a ≡ answer (read_tag s at)) where
  pub accepts_none : (r : Fit) {f : Refusal} → a ≡ Err f → Accepts s at ty r
  accepts_none r q = record { of = λ x n t m g h. let v = pattern_expr_at s at x n g in let u = v.tagged in let w = out _ e q in no (cc) }

  module _ {t : Tag} {c : Cursor} (q : a ≡ Ok (t, c)) where
    by_case : {r : Fit} → ((x : PatternExpr) (n : ℕ) → PatternExprAt s c.at t.case x n → (y : Ty) (m : ℕ) → read_ty s ty ≡ ok y m → unfit_of s r ≡ pattern_expr_compatible x y) → Accepts s at ty r
    by_case h = record { of = λ x n y m g i. h x n (by_tag (pattern_expr_at s at x n g) (got _ e q)) y m i }

    pub accepts_wildcard : t.case ≡ 0 → Accepts s at ty (Ok tt)
    unfolding unfit_of pattern_expr_compatible
    accepts_wildcard k = by_case λ x n y z m i. go y k z
      where
        go : {m : ℕ} {x : PatternExpr} {n : ℕ} → PatternExprAt s c.at m x n → m ≡ 0 → (y : Ty) → none ≡ pattern_expr_compatible x y
        go wildcard_pattern i y = refl
        go (bind_pattern u) i y = refl
        go (int_pattern u) i y = absurd (omega arith)
        go (bool_pattern u) i y = absurd (omega arith)
        go (path_pattern u) i y = absurd (omega arith)

    pub accepts_bind : t.case ≡ 1 → Accepts s at ty (Ok tt)
    unfolding unfit_of pattern_expr_compatible
    accepts_bind k = by_case λ x n y z m i. go y k z
      where
        go : {m : ℕ} {x : PatternExpr} {n : ℕ} → PatternExprAt s c.at m x n → m ≡ 1 → (y : Ty) → none ≡ pattern_expr_compatible x y
        go wildcard_pattern i y = refl
        go (bind_pattern u) i y = refl
        go (int_pattern u) i y = absurd (omega arith)
        go (bool_pattern u) i y = absurd (omega arith)
        go (path_pattern u) i y = absurd (omega arith)

    pub accepts_int : (τ : CodeTy) (r : Fit) → t.case ≡ 2 → ty_of s τ ≡ expr_type_at s ty → AcceptsInt s c.at (ty_of s τ) r → Accepts s at ty r
    accepts_int τ r k f h = by_case λ x n y z m i. go y k z (f ∙ type_is s ty z m i)
      where
        go : {m : ℕ} {x : PatternExpr} {n : ℕ} → PatternExprAt s c.at m x n → m ≡ 2 → (y : Ty) → ty_of s τ ≡ type_to_expr_type y → unfit_of s r ≡ pattern_expr_compatible x y
        go wildcard_pattern i y j = absurd (omega arith)
        go (bind_pattern u) i y j = absurd (omega arith)
        go (int_pattern {v} u) i y j = h.of _ _ u ∙ ap (int_on v) j ∙ sym (int_on_lem v y)
        go (bool_pattern u) i y j = absurd (omega arith)
        go (path_pattern u) i y j = absurd (omega arith)

    pub accepts_bool : (τ : CodeTy) (r : Fit) → t.case ≡ 3 → ty_of s τ ≡ expr_type_at s ty → unfit_of s r ≡ bool_on (ty_of s τ) → Accepts s at ty r
    accepts_bool τ r k f h = by_case λ x n y z m i. go y k z (f ∙ type_is s ty z m i)
      where
        go : {m : ℕ} {x : PatternExpr} {n : ℕ} → PatternExprAt s c.at m x n → m ≡ 3 → (y : Ty) → ty_of s τ ≡ type_to_expr_type y → unfit_of s r ≡ pattern_expr_compatible x y
        go wildcard_pattern i y j = absurd (omega arith)
        go (bind_pattern u) i y j = absurd (omega arith)
        go (int_pattern u) i y j = absurd (omega arith)
        go (bool_pattern {b} u) i y j = h ∙ ap bool_on j ∙ sym (bool_on_lem b y)
        go (path_pattern u) i y j = absurd (omega arith)

    pub accepts_path : (r : Fit) → t.case ≡ 4 → AcceptsPath s c.at ty r → Accepts s at ty r
    accepts_path r k h = by_case λ x n y z m i. go y k z m i
      where
        go : {l : ℕ} {x : PatternExpr} {n : ℕ} → PatternExprAt s c.at l x n → l ≡ 4 → (y : Ty) (m : ℕ) → read_ty s ty ≡ ok y m → unfit_of s r ≡ pattern_expr_compatible x y
        go wildcard_pattern i y m j = absurd (omega arith)
        go (bind_pattern u) i y m j = absurd (omega arith)
        go (int_pattern u) i y m j = absurd (omega arith)
        go (bool_pattern u) i y m j = absurd (omega arith)
        go (path_pattern u) i y m j = h.of _ _ y m u j

    pub accepts_beyond : (r : Fit) → 5 ≤ t.case → Accepts s at ty r
    accepts_beyond r k = by_case λ x n y z m i. go y k z
      where
        go : {m : ℕ} {x : PatternExpr} {n : ℕ} → PatternExprAt s c.at m x n → 5 ≤ m → (y : Ty) → unfit_of s r ≡ pattern_expr_compatible x y
        go wildcard_pattern i y = absurd (omega arith)
        go (bind_pattern u) i y = absurd (omega arith)
        go (int_pattern u) i y = absurd (omega arith)
        go (bool_pattern u) i y = absurd (omega arith)
        go (path_pattern u) i y = absurd (omega arith)
