-- What each step of the judging of a guard gives, for whatever reads there.
use Rattle.std.specs.Prelude.{Option, Some, None, Ok, Err, Result}
use Prim.Native.Nat.{ℕ, ◌-◌, ◌<◌}
use mathlib.Core.Path.{◌≡◌, refl, sym, ap, ◌∙◌}
use mathlib.Core.Bool.{Bool, true, false}
use mathlib.Core.List.{List, ◌++◌}
use native.Mathlib.Omega.{arith}
use lib.Dec.{eqb, ltb}
use borrow.Author.Tests.{eq-eqb, ne_eqb, le-ltb, ltb-true}
use Rattle.reading.specs.Read.{ok, pick}
use Rattle.reading.specs.Item.{read_kind, read_bool}
use Rattle.reading.specs.Text.{Name}
use Rattle.reading.specs.Expr.{Expr, read_expr}
use Rattle.reading.specs.Expr as expr
use Rattle.reading.specs.Skip.{text_at}
use Rattle.reading.specs.Link.{answer}
use Rattle.reading.specs.Views.{ExprAt, int_expr, bool_expr, path_expr, unary_expr, binary_expr}
use Rattle.reading.specs.declared.cursor.Cursor.{Cursor}
use Rattle.reading.proofs.Rules.{no}
use Rattle.reading.proofs.Gives.{Gives, gives_ok, gives_refused, gives_pick, gives_bind}
use Rattle.reading.proofs.Answers.{got, out}
use Rattle.typing.specs.Causes.{first_of}
use Rattle.typing.specs.Guards.{is_literal_false, conjuncts, contradictory_equalities}
use Rattle.typing.specs.Holds.{clash_of, LiteralFalse, Contradicts}
use Rattle.typing.specs.Tells.{Ends}
use Rattle.typing.specs.Table.{place_after, after_tag}
use Rattle.typing.specs.Entries.{case_is, case_at}
use Rattle.typing.specs.Equalities.{listed, equalities_of, differs, first_clash, equality_of, FalseAt, ConjunctAt, FirstEquality, ClashOf, FirstClash, ClashOfTwo}
use Rattle.typing.specs.Seen.{Seen, placed, Answers, OnePass}
use Rattle.typing.specs.declared.seen.Stop.{Stop}
use Rattle.typing.specs.declared.seen.Stop.TheVariants as stop
use Rattle.typing.specs.declared.guard.Clash.{Clash}
use Rattle.typing.specs.declared.equality.Equality.{Equality}
use Rattle.typing.specs.declared.equality.Conjunct.{Conjunct}
use Rattle.typing.specs.declared.equality.Conjunct.TheVariants.{And, One}
use Rattle.typing.proofs.TableLaws.{first_none}
use Rattle.typing.proofs.ClashLaws.{clash_append, clashes_are}
use Rattle.typing.proofs.EqualityLaws.{deep_enough, stands, was_and, was_one}
-- the literal false: 20 in a head of major type 7
use Rattle.reading.specs.declared.fault.Refusal.{Refusal}

bool_head : (s : List ℕ) (at : ℕ) → Gives (λ b n. (v : ℕ) × (read_kind 7 s at ≡ ok v n) × (eqb v 20 ≡ is_literal_false (expr.bool b))) (read_bool s at)
unfolding read_bool is_literal_false
bool_head s at = gives_bind _ _ _ λ v n e. gives_pick _ _ _ _ (λ q. gives_ok _ false n (v, e, q)) (λ q. gives_pick _ _ _ _ (λ _. gives_ok _ true n (v, e, q)) (λ _. gives_refused _ _ _))

module _ (s : List ℕ) (at : ℕ) {a : Result (ℕ × Cursor) Refusal} (e : a ≡ answer (read_kind 7 s at)) where
  pub false_none : (r : Bool) {f : Refusal} → a ≡ Err f → FalseAt s at r
  false_none r q = record { of = λ b n g. let w = bool_head s at b n g in let x = w.1 in no (let y = out _ e q in cc) }

  pub false_is : {v : ℕ} {c : Cursor} (r : Bool) → a ≡ Ok (v, c) → r ≡ eqb v 20 → FalseAt s at r
  false_is {v} r q h = record {
    of = λ b n g.
        let w = bool_head s at b n g in
        let x = w.1 in
        let y = got _ e q in
        let z : v ≡ w.0 = cc in
        h ∙ ap (λ (i : ℕ). eqb i 20) z ∙ w.2;
  }

-- by the case of the expression: a bool has case 1
module _ (d : ℕ) (s : List ℕ) (at : ℕ) {b : Bool} (e : b ≡ case_at s at 1) where
  pub literal_other : b ≡ false → LiteralFalse d s at false
  unfolding case_is is_literal_false
  literal_other q = record { of = λ x n g. let v = stands d s at x n g in go v.fields (sym q ∙ e ∙ ap (case_is 1) v.tagged) }
    where
      go : {k m : ℕ} {x : Expr} {n : ℕ} → ExprAt (d - 1) s k m x n → false ≡ eqb m 1 → false ≡ is_literal_false x
      go (int_expr u) i = refl
      go (bool_expr u) i = no (cc)
      go (path_expr u) i = refl
      go (unary_expr u v) i = refl
      go (binary_expr u v w) i = refl

  pub literal_bool : {k : ℕ} (r : Bool) → b ≡ true → k ≡ after_tag s at → FalseAt s k r → LiteralFalse d s at r
  unfolding case_is place_after
  literal_bool r q j h = record {
    of = λ x n g.
        let v = stands d s at x n g in
        go v.fields (sym q ∙ e ∙ ap (case_is 1) v.tagged) (rw (j ∙ ap place_after v.tagged) at h);
  }
    where
      go : {k m : ℕ} {x : Expr} {n : ℕ} → ExprAt (d - 1) s k m x n → true ≡ eqb m 1 → FalseAt s k r → r ≡ is_literal_false x
      go (int_expr u) i o = no (cc)
      go (bool_expr u) i o = o.of _ _ u
      go (path_expr u) i o = no (cc)
      go (unary_expr u v) i o = no (cc)
      go (binary_expr u v w) i o = no (cc)

-- an equality against the first of its name
module _ (s : List ℕ) (root depth : ℕ) {q : Option Equality} where
  pub clash_nothing : q ≡ None → ClashOf s root depth q None
  unfolding first_clash listed equality_of clash_of
  clash_nothing e = record { of = λ g m u. rw e }

  module _ {p : Equality} {w : Name} {f : Option Equality} (e : q ≡ Some p) (t : w ≡ text_at s p.name) (h : FirstEquality depth s root w f) where
    one_clash : (g : Expr) (m : ℕ) → read_expr depth s root ≡ ok g m → first_clash (equalities_of g) (listed (equality_of s q)) ≡ differs (placed s p.name p.value) (equality_of s f)
    unfolding first_clash listed equality_of
    one_clash g m u = rw (e, sym t, sym (h.of g m u)) (first_none _)

    pub clash_absent : f ≡ None → ClashOf s root depth q None
    unfolding differs equality_of clash_of
    clash_absent z = record { of = λ g m u. rw (one_clash g m u, z) }

    module _ {r : Equality} (z : f ≡ Some r) where
      pub clash_same : r.value ≡ p.value → ClashOf s root depth q None
      unfolding differs equality_of clash_of pick
      clash_same i = record { of = λ g m u. rw (one_clash g m u, z, eq-eqb r.value p.value i) }

      pub clash_found : (r.value ≡ p.value → ⊥) → ClashOf s root depth q (Some (record { name = p.name; earlier = r.value; later = p.value }))
      unfolding differs equality_of clash_of pick
      clash_found i = record { of = λ g m u. rw (one_clash g m u, z, ne_eqb r.value p.value i) }

-- the first clash
module _ (d : ℕ) (s : List ℕ) (at root depth : ℕ) (r : Option Clash) where
  pub clash_deep : d ≡ 0 → FirstClash d s at root depth r
  clash_deep z = record { of = λ x n g m u v. absurd (deep_enough d s at x n u z) }

  module _ {c : Conjunct} (h : ConjunctAt d s at c) where
    pub clash_and : {k : ℕ} → c ≡ And k → ClashOfTwo (d - 1) s k root depth r → FirstClash d s at root depth r
    clash_and q f = record { of = λ x n g m u y. let v = was_and (h.of x n u) q in f.of v.0 v.1 v.2 v.3 g m v.4 v.5 y ∙ ap (first_clash (equalities_of g)) (sym v.6) }

    pub clash_one : {q : Option Equality} → c ≡ One q → ClashOf s root depth q r → FirstClash d s at root depth r
    clash_one q f = record { of = λ x n g m u y. f.of g m y ∙ ap (first_clash (equalities_of g)) (sym (was_one (h.of x n u) q)) }

module _ (d : ℕ) (s : List ℕ) (at root depth : ℕ) {right : ℕ} {x : Option Clash} (h : Ends (read_expr d s at) right) (f : FirstClash d s right root depth x) where
  clash_first : (a : Expr) (j : ℕ) (b : Expr) (n : ℕ) (g : Expr) (m : ℕ) → read_expr d s at ≡ ok a j → read_expr d s j ≡ ok b n → read_expr depth s root ≡ ok g m → first_clash (equalities_of g) (equalities_of b ++ equalities_of a) ≡ first_of (clash_of s x) (first_clash (equalities_of g) (equalities_of a))
  clash_first a j b n g m u v y = rw (clash_append (equalities_of g) (equalities_of b) (equalities_of a), f.of b n g m (ap (read_expr d s) (h.of a j u) ∙ v) y)

  pub clash_right : {c : Clash} → x ≡ Some c → ClashOfTwo d s at root depth x
  unfolding clash_of first_of
  clash_right q = record { of = λ a j b n g m u v y. rw (clash_first a j b n g m u v y, q) }

  pub clash_left : (r : Option Clash) → x ≡ None → FirstClash d s at root depth r → ClashOfTwo d s at root depth r
  unfolding clash_of first_of
  clash_left r q k = record { of = λ a j b n g m u v y. rw (clash_first a j b n g m u v y, q) (k.of a j g m u y) }

pub contradicts : (d : ℕ) (s : List ℕ) (at : ℕ) (r : Option Clash) → FirstClash d s at at d r → Contradicts d s at r
unfolding contradictory_equalities
contradicts d s at r h = record { of = λ e n g. h.of e n e n g g ∙ sym (clashes_are (conjuncts e)) }

-- by the one pass, where the guard is long
pub nothing_between : (at end : ℕ) → end < at → false ≡ ltb 511 (end - at)
nothing_between at end h = sym (le-ltb 511 (end - at) (omega arith))

pub long_less : (at end : ℕ) {b : Bool} {t : ℕ} → b ≡ ltb 511 (end - at) → b ≡ true → end - at ≡ t → at - at < t
long_less at end e q z = let l = ltb-true 511 (end - at) (sym e ∙ q) in omega (arith, l)

module _ (d : ℕ) (s : List ℕ) (at : ℕ) {x : Seen} (h : OnePass d s at x) where
  pub pass_none : {m : ℕ} → x ≡ Ok m → Contradicts d s at None
  unfolding Answers clash_of
  pass_none q = record { of = λ e n g. sym (rw q at (h.of e n g)) }

  pub pass_clash : {y : Stop} {c : Clash} → x ≡ Err y → y ≡ stop.Clash c → Contradicts d s at (Some c)
  unfolding Answers clash_of
  pass_clash {y} {c} q i = record { of = λ e n g. let z : x ≡ Err (stop.Clash c) = q ∙ ap Err i in sym (rw z at (h.of e n g)) }
