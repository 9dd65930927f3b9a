-- A guard's clash is the first equality whose value differs from that of the first of its name: the list of those seen
-- has under each name what the equalities so far have.
use mathlib.Core.Path.{◌≡◌, refl, sym, ap, subst, ◌∙◌}
use mathlib.Core.Bool.{Bool, true, false}
use mathlib.Core.List.{List, [], ◌∷◌, ◌++◌, append_assoc}
use mathlib.Core.Option.{Option, none, some}
use lib.Dec.{eqb}
use borrow.Author.Tests.{eq-eqb}
use Rattle.reading.specs.Read.{pick}
use Rattle.reading.specs.Text.{Name}
use Rattle.reading.specs.Expr.{Expr}
use Rattle.typing.specs.Causes.{first_of}
use Rattle.typing.specs.Names.{eq_name, called, first_called}
use Rattle.typing.specs.Guards.{Equality, equality, against, judge_equality, clashes}
use Rattle.typing.specs.Equalities.{listed, equalities, name_in, differs, first_clash}
use Rattle.typing.proofs.NameLaws.{eq_name_refl, eq_name_eq}
use Rattle.typing.proofs.TableLaws.{first_first, first_none}

pub called_append : {A : Type 0} (name : A → Name) (w : Name) (xs ys : List A) → first_called name w (xs ++ ys) ≡ first_of (first_called name w xs) (first_called name w ys)
unfolding first_called first_of
called_append name w [] ys = refl
called_append name w (x ∷ xs) ys = rw (called_append name w xs ys) (sym (first_first (called name w x) (first_called name w xs) (first_called name w ys)))

pub equalities_append : (xs ys : List Expr) → equalities (xs ++ ys) ≡ equalities xs ++ equalities ys
unfolding equalities
equalities_append [] ys = refl
equalities_append (x ∷ xs) ys = rw (equalities_append xs ys) (sym (append_assoc (listed (equality x)) (equalities xs) (equalities ys)))

pub clash_append : (all xs ys : List Equality) → first_clash all (xs ++ ys) ≡ first_of (first_clash all xs) (first_clash all ys)
unfolding first_clash first_of
clash_append all [] ys = refl
clash_append all (x ∷ xs) ys = rw (clash_append all xs ys) (sym (first_first (differs x (first_called name_in x.name all)) (first_clash all xs) (first_clash all ys)))

-- one more, which is alone of its name or comes after the first
module _ (seen done : List Equality) (same : (w : Name) → first_called name_in w seen ≡ first_called name_in w done) (x : Equality) where
  new_seen : first_called name_in x.name seen ≡ none → (w : Name) → first_called name_in w (x ∷ seen) ≡ first_called name_in w (done ++ (x ∷ []))
  unfolding first_called called first_of pick
  new_seen e w = rw (called_append name_in w done (x ∷ []), sym (same w)) (go (eq_name x.name w) refl)
    where
      go : (t : Bool) → eq_name x.name w ≡ t → first_of (called name_in w x) (first_called name_in w seen) ≡ first_of (first_called name_in w seen) (first_called name_in w (x ∷ []))
      go true q = let u : first_called name_in w seen ≡ none = ap (λ (z : Name). first_called name_in z seen) (sym (eq_name_eq x.name w q)) ∙ e in rw (u, q)
      go false q = rw q (sym (first_none (first_called name_in w seen)))

  old_seen : {p : Equality} → first_called name_in x.name seen ≡ some p → (w : Name) → first_called name_in w seen ≡ first_called name_in w (done ++ (x ∷ []))
  unfolding first_called called first_of pick
  old_seen e w = rw (called_append name_in w done (x ∷ []), sym (same w)) (go (eq_name x.name w) refl)
    where
      go : (t : Bool) → eq_name x.name w ≡ t → first_called name_in w seen ≡ first_of (first_called name_in w seen) (first_called name_in w (x ∷ []))
      go true q = let u = ap (λ (z : Name). first_called name_in z seen) (sym (eq_name_eq x.name w q)) ∙ e in rw u
      go false q = rw q (sym (first_none (first_called name_in w seen)))

-- with those seen so far
abbrev Judged : List Expr → Type 0
Judged es = (seen done : List Equality) → ((w : Name) → first_called name_in w seen ≡ first_called name_in w done) → clashes seen es ≡ first_clash (done ++ equalities es) (equalities es)

module _ (es : List Expr) (rest : Judged es) (seen done : List Equality) (same : (w : Name) → first_called name_in w seen ≡ first_called name_in w done) (x : Equality) where
  first_seen : first_called name_in x.name (done ++ (x ∷ equalities es)) ≡ first_of (first_called name_in x.name seen) (some x)
  unfolding first_called called first_of pick
  first_seen = called_append name_in x.name done (x ∷ equalities es) ∙ rw (sym (same x.name), eq_name_refl x.name)

  after : done ++ (x ∷ equalities es) ≡ (done ++ (x ∷ [])) ++ equalities es
  after = sym (append_assoc done (x ∷ []) (equalities es))

  judged : (o : Option Equality) → first_called name_in x.name seen ≡ o → against (λ now. clashes now es) seen x o ≡ first_clash (done ++ (x ∷ equalities es)) (x ∷ equalities es)
  unfolding against first_clash differs first_of pick
  judged none e = rw (first_seen, e, eq-eqb x.value x.value refl) (subst (λ (z : List Equality). clashes (x ∷ seen) es ≡ first_clash z (equalities es)) (sym after) (rest (x ∷ seen) (done ++ (x ∷ [])) (new_seen seen done same x e)))
  judged (some p) e = rw (first_seen, e) (go (eqb p.value x.value) refl)
    where
      go : (t : Bool) → eqb p.value x.value ≡ t → against (λ now. clashes now es) seen x (some p) ≡ first_of (differs x (some p)) (first_clash (done ++ (x ∷ equalities es)) (equalities es))
      go true q = rw (q, after) (rest seen (done ++ (x ∷ [])) (old_seen seen done same x e))
      go false q = rw q

judged_all : (es : List Expr) → Judged es
unfolding clashes judge_equality first_clash equalities listed
judged_all [] seen done same = refl
judged_all (e ∷ es) seen done same = go (equality e) (judged_all es)
  where
    go : (o : Option Equality) → Judged es → judge_equality (λ now. clashes now es) seen o ≡ first_clash (done ++ (listed o ++ equalities es)) (listed o ++ equalities es)
    go none rest = rest seen done same
    go (some x) rest = judged es rest seen done same x (first_called name_in x.name seen) refl

pub clashes_are : (es : List Expr) → clashes [] es ≡ first_clash (equalities es) (equalities es)
clashes_are es = judged_all es [] [] (λ w. refl)
