-- What each step of the judging of one field of a pattern gives, for whatever reads there.
use Rattle.std.specs.Prelude.{Result, Ok, Err, ⊤}
use Prim.Native.Nat.{ℕ, suc, ◌+◌, ◌-◌, ◌<◌, ◌≤◌}
use mathlib.Core.Path.{◌≡◌, refl, sym, ap, ◌∙◌}
use mathlib.Core.Bool.{Bool, true, false}
use mathlib.Core.List.{List, [], ◌∷◌}
use mathlib.Core.Option.{Option, none, some}
use native.Mathlib.Omega.{arith}
use native.Mathlib.Numerals.{add-one}
use lib.ListN.{length, get_or, set, take}
use lib.Seq.{set_out, take-set-le}
use lib.Dec.{eqb}
use borrow.Author.Tests.{eq-eqb, ne_eqb}
use Rattle.reading.specs.Read.{ok, pick}
use Rattle.reading.specs.Text.{Name, read_name}
use Rattle.reading.specs.Decl.{FieldDecl, read_ty}
use Rattle.reading.specs.Pattern.{PatternField, read_pattern_expr, read_pattern_field}
use Rattle.reading.specs.Skip.{text_at}
use Rattle.reading.specs.Views.{OptionAt, absent, present}
use Rattle.reading.proofs.Rules.{no, pick_true, pick_false}
use Rattle.reading.proofs.Walks.{name_text}
use Rattle.typing.specs.Types.{type_to_expr_type}
use Rattle.typing.specs.Causes as causes
use Rattle.typing.specs.Causes.{field, blame}
use Rattle.typing.specs.Names.{eq_name, member}
use Rattle.typing.specs.Patterns.{pattern_expr_compatible, judged, bound, or_else, judge_field}
use Rattle.typing.specs.Means.{cause_of, unfit_of, within_of, blame_of, Fit}
use Rattle.typing.specs.Table.{after_item, after_head, expr_type_at}
use Rattle.typing.specs.Accepts.{Accepts}
use Rattle.typing.specs.Blames.{none_bound, more_bound, Binds}
use Rattle.typing.specs.Fields.{field_named, named_from, Known, unnamed, again, fresh, name_in, named_of, NamesField, FitsField, no_more, JudgesField}
use Rattle.typing.specs.declared.cause.Cause.{Cause}
use Rattle.typing.specs.declared.cause.Cause.TheVariants.{DuplicateBinding}
use Rattle.typing.specs.declared.cause.Within.TheVariants.{Alone, Field}
use Rattle.typing.specs.declared.cause.Blame.{Blame}
use Rattle.typing.specs.declared.field.Parts.{Parts}
use Rattle.typing.specs.declared.field.Naming.{Naming}
use Rattle.typing.specs.declared.field.Naming.TheVariants.{Unnamed, Again, Fresh}
use Rattle.typing.proofs.EnvLaws.{type_is}
use Rattle.typing.proofs.PartLaws.{option_null, option_there, name_stands}

-- whether a field has the name
module _ (s : List ℕ) (at : ℕ) (w : Name) {k : ℕ} {b : Bool} (h : k ≡ after_head s at) (e : b ≡ eqb (get_or s k 0) 246) where
  pub named_null : b ≡ true → false ≡ field_named s at w
  unfolding field_named pick
  named_null q = rw (sym h, sym e ∙ q)

  pub named_text : {t : Name} {r : Bool} → b ≡ false → t ≡ text_at s k → r ≡ eq_name t w → r ≡ field_named s at w
  unfolding field_named pick
  named_text q i f = rw (sym h, sym e ∙ q) (f ∙ ap (λ (z : Name). eq_name z w) i)

-- what is left of the fields passed decides
module _ (s : List ℕ) (at fields : ℕ) (w : Name) (k left : ℕ) (r : named_from left s k w ≡ named_from fields s at w) where
  pub named_none : left ≤ 0 → false ≡ named_from fields s at w
  unfolding named_from
  named_none h = let z : left ≡ 0 = omega arith in sym (ap (λ (l : ℕ). named_from l s k w) z) ∙ r

  module _ (h : 0 < left) {b : Bool} (e : b ≡ field_named s k w) where
    first_named : named_from fields s at w ≡ pick b true (named_from (left - 1) s (after_item s k) w)
    unfolding named_from
    first_named =
        let z : left ≡ suc (left - 1) = omega arith in
        sym r ∙ ap (λ (l : ℕ). named_from l s k w) z ∙ rw (sym e)

    pub named_hit : b ≡ true → true ≡ named_from fields s at w
    unfolding pick
    named_hit q = rw (first_named, q)

    pub named_miss : {k' : ℕ} → b ≡ false → k' ≡ after_item s k → named_from (left - 1) s k' w ≡ named_from fields s at w
    unfolding pick
    named_miss q g = rw (first_named, q, g)

-- a field's name, where it stands
abbrev pub is_named : Option Name → Name → Bool
is_named none w = false
is_named (some n) w = eq_name n w

pub field_named_is : (s : List ℕ) (at : ℕ) (w : Name) (x : PatternField) (n : ℕ) → read_pattern_field s at ≡ ok x n → field_named s at w ≡ is_named x.name w
unfolding field_named pick
field_named_is s at w x n g = go (name_stands s at x n g refl).1
  where
    go : {k : ℕ} {o : Option Name} {m : ℕ} → OptionAt read_name s k o m → pick (eqb (get_or s k 0) 246) false (eq_name (text_at s k) w) ≡ is_named o w
    go (absent q r) = rw (eq-eqb _ _ q)
    go {k} (present {x = y} {n = m} q r) = rw (ne_eqb _ _ q, name_text s k y m r)

module _ (s : List ℕ) (k first i : ℕ) {b : Bool} (e : b ≡ eqb (get_or s k 0) 246) where
  pub name_absent : b ≡ true → NamesField s k first i Unnamed
  unfolding named_of name_in
  name_absent q = record { of = λ o n seen g p. rw (option_null e q g) }

  module _ (q : b ≡ false) {t : Name} {r : Bool} (f : t ≡ text_at s k) (j : r ≡ named_from i s first t) where
    name_there : (seen : List Name) {o : Option Name} {m : ℕ} → Known s first i o seen → OptionAt read_name s k o m → pick r (again (text_at s k)) (fresh (text_at s k)) ≡ name_in seen o
    unfolding name_in
    name_there seen {m = m} p g =
        let y = option_there e q g in
        let z = name_text s k y.0 m y.2 in
        rw (y.1, z, j, f ∙ z, p.is y.0 y.1)

    pub name_again : r ≡ true → NamesField s k first i (Again k)
    unfolding named_of
    name_again z = record { of = λ o n seen g p. rw (z, pick_true) at (name_there seen p g) }

    pub name_fresh : r ≡ false → NamesField s k first i (Fresh k)
    unfolding named_of
    name_fresh z = record { of = λ o n seen g p. rw (z, pick_false) at (name_there seen p g) }

-- the pattern against the declared type
module _ (s : List ℕ) (at : ℕ) (decl : Parts) {fit : Fit} (e : Accepts s at decl.under fit) where
  pub fits_fine : fit ≡ Ok tt → FitsField s at decl (Ok tt)
  unfolding unfit_of blame_of blame
  fits_fine q = record { of = λ p n t m g i. rw (sym (e.of p n t m g i), q) }

  pub fits_not : {c : Cause} → fit ≡ Err c → FitsField s at decl (Err (record { within = Field decl.name; cause = c }))
  unfolding unfit_of blame_of blame within_of
  fits_not q = record { of = λ p n t m g i. rw (sym (e.of p n t m g i), q) }

-- a pair that is put into a table, and one past its end
pub pair_out : (table : List ℕ) (w a b : ℕ) → length table ≤ w → table ≡ set (set table w a) (w + 1) b
pair_out table w a b h =
    let i : length table ≤ w + 1 = omega arith in
    rw (set_out table w a h, set_out table (w + 1) b i)

pub pair_in : (table : List ℕ) (w a b : ℕ) {table' table'' : List ℕ} → table' ≡ set table w a → table'' ≡ set table' (w + 1) b → table'' ≡ set (set table w a) (w + 1) b
pair_in table w a b e q = q ∙ ap (λ (l : List ℕ). set l (w + 1) b) e

-- what a field makes by itself
or_else_none : (o : Option causes.Blame) → or_else o (judged none) ≡ judged o
unfolding or_else
or_else_none none = refl
or_else_none (some b) = refl

not_unnamed : (m : Bool) (w : Name) → unnamed ≡ pick m (again w) (fresh w) → ⊥
unfolding pick
not_unnamed true w e = no (cc)
not_unnamed false w e = no (cc)

-- a name that is one of those, and one that is not
is_again : {v : Name} (m : Bool) (w : Name) → again v ≡ pick m (again w) (fresh w) → (m ≡ true) × (v ≡ w)
unfolding pick
is_again true w e = (refl, cc)
is_again false w e = no (cc)

is_fresh : {v : Name} (m : Bool) (w : Name) → fresh v ≡ pick m (again w) (fresh w) → (m ≡ false) × (v ≡ w)
unfolding pick
is_fresh true w e = no (cc)
is_fresh false w e = (refl, cc)

module _ (s : List ℕ) (own decl : Parts) (first i : ℕ) {name : Naming} (table : List ℕ) (w : ℕ) (a : NamesField s own.name first i name) where
  fits_is : {b : Result ⊤ Blame} → FitsField s own.under decl b → (x : PatternField) (n : ℕ) (f : FieldDecl) (m : ℕ) → read_pattern_expr s own.under ≡ ok x.pattern n → text_at s decl.name ≡ f.name → read_ty s decl.under ≡ ok f.ty m → blame_of s b ≡ blame (field f.name) (pattern_expr_compatible x.pattern f.ty)
  fits_is e x n f m h l d = rw l at (e.of x.pattern n f.ty m h d)

  pub judge_unnamed : {b : Result ⊤ Blame} → name ≡ Unnamed → FitsField s own.under decl b → JudgesField s own decl first i table w (record { blame = b; words = 0 }) table
  unfolding named_of name_in judge_field
  judge_unnamed {b} q e = record {
    few = omega arith;
    kept = refl;
    of = λ x k n f m seen g h l d p. go seen x f x.name (sym (ap (named_of s) q) ∙ a.of x.name k seen g p) (fits_is e x n f m h l d);
  }
    where
      go : (seen : List Name) (x : PatternField) (f : FieldDecl) (o : Option Name) → unnamed ≡ name_in seen o → blame_of s b ≡ blame (field f.name) (pattern_expr_compatible x.pattern f.ty) → Binds s table w (judge_field no_more seen f x o) (record { blame = b; words = 0 }) table
      go seen x f none z i = rw or_else_none (record { fault = i; pairs = []; are = none_bound; many = refl; words = refl })
      go seen x f (some n) z i = absurd (not_unnamed (member n seen) n z)

  pub judge_again : {k : ℕ} → name ≡ Again k → JudgesField s own decl first i table w (record { blame = Err (record { within = Alone; cause = DuplicateBinding k }); words = 0 }) table
  unfolding named_of name_in judge_field pick blame_of within_of cause_of blame
  judge_again {k} q = record {
    few = omega arith;
    kept = refl;
    of = λ x l n f m seen g h o d p. go seen x f x.name (sym (ap (named_of s) q) ∙ a.of x.name l seen g p);
  }
    where
      go : (seen : List Name) (x : PatternField) (f : FieldDecl) (o : Option Name) → again (text_at s k) ≡ name_in seen o → Binds s table w (judge_field no_more seen f x o) (record { blame = Err (record { within = Alone; cause = DuplicateBinding k }); words = 0 }) table
      go seen x f none z = no (cc)
      go seen x f (some n) z =
          let a = is_again (member n seen) n z in
          rw a.0 (record { fault = rw a.1; pairs = []; are = none_bound; many = refl; words = refl })

  pub judge_fresh : {k : ℕ} {table' : List ℕ} {b : Result ⊤ Blame} → name ≡ Fresh k → table' ≡ set (set table w k) (w + 1) decl.under → FitsField s own.under decl b → JudgesField s own decl first i table w (record { blame = b; words = 2 }) table'
  unfolding named_of name_in judge_field pick bound
  judge_fresh {k} {table'} {b} q t e = record {
    few = omega arith;
    kept = ap (take w) t ∙ take-set-le w (set table w k) (w + 1) decl.under (omega arith) ∙ take-set-le w table w k (omega arith);
    of = λ x l n f m seen g h o d p.
        go seen x f x.name (sym (ap (named_of s) q) ∙ a.of x.name l seen g p) (fits_is e x n f m h o d) (type_is s decl.under f.ty m d);
  }
    where
      go : (seen : List Name) (x : PatternField) (f : FieldDecl) (o : Option Name) → fresh (text_at s k) ≡ name_in seen o → blame_of s b ≡ blame (field f.name) (pattern_expr_compatible x.pattern f.ty) → expr_type_at s decl.under ≡ type_to_expr_type f.ty → Binds s table w (judge_field no_more seen f x o) (record { blame = b; words = 2 }) table'
      go seen x f none z i y = no (cc)
      go seen x f (some n) z i y =
          let a = is_fresh (member n seen) n z in
          rw (a.0, or_else_none) (record { fault = i; pairs = k ∷ (decl.under ∷ []); are = more_bound a.1 y none_bound; many = refl; words = t ∙ rw (add-one w) })
