-- Marks of the variables whose names are mentioned: lists of names one after another, one name, an expression, and lists of the
-- document entry by entry.
use Prim.Native.Nat.{ℕ, suc, ◌+◌, ◌-◌, ◌*◌, ◌/◌, ◌<◌, ◌≤◌}
use mathlib.Core.Path.{◌≡◌, refl, sym, ap, subst, ◌∙◌}
use mathlib.Core.Logic.{◌⊎◌, inl, inr}
use mathlib.Core.Bool.{Bool, true, false, cond}
use mathlib.Core.List.{List, [], ◌∷◌, ◌++◌}
use native.Mathlib.Omega.{arith}
use lib.ListN.{length, get_or, set, length-set}
use lib.Seq.{get_or-set_same, get_or-set_other}
use lib.Dec.{eqb, ltb}
use borrow.Author.Tests.{eqb-true, eqb-false, ltb-true, ltb-false}
use Rattle.reading.specs.Read.{ok, pick}
use Rattle.reading.specs.Limits.{max_path}
use Rattle.reading.specs.Item.{read_case, read_count, read_tag}
use Rattle.reading.specs.Text.{Name, read_name}
use Rattle.reading.specs.Expr.{Expr, unary_ops, bin_ops, read_path, read_expr}
use Rattle.reading.specs.Combine.{entries}
use Rattle.reading.specs.Skip.{text_at}
use Rattle.reading.specs.Link.{answer}
use Rattle.reading.specs.Views.{ExprAt, int_expr, bool_expr, path_expr, unary_expr, binary_expr}
use Rattle.reading.specs.declared.cursor.Cursor.{Cursor}
use Rattle.reading.specs.declared.item.Tag.{Tag}
use Rattle.reading.proofs.Rules.{by, no}
use Rattle.reading.proofs.Answers.{got, out}
use Rattle.reading.proofs.ExprLaws.{name_laws, path_laws}
use Rattle.reading.proofs.CaseViews.{expr_at}
use Rattle.reading.proofs.ListViews.{list_at}
use Rattle.reading.proofs.Walks.{name_text}
use Rattle.typing.specs.Names.{eq_name, member}
use Rattle.typing.specs.Lanes.{lane_by, lane_of, key_of, Lanes}
use Rattle.typing.specs.Tells.{Ends}
use Rattle.typing.specs.Table.{Past}
use Rattle.typing.proofs.LaneLaws.{lane_small, lane_apart}
use Rattle.typing.proofs.EnvLaws.{entry, after_is}
use Rattle.typing.proofs.TypeLaws.{fields_are}
use Rattle.findings.specs.Mentions.{sole_name, collect_names}
use Rattle.findings.specs.Touch.{var_at, Touched, AllMarked, VarTouched, Touches, TouchesExpr, TouchesUnary, TouchesBinary}
-- a name of one list or of the other
use Rattle.std.specs.Prelude.{Result, Ok, Err}
use Rattle.reading.specs.declared.fault.Refusal.{Refusal}

member_append : (n : Name) (xs ys : List Name) → member n (xs ++ ys) ≡ pick (member n xs) true (member n ys)
unfolding member pick
member_append n [] ys = refl
member_append n (x ∷ xs) ys = rw (member_append n xs ys) (go (eq_name x n))
  where
    go : (b : Bool) → pick b true (pick (member n xs) true (member n ys)) ≡ pick (pick b true (member n xs)) true (member n ys)
    go true = refl
    go false = refl

cond_then : (a b : Bool) (x : ℕ) → cond b 1 (cond a 1 x) ≡ cond (pick a true b) 1 x
unfolding pick
cond_then true true x = refl
cond_then true false x = refl
cond_then false b x = refl

-- names mentioned one list after another
module _ (s names : List ℕ) where
  pub touched_none : (m : List ℕ) → Touched s names m [] m
  unfolding member
  touched_none m = record { size = refl; at = λ k h l. refl }

  pub touched_then : {m m' m'' : List ℕ} {xs ys : List Name} → Touched s names m xs m' → Touched s names m' ys m'' → Touched s names m (xs ++ ys) m''
  touched_then {m} {m'} {m''} {xs} {ys} p q = record {
    size = q.size ∙ p.size;
    at = λ k h l.
        let z = p.size in
        q.at k h (omega arith)
        ∙ ap (cond (member (var_at s names k) ys) 1) (p.at k h l)
        ∙ cond_then (member (var_at s names k) xs) (member (var_at s names k) ys) (get_or m k 0)
        ∙ ap (λ (b : Bool). cond b 1 (get_or m k 0)) (sym (member_append (var_at s names k) xs ys));
  }

  -- the same names, told otherwise
  pub touched_as : {m m' : List ℕ} {xs : List Name} (ys : List Name) → xs ≡ ys → Touched s names m xs m' → Touched s names m ys m'
  touched_as {m} {m'} ys e p = subst (λ (x : List Name). Touched s names m x m') e p

-- where every variable is marked, names mark nothing
cond_same : (b : Bool) (x : ℕ) → x ≡ 1 → x ≡ cond b 1 x
cond_same true x e = e
cond_same false x e = refl

pub touched_full : (s names m : List ℕ) (ns : List Name) → ((k : ℕ) → k < length names / 2 → get_or m k 0 ≡ 1) → Touched s names m ns m
touched_full s names m ns f = record { size = refl; at = λ k h l. cond_same (member (var_at s names k) ns) (get_or m k 0) (f k h) }

module _ (names m : List ℕ) where
  pub some_free : AllMarked names m false
  some_free = record { of = λ q. no (cc) }

  pub marked_start : (k : ℕ) → k < 0 → get_or m k 0 ≡ 1
  marked_start k h = absurd (omega arith)

  pub marked_more : {i : ℕ} → ((k : ℕ) → k < i → get_or m k 0 ≡ 1) → get_or m i 0 ≡ 1 → (k : ℕ) → k < i + 1 → get_or m k 0 ≡ 1
  marked_more {i} f e k h = go (eqb k i) refl
    where
      go : (b : Bool) → eqb k i ≡ b → get_or m k 0 ≡ 1
      go true q = ap (λ (j : ℕ). get_or m j 0) (eqb-true k i q) ∙ e
      go false q = let d = eqb-false k i q in f k (omega arith)

  pub all_marked : {i : ℕ} → ((k : ℕ) → k < i → get_or m k 0 ≡ 1) → length names / 2 ≤ i → AllMarked names m true
  all_marked f h = record { of = λ q k l. f k (omega arith) }

-- one variable
module _ (s : List ℕ) (key : ℕ) (w : Name) (k : ℕ) (m : List ℕ) where
  pub var_past : length m ≤ k → VarTouched s key w k m m
  var_past h = record { size = refl; here = λ l. absurd (omega arith); other = λ j e. refl }

  pub var_marked : get_or m k 0 ≡ 1 → VarTouched s key w k m m
  var_marked e = record { size = refl; here = λ l. cond_same (eq_name w (text_at s key)) (get_or m k 0) e; other = λ j e. refl }

  module _ {text : Name} {b : Bool} (t : text ≡ text_at s key) (e : b ≡ eq_name w text) where
    pub var_hit : k < length m → b ≡ true → VarTouched s key w k m (set m k 1)
    var_hit h q = record {
      size = length-set m k 1;
      here = λ l. get_or-set_same m k 1 0 l ∙ ap (λ (x : Bool). cond x 1 (get_or m k 0)) (sym q ∙ e ∙ ap (eq_name w) t);
      other = λ j d. get_or-set_other m k j 1 0 d;
    }

    pub var_miss : b ≡ false → VarTouched s key w k m m
    var_miss q = record {
      size = refl;
      here = λ l. ap (λ (x : Bool). cond x 1 (get_or m k 0)) (sym q ∙ e ∙ ap (eq_name w) t);
      other = λ j d. refl;
    }

-- the last of the numbers below the next one, or one before it
pub last_or_before : (j k : ℕ) → j < k + 1 → (j ≡ k) ⊎ (j < k)
last_or_before j k h = go (eqb j k) refl
  where
    go : (b : Bool) → eqb j k ≡ b → (j ≡ k) ⊎ (j < k)
    go true e = inl (eqb-true j k e)
    go false e = inr (let d = eqb-false j k e in omega arith)

-- one name: the walk along its lane has come to variable p - 1, those from p on are done, and those before keep their marks
module _ (s names : List ℕ) (n : Name) (m : List ℕ) where
  -- variable j is marked where it has the name
  abbrev pub Turned : List ℕ → ℕ → Type 0
  Turned m' j = get_or m' j 0 ≡ cond (eq_name n (var_at s names j)) 1 (get_or m j 0)

  pub record Touching (heads : List ℕ) (p : ℕ) (m' : List ℕ) : Type 0 where
    pub low : p ≤ length names / 2
    pub on : 0 < p → lane_of s names (key_of heads) (p - 1) ≡ lane_by (key_of heads) n
    pub size : length m' ≡ length m
    pub done : (j : ℕ) → p ≤ j → j < length names / 2 → j < length m → Turned m' j
    pub kept : (j : ℕ) → j < p → get_or m' j 0 ≡ get_or m j 0

  -- a variable of another lane
  apart : (key j : ℕ) → (lane_of s names key j ≡ lane_by key n → ⊥) → Turned m j
  apart key j d = ap (λ (b : Bool). cond b 1 (get_or m j 0)) (sym (lane_apart (lane_by key) n (var_at s names j) (λ q. absurd (d (sym q)))))

  module _ {heads links : List ℕ} (w : Lanes s names (length names / 2) heads links) where
    pub touching_start : {h : ℕ} → h ≡ lane_by (key_of heads) n → Touching heads (get_or heads h 0) m
    touching_start {h} e =
        let l : h < 1024 = omega (arith, lane_small (key_of heads) n) in
        record {
          low = w.woven.head_low h l;
          on = λ x. w.woven.head_on h l x ∙ e;
          size = refl;
          done = λ j a b c. apart (key_of heads) j (λ q. w.woven.head_last h j l b a (q ∙ sym e));
          kept = λ j a. refl;
        }

    module _ {p : ℕ} {m' : List ℕ} (g : Touching heads p m') (h : 0 < p) where
      before : p - 1 < length names / 2
      before = let z = g.low in omega arith

      pub touching_less : get_or links (p - 1) 0 < p
      touching_less = let z = w.woven.link_low (p - 1) before in omega arith

      -- between two variables of the lane there is none of the name
      between : (j : ℕ) → get_or links (p - 1) 0 ≤ j → j < p - 1 → Turned m' j
      between j a l = g.kept j (omega arith) ∙ apart (key_of heads) j (λ q. w.woven.link_last (p - 1) j before l a (q ∙ sym (g.on h)))

      pub touching_more : {m'' : List ℕ} → VarTouched s (get_or names (2 * (p - 1)) 0) n (p - 1) m' m'' → Touching heads (get_or links (p - 1) 0) m''
      touching_more {m''} v = record {
        low = let y = g.low in let z = touching_less in omega arith;
        on = λ x. w.woven.link_on (p - 1) before x ∙ g.on h;
        size = v.size ∙ g.size;
        done = λ j a b c.
            by (ltb j p)
            (λ q. let l = ltb-true j p q in passed j a c (last_or_before j (p - 1) (omega arith)))
            (λ q. let l = ltb-false j p q in v.other j (λ r. omega arith) ∙ g.done j l b c);
        kept = λ j a. let z = touching_less in v.other j (λ q. omega arith) ∙ g.kept j (omega arith);
      }
        where
          here : p - 1 < length m → Turned m'' (p - 1)
          here c = let z = g.size in v.here (omega arith) ∙ ap (cond (eq_name n (var_at s names (p - 1))) 1) (g.kept (p - 1) (omega arith))

          passed : (j : ℕ) → get_or links (p - 1) 0 ≤ j → j < length m → (j ≡ p - 1) ⊎ (j < p - 1) → Turned m'' j
          passed j a c (inl q) = rw q (here (omega arith))
          passed j a c (inr l) = v.other j (λ q. omega arith) ∙ between j a l

  pub touching_all : {heads : List ℕ} {p : ℕ} {m' : List ℕ} → Touching heads p m' → p ≤ 0 → Touched s names m (n ∷ []) m'
  unfolding member pick
  touching_all g h = record {
    size = g.size;
    at = λ j a l. g.done j (omega arith) a l ∙ ap (λ (b : Bool). cond b 1 (get_or m j 0)) (sole (eq_name n (var_at s names j)));
  }
    where
      sole : (b : Bool) → b ≡ pick b true false
      sole true = refl
      sole false = refl

-- a path
module _ (s : List ℕ) (at : ℕ) (names m : List ℕ) {a : Result (ℕ × Cursor) Refusal} (e : a ≡ answer (read_count max_path s at)) where
  pub path_refused : (r : ℕ) {f : Refusal} → a ≡ Err f → Touches read_path sole_name s at names m r m
  unfolding read_path
  path_refused r {f} q = record { end = λ x n g. none x n g; of = λ x n g. none x n g }
    where
      none : {P : Type 0} (x : List Name) (n : ℕ) → read_path s at ≡ ok x n → P
      none x n g = let l = list_at read_name s max_path at x n g in no (let u = out _ e q in let v = l.opens in cc)

  module _ {c : ℕ} {first : Cursor} (q : a ≡ Ok (c, first)) where
    pub path_long : {r : ℕ} → (c ≡ 1 → ⊥) → Past s at r → Touches read_path sole_name s at names m r m
    unfolding read_path sole_name
    path_long h p = record {
      end = λ x n g. p.is ∙ after_is path_laws s p.each at x n g;
      of = λ x n g. let l = list_at read_name s max_path at x n g in let u = got _ e q in let v = l.opens in go x (cc);
    }
      where
        go : (x : List Name) → length x ≡ c → Touched s names m (sole_name x) m
        go [] i = touched_none s names m
        go (w ∷ []) i = absurd (h (sym i))
        go (w ∷ (v ∷ ws)) i = touched_none s names m

    pub path_one : {text : Name} {r : ℕ} {m' : List ℕ} → c ≡ 1 → text ≡ text_at s first.at → Touched s names m (text ∷ []) m' → Past s first.at r → Touches read_path sole_name s at names m r m'
    unfolding read_path sole_name entries
    path_one {text} {r} {m'} z t g p = record {
      end = λ x n k. let l = list_at read_name s max_path at x n k in let u = got _ e q in let v = l.opens in (go x n (cc) (ap (entries (length x) read_name s) (cc) ∙ l.entries_are)).0;
      of = λ x n k. let l = list_at read_name s max_path at x n k in let u = got _ e q in let v = l.opens in (go x n (cc) (ap (entries (length x) read_name s) (cc) ∙ l.entries_are)).1;
    }
      where
        go : (x : List Name) (n : ℕ) → length x ≡ c → entries (length x) read_name s first.at ≡ ok x n → (r ≡ n) × Touched s names m (sole_name x) m'
        go [] n i k = absurd (omega arith)
        go (w ∷ []) n i k =
            let u = entry read_name s first.at w [] n k in
            let v = u.rest in
            let j : u.end ≡ n = cc in (
              p.is ∙ after_is name_laws s p.each first.at w u.end u.here ∙ j,
              touched_as s names (w ∷ []) (ap (λ (y : Name). y ∷ []) (t ∙ name_text s first.at w u.end u.here)) g,
            )
        go (w ∷ (v ∷ ws)) n i k = absurd (omega arith)

-- an expression: none stands there
module _ (d : ℕ) (s : List ℕ) (at : ℕ) (names m : List ℕ) (r : ℕ) (m' : List ℕ) where
  pub expr_deep : d ≡ 0 → TouchesExpr s at names m r m' d
  unfolding read_expr
  expr_deep z = record { end = λ x n q. none x n q; of = λ x n q. none x n q }
    where
      none : {P : Type 0} (x : Expr) (n : ℕ) → read_expr d s at ≡ ok x n → P
      none x n q = let w = rw z at q in no (cc)

  pub expr_no_tag : {a : Result (Tag × Cursor) Refusal} {f : Refusal} → (d ≡ 0 → ⊥) → a ≡ answer (read_tag s at) → a ≡ Err f → TouchesExpr s at names m r m' d
  expr_no_tag {a} {f} z e q = record { end = λ x n g. none x n g; of = λ x n g. none x n g }
    where
      none : {P : Type 0} (x : Expr) (n : ℕ) → read_expr d s at ≡ ok x n → P
      none x n g =
          let k : d ≡ suc (d - 1) = omega arith in
          let v = expr_at (d - 1) s at x n (ap (λ (i : ℕ). read_expr i s at) (sym k) ∙ g) in
          let u = v.tagged in
          let w = out _ e q in
          no (cc)

-- by the case
abbrev Goes : (s names m : List ℕ) (r : ℕ) (m' : List ℕ) → Expr → ℕ → Type 0
Goes s names m r m' e n = (r ≡ n) × Touched s names m (collect_names e) m'

module _ {d : ℕ} {s : List ℕ} {c : ℕ} (names m : List ℕ) (r : ℕ) (m' : List ℕ) where
  path_case : {k : ℕ} {e : Expr} {n : ℕ} → ExprAt d s c k e n → k ≡ 2 → Touches read_path sole_name s c names m r m' → Goes s names m r m' e n
  unfolding collect_names
  path_case (int_expr q) z h = absurd (omega arith)
  path_case (bool_expr q) z h = absurd (omega arith)
  path_case (path_expr q) z h = (h.end _ _ q, h.of _ _ q)
  path_case (unary_expr q t) z h = absurd (omega arith)
  path_case (binary_expr q t u) z h = absurd (omega arith)

  unary_case : {k : ℕ} {e : Expr} {n : ℕ} → ExprAt d s c k e n → k ≡ 3 → TouchesUnary s c names m r m' d → Goes s names m r m' e n
  unary_case (int_expr q) z h = absurd (omega arith)
  unary_case (bool_expr q) z h = absurd (omega arith)
  unary_case (path_expr q) z h = absurd (omega arith)
  unary_case (unary_expr q t) z h = (h.end _ _ _ _ q t, h.of _ _ _ _ q t)
  unary_case (binary_expr q t u) z h = absurd (omega arith)

  binary_case : {k : ℕ} {e : Expr} {n : ℕ} → ExprAt d s c k e n → k ≡ 4 → TouchesBinary s c names m r m' d → Goes s names m r m' e n
  binary_case (int_expr q) z h = absurd (omega arith)
  binary_case (bool_expr q) z h = absurd (omega arith)
  binary_case (path_expr q) z h = absurd (omega arith)
  binary_case (unary_expr q t) z h = absurd (omega arith)
  binary_case (binary_expr q t u) z h = (h.end _ _ _ _ _ _ q t u, h.of _ _ _ _ _ _ q t u)

literal_case : {d : ℕ} {s : List ℕ} {c : ℕ} {k : ℕ} {e : Expr} {n : ℕ} → ExprAt d s c k e n → k ≤ 1 → collect_names e ≡ []
unfolding collect_names
literal_case (int_expr q) z = refl
literal_case (bool_expr q) z = refl
literal_case (path_expr q) z = absurd (omega arith)
literal_case (unary_expr q t) z = absurd (omega arith)
literal_case (binary_expr q t u) z = absurd (omega arith)

beyond_case : {P : Type 0} {d : ℕ} {s : List ℕ} {c : ℕ} {k : ℕ} {e : Expr} {n : ℕ} → ExprAt d s c k e n → 5 ≤ k → P
beyond_case (int_expr q) z = absurd (omega arith)
beyond_case (bool_expr q) z = absurd (omega arith)
beyond_case (path_expr q) z = absurd (omega arith)
beyond_case (unary_expr q t) z = absurd (omega arith)
beyond_case (binary_expr q t u) z = absurd (omega arith)

-- the arms
module _ (d : ℕ) (s : List ℕ) (at : ℕ) (names m : List ℕ) {a : Result (Tag × Cursor) Refusal} {t : Tag} {c : Cursor} (z : d ≡ 0 → ⊥) (e : a ≡ answer (read_tag s at)) (q : a ≡ Ok (t, c)) where
  fields : (x : Expr) (n : ℕ) → read_expr d s at ≡ ok x n → ExprAt (d - 1) s c.at t.case x n
  fields = fields_are d s at e z q

  module _ {r : ℕ} (h : Ends (read_expr d s at) r) where
    pub arm_literal : t.case ≤ 1 → TouchesExpr s at names m r m d
    arm_literal k = record { end = h.of; of = λ x n w. touched_as s names (collect_names x) (sym (literal_case (fields x n w) k)) (touched_none s names m) }

  module _ (r : ℕ) (m' : List ℕ) where
    pub arm_path : t.case ≡ 2 → Touches read_path sole_name s c.at names m r m' → TouchesExpr s at names m r m' d
    arm_path k h = record { end = λ x n w. (path_case names m r m' (fields x n w) k h).0; of = λ x n w. (path_case names m r m' (fields x n w) k h).1 }

    pub arm_unary : t.case ≡ 3 → TouchesUnary s c.at names m r m' (d - 1) → TouchesExpr s at names m r m' d
    arm_unary k h = record { end = λ x n w. (unary_case names m r m' (fields x n w) k h).0; of = λ x n w. (unary_case names m r m' (fields x n w) k h).1 }

    pub arm_binary : t.case ≡ 4 → TouchesBinary s c.at names m r m' (d - 1) → TouchesExpr s at names m r m' d
    arm_binary k h = record { end = λ x n w. (binary_case names m r m' (fields x n w) k h).0; of = λ x n w. (binary_case names m r m' (fields x n w) k h).1 }

    pub arm_beyond : 5 ≤ t.case → TouchesExpr s at names m r m' d
    arm_beyond k = record { end = λ x n w. beyond_case (fields x n w) k; of = λ x n w. beyond_case (fields x n w) k }

-- the fields of a unary and of a binary expression
module _ (d : ℕ) (s : List ℕ) (at : ℕ) (names m : List ℕ) {a : Result (ℕ × Cursor) Refusal} (e : a ≡ answer (read_case unary_ops s at)) where
  pub unary_none : (r : ℕ) (m' : List ℕ) {f : Refusal} → a ≡ Err f → TouchesUnary s at names m r m' d
  unary_none r m' q = record { end = λ op k x n u v. no (let w = out _ e q in cc); of = λ op k x n u v. no (let w = out _ e q in cc) }

  pub unary_goes : {op : ℕ} {c : Cursor} (r : ℕ) (m' : List ℕ) → a ≡ Ok (op, c) → TouchesExpr s c.at names m r m' d → TouchesUnary s at names m r m' d
  unfolding collect_names
  unary_goes {op} {c} r m' q h = record { end = λ o k x n u v. h.end x n (there o k x n u v); of = λ o k x n u v. h.of x n (there o k x n u v) }
    where
      there : (o k : ℕ) (x : Expr) (n : ℕ) → read_case unary_ops s at ≡ ok o k → read_expr d s k ≡ ok x n → read_expr d s c.at ≡ ok x n
      there o k x n u v = let w = got _ e q in let y : c.at ≡ k = cc in ap (read_expr d s) y ∙ v

module _ (d : ℕ) (s : List ℕ) (at : ℕ) (names m : List ℕ) {a : Result (ℕ × Cursor) Refusal} (e : a ≡ answer (read_case bin_ops s at)) where
  pub binary_none : (r : ℕ) (m' : List ℕ) {f : Refusal} → a ≡ Err f → TouchesBinary s at names m r m' d
  binary_none r m' q = record { end = λ op k x j y n u v w. no (let z = out _ e q in cc); of = λ op k x j y n u v w. no (let z = out _ e q in cc) }

  pub binary_goes : {op : ℕ} {c : Cursor} {right : ℕ} {m₁ : List ℕ} (r : ℕ) (m' : List ℕ) → a ≡ Ok (op, c) → TouchesExpr s c.at names m right m₁ d → TouchesExpr s right names m₁ r m' d → TouchesBinary s at names m r m' d
  unfolding collect_names
  binary_goes {op} {c} {right} r m' q g h = record {
    end = λ o k x j y n u v w. let i = there o k x j u v in h.end y n (ap (read_expr d s) (g.end x j i) ∙ w);
    of = λ o k x j y n u v w. let i = there o k x j u v in touched_then s names (g.of x j i) (h.of y n (ap (read_expr d s) (g.end x j i) ∙ w));
  }
    where
      there : (o k : ℕ) (x : Expr) (j : ℕ) → read_case bin_ops s at ≡ ok o k → read_expr d s k ≡ ok x j → read_expr d s c.at ≡ ok x j
      there o k x j u v = let w = got _ e q in let y : c.at ≡ k = cc in ap (read_expr d s) y ∙ v
