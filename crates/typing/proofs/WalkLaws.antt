-- A walk over a pattern's fields and the declared ones: what is left of both, judged by the names passed, and put after what is bound
-- already, makes the whole.
use Rattle.std.specs.Prelude.{Result, Ok, Err, ⊤}
use Prim.Native.Nat.{ℕ, suc, ◌+◌, ◌-◌, ◌*◌, ◌<◌, ◌≤◌}
use mathlib.Core.Path.{◌≡◌, refl, sym, ap, subst, ◌∙◌}
use mathlib.Core.Bool.{Bool, true, false}
use mathlib.Core.List.{List, [], ◌∷◌, ◌++◌, append_assoc, append-nil}
use mathlib.Core.Option.{Option, none, some}
use native.Mathlib.Omega.{arith}
use native.Mathlib.Nat.{add-zero}
use lib.ListN.{length, set, take, length-append}
use lib.Seq.{sets, take-take}
use lib.Dec.{ltb}
use borrow.Author.Tests.{ltb-true}
use Rattle.reading.specs.Read.{ok, pick}
use Rattle.reading.specs.Text.{Name}
use Rattle.reading.specs.Decl.{FieldDecl, read_field_decl}
use Rattle.reading.specs.Pattern.{PatternField, read_pattern_field}
use Rattle.reading.proofs.Rules.{no, by}
use Rattle.reading.proofs.PatternLaws.{pattern_field_laws}
use Rattle.typing.specs.Causes as causes
use Rattle.typing.specs.Causes.{field, blame}
use Rattle.typing.specs.Names.{member}
use Rattle.typing.specs.Env.{Binding}
use Rattle.typing.specs.Patterns.{pattern_expr_compatible, Judged, judged, bound, or_else, judge_field, judge_fields}
use Rattle.typing.specs.Means.{blame_of}
use Rattle.typing.specs.Table.{Past}
use Rattle.typing.specs.Blames.{Bound, none_bound, more_bound, Binds, Spares}
use Rattle.typing.specs.Entries.{Entered}
use Rattle.typing.specs.Fields.{PartsAt, field_named, named_from, stepped, Apart, Known, no_more, JudgesField, JudgesFields}
use Rattle.typing.specs.declared.cause.Blame.{Blame}
use Rattle.typing.specs.declared.cause.Bindings.{Bindings}
use Rattle.typing.specs.declared.field.Parts.{Parts}
use Rattle.typing.proofs.EnvLaws.{after_is}
use Rattle.typing.proofs.EntryLaws.{Next, none_left, next, entered_at}
use Rattle.typing.proofs.PartLaws.{field_text, field_type, field_ends, name_stands, pattern_stands, pattern_ends}
use Rattle.typing.proofs.NameLaws.{eq_name_refl}
use Rattle.typing.proofs.FieldLaws.{is_named, field_named_is}
use Rattle.typing.proofs.ApartLaws.{named_more, stepped_more}

-- the names of so many fields from a place on
pub record Passed (s : List ℕ) (first i : ℕ) (seen : List Name) : Type 0 where
  pub are : (w : Name) → named_from i s first w ≡ member w seen

abbrev pub grown : List Name → Option Name → List Name
grown seen none = seen
grown seen (some n) = n ∷ seen

grown_has : (w : Name) (seen : List Name) (o : Option Name) → pick (is_named o w) true (member w seen) ≡ member w (grown seen o)
unfolding pick member
grown_has w seen none = refl
grown_has w seen (some n) = refl

pub passed_none : (s : List ℕ) (first : ℕ) → Passed s first 0 []
unfolding named_from member
passed_none s first = record { are = λ w. refl }

pub passed_more : (s : List ℕ) (first i p : ℕ) (seen : List Name) (x : PatternField) (n : ℕ) → p ≡ stepped s first i → read_pattern_field s p ≡ ok x n → Passed s first i seen → Passed s first (i + 1) (grown seen x.name)
passed_more s first i p seen x n h g q = record {
  are = λ w. named_more s w first i h ∙ rw (field_named_is s p w x n g, q.are w) (grown_has w seen x.name);
}

-- the fields that are searched tell as much as all those passed
pub passed_known : (s : List ℕ) (first i p : ℕ) (seen : List Name) (x : PatternField) (n : ℕ) {apart many : ℕ} → Apart s first apart → many ≡ pick (ltb i apart) 0 i → p ≡ stepped s first i → read_pattern_field s p ≡ ok x n → Passed s first i seen → Known s first many x.name seen
unfolding named_from pick
passed_known s first i p seen x n {apart} {many} a e h g q = record {
  is = λ w o.
      let named : field_named s (stepped s first i) w ≡ true = rw (sym h) (field_named_is s p w x n g ∙ rw o (eq_name_refl w)) in
      by (ltb i apart)
      (λ t. rw (e, t) (sym (a.are i w (ltb-true i apart t) named) ∙ q.are w))
      (λ t. rw (e, t) (q.are w));
}

-- bindings after bindings
bound_append : {s A B : List ℕ} {bs cs : List Binding} → Bound s A bs → Bound s B cs → Bound s (A ++ B) (bs ++ cs)
bound_append none_bound b = b
bound_append (more_bound p q a) b = more_bound p q (bound_append a b)

sets_append : (t : List ℕ) (k : ℕ) (A B : List ℕ) → sets t k (A ++ B) ≡ sets (sets t k A) (k + length A) B
sets_append t k [] B = rw (add-zero k)
sets_append t k (a ∷ A) B =
    let q : suc k + length A ≡ k + length (a ∷ A) = omega arith in
    sets_append (set t k a) (suc k) A B ∙ ap (λ (z : ℕ). sets (sets (set t k a) (suc k) A) z B) q

abbrev joined : Judged → Judged → Judged
joined a b = record { bound = a.bound ++ b.bound; fault = b.fault }

joined_joined : (a b c : Judged) → joined (joined a b) c ≡ joined a (joined b c)
joined_joined a b c = ap (λ (z : List Binding). record { bound = z; fault = c.fault }) (append_assoc a.bound b.bound c.bound)

binds_join : {s t t₁ t₂ : List ℕ} {k : ℕ} {a b : Judged} {r q : Bindings} → Binds s t k a r t₁ → Binds s t₁ (k + r.words) b q t₂ → Binds s t k (joined a b) (record { blame = q.blame; words = r.words + q.words }) t₂
binds_join {s} {t} {t₁} {t₂} {k} {a} {b} {r} {q} g h = record {
  fault = h.fault;
  pairs = g.pairs ++ h.pairs;
  are = bound_append g.are h.are;
  many = let m = g.many in let n = h.many in omega (arith, length-append g.pairs h.pairs);
  words = h.words ∙ rw (g.words, g.many) (sym (sets_append t k g.pairs h.pairs));
}

-- a field by itself, and those after it
then_stops : (c : Option causes.Blame) (z : Judged) {b : causes.Blame} → (or_else c (judged none)).fault ≡ some b → or_else c z ≡ or_else c (judged none)
unfolding or_else
then_stops none z e = no (cc)
then_stops (some c) z e = refl

then_goes : (c : Option causes.Blame) (z : Judged) → (or_else c (judged none)).fault ≡ none → or_else c z ≡ joined (or_else c (judged none)) z
unfolding or_else
then_goes none z e = refl
then_goes (some c) z e = no (cc)

module _ (d : causes.Blame) (y : Binding) (c : Option causes.Blame) (z : Judged) where
  named_stops : (m : Bool) {b : causes.Blame} → (pick m (judged (some d)) (bound y (or_else c (judged none)))).fault ≡ some b → pick m (judged (some d)) (bound y (or_else c z)) ≡ pick m (judged (some d)) (bound y (or_else c (judged none)))
  unfolding pick bound
  named_stops true e = refl
  named_stops false e = ap (bound y) (then_stops c z e)

  named_goes : (m : Bool) → (pick m (judged (some d)) (bound y (or_else c (judged none)))).fault ≡ none → pick m (judged (some d)) (bound y (or_else c z)) ≡ joined (pick m (judged (some d)) (bound y (or_else c (judged none)))) z
  unfolding pick bound
  named_goes true e = no (cc)
  named_goes false e = ap (bound y) (then_goes c z e)

module _ (rest : List Name → Judged) (seen : List Name) (f : FieldDecl) (x : PatternField) where
  own_stops : (o : Option Name) {b : causes.Blame} → (judge_field no_more seen f x o).fault ≡ some b → judge_field rest seen f x o ≡ judge_field no_more seen f x o
  unfolding judge_field blame
  own_stops none e = then_stops (blame (field f.name) (pattern_expr_compatible x.pattern f.ty)) (rest seen) e
  own_stops (some n) e = named_stops _ _ (blame (field f.name) (pattern_expr_compatible x.pattern f.ty)) (rest (n ∷ seen)) (member n seen) e

  own_goes : (o : Option Name) → (judge_field no_more seen f x o).fault ≡ none → judge_field rest seen f x o ≡ joined (judge_field no_more seen f x o) (rest (grown seen o))
  unfolding judge_field blame
  own_goes none e = then_goes (blame (field f.name) (pattern_expr_compatible x.pattern f.ty)) (rest seen) e
  own_goes (some n) e = named_goes _ _ (blame (field f.name) (pattern_expr_compatible x.pattern f.ty)) (rest (n ∷ seen)) (member n seen) e

joined_none : (a : Judged) → a.fault ≡ none → joined a (judged none) ≡ a
joined_none a e = λ i. record { bound = append-nil a.bound i; fault = sym e i }

-- what is left of both lists; whole is what both make
pub record Left (s : List ℕ) (at k : ℕ) (table : List ℕ) (whole : Judged) (left i p f j : ℕ) (now : List ℕ) : Type 0 where
  pub fields : List PatternField
  pub decls : List FieldDecl
  pub seen : List Name
  pub made : Judged
  pub given : Entered read_pattern_field s left p fields
  pub declared : Entered read_field_decl s left f decls
  pub place : p ≡ stepped s at i
  pub passed : Passed s at i seen
  pub so_far : Binds s table k made (record { blame = Ok tt; words = j }) now
  pub same : joined made (judge_fields seen decls fields) ≡ whole

-- the field whose turn it is: what it makes by itself, and those after it
pub record Turn (s : List ℕ) (at k : ℕ) (table : List ℕ) (whole : Judged) (left i p f j : ℕ) (now : List ℕ) (r : Bindings) (now' : List ℕ) (l : Left s at k table whole left i p f j now) : Type 0 where
  pub field : Next read_pattern_field s left p l.fields
  pub decl : Next read_field_decl s left f l.decls
  pub own : Binds s now (k + j) (judge_field no_more l.seen decl.head field.head field.head.name) r now'
  pub same : joined l.made (judge_field (λ names. judge_fields names decl.tail field.tail) l.seen decl.head field.head field.head.name) ≡ whole

pub record Walking (s : List ℕ) (at at' count k : ℕ) (table : List ℕ) (i p f j : ℕ) (now : List ℕ) : Type 0 where
  pub size : length now ≡ length table
  pub few : count ≤ 255
  pub upto : i ≤ count
  pub room : j ≤ 2 * i
  pub kept : take k now ≡ take k table
  pub of : (xs : List PatternField) (fs : List FieldDecl) → Entered read_pattern_field s count at xs → Entered read_field_decl s count at' fs → Left s at k table (judge_fields [] fs xs) (count - i) i p f j now

module _ (s : List ℕ) (at at' count k : ℕ) (table : List ℕ) where
  pub fields_start : count ≤ 255 → Walking s at at' count k table 0 at at' 0 table
  unfolding stepped blame_of
  fields_start h = let z : count - 0 ≡ count = omega arith in record {
    size = refl;
    few = h;
    upto = omega arith;
    room = omega arith;
    kept = refl;
    of = λ xs fs q r. record {
      fields = xs;
      decls = fs;
      seen = [];
      made = judged none;
      given = rw z q;
      declared = rw z r;
      place = refl;
      passed = passed_none s at;
      so_far = record { fault = refl; pairs = []; are = none_bound; many = refl; words = refl };
      same = refl;
    };
  }

  module _ {i p f j : ℕ} {now : List ℕ} (g : Walking s at at' count k table i p f j now) where
    pub fields_done : count ≤ i → JudgesFields s at at' count table k (record { blame = Ok tt; words = j }) now
    unfolding judge_fields blame_of
    fields_done h = record {
      of = λ xs fs q r.
          let l = g.of xs fs q r in
          let none = none_left l.decls (omega arith) l.declared in
          subst (λ (o : Judged). Binds s table k o (record { blame = Ok tt; words = j }) now)
          (sym (joined_none l.made (sym l.so_far.fault)) ∙ (λ i. joined l.made (judge_fields l.seen (sym none i) l.fields)) ∙ l.same)
          l.so_far;
    }

    pub done_spares : Spares table k (record { blame = Ok tt; words = j }) now
    done_spares = record { few = omega (arith, g.few, g.upto, g.room); kept = g.kept }

    module _ (h : i < count) {apart many : ℕ} {own decl : Parts} {r : Bindings} {now' : List ℕ} (v : Apart s at apart) (e : many ≡ pick (ltb i apart) 0 i) (a : PartsAt s p own) (b : PartsAt s f decl) (o : JudgesField s own decl at many now (k + j) r now') where
      turn : {whole : Judged} (l : Left s at k table whole (count - i) i p f j now) → Turn s at k table whole (count - i) i p f j now r now' l
      unfolding judge_fields
      turn l =
          let x = next l.fields (omega arith) l.given in
          let d = next l.decls (omega arith) l.declared in
          record {
            field = x;
            decl = d;
            own =
                let m = name_stands s p x.head x.end x.here a.name in
                o.of x.head m.0 x.end d.head d.end l.seen m.1
                (pattern_stands s p x.head x.end x.here a.under)
                (field_text s f d.head d.end d.here b.name)
                (field_type s f d.head d.end d.here b.under)
                (passed_known s at i p l.seen x.head x.end v e l.place x.here l.passed);
            same = (λ i. joined l.made (judge_fields l.seen (sym d.split i) (sym x.split i))) ∙ l.same;
          }

      turn_keeps : take k now' ≡ take k table
      turn_keeps =
          let h : k ≤ k + j = omega arith in
          sym (take-take k (k + j) now' h) ∙ ap (take k) o.kept ∙ take-take k (k + j) now h ∙ g.kept

      pub stop_spares : Spares table k (record { blame = r.blame; words = j + r.words }) now'
      stop_spares = record { few = omega (arith, g.few, g.room, o.few); kept = turn_keeps }

      pub fields_stop : {x : Blame} → r.blame ≡ Err x → JudgesFields s at at' count table k (record { blame = r.blame; words = j + r.words }) now'
      unfolding blame_of
      fields_stop y = record {
        of = λ xs fs q u.
            let l = g.of xs fs q u in
            let t = turn l in
            let e = own_stops (λ names. judge_fields names t.decl.tail t.field.tail) l.seen t.decl.head t.field.head t.field.head.name (sym t.own.fault ∙ ap (blame_of s) y) in
            subst (λ (z : Judged). Binds s table k z (record { blame = r.blame; words = j + r.words }) now') (ap (joined l.made) (sym e) ∙ t.same) (binds_join l.so_far t.own);
      }

      pub fields_more : {p' f' : ℕ} → r.blame ≡ Ok tt → length now' ≡ length now → Past s own.under p' → Past s decl.under f' → Walking s at at' count k table (i + 1) p' f' (j + r.words) now'
      unfolding blame_of
      fields_more y z past past' = record {
        size = z ∙ g.size;
        few = g.few;
        upto = omega arith;
        room = let q = g.room in let t = o.few in omega arith;
        kept = turn_keeps;
        of = λ xs fs q u.
            let l = g.of xs fs q u in
            let t = turn l in
            let made = judge_field no_more l.seen t.decl.head t.field.head t.field.head.name in
            let rest = judge_fields (grown l.seen t.field.head.name) t.decl.tail t.field.tail in
            let e = own_goes (λ names. judge_fields names t.decl.tail t.field.tail) l.seen t.decl.head t.field.head t.field.head.name (sym t.own.fault ∙ ap (blame_of s) y) in
            let w : count - i - 1 ≡ count - (i + 1) = omega arith in
            let end = pattern_ends s p t.field.head t.field.end t.field.here a.under past in
            record {
              fields = t.field.tail;
              decls = t.decl.tail;
              seen = grown l.seen t.field.head.name;
              made = joined l.made made;
              given = rw (sym w) (entered_at end t.field.rest);
              declared = rw (sym w) (entered_at (field_ends s f t.decl.head t.decl.end t.decl.here b.under past') t.decl.rest);
              place = stepped_more s at i l.place (end ∙ sym (after_is pattern_field_laws s past.each p t.field.head t.field.end t.field.here));
              passed = passed_more s at i p l.seen t.field.head t.field.end l.place t.field.here l.passed;
              so_far = subst (λ (b : Result ⊤ Blame). Binds s table k (joined l.made made) (record { blame = b; words = j + r.words }) now') y (binds_join l.so_far t.own);
              same = joined_joined l.made made rest ∙ ap (joined l.made) (sym e) ∙ t.same;
            };
      }
