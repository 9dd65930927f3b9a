-- The search for a clash over the equalities alone, and what each step of the one pass leaves of it.
use Rattle.std.specs.Prelude.{Option as Maybe, Some, None, Ok, Err}
use Prim.Native.Nat.{ℕ, zero, suc, ◌+◌, ◌-◌, ◌*◌, ◌<◌}
use mathlib.Core.Path.{◌≡◌, refl, sym, ap, ◌∙◌}
use mathlib.Core.Bool.{Bool, true, false}
use mathlib.Core.List.{List, [], ◌∷◌, ◌++◌, append_assoc, append-nil}
use mathlib.Core.Option.{Option, none, some}
use native.Mathlib.Omega.{arith}
use native.Mathlib.Numerals.{add-one}
use lib.ListN.{length, get_or}
use borrow.Author.Tests.{eq-eqb, ne_eqb}
use Rattle.reading.specs.Read.{ok, pick}
use Rattle.reading.specs.Text.{Name}
use Rattle.reading.specs.Expr.{Expr, read_expr}
use Rattle.reading.specs.Skip.{text_at}
use Rattle.reading.proofs.Rules.{no}
use Rattle.typing.specs.Causes.{first_of}
use Rattle.typing.specs.Names.{eq_name, called, first_called}
use Rattle.typing.specs.Guards as guards
use Rattle.typing.specs.Guards.{conjuncts, equality, against, judge_equality, clashes, contradictory_equalities}
use Rattle.typing.specs.Tells.{Ends}
use Rattle.typing.specs.Table.{find_first, found}
use Rattle.typing.specs.Lanes.{Lanes}
use Rattle.typing.specs.Equalities.{name_in, listed, equalities, equalities_of, equality_of, ConjunctAt}
use Rattle.typing.specs.Seen.{Seen, placed, seen_in, clashing, Room, Adds, Kept, Leaves, NotesEquality, NotesConjuncts, NotesTwo, Answers, OnePass}
use Rattle.typing.specs.declared.equality.Equality.{Equality}
use Rattle.typing.specs.declared.equality.Conjunct.{Conjunct}
use Rattle.typing.specs.declared.equality.Conjunct.TheVariants.{And, One}
use Rattle.typing.specs.declared.seen.Stop.{Stop}
use Rattle.typing.specs.declared.seen.Stop.TheVariants.{Clash, Full}
use Rattle.typing.proofs.EqualityLaws.{deep_enough, was_and, was_one}
use Rattle.typing.proofs.LaneLaws.{put, words_kept, pair_laned, pair_name, pair_value}

-- a guard's clash depends on its equalities only
clashes_clashing : (seen : List guards.Equality) (es : List Expr) → clashes seen es ≡ clashing seen (equalities es)
unfolding clashes clashing equalities judge_equality listed
clashes_clashing seen [] = refl
clashes_clashing seen (e ∷ es) = go (equality e) (λ now. clashes_clashing now es)
  where
    go : (o : Option guards.Equality) → ((now : List guards.Equality) → clashes now es ≡ clashing now (equalities es)) → judge_equality (λ now. clashes now es) seen o ≡ clashing seen (listed o ++ equalities es)
    go none rest = rest seen
    go (some x) rest = ap (λ (f : List guards.Equality → Option guards.Clash). judge_equality f seen (some x)) (λ i now. rest now i)

contradictory_clashing : (e : Expr) → contradictory_equalities e ≡ clashing [] (equalities_of e ++ [])
unfolding contradictory_equalities
contradictory_clashing e = clashes_clashing [] (conjuncts e) ∙ ap (clashing []) (sym (append-nil (equalities_of e)))

-- what the table's lookup gives is the value of the equality of that name
unfoldable value_of : Option guards.Equality → Option ℕ
value_of none = none
value_of (some x) = some x.value

find_seen : (s : List ℕ) (w : Name) (table : List ℕ) (k : ℕ) → find_first s w table k ≡ value_of (first_called name_in w (seen_in s table k))
unfolding find_first seen_in first_called called first_of value_of pick
find_seen s w table zero = refl
find_seen s w table (suc k) = rw (find_seen s w table k) (go (eq_name (text_at s (get_or table (2 * k) 0)) w))
  where
    go : (b : Bool) → pick b (some (get_or table (2 * k + 1) 0)) (value_of (first_called name_in w (seen_in s table k))) ≡ value_of (first_of (pick b (some (placed s (get_or table (2 * k) 0) (get_or table (2 * k + 1) 0))) none) (first_called name_in w (seen_in s table k)))
    go true = refl
    go false = refl

module _ (s : List ℕ) (w : Name) (table : List ℕ) (k : ℕ) {f : Maybe ℕ} (e : f ≡ found (find_first s w table k)) where
  found_value : f ≡ found (value_of (first_called name_in w (seen_in s table k)))
  found_value = e ∙ ap found (find_seen s w table k)

  not_seen : f ≡ None → first_called name_in w (seen_in s table k) ≡ none
  unfolding value_of found
  not_seen q = go (first_called name_in w (seen_in s table k)) found_value
    where
      go : (o : Option guards.Equality) → f ≡ found (value_of o) → o ≡ none
      go none u = refl
      go (some x) u = no (cc)

  was_seen : {v : ℕ} → f ≡ Some v → (x : guards.Equality) × (first_called name_in w (seen_in s table k) ≡ some x) × (x.value ≡ v)
  unfolding value_of found
  was_seen {v} q = go (first_called name_in w (seen_in s table k)) refl found_value
    where
      go : (o : Option guards.Equality) → first_called name_in w (seen_in s table k) ≡ o → f ≡ found (value_of o) → (x : guards.Equality) × (first_called name_in w (seen_in s table k) ≡ some x) × (x.value ≡ v)
      go none i u = no (cc)
      go (some x) i u = (x, i, let y : (Some x.value) ≡ Some v = cc in cc)

-- pair k, put after the others
seen_kept : (s table table' : List ℕ) (k : ℕ) → ((j : ℕ) → j < 2 * k → get_or table' j 0 ≡ get_or table j 0) → seen_in s table' k ≡ seen_in s table k
unfolding seen_in
seen_kept s table table' zero h = refl
seen_kept s table table' (suc k) h =
    rw (h (2 * k) (omega arith), h (2 * k + 1) (omega arith), seen_kept s table table' k (λ j i. h j (omega arith)))

pub pair_added : {s table : List ℕ} {k : ℕ} {heads links : List ℕ} → Room s table k heads links → k < 4096 → (n v : ℕ) {heads' links' : List ℕ} → Lanes s (put table k n v) (k + 1) heads' links' → length links' ≡ length links → Adds s n v table k (put table k n v) heads' links'
unfolding seen_in
pair_added {s} {table} {k} r low n v l z = record {
  room = pair_laned r low n v l z;
  seen = rw (add-one k, pair_name r low n v, pair_value r low n v, seen_kept s table (put table k n v) k (words_kept table k n v));
}

-- an equality against those in the table
module _ (s : List ℕ) {q : Maybe Equality} (table : List ℕ) (k : ℕ) where
  pub note_nothing : {heads links : List ℕ} → q ≡ None → Room s table k heads links → NotesEquality s q table k (Ok k) table heads links
  unfolding Kept Leaves listed equality_of
  note_nothing e r = record { kept = r; leaves = rw e (λ rest. refl) }

  module _ {p : Equality} {w : Name} {f : Maybe ℕ} (e : q ≡ Some p) (t : w ≡ text_at s p.name) (h : f ≡ found (find_first s w table k)) where
    judged : {o : Option guards.Equality} → first_called name_in w (seen_in s table k) ≡ o → (rest : List guards.Equality) → clashing (seen_in s table k) (listed (equality_of s q) ++ rest) ≡ against (λ now. clashing now rest) (seen_in s table k) (placed s p.name p.value) o
    unfolding clashing listed equality_of
    judged z rest = rw (e, sym t, z)

    pub note_same : {a : ℕ} {heads links : List ℕ} → f ≡ Some a → a ≡ p.value → Room s table k heads links → NotesEquality s q table k (Ok k) table heads links
    unfolding Kept Leaves against pick
    note_same z i r = record {
      kept = r;
      leaves = λ rest. let y = was_seen s w table k h z in judged y.1 rest ∙ rw (eq-eqb y.0.value p.value (y.2 ∙ i));
    }

    pub note_clash : {a : ℕ} (heads links : List ℕ) → f ≡ Some a → (a ≡ p.value → ⊥) → NotesEquality s q table k (Err (Clash (record { name = p.name; earlier = a; later = p.value }))) table heads links
    unfolding Kept Leaves against pick
    note_clash {a} heads links z i = record {
      kept = tt;
      leaves = λ rest. let y = was_seen s w table k h z in judged y.1 rest ∙ rw (y.2, ne_eqb a p.value i);
    }

    pub note_new : {table' heads links : List ℕ} → f ≡ None → Adds s p.name p.value table k table' heads links → NotesEquality s q table k (Ok (k + 1)) table' heads links
    unfolding Kept Leaves against
    note_new z a = record {
      kept = a.room;
      leaves = λ rest. judged (not_seen s w table k h z) rest ∙ ap (λ (l : List guards.Equality). clashing l rest) (sym a.seen);
    }

  pub note_full : (table' heads links : List ℕ) → NotesEquality s q table k (Err Full) table' heads links
  unfolding Kept Leaves
  note_full table' heads links = record { kept = tt; leaves = tt }

-- one list of equalities after another
module _ (s : List ℕ) (seen es fs : List guards.Equality) (table : List ℕ) where
  then_leaves : (m : ℕ) (table' : List ℕ) (r : Seen) → Leaves s seen es (Ok m) table → Leaves s (seen_in s table m) fs r table' → Leaves s seen (es ++ fs) r table'
  unfolding Leaves
  then_leaves m table' (Ok k) f g = λ rest. rw append_assoc (f (fs ++ rest) ∙ g rest)
  then_leaves m table' (Err (Clash c)) f g = λ rest. rw append_assoc (f (fs ++ rest) ∙ g rest)
  then_leaves m table' (Err Full) f g = tt

  stop_leaves : (e : Stop) → Leaves s seen es (Err e) table → Leaves s seen (es ++ fs) (Err e) table
  unfolding Leaves
  stop_leaves (Clash c) f = λ rest. rw append_assoc (f (fs ++ rest))
  stop_leaves Full f = tt

-- an expression, by what it says
module _ (d : ℕ) (s : List ℕ) (at : ℕ) (table : List ℕ) (k : ℕ) where
  pub notes_deep : {heads links : List ℕ} → d ≡ 0 → Room s table k heads links → NotesConjuncts d s at table k (Ok k) table heads links
  unfolding Kept
  notes_deep z r = record { kept = r; of = λ x n u. absurd (deep_enough d s at x n u z) }

  module _ (r : Seen) {c : Conjunct} (h : ConjunctAt d s at c) {table' heads links : List ℕ} where
    pub notes_and : {p : ℕ} → c ≡ And p → NotesTwo (d - 1) s p table k r table' heads links → NotesConjuncts d s at table k r table' heads links
    notes_and q f = record {
      kept = f.kept;
      of = λ x n u.
          let v = was_and (h.of x n u) q in
          rw v.6 (f.of v.0 v.1 v.2 v.3 v.4 v.5);
    }

    pub notes_one : {q : Maybe Equality} → c ≡ One q → NotesEquality s q table k r table' heads links → NotesConjuncts d s at table k r table' heads links
    notes_one q f = record { kept = f.kept; of = λ x n u. rw (was_one (h.of x n u) q) f.leaves }

-- two of them: right goes first
pub kept_room : {d : ℕ} {s : List ℕ} {at : ℕ} {table : List ℕ} {k : ℕ} {r : Seen} {table' heads links : List ℕ} {m : ℕ} → NotesConjuncts d s at table k r table' heads links → r ≡ Ok m → Room s table' m heads links
unfolding Kept
kept_room f q = rw q at f.kept

module _ (d : ℕ) (s : List ℕ) (at : ℕ) (table : List ℕ) (k : ℕ) {right : ℕ} {x : Seen} {table₁ heads₁ links₁ : List ℕ} (h : Ends (read_expr d s at) right) (f : NotesConjuncts d s right table k x table₁ heads₁ links₁) where
  right_leaves : (a : Expr) (j : ℕ) (b : Expr) (n : ℕ) → read_expr d s at ≡ ok a j → read_expr d s j ≡ ok b n → Leaves s (seen_in s table k) (equalities_of b) x table₁
  right_leaves a j b n u v = f.of b n (ap (read_expr d s) (h.of a j u) ∙ v)

  pub notes_left : {m : ℕ} (r : Seen) {table₂ heads₂ links₂ : List ℕ} → x ≡ Ok m → NotesConjuncts d s at table₁ m r table₂ heads₂ links₂ → NotesTwo d s at table k r table₂ heads₂ links₂
  notes_left {m} r {table₂} q g = record {
    kept = g.kept;
    of = λ a j b n u v. then_leaves s (seen_in s table k) (equalities_of b) (equalities_of a) table₁ m table₂ r (rw q at (right_leaves a j b n u v)) (g.of a j u);
  }

  pub notes_stop : {e : Stop} {r : Seen} → x ≡ Err e → r ≡ Err e → NotesTwo d s at table k r table₁ heads₁ links₁
  unfolding Kept
  notes_stop {e} q g = record {
    kept = rw g tt;
    of = λ y j z i u v. rw g (stop_leaves s (seen_in s table k) (equalities_of z) (equalities_of y) table₁ e (rw q at (right_leaves y j z i u v)));
  }

-- the whole guard, from a table of no pairs
pub pass_done : (d : ℕ) (s : List ℕ) (at : ℕ) (r : Seen) {table table' heads links : List ℕ} → NotesConjuncts d s at table 0 r table' heads links → OnePass d s at r
unfolding Leaves Answers seen_in clashing
pass_done d s at r {table} {table'} f = record { of = λ e n g. go e r (f.of e n g) }
  where
    go : (e : Expr) (r : Seen) → Leaves s (seen_in s table 0) (equalities_of e) r table' → Answers s (contradictory_equalities e) r
    go e (Ok m) h = contradictory_clashing e ∙ h []
    go e (Err (Clash c)) h = contradictory_clashing e ∙ h []
    go e (Err Full) h = tt
