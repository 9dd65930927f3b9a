-- Pairs by state while they are noted: what is noted, and what is still to be noted, make the whole.
use Prim.Native.Nat.{ℕ, zero, suc, ◌+◌, ◌-◌, ◌*◌, ◌<◌, ◌≤◌}
use mathlib.Core.Path.{◌≡◌, refl, sym, ap, ◌∙◌}
use mathlib.Core.List.{List, [], ◌∷◌, ◌++◌}
use mathlib.Core.Bool.{Bool, true, false}
use mathlib.Core.Option.{none, some}
use native.Mathlib.Omega.{arith}
use native.Mathlib.Numerals.{add-one}
use lib.Dec.{eqb}
use lib.ListN.{length, drop, get_or, get_elem?, drop_of_length-le}
use Rattle.reading.specs.Text.{Name}
use Rattle.reading.specs.Skip.{text_at}
use Rattle.reading.specs.Transition.{Transition}
use Rattle.reading.proofs.Rules.{no}
use Rattle.typing.specs.Names.{eq_name}
use Rattle.findings.specs.Lists.{Placed, placed, each, each_pair}
use Rattle.findings.specs.Finding.{Note}
use Rattle.findings.specs.Order.{least, without, ordered}
use Rattle.findings.specs.Pairs.{by_state}
use Rattle.findings.specs.Noting.{Noted}
use Rattle.findings.specs.Scene.{field, Rows}
use Rattle.findings.specs.Prints.{Prints}
use Rattle.findings.specs.Promises.{at_place}
use Rattle.findings.specs.PairPromises.{pair_notes, NotesPairs}
use Rattle.findings.specs.PairSteps.{NoPairs}
use Rattle.findings.specs.Classes.{kind_notes, Bare, Lone, Classed}
use Rattle.findings.specs.StateSteps.{undone, next_name, state_in, NextState, StateMarked, in_state, NotesLater, NotesRow, NotesOfState}
use Rattle.findings.proofs.NoteLaws.{note_nothing, note_as}
use Rattle.findings.proofs.EachLaws.{Left, left_all, left_more, left_none, each_from, each_turn, each_done}
use Rattle.findings.proofs.PlaceLaws.{entry_at, entry_past, drop_entry}
use Rattle.findings.proofs.PairTests.{states_bytes, states_differ}
use Rattle.findings.proofs.ClashLaws.{kind_none, kind_notes_lem}
use Rattle.findings.proofs.FirstLaws.{one_kind, two_kinds, guards_told}
use Rattle.findings.proofs.RivalLaws.{each_none, by_state_none}
use Rattle.findings.proofs.LoneLaws.{group, undone_groups}

each_as : {A B : Type 0} (f g : A → List B) (xs : List A) → ((x : A) → f x ≡ g x) → each f xs ≡ each g xs
each_as f g [] h = refl
each_as f g (x ∷ xs) h = rw (h x, each_as f g xs h)

module _ (s : List ℕ) (owner : ℕ) (o : List ℕ) (skip n : ℕ) (rows prints : List ℕ) (count : ℕ) (warn : Bool) where
  -- transition i with each later one: number j is the next
  module _ (i : ℕ) where
    pub record LaterLeft (j m : ℕ) (out : List ℕ) : Type 0 where
      pub of : (ts : List Transition) → Rows s rows ts → Prints prints ts → count ≡ length ts → (t : Transition) → get_elem? ts i ≡ some t → Left owner o skip n (each (pair_notes warn (at_place i t)) (placed (i + 1) (drop (i + 1) ts))) m out (each_from (pair_notes warn (at_place i t)) j ts)

    pub later_start : LaterLeft (i + 1) n o
    later_start = record { of = λ ts R P e t g. left_all owner o skip n _ }

    module _ {j m : ℕ} {out : List ℕ} (w : LaterLeft j m out) where
      module _ {kinds guards : List ℕ} (k : Classed s rows prints count kinds guards) where
        pub later_more : {b : Bool} {r : ℕ} {o' : List ℕ} {m' : ℕ} {out' : List ℕ} → j < count → Bare s rows i b → get_or kinds j 0 ≡ get_or kinds i 0 → Noted owner out skip m (kind_notes warn b (eqb (get_or guards i 0) (get_or guards j 0)) i j) r o' → m' ≡ r → out' ≡ o' → LaterLeft (j + 1) m' out'
        later_more h a d p x y = rw (x, y) (record {
          of = λ ts R P e t g.
              let u = entry_at ts j (omega arith) in
              let v = one_kind k ts R P e i j t u.item g u.is d in
              let z = guards_told k ts R P e i j t u.item g u.is in
              each_turn (pair_notes warn (at_place i t)) j ts u.item u.is (w.of ts R P e t g) (note_as owner _ (kind_notes_lem warn i j t u.item v (a.of t (R.at i t g)) z) p);
        })

        pub later_skip : {m' : ℕ} {out' : List ℕ} → j < count → (get_or kinds j 0 ≡ get_or kinds i 0 → ⊥) → m' ≡ m → out' ≡ out → LaterLeft (j + 1) m' out'
        later_skip h d x y = rw (x, y) (record {
          of = λ ts R P e t g.
              let u = entry_at ts j (omega arith) in
              let v = two_kinds k ts R P e i j t u.item g u.is d in
              each_turn (pair_notes warn (at_place i t)) j ts u.item u.is (w.of ts R P e t g) (note_as owner _ (kind_none warn (at_place i t) (at_place j u.item) v) (note_nothing owner out skip m));
        })

      pub later_done : count ≤ j → NotesLater s owner o skip n m out rows prints count warn i
      later_done h = record {
        of = λ ts R P e t g. each_done (pair_notes warn (at_place i t)) j ts (omega arith) (w.of ts R P e t g);
      }

  -- transition i where it has the state of transition b
  module _ (b i : ℕ) where
    state_yes : (w : Name) (x : Placed Transition) (ys : List (Placed Transition)) → eq_name w x.item.state ≡ true → each (pair_notes warn x) ys ≡ each (in_state warn w x) ys
    unfolding in_state
    state_yes w x ys e = each_as (pair_notes warn x) (in_state warn w x) ys (λ y. rw e)

    state_no : (w : Name) (x : Placed Transition) (ys : List (Placed Transition)) → eq_name w x.item.state ≡ false → [] ≡ each (in_state warn w x) ys
    unfolding in_state
    state_no w x ys e = sym (each_none (in_state warn w x) ys (λ y. rw e))

    module _ {e : Bool} (q : e ≡ eq_name (text_at s (field rows b 1)) (text_at s (field rows i 1))) where
      pub row_same : {r : ℕ} {o' : List ℕ} → e ≡ true → NotesLater s owner o skip n r o' rows prints count warn i → NotesRow s owner o skip n r o' rows prints count warn b i
      row_same h p = record {
        of = λ ts R P c t u f g.
            note_as owner _ (state_yes t.state (at_place i u) (placed (i + 1) (drop (i + 1) ts)) (sym (states_bytes s rows b i q t u (R.at b t f) (R.at i u g)) ∙ h)) (p.of ts R P c u g);
      }

      pub row_other : e ≡ false → NotesRow s owner o skip n n o rows prints count warn b i
      row_other h = record {
        of = λ ts R P c t u f g.
            note_as owner _ (state_no t.state (at_place i u) (placed (i + 1) (drop (i + 1) ts)) (sym (states_bytes s rows b i q t u (R.at b t f) (R.at i u g)) ∙ h)) (note_nothing owner o skip n);
      }

  -- each transition of the state of transition b: number i is the next
  module _ (b : ℕ) where
    pub record StateLeft (i m : ℕ) (out : List ℕ) : Type 0 where
      pub of : (ts : List Transition) → Rows s rows ts → Prints prints ts → count ≡ length ts → (t : Transition) → get_elem? ts b ≡ some t → Left owner o skip n (each_pair (in_state warn t.state) (placed 0 ts)) m out (each_pair (in_state warn t.state) (placed i (drop i ts)))

    pub state_start : StateLeft 0 n o
    state_start = record { of = λ ts R P e t g. left_all owner o skip n _ }

    pair_here : (f : Placed Transition → Placed Transition → List Note) (i : ℕ) (u : Transition) (us ts : List Transition) → ts ≡ u ∷ us → each_pair f (placed i ts) ≡ each (f (at_place i u)) (placed (i + 1) us) ++ each_pair f (placed (i + 1) us)
    pair_here f i u us ts e = rw (e, add-one)

    module _ {i m : ℕ} {out : List ℕ} (w : StateLeft i m out) where
      turn : {r : ℕ} {o' : List ℕ} (ts : List Transition) (t u : Transition) → get_elem? ts i ≡ some u → Left owner o skip n (each_pair (in_state warn t.state) (placed 0 ts)) m out (each_pair (in_state warn t.state) (placed i (drop i ts))) → Noted owner out skip m (each (in_state warn t.state (at_place i u)) (placed (i + 1) (drop (i + 1) ts))) r o' → Left owner o skip n (each_pair (in_state warn t.state) (placed 0 ts)) r o' (each_pair (in_state warn t.state) (placed (i + 1) (drop (i + 1) ts)))
      turn ts t u g l p = left_more owner o skip n (each_pair (in_state warn t.state) (placed 0 ts)) l (each (in_state warn t.state (at_place i u)) (placed (i + 1) (drop (i + 1) ts))) (pair_here (in_state warn t.state) i u (drop (i + 1) ts) (drop i ts) (drop_entry ts i u g)) p

      pub state_more : {r : ℕ} {o' : List ℕ} {m' : ℕ} {out' : List ℕ} → i < count → NotesRow s owner out skip m r o' rows prints count warn b i → m' ≡ r → out' ≡ o' → StateLeft (i + 1) m' out'
      state_more h p x y = rw (x, y) (record {
        of = λ ts R P e t g.
            let u = entry_at ts i (omega arith) in
            turn ts t u.item u.is (w.of ts R P e t g) (p.of ts R P e t u.item g u.is);
      })

      pub state_skip : {m' : ℕ} {out' : List ℕ} → i < count → (get_or prints (3 * i) 0 ≡ get_or prints (3 * b) 0 → ⊥) → m' ≡ m → out' ≡ out → StateLeft (i + 1) m' out'
      state_skip h d x y = rw (x, y) (record {
        of = λ ts R P e t g.
            let u = entry_at ts i (omega arith) in
            let a = states_differ i b prints t u.item (P.at i u.item u.is) (P.at b t g) d in
            turn ts t u.item u.is (w.of ts R P e t g) (note_as owner _ (state_no b i t.state (at_place i u.item) (placed (i + 1) (drop (i + 1) ts)) (sym a)) (note_nothing owner out skip m));
      })

      pub state_done : count ≤ i → NotesOfState s owner o skip n m out rows prints count warn b
      state_done h = record {
        of = λ ts R P e t g.
            let l : length ts ≤ i = omega arith in
            left_none owner o skip n (each_pair (in_state warn t.state) (placed 0 ts)) (w.of ts R P e t g) (ap (λ (us : List Transition). each_pair (in_state warn t.state) (placed i us)) (drop_of_length-le ts l));
      }

-- the least name of those that are not done comes next
module _ (k : ℕ) where
  ordered_next : (l : List Name) (w : Name) → some w ≡ next_name none l → ordered (suc k) l ≡ w ∷ ordered k (without w l)
  unfolding next_name
  ordered_next [] w e = no (cc)
  ordered_next (x ∷ xs) w e = let q : least x xs ≡ w = cc in ap (λ (v : Name). v ∷ ordered k (without v (x ∷ xs))) q

ordered_end : (k : ℕ) (l : List Name) → none ≡ next_name none l → ordered k l ≡ []
unfolding next_name
ordered_end zero l e = refl
ordered_end (suc k) [] e = refl
ordered_end (suc k) (x ∷ xs) e = no (cc)

module _ (s : List ℕ) (owner : ℕ) (o : List ℕ) (skip n : ℕ) (rows prints : List ℕ) (count : ℕ) (warn : Bool) where
  -- so many states are done, and the rest are those of the transitions that are not marked
  pub record TurnsLeft (marks : List ℕ) (turns m : ℕ) (out : List ℕ) : Type 0 where
    pub of : (ts : List Transition) → Rows s rows ts → Prints prints ts → count ≡ length ts → Left owner o skip n (by_state (pair_notes warn) ts) m out (each (group warn ts) (ordered (count - turns) (undone marks 0 ts)))

  -- at first those are marked that are the only ones of their kind
  pub turns_start : {kinds guards marks : List ℕ} → Classed s rows prints count kinds guards → Lone count kinds marks → TurnsLeft marks 0 n o
  turns_start c k = record {
    of = λ ts R P e.
        left_more owner o skip n (by_state (pair_notes warn) ts) (left_all owner o skip n (by_state (pair_notes warn) ts)) [] (undone_groups c k warn ts R P e (count - 0) (omega arith)) (note_nothing owner o skip n);
  }

  module _ {marks : List ℕ} {turns m : ℕ} {out : List ℕ} (w : TurnsLeft marks turns m out) {b : ℕ} (x : NextState s rows count marks b) where
    pub turns_more : {r : ℕ} {o' marks' : List ℕ} → turns < count → b < count → NotesOfState s owner out skip m r o' rows prints count warn b → StateMarked s rows count marks prints b marks' → TurnsLeft marks' (turns + 1) r o'
    unfolding state_in
    turns_more {r} {o'} {marks'} h l p q = record {
      of = λ ts R P e.
          let t = entry_at ts b (omega arith) in
          let z : count - turns ≡ suc (count - (turns + 1)) = omega arith in
          let y : some t.item.state ≡ next_name none (undone marks 0 ts) = ap state_in (sym t.is) ∙ x.of ts R e in
          let v = ordered_next (count - (turns + 1)) (undone marks 0 ts) t.item.state y in
          let u = q.of ts R P e t.item t.is in
          left_more owner o skip n (by_state (pair_notes warn) ts) (w.of ts R P e) (group warn ts t.item.state)
          (ap (λ (k : ℕ). each (group warn ts) (ordered k (undone marks 0 ts))) z ∙ ap (each (group warn ts)) v ∙ ap (λ (us : List Name). group warn ts t.item.state ++ each (group warn ts) (ordered (count - (turns + 1)) us)) (sym u))
          (p.of ts R P e t.item t.is);
    }

    pub turns_out : count ≤ b → NotesPairs s owner o skip n m out rows prints count warn
    unfolding state_in
    turns_out l = record {
      of = λ ts R P e.
          let g : length ts ≤ b = omega arith in
          let y : none ≡ next_name none (undone marks 0 ts) = ap state_in (sym (entry_past ts b g)) ∙ x.of ts R e in
          left_none owner o skip n (by_state (pair_notes warn) ts) (w.of ts R P e) (ap (each (group warn ts)) (ordered_end (count - turns) (undone marks 0 ts) y));
    }

  pub turns_done : {marks : List ℕ} {turns m : ℕ} {out : List ℕ} → TurnsLeft marks turns m out → count ≤ turns → NotesPairs s owner o skip n m out rows prints count warn
  turns_done {marks} {turns} w h = record {
    of = λ ts R P e.
        let z : count - turns ≡ 0 = omega arith in
        left_none owner o skip n (by_state (pair_notes warn) ts) (w.of ts R P e) (ap (λ (k : ℕ). each (group warn ts) (ordered k (undone marks 0 ts))) z);
  }

  -- where no two have one key
  pub pairs_nothing : {e : Bool} → NoPairs prints count e → e ≡ true → NotesPairs s owner o skip n n o rows prints count warn
  pairs_nothing p h = record {
    of = λ ts R P e. note_as owner _ (sym (by_state_none warn ts (p.of ts P e h))) (note_nothing owner o skip n);
  }
