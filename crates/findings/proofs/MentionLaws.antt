-- Names mentioned by what stands in the document: lists entry by entry, records by their fields, transitions row by row.
use Prim.Native.Nat.{ℕ, ◌+◌, ◌<◌, ◌≤◌}
use mathlib.Core.Path.{◌≡◌, refl, sym, ap, ◌∙◌}
use mathlib.Core.Bool.{Bool, true, false}
use mathlib.Core.List.{List, [], ◌∷◌, ◌++◌, append_assoc, append-nil}
use native.Mathlib.Omega.{arith}
use lib.ListN.{length, get_or, drop, drop_of_length-le}
use lib.Dec.{eqb}
use Rattle.reading.specs.Read.{Reader, ok}
use Rattle.reading.specs.Limits.{max_list}
use Rattle.reading.specs.Item.{read_count}
use Rattle.reading.specs.Text.{Name}
use Rattle.reading.specs.Combine.{entries, list_of}
use Rattle.reading.specs.Transition.{Assignment, Transition, read_top_expr, read_output_expr, read_assignment, read_on_error}
use Rattle.reading.specs.Skip.{text_at}
use Rattle.reading.specs.Link.{answer}
use Rattle.reading.specs.declared.cursor.Cursor.{Cursor}
use Rattle.reading.proofs.Rules.{no}
use Rattle.reading.proofs.Answers.{got, out}
use Rattle.reading.proofs.ExprLaws.{name_laws, name_solid}
use Rattle.reading.proofs.OptionLaws.{option_laws}
use Rattle.reading.proofs.TransitionLaws.{top_expr_laws}
use Rattle.reading.proofs.Views.{output_expr_at, assignment_at, on_error_at}
use Rattle.reading.proofs.ListViews.{list_at}
use Rattle.reading.proofs.Walks.{name_text}
use Rattle.typing.specs.Table.{after_item, after_head, Past}
use Rattle.typing.proofs.EnvLaws.{entry, after_is, fields_head}
use Rattle.findings.specs.Lists.{each}
use Rattle.findings.specs.Mentions.{collect_names, guard_names, emit_names, touched, error_touched, all_touched}
use Rattle.findings.specs.Scene.{field, Rows}
use Rattle.findings.specs.Touch.{Touched, Touches, output_names, set_name, set_names, TouchesExpr, TouchesArgs, TouchesOutput, TouchesEmits, TouchesSet, TouchesSets, Mentions, TouchesRow, AllMarked, TouchesRows, TouchesAll}
use Rattle.findings.proofs.EachLaws.{get_some, drop_get}
use Rattle.findings.proofs.OptionLaws.{not_given, is_given}
use Rattle.findings.proofs.TouchLaws.{touched_none, touched_then, touched_as, touched_full}
-- a list entry by entry: so many are left, the next at k
use Rattle.std.specs.Prelude.{Result, Ok, Err}
use Rattle.reading.specs.declared.fault.Refusal.{Refusal}

module _ {A : Type 0} (F : Reader A) (f : A → List Name) (s : List ℕ) (at : ℕ) (names m : List ℕ) where
  pub record ListLeft (xs : List A) (n count i k : ℕ) (m' : List ℕ) : Type 0 where
    pub rest : List A
    pub many : i + length rest ≡ count
    pub reads : entries (length rest) F s k ≡ ok rest n
    pub done : List Name
    pub split : done ++ each f rest ≡ each f xs
    pub marked : Touched s names m done m'

  pub record Listing (count i k : ℕ) (m' : List ℕ) : Type 0 where
    pub of : (xs : List A) (n : ℕ) → list_of max_list F s at ≡ ok xs n → ListLeft xs n count i k m'

  module _ {a : Result (ℕ × Cursor) Refusal} (e : a ≡ answer (read_count max_list s at)) where
    pub list_refused : {t : Refusal} {P : Type 0} → a ≡ Err t → (xs : List A) (n : ℕ) → list_of max_list F s at ≡ ok xs n → P
    list_refused q xs n g = let l = list_at F s max_list at xs n g in no (let x = out _ e q in let y = l.opens in cc)

    pub list_start : {c : ℕ} {first : Cursor} → a ≡ Ok (c, first) → Listing c 0 first.at m
    list_start {c} {first} q = record {
      of = λ xs n g.
          let l = list_at F s max_list at xs n g in
          let x = got _ e q in
          let y = l.opens in
          let u : length xs ≡ c = cc in
          let v : l.first ≡ first.at = cc in
          record { rest = xs; many = omega arith; reads = ap (entries (length xs) F s) (sym v) ∙ l.entries_are; done = []; split = refl; marked = touched_none s names m };
    }

  module _ (count i k : ℕ) {m' : List ℕ} (g : Listing count i k m') where
    pub list_more : {k' : ℕ} {m'' : List ℕ} → i < count → Touches F f s k names m' k' m'' → Listing count (i + 1) k' m''
    list_more {k'} {m''} h t = record { of = λ xs n q. let l = g.of xs n q in go l.rest n l.many l.reads l.done l.split l.marked }
      where
        go : (rest : List A) (n : ℕ) {xs : List A} → i + length rest ≡ count → entries (length rest) F s k ≡ ok rest n → (done : List Name) → done ++ each f rest ≡ each f xs → Touched s names m done m' → ListLeft xs n count (i + 1) k' m''
        go [] n l r d j u = absurd (omega arith)
        go (x ∷ xs) n l r d j u =
            let v = entry F s k x xs n r in
            record {
              rest = xs;
              many = omega arith;
              reads = ap (entries (length xs) F s) (t.end x v.end v.here) ∙ v.rest;
              done = d ++ f x;
              split = append_assoc d (f x) (each f xs) ∙ j;
              marked = touched_then s names u (t.of x v.end v.here);
            }

    pub list_done : count ≤ i → (xs : List A) (n : ℕ) → list_of max_list F s at ≡ ok xs n → (k ≡ n) × Touched s names m (each f xs) m'
    unfolding entries
    list_done h xs n q = let l = g.of xs n q in go l.rest l.many l.reads l.done l.split l.marked
      where
        go : (rest : List A) → i + length rest ≡ count → entries (length rest) F s k ≡ ok rest n → (done : List Name) → done ++ each f rest ≡ each f xs → Touched s names m done m' → (k ≡ n) × Touched s names m (each f xs) m'
        go [] l r d j u = (cc, touched_as s names (each f xs) (sym (append-nil d) ∙ j) u)
        go (x ∷ ys) l r d j u = absurd (omega arith)

set_each : (xs : List Assignment) → each set_name xs ≡ set_names xs
set_each [] = refl
set_each (x ∷ xs) = ap (λ (ns : List Name). x.var ∷ ns) (set_each xs)

module _ (s : List ℕ) (at : ℕ) (names m : List ℕ) where
  abbrev pub ArgsLeft : ℕ → ℕ → ℕ → List ℕ → Type 0
  ArgsLeft = Listing read_top_expr collect_names s at names m

  abbrev pub EmitsLeft : ℕ → ℕ → ℕ → List ℕ → Type 0
  EmitsLeft = Listing read_output_expr output_names s at names m

  abbrev pub SetsLeft : ℕ → ℕ → ℕ → List ℕ → Type 0
  SetsLeft = Listing read_assignment set_name s at names m

  module _ {a : Result (ℕ × Cursor) Refusal} (e : a ≡ answer (read_count max_list s at)) where
    module _ (r : ℕ) (m' : List ℕ) {t : Refusal} (q : a ≡ Err t) where
      pub args_refused : TouchesArgs s at names m r m'
      args_refused = record { end = λ xs n g. list_refused read_top_expr collect_names s at names m e q xs n g; of = λ xs n g. list_refused read_top_expr collect_names s at names m e q xs n g }

      pub emits_refused : TouchesEmits s at names m r m'
      emits_refused = record { end = λ xs n g. list_refused read_output_expr output_names s at names m e q xs n g; of = λ xs n g. list_refused read_output_expr output_names s at names m e q xs n g }

      pub sets_refused : TouchesSets s at names m r m'
      sets_refused = record { end = λ xs n g. list_refused read_assignment set_name s at names m e q xs n g; of = λ xs n g. list_refused read_assignment set_name s at names m e q xs n g }

    module _ {c : ℕ} {first : Cursor} (q : a ≡ Ok (c, first)) where
      pub args_start : ArgsLeft c 0 first.at m
      args_start = list_start read_top_expr collect_names s at names m e q

      pub emits_start : EmitsLeft c 0 first.at m
      emits_start = list_start read_output_expr output_names s at names m e q

      pub sets_start : SetsLeft c 0 first.at m
      sets_start = list_start read_assignment set_name s at names m e q

  module _ (count i k : ℕ) {m' : List ℕ} where
    pub args_more : {k' : ℕ} {m'' : List ℕ} → ArgsLeft count i k m' → i < count → TouchesExpr s k names m' k' m'' 32 → ArgsLeft count (i + 1) k' m''
    unfolding read_top_expr
    args_more g = list_more read_top_expr collect_names s at names m count i k g

    pub args_done : ArgsLeft count i k m' → count ≤ i → TouchesArgs s at names m k m'
    args_done g h = record { end = λ xs n q. (list_done read_top_expr collect_names s at names m count i k g h xs n q).0; of = λ xs n q. (list_done read_top_expr collect_names s at names m count i k g h xs n q).1 }

    pub emits_more : {k' : ℕ} {m'' : List ℕ} → EmitsLeft count i k m' → i < count → TouchesOutput s k names m' k' m'' → EmitsLeft count (i + 1) k' m''
    emits_more g = list_more read_output_expr output_names s at names m count i k g

    pub emits_done : EmitsLeft count i k m' → count ≤ i → TouchesEmits s at names m k m'
    unfolding emit_names
    emits_done g h = record { end = λ xs n q. (list_done read_output_expr output_names s at names m count i k g h xs n q).0; of = λ xs n q. (list_done read_output_expr output_names s at names m count i k g h xs n q).1 }

    pub sets_more : {k' : ℕ} {m'' : List ℕ} → SetsLeft count i k m' → i < count → TouchesSet s k names m' k' m'' → SetsLeft count (i + 1) k' m''
    sets_more g = list_more read_assignment set_name s at names m count i k g

    pub sets_done : SetsLeft count i k m' → count ≤ i → TouchesSets s at names m k m'
    sets_done g h = record {
      end = λ xs n q. (list_done read_assignment set_name s at names m count i k g h xs n q).0;
      of = λ xs n q. touched_as s names (set_names xs) (set_each xs) (list_done read_assignment set_name s at names m count i k g h xs n q).1;
    }

  -- an output and a set, by their fields
  pub output_goes : {group variant args : ℕ} (r : ℕ) (m' : List ℕ) → group ≡ after_head s at → Past s group variant → Past s variant args → TouchesArgs s args names m r m' → TouchesOutput s at names m r m'
  output_goes {group} {variant} {args} r m' h p q t = record { end = λ x n e. let v = output_expr_at s at x n e in t.end x.args n (ap (list_of max_list read_top_expr s) (place x n e) ∙ v.args_is); of = λ x n e. let v = output_expr_at s at x n e in t.of x.args n (ap (list_of max_list read_top_expr s) (place x n e) ∙ v.args_is) }
    where
      place : (x : _) (n : ℕ) (e : read_output_expr s at ≡ ok x n) → args ≡ (output_expr_at s at x n e).args
      place x n e =
          let v = output_expr_at s at x n e in
          let g : group ≡ v.group = h ∙ fields_head 3 s at tt v.group v.opens in
          let w : variant ≡ v.variant = p.is ∙ ap (after_item s) g ∙ after_is name_laws s p.each v.group x.group v.variant v.group_is in
          q.is ∙ ap (after_item s) w ∙ after_is (option_laws name_laws name_solid) s q.each v.variant x.variant v.args v.variant_is

  pub set_goes : {var value r : ℕ} {text : Name} {m' : List ℕ} → var ≡ after_head s at → text ≡ text_at s var → Touched s names m (text ∷ []) m' → Past s var value → Past s value r → TouchesSet s at names m r m'
  set_goes {var} {value} {r} {text} h t u p q = record {
    end = λ x n e.
        let v = assignment_at s at x n e in
        let g : var ≡ v.var = h ∙ fields_head 2 s at tt v.var v.opens in
        let w : value ≡ v.value = p.is ∙ ap (after_item s) g ∙ after_is name_laws s p.each v.var x.var v.value v.var_is in
        q.is ∙ ap (after_item s) w ∙ after_is top_expr_laws s q.each v.value x.value n v.value_is;
    of = λ x n e.
        let v = assignment_at s at x n e in
        let g : var ≡ v.var = h ∙ fields_head 2 s at tt v.var v.opens in
        touched_as s names (set_name x) (ap (λ (y : Name). y ∷ []) (t ∙ ap (text_at s) g ∙ name_text s v.var x.var v.value v.var_is)) u;
  }

  -- a guard and on_error, where they are given
  module _ {b : Bool} (e : b ≡ eqb (get_or s at 0) 246) where
    pub guard_none : b ≡ true → Mentions read_top_expr guard_names s at names m m
    unfolding guard_names
    guard_none q = record { of = λ x g. rw (not_given read_top_expr s at g e q) (touched_none s names m) }

    pub guard_some : {r : ℕ} {m' : List ℕ} → b ≡ false → TouchesExpr s at names m r m' 32 → Mentions read_top_expr guard_names s at names m m'
    unfolding guard_names read_top_expr
    guard_some q t = record { of = λ x g. let v = is_given read_top_expr s at g e q in rw v.is (t.of v.item v.reads.end v.reads.is) }

    pub error_none : b ≡ true → Mentions read_on_error error_touched s at names m m
    unfolding error_touched
    error_none q = record { of = λ x g. rw (not_given read_on_error s at g e q) (touched_none s names m) }

    pub error_some : {next emits r : ℕ} {m' : List ℕ} → b ≡ false → next ≡ after_head s at → Past s next emits → TouchesEmits s emits names m r m' → Mentions read_on_error error_touched s at names m m'
    unfolding error_touched
    error_some {next} {emits} q h p t = record {
      of = λ x g.
          let v = is_given read_on_error s at g e q in
          let y = v.item in
          let k = v.reads.end in
          let w = on_error_at s at y k v.reads.is in
          let i : next ≡ w.next_state = h ∙ fields_head 2 s at tt w.next_state w.opens in
          let j : emits ≡ w.emits = p.is ∙ ap (after_item s) i ∙ after_is name_laws s p.each w.next_state y.next_state w.emits w.next_state_is in
          rw v.is (t.of y.emits k (ap (list_of max_list read_output_expr s) j ∙ w.emits_is));
    }

-- transitions
module _ (s rows names m : List ℕ) where
  pub row_goes : (i : ℕ) {guard emits sets r r' : ℕ} {m₁ m₂ m' : List ℕ} → guard ≡ field rows i 3 → Mentions read_top_expr guard_names s guard names m m₁ → emits ≡ field rows i 5 → TouchesEmits s emits names m₁ r m₂ → sets ≡ field rows i 6 → TouchesSets s sets names m₂ r' m' → TouchesRow s rows names m m' i
  unfolding touched
  row_goes i g p e q h t = record {
    of = λ x w.
        touched_then s names
        (touched_then s names (p.of x.guard (record { end = field rows i 4; is = rw g w.guard_is })) (q.of x.emits (field rows i 6) (rw e w.emits_are)))
        (t.of x.assignments (field rows i 7) (rw h w.assignments_are));
  }

  pub record RowsLeft (count i : ℕ) (m' : List ℕ) : Type 0 where
    pub of : (ts : List Transition) → Rows s rows ts → count ≡ length ts → (done : List Name) × (done ++ each touched (drop i ts) ≡ each touched ts) × Touched s names m done m'

  pub rows_start : (count : ℕ) → RowsLeft count 0 m
  rows_start count = record { of = λ ts w q. ([], refl, touched_none s names m) }

  module _ (count i : ℕ) {m' : List ℕ} (g : RowsLeft count i m') where
    pub rows_more : {m'' : List ℕ} → i < count → TouchesRow s rows names m' m'' i → RowsLeft count (i + 1) m''
    rows_more h t = record {
      of = λ ts w q.
          let v = g.of ts w q in
          let x = get_some ts i (omega arith) in
          let d = drop_get ts i x.0 x.1 in
          (v.0 ++ touched x.0, append_assoc v.0 (touched x.0) (each touched (drop (i + 1) ts)) ∙ ap (λ (l : List Transition). v.0 ++ each touched l) (sym d) ∙ v.1, touched_then s names v.2 (t.of x.0 (w.at i x.0 x.1)));
    }

    pub rows_full : {b : Bool} → AllMarked names m' b → b ≡ true → TouchesRows s rows names m m' count
    rows_full f q = record {
      of = λ ts w c.
          let v = g.of ts w c in
          touched_as s names (each touched ts) v.1 (touched_then s names v.2 (touched_full s names m' (each touched (drop i ts)) (f.of q)));
    }

    pub rows_done : count ≤ i → TouchesRows s rows names m m' count
    rows_done h = record {
      of = λ ts w q.
          let v = g.of ts w q in
          touched_as s names (each touched ts) (sym (append-nil v.0) ∙ ap (λ (l : List Transition). v.0 ++ each touched l) (sym (drop_of_length-le ts {i = i} (omega arith))) ∙ v.1) v.2;
    }

  pub all_goes : (places : List ℕ) (count : ℕ) {at : ℕ} {m₁ m' : List ℕ} → TouchesRows s rows names m m₁ count → at ≡ get_or places 2 0 → Mentions read_on_error error_touched s at names m₁ m' → TouchesAll s rows names m m' places count
  unfolding all_touched
  all_goes places count t e p = record { of = λ x c w q. touched_then s names (t.of x.transitions w q) (p.of x.on_error (rw e c.on_error_is)) }
