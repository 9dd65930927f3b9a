-- The tables of places that are filled have the places where a module's fields and its transitions' fields read.
use Prim.Native.Nat.{ℕ, zero, suc, ◌+◌, ◌*◌, ◌<◌, ◌≤◌}
use mathlib.Core.Path.{◌≡◌, refl, sym, ap, ◌∙◌}
use mathlib.Core.List.{List, [], ◌∷◌, ◌++◌, append_assoc}
use mathlib.Core.Option.{some}
use native.Mathlib.Omega.{arith}
use lib.ListN.{length, get_or, get_elem?, set, drop, length-append, get_or-append}
use lib.Seq.{sets, length-sets, sets-eq, get_or-append-add}
use Rattle.reading.specs.Read.{Reader, ok}
use Rattle.reading.specs.Limits.{max_u32, max_u64, max_list}
use Rattle.reading.specs.Combine.{entries, list_of}
use Rattle.reading.specs.Decl.{read_constructor_group}
use Rattle.reading.specs.Transition.{Transition, read_transition}
use Rattle.reading.specs.Module.{Module, read_module}
use Rattle.reading.specs.Views.{TransitionAt, ModuleAt}
use Rattle.reading.proofs.Rules.{no}
use Rattle.reading.proofs.HeadSound.{Bytes}
use Rattle.reading.proofs.ExprLaws.{name_laws, name_solid, version_laws, version_solid}
use Rattle.reading.proofs.DeclLaws.{enum_decl_laws, constructor_group_laws, var_decl_laws}
use Rattle.reading.proofs.PatternLaws.{pattern_laws}
use Rattle.reading.proofs.TransitionLaws.{top_expr_laws, top_expr_solid, output_expr_laws, assignment_laws, on_error_laws, on_error_solid}
use Rattle.reading.proofs.ModuleLaws.{property_laws}
use Rattle.reading.proofs.ItemLaws.{number_laws}
use Rattle.reading.proofs.ListLaws.{list_laws}
use Rattle.reading.proofs.OptionLaws.{option_laws, number_solid}
use Rattle.reading.proofs.Views.{transition_at, module_at}
use Rattle.reading.proofs.ListViews.{list_at}
use Rattle.typing.specs.Table.{after_item, after_head, pairs_at, Past}
use Rattle.typing.specs.First.{GroupsAt}
use Rattle.typing.specs.Rolls.{OutputsAt}
use Rattle.typing.proofs.EnvLaws.{entry, after_is, fields_head}
use Rattle.typing.proofs.GroupLaws.{groups_at}
use Rattle.typing.proofs.BlockLaws.{word_kept}
use Rattle.findings.specs.Scene.{row_from, end_from, row_at, row_end, rows_from, rows_end, rows_of, rows_at, RowsFilled, Reads, field, RowAt, Rows, events_in, outputs_in, with_table, GroupsFilled, Scene, OpensRest, Opens}
use Rattle.findings.specs.declared.rows.Listed.{Listed}
use Rattle.findings.proofs.RowLaws.{row_length, sets_append}
use Rattle.findings.proofs.ClaimTables.{pairs_few}
use Rattle.findings.proofs.GroupTables.{table_size, table_kept, table_back, groups_kept}

module _ (s : List ℕ) (B : Bytes s) where
  -- the places of a transition's fields
  pub record RowIs (at : ℕ) (t : Transition) (n : ℕ) : Type 0 where
    pub view : TransitionAt s at t n
    pub row : row_at 8 s at ≡ view.id ∷ view.state ∷ view.pattern ∷ view.guard ∷ view.next_state ∷ view.emits ∷ view.assignments ∷ view.priority ∷ []
    pub end : row_end 8 s at ≡ n

  pub row_is : (at : ℕ) (t : Transition) (n : ℕ) → read_transition s at ≡ ok t n → RowIs at t n
  unfolding row_from end_from
  row_is at t n e =
      let v = transition_at s at t n e in
      let h = fields_head 8 s at tt v.id v.opens in
      let a = after_is (number_laws max_u64 (omega arith)) s B _ _ _ v.id_is in
      let b = after_is name_laws s B _ _ _ v.state_is in
      let c = after_is pattern_laws s B _ _ _ v.pattern_is in
      let d = after_is (option_laws top_expr_laws top_expr_solid) s B _ _ _ v.guard_is in
      let f = after_is name_laws s B _ _ _ v.next_state_is in
      let g = after_is (list_laws output_expr_laws max_list (omega arith)) s B _ _ _ v.emits_is in
      let i = after_is (list_laws assignment_laws max_list (omega arith)) s B _ _ _ v.assignments_is in
      let j = after_is (option_laws (number_laws max_u32 (omega arith)) (number_solid max_u32)) s B _ _ _ v.priority_is in
      record { view = v; row = rw (h, a, b, c, d, f, g, i); end = rw (h, a, b, c, d, f, g, i, j) }

  row_at_lem : (at : ℕ) (t : Transition) (n : ℕ) (rest : List ℕ) → RowIs at t n → RowAt s (row_at 8 s at ++ rest) 0 t
  row_at_lem at t n rest r =
      let v = r.view in
      rw r.row (record {
        id_is = v.id_is;
        state_is = v.state_is;
        pattern_is = v.pattern_is;
        guard_is = v.guard_is;
        next_state_is = v.next_state_is;
        emits_are = v.emits_is;
        assignments_are = v.assignments_is;
        priority_is = record { end = n; is = v.priority_is };
      })

  -- the rows after a row
  row_after : (row r : List ℕ) → length row ≡ 8 → (i : ℕ) (t : Transition) → RowAt s r i t → RowAt s (row ++ r) (suc i) t
  row_after row r l i t h = record {
    id_is = rw (shift 0, shift 1) h.id_is;
    state_is = rw (shift 1, shift 2) h.state_is;
    pattern_is = rw (shift 2, shift 3) h.pattern_is;
    guard_is = rw (shift 3, shift 4) h.guard_is;
    next_state_is = rw (shift 4, shift 5) h.next_state_is;
    emits_are = rw (shift 5, shift 6) h.emits_are;
    assignments_are = rw (shift 6, shift 7) h.assignments_are;
    priority_is = rw (shift 7) h.priority_is;
  }
    where
      shift : (f : ℕ) → field (row ++ r) (suc i) f ≡ field r i f
      shift f = let q : 8 * suc i + f ≡ length row + (8 * i + f) = omega arith in ap (λ (j : ℕ). get_or (row ++ r) j 0) q ∙ get_or-append-add row r (8 * i + f) 0

  rows_from_lem : (ts : List Transition) (k n : ℕ) (more : List ℕ) → entries (length ts) read_transition s k ≡ ok ts n → (i : ℕ) (t : Transition) → get_elem? ts i ≡ some t → RowAt s (rows_from (length ts) s k ++ more) i t
  unfolding rows_from
  rows_from_lem [] k n more e i t q = no (cc)
  rows_from_lem (x ∷ ts) k n more e zero t q =
      let u = entry read_transition s k x ts n e in
      let z : x ≡ t = cc in
      rw (append_assoc, ← z) (row_at_lem k x u.end (rows_from (length ts) s (row_end 8 s k) ++ more) (row_is k x u.end u.here))
  rows_from_lem (x ∷ ts) k n more e (suc i) t q =
      let u = entry read_transition s k x ts n e in
      let r = row_is k x u.end u.here in
      rw append_assoc (row_after (row_at 8 s k) (rows_from (length ts) s (row_end 8 s k) ++ more) (row_length 8 s (after_head s k)) i t (rows_from_lem ts (row_end 8 s k) n more (ap (entries (length ts) read_transition s) r.end ∙ u.rest) i t q))

  rows_end_lem : (ts : List Transition) (k n : ℕ) → entries (length ts) read_transition s k ≡ ok ts n → rows_end (length ts) s k ≡ n
  unfolding rows_end entries
  rows_end_lem [] k n e = cc
  rows_end_lem (x ∷ ts) k n e =
      let u = entry read_transition s k x ts n e in
      let r = row_is k x u.end u.here in
      ap (rows_end (length ts) s) r.end ∙ rows_end_lem ts u.end n u.rest

  rows_length : (c k : ℕ) → length (rows_from c s k) ≡ 8 * c
  unfolding rows_from
  rows_length zero k = refl
  rows_length (suc c) k =
      let a = length-append (row_at 8 s k) (rows_from c s (row_end 8 s k)) in
      let b = row_length 8 s (after_head s k) in
      let d = rows_length c (row_end 8 s k) in
      omega arith

  -- the table that fill_rows leaves
  pub record RowsSet (r : Listed) (table : List ℕ) (ts : List Transition) (n : ℕ) : Type 0 where
    pub rows : Rows s table ts
    pub count : r.count ≡ length ts
    pub end : r.end ≡ n

  pub rows_set : (at : ℕ) (o : List ℕ) (r : Listed) (table : List ℕ) (ts : List Transition) (n : ℕ) → 2040 ≤ length o → RowsFilled s at o r table → list_of max_list read_transition s at ≡ ok ts n → RowsSet r table ts n
  unfolding rows_at rows_of
  rows_set at o r table ts n h g e =
      let l = list_at read_transition s max_list at ts n e in
      let p = g.of (length ts) l.first l.opens in
      let w : rows_at s at ≡ rows_from (length ts) s l.first = rw l.opens in
      let m = rows_length (length ts) l.first in
      let f = l.few in
      let room : length (rows_from (length ts) s l.first) ≤ length o = omega arith in
      let t : table ≡ rows_from (length ts) s l.first ++ drop (0 + length (rows_from (length ts) s l.first)) o = g.words ∙ ap (sets o 0) w ∙ sets-eq (rows_from (length ts) s l.first) o 0 (omega arith) in
      record {
        rows = record { at = λ i x q. rw t (rows_from_lem ts l.first n _ l.entries_are i x q) };
        count = p.0;
        end = p.1 ∙ rows_end_lem ts l.first n l.entries_are;
      }

  -- the places of a module's fields, up to its transitions
  record PlacesAre (at : ℕ) (m : Module) (n : ℕ) : Type 0 where
    view : ModuleAt s at m n
    row : row_at 8 s at ≡ view.name ∷ view.version ∷ view.on_error ∷ view.enums ∷ view.initial_state ∷ view.events ∷ view.outputs ∷ view.vars ∷ []
    end : row_end 8 s at ≡ view.transitions

  places_are : (at : ℕ) (m : Module) (n : ℕ) → read_module s at ≡ ok m n → PlacesAre at m n
  unfolding row_from end_from
  places_are at m n e =
      let v = module_at s at m n e in
      let h = fields_head 11 s at tt v.name v.opens in
      let a = after_is name_laws s B _ _ _ v.name_is in
      let b = after_is (option_laws version_laws version_solid) s B _ _ _ v.version_is in
      let c = after_is (option_laws on_error_laws on_error_solid) s B _ _ _ v.on_error_is in
      let d = after_is (list_laws enum_decl_laws max_list (omega arith)) s B _ _ _ v.enums_is in
      let f = after_is (option_laws name_laws name_solid) s B _ _ _ v.initial_state_is in
      let g = after_is (list_laws constructor_group_laws max_list (omega arith)) s B _ _ _ v.events_is in
      let i = after_is (list_laws constructor_group_laws max_list (omega arith)) s B _ _ _ v.outputs_is in
      let j = after_is (list_laws var_decl_laws max_list (omega arith)) s B _ _ _ v.vars_is in
      record { view = v; row = rw (h, a, b, c, d, f, g, i); end = rw (h, a, b, c, d, f, g, i, j) }

  -- the places of a module's fields, in their order
  abbrev places_of : {at : ℕ} {m : Module} {n : ℕ} → ModuleAt s at m n → List ℕ
  places_of v = v.name ∷ v.version ∷ v.on_error ∷ v.enums ∷ v.initial_state ∷ v.events ∷ v.outputs ∷ v.vars ∷ v.transitions ∷ v.properties ∷ v.assumptions ∷ []

  reads_there : {A : Type 0} (F : Reader A) {k k' : ℕ} {x : A} {n : ℕ} → k ≡ k' → F s k' ≡ ok x n → Reads F s k x
  reads_there F {n = n} h e = record { end = n; is = ap (F s) h ∙ e }

  scene_is : (places : List ℕ) (at : ℕ) (m : Module) (n : ℕ) (v : ModuleAt s at m n) → ((i : ℕ) → i < 11 → get_or places i 0 ≡ get_or (places_of v) i 0) → GroupsAt s (events_in places) m.events → OutputsAt s (outputs_in places) m.outputs → Scene s places m
  scene_is places at m n v k e o = record {
    name_is = reads_there _ (k 0 (omega arith)) v.name_is;
    version_is = reads_there _ (k 1 (omega arith)) v.version_is;
    on_error_is = reads_there _ (k 2 (omega arith)) v.on_error_is;
    enums_are = reads_there _ (k 3 (omega arith)) v.enums_is;
    initial_state_is = reads_there _ (k 4 (omega arith)) v.initial_state_is;
    events_are = reads_there _ (k 5 (omega arith)) v.events_is;
    outputs_are = reads_there _ (k 6 (omega arith)) v.outputs_is;
    vars_are = reads_there _ (k 7 (omega arith)) v.vars_is;
    transitions_are = reads_there _ (k 8 (omega arith)) v.transitions_is;
    properties_are = reads_there _ (k 9 (omega arith)) v.properties_is;
    assumptions_are = reads_there _ (k 10 (omega arith)) v.assumptions_is;
    event_groups = e;
    output_groups = o;
  }

pub rest_opened : (s : List ℕ) (t : ℕ) (o o₁ o₂ o₃ q q₁ : List ℕ) {a e : ℕ} {l : Listed} → o₁ ≡ set o 8 t → RowsFilled s t q l q₁ → o₂ ≡ set o₁ 9 l.end → Past s l.end a → o₃ ≡ set o₂ 10 a → Past s a e → OpensRest s t o q (record { count = l.count; end = e }) o₃ q₁
rest_opened s t o o₁ o₂ o₃ q q₁ {a} {e} {l} e₁ f e₂ pa e₃ pe = record { listed = l; assumptions = a; filled = f; words = rw (e₃, e₂, e₁); after_properties = pa; after_all = pe; count = refl }

-- what open_module leaves
module _ (s : List ℕ) (at : ℕ) (o₀ o₁ o₄ o₅ q₀ q₁ : List ℕ) (t : ℕ) (r : Listed) where
  pub opened : 1544 ≤ length o₀ → 2040 ≤ length q₀ → t ≡ row_end 8 s at → o₁ ≡ sets o₀ 0 (row_at 8 s at) → OpensRest s t o₁ q₀ r o₄ q₁ → GroupsFilled s o₄ o₅ → Opens s at r o₅ q₁
  opened h k et e₁ y e₅ = record {
    of = λ m n g.
        let l = y.listed in
        let a = y.assumptions in
        let pa = y.after_properties in
        let pe = y.after_all in
        let B = pa.each in
        let x = places_are s B at m n g in
        let v = x.view in
        let u : t ≡ v.transitions = et ∙ x.end in
        let w = rows_set s B t q₀ l q₁ m.transitions v.properties k y.filled (ap (list_of max_list read_transition s) u ∙ v.transitions_is) in
        let z : a ≡ v.assumptions = pa.is ∙ ap (after_item s) w.end ∙ after_is (list_laws property_laws max_list (omega arith)) s B _ _ _ v.properties_is in
        let end : r.end ≡ n = pe.is ∙ ap (after_item s) z ∙ after_is (list_laws property_laws max_list (omega arith)) s B _ _ _ v.assumptions_is in
        let len = row_length 8 s (after_head s at) in
        let whole : o₄ ≡ (row_at 8 s at ++ t ∷ l.end ∷ a ∷ []) ++ drop (0 + length (row_at 8 s at ++ t ∷ l.end ∷ a ∷ [])) o₀ =
        y.words ∙ rw e₁ (sym (sets_append o₀ 0 (row_at 8 s at) (t ∷ l.end ∷ a ∷ []) ∙ ap (λ (j : ℕ). sets (sets o₀ 0 (row_at 8 s at)) j (t ∷ l.end ∷ a ∷ [])) (omega arith))) ∙ sets-eq (row_at 8 s at ++ t ∷ l.end ∷ a ∷ []) o₀ 0 (omega (arith, length-append (row_at 8 s at) (t ∷ l.end ∷ a ∷ []))) in
        let fields : row_at 8 s at ++ t ∷ l.end ∷ a ∷ [] ≡ places_of s B v = rw (x.row, u, w.end, z) in
        let stands : (i : ℕ) → i < 11 → get_or o₄ i 0 ≡ get_or (places_of s B v) i 0 = λ i j. ap (λ (p : List ℕ). get_or p i 0) whole ∙ get_or-append (row_at 8 s at ++ t ∷ l.end ∷ a ∷ []) _ 0 i (omega (arith, ap length fields)) ∙ ap (λ (p : List ℕ). get_or p i 0) fields in
        let size : length o₄ ≡ length o₀ = ap length y.words ∙ length-sets o₁ 8 (t ∷ l.end ∷ a ∷ []) ∙ ap length e₁ ∙ length-sets o₀ 0 (row_at 8 s at) in
        let E = pairs_at s (get_or o₄ 5 0) in
        let few = pairs_few s (get_or o₄ 5 0) in
        let p = with_table o₄ 11 12 E in
        let long = table_size o₄ 11 12 E few in
        let same : (i : ℕ) → i < 522 → get_or o₅ i 0 ≡ get_or p i 0 = word_kept p o₅ 522 e₅.kept in
        let kept : (i : ℕ) → i < 11 → get_or o₅ i 0 ≡ get_or o₄ i 0 = λ i j. same i (omega arith) ∙ table_kept o₄ 11 12 E few i (omega arith) (λ q. omega arith) in
        let events : events_in o₅ ≡ E = groups_kept p o₅ (omega arith) e₅.kept ∙ table_back o₄ 11 12 E few (omega arith) (omega arith) in
        let c = groups_at s B (get_or o₄ 5 0) m.events _ (ap (list_of max_list read_constructor_group s) (stands 5 (omega arith)) ∙ v.events_is) in
        let d = e₅.outputs.of B m.outputs _ (ap (list_of max_list read_constructor_group s) (stands 6 (omega arith)) ∙ v.outputs_is) in
        record {
          bytes = B;
          scene = scene_is s B o₅ at m n v (λ i j. kept i j ∙ stands i j) (rw events c) d;
          rows_are = w.rows;
          count = y.count ∙ w.count;
          end = end;
        };
  }
