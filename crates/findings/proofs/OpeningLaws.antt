-- Sites 1 to 5, each by what stands at its place, and one after another.
use Prim.Native.Nat.{ℕ, ◌+◌, ◌<◌, ◌≤◌}
use mathlib.Core.Path.{◌≡◌, sym, ap, ◌∙◌}
use mathlib.Core.List.{List}
use mathlib.Core.Bool.{Bool, true, false, not}
use mathlib.Core.Option.{Option}
use lib.ListN.{get_or}
use lib.Dec.{eqb}
use Rattle.reading.specs.Limits.{max_list, max_depth}
use Rattle.reading.specs.Item.{read_count}
use Rattle.reading.specs.Text.{Name, read_name, read_version}
use Rattle.reading.specs.Expr.{read_expr}
use Rattle.reading.specs.Decl.{VarDecl, read_var_decl}
use Rattle.reading.specs.Transition.{read_top_expr}
use Rattle.reading.specs.Skip.{text_at}
use Rattle.reading.specs.Link.{answer}
use Rattle.reading.proofs.ExprLaws.{name_laws}
use Rattle.reading.proofs.DeclLaws.{ty_laws}
use Rattle.reading.proofs.Views.{var_decl_at}
use Rattle.reading.proofs.Walks.{name_text, version_text}
use Rattle.typing.specs.Env.{Env, Agree, for_module}
use Rattle.typing.specs.Tells.{Ends}
use Rattle.typing.specs.Table.{after_item, after_head, Past}
use Rattle.typing.specs.Blocks.{env_at}
use Rattle.typing.specs.Version.{is_valid_version_format}
use Rattle.typing.proofs.EnvLaws.{after_is, fields_head}
use Rattle.findings.specs.Lists.{Placed}
use Rattle.findings.specs.Finding.{Note, note, noted}
use Rattle.findings.specs.Noting.{Noted}
use Rattle.findings.specs.Mentions.{states}
use Rattle.findings.specs.Errors.{initial_notes, version_notes, init_notes, opening}
use Rattle.findings.specs.Promises.{InitAt, NoStates, NotesTyped, NotesState, NotesInitial, NotesVersion, NotesInits, NotesOpening}
use Rattle.findings.proofs.NoteLaws.{note_nothing, note_then, note_as}
use Rattle.findings.proofs.RowLaws.{moved}
use Rattle.findings.proofs.OptionLaws.{not_given, is_given}
use Rattle.findings.proofs.EachLaws.{Walking, walk_refused, walk_more, walk_done}
use Rattle.std.specs.Prelude.{Result, Option as Maybe, Err}
use Rattle.reading.specs.declared.fault.Refusal.{Refusal}
use Rattle.reading.specs.declared.cursor.Cursor.{Cursor}

module _ (s : List ℕ) (owner : ℕ) {o : List ℕ} {skip n : ℕ} (at : ℕ) {t : Bool} (e : t ≡ eqb (get_or s at 0) 246) where
  -- the initial state
  module _ {o' : List ℕ} {r : ℕ} {found : Maybe ℕ} {moves : Bool} where
    pub initial_absent : t ≡ true → Noted owner o skip n (noted moves (note 3 0 0 0)) r o' → NotesInitial s owner o skip n r o' found at moves
    unfolding initial_notes
    initial_absent q p = record { of = λ vs w h g. note_as owner _ (ap (λ (x : Option Name). initial_notes vs x moves) (sym (not_given read_name s at g e q))) p }

    pub initial_given : t ≡ false → NotesState s owner o skip n r o' found at 2 0 → NotesInitial s owner o skip n r o' found at moves
    unfolding initial_notes
    initial_given q p = record {
      of = λ vs w h g.
          let v = is_given read_name s at g e q in
          note_as owner _ (ap (λ (x : Option Name). initial_notes vs x moves) (sym v.is)) (p.of vs v.item h (name_text s at v.item v.reads.end v.reads.is));
    }

  -- the version
  pub version_absent : t ≡ true → NotesVersion s owner o skip n n o at
  unfolding version_notes
  version_absent q = record { of = λ w g. note_as owner _ (ap version_notes (sym (not_given read_version s at g e q))) (note_nothing owner o skip n) }

  pub version_given : {o' : List ℕ} {r : ℕ} {v : Name} {b : Bool} → t ≡ false → v ≡ text_at s at → b ≡ is_valid_version_format v → Noted owner o skip n (noted (not b) (note 4 0 0 0)) r o' → NotesVersion s owner o skip n r o' at
  unfolding version_notes
  version_given {b = b} q i f p = record {
    of = λ w g.
        let v = is_given read_version s at g e q in
        let u : b ≡ is_valid_version_format v.item = f ∙ ap is_valid_version_format (i ∙ version_text s at v.item v.reads.end v.reads.is) in
        note_as owner _ (ap (λ (z : Bool). noted (not z) (note 4 0 0 0)) u ∙ ap version_notes (sym v.is)) p;
  }

-- the first value of a variable stands after its name and type
pub init_place : (s : List ℕ) {at name ty r : ℕ} → name ≡ after_head s at → Past s name ty → Past s ty r → InitAt s at r
init_place s {at} {name} {ty} {r} i p q = record {
  of = λ v n g.
      let d = var_decl_at s at v n g in
      let a : name ≡ d.name = i ∙ fields_head 3 s at tt d.name d.opens in
      let b : ty ≡ d.ty = p.is ∙ ap (after_item s) a ∙ after_is name_laws s p.each d.name v.name d.ty d.name_is in
      let c : r ≡ d.init = q.is ∙ ap (after_item s) b ∙ after_is ty_laws s q.each d.ty v.ty d.init d.ty_is in
      ap (read_expr max_depth s) c ∙ d.init_is;
}

-- the first values, variable by variable
module _ (s : List ℕ) (names enums : List ℕ) where
  abbrev pub Meant : Type 0
  Meant = (env : Env) × Agree (env_at s names enums) env

  abbrev pub meant_inits : Meant → Placed VarDecl → List Note
  meant_inits h v = init_notes h.0 v

abbrev pub Inits : (s names enums : List ℕ) (at owner : ℕ) (o : List ℕ) (skip n count k i r : ℕ) (o' : List ℕ) → Type 0
Inits s names enums at owner o skip n = Walking read_var_decl (meant_inits s names enums) s max_list at owner o skip n

pub inits_refused : (s names enums : List ℕ) (at owner : ℕ) {o : List ℕ} {skip n : ℕ} {a : Result (ℕ × Cursor) Refusal} {t : Refusal} → a ≡ answer (read_count max_list s at) → a ≡ Err t → NotesInits s owner o skip n n o at names enums
inits_refused s names enums at owner {o} {skip} {n} e q = record {
  of = λ vs env g h. walk_refused read_var_decl (meant_inits s names enums) s max_list at owner o skip n e q vs g;
}

module _ (s names enums : List ℕ) (at owner : ℕ) {o : List ℕ} {skip n count k i r : ℕ} {o' : List ℕ} (w : Inits s names enums at owner o skip n count k i r o') where
  pub inits_more : {init k' r' : ℕ} {o'' : List ℕ} → i < count → InitAt s k init → NotesTyped s owner o' skip r r' o'' init names enums 5 i 0 → Ends (read_expr max_depth s init) k' → Inits s names enums at owner o skip n count k' (i + 1) r' o''
  unfolding init_notes read_top_expr
  inits_more b d p t =
      walk_more read_var_decl (meant_inits s names enums) s max_list at owner o skip n w b
      (λ h v g. p.of v.init h.0 (record { end = g.end; is = d.of v g.end g.is }) h.1)
      (λ v e g. t.of v.init e (d.of v e g))

  pub inits_done : count ≤ i → NotesInits s owner o skip n r o' at names enums
  inits_done b = record { of = λ vs env g a. walk_done read_var_decl (meant_inits s names enums) s max_list at owner o skip n w b (env, a) vs g }

-- one after another
module _ (s : List ℕ) (owner : ℕ) {o o₁ o₂ o₃ o' : List ℕ} {skip n a b c r : ℕ} {places : List ℕ} {found : Maybe ℕ} {moves bare : Bool} {names enums : List ℕ} {p₁ p₄ p₇ : ℕ} where
  pub opening_noted : NoStates s found bare → Noted owner o skip n (noted bare (note 1 0 0 0)) a o₁ → p₄ ≡ get_or places 4 0 → NotesInitial s owner o₁ skip a b o₂ found p₄ moves → p₁ ≡ get_or places 1 0 → NotesVersion s owner o₂ skip b c o₃ p₁ → p₇ ≡ get_or places 7 0 → NotesInits s owner o₃ skip c r o' p₇ names enums → NotesOpening s owner o skip n r o' places found moves names enums
  unfolding opening
  opening_noted e p i q j u k v = record {
    of = λ m g h f.
        let x = note_as owner _ (ap (λ (z : Bool). noted z (note 1 0 0 0)) (e.of (states m) h)) p in
        let y = q.of (states m) m.initial_state h (moved i g.initial_state_is) in
        let z = u.of m.version (moved j g.version_is) in
        note_then owner (note_then owner (note_then owner x y) z) (v.of m.vars (for_module m) (moved k g.vars_are) f);
  }
