-- The State variants stand after the name of the first enum called State.
use Prim.Native.Nat.{ℕ}
use mathlib.Core.Path.{◌≡◌, refl, sym, ap, subst, ◌∙◌}
use mathlib.Core.List.{List, [], ◌∷◌}
use mathlib.Core.Bool.{Bool, true, false, not}
use mathlib.Core.Option.{Option}
use native.Mathlib.Omega.{arith}
use borrow.Author.Tests.{ne_eqb}
use lib.ListN.{length}
use lib.Dec.{eqb}
use Rattle.reading.specs.Limits.{max_list}
use Rattle.reading.specs.Item.{read_count}
use Rattle.reading.specs.Text.{Name, read_name}
use Rattle.reading.specs.Decl.{EnumDecl, read_names, read_enum_decl}
use Rattle.reading.specs.Skip.{text_at}
use Rattle.reading.specs.Link.{answer}
use Rattle.reading.specs.declared.cursor.Cursor.{Cursor}
use Rattle.reading.proofs.Rules.{no}
use Rattle.reading.proofs.Answers.{got, out}
use Rattle.reading.proofs.HeadSound.{Bytes}
use Rattle.reading.proofs.ExprLaws.{name_laws}
use Rattle.reading.proofs.Views.{enum_decl_at}
use Rattle.reading.proofs.ListViews.{list_at}
use Rattle.typing.specs.Names.{member, state_enum}
use Rattle.typing.specs.Table.{after_item, after_head, Past, member_at}
use Rattle.typing.specs.First.{enum_name, First}
use Rattle.typing.proofs.EnvLaws.{after_is, fields_head, member_is}
use Rattle.typing.proofs.FirstLaws.{found_no, found_yes}
use Rattle.findings.specs.Finding.{note, noted}
use Rattle.findings.specs.Noting.{Noted}
use Rattle.findings.specs.Scene.{StatesAt, states_here, states_none}
use Rattle.findings.specs.Mentions.{enum_variants}
use Rattle.findings.specs.Errors.{unknown_state, is_empty}
use Rattle.findings.specs.Promises.{FirstStates, IsState, NoStates, NotesState}
use Rattle.findings.proofs.NoteLaws.{note_as}
use Rattle.std.specs.Prelude.{Result, Option as Maybe, Some, None, Ok, Err}
use Rattle.reading.specs.declared.fault.Refusal.{Refusal}

module _ (s : List ℕ) where
  -- the first enum called State
  module _ {at : ℕ} {f : Maybe ℕ} (e : First read_enum_decl enum_name s at state_enum f) where
    pub no_enum : f ≡ None → FirstStates s at None
    unfolding enum_variants
    no_enum q = record {
      of = λ es g. subst (λ (o : Option EnumDecl). StatesAt s None (enum_variants o)) (sym (found_no (e.of es g.end g.is) q)) states_none;
    }

    pub enum_found : {k name v : ℕ} → f ≡ Some k → name ≡ after_head s k → Past s name v → FirstStates s at (Some v)
    unfolding enum_variants
    enum_found {k} {name} {v} q i p = record {
      of = λ es g.
          let y = found_yes (e.of es g.end g.is) q in
          let d = enum_decl_at s k y.0 y.1 y.2 in
          let a : name ≡ d.name = i ∙ fields_head 2 s k tt d.name d.opens in
          let b : v ≡ d.variants = p.is ∙ ap (after_item s) a ∙ after_is name_laws s p.each d.name y.0.name d.variants d.name_is in
          subst (λ (o : Option EnumDecl). StatesAt s (Some v) (enum_variants o)) (sym y.3) (states_here (record { end = y.1; is = ap (read_names s) b ∙ d.variants_is }));
    }

  -- whether a name is a State variant
  module _ {found : Maybe ℕ} (at : ℕ) where
    pub state_at : {k : ℕ} {w : Name} {r : Bool} → Bytes s → found ≡ Some k → w ≡ text_at s at → r ≡ member_at s k w → IsState s found at r
    state_at {k} {w} {r} B q t e = record { of = λ vs h. go h q }
      where
        go : {f : Maybe ℕ} {vs : List Name} → StatesAt s f vs → f ≡ Some k → r ≡ member (text_at s at) vs
        go {vs = vs} (states_here {k = j} g) z =
            let i : k ≡ j = cc in
            e ∙ ap (λ (x : ℕ). member_at s x w) i ∙ ap (member_at s j) t ∙ member_is s B j (text_at s at) vs g.end g.is
        go states_none z = no (cc)

    pub state_none : found ≡ None → IsState s found at false
    unfolding member
    state_none q = record { of = λ vs h. go h q }
      where
        go : {f : Maybe ℕ} {vs : List Name} → StatesAt s f vs → f ≡ None → false ≡ member (text_at s at) vs
        go (states_here g) z = no (cc)
        go states_none z = refl

  -- whether there are none
  empty_length : {A : Type 0} (xs : List A) → eqb (length xs) 0 ≡ is_empty xs
  unfolding is_empty
  empty_length [] = refl
  empty_length (x ∷ xs) = ne_eqb (length (x ∷ xs)) 0 λ e. omega arith

  module _ {found : Maybe ℕ} where
    pub states_nothing : found ≡ None → NoStates s found true
    unfolding is_empty
    states_nothing q = record { of = λ vs h. go h q }
      where
        go : {f : Maybe ℕ} {vs : List Name} → StatesAt s f vs → f ≡ None → true ≡ is_empty vs
        go (states_here g) z = no (cc)
        go states_none z = refl

    module _ {k : ℕ} (q : found ≡ Some k) {a : Result (ℕ × Cursor) Refusal} (e : a ≡ answer (read_count max_list s k)) where
      pub states_many : {count : ℕ} {c : Cursor} → a ≡ Ok (count, c) → NoStates s found (eqb count 0)
      unfolding read_names
      states_many {count} g = record { of = λ vs h. go h q }
        where
          go : {f : Maybe ℕ} {vs : List Name} → StatesAt s f vs → f ≡ Some k → eqb count 0 ≡ is_empty vs
          go {vs = vs} (states_here {k = j} r) z =
              let i : k ≡ j = cc in
              let l = list_at read_name s max_list j vs r.end r.is in
              let x = got _ e g in
              let y = ap (read_count max_list s) i ∙ l.opens in
              let u : count ≡ length vs = cc in
              ap (λ (n : ℕ). eqb n 0) u ∙ empty_length vs
          go states_none z = no (cc)

      pub states_refused : {t : Refusal} → a ≡ Err t → NoStates s found true
      unfolding read_names
      states_refused g = record { of = λ vs h. go h q }
        where
          go : {f : Maybe ℕ} {vs : List Name} → StatesAt s f vs → f ≡ Some k → true ≡ is_empty vs
          go {vs = vs} (states_here {k = j} r) z =
              let i : k ≡ j = cc in
              let l = list_at read_name s max_list j vs r.end r.is in
              no (let x = out _ e g in let y = ap (read_count max_list s) i ∙ l.opens in cc)
          go states_none z = no (cc)

  pub state_noted : {found : Maybe ℕ} {at : ℕ} (owner : ℕ) {o o' : List ℕ} {skip n r site first : ℕ} {b : Bool} → IsState s found at b → Noted owner o skip n (noted (not b) (note site first 0 0)) r o' → NotesState s owner o skip n r o' found at site first
  unfolding unknown_state
  state_noted {found} {at} owner {site = site} {first = first} {b = b} i p = record {
    of = λ vs w h t.
        let u : b ≡ member w vs = i.of vs h ∙ ap (λ (z : Name). member z vs) t in
        note_as owner _ (ap (λ (z : Bool). noted (not z) (note site first 0 0)) u) p;
  }
