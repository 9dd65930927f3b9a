-- A whole module: its tables, and its parts one after another.
use Rattle.std.specs.Prelude.{Option}
use Prim.Native.Nat.{ℕ, suc, ◌-◌, ◌≤◌}
use mathlib.Core.Path.{◌≡◌, ap, subst, ◌∙◌}
use mathlib.Core.List.{List, [], ◌∷◌}
use mathlib.Core.Bool.{Bool, true, false, not}
use native.Mathlib.Omega.{arith}
use lib.ListN.{length, get_or, take}
use lib.Seq.{length-take-le}
use lib.Dec.{ltb}
use borrow.Author.Tests.{lt-ltb}
use Rattle.typing.specs.Env.{for_module}
use Rattle.typing.specs.Table.{pairs_at}
use Rattle.typing.specs.Blocks.{Keeps, KeepsEnums}
use Rattle.typing.proofs.EnvLaws.{tables_agree}
use Rattle.typing.proofs.BlockLaws.{keeps_taken}
use Rattle.findings.specs.Mentions.{states}
use Rattle.findings.specs.Errors.{is_empty, opening, claims, closing, errors}
use Rattle.findings.specs.Warnings.{warnings}
use Rattle.findings.specs.Scene.{events_in, outputs_in, Opens}
use Rattle.findings.specs.Promises.{ClaimsSet, FirstStates, NotesOpening, NotesMoves, NotesOnError, NotesRepeats, NotesFormulas}
use Rattle.findings.specs.PairPromises.{Printed, pair_notes, NotesPairs}
use Rattle.findings.specs.WarningPromises.{NotesUnreachable, NotesDead, NotesUnused, NotesImpossible}
use Rattle.findings.specs.Walks.{WalksNamed, WalksModule}
use Rattle.findings.specs.ModulePromises.{Names, NotesFore, NotesMost, NotesClosing, NotesErrors, NotesDoubts, NotesWarnings}
use Rattle.findings.specs.declared.rows.Listed.{Listed}
use Rattle.findings.proofs.NoteLaws.{note_then, note_as}
use Rattle.findings.proofs.RowLaws.{moved}

pub names_set : (s places t e c : List ℕ) {p₇ p₃ all p₉ p₁₀ : ℕ} → 829 ≤ length t → 829 ≤ length e → p₇ ≡ get_or places 7 0 → Keeps s (pairs_at s p₇) t 0 → p₃ ≡ get_or places 3 0 → KeepsEnums s (pairs_at s p₃) e → p₉ ≡ get_or places 9 0 → p₁₀ ≡ get_or places 10 0 → ClaimsSet s p₉ p₁₀ all c → Names s places all t e c
unfolding claims
names_set s places t e c h k e₇ f e₃ g e₉ e₁₀ d = record {
  few_claims = d.most;
  of = λ m B u. record {
    agree = tables_agree s B (take 829 t) e _ _ m _ _ (length-take-le 829 t h) k (keeps_taken s _ t 0 829 (omega arith) f) g (moved e₇ u.vars_are).is (moved e₃ u.enums_are).is;
    claims_are = d.of m.properties m.assumptions B (moved e₉ u.properties_are) (moved e₁₀ u.assumptions_are);
  };
}

pub closing_noted : (s : List ℕ) (owner : ℕ) {o o₁ o₂ o' : List ℕ} {skip n a b r : ℕ} {places : List ℕ} {found : Option ℕ} {names enums properties p₆ : List ℕ} {p₂ : ℕ} → p₂ ≡ get_or places 2 0 → p₆ ≡ outputs_in places → NotesOnError s owner o skip n a o₁ p₂ found p₆ names enums → NotesRepeats s owner o₁ skip a b o₂ properties → NotesFormulas s owner o₂ skip b r o' properties names enums → NotesClosing s owner o skip n r o' places found names enums properties
unfolding closing
closing_noted s owner i j p q u = record {
  of = λ m g h f c.
      note_then owner (note_then owner (p.of m.on_error m (moved i g.on_error_is) h (rw j g.output_groups) f) (q.of (claims m) c)) (u.of (claims m) (for_module m) c f);
}

-- whether there are transitions
moves_is : {A : Type 0} (xs : List A) {count : ℕ} {moves : Bool} → count ≡ length xs → moves ≡ ltb 0 count → moves ≡ not (is_empty xs)
unfolding is_empty
moves_is [] e q = q ∙ ap (ltb 0) e
moves_is (x ∷ xs) e q = q ∙ ap (ltb 0) e ∙ lt-ltb 0 (suc (length xs)) (omega arith)

pub fore_noted : (s : List ℕ) (owner : ℕ) {o o₁ o' : List ℕ} {skip n a r : ℕ} {places rows prints : List ℕ} {found : Option ℕ} {count : ℕ} {moves : Bool} (table : List ℕ) {enums : List ℕ} → moves ≡ ltb 0 count → NotesOpening s owner o skip n a o₁ places found moves (take 829 table) enums → NotesMoves s owner o₁ skip a r o' places rows prints count found table 829 enums → NotesFore s owner o skip n r o' places found rows prints count (take 829 table) enums
fore_noted s owner table v x y = record {
  of = λ m g rs ps e h f.
      note_then owner (note_as owner _ (ap (opening m) (moves_is m.transitions e v)) (x.of m g h f)) (y.of m g rs ps e h f);
}

pub most_noted : (s : List ℕ) (owner : ℕ) {o o₁ o' : List ℕ} {skip n a r : ℕ} {places rows prints : List ℕ} {found : Option ℕ} {count : ℕ} {names enums : List ℕ} → NotesFore s owner o skip n a o₁ places found rows prints count names enums → NotesPairs s owner o₁ skip a r o' rows prints count false → NotesMost s owner o skip n r o' places found rows prints count names enums
unfolding pair_notes
most_noted s owner x z = record { of = λ m g rs ps e h f. note_then owner (x.of m g rs ps e h f) (z.of m.transitions rs ps e) }

pub errors_noted : (s : List ℕ) (owner : ℕ) {o o₁ o' : List ℕ} {skip n a r : ℕ} {places rows prints : List ℕ} {found : Option ℕ} {count : ℕ} (table table' : List ℕ) {enums properties : List ℕ} → NotesMost s owner o skip n a o₁ places found rows prints count (take 829 table) enums → take 829 table' ≡ take 829 table → NotesClosing s owner o₁ skip a r o' places found (take 829 table') enums properties → NotesErrors s owner o skip n r o' places found rows prints count (take 829 table) enums properties
unfolding errors
errors_noted s owner table table' x t w = record { of = λ m g rs ps e h f c. note_then owner (x.of m g rs ps e h f) (w.of m g h (rw t f) c) }

pub doubts_noted : (s : List ℕ) (owner : ℕ) {o o₁ o₂ o' : List ℕ} {skip n a b r : ℕ} {places rows prints : List ℕ} {found : Option ℕ} {count p₄ : ℕ} {p₅ : List ℕ} → p₄ ≡ get_or places 4 0 → NotesUnreachable s owner o skip n a o₁ rows count prints found p₄ → p₅ ≡ events_in places → NotesDead s owner o₁ skip a b o₂ rows count p₅ → NotesUnused s owner o₂ skip b r o' rows count places → NotesDoubts s owner o skip n r o' places found rows prints count
doubts_noted s owner i x j y z = record {
  of = λ m g rs ps e h.
      note_then owner
      (note_then owner
      (x.of (states m) m.initial_state m.transitions h (moved i g.initial_state_is) rs ps e)
      (y.of m.events m.transitions (rw j g.event_groups) rs e))
      (z.of m g rs e);
}

pub warnings_noted : (s : List ℕ) (owner : ℕ) {o o₁ o₂ o' : List ℕ} {skip n a b r : ℕ} {places rows prints : List ℕ} {found : Option ℕ} {count : ℕ} → NotesDoubts s owner o skip n a o₁ places found rows prints count → NotesPairs s owner o₁ skip a b o₂ rows prints count true → NotesImpossible s owner o₂ skip b r o' rows count → NotesWarnings s owner o skip n r o' places found rows prints count
unfolding warnings pair_notes
warnings_noted s owner x u v = record {
  of = λ m g rs ps e h. note_then owner (note_then owner (x.of m g rs ps e h) (u.of m.transitions rs ps e)) (v.of m.transitions rs e);
}

pub states_at : (s places : List ℕ) {p : ℕ} {found : Option ℕ} → p ≡ get_or places 3 0 → FirstStates s p found → FirstStates s (get_or places 3 0) found
states_at s places {found} e x = subst (λ (k : ℕ). FirstStates s k found) e x

-- the table of properties and assumptions lies within its words
pub claims_few : (s places table enums properties : List ℕ) {t : ℕ} → Names s places t table enums properties → t ≤ 1020
claims_few s places table enums properties w = w.few_claims

-- the tables and then both walks
pub named_walked : (s : List ℕ) (owner : ℕ) {o o' p p' : List ℕ} {skip n r leave k q : ℕ} {places rows prints : List ℕ} (table enums properties : List ℕ) {found : Option ℕ} {count : ℕ} (b : ℕ) → FirstStates s (get_or places 3 0) found → Names s places b table enums properties → NotesErrors s owner o skip n r o' places found rows prints count (take 829 table) enums (take (b - 0) properties) → NotesWarnings s owner p leave k q p' places found rows prints count → WalksNamed s o skip n r o' p leave k q p' owner places rows prints count
unfolding states
named_walked s owner table enums properties {found} b z w u y = record {
  of = λ m B g rs ps e.
      let c = z.of m.enums g.enums_are in
      let d = w.of m B g in
      let j : b - 0 ≡ b = omega arith in
      (u.of m g rs ps e c d.agree (rw j d.claims_are), y.of m g rs ps e c);
}

pub module_walked : (s : List ℕ) (owner at : ℕ) {o o' p p' : List ℕ} {skip n r leave k q : ℕ} {l : Listed} {places rows prints : List ℕ} → Opens s at l places rows → Printed s rows l.count prints → WalksNamed s o skip n r o' p leave k q p' owner places rows prints l.count → WalksModule s o skip n r o' p leave k q p' owner at l.end
module_walked s owner at x y w = record {
  of = λ m e g.
      let a = x.of m e g in
      let b = y.of m.transitions a.rows_are a.count in
      let c = w.of m a.bytes a.scene a.rows_are b a.count in
      record { errors_are = c.0; warnings_are = c.1; ends = a.end };
}
