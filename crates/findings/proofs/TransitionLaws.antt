-- What is noted of each transition by itself, for whatever reads there.
use Rattle.std.specs.Prelude.{Option as Maybe}
use Prim.Native.Nat.{ℕ, ◌+◌, ◌-◌, ◌/◌, ◌<◌, ◌≤◌}
use mathlib.Core.Path.{◌≡◌, refl, sym, ap, subst, ◌∙◌}
use mathlib.Core.List.{List, [], ◌∷◌}
use mathlib.Core.Option.{Option, none, some}
use native.Mathlib.Omega.{arith}
use lib.ListN.{length, take}
use lib.Seq.{length-sets, take-take, length-take-le}
use Rattle.reading.specs.Read.{Reader, ok}
use Rattle.reading.specs.Module.{Module}
use Rattle.reading.specs.Transition.{Transition}
use Rattle.reading.specs.Skip.{text_at}
use Rattle.reading.proofs.Walks.{name_text}
use Rattle.typing.specs.Causes.{first_of, blame_word}
use Rattle.typing.specs.Env.{Binding, given, for_module, with_bindings, Agree}
use Rattle.typing.specs.Table.{type_found}
use Rattle.typing.specs.Blocks.{find_in, Weaves, env_at}
use Rattle.typing.specs.Patterns.{validate_event_pattern}
use Rattle.typing.specs.Means.{blame_of}
use Rattle.typing.specs.Blames.{Bound, Binds, JudgesPattern}
use Rattle.typing.specs.declared.cause.Bindings.{Bindings}
use Rattle.typing.proofs.BlockLaws.{block_filled, keeps_taken}
use Rattle.typing.proofs.EnvLaws.{bound_length, bindings_agree, unbound_agree}
use Rattle.findings.specs.declared.transition.Judged.{Judged}
use Rattle.findings.specs.Lists.{placed, each}
use Rattle.findings.specs.Finding.{note, blamed}
use Rattle.findings.specs.Mentions.{states}
use Rattle.findings.specs.Errors.{body_notes, judged_notes, own}
use Rattle.findings.specs.Noting.{Noted, numbered}
use Rattle.findings.specs.Scene.{Reads, field, RowAt, Rows, events_in, outputs_in, Scene}
use Rattle.findings.specs.Prints.{print_at, Prints}
use Rattle.findings.specs.Variants.{Variants, StatesFilled}
use Rattle.findings.specs.Promises.{Known, JudgesOwn, NotesVariant, NotesGuard, NotesSets, NotesEmits, NotesBody, NotesHeads, NotesJudged, NotesTransition, NotesTransitions, NotesMoves}
use Rattle.findings.proofs.NoteLaws.{note_then, blamed_numbered}
use Rattle.findings.proofs.EachLaws.{Left, left_all, each_from, get_some, each_turn, each_done}

-- what reads at a place that is known
reads_at : {A : Type 0} {F : Reader A} {s : List ℕ} {k k' : ℕ} {x : A} {m : ℕ} → k ≡ k' → F s k' ≡ ok x m → Reads F s k x
reads_at {F} {s} {m} h e = record { end = m; is = ap (F s) h ∙ e }

module _ (s : List ℕ) (rows : List ℕ) (i : ℕ) (outputs vars names enums : List ℕ) (owner : ℕ) (o : List ℕ) (skip n : ℕ) where
  pub body_noted : {g k e a b r : ℕ} {o₁ o₂ o₃ : List ℕ} → g ≡ field rows i 3 → NotesGuard s owner o skip n a o₁ g i names enums → k ≡ field rows i 6 → NotesSets s owner o₁ skip a b o₂ k i vars names enums → e ≡ field rows i 5 → NotesEmits s owner o₂ skip b r o₃ e i outputs names enums → NotesBody s owner o skip n r o₃ rows i outputs vars names enums
  unfolding body_notes
  body_noted h p h₁ p₁ h₂ p₂ = record {
    of = λ t gs env w d y z.
        note_then owner (note_then owner (p.of t.guard env (reads_at h w.guard_is) y) (p₁.of t.assignments env (reads_at h₁ w.assignments_are) y z))
        (p₂.of t.emits gs env (reads_at h₂ w.emits_are) d y);
  }

-- the states, and the pattern by a number
module _ (s : List ℕ) (rows prints : List ℕ) (i : ℕ) (variants : List ℕ) (cause owner : ℕ) (o : List ℕ) (skip n : ℕ) where
  pub heads_noted : {k j p q a b r : ℕ} {o₁ o₂ o₃ : List ℕ} → k ≡ field rows i 1 → p ≡ print_at prints i 0 → NotesVariant s owner o skip n a o₁ variants k p 6 i → j ≡ field rows i 4 → q ≡ print_at prints i 1 → NotesVariant s owner o₁ skip a b o₂ variants j q 7 i → Noted owner o₂ skip b (numbered 8 i 0 cause) r o₃ → NotesHeads s owner o skip n r o₃ rows prints i variants cause
  heads_noted h d x h₁ d₁ x₁ y = record {
    of = λ vs t w u v.
        note_then owner
        (note_then owner (x.of vs t.state v (ap (text_at s) h ∙ name_text s (field rows i 1) t.state (field rows i 2) w.state_is) (d ∙ u.state_is))
        (x₁.of vs t.next_state v (ap (text_at s) h₁ ∙ name_text s (field rows i 4) t.next_state (field rows i 5) w.next_state_is) (d₁ ∙ u.next_is)))
        y;
  }

-- a pattern whose place is known, and groups of events that are
pub judged_at : {s : List ℕ} {at at' : ℕ} {events events' table : List ℕ} {k : ℕ} {r : Bindings} {table' : List ℕ} → at ≡ at' → events ≡ events' → JudgesPattern s at events table k r table' → JudgesPattern s at' events' table k r table'
judged_at {s} {at'} {events} {table} {k} {r} {table'} h g p = subst (λ (e : List ℕ). JudgesPattern s at' e table k r table') g (subst (λ (a : ℕ). JudgesPattern s a events table k r table') h p)

-- the variables are the first block of a table
module _ (s places rows prints : List ℕ) (i : ℕ) (variants : List ℕ) (cause : ℕ) (names enums : List ℕ) (owner : ℕ) (o : List ℕ) (skip n : ℕ) where
  pub judged_noted : {a r : ℕ} {v o₁ o₂ : List ℕ} → NotesHeads s owner o skip n a o₁ rows prints i variants cause → v ≡ outputs_in places → NotesBody s owner o₁ skip a r o₂ rows i v (take 829 names) names enums → NotesJudged s owner o skip n r o₂ places rows prints i variants cause (take 829 names) names enums
  judged_noted p h q = record { of = λ m t env c w d v y u. note_then owner (p.of (states m) t w d v) (q.of t m.outputs env w (rw h c.output_groups) y u) }

module_bindings : (m : Module) → (for_module m).bindings ≡ (λ n. none)
unfolding for_module
module_bindings m = refl

module_unbound : (s vars enums T : List ℕ) (bs : List Binding) (m : Module) → length T ≡ 0 → Bound s T bs → Agree (env_at s vars enums) (for_module m) → Agree (env_at s vars enums) (with_bindings bs (for_module m))
module_unbound s vars enums [] bs m l b y = unbound_agree s vars enums bs (for_module m) b y (module_bindings m)
module_unbound s vars enums (x ∷ T) bs m l b y = absurd (omega arith)

-- the first block stays while the second is woven
pub front_kept : (s T₁ T₂ : List ℕ) {k : ℕ} → Weaves s T₁ 829 k T₂ → take 829 T₂ ≡ take 829 T₁
front_kept s T₁ T₂ w = sym (take-take 829 1339 T₂ (omega arith)) ∙ ap (take 829) w.kept ∙ take-take 829 1339 T₁ (omega arith)

-- the names with those that a pattern binds: in a block of their own, if there are any
module _ (s places rows table : List ℕ) (i : ℕ) (room : 1658 ≤ length table) where
  module _ {p : Bindings} {table₁ : List ℕ} (j : JudgesPattern s (field rows i 2) (events_in places) table 829 p table₁) where
    binds_here : (m : Module) (t : Transition) → Scene s places m → RowAt s rows i t → Binds s table 829 (validate_event_pattern m.events t.pattern) p table₁
    binds_here m t c w = j.of m.events t.pattern (field rows i 3) c.event_groups w.pattern_is

    pub judged_unbound : take 829 table₁ ≡ take 829 table → p.words ≡ 0 → JudgesOwn s places rows i table (record { blame = p.blame; names = 829 }) table₁
    judged_unbound k z = record {
      fault = λ m t c w. (binds_here m t c w).fault;
      bound = λ m t enums c w y.
          let b = binds_here m t c w in
          rw k (module_unbound s (take 829 table) enums b.pairs _ m (sym b.many ∙ z) b.are y);
    }

    pub judged_bound : {table₂ : List ℕ} → p.words ≤ 510 → take 829 table₁ ≡ take 829 table → Weaves s table₁ 829 (p.words / 2) table₂ → JudgesOwn s places rows i table (record { blame = p.blame; names = 1658 }) table₂
    judged_bound {table₂} few k w = record {
      fault = λ m t c r. (binds_here m t c r).fault;
      bound = λ m t enums c r y.
          let b = binds_here m t c r in
          let l = bound_length b.are in
          let v = b.many in
          let z : length table₁ ≡ length table = ap length b.words ∙ length-sets table 829 b.pairs in
          let q = w.size in
          bindings_agree s (take 829 table) enums (take 1658 table₂) b.pairs _ (for_module m)
          (length-take-le 829 table (omega arith)) (length-take-le 1658 table₂ (omega arith)) (take-take 829 1658 table₂ (omega arith) ∙ front_kept s table₁ table₂ w ∙ k)
          (keeps_taken s b.pairs table₂ 829 1658 (omega arith) (block_filled s table b.pairs 829 (p.words / 2) b.words (omega arith) (omega arith) (omega arith) w)) b.are y (module_bindings m);
    }

given_type : (s : List ℕ) (x : Option ℕ) → given (type_found s x) ≡ given x
unfolding type_found given
given_type s none = refl
given_type s (some k) = refl

-- bindings do not change what the variables are
known_vars : (s vars enums : List ℕ) (m : Module) (bs : List Binding) → Agree (env_at s vars enums) (for_module m) → Known s vars (with_bindings bs (for_module m))
unfolding with_bindings for_module env_at first_of
known_vars s vars enums m bs y = record { of = λ w. ap given (sym (y.names w)) ∙ given_type s (find_in s w vars) }

module _ (s places rows prints : List ℕ) (i : ℕ) (variants table enums : List ℕ) (owner : ℕ) (o : List ℕ) (skip n : ℕ) where
  pub transition_noted : {p : Judged} {cause r : ℕ} {table' o' : List ℕ} → JudgesOwn s places rows i table p table' → take 829 table' ≡ take 829 table → 829 ≤ p.names → cause ≡ blame_word (blame_of s p.blame) → NotesJudged s owner o skip n r o' places rows prints i variants cause (take 829 (take (p.names - 0) table')) (take (p.names - 0) table') enums → NotesTransition s owner o skip n r o' places rows prints i variants table 829 enums
  unfolding own judged_notes
  transition_noted {p} {cause} {r} {table'} {o'} j kept few e f = record {
    of = λ m t c w h v y.
        let q = validate_event_pattern m.events t.pattern in
        let z : p.names - 0 ≡ p.names = omega arith in
        let u : take 829 (take p.names table') ≡ take 829 table = take-take 829 p.names table' few ∙ kept in
        let k : numbered 8 i 0 cause ≡ blamed (λ a. note 8 i 0 a) q.fault = ap (numbered 8 i 0) (e ∙ ap blame_word (j.fault m t c w)) ∙ blamed_numbered 8 i 0 q.fault in
        let g = rw (z, u) at f in
        rw (sym k) (g.of m t (with_bindings q.bound (for_module m)) c w h v (j.bound m t enums c w y) (known_vars s (take 829 table) enums m q.bound y));
  }

-- the transitions from number i on are still to be noted
module _ (s places rows prints : List ℕ) (count : ℕ) (variants table enums : List ℕ) (owner : ℕ) (o : List ℕ) (skip n : ℕ) where
  pub record Turns (i r : ℕ) (table' o' : List ℕ) : Type 0 where
    pub kept : take 829 table' ≡ take 829 table
    pub of : (m : Module) → Scene s places m → Rows s rows m.transitions → Prints prints m.transitions → count ≡ length m.transitions → Variants s variants (states m) → Agree (env_at s (take 829 table) enums) (for_module m) → Left owner o skip n (each (own m) (placed 0 m.transitions)) r o' (each_from (own m) i m.transitions)

  pub turns_start : Turns 0 n table o
  turns_start = record { kept = refl; of = λ m c rs ps l v y. left_all owner o skip n (each (own m) (placed 0 m.transitions)) }

  module _ {i r : ℕ} {table' o' : List ℕ} (g : Turns i r table' o') where
    pub turns_more : {r' : ℕ} {table'' o'' : List ℕ} → i < count → NotesTransition s owner o' skip r r' o'' places rows prints i variants table' 829 enums → take 829 table'' ≡ take 829 table' → Turns (i + 1) r' table'' o''
    turns_more h p q = record {
      kept = q ∙ g.kept;
      of = λ m c rs ps l v y.
          let x = get_some m.transitions i (omega arith) in
          let a = subst (λ (k : List ℕ). Agree (env_at s k enums) (for_module m)) (sym g.kept) y in
          each_turn (own m) i m.transitions x.0 x.1 (g.of m c rs ps l v y) (p.of m x.0 c (rs.at i x.0 x.1) (ps.at i x.0 x.1) v a);
    }

    pub turns_done : count ≤ i → NotesTransitions s owner o skip n r o' places rows prints count variants table 829 enums
    turns_done h = record { of = λ m c rs ps l v y. each_done (own m) i m.transitions (omega arith) (g.of m c rs ps l v y) }

-- by the table of the State variants
module _ (s places rows prints : List ℕ) (count : ℕ) (found : Maybe ℕ) (table : List ℕ) (k : ℕ) (enums : List ℕ) (owner : ℕ) (o : List ℕ) (skip n : ℕ) where
  pub moves_noted : {words r : ℕ} {variants o' : List ℕ} → StatesFilled s found words variants → NotesTransitions s owner o skip n r o' places rows prints count (take (words - 0) variants) table k enums → NotesMoves s owner o skip n r o' places rows prints count found table k enums
  moves_noted {words} f p =
      let z : words - 0 ≡ words = omega arith in
      let b = rw z at p in
      record { of = λ m c rs ps l v y. b.of m c rs ps l (f.of (states m) v) y }
