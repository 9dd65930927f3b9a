-- The names that are reached are the first one and those to which what is taken leads; and a note for each State variant that is none.
use Prim.Native.Nat.{ℕ, zero, suc, ◌+◌, ◌*◌, ◌<◌, ◌≤◌}
use mathlib.Core.Path.{◌≡◌, refl, sym, ap, subst, ◌∙◌}
use mathlib.Core.Logic.{◌⊎◌, inl, inr}
use mathlib.Core.Bool.{Bool, true, false, not, ◌&&◌, ◌||◌, true≢false}
use mathlib.Core.List.Memᴰ
use mathlib.Core.List.{List, [], ◌∷◌, Memᴰ}
use mathlib.Core.Option.{some}
use native.Mathlib.Omega.{arith}
use native.Mathlib.Numerals.{add-one}
use native.Mathlib.Nat.{zero-add}
use lib.ListN.{length, get_or, get_elem?, drop, drop_of_length-le}
use lib.Dec.{eqb}
use borrow.Author.Tests.{eqb-false, ne_eqb}
use Rattle.reading.specs.Limits.{max_list}
use Rattle.reading.specs.Item.{read_count}
use Rattle.reading.specs.Text.{Name, read_name}
use Rattle.reading.specs.Combine.{list_of}
use Rattle.reading.specs.Decl.{read_names}
use Rattle.reading.specs.Transition.{Transition}
use Rattle.reading.specs.Skip.{text_at}
use Rattle.reading.specs.Link.{answer}
use Rattle.reading.specs.declared.cursor.Cursor.{Cursor}
use Rattle.reading.proofs.Rules.{no}
use Rattle.reading.proofs.ExprLaws.{name_laws}
use Rattle.reading.proofs.Walks.{name_text}
use Rattle.typing.specs.Names.{eq_name, member}
use Rattle.typing.specs.Table.{Past}
use Rattle.typing.specs.Lanes.{print}
use Rattle.typing.proofs.NameLaws.{eq_name_refl, eq_name_eq}
use Rattle.typing.proofs.EnvLaws.{after_is}
use Rattle.findings.specs.Lists.{placed, any, each}
use Rattle.findings.specs.Finding.{note, noted}
use Rattle.findings.specs.Reach.{Leads, reached}
use Rattle.findings.specs.Warnings.{starts_at, leads_to, unreachable}
use Rattle.findings.specs.Demand as demand
use Rattle.findings.specs.Noting.{Noted}
use Rattle.findings.specs.Scene.{Reads, field, Rows, StatesAt, states_here, states_none}
use Rattle.findings.specs.Prints.{Prints}
use Rattle.findings.specs.Promises.{at_place}
use Rattle.findings.specs.PairPromises.{LeadsOn}
use Rattle.findings.specs.WarningPromises.{NotesUnreachable}
use Rattle.findings.specs.Reaching.{Taken, Chained, first, next, Walked, BeginsAt, hit_by, led_to, IsHit, IsLed, Moves, unled_note, NotesUnled, NotesUnledAt, NotesUnledStates}
use Rattle.findings.proofs.NoteLaws.{note_nothing, note_as}
use Rattle.findings.proofs.ListLaws.{any_some, some_any, each_cong}
use Rattle.findings.proofs.Places.{mem_placed, placed_mem}
use Rattle.findings.proofs.Chains.{leads_more, reached_by}
use Rattle.findings.proofs.Orderless.{starts_meant}
use Rattle.findings.proofs.EachLaws.{get_some, get_below, drop_get, Walking, walk_start, walk_refused, walk_more, walk_done}
use Rattle.findings.proofs.OptionLaws.{not_given, is_given}
use Rattle.findings.proofs.PairTests.{isn't}
-- a transition by its place
use Rattle.std.specs.Prelude.{Result, Option, Some, None, Ok, Err}
use Rattle.reading.specs.declared.fault.Refusal.{Refusal}

mem_get : {A : Type 0} (xs : List A) (x : A) → Memᴰ x xs → (i : ℕ) × (i < length xs) × (get_elem? xs i ≡ some x)
mem_get [] x h = absurd (Memᴰ.not-nil h)
mem_get {A} (y ∷ xs) x h = go (mem_get xs x) (Memᴰ.cases_cons h)
  where
    go : (Memᴰ x xs → (i : ℕ) × (i < length xs) × (get_elem? xs i ≡ some x)) → (x ≡ y) ⊎ Memᴰ x xs → (i : ℕ) × (i < suc (length xs)) × (get_elem? (y ∷ xs) i ≡ some x)
    go r (inl e) = (0, omega arith, ap some (sym e))
    go r (inr m) = let v = r m in (suc v.0, omega (arith, v.1), v.2)

get_mem : {A : Type 0} (xs : List A) (i : ℕ) (x : A) → get_elem? xs i ≡ some x → Memᴰ x xs
get_mem [] i x e = no (cc)
get_mem (y ∷ xs) zero x e = Memᴰ.head (let q : x ≡ y = cc in q)
get_mem (y ∷ xs) (suc i) x e = Memᴰ.tail (get_mem xs i x e)

both_true : (a b : Bool) → (a && b) ≡ true → (a ≡ true) × (b ≡ true)
both_true true b e = (refl, e)
both_true false b e = absurd (true≢false (sym e))

either_true : (a b : Bool) → (a || b) ≡ true → (a ≡ true) ⊎ (b ≡ true)
either_true true b e = inl refl
either_true false b e = inr e

right_true : (a b : Bool) → b ≡ true → (a || b) ≡ true
right_true true b e = refl
right_true false b e = e

not-true : (b : Bool) → not b ≡ true → b ≡ false
not-true true e = absurd (true≢false (sym e))
not-true false e = refl

-- the walk's marks, for whatever transitions stand in the rows
module _ (s rows prints : List ℕ) (w : Name) (count : ℕ) (m : List ℕ) (g : Walked (BeginsAt s rows prints w) (LeadsOn s rows prints count) count m) (ts : List Transition) (r : Rows s rows ts) (p : Prints prints ts) (c : count ≡ length ts) where
  abbrev Led : Name → Type 0
  Led n = Leads demand.StartsAt leads_to ts w n

  taken_hits : (i : ℕ) (u : Transition) → get_elem? ts i ≡ some u → Taken m i → led_to m ts w u.next_state ≡ true
  taken_hits i u e t =
      right_true (eq_name w u.next_state) (any (hit_by m u.next_state) (placed 0 ts))
      (some_any (hit_by m u.next_state) (mem_placed 0 i ts u e) (rw (zero-add i, ne_eqb (get_or m i 0) 0 t) (eq_name_refl u.next_state)))

  -- a name that is led to is the first, or what is taken leads to it
  led_by : (n : Name) → led_to m ts w n ≡ true → (w ≡ n) ⊎ ((i : ℕ) × (u : Transition) × (get_elem? ts i ≡ some u) × Taken m i × (u.next_state ≡ n))
  led_by n e = go (either_true (eq_name w n) (any (hit_by m n) (placed 0 ts)) e)
    where
      go : (eq_name w n ≡ true) ⊎ (any (hit_by m n) (placed 0 ts) ≡ true) → (w ≡ n) ⊎ ((i : ℕ) × (u : Transition) × (get_elem? ts i ≡ some u) × Taken m i × (u.next_state ≡ n))
      go (inl q) = inl (eq_name_eq w n q)
      go (inr q) =
          let x = any_some (hit_by m n) (placed 0 ts) q in
          let y = placed_mem 0 ts x.0 x.1 in
          let z = both_true (not (eqb (get_or m x.0.place 0) 0)) (eq_name x.0.item.next_state n) x.2 in
          let k : x.0.place ≡ y.0 = y.2 ∙ zero-add y.0 in
          inr (y.0, x.0.item, y.1, eqb-false (get_or m y.0 0) 0 (ap (λ (j : ℕ). eqb (get_or m j 0) 0) (sym k) ∙ not-true (eqb (get_or m x.0.place 0) 0) z.0), eq_name_eq x.0.item.next_state n z.1)

  -- a transition that starts at a name that is led to is taken
  closed : (a : Transition) (n : Name) → Memᴰ a ts → led_to m ts w n ≡ true → demand.StartsAt a n → led_to m ts w (leads_to a) ≡ true
  closed a n h e t = go (led_by n e)
    where
      here : (i : ℕ) × (i < length ts) × (get_elem? ts i ≡ some a)
      here = mem_get ts a h

      j : ℕ
      j = here.0

      inside : j < count
      inside = omega (arith, here.1)

      taken : Taken m j → led_to m ts w (leads_to a) ≡ true
      taken x = taken_hits j a here.2 x

      from_first : (w ≡ n) → Taken m j ⊎ BeginsAt s rows prints w j false → led_to m ts w (leads_to a) ≡ true
      from_first q (inl x) = taken x
      from_first q (inr x) = absurd (true≢false (sym (x.of a (r.at j a here.2) (p.at j a here.2) ∙ ap (λ (y : Name). eq_name y w) (t ∙ sym q) ∙ eq_name_refl w)))

      from_taken : (i : ℕ) (u : Transition) → get_elem? ts i ≡ some u → u.next_state ≡ n → Taken m j ⊎ LeadsOn s rows prints count i j false → led_to m ts w (leads_to a) ≡ true
      from_taken i u q z (inl x) = taken x
      from_taken i u q z (inr x) = absurd (true≢false (sym (x.of ts r p c u a q here.2 ∙ ap (λ (y : Name). eq_name y a.state) (z ∙ sym t) ∙ eq_name_refl a.state)))

      go : (w ≡ n) ⊎ ((i : ℕ) × (u : Transition) × (get_elem? ts i ≡ some u) × Taken m i × (u.next_state ≡ n)) → led_to m ts w (leads_to a) ≡ true
      go (inl q) = from_first q (g.start j inside)
      go (inr (i, u, q, x, z)) = from_taken i u q z (g.closed i j (omega (arith, get_below ts i u q)) inside x)

  -- a chain leads to what a taken transition leads to
  chain : {i : ℕ} (u : Transition) → get_elem? ts i ≡ some u → Chained (BeginsAt s rows prints w) (LeadsOn s rows prints count) count i → Led u.next_state
  chain {i} u e (first x) =
      let q : u.state ≡ w = eq_name_eq u.state w (sym (x.of u (r.at i u e) (p.at i u e))) in
      leads_more demand.StartsAt starts_at leads_to starts_meant ts w w u (get_mem ts i u e) ([], tt, refl) q
  chain {i} u e (next {i = k} x h y) =
      let v = get_some ts k (omega arith) in
      let q : v.0.next_state ≡ u.state = eq_name_eq v.0.next_state u.state (sym (y.of ts r p c v.0 u v.1 e)) in
      leads_more demand.StartsAt starts_at leads_to starts_meant ts w v.0.next_state u (get_mem ts i u e) (chain v.0 v.1 x) (sym q)

  sound : (n : Name) → led_to m ts w n ≡ true → Led n
  sound n e = go (led_by n e)
    where
      go : (w ≡ n) ⊎ ((i : ℕ) × (u : Transition) × (get_elem? ts i ≡ some u) × Taken m i × (u.next_state ≡ n)) → Led n
      go (inl q) = ([], tt, q)
      go (inr (i, u, q, x, z)) = subst Led z (chain u q (g.sound i (omega (arith, get_below ts i u q)) x))

  pub led_reached : (n : Name) → member n (reached starts_at leads_to w ts) ≡ led_to m ts w n
  led_reached = reached_by demand.StartsAt starts_at leads_to starts_meant ts w (led_to m ts w) (ap (λ (b : Bool). b || any (hit_by m w) (placed 0 ts)) (eq_name_refl w)) closed sound

-- a taken transition
and_false : (a b : Bool) → false ≡ b → false ≡ (a && b)
and_false true b e = e
and_false false b e = refl

module _ (s rows prints m : List ℕ) (key p i : ℕ) where
  pub hit_apart : (get_or prints (3 * i + 1) 0 ≡ p → ⊥) → IsHit s rows prints m key p i false
  hit_apart d = record { of = λ u g x e. and_false (not (eqb (get_or m i 0) 0)) _ (isn't (eq_name u.next_state (text_at s key)) (λ y. d (x.next_is ∙ ap (print 0) (eq_name_eq _ _ y) ∙ sym e))) }

  module _ {f : Bool} (e : f ≡ eqb (get_or m i 0) 0) where
    pub hit_free : f ≡ true → IsHit s rows prints m key p i false
    hit_free q = record { of = λ u g x k. sym (ap (λ (b : Bool). not b && eq_name u.next_state (text_at s key)) (sym e ∙ q)) }

    pub hit_taken : {at : ℕ} {b : Bool} → f ≡ false → at ≡ field rows i 4 → b ≡ eq_name (text_at s at) (text_at s key) → IsHit s rows prints m key p i b
    hit_taken q a z = record {
      of = λ u g x k.
          z ∙ ap (λ (n : Name). eq_name n (text_at s key)) (ap (text_at s) a ∙ name_text s (field rows i 4) u.next_state (field rows i 5) g.next_state_is)
          ∙ sym (ap (λ (b : Bool). not b && eq_name u.next_state (text_at s key)) (sym e ∙ q));
    }

-- the transitions from number i on are still to be asked
module _ (s rows prints m : List ℕ) (count at key : ℕ) where
  pub led_first : {b : Bool} → b ≡ eq_name (text_at s at) (text_at s key) → b ≡ true → IsLed s rows prints m count at key true
  led_first e q = record { of = λ ts r p c. sym (ap (λ (b : Bool). b || any (hit_by m (text_at s key)) (placed 0 ts)) (sym e ∙ q)) }

  pub record HitsLeft (i : ℕ) : Type 0 where
    pub other : eq_name (text_at s at) (text_at s key) ≡ false
    pub of : (ts : List Transition) → Rows s rows ts → Prints prints ts → count ≡ length ts → any (hit_by m (text_at s key)) (placed i (drop i ts)) ≡ any (hit_by m (text_at s key)) (placed 0 ts)

  pub hits_start : {b : Bool} → b ≡ eq_name (text_at s at) (text_at s key) → b ≡ false → HitsLeft 0
  hits_start e q = record { other = sym e ∙ q; of = λ ts r p c. refl }

  module _ (i : ℕ) (l : HitsLeft i) where
    by_rest : {b : Bool} (ts : List Transition) → b ≡ any (hit_by m (text_at s key)) (placed 0 ts) → b ≡ led_to m ts (text_at s at) (text_at s key)
    by_rest ts e = e ∙ sym (ap (λ (b : Bool). b || any (hit_by m (text_at s key)) (placed 0 ts)) l.other)

    pub hits_done : count ≤ i → IsLed s rows prints m count at key false
    hits_done h = record { of = λ ts r p c. by_rest ts (ap (λ (x : List Transition). any (hit_by m (text_at s key)) (placed i x)) (sym (drop_of_length-le ts {i = i} (omega arith))) ∙ l.of ts r p c) }

    module _ {b : Bool} {text : Name} {k : ℕ} (h : i < count) (t : text ≡ text_at s key) (q : k ≡ print 0 text) (e : IsHit s rows prints m key k i b) where
      here : (ts : List Transition) → Rows s rows ts → Prints prints ts → count ≡ length ts → any (hit_by m (text_at s key)) (placed 0 ts) ≡ (b || any (hit_by m (text_at s key)) (placed (i + 1) (drop (i + 1) ts)))
      here ts r p c =
          let x = get_some ts i (omega arith) in
          sym (l.of ts r p c)
          ∙ ap (λ (y : List Transition). any (hit_by m (text_at s key)) (placed i y)) (drop_get ts i x.0 x.1)
          ∙ ap (λ (k : ℕ). hit_by m (text_at s key) (at_place i x.0) || any (hit_by m (text_at s key)) (placed k (drop (i + 1) ts))) (sym (add-one i))
          ∙ ap (λ (y : Bool). y || any (hit_by m (text_at s key)) (placed (i + 1) (drop (i + 1) ts))) (sym (e.of x.0 (r.at i x.0 x.1) (p.at i x.0 x.1) (q ∙ ap (print 0) t)))

      pub hits_hit : b ≡ true → IsLed s rows prints m count at key true
      hits_hit z = record { of = λ ts r p c. by_rest ts (sym (here ts r p c ∙ ap (λ (y : Bool). y || any (hit_by m (text_at s key)) (placed (i + 1) (drop (i + 1) ts))) z)) }

      pub hits_miss : b ≡ false → HitsLeft (i + 1)
      hits_miss z = record { other = l.other; of = λ ts r p c. sym (here ts r p c ∙ ap (λ (y : Bool). y || any (hit_by m (text_at s key)) (placed (i + 1) (drop (i + 1) ts))) z) }

-- a name, and those of a list
pub unled_noted : (s : List ℕ) (owner : ℕ) (o : List ℕ) (skip n r : ℕ) (o' rows prints : List ℕ) (count : ℕ) (m : List ℕ) (at key j : ℕ) {led : Bool} → IsLed s rows prints m count at key led → Noted owner o skip n (noted (not led) (note 21 j 0 0)) r o' → NotesUnled s owner o skip n r o' rows prints count m at key j
unled_noted s owner o skip n r o' rows prints count m at key j e p = record {
  of = λ h w g.
      note_as owner (unled_note m (text_at s at) h (at_place j w))
      (ap (λ (b : Bool). noted (not b) (note 21 j 0 0)) (e.of h.transitions h.rows_are h.prints_are h.many ∙ ap (led_to m h.transitions (text_at s at)) (name_text s key w g.end g.is))) p;
}

module _ (s : List ℕ) (owner : ℕ) (o : List ℕ) (skip n : ℕ) (rows prints : List ℕ) (count : ℕ) (m : List ℕ) (at list : ℕ) where
  abbrev pub UnledLeft : (many k j r : ℕ) → List ℕ → Type 0
  UnledLeft = Walking read_name (unled_note {s = s} {rows = rows} {prints = prints} {count = count} m (text_at s at)) s max_list list owner o skip n

  module _ {a : Result (ℕ × Cursor) Refusal} (e : a ≡ answer (read_count max_list s list)) where
    pub unled_refused : {t : Refusal} → a ≡ Err t → NotesUnledAt s owner o skip n n o rows prints count m at list
    unled_refused q = record { of = λ h ws g. walk_refused read_name (unled_note {s = s} {rows = rows} {prints = prints} {count = count} m (text_at s at)) s max_list list owner o skip n e q ws g }

    pub unled_start : {many : ℕ} {c : Cursor} → a ≡ Ok (many, c) → UnledLeft many c.at 0 n o
    unled_start q = walk_start read_name (unled_note {s = s} {rows = rows} {prints = prints} {count = count} m (text_at s at)) s max_list list owner o skip n e q

  module _ {many k j r : ℕ} {o' : List ℕ} (w : UnledLeft many k j r o') where
    pub unled_more : {k' r' : ℕ} {o'' : List ℕ} → j < many → NotesUnled s owner o' skip r r' o'' rows prints count m at k j → Past s k k' → UnledLeft many k' (j + 1) r' o''
    unled_more b p t = walk_more read_name (unled_note {s = s} {rows = rows} {prints = prints} {count = count} m (text_at s at)) s max_list list owner o skip n w b p.of (λ x e q. t.is ∙ after_is name_laws s t.each k x e q)

    pub unled_done : many ≤ j → NotesUnledAt s owner o skip n r o' rows prints count m at list
    unled_done b = record { of = λ h ws g. walk_done read_name (unled_note {s = s} {rows = rows} {prints = prints} {count = count} m (text_at s at)) s max_list list owner o skip n w b h ws g }

-- the State variants
module _ (s : List ℕ) (owner : ℕ) (o : List ℕ) (skip n : ℕ) (rows prints : List ℕ) (count : ℕ) (m : List ℕ) (at : ℕ) {found : Option ℕ} where
  pub states_missing : found ≡ None → NotesUnledStates s owner o skip n n o rows prints count m at found
  states_missing q = record { of = λ h vs g. go h q g }
    where
      go : (h : Moves s rows prints count) {f : Option ℕ} {vs : List Name} → f ≡ None → StatesAt s f vs → Noted owner o skip n (each (unled_note m (text_at s at) h) (placed 0 vs)) n o
      go h q (states_here g) = no (cc)
      go h q states_none = note_nothing owner o skip n

  pub states_found : {list r : ℕ} {o' : List ℕ} → found ≡ Some list → NotesUnledAt s owner o skip n r o' rows prints count m at list → NotesUnledStates s owner o skip n r o' rows prints count m at found
  unfolding read_names
  states_found {list} {r} {o'} q p = record { of = λ h vs g. go h q g }
    where
      go : (h : Moves s rows prints count) {f : Option ℕ} {vs : List Name} → f ≡ Some list → StatesAt s f vs → Noted owner o skip n (each (unled_note m (text_at s at) h) (placed 0 vs)) r o'
      go h q (states_here {k = k} {vs = vs} g) = let i : k ≡ list = cc in p.of h vs (subst (λ (y : ℕ). Reads (list_of max_list read_name) s y vs) i g)
      go h q states_none = no (cc)

-- the whole
module _ (s : List ℕ) (owner : ℕ) (o : List ℕ) (skip n : ℕ) (rows : List ℕ) (count : ℕ) (prints : List ℕ) (found : Option ℕ) (at : ℕ) {b : Bool} (e : b ≡ eqb (get_or s at 0) 246) where
  pub no_initial : b ≡ true → NotesUnreachable s owner o skip n n o rows count prints found at
  unfolding unreachable
  no_initial q = record { of = λ vs w ts g i r p c. rw (not_given read_name s at i e q) (note_nothing owner o skip n) }

  pub unreachable_noted : {text : Name} {m : List ℕ} {r : ℕ} {o' : List ℕ} → b ≡ false → text ≡ text_at s at → Walked (BeginsAt s rows prints text) (LeadsOn s rows prints count) count m → NotesUnledStates s owner o skip n r o' rows prints count m at found → NotesUnreachable s owner o skip n r o' rows count prints found at
  unfolding unreachable
  unreachable_noted {text} {m} q t k z = record {
    of = λ vs w ts g i r p c.
        let v = is_given read_name s at i e q in
        let h : Moves s rows prints count = record { transitions = ts; rows_are = r; prints_are = p; many = c } in
        let j : text_at s at ≡ v.item = name_text s at v.item v.reads.end v.reads.is in
        let l = led_reached s rows prints text count m k ts r p c in
        rw v.is
        (note_as owner _
        (each_cong (placed 0 vs) (λ x. ap (λ (y : Bool). noted (not y) (note 21 x.place 0 0)) (ap (λ (y : Name). led_to m ts y x.item) (sym t) ∙ sym (l x.item) ∙ ap (λ (y : Name). member x.item (reached starts_at leads_to y ts)) (t ∙ j))))
        (z.of h vs g));
  }
