-- Properties by their table: names that stand earlier too, and formulas.
use Rattle.std.specs.Prelude.{Option as Maybe, is_some}
use Prim.Native.Nat.{ℕ, zero, suc, ◌+◌, ◌*◌, ◌/◌, ◌<◌, ◌≤◌}
use mathlib.Core.Path.{◌≡◌, refl, sym, ap, ◌∙◌}
use mathlib.Core.List.{List, [], ◌∷◌, map}
use mathlib.Core.Bool.{Bool, true, false, ◌||◌}
use mathlib.Core.Option.{Option, none, some}
use native.Mathlib.Omega.{arith}
use lib.ListN.{length, get_or, get_elem?, length-map}
use Rattle.reading.specs.Read.{pick}
use Rattle.reading.specs.Limits.{max_depth}
use Rattle.reading.specs.Text.{Name}
use Rattle.reading.specs.Module.{Property}
use Rattle.reading.specs.Skip.{text_at}
use Rattle.reading.proofs.Rules.{no}
use Rattle.reading.proofs.Walks.{name_text}
use Rattle.typing.specs.Causes.{cause_word}
use Rattle.typing.specs.Names.{eq_name}
use Rattle.typing.specs.Env.{Env, given, Agree}
use Rattle.typing.specs.Table.{find_first, found}
use Rattle.typing.specs.Blocks.{env_at}
use Rattle.typing.specs.Means.{unfit_of, Fit}
use Rattle.typing.specs.Formulas.{type_formula}
use Rattle.typing.specs.Shape.{Bounds}
use Rattle.typing.specs.Judges.{TypesFormula}
use Rattle.typing.proofs.Agreement.{formula_agree}
use Rattle.findings.specs.Lists.{Placed}
use Rattle.findings.specs.Finding.{Note, note, noted}
use Rattle.findings.specs.Noting.{Noted, numbered}
use Rattle.findings.specs.Errors.{stands_earlier, property_name, repeat_notes, formula_notes}
use Rattle.findings.specs.Promises.{Claims, earlier_in, NotesRepeats, NotesFormula, NotesFormulas}
use Rattle.findings.proofs.NoteLaws.{note_then, note_as, caused_numbered}
use Rattle.findings.proofs.RowLaws.{moved}
use Rattle.findings.proofs.EachLaws.{get_some, Counting, count_more, count_done}

some_found : (o : Option ℕ) → is_some (found o) ≡ given o
unfolding found given
some_found none = refl
some_found (some k) = refl

-- what was found under a name
module _ (s table : List ℕ) (i : ℕ) {name : ℕ} {w : Name} {f : Maybe ℕ} (a : name ≡ get_or table (2 * i) 0) (t : w ≡ text_at s name) (e : f ≡ found (find_first s w table i)) where
  earlier_as : f ≡ found (find_first s (text_at s (get_or table (2 * i) 0)) table i)
  earlier_as = e ∙ ap (λ (v : Name). found (find_first s v table i)) (t ∙ ap (text_at s) a)

  pub earlier_some : {b : Bool} → b ≡ is_some f → b ≡ earlier_in s table i
  earlier_some q = q ∙ ap is_some earlier_as ∙ some_found _

-- names before place k, from the last of them on
or_swap : (a b c : Bool) → (a || (b || c)) ≡ (b || (a || c))
or_swap true true c = refl
or_swap true false c = refl
or_swap false true c = refl
or_swap false false c = refl

none_before : (ns : List Name) (w : Name) → stands_earlier ns 0 w ≡ false
unfolding stands_earlier
none_before [] w = refl
none_before (x ∷ ns) w = refl

stands_more : (ns : List Name) (k : ℕ) (x w : Name) → get_elem? ns k ≡ some x → stands_earlier ns (suc k) w ≡ (eq_name x w || stands_earlier ns k w)
unfolding stands_earlier
stands_more [] k x w e = no (cc)
stands_more (y ∷ ns) zero x w e = let q : y ≡ x = cc in rw (none_before ns w, q)
stands_more (y ∷ ns) (suc k) x w e = rw (stands_more ns k x w e) (or_swap (eq_name y w) (eq_name x w) (stands_earlier ns k w))

given_pick : (b : Bool) (k : ℕ) (x : Option ℕ) → given (pick b (some k) x) ≡ (b || given x)
unfolding given pick
given_pick true k x = refl
given_pick false k x = refl

get_map : (ps : List Property) (i : ℕ) (p : Property) → get_elem? ps i ≡ some p → get_elem? (map property_name ps) i ≡ some p.name
get_map [] i p e = no (cc)
get_map (x ∷ ps) zero p e = let q : x ≡ p = cc in ap (λ (z : Property). some z.name) q
get_map (x ∷ ps) (suc i) p e = get_map ps i p e

-- the table's names are the properties'
module _ (s table : List ℕ) (ps : List Property) (g : Claims s table ps) where
  claim_text : (i : ℕ) (p : Property) → get_elem? ps i ≡ some p → text_at s (get_or table (2 * i) 0) ≡ p.name
  claim_text i p e = name_text s _ _ _ (g.at i p e).name_is

  find_earlier : (w : Name) (k : ℕ) → k ≤ length ps → given (find_first s w table k) ≡ stands_earlier (map property_name ps) k w
  unfolding find_first given
  find_earlier w zero h = sym (none_before (map property_name ps) w)
  find_earlier w (suc k) h =
      let p = get_some ps k (omega arith) in
      given_pick (eq_name (text_at s (get_or table (2 * k) 0)) w) (get_or table (2 * k + 1) 0) (find_first s w table k)
      ∙ rw (claim_text k p.0 p.1, find_earlier w k (omega arith))
      (sym (stands_more (map property_name ps) k p.0.name w (get_map ps k p.0 p.1)))

  pub earlier_is : (i : ℕ) (p : Property) → i < length ps → get_elem? ps i ≡ some p → earlier_in s table i ≡ stands_earlier (map property_name ps) i p.name
  earlier_is i p h e = ap (λ (w : Name). given (find_first s w table i)) (claim_text i p e) ∙ find_earlier p.name i (omega arith)

-- the names, one by one
module _ (s table : List ℕ) where
  abbrev pub Named : Type 0
  Named = (ps : List Property) × Claims s table ps

  abbrev pub claim_names : Named → List Name
  claim_names h = map property_name h.0

  abbrev pub repeat_note : Named → Placed Name → List Note
  repeat_note h p = noted (stands_earlier (claim_names h) p.place p.item) (note 18 p.place 0 0)

abbrev pub Repeating : (s table : List ℕ) (owner : ℕ) (o : List ℕ) (skip n i r : ℕ) (o' : List ℕ) → Type 0
Repeating s table = Counting (claim_names s table) (repeat_note s table)

name_of : (ps : List Property) (i : ℕ) (w : Name) (p : Property) → get_elem? (map property_name ps) i ≡ some w → get_elem? ps i ≡ some p → p.name ≡ w
name_of ps i w p e q = let u = get_map ps i p q in cc

module _ (s table : List ℕ) (owner : ℕ) {o : List ℕ} {skip n i r : ℕ} {o' : List ℕ} {many : ℕ} (m : many ≡ length table / 2) (w : Repeating s table owner o skip n i r o') where
  pub repeats_more : {b : Bool} {r' : ℕ} {o'' : List ℕ} → i < many → b ≡ earlier_in s table i → Noted owner o' skip r (noted b (note 18 i 0 0)) r' o'' → Repeating s table owner o skip n (i + 1) r' o''
  repeats_more {b} h e p =
      count_more (claim_names s table) (repeat_note s table) owner o skip n w
      (λ g. omega (arith, g.1.room, length-map g.0 property_name))
      (λ g x q.
      let l : i < length g.0 = omega (arith, g.1.room) in
      let y = get_some g.0 i l in
      let u : b ≡ stands_earlier (claim_names s table g) i x = e ∙ earlier_is s table g.0 g.1 i y.0 l y.1 ∙ ap (stands_earlier (claim_names s table g) i) (name_of g.0 i x y.0 q y.1) in
      note_as owner _ (ap (λ (z : Bool). noted z (note 18 i 0 0)) u) p)

  pub repeats_done : many ≤ i → NotesRepeats s owner o skip n r o' table
  unfolding repeat_notes
  repeats_done h = record {
    of = λ ps g. count_done (claim_names s table) (repeat_note s table) owner o skip n w (ps, g) (omega (arith, g.room, length-map ps property_name));
  }

-- a formula, and its bounds
module _ (s names enums : List ℕ) (owner : ℕ) {o o₁ o' : List ℕ} {skip n a r at i : ℕ} {fit : Fit} {c : ℕ} {b : Bool} where
  pub formula_noted : TypesFormula (env_at s names enums) max_depth s at fit → c ≡ cause_word (unfit_of s fit) → Noted owner o skip n (numbered 19 i 0 c) a o₁ → Bounds max_depth s at b → Noted owner o₁ skip a (noted b (note 20 i 0 0)) r o' → NotesFormula s owner o skip n r o' at names enums i
  formula_noted t e p d q = record {
    of = λ f env g h.
        let u : c ≡ cause_word (type_formula env f) = e ∙ ap cause_word (t.of f g.end g.is ∙ formula_agree h f) in
        note_then owner
        (note_as owner _ (ap (numbered 19 i 0) u ∙ caused_numbered 19 i 0 (type_formula env f)) p)
        (note_as owner _ (ap (λ (z : Bool). noted z (note 20 i 0 0)) (d.of f g.end g.is)) q);
  }

-- the formulas, one by one
module _ (s table names enums : List ℕ) where
  abbrev pub Stated : Type 0
  Stated = (ps : List Property) × (env : Env) × Claims s table ps × Agree (env_at s names enums) env

  abbrev pub stated : Stated → List Property
  stated h = h.0

  abbrev pub stated_notes : Stated → Placed Property → List Note
  stated_notes h p = formula_notes h.1 p

abbrev pub Formulating : (s table names enums : List ℕ) (owner : ℕ) (o : List ℕ) (skip n i r : ℕ) (o' : List ℕ) → Type 0
Formulating s table names enums = Counting (stated s table names enums) (stated_notes s table names enums)

module _ (s table names enums : List ℕ) (owner : ℕ) {o : List ℕ} {skip n i r : ℕ} {o' : List ℕ} {many : ℕ} (m : many ≡ length table / 2) (w : Formulating s table names enums owner o skip n i r o') where
  pub formulas_more : {at r' : ℕ} {o'' : List ℕ} → i < many → at ≡ get_or table (2 * i + 1) 0 → NotesFormula s owner o' skip r r' o'' at names enums i → Formulating s table names enums owner o skip n (i + 1) r' o''
  unfolding formula_notes
  formulas_more h e p =
      count_more (stated s table names enums) (stated_notes s table names enums) owner o skip n w
      (λ g. omega (arith, g.2.room))
      (λ g x q. p.of x.formula g.1 (moved e (g.2.at i x q).formula_is) g.3)

  pub formulas_done : many ≤ i → NotesFormulas s owner o skip n r o' table names enums
  formulas_done h = record {
    of = λ ps env g a. count_done (stated s table names enums) (stated_notes s table names enums) owner o skip n w (ps, env, g, a) (omega (arith, g.room));
  }
