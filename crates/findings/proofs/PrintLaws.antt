-- Prints: of parts of the document, and of each transition while the table is filled.
use Prim.Native.Nat.{ℕ, suc, ◌+◌, ◌*◌, ◌<◌, ◌≤◌}
use mathlib.Core.Path.{◌≡◌, refl, ap, ◌∙◌}
use mathlib.Core.List.{List, [], ◌∷◌}
use mathlib.Core.Logic.{◌≢◌}
use mathlib.Core.Option.{some}
use native.Mathlib.Omega.{arith}
use native.Mathlib.Decide.{ℕ_discrete}
use lib.ListN.{length, get_or, get_elem?, set, length-set}
use lib.Seq.{sets, length-sets, get_or-set_same, get_or-set_other}
use Rattle.reading.specs.Transition.{Transition}
use Rattle.reading.specs.Skip.{text_at}
use Rattle.reading.proofs.ListViews.{spanned}
use Rattle.reading.proofs.Walks.{name_text}
use Rattle.reading.proofs.PatternLaws.{pattern_laws}
use Rattle.typing.specs.Lanes.{print}
use Rattle.findings.specs.Scene.{field, RowAt, Rows}
use Rattle.findings.specs.Prints.{key_of, PrintOf}
use Rattle.findings.specs.Parts.{prints_of, PrintPart, Ranked, KeyPrint, PrintedRow}
use Rattle.findings.specs.PairPromises.{Printed}
use Rattle.findings.proofs.PlaceLaws.{entry_below}

-- of what is handed out
pub print_as : (h : ℕ) (x y : List ℕ) {r : ℕ} → r ≡ print h x → x ≡ y → r ≡ print h y
print_as h x y e q = rw q at e

pub part_as : {s : List ℕ} {a b c d h r : ℕ} → PrintPart s a b h r → a ≡ c → b ≡ d → PrintPart s c d h r
part_as p e q = rw (e, q) at p

pub print_text : (s : List ℕ) (k m : ℕ) (x : List ℕ) {r : ℕ} → r ≡ print 0 x → x ≡ text_at s k → k ≡ m → r ≡ print 0 (text_at s m)
print_text s k m x e q w = rw (q, w) at e

module _ (s rows : List ℕ) (i : ℕ) where
  pub row_words : {a b c : ℕ} {p p' : List ℕ} → a ≡ print 0 (text_at s (field rows i 1)) → b ≡ print 0 (text_at s (field rows i 4)) → KeyPrint s rows i a c → p' ≡ sets p (3 * i) (a ∷ b ∷ c ∷ []) → PrintedRow s rows i p p'
  row_words {a} {b} {c} {p} e f g w =
      let q : a ∷ b ∷ c ∷ [] ≡ prints_of s rows i c = cc in
      record { key = c; words = w ∙ ap (sets p (3 * i)) q; keyed = rw e at g }

  pub key_ranked : {state h k c : ℕ} → PrintPart s (field rows i 2) (field rows i 3) state h → Ranked s k h c → k ≡ field rows i 7 → KeyPrint s rows i state c
  key_ranked p r e = record { ranks = rw (p.is, e) at r; each = p.each }

  -- each word where it was put
  module _ (p : List ℕ) (h : 3 * i + 2 < length p) (a b c : ℕ) where
    put_first : get_or (sets p (3 * i) (a ∷ b ∷ c ∷ [])) (3 * i + 0) 0 ≡ a
    put_first =
        let z : 3 * i + 0 ≡ 3 * i = omega arith in
        let x : 3 * i ≢ suc (suc (3 * i)) = λ q. omega arith in
        let y : 3 * i ≢ suc (3 * i) = λ q. omega arith in
        rw z (get_or-set_other (set (set p (3 * i) a) (suc (3 * i)) b) (suc (suc (3 * i))) (3 * i) c 0 x ∙ get_or-set_other (set p (3 * i) a) (suc (3 * i)) (3 * i) b 0 y ∙ get_or-set_same p (3 * i) a 0 (omega arith))

    put_second : get_or (sets p (3 * i) (a ∷ b ∷ c ∷ [])) (3 * i + 1) 0 ≡ b
    put_second =
        let z : 3 * i + 1 ≡ suc (3 * i) = omega arith in
        let x : suc (3 * i) ≢ suc (suc (3 * i)) = λ q. omega arith in
        rw z (get_or-set_other (set (set p (3 * i) a) (suc (3 * i)) b) (suc (suc (3 * i))) (suc (3 * i)) c 0 x ∙ get_or-set_same (set p (3 * i) a) (suc (3 * i)) b 0 (omega (arith, length-set p (3 * i) a)))

    put_third : get_or (sets p (3 * i) (a ∷ b ∷ c ∷ [])) (3 * i + 2) 0 ≡ c
    put_third =
        let z : 3 * i + 2 ≡ suc (suc (3 * i)) = omega arith in
        rw z (get_or-set_same (set (set p (3 * i) a) (suc (3 * i)) b) (suc (suc (3 * i))) c 0 (omega (arith, length-set p (3 * i) a, length-set (set p (3 * i) a) (suc (3 * i)) b)))

    put_other : (k : ℕ) → k < 3 * i → get_or (sets p (3 * i) (a ∷ b ∷ c ∷ [])) k 0 ≡ get_or p k 0
    put_other k l =
        let x : k ≢ suc (suc (3 * i)) = λ q. omega arith in
        let y : k ≢ suc (3 * i) = λ q. omega arith in
        let z : k ≢ 3 * i = λ q. omega arith in
        get_or-set_other (set (set p (3 * i) a) (suc (3 * i)) b) (suc (suc (3 * i))) k c 0 x ∙ get_or-set_other (set p (3 * i) a) (suc (3 * i)) k b 0 y ∙ get_or-set_other p (3 * i) k a 0 z

  -- the row's own words are the prints of its transition
  row_key : (t : Transition) {c : ℕ} → RowAt s rows i t → KeyPrint s rows i (print 0 (text_at s (field rows i 1))) c → c ≡ key_of t
  unfolding key_of
  row_key t r w =
      let x = name_text s (field rows i 1) t.state (field rows i 2) r.state_is in
      let z = (spanned pattern_laws s w.each (field rows i 2) t.pattern (field rows i 3) r.pattern_is).0 in
      w.ranks.of t.priority r.priority_is ∙ rw (x, z)

  row_printed : {p p' : List ℕ} (t : Transition) → 768 ≤ length p → i < 256 → RowAt s rows i t → PrintedRow s rows i p p' → PrintOf p' i t
  row_printed {p} {p'} t h l r w =
      let b : 3 * i + 2 < length p = omega arith in
      let x = name_text s (field rows i 1) t.state (field rows i 2) r.state_is in
      let y = name_text s (field rows i 4) t.next_state (field rows i 5) r.next_state_is in
      let u = w.words in
      record {
        state_is = rw (u, put_first p b _ _ _, x);
        next_is = rw (u, put_second p b _ _ _, y);
        key_is = rw (u, put_third p b _ _ _) (row_key t r w.keyed);
      }

-- the transitions before number i have their prints
pub record PrintsSoFar (s rows prints : List ℕ) (i : ℕ) (now : List ℕ) : Type 0 where
  pub size : length now ≡ length prints
  pub room : 768 ≤ length now
  pub at : (ts : List Transition) → Rows s rows ts → (k : ℕ) (t : Transition) → k < i → get_elem? ts k ≡ some t → PrintOf now k t

module _ (s rows : List ℕ) where
  pub prints_start : {prints : List ℕ} → 768 ≤ length prints → PrintsSoFar s rows prints 0 prints
  prints_start h = record { size = refl; room = h; at = λ ts r k t l e. absurd (omega arith) }

  keep_print : {i k : ℕ} {p p' : List ℕ} {t : Transition} → 768 ≤ length p → i < 256 → k < i → PrintedRow s rows i p p' → PrintOf p k t → PrintOf p' k t
  keep_print {i} {k} {p} h l d w q =
      let b : 3 * i + 2 < length p = omega arith in
      let u = w.words in
      record {
        state_is = rw (u, put_other s rows i p b _ _ _ (3 * k + 0) (omega arith)) q.state_is;
        next_is = rw (u, put_other s rows i p b _ _ _ (3 * k + 1) (omega arith)) q.next_is;
        key_is = rw (u, put_other s rows i p b _ _ _ (3 * k + 2) (omega arith)) q.key_is;
      }

  pub prints_more : {i count : ℕ} {prints now now' : List ℕ} → PrintsSoFar s rows prints i now → count ≤ 255 → i < count → PrintedRow s rows i now now' → PrintsSoFar s rows prints (i + 1) now'
  prints_more {i} {count} {prints} {now} {now'} g m l w = record {
    size = ap length w.words ∙ length-sets now (3 * i) (prints_of s rows i w.key) ∙ g.size;
    room = let u = ap length w.words ∙ length-sets now (3 * i) (prints_of s rows i w.key) in let v = g.room in omega arith;
    at = λ ts r k t d e. by ts r k t d e (ℕ_discrete k i);
  }
    where
      by : (ts : List Transition) → Rows s rows ts → (k : ℕ) (t : Transition) → k < i + 1 → get_elem? ts k ≡ some t → Dec (k ≡ i) → PrintOf now' k t
      by ts r k t d e (yes q) =
          rw q (row_printed s rows i t g.room (omega arith) (r.at i t (rw q at e)) w)
      by ts r k t d e (no q) = keep_print g.room (omega arith) (omega arith) w (g.at ts r k t (omega arith) e)

  pub prints_done : {i count : ℕ} {prints now : List ℕ} → PrintsSoFar s rows prints i now → count ≤ i → Printed s rows count now
  prints_done {i} g h = record {
    of = λ ts r e. record { at = λ k t q. let l = entry_below ts k t q in g.at ts r k t (omega arith) q };
  }

-- a mark more keeps what was marked
pub set_seen : (seen : List ℕ) (w k : ℕ) → w < length seen → (k ≢ w → get_or seen k 0 ≡ 1) → get_or (set seen w 1) k 0 ≡ 1
set_seen seen w k h m = by (ℕ_discrete k w)
  where
    by : Dec (k ≡ w) → get_or (set seen w 1) k 0 ≡ 1
    by (yes e) = rw e (get_or-set_same seen w 1 0 h)
    by (no d) = get_or-set_other seen w k 1 0 d ∙ m d
