-- The tables of events and of outputs behind the places of a module's fields: how they are filled, and what is read back.
use Prim.Native.Nat.{ℕ, zero, suc, ◌+◌, ◌-◌, ◌<◌, ◌≤◌}
use mathlib.Core.Path.{◌≡◌, refl, sym, ap, ◌∙◌}
use mathlib.Core.List.{List, [], ◌∷◌, ◌++◌, append_assoc, append-nil}
use native.Mathlib.Omega.{arith}
use native.Mathlib.Nat.{zero-add, sub-zero}
use lib.ListN.{length, get_or, set, take, drop, take-append-drop, length-set, length-take, length-drop, drop_of_length-le}
use Rattle.typing.proofs.BlockLaws.{get_or_sets_low, word_kept}
use lib.Seq.{sets, length-sets, sets-eq, length-take-le, get_or-set_same, get_or-set_other, drop-set-lt, take-take, take-add, drop-drop, take-append_seam, drop-append-le, take_at, drop_at}
use Rattle.typing.specs.Table.{pairs_at, Filled}
use Rattle.typing.specs.Rolls.{FillsOutputs}
use Rattle.findings.specs.Scene.{groups_in, events_in, with_table, GroupsFilled}
use Rattle.findings.proofs.ClaimTables.{pairs_few}

-- a part of a table
pub front_all : (l : List ℕ) (n : ℕ) → length l ≤ n → l ≡ take n l
front_all [] zero h = refl
front_all [] (suc n) h = refl
front_all (x ∷ l) zero h = absurd (omega arith)
front_all (x ∷ l) (suc n) h = ap (λ (t : List ℕ). x ∷ t) (front_all l n (omega arith))

pub front_cut : (l : List ℕ) (n : ℕ) → take (n - 0) l ≡ take n l
front_cut l n = ap (λ (k : ℕ). take k l) (sub-zero n)

pub back_some : (l : List ℕ) (from : ℕ) {end : ℕ} → end ≡ length l → take (end - from) (drop from l) ≡ drop from l
back_some l from {end} e = sym (front_all (drop from l) (end - from) (omega (arith, length-drop from l)))

pub groups_few : (places : List ℕ) (from words : ℕ) {a b r : List ℕ} → a ≡ drop from places → b ≡ take 510 a → r ≡ take words b → length r ≤ 510
groups_few places from words {a} {b} {r} e f g =
    let x : length r ≤ length b = omega (arith, ap length g, length-take words b) in
    omega (arith, ap length f, length-take 510 a)

pub groups_part : (places : List ℕ) (from words : ℕ) {a b r : List ℕ} → a ≡ drop from places → b ≡ take 510 a → r ≡ take words b → r ≡ groups_in places from words
groups_part places from words e f g = g ∙ ap (take words) (f ∙ ap (take 510) e)

pub groups_as : (places : List ℕ) (from : ℕ) {words words' : ℕ} {r : List ℕ} → words ≡ words' → r ≡ groups_in places from words → r ≡ groups_in places from words'
groups_as places from e g = g ∙ ap (groups_in places from) e

-- a part of a table that is filled by itself
part_filled : (l p E : List ℕ) (from n : ℕ) → from + n ≤ length l → length E ≤ n → p ≡ sets (take n (drop from l)) 0 E → take from l ++ (p ++ drop n (drop from l)) ≡ sets l from E
part_filled l p E from n h few e =
    let part = take n (drop from l) in
    let more = drop n (drop from l) in
    let size : length part ≡ n = length-take-le n (drop from l) (omega (arith, length-drop from l)) in
    let own : p ≡ E ++ drop (length E) part = e ∙ sets-eq E part 0 (omega arith) ∙ ap (λ (k : ℕ). E ++ drop k part) (zero-add (length E)) in
    let rest : drop (from + length E) l ≡ drop (length E) part ++ more =
    sym (drop-drop (length E) from l) ∙ ap (drop (length E)) (sym (take-append-drop n (drop from l))) ∙ drop-append-le (length E) part more (omega arith) in
    ap (λ (t : List ℕ). take from l ++ t) (ap (λ (t : List ℕ). t ++ more) own ∙ append_assoc E (drop (length E) part) more ∙ ap (λ (t : List ℕ). E ++ t) (sym rest))
    ∙ sym (sets-eq E l from (omega arith) ∙ append_assoc (take from l) E (drop (from + length E) l))

module _ (s pl T : List ℕ) (at w from : ℕ) where
  pub group_filled : {end a : ℕ} (m : List ℕ) → from + 510 ≤ length pl → end ≡ from + 510 → Filled (take (end - from) (drop from pl)) (pairs_at s at) a T → m ≡ set (take from pl ++ (T ++ drop (end - from) (drop from pl))) w a → m ≡ with_table pl w from (pairs_at s at)
  unfolding with_table
  group_filled {end} {a} m h k f y =
      let few = pairs_few s at in
      y ∙ (λ i. set (part_filled pl T (pairs_at s at) from (end - from) (omega arith) (omega arith) f.words i) w (f.many i))

-- what is read back
module _ (pl : List ℕ) (w from : ℕ) (T : List ℕ) (few : length T ≤ 510) where
  pub table_size : length (with_table pl w from T) ≡ length pl
  unfolding with_table
  table_size = length-set (sets pl from T) w (length T) ∙ length-sets pl from T

  pub table_kept : (i : ℕ) → i < from → (i ≡ w → ⊥) → get_or (with_table pl w from T) i 0 ≡ get_or pl i 0
  unfolding with_table
  table_kept i h n = get_or-set_other (sets pl from T) w i (length T) 0 n ∙ get_or_sets_low T pl from i h

  module _ (h : from + 510 ≤ length pl) (k : w < from) where
    pub table_back : groups_in (with_table pl w from T) from (get_or (with_table pl w from T) w 0) ≡ T
    unfolding with_table
    table_back =
        let c : get_or (with_table pl w from T) w 0 ≡ length T = get_or-set_same (sets pl from T) w (length T) 0 (omega (arith, length-sets pl from T)) in
        let d : drop from (with_table pl w from T) ≡ T ++ drop (from + length T) pl =
        drop-set-lt from (sets pl from T) w (length T) k
        ∙ ap (drop from) (sets-eq T pl from (omega arith) ∙ append_assoc (take from pl) T (drop (from + length T) pl))
        ∙ drop_at (take from pl) (T ++ drop (from + length T) pl) from (length-take-le from pl (omega arith)) in
        rw (c, d) (take-take (length T) 510 (T ++ drop (from + length T) pl) few ∙ take-append_seam T (drop (from + length T) pl))

-- a part of what is before a part of a table
pub middle : (l : List ℕ) (a b : ℕ) → a ≤ length l → take b (drop a l) ≡ drop a (take (a + b) l)
middle l a b h = sym (ap (drop a) (take-add a b l) ∙ drop_at (take a l) (take b (drop a l)) a (length-take-le a l h))

-- the words before word 522 have the table of events
pub groups_kept : (l l' : List ℕ) → 522 ≤ length l → take 522 l' ≡ take 522 l → events_in l' ≡ events_in l
groups_kept l l' h e =
    let z = ap length e in
    let y = length-take 522 l' in
    let x = length-take-le 522 l h in
    ap (λ (w : ℕ). groups_in l' 12 w) (word_kept l l' 522 e 11 (omega arith))
    ∙ ap (take (get_or l 11 0)) (middle l' 12 510 (omega arith) ∙ ap (drop 12) e ∙ sym (middle l 12 510 (omega arith)))

-- a part of a table to its end that is filled by itself
pub groups_filled : (s pl l T T' : List ℕ) {events outputs : ℕ} → 1544 ≤ length pl → events ≡ get_or pl 5 0 → outputs ≡ get_or pl 6 0 → l ≡ with_table pl 11 12 (pairs_at s events) → FillsOutputs s outputs T T' → GroupsFilled s pl (take 522 l ++ (T' ++ drop (length l - 522) (drop 522 l)))
groups_filled s pl l T T' {events} {outputs} h e o x f =
    let size : length l ≡ length pl = ap length x ∙ table_size pl 11 12 (pairs_at s events) (pairs_few s events) in
    let front : length (take 522 l) ≡ 522 = length-take-le 522 l (omega arith) in
    let rest : drop (length l - 522) (drop 522 l) ≡ [] = drop_of_length-le (drop 522 l) {i = length l - 522} (omega (arith, length-drop 522 l)) in
    let whole : take 522 l ++ (T' ++ drop (length l - 522) (drop 522 l)) ≡ take 522 l ++ T' = ap (λ (t : List ℕ). take 522 l ++ (T' ++ t)) rest ∙ ap (λ (t : List ℕ). take 522 l ++ t) (append-nil T') in
    record {
      kept = ap (take 522) whole ∙ take_at (take 522 l) T' 522 front ∙ ap (take 522) (x ∙ ap (λ (a : ℕ). with_table pl 11 12 (pairs_at s a)) e);
      before = T;
      outputs = rw (← o, ap (drop 522) whole ∙ drop_at (take 522 l) T' 522 front) f;
    }
