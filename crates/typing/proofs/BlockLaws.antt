-- A block whose pairs are on their lanes has what its pairs have: a walk along a name's lane passes no pair of the name.
use Rattle.std.specs.Prelude.{Option as Maybe, Some, None}
use Prim.Native.Nat.{ℕ, zero, suc, ◌+◌, ◌-◌, ◌*◌, ◌/◌, ◌%◌, ◌^◌, ◌<◌, ◌≤◌}
use mathlib.Core.Path.{◌≡◌, refl, sym, ap, subst, ◌∙◌}
use mathlib.Core.Bool.{Bool, true, false}
use mathlib.Core.List.{List, [], ◌∷◌}
use mathlib.Core.Option.{Option, none, some}
use native.Mathlib.Omega.{arith}
use lib.ListN.{length, get_or, set, take, length-set}
use lib.Seq.{sets, length-sets, get_or-take, get_or-set_same, get_or-set_other, take-set-le}
use lib.Dec.{eqb, ltb}
use borrow.Author.Tests.{eq-eqb, ne_eqb, eqb-false, lt-ltb, le-ltb, ltb-false}
use Rattle.reading.specs.Read.{Read, ok, refused, pick}
use Rattle.reading.specs.Limits.{max_list}
use Rattle.reading.specs.Item.{read_count}
use Rattle.reading.specs.Text.{Name}
use Rattle.reading.specs.Skip.{text_at}
use Rattle.reading.proofs.Rules.{by}
use Rattle.typing.specs.Names.{eq_name}
use Rattle.typing.specs.Causes.{first_of}
use Rattle.typing.specs.Table.{pairs_of, pairs_at, Filled, find_first, found}
use Rattle.typing.specs.Lanes.{print_by, print, factor, spread}
use Rattle.typing.specs.Blocks.{name_in, under_in, head_in, link_in, key_in, block_lane, lane_in, SameName, BlockWoven, link_from, along_lane, block_find, find_blocks, find_in, enum_find, Keeps, Weaves, Clears}
use Rattle.typing.proofs.NameLaws.{eq_name_eq}
use Rattle.typing.proofs.TableLaws.{pairs_length, first_none, first_hit, first_miss}
use Rattle.typing.proofs.LaneLaws.{Links, woven_none, woven_kept, links_head, links_past, woven_more, lane_apart, find_past}

-- the lane of a name
pub lane_small : (key : ℕ) (n : Name) → block_lane key n < 63
unfolding block_lane
lane_small key n = omega arith

pub lane_is : (n : Name) (key : ℕ) {f p lane : ℕ} → f ≡ factor key → p ≡ print_by f 0 n → lane ≡ spread p / 2 ^ 16 % 63 → lane ≡ block_lane key n
unfolding block_lane
lane_is n key e q r = rw (r, q, e)

-- the same by the print, which is that of key 0
pub lane_first : (n : Name) {key p lane : ℕ} → key ≡ 0 → p ≡ print 0 n → lane ≡ spread p / 2 ^ 16 % 63 → lane ≡ block_lane key n
unfolding factor
lane_first n {key} e q r = lane_is n key (omega arith) q r

-- x stands under a name along a lane from p on, in f steps at most
module _ (s : List ℕ) (n : Name) (T : List ℕ) (o f p : ℕ) {x : Option ℕ} (r : along_lane f s n T o p ≡ x) where
  pub lane_over : f ≤ 0 → None ≡ found x
  unfolding along_lane found
  lane_over h = let z : f ≡ 0 = omega arith in ap found (sym (ap (λ (g : ℕ). along_lane g s n T o p) z) ∙ r)

  module _ (h : 0 < f) where
    lane_step : x ≡ pick (eqb p 0) none (pick (ltb 255 p) none (pick (eq_name (text_at s (name_in T o (p - 1))) n) (some (under_in T o (p - 1))) (along_lane (f - 1) s n T o (link_in T o (p - 1)))))
    unfolding along_lane
    lane_step = let k : f ≡ suc (f - 1) = omega arith in sym r ∙ ap (λ (g : ℕ). along_lane g s n T o p) k

    pub lane_end : p ≡ 0 → None ≡ found x
    unfolding found pick
    lane_end e = rw (lane_step, eq-eqb p 0 e)

    module _ (d : p ≡ 0 → ⊥) where
      pub lane_out : 255 < p → None ≡ found x
      unfolding found pick
      lane_out e = rw (lane_step, ne_eqb p 0 d, lt-ltb 255 p e)

      module _ (l : p ≤ 255) {b : Bool} {key : Name} (e : b ≡ eq_name key n) (t : key ≡ text_at s (name_in T o (p - 1))) where
        lane_pair : x ≡ pick b (some (under_in T o (p - 1))) (along_lane (f - 1) s n T o (link_in T o (p - 1)))
        unfolding pick
        lane_pair = rw (lane_step, ne_eqb p 0 d, le-ltb 255 p l, sym t, sym e)

        pub lane_hit : b ≡ true → (Some (under_in T o (p - 1))) ≡ found x
        unfolding found pick
        lane_hit q = rw (lane_pair, q)

        pub lane_miss : b ≡ false → along_lane (f - 1) s n T o (link_in T o (p - 1)) ≡ x
        unfolding pick
        lane_miss q = rw (lane_pair, q)

pub lane_start : (s : List ℕ) (n : Name) (T : List ℕ) (o : ℕ) {h : ℕ} → h ≡ block_lane (key_in T o) n → along_lane 255 s n T o (head_in T o h) ≡ block_find s n T o
unfolding block_find
lane_start s n T o e = ap (λ (h : ℕ). along_lane 255 s n T o (head_in T o h)) e

-- what stands under a name in the first b blocks
module _ (s : List ℕ) (n : Name) (T : List ℕ) (b : ℕ) {x : Option ℕ} (r : find_blocks b s n T ≡ x) where
  pub blocks_none : b ≤ 0 → None ≡ found x
  unfolding find_blocks found
  blocks_none h = let z : b ≡ 0 = omega arith in ap found (sym (ap (λ (c : ℕ). find_blocks c s n T) z) ∙ r)

  module _ (h : 0 < b) {f : Maybe ℕ} (e : f ≡ found (block_find s n T (829 * (b - 1)))) where
    last_block : x ≡ first_of (block_find s n T (829 * (b - 1))) (find_blocks (b - 1) s n T)
    unfolding find_blocks
    last_block = let k : b ≡ suc (b - 1) = omega arith in sym r ∙ ap (λ (c : ℕ). find_blocks c s n T) k

    pub blocks_hit : {place : ℕ} → f ≡ Some place → (Some place) ≡ found x
    blocks_hit q = sym q ∙ first_hit (block_find s n T (829 * (b - 1))) (find_blocks (b - 1) s n T) e q ∙ ap found (sym last_block)

    pub blocks_miss : f ≡ None → find_blocks (b - 1) s n T ≡ x
    blocks_miss q = first_miss (block_find s n T (829 * (b - 1))) (find_blocks (b - 1) s n T) e q ∙ sym last_block

pub blocks_start : (s : List ℕ) (n : Name) (T : List ℕ) → find_blocks (length T / 829) s n T ≡ find_in s n T
unfolding find_in
blocks_start s n T = refl

-- the words before a block's heads
pub word_kept : (T T' : List ℕ) (m : ℕ) → take m T' ≡ take m T → (j : ℕ) → j < m → get_or T' j 0 ≡ get_or T j 0
word_kept T T' m e j h = sym (get_or-take m T' j 0 h) ∙ ap (λ (l : List ℕ). get_or l j 0) e ∙ get_or-take m T j 0 h

-- the lanes of a cleared block
pub weaves_none : {s T T' : List ℕ} {o : ℕ} → Clears T o 63 T' → Weaves s T' o 0 T'
weaves_none c = record { size = refl; kept = refl; woven = woven_none c.empty }

pub weaves_still : {s T T' : List ℕ} {o k : ℕ} → Weaves s T o k T' → Weaves s T' o k T'
weaves_still w = record { size = refl; kept = refl; woven = w.woven }

pub weaves_then : {s T T' T'' : List ℕ} {o i k : ℕ} → Weaves s T o i T' → Weaves s T' o k T'' → Weaves s T o k T''
weaves_then a b = record { size = b.size ∙ a.size; kept = b.kept ∙ a.kept; woven = b.woven }

pub weaves_all : {s T T₁ T₂ : List ℕ} {o i n : ℕ} → Clears T o 63 T₁ → Weaves s T₁ o i T₂ → i ≤ n → n ≤ i → Weaves s T o n T₂
weaves_all {s} {T} {T₁} {T₂} {o} {i} {n} c w a b =
    let e : i ≡ n = omega arith in
    record { size = w.size ∙ c.size; kept = w.kept ∙ c.kept; woven = subst (BlockWoven s T₂ o) e w.woven }

-- what pair i is linked to: the head of its lane, or what that is linked to
module _ (s T : List ℕ) (o head i : ℕ) where
  pub link_none : head ≡ 0 → head ≡ link_from s T o head i
  unfolding link_from pick
  link_none e = rw (eq-eqb head 0 e)

  module _ (d : head ≡ 0 → ⊥) {b : Bool} (e : b ≡ eq_name (text_at s (name_in T o (head - 1))) (text_at s (name_in T o i))) where
    pub link_same : b ≡ true → link_in T o (head - 1) ≡ link_from s T o head i
    unfolding link_from pick
    link_same q = rw (ne_eqb head 0 d, sym e, q)

    pub link_other : b ≡ false → head ≡ link_from s T o head i
    unfolding link_from pick
    link_other q = rw (ne_eqb head 0 d, sym e, q)

-- pair i is put before those of its lane
module _ (s T : List ℕ) (o i : ℕ) (l : o + 829 ≤ length T) (m : i < 255) (w : BlockWoven s T o i) where
  abbrev c : ℕ
  c = lane_in s T o i

  c_small : c < 63
  c_small = lane_small (key_in T o) (text_at s (name_in T o i))

  abbrev link : ℕ
  link = link_from s T o (head_in T o c) i

  abbrev linked : List ℕ
  linked = set T (o + 574 + i) link

  abbrev put : List ℕ
  put = set linked (o + 510 + c) (i + 1)

  links : Links (lane_in s T o) (SameName s T o) i link
  unfolding link_from pick
  links =
      by (eqb p 0) (λ q. rw q (links_head w c_small)) (λ q.
      let d = eqb-false p 0 q in
      by (eq_name x y)
      (λ r. let z = eq_name_eq x y r in rw (q, r) (links_past w c_small (omega arith) z (λ j e. e ∙ z)))
      (λ r. rw (q, r) (links_head w c_small)))
    where
      p : ℕ
      p = head_in T o c

      x : Name
      x = text_at s (name_in T o (p - 1))

      y : Name
      y = text_at s (name_in T o i)

  linked_size : length linked ≡ length T
  linked_size = length-set T (o + 574 + i) link

  put_kept : take (o + 510) put ≡ take (o + 510) T
  put_kept = take-set-le (o + 510) linked (o + 510 + c) (i + 1) (omega arith) ∙ take-set-le (o + 510) T (o + 574 + i) link (omega arith)

  key_same : key_in put o ≡ key_in T o
  key_same =
      let z = c_small in
      get_or-set_other linked (o + 510 + c) (o + 573) (i + 1) 0 (λ (e : o + 573 ≡ o + 510 + c). omega arith)
      ∙ get_or-set_other T (o + 574 + i) (o + 573) link 0 (λ (e : o + 573 ≡ o + 574 + i). omega arith)

  name_same : (j : ℕ) → j < 255 → name_in put o j ≡ name_in T o j
  name_same j a = word_kept T put (o + 510) put_kept (o + 2 * j) (omega arith)

  head_same : (h : ℕ) → h < 63 → (h ≡ c → ⊥) → head_in put o h ≡ head_in T o h
  head_same h a d =
      get_or-set_other linked (o + 510 + c) (o + 510 + h) (i + 1) 0 (λ (e : o + 510 + h ≡ o + 510 + c). d (omega arith))
      ∙ get_or-set_other T (o + 574 + i) (o + 510 + h) link 0 (λ (e : o + 510 + h ≡ o + 574 + i). omega arith)

  link_put : (j : ℕ) → j < 255 → link_in put o j ≡ link_in linked o j
  link_put j a = let z = c_small in get_or-set_other linked (o + 510 + c) (o + 574 + j) (i + 1) 0 (λ (e : o + 574 + j ≡ o + 510 + c). omega arith)

  weaves_with : Weaves s T o (i + 1) put
  weaves_with = record {
    size = length-set linked (o + 510 + c) (i + 1) ∙ linked_size;
    kept = put_kept;
    woven = woven_kept
        (woven_more w c_small
        (get_or-set_same linked (o + 510 + c) (i + 1) 0 (let z = linked_size in let y = c_small in omega arith))
        head_same
        links
        (link_put i m ∙ get_or-set_same T (o + 574 + i) link 0 (omega arith))
        (λ j a. link_put j (omega arith) ∙ get_or-set_other T (o + 574 + i) (o + 574 + j) link 0 (λ (e : o + 574 + j ≡ o + 574 + i). omega arith)))
        (λ j a. rw (key_same, name_same j (omega arith))) (λ h a. refl) (λ j a. refl)
        (λ a b x y e. rw (name_same a (omega arith), name_same b (omega arith)) e);
  }

  pub weaves_more : {name : Name} {lane p : ℕ} {T₁ T₂ : List ℕ} → name ≡ text_at s (name_in T o i) → lane ≡ block_lane (key_in T o) name → p ≡ link_from s T o (head_in T o lane) i → T₁ ≡ set T (o + 574 + i) p → T₂ ≡ set T₁ (o + 510 + lane) (i + 1) → Weaves s T o (i + 1) T₂
  weaves_more t e r a b = rw (b, a, r, e, t) weaves_with

-- a walk along a name's lane finds what the pairs have under the name
module _ (s pairs T : List ℕ) (o k : ℕ) (n : Name) (few : k ≤ 255) (same : (j : ℕ) → j < 2 * k → get_or T (o + j) 0 ≡ get_or pairs j 0) (w : BlockWoven s T o k) where
  abbrev lane : Name → ℕ
  lane x = block_lane (key_in T o) x

  under_same : (i : ℕ) → i < k → under_in T o i ≡ get_or pairs (2 * i + 1) 0
  under_same i h = ap (λ (a : ℕ). get_or T a 0) (let z : o + 2 * i + 1 ≡ o + (2 * i + 1) = omega arith in z) ∙ same (2 * i + 1) (omega arith)

  -- pair j has another name if it has where it is on the name's lane
  apart : (j : ℕ) → j < k → (lane_in s T o j ≡ lane n → eq_name (text_at s (name_in T o j)) n ≡ false) → eq_name (text_at s (get_or pairs (2 * j) 0)) n ≡ false
  apart j h f = rw (← same (2 * j) (omega arith)) (lane_apart lane (text_at s (name_in T o j)) n f)

  along : (f p : ℕ) → p ≤ f → p ≤ k → (0 < p → lane_in s T o (p - 1) ≡ lane n) → along_lane f s n T o p ≡ find_first s n pairs p
  unfolding along_lane find_first pick
  along zero p h l on = let z : p ≡ 0 = omega arith in sym (ap (find_first s n pairs) z)
  along (suc f) zero h l on = refl
  along (suc f) (suc i) h l on =
      let z : suc i - 1 ≡ i = omega arith in
      let m : i < k = omega arith in
      let g = w.link_low i m in
      let o' = ap (lane_in s T o) (sym z) ∙ on (omega arith) in
      rw (ne_eqb (suc i) 0 (λ (e : suc i ≡ 0). omega arith), le-ltb 255 (suc i) (omega arith), z, ← same (2 * i) (omega arith), under_same i m)
      (by (eq_name (text_at s (name_in T o i)) n) (λ q. rw q) (λ q. rw q
      (along f (link_in T o i) (omega arith) (omega arith) (λ x. w.link_on i m x ∙ o')
      ∙ find_past s pairs n (link_in T o i) i g (λ j a b. apart j (omega arith) (λ r. rw (w.link_last i j m b a (r ∙ sym o')) q)))))

  pub block_finds : block_find s n T o ≡ find_first s n pairs k
  unfolding block_find
  block_finds =
      let h = lane_small (key_in T o) n in
      let l = w.head_low (lane n) h in
      along 255 (head_in T o (lane n)) (omega arith) l (w.head_on (lane n) h)
      ∙ find_past s pairs n (head_in T o (lane n)) k l (λ j a b. apart j b (λ q. absurd (w.head_last (lane n) j h b a q)))

-- the pairs of a woven block
pub keeps : (s pairs T : List ℕ) {T' : List ℕ} {o k : ℕ} → k ≤ 255 → length pairs ≡ 2 * k → Weaves s T o k T' → ((j : ℕ) → j < 2 * k → get_or T (o + j) 0 ≡ get_or pairs j 0) → Keeps s pairs T' o
keeps s pairs T {T'} {o} {k} few l w g = record {
  finds = λ n.
      let h : length pairs / 2 ≡ k = omega arith in
      block_finds s pairs T' o k n few (λ j a. word_kept T T' (o + 510) w.kept (o + j) (omega arith) ∙ g j a) w.woven
      ∙ sym (ap (find_first s n pairs) h);
}

-- words that were put into a list, and those before them
pub get_or_sets_low : (vs l : List ℕ) (j i : ℕ) → i < j → get_or (sets l j vs) i 0 ≡ get_or l i 0
get_or_sets_low [] l j i h = refl
get_or_sets_low (v ∷ vs) l j i h = get_or_sets_low vs (set l j v) (suc j) i (omega arith) ∙ get_or-set_other l j i v 0 (λ e. absurd (omega arith))

pub get_d_sets : (vs l : List ℕ) (o j : ℕ) → j < length vs → o + length vs ≤ length l → get_or (sets l o vs) (o + j) 0 ≡ get_or vs j 0
get_d_sets [] l o j h m = absurd (omega arith)
get_d_sets (v ∷ vs) l o zero h m =
    let e : o + 0 ≡ o = omega arith in
    ap (λ (i : ℕ). get_or (sets (set l o v) (suc o) vs) i 0) e ∙ get_or_sets_low vs (set l o v) (suc o) o (omega arith) ∙ get_or-set_same l o v 0 (omega arith)
get_d_sets (v ∷ vs) l o (suc j) h m =
    let e : o + suc j ≡ suc o + j = omega arith in
    ap (λ (i : ℕ). get_or (sets (set l o v) (suc o) vs) i 0) e ∙ get_d_sets vs (set l o v) (suc o) j (omega arith) (let z = length-set l o v in omega arith)

-- pairs that were put into a block, and then on their lanes
pub block_filled : (s T pairs : List ℕ) (o k : ℕ) {T₁ T₂ : List ℕ} → T₁ ≡ sets T o pairs → length pairs ≡ 2 * k → k ≤ 255 → o + 829 ≤ length T → Weaves s T₁ o k T₂ → Keeps s pairs T₂ o
block_filled s T pairs o k {T₁} e l f m w = keeps s pairs T₁ f l w (λ j h. ap (λ (x : List ℕ). get_or x (o + j) 0) e ∙ get_d_sets pairs T o j (omega arith) (omega arith))

pairs_even : (s : List ℕ) (at : ℕ) → length (pairs_at s at) ≡ 2 * (length (pairs_at s at) / 2)
unfolding pairs_at pairs_of
pairs_even s at = even (read_count max_list s at)
  where
    even : (r : Read ℕ) → length (pairs_of s r) ≡ 2 * (length (pairs_of s r) / 2)
    even (ok c first) = let l = pairs_length c s first in omega arith
    even (refused f p) = refl

pub list_filled : (s T : List ℕ) (at : ℕ) {r : ℕ} {T₁ T₂ : List ℕ} → Filled T (pairs_at s at) r T₁ → r ≤ 510 → 829 ≤ length T → Weaves s T₁ 0 (r / 2) T₂ → Keeps s (pairs_at s at) T₂ 0
list_filled s T at {r} f h m w =
    let z = pairs_even s at in
    let n = f.many in
    block_filled s T (pairs_at s at) 0 (r / 2) f.words (omega arith) (omega arith) (omega arith) w

pub fills_size : {s T P : List ℕ} {r k : ℕ} {T₁ T₂ : List ℕ} → Filled T P r T₁ → Weaves s T₁ 0 k T₂ → length T₂ ≡ length T
fills_size {T = T} {P = P} f w = w.size ∙ ap length f.words ∙ length-sets T 0 P

-- the words of a block decide
module _ (s : List ℕ) (n : Name) (T T' : List ℕ) (o : ℕ) (g : (j : ℕ) → j < o + 829 → get_or T' j 0 ≡ get_or T j 0) where
  along_kept : (f p : ℕ) → along_lane f s n T' o p ≡ along_lane f s n T o p
  unfolding along_lane pick
  along_kept zero p = refl
  along_kept (suc f) p =
      by (ltb 255 p)
      (λ q. rw q)
      (λ q.
      let l = ltb-false 255 p q in
      rw (g (o + 2 * (p - 1)) (omega arith), g (o + 2 * (p - 1) + 1) (omega arith), g (o + 574 + (p - 1)) (omega arith), along_kept f (link_in T o (p - 1))))

  pub block_kept : block_find s n T' o ≡ block_find s n T o
  unfolding block_find
  block_kept =
      let h = lane_small (key_in T o) n in
      rw (g (o + 573) (omega arith), g (o + 510 + block_lane (key_in T o) n) (omega arith)) (along_kept 255 (head_in T o (block_lane (key_in T o) n)))

pub keeps_taken : (s pairs T : List ℕ) (o m : ℕ) → o + 829 ≤ m → Keeps s pairs T o → Keeps s pairs (take m T) o
keeps_taken s pairs T o m h k = record { finds = λ n. block_kept s n T (take m T) o (λ j a. get_or-take m T j 0 (omega arith)) ∙ k.finds n }

-- tables of one block and of two, and of enums
module _ (s : List ℕ) (n : Name) (T : List ℕ) where
  pub one_block : length T ≡ 829 → find_in s n T ≡ block_find s n T 0
  unfolding find_in find_blocks
  one_block l = let h : length T / 829 ≡ 1 = omega arith in ap (λ (b : ℕ). find_blocks b s n T) h ∙ first_none (block_find s n T 0)

  pub two_blocks : length T ≡ 1658 → find_in s n T ≡ first_of (block_find s n T 829) (block_find s n T 0)
  unfolding find_in find_blocks
  two_blocks l = let h : length T / 829 ≡ 2 = omega arith in ap (λ (b : ℕ). find_blocks b s n T) h ∙ ap (first_of (block_find s n T 829)) (first_none (block_find s n T 0))

  pub enum_short : length T < 829 → None ≡ found (enum_find s n T)
  unfolding enum_find found pick
  enum_short l = rw (lt-ltb (length T) 829 l)

  pub enum_block : 829 ≤ length T → enum_find s n T ≡ block_find s n T 0
  unfolding enum_find pick
  enum_block l = rw (le-ltb (length T) 829 l)

  pub enum_in_block : {f : Maybe ℕ} → 829 ≤ length T → f ≡ found (block_find s n T 0) → f ≡ found (enum_find s n T)
  enum_in_block l e = e ∙ ap found (sym (enum_block l))
