-- Lanes: each pair is put before those of its lane, and a walk along a name's lane passes no pair of the name.
use Prim.Native.Nat.{ℕ, zero, suc, ◌+◌, ◌-◌, ◌*◌, ◌/◌, ◌^◌, ◌<◌, ◌≤◌}
use mathlib.Core.Path.{◌≡◌, refl, sym, ap, subst, ◌∙◌}
use mathlib.Core.Logic.{◌≢◌}
use mathlib.Core.Bool.{Bool, false}
use mathlib.Core.List.{List, [], ◌∷◌, ◌++◌}
use mathlib.Core.Option.{some}
use native.Mathlib.Omega.{arith}
use native.Mathlib.Nat.{mul-le-mul}
use native.Mathlib.Numerals.{add-one}
use native.Mathlib.Decide.{ℕ_discrete}
use lib.Dec.{ltb}
use borrow.Author.Tests.{ltb-true, ltb-false}
use lib.ListN.{length, drop, get_or, set, replicate, length-set, length-replicate, get_or-replicate, drop_of_length-le, length-drop, length-append, get_or-append}
use lib.Seq.{drop-cons, get_or-set_same, get_or-set_other}
use Rattle.reading.specs.Read.{pick}
use Rattle.reading.specs.Text.{Name}
use Rattle.reading.specs.Skip.{text_at}
use Rattle.reading.proofs.Rules.{by}
use Rattle.typing.specs.Names.{eq_name}
use Rattle.typing.specs.Table.{find_first}
use Rattle.typing.specs.Lanes.{next_print, print_by, word_at, factor, spread, lane_by, lane_of, Woven, key_of, Lanes, Cleared, Laned}
use Rattle.typing.proofs.NameLaws.{eq_name_eq}
use Rattle.typing.proofs.TableLaws.{find_miss, find_kept}

-- the product of two numbers of 32 bits has 64
pub product_fits : {a b : ℕ} → a < 2 ^ 32 → b < 2 ^ 32 → a * b < 2 ^ 64
product_fits {a} {b} h l =
    let z : a * b ≤ 4294967295 * 4294967295 = mul-le-mul {n₂ = 4294967295} {m₂ = 4294967295} (omega arith) (omega arith) in
    omega arith

-- of less than four bytes each is a step
print_step : (f p b : ℕ) (bs : List ℕ) → length bs < 3 → print_by f (next_print f p b) bs ≡ print_by f p (b ∷ bs)
unfolding print_by
print_step f p b [] l = refl
print_step f p b (x ∷ []) l = refl
print_step f p b (x ∷ y ∷ []) l = refl
print_step f p b (x ∷ y ∷ z ∷ bs) l = absurd (omega arith)

-- a byte and then the others
drop_more : (a : List ℕ) (i j : ℕ) → i < length a → j ≡ i + 1 → drop i a ≡ get_or a i 0 ∷ drop j a
drop_more a i j l q = rw (q, add-one) (drop-cons a i 0 l)

-- four bytes more, one byte more, and all of them
module _ (a : List ℕ) (f h i p : ℕ) (e : print_by f p (drop i a) ≡ print_by f h a) where
  pub print_four : (p' w : ℕ) → 3 < length a - i → w ≡ word_at a i → p' ≡ next_print f p w → print_by f p' (drop (i + 4) a) ≡ print_by f h a
  unfolding print_by
  print_four p' w l g q =
      rw (q, g)
      (rw (
        drop_more a i (i + 1) (omega arith) (omega arith),
        drop_more a (i + 1) (i + 2) (omega arith) (omega arith),
        drop_more a (i + 2) (i + 3) (omega arith) (omega arith),
        drop_more a (i + 3) (i + 4) (omega arith) (omega arith),
      ) at e)

  pub print_one : (p' : ℕ) → i < length a → length a ≤ i + 3 → p' ≡ next_print f p (get_or a i 0) → print_by f p' (drop (i + 1) a) ≡ print_by f h a
  print_one p' l m q = rw q (print_step f p (get_or a i 0) (drop (i + 1) a) (simp length-drop (omega arith)) ∙ (rw (drop_more a i (i + 1) l (omega arith)) at e))

  pub print_done : length a ≤ i → p ≡ print_by f h a
  unfolding print_by
  print_done l = rw (drop_of_length-le a l) at e

-- a lane's number
module _ (key : ℕ) (n : Name) where
  pub lane_small : lane_by key n < 1024
  unfolding lane_by spread
  lane_small = omega arith

  pub lane_is : {f p q : ℕ} → f ≡ factor key → p ≡ print_by f 0 n → q ≡ spread p → q / 2 ^ 22 ≡ lane_by key n
  unfolding lane_by
  lane_is e g h = rw (h, g, e)

-- before the first pair, all lanes are empty
pub woven_none : {c : ℕ} {lane : ℕ → ℕ} {spared : ℕ → ℕ → Type 0} {head link : ℕ → ℕ} → ((h : ℕ) → h < c → head h ≡ 0) → Woven c lane spared 0 head link
woven_none g = record {
  head_low = λ h m. let z = g h m in omega arith;
  head_on = λ h m x. let z = g h m in absurd (omega arith);
  head_last = λ h j m n x y. absurd (omega arith);
  link_low = λ i m. absurd (omega arith);
  link_on = λ i m x. absurd (omega arith);
  link_last = λ i j m n x y. absurd (omega arith);
}

-- pair i can have the link l: that leads to an earlier pair of its lane, or to none, and all that it passes is spared
pub record Links (lane : ℕ → ℕ) (spared : ℕ → ℕ → Type 0) (i l : ℕ) : Type 0 where
  pub low : l ≤ i
  pub on : 0 < l → lane (l - 1) ≡ lane i
  pub last : (j : ℕ) → j < i → l ≤ j → lane j ≡ lane i → spared i j

module _ {c : ℕ} {lane : ℕ → ℕ} {spared : ℕ → ℕ → Type 0} {k : ℕ} {head link : ℕ → ℕ} (w : Woven c lane spared k head link) where
  -- the first k pairs decide
  pub woven_kept : {lane' : ℕ → ℕ} {spared' : ℕ → ℕ → Type 0} {head' link' : ℕ → ℕ} → ((j : ℕ) → j < k → lane' j ≡ lane j) → ((h : ℕ) → h < c → head' h ≡ head h) → ((i : ℕ) → i < k → link' i ≡ link i) → ((i j : ℕ) → i < k → j < i → spared i j → spared' i j) → Woven c lane' spared' k head' link'
  woven_kept {lane'} {spared'} {head'} {link'} g a b f = record {
    head_low = λ h m. let z = w.head_low h m in let y = a h m in omega arith;
    head_on = λ h m x.
        let y = a h m in
        let z = w.head_low h m in
        ap (λ (p : ℕ). lane' (p - 1)) y ∙ g (head h - 1) (omega arith) ∙ w.head_on h m (omega arith);
    head_last = λ h j m n x y. let z = a h m in w.head_last h j m n (omega arith) (sym (g j n) ∙ y);
    link_low = λ i m. let z = w.link_low i m in let y = b i m in omega arith;
    link_on = λ i m x.
        let y = b i m in
        let z = w.link_low i m in
        ap (λ (p : ℕ). lane' (p - 1)) y ∙ g (link i - 1) (omega arith) ∙ w.link_on i m (omega arith) ∙ sym (g i m);
    link_last = λ i j m n x y. let z = b i m in f i j m n (w.link_last i j m n (omega arith) (sym (g j (omega arith)) ∙ y ∙ g i m));
  }

  links_old : (i : ℕ) → i < k → Links lane spared i (link i)
  links_old i m = record { low = w.link_low i m; on = w.link_on i m; last = λ j. w.link_last i j m }

  -- pair k can be linked to the head of its lane
  module _ (small : lane k < c) where
    pub links_head : Links lane spared k (head (lane k))
    links_head = record { low = w.head_low (lane k) small; on = w.head_on (lane k) small; last = λ j m x y. absurd (w.head_last (lane k) j small m x y) }

    -- or to what the head is linked to, if the head is spared and so is all that it passes
    pub links_past : 0 < head (lane k) → spared k (head (lane k) - 1) → ((j : ℕ) → spared (head (lane k) - 1) j → spared k j) → Links lane spared k (link (head (lane k) - 1))
    links_past u f g = record { low = let z = old.low in let y = before in omega arith; on = λ x. old.on x ∙ lane_same; last = λ j m x y. last_at j m x y (ℕ_discrete j p) }
      where
        p : ℕ
        p = head (lane k) - 1

        before : p < k
        before = let z = w.head_low (lane k) small in omega arith

        lane_same : lane p ≡ lane k
        lane_same = w.head_on (lane k) small u

        old : Links lane spared p (link p)
        old = links_old p before

        last_at : (j : ℕ) → j < k → link p ≤ j → lane j ≡ lane k → Dec (j ≡ p) → spared k j
        last_at j m x y (yes e) = subst (spared k) (sym e) f
        last_at j m x y (no d) =
            by (ltb j p) (λ q. g j (old.last j (ltb-true j p q) x (y ∙ sym lane_same))) (λ q.
            let z = ltb-false j p q in
            absurd (w.head_last (lane k) j small m (omega arith) y))

  -- pair k is put before those of its lane
  pub woven_more : {head' link' : ℕ → ℕ} {l : ℕ} → lane k < c → head' (lane k) ≡ k + 1 → ((h : ℕ) → h < c → h ≢ lane k → head' h ≡ head h) → Links lane spared k l → link' k ≡ l → ((i : ℕ) → i < k → link' i ≡ link i) → Woven c lane spared (k + 1) head' link'
  woven_more {head'} {link'} {l} small head_new head_old links link_new link_old = record {
    head_low = λ h m. low_at h m (ℕ_discrete h (lane k));
    head_on = λ h m. on_at h m (ℕ_discrete h (lane k));
    head_last = λ h j m n. last_at h j m n (ℕ_discrete h (lane k)) (ℕ_discrete j k);
    link_low = λ i m. (links_at i m (ℕ_discrete i k)).low;
    link_on = λ i m. (links_at i m (ℕ_discrete i k)).on;
    link_last = λ i j m. (links_at i m (ℕ_discrete i k)).last j;
  }
    where
      head_at : {h : ℕ} → h ≡ lane k → head' h ≡ k + 1
      head_at e = ap head' e ∙ head_new

      low_at : (h : ℕ) → h < c → Dec (h ≡ lane k) → head' h ≤ k + 1
      low_at h m (yes e) = let u = head_at e in omega arith
      low_at h m (no d) = rw (head_old h m d) (let z = w.head_low h m in omega arith)

      on_at : (h : ℕ) → h < c → Dec (h ≡ lane k) → 0 < head' h → lane (head' h - 1) ≡ h
      on_at h m (yes e) x = let u = head_at e in let v : head' h - 1 ≡ k = omega arith in ap lane v ∙ sym e
      on_at h m (no d) x = rw (head_old h m d) (w.head_on h m (rw (head_old h m d) at x))

      last_at : (h j : ℕ) → h < c → j < k + 1 → Dec (h ≡ lane k) → Dec (j ≡ k) → head' h ≤ j → lane j ≡ h → ⊥
      last_at h j m n (yes e) q y z = let u = head_at e in omega arith
      last_at h j m n (no d) (yes q) y z = d (sym z ∙ ap lane q)
      last_at h j m n (no d) (no q) y z = w.head_last h j m (omega arith) (rw (head_old h m d) at y) z

      links_at : (i : ℕ) → i < k + 1 → Dec (i ≡ k) → Links lane spared i (link' i)
      links_at i m (yes e) = rw (e, link_new) links
      links_at i m (no d) = let n : i < k = omega arith in rw (link_old i n) (links_old i n)

-- the same by two lists
pub cleared_lanes : (s table links : List ℕ) {heads : List ℕ} → Cleared heads → Lanes s table 0 heads links
cleared_lanes s table links c = record { heads_size = c.size; table_room = omega arith; links_room = omega arith; woven = woven_none c.empty }

pub no_lanes : (s table links : List ℕ) → Lanes s table 0 (replicate 1025 0) links
no_lanes s table links = cleared_lanes s table links (record {
  size = length-replicate {A = ℕ} 1025 0;
  empty = λ h m. get_or-replicate {A = ℕ} 1025 h 0 0 (omega arith);
})

-- the lanes are filled with 0, and the key is put behind them
pub cleared : (heads : List ℕ) (key : ℕ) (filled : List ℕ) → length heads ≡ 1025 → length filled ≡ 1024 → ((h : ℕ) → h < 1024 → get_or filled h 0 ≡ 0) → Cleared (set (filled ++ drop 1024 heads) 1024 key)
cleared heads key filled l n z = record {
  size = length-set (filled ++ drop 1024 heads) 1024 key ∙ simp (length-append, length-drop) (omega arith);
  empty = λ h m. get_or-set_other (filled ++ drop 1024 heads) 1024 h key 0 (λ (q : h ≡ 1024). omega arith) ∙ get_or-append filled (drop 1024 heads) 0 h (omega arith) ∙ z h m;
}

module _ {s table table' : List ℕ} {k : ℕ} {heads links : List ℕ} where
  pub lanes_kept : Lanes s table k heads links → length table ≡ length table' → ((j : ℕ) → j < k → get_or table' (2 * j) 0 ≡ get_or table (2 * j) 0) → Lanes s table' k heads links
  lanes_kept w l g = record {
    heads_size = w.heads_size;
    table_room = let z = w.table_room in omega arith;
    links_room = w.links_room;
    woven = woven_kept w.woven (λ j m. ap (λ (a : ℕ). lane_by (key_of heads) (text_at s a)) (g j m)) (λ h m. refl) (λ i m. refl) (λ i j m n x. x);
  }

module _ (s table : List ℕ) {k : ℕ} {heads links : List ℕ} (w : Lanes s table k heads links) where
  pub lane_room : {h : ℕ} → h < 1024 → h < length heads
  lane_room m = let z = w.heads_size in omega arith

  -- told with another number of pairs
  pub lanes_all : {m n : ℕ} → k ≤ m → m ≤ k → m ≡ n → Lanes s table n heads links
  lanes_all {n = n} a b e = let q : k ≡ n = omega arith in subst (λ (j : ℕ). Lanes s table j heads links) q w

  -- pair k is put before those of its lane
  module _ (room : 2 * k + 2 ≤ length table) (more : k < length links) where
    lanes_with : Lanes s table (k + 1) (set heads (lane_of s table (key_of heads) k) (k + 1)) (set links k (get_or heads (lane_of s table (key_of heads) k) 0))
    lanes_with = record {
      heads_size = length-set heads c (k + 1) ∙ w.heads_size;
      table_room = omega arith;
      links_room = let z = length-set links k (get_or heads c 0) in omega arith;
      woven =
          rw (get_or-set_other heads c 1024 (k + 1) 0 (λ (e : 1024 ≡ c). omega (arith, c_small)))
          (woven_more w.woven c_small
          (get_or-set_same heads c (k + 1) 0 (lane_room c_small))
          (λ h m d. get_or-set_other heads c h (k + 1) 0 d)
          (links_head w.woven c_small)
          (get_or-set_same links k (get_or heads c 0) 0 more)
          (λ i m. get_or-set_other links k i (get_or heads c 0) 0 (λ (e : i ≡ k). omega arith)));
    }
      where
        c : ℕ
        c = lane_of s table (key_of heads) k

        c_small : c < 1024
        c_small = lane_small (key_of heads) (text_at s (get_or table (2 * k) 0))

    pub lanes_more : {name : Name} {h : ℕ} → name ≡ text_at s (get_or table (2 * k) 0) → h ≡ lane_by (key_of heads) name → Lanes s table (k + 1) (set heads h (k + 1)) (set links k (get_or heads h 0))
    lanes_more t e = rw (e, t) lanes_with

-- a table before its first pair
pub laned_start : (n : ℕ) (s : List ℕ) {table heads links : List ℕ} → table ≡ replicate (2 * n) 0 → heads ≡ replicate 1025 0 → links ≡ replicate n 0 → Laned n s table 0 heads links
laned_start n s {table} {heads} {links} a b c = record {
  size = ap length a ∙ length-replicate {A = ℕ} (2 * n) 0;
  links_size = ap length c ∙ length-replicate {A = ℕ} n 0;
  lanes = rw b (no_lanes s table links);
}

-- pair k, put after the others
abbrev pub put : List ℕ → ℕ → ℕ → ℕ → List ℕ
put table k a v = set (set table (2 * k) a) (2 * k + 1) v

pub words_kept : (table : List ℕ) (k a v j : ℕ) → j < 2 * k → get_or (put table k a v) j 0 ≡ get_or table j 0
words_kept table k a v j h =
    get_or-set_other (set table (2 * k) a) (2 * k + 1) j v 0 (λ (e : j ≡ 2 * k + 1). omega arith) ∙ get_or-set_other table (2 * k) j a 0 (λ (e : j ≡ 2 * k). omega arith)

module _ {n : ℕ} {s table : List ℕ} {k : ℕ} {heads links : List ℕ} (r : Laned n s table k heads links) (low : k < n) (a v : ℕ) where
  pair_size : length (put table k a v) ≡ 2 * n
  pair_size = length-set (set table (2 * k) a) (2 * k + 1) v ∙ length-set table (2 * k) a ∙ r.size

  pub pair_lanes : Lanes s (put table k a v) k heads links
  pair_lanes = lanes_kept r.lanes (r.size ∙ sym pair_size) (λ j h. words_kept table k a v (2 * j) (omega arith))

  pub pair_laned : {heads' links' : List ℕ} → Lanes s (put table k a v) (k + 1) heads' links' → length links' ≡ length links → Laned n s (put table k a v) (k + 1) heads' links'
  pair_laned l z = record { size = pair_size; links_size = z ∙ r.links_size; lanes = l }

  pub pair_name : get_or (put table k a v) (2 * k) 0 ≡ a
  pair_name =
      let z = r.size in
      get_or-set_other (set table (2 * k) a) (2 * k + 1) (2 * k) v 0 (λ (e : 2 * k ≡ 2 * k + 1). omega arith) ∙ get_or-set_same table (2 * k) a 0 (omega arith)

  pub pair_value : get_or (put table k a v) (2 * k + 1) 0 ≡ v
  pair_value = let z = length-set table (2 * k) a ∙ r.size in get_or-set_same (set table (2 * k) a) (2 * k + 1) v 0 (omega arith)

  pub pair_found : (w : Name) → find_first s w (put table k a v) (k + 1) ≡ pick (eq_name (text_at s a) w) (some v) (find_first s w table k)
  unfolding find_first
  pair_found w = rw (add-one k, pair_name, pair_value, find_kept s w table (put table k a v) k (words_kept table k a v))

-- names differ if those of one lane do
pub lane_apart : (lane : Name → ℕ) (x n : Name) → (lane x ≡ lane n → eq_name x n ≡ false) → eq_name x n ≡ false
lane_apart lane x n h = by (eq_name x n) (λ q. h (ap lane (eq_name_eq x n q))) (λ q. q)

module _ (s table : List ℕ) (n : Name) (p : ℕ) where
  pub find_past : (k : ℕ) → p ≤ k → ((j : ℕ) → p ≤ j → j < k → eq_name (text_at s (get_or table (2 * j) 0)) n ≡ false) → find_first s n table p ≡ find_first s n table k
  unfolding find_first pick
  find_past zero h f = let z : p ≡ 0 = omega arith in ap (find_first s n table) z
  find_past (suc k) h f =
      by (ltb k p) (λ q. let l = ltb-true k p q in let z : p ≡ suc k = omega arith in ap (find_first s n table) z) (λ q.
      let l = ltb-false k p q in
      rw (f k l (omega arith)) (find_past k l (λ j a b. f j a (omega arith))))

-- the walk for a name has come to pair p - 1, which is on its lane, and no later one of the first k has the name
pub record Walking (s table : List ℕ) (k : ℕ) (heads links : List ℕ) (n : Name) (p : ℕ) : Type 0 where
  pub low : p ≤ k
  pub table_room : 2 * p ≤ length table
  pub links_room : p ≤ length links
  pub on : 0 < p → lane_of s table (key_of heads) (p - 1) ≡ lane_by (key_of heads) n
  pub rest : find_first s n table p ≡ find_first s n table k

module _ (s table : List ℕ) {k : ℕ} {heads links : List ℕ} (w : Lanes s table k heads links) (n : Name) where
  walk_at : {p m : ℕ} → p ≤ m → m ≤ k → (0 < p → lane_of s table (key_of heads) (p - 1) ≡ lane_by (key_of heads) n) → ((j : ℕ) → p ≤ j → j < m → lane_of s table (key_of heads) j ≡ lane_by (key_of heads) n → ⊥) → find_first s n table m ≡ find_first s n table k → Walking s table k heads links n p
  walk_at {p} {m} l h o f r =
      let y = w.table_room in
      let z = w.links_room in
      record { low = omega arith; table_room = omega arith; links_room = omega arith; on = o; rest = find_past s table n p m l (λ j a b. lane_apart (lane_by (key_of heads)) (text_at s (get_or table (2 * j) 0)) n (λ q. absurd (f j a b q))) ∙ r }

  pub walk_start : {h : ℕ} → h ≡ lane_by (key_of heads) n → Walking s table k heads links n (get_or heads h 0)
  walk_start {h} e =
      let m : h < 1024 = omega (arith, lane_small (key_of heads) n) in
      walk_at (w.woven.head_low h m) (omega arith) (λ x. w.woven.head_on h m x ∙ e) (λ j a b q. w.woven.head_last h j m b a (q ∙ sym e)) refl

  module _ {p : ℕ} (g : Walking s table k heads links n p) (h : 0 < p) where
    before : p - 1 < k
    before = let y = g.low in omega arith

    pub walk_less : get_or links (p - 1) 0 < p
    walk_less = let z = w.woven.link_low (p - 1) before in omega arith

    pub walk_more : {b : Bool} {key : Name} → b ≡ eq_name key n → key ≡ text_at s (get_or table (2 * (p - 1)) 0) → b ≡ false → Walking s table k heads links n (get_or links (p - 1) 0)
    walk_more e t q =
        let m = before in
        let o = g.on h in
        walk_at (w.woven.link_low (p - 1) m) (omega arith) (λ x. w.woven.link_on (p - 1) m x ∙ o) (λ j a b r. w.woven.link_last (p - 1) j m b a (r ∙ sym o)) (find_miss s n table p g.rest h e t q)
