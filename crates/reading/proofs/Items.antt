-- Items one after another: how they join, that so many of them from a place end in one place only, and which items are one.
use Prim.Native.Nat.{ℕ, suc, ◌+◌, ◌-◌, ◌<◌, ◌≤◌}
use mathlib.Core.Path.{◌≡◌, refl, ap, ◌∙◌, subst}
use mathlib.Core.List.{List}
use mathlib.Core.Bool.{false}
use native.Mathlib.Omega.{arith}
use lib.ListN.{length}
use lib.Dec.{eqb}
use borrow.Author.Tests.{eqb-true, ltb-false}
use Rattle.reading.specs.Read.{ok, pick}
use Rattle.reading.specs.Head.{long_head, settled, wide_head, simple, read_head, head_with}
use Rattle.reading.specs.declared.cursor.Head.{Head}
use Rattle.reading.specs.Item.{read_kind}
use Rattle.reading.specs.Items.{inside, payload, Items, none, more}
use Rattle.reading.proofs.Rules.{no, pick_false}
use Rattle.reading.proofs.Gives.{Gives, gives_ok, gives_refused, gives_pick, gives_bind, head_spans}

-- a small argument stands in the head's first byte
abbrev Short : ℕ → Head → ℕ → Type 0
Short at h n = h.argument < 24 → n ≡ at + 1

module _ (s : List ℕ) (at : ℕ) where
  long_short : (major : ℕ) (be : List ℕ → ℕ → ℕ) (width least : ℕ) → 24 ≤ least → Gives (Short at) (long_head major be width least s at)
  unfolding long_head settled
  long_short major be width least l =
      gives_pick (Short at) _ _ _ (λ _. gives_refused (Short at) _ _) λ _.
      gives_pick (Short at) _ _ _ (λ _. gives_refused (Short at) _ _) λ e.
      let k : least ≤ be s (at + 1) = ltb-false _ _ e in
      gives_ok (Short at) _ _ (λ i. omega arith)

  pub head_short : Gives (Short at) (read_head s at)
  unfolding read_head head_with wide_head simple
  head_short =
      gives_pick (Short at) _ _ _ (λ _. gives_refused (Short at) _ _) λ _.
      gives_pick (Short at) _ _ _ (λ _. gives_refused (Short at) _ _) λ _.
      gives_pick (Short at) _ _ _ (λ _.
      gives_pick (Short at) _ _ _ (λ _. gives_refused (Short at) _ _) λ _.
      gives_pick (Short at) _ _ _ (λ _. gives_refused (Short at) _ _) λ _. gives_ok (Short at) _ _ (λ i. refl)) λ _.
      gives_pick (Short at) _ _ _ (λ _. gives_ok (Short at) _ _ (λ i. refl)) λ _.
      gives_pick (Short at) _ _ _ (λ _. long_short _ _ _ _ (omega arith)) λ _.
      gives_pick (Short at) _ _ _ (λ _. long_short _ _ _ _ (omega arith)) λ _.
      gives_pick (Short at) _ _ _ (λ _. long_short _ _ _ _ (omega arith)) λ _. long_short _ _ _ _ (omega arith)

  -- the head of an item of the kind that is due
  pub kind_head : (due : ℕ) → Gives (λ v n. read_head s at ≡ ok (record { major = due; argument = v }) n) (read_kind due s at)
  unfolding read_kind
  kind_head due =
      gives_bind _ _ _ λ h n e.
      gives_pick _ _ _ _ (λ q. gives_ok (λ v n. read_head s at ≡ ok (record { major = due; argument = v }) n) h.argument n
      (e ∙ ap (λ (z : ℕ). ok (record { major = z; argument = h.argument }) n) (eqb-true _ _ q)))
      (λ _. gives_refused _ _ _)

pub record Open (s : List ℕ) (k at n : ℕ) : Type 0 where
  pub head : Head
  pub after : ℕ
  pub reads : read_head s at ≡ ok head after
  pub rest : Items s (k - 1 + inside head) (after + payload head) n

module _ {s : List ℕ} where
  same_run : {j k a b n : ℕ} → Items s j a n → j ≡ k → a ≡ b → Items s k b n
  same_run {j} {k} {a} {b} {n} r x y = subst (λ (z : ℕ). Items s k z n) y (subst (λ (z : ℕ). Items s z a n) x r)

  -- one after the other
  pub items_join : {j k a b n : ℕ} → Items s j a b → Items s k b n → Items s (j + k) a n
  items_join none r = same_run r (omega arith) refl
  items_join {k = k} (more {k = i} h m e q) r = same_run (more {k = i + k} h m e (same_run (items_join q r) (omega arith) refl)) (omega arith) refl

  -- each takes a byte at least
  pub items_room : {k a n : ℕ} → Items s k a n → a + k ≤ n
  items_room none = omega arith
  items_room (more h m e q) = omega (arith, (head_spans s _ h m e).0, items_room q)

  -- the first is inside the document
  pub items_inside : {k a n : ℕ} → Items s (suc k) a n → a < length s
  items_inside (more h m e q) = let g = head_spans s _ h m e in omega arith

  -- they end in one place only
  pub items_same : {k a n m : ℕ} → Items s k a n → Items s k a m → n ≡ m
  items_same none none = refl
  items_same (more {k = k} h m e q) (more h' m' e' q') =
      let x : k + inside h' ≡ k + inside h = ap (λ (z : Head). k + inside z) (cc) in
      let y : m' + payload h' ≡ m + payload h = cc in
      items_same q (same_run q' x y)

  -- none
  pub items_closed : {a n : ℕ} → Items s 0 a n → a ≡ n
  items_closed none = refl

  -- the first, by its head, and those after the head
  pub items_open : {k a n : ℕ} → 0 < k → Items s k a n → Open s k a n
  items_open h none = let z : ◌≡◌ {A = ℕ} 0 1 = omega arith in no z
  items_open h (more {k = i} x m e q) = record { head = x; after = m; reads = e; rest = same_run q (omega arith) refl }

  module _ {at v m : ℕ} where
    -- an array and the items in it
    pub array_item : {n : ℕ} → read_kind 4 s at ≡ ok v m → Items s v m n → Items s 1 at n
    unfolding inside payload pick
    array_item {n} e r = more {k = 0} _ m (kind_head s at 4 v m e) (same_run r (omega arith) (omega arith))

    -- a string and its bytes
    pub text_item : read_kind 3 s at ≡ ok v m → Items s 1 at (m + v)
    unfolding inside payload pick
    text_item e = more {k = 0} _ m (kind_head s at 3 v m e) none

    -- a number or a simple value
    pub plain_item : (due : ℕ) → eqb due 4 ≡ false → eqb due 3 ≡ false → read_kind due s at ≡ ok v m → Items s 1 at m
    unfolding inside payload
    plain_item due x y e =
        let j : 0 ≡ 0 + pick (eqb due 4) v 0 = rw (x, pick_false) in
        let p : m ≡ m + pick (eqb due 3) v 0 = rw (y, pick_false) (omega arith) in
        more {k = 0} {n = m} _ m (kind_head s at due v m e) (same_run none j p)
