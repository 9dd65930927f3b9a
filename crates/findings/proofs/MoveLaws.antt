-- The fields of a transition, one after the other; and what the bytes of a number and of a pattern say of the place after them.
use Prim.Native.Nat.{ℕ, suc, ◌+◌, ◌-◌, ◌/◌, ◌%◌, ◌<◌, ◌≤◌}
use mathlib.Core.Path.{◌≡◌, refl, sym, ap, ◌∙◌}
use mathlib.Core.List.{List, [], ◌∷◌, ◌++◌}
use native.Mathlib.Omega.{arith}
use lib.ListN.{length, get_or, set}
use lib.Seq.{sets}
use mir.Syntax.{w8}
use mir.Val.{Fits}
use borrow.Author.Tests.{le-ltb, lt-leb, eq-eqb, ne_eqb}
use Rattle.reading.specs.Read.{ok, pick}
use Rattle.reading.specs.Head.{be1, settled, long_head, wide_head, simple, head_with, read_head}
use Rattle.reading.specs.declared.cursor.Head.{Head}
use Rattle.reading.specs.Items.{inside, payload, Items, none, more}
use Rattle.reading.proofs.Rules.{pick_true, pick_false}
use Rattle.reading.proofs.Skips.{items_passed}
use Rattle.typing.specs.Table.{place_after, after_item, after_head, Past}
use Rattle.typing.proofs.ShortLaws.{head_one}
use Rattle.findings.specs.Scene.{row_from, end_from, row_at, row_end, PastBare}
use Rattle.findings.proofs.RowLaws.{row_length, sets_append}

module _ (s : List ℕ) (at : ℕ) where
  -- a head of two bytes, and null
  head_two : at + 1 < length s → get_or s at 0 ≡ 24 → 23 < get_or s (at + 1) 0 → read_head s at ≡ ok (record { major = 0; argument = get_or s (at + 1) 0 }) (at + 2)
  unfolding read_head head_with wide_head long_head settled be1
  head_two h e l =
      let i : get_or s at 0 / 32 ≡ 0 = omega arith in
      let j : get_or s at 0 % 32 ≡ 24 = omega arith in
      let z : at + 1 + 1 ≡ at + 2 = omega arith in
      rw (lt-leb (length s) at (omega arith), pick_false, i, j, le-ltb 27 24 (omega arith), pick_false, ne_eqb 0 7 (λ q. omega arith), pick_false, le-ltb 24 24 (omega arith), pick_false, eq-eqb 24 24 refl, pick_true, le-ltb (length s - at - 1) 1 (omega arith), pick_false, le-ltb (get_or s (at + 1) 0) 24 (omega arith), pick_false, z)

  head_null : at < length s → get_or s at 0 ≡ 246 → read_head s at ≡ ok (record { major = 7; argument = 22 }) (at + 1)
  unfolding read_head head_with simple
  head_null h e =
      let i : get_or s at 0 / 32 ≡ 7 = omega arith in
      let j : get_or s at 0 % 32 ≡ 22 = omega arith in
      rw (lt-leb (length s) at h, pick_false, i, j, le-ltb 27 22 (omega arith), pick_false, eq-eqb 7 7 refl, pick_true, le-ltb 22 20 (omega arith), pick_false, le-ltb 22 22 (omega arith), pick_false)

  -- an item that stands there is passed
  passed : {n : ℕ} → Items s 1 at n → n ≤ length s → n ≡ after_item s at
  unfolding place_after
  passed w l = sym (ap place_after (items_passed w l))

  one_more : {k n : ℕ} (x : Head) (m : ℕ) → read_head s at ≡ ok x m → {i p : ℕ} → k + inside x ≡ i → m + payload x ≡ p → Items s i p n → Items s (suc k) at n
  one_more {k} {n} x m e u v w = more {k = k} {n = n} x m e (rw (u, v) w)

  module _ (each : (i : ℕ) → Fits w8 (get_or s i 0)) where
    pub past_wide : at < length s → 1 < length s - at → get_or s at 0 ≡ 24 → 23 < get_or s (at + 1) 0 → Past s at (at + 2)
    unfolding inside payload pick
    past_wide h b e l = record {
      is = passed (one_more _ (at + 2) (head_two (omega arith) e l) refl (omega arith) none) (omega arith);
      each = λ i. omega (arith, each i);
    }

    pub past_pattern : {r : ℕ} → at < length s → get_or s at 0 ≡ 130 → PastBare s (at + 1) r → Past s at r
    unfolding inside payload pick
    past_pattern {r} h e w = record {
      is = passed (one_more _ (at + 1) (head_one s at h 4 2 (omega arith) (omega arith) (omega arith) (omega arith)) refl (omega arith) w.items) w.within;
      each = λ i. omega (arith, each i);
    }

module _ (s : List ℕ) (name : ℕ) where
  pub bare_is : {n : ℕ} → name < length s → 97 ≤ get_or s name 0 → get_or s name 0 ≤ 119 → n ≡ get_or s name 0 - 96 → n + 1 < length s - name → get_or s (name + 1 + n) 0 ≡ 246 → PastBare s name (name + 1 + n + 1)
  unfolding inside payload pick
  bare_is {n} h l m q o e = record {
    items = one_more s name _ (name + 1) (head_one s name h 3 n (omega arith) (omega arith) (omega arith) (omega arith)) refl refl
        (one_more s (name + 1 + n) _ (name + 1 + n + 1) (head_null s (name + 1 + n) (omega arith) e) refl (omega arith) none);
    within = omega arith;
  }

-- eight fields are four and then four
end_eight : (s : List ℕ) (k : ℕ) → end_from 8 s k ≡ end_from 4 s (end_from 4 s k)
unfolding end_from
end_eight s k = refl

row_eight : (s : List ℕ) (k : ℕ) → row_from 8 s k ≡ row_from 4 s k ++ row_from 4 s (end_from 4 s k)
unfolding row_from end_from
row_eight s k = refl

module _ (s : List ℕ) (k : ℕ) {a b c : ℕ} (p : Past s k a) (q : Past s a b) (r : Past s b c) where
  pub four_end : {d : ℕ} → Past s c d → d ≡ end_from 4 s k
  unfolding end_from
  four_end t = t.is ∙ rw (r.is, q.is, p.is)

  pub four_words : (o : List ℕ) (j : ℕ) {o' : List ℕ} → o' ≡ sets o j (k ∷ a ∷ b ∷ c ∷ []) → o' ≡ sets o j (row_from 4 s k)
  unfolding row_from
  four_words o j e = e ∙ rw (r.is, q.is, p.is)

pub four_put : (o : List ℕ) (j a b c d : ℕ) {o₁ o₂ o₃ o₄ : List ℕ} → o₁ ≡ set o j a → o₂ ≡ set o₁ (j + 1) b → o₃ ≡ set o₂ (j + 2) c → o₄ ≡ set o₃ (j + 3) d → o₄ ≡ sets o j (a ∷ b ∷ c ∷ d ∷ [])
four_put o j a b c d e₁ e₂ e₃ e₄ =
    let x : j + 1 ≡ suc j = omega arith in
    let y : j + 2 ≡ suc (suc j) = omega arith in
    let z : j + 3 ≡ suc (suc (suc j)) = omega arith in
    rw (e₄, e₃, e₂, e₁, x, y, z)

module _ (s : List ℕ) (at : ℕ) {k m : ℕ} (h : k ≡ after_head s at) (e : m ≡ end_from 4 s k) where
  pub eight_end : {r : ℕ} → r ≡ end_from 4 s m → r ≡ row_end 8 s at
  eight_end q = q ∙ ap (end_from 4 s) e ∙ sym (end_eight s k) ∙ ap (end_from 8 s) h

  pub eight_words : (o : List ℕ) (j : ℕ) {o₁ o₂ : List ℕ} → o₁ ≡ sets o j (row_from 4 s k) → o₂ ≡ sets o₁ (j + 4) (row_from 4 s m) → o₂ ≡ sets o j (row_at 8 s at)
  eight_words o j {o₁} u v =
      v
      ∙ ap (λ (x : List ℕ). sets x (j + 4) (row_from 4 s m)) u
      ∙ ap (λ (x : ℕ). sets (sets o j (row_from 4 s k)) (j + 4) (row_from 4 s x)) e
      ∙ ap (λ (x : ℕ). sets (sets o j (row_from 4 s k)) (j + x) (row_from 4 s (end_from 4 s k))) (sym (row_length 4 s k))
      ∙ sym (sets_append o j (row_from 4 s k) (row_from 4 s (end_from 4 s k)))
      ∙ ap (sets o j) (sym (row_eight s k))
      ∙ ap (λ (x : ℕ). sets o j (row_from 8 s x)) h
