-- A head that is read is the shortest head of what it says.
use Prim.Native.Nat.{ℕ, ◌+◌, ◌-◌, ◌*◌, ◌/◌, ◌%◌, ◌<◌, ◌≤◌}
use mathlib.Core.Path.{◌≡◌, refl, subst}
use mathlib.Core.List.{List, ◌++◌}
use native.Mathlib.Omega.{arith}
use lib.ListN.{length, get_or}
use borrow.Author.Tests.{ltb-true, ltb-false, leb-false, eqb-true, eqb-false, lt-ltb, le-ltb}
use Rattle.reading.specs.Head.{long_head, settled, wide_head, simple, read_head, head_with, be1, be2, be4, be8}
use Rattle.reading.specs.declared.cursor.Head.{Head}
use Rattle.reading.specs.Encode.{put1, put2, put4, put8, enc_head}
use Rattle.reading.proofs.Rules.{pick_true, pick_false}
use Rattle.reading.proofs.Gives.{Gives, gives_ok, gives_refused, gives_pick}
use Rattle.reading.proofs.At.{At, at_join, at_byte}

abbrev pub Bytes : List ℕ → Type 0
Bytes s = (i : ℕ) → get_or s i 0 < 256

module _ (s : List ℕ) (B : Bytes s) where
  b1 : (p : ℕ) → be1 s p < 256
  unfolding be1
  b1 p = B p

  b2 : (p : ℕ) → be2 s p < 65536
  unfolding be2
  b2 p = omega (arith, b1 p, b1 (p + 1))

  b4 : (p : ℕ) → be4 s p < 4294967296
  unfolding be4
  b4 p = omega (arith, b2 p, b2 (p + 2))

  b8 : (p : ℕ) → be8 s p < 18446744073709551616
  unfolding be8
  b8 p = omega (arith, b4 p, b4 (p + 4))

  at1 : (p : ℕ) → p + 1 ≤ length s → At s p (put1 (be1 s p)) (p + 1)
  unfolding be1 put1
  at1 p h = at_byte p (omega arith)

  at2 : (p : ℕ) → p + 2 ≤ length s → At s p (put2 (be2 s p)) (p + 2)
  unfolding be2 put2
  at2 p h =
      let x : (be1 s p * 256 + be1 s (p + 1)) / 256 ≡ be1 s p = omega (arith, b1 (p + 1)) in
      let y : (be1 s p * 256 + be1 s (p + 1)) % 256 ≡ be1 s (p + 1) = omega (arith, b1 (p + 1)) in
      let e : p + 1 + 1 ≡ p + 2 = omega arith in
      rw (x, y, ← e) (at_join (at1 p (omega arith)) (at1 (p + 1) (omega arith)))

  at4 : (p : ℕ) → p + 4 ≤ length s → At s p (put4 (be4 s p)) (p + 4)
  unfolding be4 put4
  at4 p h =
      let x : (be2 s p * 65536 + be2 s (p + 2)) / 65536 ≡ be2 s p = omega (arith, b2 (p + 2)) in
      let y : (be2 s p * 65536 + be2 s (p + 2)) % 65536 ≡ be2 s (p + 2) = omega (arith, b2 (p + 2)) in
      let e : p + 2 + 2 ≡ p + 4 = omega arith in
      rw (x, y, ← e) (at_join (at2 p (omega arith)) (at2 (p + 2) (omega arith)))

  at8 : (p : ℕ) → p + 8 ≤ length s → At s p (put8 (be8 s p)) (p + 8)
  unfolding be8 put8
  at8 p h =
      let x : (be4 s p * 4294967296 + be4 s (p + 4)) / 4294967296 ≡ be4 s p = omega (arith, b4 (p + 4)) in
      let y : (be4 s p * 4294967296 + be4 s (p + 4)) % 4294967296 ≡ be4 s (p + 4) = omega (arith, b4 (p + 4)) in
      let e : p + 4 + 4 ≡ p + 8 = omega arith in
      rw (x, y, ← e) (at_join (at4 p (omega arith)) (at4 (p + 4) (omega arith)))

-- the encoder's ranges
module _ (m v : ℕ) where
  pub enc0 : v < 24 → enc_head m v ≡ put1 (m * 32 + v)
  unfolding enc_head
  enc0 h = rw (lt-ltb v 24 h, pick_true)

  pub enc1 : 24 ≤ v → v < 256 → enc_head m v ≡ put1 (m * 32 + 24) ++ put1 v
  unfolding enc_head
  enc1 l h = rw (le-ltb v 24 l, pick_false, lt-ltb v 256 h, pick_true)

  pub enc2 : 256 ≤ v → v < 65536 → enc_head m v ≡ put1 (m * 32 + 25) ++ put2 v
  unfolding enc_head
  enc2 l h =
      let k : 24 ≤ v = omega arith in
      rw (le-ltb v 24 k, pick_false, le-ltb v 256 l, pick_false, lt-ltb v 65536 h, pick_true)

  pub enc4 : 65536 ≤ v → v < 4294967296 → enc_head m v ≡ put1 (m * 32 + 26) ++ put4 v
  unfolding enc_head
  enc4 l h =
      let k : 24 ≤ v = omega arith in
      let j : 256 ≤ v = omega arith in
      rw (le-ltb v 24 k, pick_false, le-ltb v 256 j, pick_false, le-ltb v 65536 l, pick_false, lt-ltb v 4294967296 h, pick_true)

  pub enc8 : 4294967296 ≤ v → enc_head m v ≡ put1 (m * 32 + 27) ++ put8 v
  unfolding enc_head
  enc8 l =
      let k : 24 ≤ v = omega arith in
      let j : 256 ≤ v = omega arith in
      let i : 65536 ≤ v = omega arith in
      rw (le-ltb v 24 k, pick_false, le-ltb v 256 j, pick_false, le-ltb v 65536 i, pick_false, le-ltb v 4294967296 l, pick_false)

pub record HeadAt (s : List ℕ) (at : ℕ) (h : Head) (n : ℕ) : Type 0 where
  pub kinds : h.major < 8
  pub small : h.argument < 18446744073709551616
  pub there : At s at (enc_head h.major h.argument) n

module _ (s : List ℕ) (B : Bytes s) (at : ℕ) (h : at < length s) where
  first : (code : ℕ) → get_or s at 0 % 32 ≡ code → At s at (put1 (get_or s at 0 / 32 * 32 + code)) (at + 1)
  unfolding put1
  first code e =
      let k : get_or s at 0 / 32 * 32 + code ≡ get_or s at 0 = omega arith in
      rw k (at_byte at h)

  major8 : get_or s at 0 / 32 < 8
  major8 = omega (arith, B at)

  long_sound : (code width least : ℕ) (be : List ℕ → ℕ → ℕ) (put : ℕ → List ℕ)
      → (at + 1 + width ≤ length s → At s (at + 1) (put (be s (at + 1))) (at + 1 + width))
      → be s (at + 1) < 18446744073709551616
      → (least ≤ be s (at + 1) → enc_head (get_or s at 0 / 32) (be s (at + 1)) ≡ put1 (get_or s at 0 / 32 * 32 + code) ++ put (be s (at + 1)))
      → get_or s at 0 % 32 ≡ code → Gives (HeadAt s at) (long_head (get_or s at 0 / 32) be width least s at)
  unfolding long_head settled
  long_sound code width least be put there small enc e =
      gives_pick (HeadAt s at) _ _ _ (λ _. gives_refused (HeadAt s at) _ _) λ t.
      gives_pick (HeadAt s at) _ _ _ (λ _. gives_refused (HeadAt s at) _ _) λ u.
      let k : at + 1 + width ≤ length s = omega (arith, ltb-false (length s - at - 1) width t) in
      gives_ok (HeadAt s at) (record { major = get_or s at 0 / 32; argument = be s (at + 1) }) (at + 1 + width) (record {
        kinds = major8;
        small = small;
        there = rw (enc (ltb-false _ _ u)) (at_join (first code e) (there k));
      })

  with_sound : Gives (HeadAt s at) (head_with (get_or s at 0 / 32) (get_or s at 0 % 32) s at)
  unfolding head_with wide_head simple
  with_sound =
      gives_pick (HeadAt s at) _ _ _ (λ _. gives_refused (HeadAt s at) _ _) λ t.
      gives_pick (HeadAt s at) _ _ _ (λ m7.
      gives_pick (HeadAt s at) _ _ _ (λ _. gives_refused (HeadAt s at) _ _) λ l.
      gives_pick (HeadAt s at) _ _ _ (λ _. gives_refused (HeadAt s at) _ _) λ u.
      let q : get_or s at 0 / 32 ≡ 7 = eqb-true (get_or s at 0 / 32) 7 m7 in
      let x : get_or s at 0 % 32 < 24 = omega (arith, ltb-false 22 (get_or s at 0 % 32) u) in
      gives_ok (HeadAt s at) (record { major = 7; argument = get_or s at 0 % 32 }) (at + 1) (record {
        kinds = omega arith;
        small = omega arith;
        there = rw (enc0 7 (get_or s at 0 % 32) x) (subst (λ (z : ℕ). At s at (put1 (z * 32 + get_or s at 0 % 32)) (at + 1)) q (first (get_or s at 0 % 32) refl));
      })) λ m7.
      gives_pick (HeadAt s at) _ _ _ (λ l.
      let x : get_or s at 0 % 32 < 24 = ltb-true _ _ l in
      gives_ok (HeadAt s at) (record { major = get_or s at 0 / 32; argument = get_or s at 0 % 32 }) (at + 1) (record {
        kinds = major8;
        small = omega arith;
        there = rw (enc0 (get_or s at 0 / 32) (get_or s at 0 % 32) x) (first _ refl);
      })) λ l.
      gives_pick (HeadAt s at) _ _ _ (λ q.
      long_sound 24 1 24 be1 put1 (at1 s B (at + 1)) (omega (arith, b1 s B (at + 1))) (λ k. enc1 _ _ k (b1 s B (at + 1))) (eqb-true _ _ q)) λ n24.
      gives_pick (HeadAt s at) _ _ _ (λ q.
      long_sound 25 2 256 be2 put2 (at2 s B (at + 1)) (omega (arith, b2 s B (at + 1))) (λ k. enc2 _ _ k (b2 s B (at + 1))) (eqb-true _ _ q)) λ n25.
      gives_pick (HeadAt s at) _ _ _ (λ q.
      long_sound 26 4 65536 be4 put4 (at4 s B (at + 1)) (omega (arith, b4 s B (at + 1))) (λ k. enc4 _ _ k (b4 s B (at + 1))) (eqb-true _ _ q)) λ n26.
      let y : get_or s at 0 % 32 ≡ 27 = omega (arith, ltb-false 27 (get_or s at 0 % 32) t, ltb-false (get_or s at 0 % 32) 24 l, eqb-false (get_or s at 0 % 32) 24 n24, eqb-false (get_or s at 0 % 32) 25 n25, eqb-false (get_or s at 0 % 32) 26 n26) in
      long_sound 27 8 4294967296 be8 put8 (at8 s B (at + 1)) (b8 s B (at + 1)) (λ k. enc8 _ _ k) y

pub head_sound : (s : List ℕ) → Bytes s → (at : ℕ) → Gives (HeadAt s at) (read_head s at)
unfolding read_head
head_sound s B at =
    gives_pick (HeadAt s at) _ _ _ (λ _. gives_refused (HeadAt s at) _ _) λ e.
    with_sound s B at (leb-false _ _ e)
