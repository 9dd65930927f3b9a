-- The shortest head of an argument is read as that argument.
use Prim.Native.Nat.{ℕ, ◌+◌, ◌-◌, ◌*◌, ◌/◌, ◌%◌, ◌<◌, ◌≤◌}
use mathlib.Core.Path.{◌≡◌, refl, ◌∙◌}
use mathlib.Core.List.{List, ◌++◌}
use native.Mathlib.Omega.{arith}
use lib.ListN.{length, get_or}
use lib.Dec.{ltb, eqb}
use borrow.Author.Tests.{ltb-true, ltb-false, eqb-true, le-ltb, lt-leb, ne_eqb}
use Rattle.reading.specs.Read.{ok}
use Rattle.reading.specs.Head.{long_head, settled, wide_head, simple, read_head, head_with, be1, be2, be4, be8}
use Rattle.reading.specs.Encode.{put1, put2, put4, put8, enc_head}
use Rattle.reading.proofs.Rules.{by, pick_true, pick_false}
use Rattle.reading.proofs.At.{At, at_split, at_first}
use Rattle.reading.proofs.HeadSound.{enc0, enc1, enc2, enc4, enc8}

module _ (s : List ℕ) where
  un1 : (p v n : ℕ) → At s p (put1 v) n → be1 s p ≡ v
  unfolding put1 be1
  un1 p v n h = (at_first h).1

  un2 : (p v n : ℕ) → At s p (put2 v) n → be2 s p ≡ v
  unfolding put2 be2 put1
  un2 p v n h =
      let k = at_split (put1 (v / 256)) (put1 (v % 256)) h in
      let x = un1 p (v / 256) _ k.0 in
      let y : be1 s (p + 1) ≡ v % 256 = un1 (p + 1) (v % 256) _ k.1 in
      omega arith

  un4 : (p v n : ℕ) → At s p (put4 v) n → be4 s p ≡ v
  unfolding put4 be4 put2 put1
  un4 p v n h =
      let k = at_split (put2 (v / 65536)) (put2 (v % 65536)) h in
      let x = un2 p (v / 65536) _ k.0 in
      let y : be2 s (p + 2) ≡ v % 65536 = un2 (p + 2) (v % 65536) _ k.1 in
      omega arith

  un8 : (p v n : ℕ) → At s p (put8 v) n → be8 s p ≡ v
  unfolding put8 be8 put4 put2 put1
  un8 p v n h =
      let k = at_split (put4 (v / 4294967296)) (put4 (v % 4294967296)) h in
      let x = un4 p (v / 4294967296) _ k.0 in
      let y : be4 s (p + 4) ≡ v % 4294967296 = un4 (p + 4) (v % 4294967296) _ k.1 in
      omega arith

  module _ (at m v : ℕ) (m8 : m < 8) where
    -- the first byte taken apart
    parts : (i : ℕ) → i < 32 → at < length s → get_or s at 0 ≡ m * 32 + i → read_head s at ≡ head_with m i s at
    unfolding read_head
    parts i h l e =
        let x : get_or s at 0 / 32 ≡ m = omega arith in
        let y : get_or s at 0 % 32 ≡ i = omega arith in
        rw (lt-leb (length s) at l, pick_false, x, y)

    -- a head with its argument in the bytes after it
    long : (code width least : ℕ) (be : List ℕ → ℕ → ℕ) (bs : List ℕ) (n : ℕ) → length bs ≡ width → least ≤ v
        → (At s (at + 1) bs n → be s (at + 1) ≡ v) → code < 32
        → At s at (put1 (m * 32 + code) ++ bs) n
        → head_with m code s at ≡ long_head m be width least s at
        → read_head s at ≡ ok (record { major = m; argument = v }) n
    unfolding long_head settled put1
    long code width least be bs n lb lv un c32 h e =
        let k = at_split (put1 (m * 32 + code)) bs h in
        let f = at_first k.0 in
        let u : be s (at + 1) ≡ v = un k.1 in
        let z : n ≡ at + 1 + width = omega (arith, k.1.end) in
        let t : width ≤ length s - at - 1 = omega (arith, h.fits) in
        parts code c32 f.0 f.1 ∙ e ∙ rw (le-ltb (length s - at - 1) width t, pick_false, u, le-ltb v least lv, pick_false, z)

    pub head_complete : (n : ℕ) → v < 18446744073709551616 → (m ≡ 7 → (20 ≤ v) × (v ≤ 22)) → At s at (enc_head m v) n → read_head s at ≡ ok (record { major = m; argument = v }) n
    unfolding head_with wide_head simple put8 put4 put2 put1
    head_complete n v64 s7 h =
        by (ltb v 24) (λ t.
        let l : v < 24 = ltb-true v 24 t in
        let a : At s at (put1 (m * 32 + v)) n = rw (enc0 m v l) at h in
        let f = at_first a in
        let z : n ≡ at + 1 = a.end in
        parts v (omega arith) f.0 f.1 ∙
        by (eqb m 7) (λ q.
        let e : m ≡ 7 = eqb-true m 7 q in
        let w = s7 e in
        rw (le-ltb 27 v (omega arith), pick_false, q, pick_true, le-ltb v 20 w.0, pick_false, le-ltb 22 v w.1, pick_false, z, e))
        (λ q. rw (le-ltb 27 v (omega arith), pick_false, q, pick_false, t, pick_true, z)))
        λ t.
        let g : 24 ≤ v = ltb-false v 24 t in
        let no7 : m ≡ 7 → ⊥ = λ e. let w = s7 e in omega arith in
        let q = ne_eqb m 7 no7 in
        by (ltb v 256) (λ u.
        long 24 1 24 be1 (put1 v) n refl g (un1 (at + 1) v n) (omega arith) (rw (enc1 m v g (ltb-true v 256 u)) at h) (simp (pick_true, pick_false, q)))
        λ u.
        let g1 : 256 ≤ v = ltb-false v 256 u in
        by (ltb v 65536) (λ w.
        long 25 2 256 be2 (put2 v) n refl g1 (un2 (at + 1) v n) (omega arith) (rw (enc2 m v g1 (ltb-true v 65536 w)) at h) (simp (pick_true, pick_false, q)))
        λ w.
        let g2 : 65536 ≤ v = ltb-false v 65536 w in
        by (ltb v 4294967296) (λ x.
        long 26 4 65536 be4 (put4 v) n refl g2 (un4 (at + 1) v n) (omega arith) (rw (enc4 m v g2 (ltb-true v 4294967296 x)) at h) (simp (pick_true, pick_false, q)))
        λ x.
        let g3 : 4294967296 ≤ v = ltb-false v 4294967296 x in
        long 27 8 4294967296 be8 (put8 v) n refl g3 (un8 (at + 1) v n) (omega arith) (rw (enc8 m v g3) at h) (simp (pick_true, pick_false, q))
