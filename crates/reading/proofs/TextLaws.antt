-- The laws of strings: a head, then as many bytes of the alphabet.
use Prim.Native.Nat.{ℕ, ◌+◌, ◌-◌, ◌≤◌}
use mathlib.Core.Path.{◌≡◌, sym, ap, ◌∙◌, subst}
use mathlib.Core.List.{List, ◌++◌}
use mathlib.Core.Bool.{Bool}
use native.Mathlib.Omega.{arith}
use lib.ListN.{length, take, drop, take-append-drop, length-drop}
use lib.Seq.{drop-drop, length-take-le, take-append_seam}
use borrow.Author.Tests.{ltb-false, le-ltb}
use Rattle.reading.specs.Read.{ok}
use Rattle.reading.specs.Limits.{max_text, max_u64}
use Rattle.reading.specs.Item.{read_kind}
use Rattle.reading.specs.Text.{Name, text_bytes, read_text}
use Rattle.reading.specs.Encode.{enc_head, enc_text, WithinText}
use Rattle.reading.specs.Items.{Items}
use Rattle.reading.proofs.Rules.{pick_true, pick_false, bind_ok}
use Rattle.reading.proofs.Gives.{Gives, gives_ok, gives_refused, gives_pick, gives_bind, kind_fits}
use Rattle.reading.proofs.At.{At, at_join, at_split}
use Rattle.reading.proofs.Blames.{Blames, Inner, blames_ok, blames_refused, blames_pick, blames_bind, kind_blames, truncated, out_of_range, outside_alphabet}
use Rattle.reading.proofs.Items.{text_item}
use Rattle.reading.proofs.Formats.{Laws, Never}
use Rattle.reading.proofs.ItemLaws.{kind_sound, kind_complete}

-- a string: its head, and its bytes after it
pub record TextAt (least : ℕ) (alphabet : ℕ → Bool) (s : List ℕ) (at : ℕ) (w : Name) (n : ℕ) : Type 0 where
  pub within : WithinText least alphabet w
  pub from : ℕ
  pub head : read_kind 3 s at ≡ ok (length w) from
  pub there : At s from w n

module _ (least : ℕ) (alphabet : ℕ → Bool) where
  pub text_at_lem : (s : List ℕ) (at : ℕ) → Gives (TextAt least alphabet s at) (read_text least alphabet s at)
  unfolding read_text text_bytes
  text_at_lem s at =
      gives_bind _ _ _ λ len n e.
      gives_pick _ _ _ _ (λ _. gives_refused _ _ _) λ l.
      gives_pick _ _ _ _ (λ _. gives_refused _ _ _) λ u.
      gives_pick _ _ _ _ (λ _. gives_refused _ _ _) λ t.
      gives_pick _ _ _ _ (λ q.
      let f : len ≤ length s - n = ltb-false _ _ t in
      let h : n ≤ length s = kind_fits s at 3 len n e in
      let k : length (take len (drop n s)) ≡ len = length-take-le len (drop n s) (rw (length-drop n s) f) in
      gives_ok (TextAt least alphabet s at) (take len (drop n s)) (n + len) (record {
        within = record { enough = rw k (ltb-false len least l); most = rw k (ltb-false max_text len u); each = q };
        from = n;
        head = rw k e;
        there = record { end = rw k; fits = omega arith; bytes = sym (take-append-drop len (drop n s)) ∙ ap (λ (z : List ℕ). take len (drop n s) ++ z) (drop-drop len n s) };
      }))
      (λ _. gives_refused _ _ _)

  text_complete : (s : List ℕ) (at : ℕ) (w : Name) (n : ℕ) → WithinText least alphabet w → At s at (enc_text w) n → read_text least alphabet s at ≡ ok w n
  unfolding read_text text_bytes enc_text
  text_complete s at w n i a =
      let k = at_split (enc_head 3 (length w)) w a in
      let p = at + length (enc_head 3 (length w)) in
      let l : length w ≤ max_u64 = omega (arith, i.most) in
      let e = kind_complete s 3 at (length w) _ (omega arith) l k.0 in
      let f : length w ≤ length s - p = omega (arith, k.1.end, k.1.fits) in
      let t : take (length w) (drop p s) ≡ w = ap (take (length w)) k.1.bytes ∙ take-append_seam w (drop n s) in
      rw (
        e,
        bind_ok,
        le-ltb (length w) least i.enough,
        pick_false,
        le-ltb max_text (length w) i.most,
        pick_false,
        le-ltb (length s - p) (length w) f,
        pick_false,
        t,
        i.each,
        pick_true,
        k.1.end,
      )

  text_items : (s : List ℕ) (at : ℕ) → Gives (λ _ n. Items s 1 at n) (read_text least alphabet s at)
  text_items s at w n e = let k = text_at_lem s at w n e in subst (λ (z : ℕ). Items s 1 at z) (sym k.there.end) (text_item k.head)

  text_blames : {D : ℕ → Type 0} (s : List ℕ) (at : ℕ) → Blames (Inner D) (read_text least alphabet s at)
  unfolding read_text text_bytes
  text_blames {D} s at =
      blames_bind (Inner D) _ _ (kind_blames s at 3) λ len n e.
      blames_pick (Inner D) _ _ _ (λ _. blames_refused (Inner D) _ _ out_of_range) λ _.
      blames_pick (Inner D) _ _ _ (λ _. blames_refused (Inner D) _ _ out_of_range) λ _.
      blames_pick (Inner D) _ _ _ (λ _. blames_refused (Inner D) _ _ truncated) λ _.
      blames_pick (Inner D) _ _ _ (λ _. blames_ok (Inner D) _ _) λ _. blames_refused (Inner D) _ _ outside_alphabet

  pub text_laws : Laws (read_text least alphabet) enc_text (WithinText least alphabet) 1 Never
  unfolding enc_text
  text_laws = record {
    sound = λ s B at _ w n e.
        let k = text_at_lem s at w n e in
        record { within = k.within; there = at_join (kind_sound s B 3 at (length w) k.from k.head).there k.there };
    complete = text_complete;
    items = text_items;
    blames = λ s at. text_blames s at;
  }
