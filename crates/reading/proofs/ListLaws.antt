-- The laws of lists, from those of an entry.
use Prim.Native.Nat.{ℕ, zero, suc, ◌+◌, ◌≤◌}
use mathlib.Core.Path.{◌≡◌, refl, sym, ap, subst}
use mathlib.Core.List.{List, [], ◌∷◌}
use native.Mathlib.Omega.{arith}
use lib.ListN.{length}
use Rattle.reading.specs.Read.{Reader, ok}
use Rattle.reading.specs.Limits.{max_u64}
use Rattle.reading.specs.Combine.{entries, list_of}
use Rattle.reading.specs.Encode.{enc_head, enc_all, enc_list, All, empty, more, WithinList}
use Rattle.reading.specs.Items.{Items, none as no_item}
use Rattle.reading.proofs.Rules.{bind_ok, map_ok}
use Rattle.reading.proofs.Gives.{Gives, gives_ok, gives_bind, gives_map}
use Rattle.reading.proofs.At.{At, at_join, at_split, at_nil}
use Rattle.reading.proofs.HeadSound.{Bytes}
use Rattle.reading.proofs.Blames.{Blames, Inner, blames_ok, blames_bind, blames_map}
use Rattle.reading.proofs.Items.{items_join, array_item}
use Rattle.reading.proofs.Formats.{Laws}
use Rattle.reading.proofs.ItemLaws.{kind_sound, count_kind, count_complete, count_blames}

-- a list: an array of its entries
module _ {A : Type 0} {read : Reader A} {enc : A → List ℕ} {Within : A → Type 0} {D : List ℕ → ℕ → Type 0} (L : Laws read enc Within 1 D) where
  record Are (s : List ℕ) (k at : ℕ) (xs : List A) (n : ℕ) : Type 0 where
    pub many : length xs ≡ k
    pub each : All Within xs
    pub there : At s at (enc_all enc xs) n

  entries_sound : (s : List ℕ) → Bytes s → (k at : ℕ) → at ≤ length s → Gives (Are s k at) (entries k read s at)
  unfolding entries enc_all
  entries_sound s B zero at h = gives_ok (Are s 0 at) [] at (record { many = refl; each = empty; there = at_nil h })
  entries_sound s B (suc k) at h =
      gives_bind _ _ _ λ a m q. gives_map (Are s (suc k) at) _ _ λ xs n r.
      let i = L.sound s B at h a m q in
      let t = entries_sound s B k m i.there.fits xs n r in
      record { many = ap suc t.many; each = more i.within t.each; there = at_join i.there t.there }

  entries_complete : (s : List ℕ) (xs : List A) (at n : ℕ) → All Within xs → At s at (enc_all enc xs) n → entries (length xs) read s at ≡ ok xs n
  unfolding entries enc_all
  entries_complete s [] at n w a = let z : n ≡ at = omega (arith, a.end) in rw z
  entries_complete s (x ∷ xs) at n (more i r) a =
      let k = at_split (enc x) (enc_all enc xs) a in
      rw (L.complete s at x _ i k.0, bind_ok, entries_complete s xs _ n r k.1, map_ok)

  pub entries_items : (s : List ℕ) (k at : ℕ) → Gives (λ _ n. Items s k at n) (entries k read s at)
  unfolding entries
  entries_items s zero at = gives_ok (λ _ n. Items s 0 at n) [] at no_item
  entries_items s (suc k) at =
      gives_bind _ _ _ λ a m q. gives_map (λ _ n. Items s (suc k) at n) _ _ λ xs n r.
      let c : 1 + k ≡ suc k = omega arith in
      subst (λ (z : ℕ). Items s z at n) c (items_join (L.items s at a m q) (entries_items s k m xs n r))

  entries_blames : (s : List ℕ) (k at : ℕ) → Blames (Inner (D s)) (entries k read s at)
  unfolding entries
  entries_blames s zero at = blames_ok (Inner (D s)) _ _
  entries_blames s (suc k) at = blames_bind (Inner (D s)) _ _ (L.blames s at) λ a m _. blames_map (Inner (D s)) _ _ (entries_blames s k m)

  module _ (limit : ℕ) (small : limit ≤ max_u64) where
    list_complete : (s : List ℕ) (at : ℕ) (xs : List A) (n : ℕ) → WithinList limit Within xs → At s at (enc_list enc xs) n → list_of limit read s at ≡ ok xs n
    unfolding list_of enc_list
    list_complete s at xs n w a =
        let k = at_split (enc_head 4 (length xs)) (enc_all enc xs) a in
        rw (count_complete s at limit (length xs) _ w.most small k.0, bind_ok, entries_complete s xs _ n w.each k.1)

    pub list_laws : Laws (list_of limit read) (enc_list enc) (WithinList limit Within) 1 D
    unfolding list_of enc_list
    list_laws = record {
      sound = λ s B at h.
          gives_bind _ _ _ λ c n q xs m r.
          let i = count_kind s at limit c n q in
          let k = (kind_sound s B 4 at c n i.0).there in
          let t = entries_sound s B c n k.fits xs m r in
          record {
            within = record { most = omega (arith, t.many, i.1); each = t.each };
            there = at_join (subst (λ (z : ℕ). At s at (enc_head 4 z) n) (sym t.many) k) t.there;
          };
      complete = list_complete;
      items = λ s at. gives_bind _ _ _ λ c n q xs m r. array_item (count_kind s at limit c n q).0 (entries_items s c n xs m r);
      blames = λ s at. blames_bind (Inner (D s)) _ _ (count_blames s at limit) λ c n _. entries_blames s c n;
    }
