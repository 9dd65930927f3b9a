-- From a string, list or option that is read to its bytes, entries or item; and an item's own bytes.
use Prim.Native.Nat.{ℕ, zero, suc, ◌+◌, ◌-◌, ◌<◌, ◌≤◌}
use mathlib.Core.Path.{◌≡◌, refl, sym, ap, ◌∙◌, subst}
use mathlib.Core.List.{List, [], ◌∷◌}
use mathlib.Core.Bool.{Bool}
use mathlib.Core.Logic.{◌↔◌}
use mathlib.Core.Option.{none, some}
use native.Mathlib.Omega.{arith}
use native.Mathlib.Numerals.{add-one}
use native.Mathlib.Nat.{sub-zero}
use lib.ListN.{length, take, drop, get_or}
use lib.Seq.{take-append_seam}
use borrow.Author.Tests.{eqb-true, eqb-false}
use Rattle.reading.specs.Read.{Reader, ok}
use Rattle.reading.specs.Text.{name_byte, version_byte, read_text, read_name, read_version}
use Rattle.reading.specs.Combine.{entries, list_of, optional}
use Rattle.reading.specs.Views.{span, StringAt, ListAt, Rest, Turn, OptionAt, absent, present}
use Rattle.reading.proofs.Gives.{Gives, gives_ok, gives_pick, gives_bind, gives_map}
use Rattle.reading.proofs.HeadSound.{Bytes}
use Rattle.reading.proofs.Formats.{Laws, item_sound}
use Rattle.reading.proofs.ItemLaws.{count_kind}
use Rattle.reading.proofs.Theorems.{one_encoding}
use Rattle.reading.proofs.TextLaws.{text_at_lem}

-- a string's bytes
text_part : (least : ℕ) (alphabet : ℕ → Bool) (s : List ℕ) (at : ℕ) → Gives (StringAt s at) (read_text least alphabet s at)
text_part least alphabet s at w n e =
    let k = text_at_lem least alphabet s at w n e in
    record {
      from = k.from;
      head = k.head;
      part = ap (take (length w)) k.there.bytes ∙ take-append_seam w _;
      end = k.there.end;
      fits = k.there.fits;
    }

pub name_at_lem : (s : List ℕ) (at : ℕ) → Gives (StringAt s at) (read_name s at)
unfolding read_name
name_at_lem = text_part 1 name_byte

pub version_at : (s : List ℕ) (at : ℕ) → Gives (StringAt s at) (read_version s at)
unfolding read_version
version_at = text_part 0 version_byte

module _ {A : Type 0} (F : Reader A) (s : List ℕ) where
  entries_length : (c at : ℕ) → Gives (λ xs _. length xs ≡ c) (entries c F s at)
  unfolding entries
  entries_length zero at = gives_ok (λ xs _. length xs ≡ 0) [] at refl
  entries_length (suc c) at = gives_bind _ _ _ λ a m q. gives_map (λ xs _. length xs ≡ suc c) _ _ λ xs n r. ap suc (entries_length c m xs n r)

  pub list_at : (limit at : ℕ) → Gives (ListAt limit F s at) (list_of limit F s at)
  unfolding list_of
  list_at limit at = gives_bind _ _ _ λ c m q xs n r.
      let l : c ≡ length xs = sym (entries_length c m xs n r) in
      record {
        first = m;
        few = subst (λ (z : ℕ). z ≤ limit) l (count_kind s at limit c m q).1;
        opens = q ∙ ap (λ (z : ℕ). ok z m) l;
        entries_are = ap (λ (z : ℕ). entries z F s m) (sym l) ∙ r;
      }

  -- before the first entry, and after the last
  pub rest_all : {limit at : ℕ} {xs : List A} {n : ℕ} → (l : ListAt limit F s at xs n) → Rest F s l.first 0 xs n
  rest_all l = record { entries_are = rw sub-zero l.entries_are }

  pub rest_none : {k i n : ℕ} {xs : List A} → length xs ≤ i → Rest F s k i xs n → k ≡ n
  unfolding entries
  rest_none {k} {i} {n} {xs} h r =
      let z : length xs - i ≡ 0 = omega arith in
      let q = subst (λ (c : ℕ). entries c F s k ≡ ok (drop i xs) n) z r.entries_are in
      cc

  drop_tail : (xs : List A) (i : ℕ) {y : A} {ys : List A} → y ∷ ys ≡ drop i xs → ys ≡ drop (suc i) xs
  drop_tail [] zero e = absurd (let z : ◌≡◌ {A = ℕ} 0 1 = cc in omega arith)
  drop_tail [] (suc i) e = absurd (let z : ◌≡◌ {A = ℕ} 0 1 = cc in omega arith)
  drop_tail (x ∷ xs) zero e = cc
  drop_tail (x ∷ xs) (suc i) e = drop_tail xs i e

  abbrev First : (c k : ℕ) → List A → ℕ → Type 0
  First c k zs n = (y : A) × (m : ℕ) × (ys : List A) × (F s k ≡ ok y m) × (entries c F s m ≡ ok ys n) × (y ∷ ys ≡ zs)

  first_entry : (c k : ℕ) → Gives (First c k) (entries (suc c) F s k)
  unfolding entries
  first_entry c k = gives_bind _ _ _ λ a m q. gives_map (First c k) _ _ λ ys n w. (a, m, ys, q, w, refl)

  first_turn : {k i n : ℕ} {xs : List A} → First (length xs - (i + 1)) k (drop i xs) n → Turn F s k i xs n
  first_turn {k} {i} {n} {xs} (y, m, ys, e, r, q) =
      let t : ys ≡ drop (i + 1) xs = drop_tail xs i q ∙ ap (λ (z : ℕ). drop z xs) (sym (add-one i)) in
      record {
        entry = y;
        end = m;
        split = sym q ∙ ap (λ (zs : List A). y ∷ zs) t;
        here = e;
        next = record { entries_are = r ∙ ap (λ (zs : List A). ok zs n) t };
      }

  -- the entry whose turn it is
  pub turn : {k i n : ℕ} {xs : List A} → i < length xs → Rest F s k i xs n → Turn F s k i xs n
  turn {k} {i} {n} {xs} h g =
      let q : length xs - i ≡ suc (length xs - (i + 1)) = omega arith in
      first_turn (first_entry (length xs - (i + 1)) k (drop i xs) n (ap (λ (c : ℕ). entries c F s k) (sym q) ∙ g.entries_are))

  -- an option
  pub option_at : (at : ℕ) → Gives (OptionAt F s at) (optional F s at)
  unfolding optional
  option_at at =
      gives_pick _ _ _ _ (λ q. gives_ok (OptionAt F s at) none (at + 1) (absent (eqb-true _ _ q) refl))
      (λ q. gives_map (OptionAt F s at) some _ λ x n e. present (eqb-false _ _ q) e)

pub absent_at : {A : Type 0} {F : Reader A} {s : List ℕ} {at n : ℕ} → OptionAt F s at none n → (get_or s at 0 ≡ 246) × (n ≡ at + 1)
absent_at (absent p q) = (p, q)

pub present_at : {A : Type 0} {F : Reader A} {s : List ℕ} {at n : ℕ} {x : A} → OptionAt F s at (some x) n → F s at ≡ ok x n
present_at (present p q) = q

-- the bytes of an item
module _ {A : Type 0} {read : Reader A} {enc : A → List ℕ} {Within : A → Type 0} {k : ℕ} {D : List ℕ → ℕ → Type 0} (L : Laws read enc Within (suc k) D) (s : List ℕ) (B : Bytes s) where
  pub spanned : (at : ℕ) → Gives (λ x n. (span s at n ≡ enc x) × (at ≤ n) × (n ≤ length s)) (read s at)
  spanned at x n q =
      let h = (item_sound L s B at x n q).there in
      let l : n - at ≡ length (enc x) = omega (arith, h.end) in
      (ap (λ (z : ℕ). take z (drop at s)) l ∙ ap (take (length (enc x))) h.bytes ∙ take-append_seam (enc x) _, omega (arith, h.end), h.fits)

  -- equal bytes are equal content
  pub same_span : (a b : ℕ) (x y : A) (n m : ℕ) → read s a ≡ ok x n → read s b ≡ ok y m → (x ≡ y) ↔ (span s a n ≡ span s b m)
  same_span a b x y n m e q =
      let i = (spanned a x n e).0 in
      let j = (spanned b y m q).0 in
      (λ h. i ∙ ap enc h ∙ sym j, λ h. one_encoding L x y (item_sound L s B a x n e).within (item_sound L s B b y m q).within (sym i ∙ h ∙ j))
