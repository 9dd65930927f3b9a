-- What holds of whatever a reader refuses; and the faults that an item can have, which are 2 to 7.
use Prim.Native.Nat.{ℕ}
use mathlib.Core.Path.{◌≡◌, refl, subst}
use mathlib.Core.List.{List}
use mathlib.Core.Bool.{Bool, true, false}
use Rattle.reading.specs.Read.{Read, ok, refused, pick, bind, map_r}
use Rattle.reading.specs.Head.{long_head, settled, wide_head, simple, read_head, head_with}
use Rattle.reading.specs.Item.{read_kind}
use Rattle.reading.specs.declared.fault.Fault.{Fault}
use Rattle.reading.specs.declared.fault.Fault.TheVariants.{Truncated, NonCanonical, Unexpected, OutOfRange, OutsideAlphabet, TooDeep}
use Rattle.reading.proofs.Rules.{no}

-- whatever m refuses, P holds of the fault and its place
abbrev pub Blames : {A : Type 0} → (Fault → ℕ → Type 0) → Read A → Type 0
Blames P m = (f : Fault) (p : ℕ) → m ≡ refused f p → P f p

module _ {A : Type 0} (P : Fault → ℕ → Type 0) where
  pub blames_ok : (a : A) (n : ℕ) → Blames P (ok a n)
  blames_ok a n f p e = no (cc)

  pub blames_refused : (f : Fault) (p : ℕ) → P f p → Blames {A = A} P (refused f p)
  blames_refused f p h g q e =
      let x : f ≡ g = cc in
      let y : p ≡ q = cc in
      subst (λ (z : Fault). P z q) x (subst (λ (z : ℕ). P f z) y h)

  pub blames_pick : (b : Bool) (x y : Read A) → (b ≡ true → Blames P x) → (b ≡ false → Blames P y) → Blames P (pick b x y)
  unfolding pick
  blames_pick true x y h k = h refl
  blames_pick false x y h k = k refl

module _ {A B : Type 0} (P : Fault → ℕ → Type 0) where
  pub blames_bind : (m : Read A) (k : A → ℕ → Read B) → Blames P m → ((a : A) (n : ℕ) → m ≡ ok a n → Blames P (k a n)) → Blames P (bind m k)
  unfolding bind
  blames_bind (ok a n) k h j = j a n refl
  blames_bind (refused f p) k h j = blames_refused P f p (h f p refl)

  pub blames_map : (g : A → B) (m : Read A) → Blames P m → Blames P (map_r g m)
  unfolding map_r
  blames_map g (ok a n) h = blames_ok P (g a) n
  blames_map g (refused f p) h = blames_refused P f p (h f p refl)

-- the faults of an item: 2 to 6, and 7 at a place that Deep names
pub data Inner (Deep : ℕ → Type 0) : Fault → ℕ → Type 0 where
  truncated : {p : ℕ} → Inner Deep Truncated p
  non_canonical : {p : ℕ} → Inner Deep NonCanonical p
  unexpected : {p : ℕ} → Inner Deep Unexpected p
  out_of_range : {p : ℕ} → Inner Deep OutOfRange p
  outside_alphabet : {p : ℕ} → Inner Deep OutsideAlphabet p
  deep_start : {p : ℕ} → Deep p → Inner Deep TooDeep p

pub inner_more : {D E : ℕ → Type 0} → ((p : ℕ) → D p → E p) → {f : Fault} {p : ℕ} → Inner D f p → Inner E f p
inner_more h truncated = truncated
inner_more h non_canonical = non_canonical
inner_more h unexpected = unexpected
inner_more h out_of_range = out_of_range
inner_more h outside_alphabet = outside_alphabet
inner_more h (deep_start {p = p} d) = deep_start (h p d)

-- heads have only 2, 3 and 4
module _ {D : ℕ → Type 0} (s : List ℕ) (at : ℕ) where
  long_blames : (major : ℕ) (be : List ℕ → ℕ → ℕ) (width least : ℕ) → Blames (Inner D) (long_head major be width least s at)
  unfolding long_head settled
  long_blames major be width least =
      blames_pick (Inner D) _ _ _ (λ _. blames_refused (Inner D) _ _ truncated) λ _.
      blames_pick (Inner D) _ _ _ (λ _. blames_refused (Inner D) _ _ non_canonical) λ _. blames_ok (Inner D) _ _

  pub head_blames : Blames (Inner D) (read_head s at)
  unfolding read_head head_with wide_head simple
  head_blames =
      blames_pick (Inner D) _ _ _ (λ _. blames_refused (Inner D) _ _ truncated) λ _.
      blames_pick (Inner D) _ _ _ (λ _. blames_refused (Inner D) _ _ non_canonical) λ _.
      blames_pick (Inner D) _ _ _ (λ _.
      blames_pick (Inner D) _ _ _ (λ _. blames_refused (Inner D) _ _ unexpected) λ _.
      blames_pick (Inner D) _ _ _ (λ _. blames_refused (Inner D) _ _ unexpected) λ _. blames_ok (Inner D) _ _) λ _.
      blames_pick (Inner D) _ _ _ (λ _. blames_ok (Inner D) _ _) λ _.
      blames_pick (Inner D) _ _ _ (λ _. long_blames _ _ _ _) λ _.
      blames_pick (Inner D) _ _ _ (λ _. long_blames _ _ _ _) λ _.
      blames_pick (Inner D) _ _ _ (λ _. long_blames _ _ _ _) λ _. long_blames _ _ _ _

  pub kind_blames : (due : ℕ) → Blames (Inner D) (read_kind due s at)
  unfolding read_kind
  kind_blames due = blames_bind (Inner D) _ _ head_blames λ h n _. blames_pick (Inner D) _ _ _ (λ _. blames_ok (Inner D) _ _) (λ _. blames_refused (Inner D) _ _ unexpected)
