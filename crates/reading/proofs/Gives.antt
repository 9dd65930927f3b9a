-- What holds of whatever a reader accepts; and where a head ends.
use Prim.Native.Nat.{ℕ, ◌+◌, ◌-◌, ◌<◌, ◌≤◌}
use mathlib.Core.Path.{◌≡◌, refl, subst}
use mathlib.Core.List.{List}
use mathlib.Core.Bool.{Bool, true, false}
use native.Mathlib.Omega.{arith}
use lib.ListN.{length}
use borrow.Author.Tests.{ltb-false, leb-false}
use Rattle.reading.specs.Read.{Read, ok, refused, pick, bind, map_r}
use Rattle.reading.specs.Head.{long_head, settled, wide_head, simple, read_head, head_with}
use Rattle.reading.specs.Item.{read_kind}
use Rattle.reading.specs.declared.fault.Fault.{Fault}
use Rattle.reading.proofs.Rules.{no}

-- whatever m accepts, P holds of the content and the place after it
abbrev pub Gives : {A : Type 0} → (A → ℕ → Type 0) → Read A → Type 0
Gives {A} P m = (a : A) (n : ℕ) → m ≡ ok a n → P a n

module _ {A : Type 0} (P : A → ℕ → Type 0) where
  pub gives_ok : (a : A) (n : ℕ) → P a n → Gives P (ok a n)
  gives_ok a n h b m e =
      let x : a ≡ b = cc in
      let y : n ≡ m = cc in
      subst (λ (z : A). P z m) x (subst (λ (z : ℕ). P a z) y h)

  pub gives_refused : (f : Fault) (p : ℕ) → Gives P (refused f p)
  gives_refused f p a n e = no (cc)

  pub gives_pick : (b : Bool) (x y : Read A) → (b ≡ true → Gives P x) → (b ≡ false → Gives P y) → Gives P (pick b x y)
  unfolding pick
  gives_pick true x y h k = h refl
  gives_pick false x y h k = k refl

module _ {A B : Type 0} (P : B → ℕ → Type 0) where
  pub gives_bind : (m : Read A) (k : A → ℕ → Read B) → ((a : A) (n : ℕ) → m ≡ ok a n → Gives P (k a n)) → Gives P (bind m k)
  unfolding bind
  gives_bind (ok a n) k h = h a n refl
  gives_bind (refused f p) k h = gives_refused P f p

  pub gives_map : (g : A → B) (m : Read A) → ((a : A) (n : ℕ) → m ≡ ok a n → P (g a) n) → Gives P (map_r g m)
  unfolding map_r
  gives_map g (ok a n) h = gives_ok P (g a) n (h a n refl)
  gives_map g (refused f p) h = gives_refused P f p

-- a head takes a byte at least, and ends within the document
abbrev Spans : {A : Type 0} → List ℕ → ℕ → A → ℕ → Type 0
Spans s at a n = (at < n) × (n ≤ length s)

module _ (s : List ℕ) (at : ℕ) where
  long_spans : (major : ℕ) (be : List ℕ → ℕ → ℕ) (width least : ℕ) → at < length s → Gives (Spans s at) (long_head major be width least s at)
  unfolding long_head settled
  long_spans major be width least h =
      gives_pick (Spans s at) _ _ _ (λ e. gives_refused (Spans s at) _ _) λ e.
      gives_pick (Spans s at) _ _ _ (λ e. gives_refused (Spans s at) _ _) λ _.
      let k : at + 1 + width ≤ length s = omega (arith, ltb-false (length s - at - 1) width e) in gives_ok (Spans s at) _ _ (omega arith, k)

  pub head_spans : Gives (Spans s at) (read_head s at)
  unfolding read_head head_with wide_head simple
  head_spans =
      gives_pick (Spans s at) _ _ _ (λ e. gives_refused (Spans s at) _ _) λ e.
      let h : at < length s = leb-false (length s) at e in
      let k : (at < at + 1) × (at + 1 ≤ length s) = omega arith in
      gives_pick (Spans s at) _ _ _ (λ e. gives_refused (Spans s at) _ _) λ _.
      gives_pick (Spans s at) _ _ _ (λ _.
      gives_pick (Spans s at) _ _ _ (λ e. gives_refused (Spans s at) _ _) λ _.
      gives_pick (Spans s at) _ _ _ (λ e. gives_refused (Spans s at) _ _) λ _. gives_ok (Spans s at) _ _ k) λ _.
      gives_pick (Spans s at) _ _ _ (λ _. gives_ok (Spans s at) _ _ k) λ _.
      gives_pick (Spans s at) _ _ _ (λ _. long_spans _ _ _ _ h) λ _.
      gives_pick (Spans s at) _ _ _ (λ _. long_spans _ _ _ _ h) λ _.
      gives_pick (Spans s at) _ _ _ (λ _. long_spans _ _ _ _ h) λ _. long_spans _ _ _ _ h

  pub head_fits : Gives (λ _ n. n ≤ length s) (read_head s at)
  head_fits h n e = (head_spans h n e).1

  pub kind_fits : (due : ℕ) → Gives (λ _ n. n ≤ length s) (read_kind due s at)
  unfolding read_kind
  kind_fits due =
      gives_bind (λ _ n. n ≤ length s) _ _ λ a n e.
      gives_pick (λ _ n. n ≤ length s) _ _ _ (λ _. gives_ok (λ _ n. n ≤ length s) _ _ (head_fits a n e)) (λ _. gives_refused (λ _ n. n ≤ length s) _ _)
