-- The theorems of the reading layer: an accepted document is the one encoding of a content within the limits, and every such encoding is accepted.
use Prim.Native.Nat.{ℕ, suc, ◌+◌, ◌≤◌}
use mathlib.Core.Path.{◌≡◌, sym, ap, ◌∙◌, subst}
use mathlib.Core.List.{List, [], ◌++◌, append-nil}
use native.Mathlib.Omega.{arith}
use lib.ListN.{length, drop}
use lib.Seq.{drop-length}
use borrow.Author.Tests.{ltb-false, le-ltb}
use Rattle.reading.specs.Read.{Reader, ok}
use Rattle.reading.specs.Limits.{max_document}
use Rattle.reading.specs.Module.{Ir, enc_ir, WithinIr}
use Rattle.reading.specs.Document.{read_document}
use Rattle.reading.proofs.Rules.{pick_false, bind_ok}
use Rattle.reading.proofs.Gives.{Gives, gives_ok, gives_refused, gives_pick, gives_bind}
use Rattle.reading.proofs.At.{At, at_here}
use Rattle.reading.proofs.HeadSound.{Bytes}
use Rattle.reading.proofs.Formats.{Laws, item_sound}
use Rattle.reading.proofs.ModuleLaws.{ir_sound, ir_complete}

-- an accepted document
pub record Accepted (s : List ℕ) (x : Ir) (n : ℕ) : Type 0 where
  pub within : WithinIr x
  pub bytes : s ≡ enc_ir x
  pub short : length s ≤ max_document
  pub all : n ≡ length s

pub document_sound : (s : List ℕ) → Bytes s → Gives (Accepted s) (read_document s)
unfolding read_document
document_sound s B =
    gives_pick _ _ _ _ (λ _. gives_refused _ _ _) λ l.
    gives_bind _ _ _ λ x n e.
    gives_pick _ _ _ _ (λ _. gives_refused _ _ _) λ r.
    let k = ir_sound s B 0 x n e in
    let f : n ≡ length s = omega (arith, k.there.fits, ltb-false n (length s) r) in
    gives_ok (Accepted s) x n (record {
      within = k.within;
      bytes = k.there.bytes ∙ ap (λ (z : ℕ). enc_ir x ++ drop z s) f ∙ ap (λ (z : List ℕ). enc_ir x ++ z) (drop-length s) ∙ append-nil (enc_ir x);
      short = ltb-false max_document (length s) l;
      all = f;
    })

-- a content within the limits has a document that is accepted with it
pub document_complete : (x : Ir) → WithinIr x → length (enc_ir x) ≤ max_document → read_document (enc_ir x) ≡ ok x (length (enc_ir x))
unfolding read_document
document_complete x w l =
    let s = enc_ir x in
    let a : At s 0 s (length s) = record { end = omega arith; fits = omega arith; bytes = sym (ap (λ (z : List ℕ). s ++ z) (drop-length s) ∙ append-nil s) } in
    rw (le-ltb max_document (length s) l, pick_false, ir_complete s 0 x (length s) w a, bind_ok, le-ltb (length s) (length s) (omega arith), pick_false)

-- one content, one document
pub same_bytes : (s t : List ℕ) (x : Ir) (n m : ℕ) → Bytes s → Bytes t → read_document s ≡ ok x n → read_document t ≡ ok x m → s ≡ t
same_bytes s t x n m B C e f = (document_sound s B x n e).bytes ∙ sym (document_sound t C x m f).bytes

module _ {A : Type 0} {read : Reader A} {enc : A → List ℕ} {Within : A → Type 0} {k : ℕ} {D : List ℕ → ℕ → Type 0} (L : Laws read enc Within (suc k) D) where
  -- what is read depends on its own bytes alone
  pub local : (s : List ℕ) → Bytes s → (at : ℕ) (x : A) (n : ℕ) → read s at ≡ ok x n → (p q : List ℕ) → read (p ++ (enc x ++ q)) (length p) ≡ ok x (length p + length (enc x))
  local s B at x n e p q = L.complete (p ++ (enc x ++ q)) (length p) x _ (item_sound L s B at x n e).within (at_here p (enc x) q)

-- equal bytes, equal content
pub one_encoding : {A : Type 0} {read : Reader A} {enc : A → List ℕ} {Within : A → Type 0} {k : ℕ} {D : List ℕ → ℕ → Type 0} → Laws read enc Within k D → (x y : A) → Within x → Within y → enc x ≡ enc y → x ≡ y
one_encoding {read = read} {enc = enc} L x y v w e =
    let a = L.complete (enc x ++ []) 0 x _ v (at_here [] (enc x) []) in
    let b = L.complete (enc y ++ []) 0 y _ w (at_here [] (enc y) []) in
    let c = subst (λ (z : List ℕ). read (z ++ []) 0 ≡ ok y (0 + length z)) (sym e) b in
    cc
