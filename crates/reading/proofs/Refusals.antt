-- Each answer to a document, and when it is given: what a refusal says is taken from the one place in the definition that gives it.
use Prim.Native.Nat.{ℕ, ◌+◌, ◌<◌, ◌≤◌}
use mathlib.Core.Path.{◌≡◌, refl, sym, ap, ◌∙◌, subst}
use mathlib.Core.List.{List, [], ◌++◌}
use mathlib.Core.Logic.{◌↔◌, ◌⊎◌, inl, inr}
use native.Mathlib.Omega.{arith}
use lib.ListN.{length, drop, length-append, length-drop}
use lib.Dec.{eqb}
use borrow.Author.Tests.{ltb-true, ltb-false, lt-ltb, le-ltb}
use Rattle.reading.specs.Read.{Read, ok, refused, pick}
use Rattle.reading.specs.Limits.{max_document, max_depth, max_version}
use Rattle.reading.specs.Fault.{number}
use Rattle.reading.specs.Item.{read_ir_version}
use Rattle.reading.specs.Combine.{◌then◌, record_of}
use Rattle.reading.specs.Expr.{read_expr}
use Rattle.reading.specs.Formula.{read_formula}
use Rattle.reading.specs.Module.{Ir, read_ir, enc_ir}
use Rattle.reading.specs.Document.{read_document}
use Rattle.reading.specs.Refusals.{NewerVersion, Followed, Longer}
use Rattle.reading.specs.declared.fault.Fault.{Fault}
use Rattle.reading.specs.declared.fault.Fault.TheVariants.{TooLong, Truncated, NonCanonical, Unexpected, OutOfRange, OutsideAlphabet, TooDeep, Trailing, UnknownVersion}
use Rattle.reading.proofs.Rules.{pick_true, pick_false, bind_ok, bind_out, map_out}
use Rattle.reading.proofs.At.{At, at_here}
use Rattle.reading.proofs.HeadSound.{Bytes}
use Rattle.reading.proofs.Blames.{Blames, Inner, truncated, non_canonical, unexpected, out_of_range, outside_alphabet, deep_start, blames_ok, blames_refused, blames_pick, blames_bind}
use Rattle.reading.proofs.Items.{kind_head, head_short}
use Rattle.reading.proofs.ModuleLaws.{Nested, ir_sound, ir_complete, ir_blames}
use Rattle.reading.proofs.ItemLaws.{fields_kind}

-- the numbers of the table
pub numbered : (f : Fault) → (1 ≤ number f) × (number f ≤ 9)
unfolding number
numbered TooLong = (omega arith, omega arith)
numbered Truncated = (omega arith, omega arith)
numbered NonCanonical = (omega arith, omega arith)
numbered Unexpected = (omega arith, omega arith)
numbered OutOfRange = (omega arith, omega arith)
numbered OutsideAlphabet = (omega arith, omega arith)
numbered TooDeep = (omega arith, omega arith)
numbered Trailing = (omega arith, omega arith)
numbered UnknownVersion = (omega arith, omega arith)

named : ℕ → Fault
named n =
    pick (eqb n 1) TooLong
    (pick (eqb n 2) Truncated
    (pick (eqb n 3) NonCanonical
    (pick (eqb n 4) Unexpected
    (pick (eqb n 5) OutOfRange
    (pick (eqb n 6) OutsideAlphabet
    (pick (eqb n 7) TooDeep
    (pick (eqb n 8) Trailing
    UnknownVersion)))))))

named_number : (f : Fault) → named (number f) ≡ f
unfolding named number pick
named_number TooLong = refl
named_number Truncated = refl
named_number NonCanonical = refl
named_number Unexpected = refl
named_number OutOfRange = refl
named_number OutsideAlphabet = refl
named_number TooDeep = refl
named_number Trailing = refl
named_number UnknownVersion = refl

-- one number, one fault
pub same_number : (f g : Fault) → number f ≡ number g → f ≡ g
same_number f g e = sym (named_number f) ∙ ap named e ∙ named_number g

-- a document is accepted, or refused with a number from 1 to 9
pub answered : (s : List ℕ) → ((x : Ir) × (n : ℕ) × (read_document s ≡ ok x n)) ⊎ ((f : Fault) × (p : ℕ) × (read_document s ≡ refused f p) × (1 ≤ number f) × (number f ≤ 9))
answered s = one (read_document s) refl
  where
    one : (m : Read Ir) → read_document s ≡ m → ((x : Ir) × (n : ℕ) × (read_document s ≡ ok x n)) ⊎ ((f : Fault) × (p : ℕ) × (read_document s ≡ refused f p) × (1 ≤ number f) × (number f ≤ 9))
    one (ok x n) e = inl (x, n, e)
    one (refused f p) e = inr (f, p, e, (numbered f).0, (numbered f).1)

item_number : {D : ℕ → Type 0} {f : Fault} {p : ℕ} → Inner D f p → (2 ≤ number f) × (number f ≤ 7)
unfolding number
item_number truncated = (omega arith, omega arith)
item_number non_canonical = (omega arith, omega arith)
item_number unexpected = (omega arith, omega arith)
item_number out_of_range = (omega arith, omega arith)
item_number outside_alphabet = (omega arith, omega arith)
item_number (deep_start d) = (omega arith, omega arith)

-- where a refusal comes from
data Blame (s : List ℕ) : Fault → ℕ → Type 0 where
  over_long : max_document < length s → Blame s TooLong 0
  item : {f : Fault} {p : ℕ} → length s ≤ max_document → read_ir s 0 ≡ refused f p → Inner (Nested s) f p → Blame s f p
  newer_version : {p : ℕ} → length s ≤ max_document → NewerVersion s 0 p → Blame s UnknownVersion p
  followed : {p : ℕ} → length s ≤ max_document → Followed s p → Blame s Trailing p

module _ (s : List ℕ) where
  ir_blame : length s ≤ max_document → (f : Fault) (p : ℕ) → read_ir s 0 ≡ refused f p → Inner (Nested s) f p ⊎ ((f ≡ UnknownVersion) × NewerVersion s 0 p) → Blame s f p
  ir_blame h f p e (inl i) = item h e i
  ir_blame h f p e (inr u) = subst (λ (z : Fault). Blame s z p) (sym u.0) (newer_version h u.1)

  document_blames : Blames (Blame s) (read_document s)
  unfolding read_document
  document_blames =
      blames_pick (Blame s) _ _ _ (λ q. blames_refused (Blame s) _ _ (over_long (ltb-true _ _ q))) λ q.
      blames_bind (Blame s) _ _ (λ f p e. ir_blame (ltb-false _ _ q) f p e (ir_blames s 0 f p e)) λ x n e.
      blames_pick (Blame s) _ _ _ (λ r. blames_refused (Blame s) _ _ (followed (ltb-false _ _ q) (record { content = x; reads = e; more = ltb-true _ _ r }))) (λ _. blames_ok (Blame s) _ _)

  long_blame : {p : ℕ} → Blame s TooLong p → (max_document < length s) × (p ≡ 0)
  unfolding number
  long_blame (over_long h) = (h, refl)
  long_blame (item _ _ i) = let h = item_number i in absurd (omega arith)

  trailing_blame : {p : ℕ} → Blame s Trailing p → (length s ≤ max_document) × Followed s p
  unfolding number
  trailing_blame (followed h o) = (h, o)
  trailing_blame (item _ _ i) = let h = item_number i in absurd (omega arith)

  version_blame : {p : ℕ} → Blame s UnknownVersion p → (length s ≤ max_document) × NewerVersion s 0 p
  unfolding number
  version_blame (newer_version h u) = (h, u)
  version_blame (item _ _ i) = let h = item_number i in absurd (omega arith)

  deep_blame : {p : ℕ} → Blame s TooDeep p → Nested s p
  deep_blame (item _ _ (deep_start d)) = d

  item_blame : {f : Fault} {p : ℕ} → 2 ≤ number f → number f ≤ 7 → Blame s f p → (length s ≤ max_document) × (read_ir s 0 ≡ refused f p)
  unfolding number
  item_blame l u (over_long h) = absurd (omega arith)
  item_blame l u (item h e i) = (h, e)
  item_blame l u (newer_version h o) = absurd (omega arith)
  item_blame l u (followed h o) = absurd (omega arith)

  -- 2 to 7: the first fault of the items, read from left to right
  pub item_refused : (f : Fault) (p : ℕ) → 2 ≤ number f → number f ≤ 7 → (read_document s ≡ refused f p) ↔ ((length s ≤ max_document) × (read_ir s 0 ≡ refused f p))
  unfolding read_document
  item_refused f p l u = (λ e. item_blame l u (document_blames f p e), λ h. rw (le-ltb max_document (length s) h.0, pick_false, h.1, bind_out))

  -- 1
  pub too_long : (p : ℕ) → (read_document s ≡ refused TooLong p) ↔ ((max_document < length s) × (p ≡ 0))
  unfolding read_document
  too_long p = (λ e. long_blame (document_blames TooLong p e), λ h. rw (lt-ltb max_document (length s) h.0, pick_true, h.1))

  -- 8
  pub trailing : (p : ℕ) → (read_document s ≡ refused Trailing p) ↔ ((length s ≤ max_document) × Followed s p)
  unfolding read_document
  trailing p = (
    λ e. trailing_blame (document_blames Trailing p e),
    λ h.
        rw (le-ltb max_document (length s) h.0, pick_false, h.1.reads, bind_ok, lt-ltb p (length s) h.1.more, pick_true),
  )

  -- 9: the version stands after the array's head, which is one byte
  pub unknown_version : (p : ℕ) → (read_document s ≡ refused UnknownVersion p) ↔ ((length s ≤ max_document) × NewerVersion s 0 p)
  unfolding read_document read_ir record_of ◌then◌ read_ir_version
  unknown_version p = (
    λ e. version_blame (document_blames UnknownVersion p e),
    λ h.
        let u = h.1 in
        rw (le-ltb max_document (length s) h.0, pick_false, u.opens, bind_ok, u.number, bind_ok, lt-ltb max_version u.version u.newer, pick_true, bind_out, map_out, bind_out),
  )

  pub version_place : {p : ℕ} → NewerVersion s 0 p → p ≡ 1
  version_place {p} u = head_short s 0 _ p (kind_head s 0 4 2 p (fields_kind s 0 2 tt p u.opens)) (omega arith)

  -- 7: a top expression or formula is too deep
  pub too_deep : (p : ℕ) → read_document s ≡ refused TooDeep p → ((at : ℕ) × (read_expr max_depth s at ≡ refused TooDeep p)) ⊎ ((at : ℕ) × (read_formula max_depth s at ≡ refused TooDeep p))
  too_deep p e = deep_blame (document_blames TooDeep p e)

  -- 8, by the bytes
  pub trailing_bytes : Bytes s → (p : ℕ) → Followed s p ↔ Longer s p
  trailing_bytes B p = (longer, shorter)
    where
      longer : Followed s p → Longer s p
      longer o =
          let k = ir_sound s B 0 o.content p o.reads in
          record { content = o.content; within = k.within; rest = drop p s; bytes = k.there.bytes; more = omega (arith, length-drop p s, o.more); place = omega (arith, k.there.end) }

      shorter : Longer s p → Followed s p
      shorter l =
          let x = l.content in
          let q : 0 + length (enc_ir x) ≡ p = omega (arith, l.place) in
          let a : At (enc_ir x ++ l.rest) 0 (enc_ir x) p = subst (λ (z : ℕ). At (enc_ir x ++ l.rest) 0 (enc_ir x) z) q (at_here [] (enc_ir x) l.rest) in
          let e : read_ir s 0 ≡ ok x p = subst (λ (z : List ℕ). read_ir z 0 ≡ ok x p) (sym l.bytes) (ir_complete _ 0 x p l.within a) in
          record { content = x; reads = e; more = omega (arith, l.place, l.more, length-append (enc_ir x) l.rest, ap length l.bytes) }
