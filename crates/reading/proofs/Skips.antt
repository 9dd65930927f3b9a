-- Past items: the loop, in which what remains decides, goes as the definition does; items that stand there are passed; a string's part.
use Prim.Native.Nat.{ℕ, zero, suc, ◌+◌, ◌-◌, ◌%◌, ◌<◌, ◌≤◌}
use mathlib.Core.Path.{◌≡◌, refl, sym, ap, ◌∙◌}
use mathlib.Core.List.{List, []}
use mathlib.Core.Bool.{Bool, true}
use native.Mathlib.Omega.{arith}
use native.Mathlib.Nat.{add-sub_cancel_left}
use lib.ListN.{length, take, drop, get_or}
use borrow.Author.Tests.{lt-ltb, le-ltb, le-leb, ltb-false}
use Rattle.reading.specs.Read.{Read, ok, refused, bind}
use Rattle.reading.specs.Head.{read_head}
use Rattle.reading.specs.declared.cursor.Head.{Head}
use Rattle.reading.specs.Item.{read_kind}
use Rattle.reading.specs.Items.{inside, payload, Items, none, more}
use Rattle.reading.specs.Skip.{skip_body, skip_head, skip_or, skip_within, skip_items, span_of, text_at}
use Rattle.reading.specs.Link.{refusal, answer, stands}
use Rattle.reading.specs.Short.{is_one_byte}
use Rattle.reading.specs.declared.fault.Fault.TheVariants.{Truncated}
use Rattle.reading.specs.declared.cursor.Cursor.{Cursor}
use Rattle.reading.proofs.Rules.{pick_true, pick_false, bind_ok, bind_out}
use Rattle.reading.proofs.Gives.{Gives, gives_ok, gives_refused, gives_pick, gives_bind, head_spans, kind_fits}
use Rattle.reading.proofs.Items.{items_room}
use Rattle.reading.proofs.Short.{kind_short, kind_two}
use Rattle.reading.proofs.Answers.{got, out, answer_ok, answer_out, stands_ok, stands_out}
use Rattle.std.specs.Prelude.{Result, Ok, Err}
use Rattle.reading.specs.declared.fault.Refusal.{Refusal}

-- after one head
module _ (left items bytes : ℕ) (s : List ℕ) (at n : ℕ) where
  pub body_short : length s - n < left + items + bytes → {e : Refusal} → e ≡ refusal Truncated at → Err e ≡ answer (skip_body left items bytes s at n)
  unfolding skip_body
  body_short h q = rw (q, lt-ltb (length s - n) (left + items + bytes) h, pick_true, answer_out)

  pub body_room : left + items + bytes ≤ length s - n → Ok ((left + items), record { at = n + bytes }) ≡ answer (skip_body left items bytes s at n)
  unfolding skip_body
  body_room h = rw (le-ltb (length s - n) (left + items + bytes) h, pick_false, answer_ok)

module _ (left : ℕ) (s : List ℕ) (at : ℕ) {r : Result (Head × Cursor) Refusal} (e : r ≡ answer (read_head s at)) where
  module _ {h : Head} {c : Cursor} (q : r ≡ Ok (h, c)) where
    pub body_from : c.at ≤ length s
    body_from = (head_spans s at _ _ (got _ e q)).1

    pub head_body : {i p : ℕ} {x : Result (ℕ × Cursor) Refusal} → i ≡ inside h → p ≡ payload h → x ≡ answer (skip_body left i p s at c.at) → x ≡ answer (skip_head left s at)
    unfolding skip_head
    head_body {i} {p} u v z = z ∙ rw (u, v) (sym (rw (got _ e q, bind_ok)))

  pub head_none : {w : Refusal} → r ≡ Err w → Err w ≡ answer (skip_head left s at)
  unfolding skip_head
  head_none q = rw (out _ e q, bind_out, answer_out)

-- one turn goes forward, inside the document
pub skip_spans : (k : ℕ) (s : List ℕ) (at : ℕ) → Gives (λ _ n. (at < n) × (n ≤ length s)) (skip_head k s at)
unfolding skip_head skip_body
skip_spans k s at =
    gives_bind _ _ _ λ h n e.
    gives_pick _ _ _ _ (λ _. gives_refused _ _ _) λ t.
    let g = head_spans s at h n e in
    let r : k + inside h + payload h ≤ length s - n = ltb-false _ _ t in
    gives_ok (λ _ m. (at < m) × (m ≤ length s)) (k + inside h) (n + payload h) (omega (arith, g.0), omega (arith, g.1))

bind_same : {A B : Type 0} (m : Read A) (F G : A → ℕ → Read B) → ((a : A) (n : ℕ) → m ≡ ok a n → F a n ≡ G a n) → bind m F ≡ bind m G
unfolding bind
bind_same (ok a n) F G h = h a n refl
bind_same (refused f p) F G h = refl

past_end : (k : ℕ) (s : List ℕ) (at : ℕ) → length s ≤ at → skip_head k s at ≡ refused Truncated at
unfolding skip_head read_head
past_end k s at h = rw (le-leb (length s) at h, pick_true, bind_out)

-- as many heads as bytes are enough
enough : (f g k : ℕ) (s : List ℕ) (at : ℕ) → length s ≤ at + f → length s ≤ at + g → skip_within f k s at ≡ skip_within g k s at
unfolding skip_within skip_or
enough zero zero k s at h j = refl
enough zero (suc g) zero s at h j = refl
enough zero (suc g) (suc k) s at h j = sym (rw (past_end k s at (omega arith), bind_out))
enough (suc f) zero zero s at h j = refl
enough (suc f) zero (suc k) s at h j = rw (past_end k s at (omega arith), bind_out)
enough (suc f) (suc g) zero s at h j = refl
enough (suc f) (suc g) (suc k) s at h j =
    bind_same (skip_head k s at) _ _ λ a n e.
    let p = skip_spans k s at a n e in
    enough f g a s n (omega (arith, p.0)) (omega (arith, p.0))

skip_suc : (k : ℕ) (s : List ℕ) (at : ℕ) → skip_items (suc k) s at ≡ bind (skip_head k s at) λ left n. skip_items left s n
unfolding skip_items skip_within skip_or
skip_suc k s at = enough (length s - at) (suc (length s - at)) (suc k) s at (omega arith) (omega arith) ∙ more_heads
  where
    more_heads : skip_within (suc (length s - at)) (suc k) s at ≡ bind (skip_head k s at) λ left n. skip_within (length s - n) left s n
    more_heads = bind_same (skip_head k s at) _ _ λ a n e. let p = skip_spans k s at a n e in enough (length s - at) (length s - n) a s n (omega (arith, p.0)) (omega arith)

skip_zero : (s : List ℕ) (at : ℕ) → skip_items 0 s at ≡ ok tt at
unfolding skip_items skip_within skip_or
skip_zero s at = none_left (length s - at)
  where
    none_left : (f : ℕ) → skip_within f 0 s at ≡ ok tt at
    none_left zero = refl
    none_left (suc f) = refl

-- the loop: the items left from here decide what is answered, w
module _ (left : ℕ) (s : List ℕ) (at : ℕ) (w : Read (Unit {0})) (decides : skip_items left s at ≡ w) where
  pub skip_done : left ≤ 0 → Ok (record { at = at }) ≡ stands w
  skip_done h =
      let z : left ≡ 0 = omega arith in
      sym (ap stands (sym decides) ∙ rw (z, skip_zero, stands_ok))

  module _ (some : 0 < left) {a : Result (ℕ × Cursor) Refusal} (e : a ≡ answer (skip_head (left - 1) s at)) where
    first : w ≡ bind (skip_head (left - 1) s at) λ left n. skip_items left s n
    first =
        let k : left ≡ suc (left - 1) = omega arith in
        sym decides ∙ ap (λ (z : ℕ). skip_items z s at) k ∙ skip_suc (left - 1) s at

    pub skip_on : {items : ℕ} {c : Cursor} → a ≡ Ok (items, c) → skip_items items s c.at ≡ w
    skip_on q = sym (first ∙ rw (got _ e q, bind_ok))

    pub skip_further : {items : ℕ} {c : Cursor} {v : Read (Unit {0})} → a ≡ Ok (items, c) → v ≡ skip_items items s c.at → v ≡ w
    skip_further q x = x ∙ skip_on q

    pub skip_less : {items n : ℕ} {c : Cursor} → a ≡ Ok (items, c) → c.at ≤ n → length s - n < length s - at
    skip_less q h = let p = skip_spans (left - 1) s at _ _ (got _ e q) in omega (arith, p.0, p.1)

    pub skip_out : {f : Refusal} → a ≡ Err f → Err f ≡ stands w
    skip_out q = sym (rw (first, out _ e q, bind_out, stands_out))

-- items that stand there are passed
pub passed_head : (s : List ℕ) (k at : ℕ) (h : Head) (m : ℕ) → read_head s at ≡ ok h m → k + inside h + payload h ≤ length s - m → skip_head k s at ≡ ok (k + inside h) (m + payload h)
unfolding skip_head skip_body
passed_head s k at h m e t = rw (e, bind_ok, le-ltb (length s - m) (k + inside h + payload h) t, pick_false)

pub items_passed : {s : List ℕ} {k at n : ℕ} → Items s k at n → n ≤ length s → skip_items k s at ≡ ok tt n
items_passed {s} {k} {at} none f = skip_zero s at
items_passed {s} {k} {at} (more {k = j} h m e r) f =
    let l = items_room r in
    let g = head_spans s at h m e in
    let t : j + inside h + payload h ≤ length s - m = omega (arith, g.1) in
    skip_suc j s at ∙ rw (passed_head s j at h m e t, bind_ok) (items_passed r f)

-- a string's part
module _ (s : List ℕ) (at : ℕ) {a : Result (ℕ × Cursor) Refusal} (e : a ≡ answer (read_kind 3 s at)) where
  pub span_refused : {w : Refusal} → a ≡ Err w → [] ≡ text_at s at
  unfolding text_at span_of
  span_refused q = rw (out _ e q)

  module _ {len : ℕ} {c : Cursor} (q : a ≡ Ok (len, c)) where
    pub span_from : c.at ≤ length s
    span_from = kind_fits s at 3 len c.at (got _ e q)

    pub span_short : length s - c.at < len → [] ≡ text_at s at
    unfolding text_at span_of
    span_short h = rw (got _ e q, lt-ltb (length s - c.at) len h, pick_true)

    pub span_end : len ≤ length s - c.at → c.at + len ≤ length s
    span_end h = omega (arith, span_from)

    pub span_whole : len ≤ length s - c.at → take (c.at + len - c.at) (drop c.at s) ≡ text_at s at
    unfolding text_at span_of
    span_whole h = ap (λ (k : ℕ). take k (drop c.at s)) (add-sub_cancel_left c.at len) ∙ sym (rw (got _ e q, le-ltb (length s - c.at) len h, pick_false))

-- and where its head is one byte
module _ (s : List ℕ) (at : ℕ) (h : at < length s) {r : Bool} (e : r ≡ is_one_byte 3 (get_or s at 0)) (q : r ≡ true) where
  pub span_one : get_or s at 0 % 32 < length s - at → take (at + 1 + get_or s at 0 % 32 - (at + 1)) (drop (at + 1) s) ≡ text_at s at
  span_one m = span_whole s at (kind_short s 3 at h e q) refl (omega arith)

-- and where it is two bytes
pub span_two : (s : List ℕ) (at : ℕ) → get_or s at 0 ≡ 120 → 24 ≤ get_or s (at + 1) 0 → get_or s (at + 1) 0 < length s - (at + 1) → take (at + 1 + 1 + get_or s (at + 1) 0 - (at + 1 + 1)) (drop (at + 1 + 1) s) ≡ text_at s at
span_two s at b l m = span_whole s at (kind_two s at b (omega arith) l) refl (omega arith)
