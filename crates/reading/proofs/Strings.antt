-- Strings: the loop over their bytes, in which what remains decides; their bytes counted; and the string's bytes after its head.
use Prim.Native.Nat.{ℕ, suc, ◌+◌, ◌-◌, ◌<◌, ◌≤◌}
use mathlib.Core.Path.{◌≡◌, refl, sym, ap, ◌∙◌}
use mathlib.Core.List.{List, [], ◌∷◌}
use mathlib.Core.Bool.{Bool, true, false}
use native.Mathlib.Numerals.{add-one, one-add}
use native.Mathlib.Omega.{arith}
use native.Mathlib.Nat.{add-sub_cancel_left}
use lib.ListN.{length, take, drop, get_or, drop_of_length-le, length-drop}
use lib.Seq.{drop-cons, length-take-le}
use lib.Dec.{ltb, eqb, eqb-suc-suc}
use borrow.Author.Tests.{lt-ltb, le-ltb, ne_eqb}
use Rattle.reading.specs.Read.{pick, map_r}
use Rattle.reading.specs.Limits.{max_text}
use Rattle.reading.specs.Item.{read_kind}
use Rattle.reading.specs.Text.{all, name_byte, version_byte, text_bytes, read_text}
use Rattle.reading.specs.Link.{refusal, answer, least_of, alphabet_of}
use Rattle.reading.specs.Short.{tally, count}
use Rattle.reading.specs.declared.fault.Fault.TheVariants.{Truncated, OutOfRange, OutsideAlphabet}
use Rattle.reading.specs.declared.cursor.Cursor.{Cursor}
use Rattle.reading.specs.declared.text.Text.{Text}
use Rattle.reading.specs.declared.text.Text.TheVariants.{Name, Version}
use Rattle.reading.proofs.Rules.{by, pick_true, pick_false, bind_ok, map_ok, map_out}
use Rattle.reading.proofs.Gives.{kind_fits}
use Rattle.reading.proofs.Answers.{got, answer_ok, answer_out}
use Rattle.std.specs.Prelude.{Result, Ok, Err}
use Rattle.reading.specs.declared.fault.Refusal.{Refusal}

-- the kinds of string
module _ {t : Text} where
  pub name_least : t ≡ Name → 1 ≡ least_of t
  unfolding least_of
  name_least e = sym (ap least_of e)

  pub version_least : t ≡ Version → 0 ≡ least_of t
  unfolding least_of
  version_least e = sym (ap least_of e)

  module _ (bytes : List ℕ) {r : Bool} where
    pub name_alphabet : t ≡ Name → r ≡ all name_byte bytes → r ≡ all (alphabet_of t) bytes
    unfolding alphabet_of
    name_alphabet e q = q ∙ sym (ap (λ (z : Text). all (alphabet_of z) bytes) e)

    pub version_alphabet : t ≡ Version → r ≡ all version_byte bytes → r ≡ all (alphabet_of t) bytes
    unfolding alphabet_of
    version_alphabet e q = q ∙ sym (ap (λ (z : Text). all (alphabet_of z) bytes) e)

-- the loop over the bytes
module _ (p : ℕ → Bool) (t : List ℕ) (i : ℕ) {b : Bool} (e : b ≡ p (get_or t i 0)) where
  pub all_step : i < length t → b ≡ true → all p (drop (i + 1) t) ≡ all p (drop i t)
  unfolding all pick
  all_step h q = rw (add-one, drop-cons t i 0, sym e ∙ q)

  pub all_fail : i < length t → b ≡ false → all p (drop i t) ≡ false
  unfolding all pick
  all_fail h q = rw (drop-cons t i 0, sym e ∙ q)

pub all_done : (p : ℕ → Bool) (t : List ℕ) (i : ℕ) → length t ≤ i → all p (drop i t) ≡ true
unfolding all pick
all_done p t i h = rw (drop_of_length-le t h)

-- a tally is one at most
pub tallied : (b : Bool) {n : ℕ} → n ≡ tally b → (n ≡ tally b) × (n ≤ 1)
unfolding tally pick
tallied true e = (e, omega arith)
tallied false e = (e, omega arith)

-- counting the bytes: those counted, and those among what remains
module _ (p : ℕ → Bool) (t : List ℕ) (i n : ℕ) where
  pub count_step : i < length t → {k : ℕ} → k ≡ tally (p (get_or t i 0)) → n + count p (drop i t) ≡ count p t → n + k + count p (drop (i + 1) t) ≡ count p t
  unfolding count
  count_step h e v = rw (add-one i) (omega (arith, rw (drop-cons t i 0 h) at v))

  pub count_done : length t ≤ i → n + count p (drop i t) ≡ count p t → n ≡ count p t
  unfolding count
  count_done h v = omega (arith, rw (drop_of_length-le t h) at v)

-- as many as there are: all
module _ (p : ℕ → Bool) where
  count_most : (t : List ℕ) → count p t ≤ length t
  unfolding count
  count_most [] = omega arith
  count_most (x ∷ t) = omega (arith, (tallied (p x) refl).1, count_most t)

  pub count_all : (t : List ℕ) {n : ℕ} → n ≡ count p t → eqb n (length t) ≡ all p t
  unfolding count tally pick all
  count_all [] e = rw e
  count_all (x ∷ t) e = by (p x) (λ q. rw (e, q, one-add, eqb-suc-suc) (count_all t refl)) λ q. rw (e, q) (ne_eqb (0 + count p t) (suc (length t)) (λ z. omega (arith, count_most t)))

-- the string's bytes, len of them after its head
module _ (p : ℕ → Bool) (s : List ℕ) (at len from : ℕ) where
  pub text_short : length s - from < len → {e : Refusal} → e ≡ refusal Truncated at → Err e ≡ answer (map_r length (text_bytes p s at len from))
  unfolding text_bytes
  text_short h q = rw (q, lt-ltb (length s - from) len h, pick_true, map_out, answer_out)

  module _ {r : Bool} (h : len ≤ length s - from) (e : r ≡ all p (take (from + len - from) (drop from s))) where
    part : all p (take len (drop from s)) ≡ r
    part = ap (λ (k : ℕ). all p (take k (drop from s))) (sym (add-sub_cancel_left from len)) ∙ sym e

    part_length : length (take len (drop from s)) ≡ len
    part_length = length-take-le len (drop from s) (rw (length-drop from s) h)

    pub text_done : r ≡ true → Ok (len, record { at = from + len }) ≡ answer (map_r length (text_bytes p s at len from))
    unfolding text_bytes
    text_done q = rw (le-ltb (length s - from) len h, pick_false, part ∙ q, pick_true, map_ok, answer_ok, part_length)

    pub text_fault : r ≡ false → {e : Refusal} → e ≡ refusal OutsideAlphabet at → Err e ≡ answer (map_r length (text_bytes p s at len from))
    unfolding text_bytes
    text_fault q f = rw (f, le-ltb (length s - from) len h, pick_false, part ∙ q, pick_false, map_out, answer_out)

-- a string's head was read, and its length is judged
module _ (t : Text) (s : List ℕ) (at : ℕ) {a : Result (ℕ × Cursor) Refusal} {len : ℕ} {c : Cursor} (e : a ≡ answer (read_kind 3 s at)) (q : a ≡ Ok (len, c)) where
  pub text_from : c.at ≤ length s
  text_from = kind_fits s at 3 len c.at (got _ e q)

  module _ {l : ℕ} (b : l ≡ least_of t) where
    pub text_under : len < l → {e : Refusal} → e ≡ refusal OutOfRange at → Err e ≡ answer (map_r length (read_text (least_of t) (alphabet_of t) s at))
    unfolding read_text
    text_under h f =
        let k : len < least_of t = rw b at h in
        rw (f, got _ e q, bind_ok, lt-ltb len (least_of t) k, pick_true, map_out, answer_out)

    module _ (m : l ≤ len) where
      enough : ltb len (least_of t) ≡ false
      enough = le-ltb len (least_of t) (rw b at m)

      pub text_over : max_text < len → {e : Refusal} → e ≡ refusal OutOfRange at → Err e ≡ answer (map_r length (read_text (least_of t) (alphabet_of t) s at))
      unfolding read_text
      text_over h f = rw (f, got _ e q, bind_ok, enough, pick_false, lt-ltb max_text len h, pick_true, map_out, answer_out)

      pub text_inside : len ≤ max_text → {x : Result (ℕ × Cursor) Refusal} → x ≡ answer (map_r length (text_bytes (alphabet_of t) s at len c.at)) → x ≡ answer (map_r length (read_text (least_of t) (alphabet_of t) s at))
      unfolding read_text
      text_inside h z = z ∙ sym (rw (got _ e q, bind_ok, enough, pick_false, le-ltb max_text len h, pick_false))
