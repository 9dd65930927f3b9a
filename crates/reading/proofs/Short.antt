-- A head of one byte is read as such, a string's of two bytes, and the two of a data enum.
use Prim.Native.Nat.{ℕ, ◌+◌, ◌-◌, ◌*◌, ◌/◌, ◌%◌, ◌<◌, ◌≤◌}
use mathlib.Core.Path.{◌≡◌, refl, sym, ◌∙◌}
use mathlib.Core.List.{List}
use mathlib.Core.Bool.{Bool, true, false}
use native.Mathlib.Omega.{arith}
use mir.Syntax.{w8, w64}
use mir.Val.{Fits}
use lib.ListN.{length, get_or, take, drop}
use borrow.Author.Tests.{ltb-true, ltb-false, lt-ltb, le-ltb, lt-leb, le-leb, eq-eqb, ne_eqb}
use Rattle.reading.specs.Read.{ok, pick, map_r}
use Rattle.reading.specs.Head.{read_head, head_with, wide_head, long_head, settled, be1}
use Rattle.reading.specs.Limits.{max_text}
use Rattle.reading.specs.Item.{read_kind, read_tag}
use Rattle.reading.specs.Text.{all, name_byte, text_bytes, read_text, read_name}
use Rattle.reading.specs.Link.{refusal, answer, alphabet_of}
use Rattle.reading.specs.Short.{is_one_byte, name_head, tag_head}
use Rattle.reading.specs.declared.fault.Fault.TheVariants.{Truncated}
use Rattle.reading.specs.declared.text.Text.TheVariants.{Name}
use Rattle.reading.proofs.Rules.{no, pick_true, pick_false, bind_ok, bind_out}
use Rattle.reading.proofs.Answers.{answer_ok, answer_out}
use Rattle.reading.proofs.Strings.{text_done}
use Rattle.std.specs.Prelude.{Result, Ok, Err}
use Rattle.reading.specs.declared.fault.Refusal.{Refusal}
use Rattle.reading.specs.declared.cursor.Cursor.{Cursor}

-- a test that passed is none of those that would have failed it
unless : (b c : Bool) → pick b false c ≡ true → (b ≡ false) × (c ≡ true)
unfolding pick
unless true c e = no (cc)
unless false c e = (refl, e)

both : (x y : Bool) → pick x y false ≡ true → (x ≡ true) × (y ≡ true)
unfolding pick
both true y e = (refl, e)
both false y e = no (cc)

module _ (s : List ℕ) (due at : ℕ) where
  pub kind_missing : length s ≤ at → {e : Refusal} → e ≡ refusal Truncated at → Err e ≡ answer (read_kind due s at)
  unfolding read_kind read_head
  kind_missing h q = rw (q, le-leb (length s) at h, pick_true, bind_out, answer_out)

  -- what the test says of the byte
  pub record OneByte (b : ℕ) : Type 0 where
    pub major : b / 32 ≡ due
    pub argument : b % 32 < 24
    pub simple : due ≤ 6

  one_byte_is : (b : ℕ) → is_one_byte due b ≡ true → OneByte b
  unfolding is_one_byte
  one_byte_is b e =
      let u = unless _ _ e in
      let v = unless _ _ u.1 in
      let d : due ≤ 6 = ltb-false _ _ u.0 in
      let l : due * 32 ≤ b = ltb-false _ _ v.0 in
      let m : b - due * 32 < 24 = ltb-true _ _ v.1 in
      record { major = omega arith; argument = omega arith; simple = d }

  -- so it is read as its own argument
  pub head_one : at < length s → is_one_byte due (get_or s at 0) ≡ true → read_head s at ≡ ok (record { major = due; argument = get_or s at 0 % 32 }) (at + 1)
  unfolding read_head head_with
  head_one h e =
      let b = one_byte_is (get_or s at 0) e in
      let small : get_or s at 0 % 32 ≤ 27 = omega (arith, b.argument) in
      let other : due ≡ 7 → ⊥ = λ z. omega (arith, b.simple) in
      rw (lt-leb (length s) at h, pick_false, le-ltb 27 (get_or s at 0 % 32) small, pick_false, b.major, ne_eqb due 7 other, pick_false, lt-ltb (get_or s at 0 % 32) 24 b.argument, pick_true)

  pub kind_one : at < length s → is_one_byte due (get_or s at 0) ≡ true → read_kind due s at ≡ ok (get_or s at 0 % 32) (at + 1)
  unfolding read_kind
  kind_one h e = rw (head_one h e, bind_ok, eq-eqb due due refl, pick_true)

  pub kind_short : {r : Bool} → at < length s → r ≡ is_one_byte due (get_or s at 0) → r ≡ true → Ok ((get_or s at 0 % 32), record { at = at + 1 }) ≡ answer (read_kind due s at)
  kind_short h e q = rw (kind_one h (sym e ∙ q), answer_ok)

pub by_range : (due b : ℕ) → due ≤ 6 → due * 32 ≤ b → b < due * 32 + 24 → is_one_byte due b ≡ true
unfolding is_one_byte
by_range due b d l m =
    let k : b - due * 32 < 24 = omega arith in
    rw (le-ltb 6 due d, pick_false, le-ltb b (due * 32) l, pick_false, lt-ltb (b - due * 32) 24 k)

-- a byte fits a word
pub byte_fits : (s : List ℕ) (i : ℕ) → ((k : ℕ) → Fits w8 (get_or s k 0)) → Fits w64 (get_or s i 0)
byte_fits s i each = omega (arith, each i)

-- a string's head in two bytes: 120, and a length from 24 on
module _ (s : List ℕ) (at : ℕ) (b : get_or s at 0 ≡ 120) (h : at + 1 < length s) (l : 24 ≤ get_or s (at + 1) 0) where
  pub head_two : read_head s at ≡ ok (record { major = 3; argument = get_or s (at + 1) 0 }) (at + 1 + 1)
  unfolding read_head head_with wide_head long_head settled be1 pick
  head_two = rw (lt-leb (length s) at (omega arith), b, le-ltb (length s - at - 1) 1 (omega arith), le-ltb (get_or s (at + 1) 0) 24 l)

  pub kind_two : Ok ((get_or s (at + 1) 0), record { at = at + 1 + 1 }) ≡ answer (read_kind 3 s at)
  unfolding read_kind
  kind_two = rw (head_two, bind_ok, pick_true, answer_ok)

-- the two bytes that the test lets through
record TwoBytes (b case : ℕ) : Type 0 where
  array : is_one_byte 4 b ≡ true
  number : is_one_byte 0 case ≡ true
  some : b % 32 ≡ 0 → ⊥
  itself : case % 32 ≡ case

two_bytes_are : (b case : ℕ) → tag_head b case ≡ true → TwoBytes b case
unfolding tag_head
two_bytes_are b case e =
    let u = unless _ _ e in
    let v = both _ _ u.1 in
    let l : 129 ≤ b = ltb-false _ _ u.0 in
    let m : b < 152 = ltb-true _ _ v.0 in
    let k : case < 24 = ltb-true _ _ v.1 in
    record {
      array = by_range 4 b (omega arith) (omega arith) m;
      number = by_range 0 case (omega arith) (omega arith) k;
      some = λ z. omega arith;
      itself = omega arith;
    }

module _ (s : List ℕ) (at : ℕ) {r : Bool} (q : r ≡ true) where
  -- a string whose head is that of a name, in one byte
  name_short : at < length s → r ≡ name_head (get_or s at 0) → {x : Result (ℕ × Cursor) Refusal} → x ≡ answer (map_r length (text_bytes (alphabet_of Name) s at (get_or s at 0 % 32) (at + 1))) → x ≡ answer (map_r length (read_name s at))
  unfolding name_head read_name read_text alphabet_of
  name_short h e z =
      let u = unless _ _ (sym e ∙ q) in
      let l : 97 ≤ get_or s at 0 = ltb-false _ _ u.0 in
      let m : get_or s at 0 < 120 = ltb-true _ _ u.1 in
      let one : is_one_byte 3 (get_or s at 0) ≡ true = by_range 3 (get_or s at 0) (omega arith) (omega arith) m in
      let some : 1 ≤ get_or s at 0 % 32 = omega arith in
      let few : get_or s at 0 % 32 ≤ max_text = omega arith in
      z ∙ sym (rw (kind_one s 3 at h one, bind_ok, le-ltb (get_or s at 0 % 32) 1 some, pick_false, le-ltb max_text (get_or s at 0 % 32) few, pick_false))

  -- a name whose head is one byte, with its bytes
  pub name_read : {a : Bool} → at < length s → r ≡ name_head (get_or s at 0) → get_or s at 0 % 32 < length s - at → a ≡ all name_byte (take (at + 1 + get_or s at 0 % 32 - (at + 1)) (drop (at + 1) s)) → a ≡ true → Ok ((get_or s at 0 % 32), record { at = at + 1 + get_or s at 0 % 32 }) ≡ answer (map_r length (read_name s at))
  unfolding alphabet_of
  name_read h e l p y = name_short h e (text_done name_byte s at (get_or s at 0 % 32) (at + 1) (omega arith) p y)

  -- the head of a data enum in two bytes
  pub tag_short : 1 < length s - at → r ≡ tag_head (get_or s at 0) (get_or s (at + 1) 0) → Ok (record { start = at; count = get_or s at 0 % 32; case = get_or s (at + 1) 0; place = at + 1 }, record { at = at + 2 }) ≡ answer (read_tag s at)
  unfolding read_tag
  tag_short h e =
      let t = two_bytes_are _ _ (sym e ∙ q) in
      let n : at + 1 + 1 ≡ at + 2 = omega arith in
      sym (rw (kind_one s 4 at (omega arith) t.array, bind_ok, ne_eqb (get_or s at 0 % 32) 0 t.some, pick_false, kind_one s 0 (at + 1) (omega arith) t.number, bind_ok, answer_ok, t.itself, n))
