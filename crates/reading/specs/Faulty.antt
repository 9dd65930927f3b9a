-- When an item is at fault: the rows 2 to 6 of the table of refusals, for items of one head and for strings. The place is the item's start.
use Rattle.std.specs.Prelude.{ℕ, ◌+◌, ◌-◌, ◌/◌, ◌%◌, ◌<◌, ◌≤◌, ◌≡◌, List, Bool, false, ◌⊎◌, length, get_or, take, drop}
use Rattle.reading.specs.Read.{ok}
use Rattle.reading.specs.Limits.{max_text}
use Rattle.reading.specs.Head.{be1, be2, be4, be8, read_head}
use Rattle.reading.specs.declared.cursor.Head.{Head}
use Rattle.reading.specs.Item.{read_kind}
use Rattle.reading.specs.Text.{all}
use Rattle.reading.specs.declared.fault.Fault.{Fault}
use Rattle.reading.specs.declared.fault.Fault.TheVariants.{Truncated, NonCanonical, Unexpected, OutOfRange, OutsideAlphabet}

-- additional information with an argument in the bytes after it: how it is read, its bytes, and the least that needs so many
pub data Wide : ℕ → (List ℕ → ℕ → ℕ) → ℕ → ℕ → Type 0 where
  one_byte : Wide 24 be1 1 24
  two_bytes : Wide 25 be2 2 256
  four_bytes : Wide 26 be4 4 65536
  eight_bytes : Wide 27 be8 8 4294967296

-- the first byte taken apart
abbrev pub major_at : List ℕ → ℕ → ℕ
major_at s at = get_or s at 0 / 32

abbrev pub info_at : List ℕ → ℕ → ℕ
info_at s at = get_or s at 0 % 32

-- of a head
pub data HeadFault (s : List ℕ) (at : ℕ) : Fault → Type 0 where
  missing : length s ≤ at → HeadFault s at Truncated
  reserved : at < length s → 27 < info_at s at → HeadFault s at NonCanonical
  other_simple : at < length s → info_at s at ≤ 27 → major_at s at ≡ 7 → (info_at s at < 20) ⊎ (22 < info_at s at) → HeadFault s at Unexpected
  cut : {i : ℕ} {be : List ℕ → ℕ → ℕ} {width least : ℕ} → at < length s → (major_at s at ≡ 7 → ⊥) → info_at s at ≡ i → Wide i be width least → length s - at - 1 < width → HeadFault s at Truncated
  longer : {i : ℕ} {be : List ℕ → ℕ → ℕ} {width least : ℕ} → at < length s → (major_at s at ≡ 7 → ⊥) → info_at s at ≡ i → Wide i be width least → width ≤ length s - at - 1 → be s (at + 1) < least → HeadFault s at NonCanonical

-- of an item whose kind is due
pub data KindFault (due : ℕ) (s : List ℕ) (at : ℕ) : Fault → Type 0 where
  no_head : {f : Fault} → HeadFault s at f → KindFault due s at f
  other_kind : {h : Head} {n : ℕ} → read_head s at ≡ ok h n → (h.major ≡ due → ⊥) → KindFault due s at Unexpected

-- of an item whose number has to pass a test: it has the fault g where it is bad
pub data ItemFault (due : ℕ) (Bad : ℕ → Type 0) (g : Fault) (s : List ℕ) (at : ℕ) : Fault → Type 0 where
  no_item : {f : Fault} → KindFault due s at f → ItemFault due Bad g s at f
  bad : {v n : ℕ} → read_kind due s at ≡ ok v n → Bad v → ItemFault due Bad g s at g

-- 5: a number, and a list's length, over the limit
abbrev pub NumberFault : ℕ → List ℕ → ℕ → Fault → Type 0
NumberFault limit = ItemFault 0 (λ v. limit < v) OutOfRange

abbrev pub CountFault : ℕ → List ℕ → ℕ → Fault → Type 0
CountFault limit = ItemFault 4 (λ v. limit < v) OutOfRange

-- 4: another case, another field count, no bool
abbrev pub CaseFault : ℕ → List ℕ → ℕ → Fault → Type 0
CaseFault cases = ItemFault 0 (λ v. cases ≤ v) Unexpected

abbrev pub FieldsFault : ℕ → List ℕ → ℕ → Fault → Type 0
FieldsFault fields = ItemFault 4 (λ v. v ≡ fields → ⊥) Unexpected

abbrev pub BoolFault : List ℕ → ℕ → Fault → Type 0
BoolFault = ItemFault 7 (λ v. (v ≡ 20 → ⊥) × (v ≡ 21 → ⊥)) Unexpected

-- of the head of a data enum: 4 at an empty array; a fault of the case item is at that item
pub data TagFault (s : List ℕ) (at : ℕ) : Fault → ℕ → Type 0 where
  no_array : {f : Fault} → KindFault 4 s at f → TagFault s at f at
  empty_array : {n : ℕ} → read_kind 4 s at ≡ ok 0 n → TagFault s at Unexpected at
  no_case : {count n : ℕ} {f : Fault} → read_kind 4 s at ≡ ok count n → (count ≡ 0 → ⊥) → KindFault 0 s n f → TagFault s at f n

-- of a string
pub data TextFault (least : ℕ) (alphabet : ℕ → Bool) (s : List ℕ) (at : ℕ) : Fault → Type 0 where
  no_string : {f : Fault} → KindFault 3 s at f → TextFault least alphabet s at f
  other_length : {len n : ℕ} → read_kind 3 s at ≡ ok len n → (len < least) ⊎ (max_text < len) → TextFault least alphabet s at OutOfRange
  ends_early : {len n : ℕ} → read_kind 3 s at ≡ ok len n → least ≤ len → len ≤ max_text → length s - n < len → TextFault least alphabet s at Truncated
  other_byte : {len n : ℕ} → read_kind 3 s at ≡ ok len n → least ≤ len → len ≤ max_text → len ≤ length s - n → all alphabet (take len (drop n s)) ≡ false → TextFault least alphabet s at OutsideAlphabet
