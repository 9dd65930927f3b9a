-- The one encoding of a head, a string, a list, an option and a data enum's case; and what is within the limits.
use Rattle.std.specs.Prelude.{ℕ, ◌+◌, ◌*◌, ◌/◌, ◌%◌, ◌≤◌, ◌≡◌, List, [], ◌∷◌, ◌++◌, Bool, true, false, length, ltb}
use Rattle.std.proofs.Math.Option.{Option, none, some}
use Rattle.reading.specs.Read.{pick}
use Rattle.reading.specs.Limits.{max_text}
use Rattle.reading.specs.Text.{Name, all, name_byte, version_byte}

unfoldable pub put1 : ℕ → List ℕ
put1 v = v ∷ []

unfoldable pub put2 : ℕ → List ℕ
put2 v = put1 (v / 256) ++ put1 (v % 256)

unfoldable pub put4 : ℕ → List ℕ
put4 v = put2 (v / 65536) ++ put2 (v % 65536)

unfoldable pub put8 : ℕ → List ℕ
put8 v = put4 (v / 4294967296) ++ put4 (v % 4294967296)

-- the shortest head
unfoldable pub enc_head : ℕ → ℕ → List ℕ
enc_head major v =
    pick (ltb v 24) (put1 (major * 32 + v))
    (pick (ltb v 256) (put1 (major * 32 + 24) ++ put1 v)
    (pick (ltb v 65536) (put1 (major * 32 + 25) ++ put2 v)
    (pick (ltb v 4294967296) (put1 (major * 32 + 26) ++ put4 v)
    (put1 (major * 32 + 27) ++ put8 v))))

unfoldable pub enc_bool : Bool → List ℕ
enc_bool false = enc_head 7 20
enc_bool true = enc_head 7 21

unfoldable pub enc_text : Name → List ℕ
enc_text w = enc_head 3 (length w) ++ w

module _ {A : Type 0} (enc : A → List ℕ) where
  unfoldable pub enc_all : List A → List ℕ
  enc_all [] = []
  enc_all (x ∷ xs) = enc x ++ enc_all xs

  unfoldable pub enc_list : List A → List ℕ
  enc_list xs = enc_head 4 (length xs) ++ enc_all xs

  unfoldable pub enc_option : Option A → List ℕ
  enc_option none = put1 246
  enc_option (some x) = enc x

-- a record's array of as many fields
abbrev pub enc_record : ℕ → List ℕ → List ℕ
enc_record fields bytes = enc_head 4 fields ++ bytes

-- a data enum's array of as many items: the case number, then its fields
abbrev pub enc_case : ℕ → ℕ → List ℕ → List ℕ
enc_case items case fields = enc_head 4 items ++ enc_head 0 case ++ fields

infixr 40 ◌&◌
-- both
abbrev pub ◌&◌ : Type 0 → Type 0 → Type 0
A & B = A × B

pub record WithinText (least : ℕ) (alphabet : ℕ → Bool) (w : Name) : Type 0 where
  pub enough : least ≤ length w
  pub most : length w ≤ max_text
  pub each : all alphabet w ≡ true

abbrev pub WithinName : Name → Type 0
WithinName = WithinText 1 name_byte

abbrev pub WithinVersion : Name → Type 0
WithinVersion = WithinText 0 version_byte

-- of every entry
pub data All {A : Type 0} (P : A → Type 0) : List A → Type 0 where
  empty : All P []
  more : {x : A} {xs : List A} → P x → All P xs → All P (x ∷ xs)

pub record WithinList {A : Type 0} (limit : ℕ) (P : A → Type 0) (xs : List A) : Type 0 where
  pub most : length xs ≤ limit
  pub each : All P xs

unfoldable pub WithinOption : {A : Type 0} → (A → Type 0) → Option A → Type 0
WithinOption P none = Unit {0}
WithinOption P (some x) = P x
