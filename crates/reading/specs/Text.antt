-- Strings: refusals 2, 5 and 6.
use Rattle.std.specs.Prelude.{ℕ, ◌+◌, ◌-◌, List, [], ◌∷◌, Bool, true, false, length, take, drop, ltb, eqb}
use Rattle.reading.specs.Read.{Read, Reader, ok, refused, pick, bind}
use Rattle.reading.specs.Limits.{max_text}
use Rattle.reading.specs.Item.{read_kind}
use Rattle.reading.specs.declared.fault.Fault.TheVariants.{Truncated, OutOfRange, OutsideAlphabet}

-- a name or a version string: its bytes
abbrev pub Name : Type 0
Name = List ℕ

unfoldable pub all : (ℕ → Bool) → List ℕ → Bool
all p [] = true
all p (x ∷ xs) = pick (p x) (all p xs) false

-- an ASCII digit, capital letter, underscore or small letter: a ladder of bounds, each above the one before
unfoldable pub name_byte : ℕ → Bool
name_byte b =
    pick (ltb b 48) false (pick (ltb b 58) true
    (pick (ltb b 65) false (pick (ltb b 91) true
    (pick (eqb b 95) true
    (pick (ltb b 97) false (ltb b 123))))))

-- a byte of a version string: 32 to 126
unfoldable pub version_byte : ℕ → Bool
version_byte b = pick (ltb b 32) false (ltb b 127)

-- the string's bytes, after its head
unfoldable pub text_bytes : (ℕ → Bool) → List ℕ → ℕ → ℕ → ℕ → Read Name
text_bytes alphabet s at len n =
    pick (ltb (length s - n) len) (refused Truncated at)
    (pick (all alphabet (take len (drop n s))) (ok (take len (drop n s)) (n + len)) (refused OutsideAlphabet at))

-- a string of least to 64 bytes of the alphabet
unfoldable pub read_text : ℕ → (ℕ → Bool) → Reader Name
read_text least alphabet s at =
    bind (read_kind 3 s at) λ len n.
    pick (ltb len least) (refused OutOfRange at)
    (pick (ltb max_text len) (refused OutOfRange at) (text_bytes alphabet s at len n))

unfoldable pub read_name : Reader Name
read_name = read_text 1 name_byte

unfoldable pub read_version : Reader Name
read_version = read_text 0 version_byte
