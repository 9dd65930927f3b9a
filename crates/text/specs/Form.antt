-- Texts as lists of bytes, and Rust's `format!`.
use Rattle.std.specs.Prelude.{ℕ, ◌+◌, ◌-◌, ◌<◌, ◌≤◌, Bool, true, false, cond, List, [], ◌∷◌, ◌++◌, ◌≡◌, length, take, drop, get_or, eqb}
use Prim.Native.Char.{code}
use Prim.Native.String.{String, [] as []ˢ, ◌∷◌ as ◌∷ˢ◌}

-- the bytes of an ASCII text
abbrev pub text : String → List ℕ
text []ˢ = []
text (c ∷ˢ s) = code c ∷ text s

-- the next argument, and those after it
abbrev pub next : List (List ℕ) → List ℕ
next [] = []
next (a ∷ as') = a

abbrev pub rest : List (List ℕ) → List (List ℕ)
rest [] = []
rest (a ∷ as') = as'

-- the form with its arguments in their places: `{` is the next argument, `}` is nothing, any other byte is itself
unfoldable pub format : List ℕ → List (List ℕ) → List ℕ
format [] as' = []
format (c ∷ t) as' =
    cond (eqb c 123) (next as' ++ format t (rest as')) (cond (eqb c 125) (format t as') (c ∷ format t as'))

-- no byte of a text is a brace
abbrev pub plain : List ℕ → Bool
plain [] = true
plain (c ∷ p) = cond (eqb c 123) false (cond (eqb c 125) false (plain p))

-- from place i to place r a form has no brace
pub record Plain (t : List ℕ) (i r : ℕ) : Type 0 where
  pub formed : (as' : List (List ℕ)) → format (drop i t) as' ≡ take (r - i) (drop i t) ++ format (drop r t) as'

-- and r is the place of one, or the end
pub record PlainTo (t : List ℕ) (i r : ℕ) : Type 0 where
  pub from : i ≤ r
  pub within : r ≤ length t
  pub plain : Plain t i r
  pub brace : r < length t → (get_or t r 0 ≡ 123 → ⊥) → get_or t r 0 ≡ 125

-- b says whether argument number n of five stands at place j
pub record Opens (t : List ℕ) (j n : ℕ) (b : Bool) : Type 0 where
  pub few : b ≡ true → n < 5
  pub inside : b ≡ true → j < length t
  pub brace : b ≡ true → get_or t j 0 ≡ 123
  pub none : b ≡ false → j < length t → get_or t j 0 ≡ 123 → 5 ≤ n

-- the place after the brace at place j, or the end
abbrev pub beyond : List ℕ → ℕ → ℕ
beyond t j = j + 1 - (j + 1 - length t)

-- `format!` with a form in Rust's words
abbrev pub say : String → List (List ℕ) → List ℕ
say s as' = format (text s) as'
