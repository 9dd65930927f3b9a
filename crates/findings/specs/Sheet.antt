-- What a walk that writes findings leaves in lent words. Finding number n goes to word 5 * (n - skip), where skip ≤ n and it fits
-- wholly: the whole list is the walk with skip 0, finding number k alone is the walk with skip k into five words, and counting is
-- the walk into no words.
use Rattle.std.specs.Prelude.{ℕ, suc, ◌+◌, ◌-◌, ◌*◌, ◌≡◌, List, [], ◌∷◌, ◌++◌, cond, length, leb}
use Rattle.std.proofs.lemmas.List.Edits.{sets}
use Rattle.findings.specs.Finding.{Finding, words}

unfoldable pub put_one : List ℕ → ℕ → ℕ → Finding → List ℕ
put_one o skip n f = cond (leb skip n) (cond (leb (5 * (n - skip) + 5) (length o)) (sets o (5 * (n - skip)) (words f)) o) o

unfoldable pub put : List ℕ → ℕ → ℕ → List Finding → List ℕ
put o skip n [] = o
put o skip n (f ∷ fs) = put (put_one o skip n f) skip (suc n) fs

-- the findings fs, the first of them number n, were written: r is the next number, and o' what the words are now
pub record Written (o : List ℕ) (skip n : ℕ) (fs : List Finding) (r : ℕ) (o' : List ℕ) : Type 0 where
  pub count : r ≡ n + length fs
  pub buffer : o' ≡ put o skip n fs

-- the words of findings, one after another
unfoldable pub flat : List Finding → List ℕ
flat [] = []
flat (f ∷ fs) = words f ++ flat fs
