-- How many turns of a counted loop are left.
use Prim.Native.Nat.{ℕ, ◌+◌, ◌-◌, ◌<◌, ◌≤◌}
use mathlib.Core.Path.{◌≡◌}
use native.Mathlib.Omega.{arith}

pub all_left : (n : ℕ) → n - 0 ≡ n
all_left n = omega arith

pub some_left : {n i : ℕ} → i < n → 0 < n - i
some_left h = omega arith

pub none_left : {n i : ℕ} → n ≤ i → n - i ≤ 0
none_left h = omega arith

pub fewer_left : (n i : ℕ) → n - (i + 1) ≡ n - i - 1
fewer_left n i = omega arith
