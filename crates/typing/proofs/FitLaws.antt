-- A literal fits a width exactly when it is below that power of two.
use Prim.Native.Nat.{ℕ, ◌*◌, ◌%◌, ◌^◌, ◌<◌, ◌≤◌}
use mathlib.Core.Path.{◌≡◌, sym}
use mathlib.Core.Bool.{true}
use native.Mathlib.Omega.{arith}
use native.Mathlib.Nat.{mod-eq_of_lt, one-mul}
use lib.Dec.{ltb}
use lib.Pow.{pow_mono, pow-lt}
use borrow.Author.Tests.{lt-ltb}
use Rattle.typing.specs.Patterns.{fits}

pub fit_wide : (v w : ℕ) → v < 18446744073709551616 → 64 ≤ w → true ≡ fits v w
unfolding fits
fit_wide v w h k = sym (lt-ltb v (2 ^ w) (let m = pow_mono k in omega arith))

pub fit_narrow : (v w : ℕ) → w < 64 → ltb v ((1 * 2 ^ w) % 18446744073709551616) ≡ fits v w
unfolding fits
fit_narrow v w h = rw (one-mul (2 ^ w), mod-eq_of_lt (pow-lt h))
