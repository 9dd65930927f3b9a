-- What is left of the string decides.
use Prim.Native.Nat.{◌≤◌}
use mathlib.Core.Path.{◌≡◌}
use lib.ListN.{length, drop}
use Rattle.typing.specs.Version.{is_valid_version_format, run}
use Rattle.typing.proofs.version.is_valid_version_format.Given as goal

abbrev pub invariant-loop-b : goal.invariant-loop-b
invariant-loop-b l = (l.b-index ≤ length l.v) × (run l.state (drop l.b-index l.v) ≡ is_valid_version_format l.v)
