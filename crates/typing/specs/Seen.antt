-- A guard's equalities in one pass: those seen so far, one of each name, stand in a table as pairs of the place of a name and its value.
use Rattle.std.specs.Prelude.{ℕ, zero, suc, ◌+◌, ◌*◌, ◌≡◌, List, [], ◌∷◌, ◌++◌, get_or, Option as Maybe, Result, Ok, Err}
use Rattle.std.proofs.Math.Option.{Option, none, some}
use Rattle.reading.specs.Read.{ok}
use Rattle.reading.specs.Expr.{Expr, read_expr}
use Rattle.reading.specs.Skip.{text_at}
use Rattle.typing.specs.Names.{first_called}
use Rattle.typing.specs.Lanes.{Laned}
use Rattle.typing.specs.Guards as guards
use Rattle.typing.specs.Guards.{against, contradictory_equalities}
use Rattle.typing.specs.Equalities.{name_in, listed, equalities_of, equality_of}
use Rattle.typing.specs.declared.equality.Equality.{Equality}
use Rattle.typing.specs.declared.seen.Stop.{Stop}
use Rattle.typing.specs.declared.seen.Stop.TheVariants.{Clash, Full}

-- an equality by the place of its name
abbrev pub placed : List ℕ → ℕ → ℕ → guards.Equality
placed s n v = record { name = text_at s n; value = v }

-- those of the first k pairs, the last pair first
unfoldable pub seen_in : List ℕ → List ℕ → ℕ → List guards.Equality
seen_in s table zero = []
seen_in s table (suc k) = placed s (get_or table (2 * k) 0) (get_or table (2 * k + 1) 0) ∷ seen_in s table k

-- clashes, over the equalities among the conjuncts
unfoldable pub clashing : List guards.Equality → List guards.Equality → Option guards.Clash
clashing seen [] = none
clashing seen (e ∷ es) = against (λ now. clashing now es) seen e (first_called name_in e.name seen)

-- a table of 4,096 pairs, with the first k on their lanes
abbrev pub Room : List ℕ → List ℕ → ℕ → List ℕ → List ℕ → Type 0
Room = Laned 4096

-- pair k is put
pub record Adds (s : List ℕ) (n v : ℕ) (table : List ℕ) (k : ℕ) (table' heads links : List ℕ) : Type 0 where
  pub room : Room s table' (k + 1) heads links
  pub seen : seen_in s table' (k + 1) ≡ placed s n v ∷ seen_in s table k

-- how many pairs the table has, or why the pass ends early
abbrev pub Seen : Type 0
Seen = Result ℕ Stop

-- the table can be used on, with as many pairs
unfoldable pub Kept : List ℕ → Seen → List ℕ → List ℕ → List ℕ → Type 0
Kept s (Ok m) table heads links = Room s table m heads links
Kept s (Err e) table heads links = Unit {0}

-- what some equalities leave of the search: it goes on with those in the table, or ends with a clash
unfoldable pub Leaves : List ℕ → List guards.Equality → List guards.Equality → Seen → List ℕ → Type 0
Leaves s seen es (Ok m) table = (rest : List guards.Equality) → clashing seen (es ++ rest) ≡ clashing (seen_in s table m) rest
Leaves s seen es (Err (Clash c)) table = (rest : List guards.Equality) → clashing seen (es ++ rest) ≡ some (record { name = text_at s c.name; earlier = c.earlier; later = c.later })
Leaves s seen es (Err Full) table = Unit {0}

-- an equality at most, an expression and two of them: right before left
pub record NotesEquality (s : List ℕ) (q : Maybe Equality) (table : List ℕ) (k : ℕ) (r : Seen) (table' heads links : List ℕ) : Type 0 where
  pub kept : Kept s r table' heads links
  pub leaves : Leaves s (seen_in s table k) (listed (equality_of s q)) r table'

pub record NotesConjuncts (d : ℕ) (s : List ℕ) (at : ℕ) (table : List ℕ) (k : ℕ) (r : Seen) (table' heads links : List ℕ) : Type 0 where
  pub kept : Kept s r table' heads links
  pub of : (e : Expr) (n : ℕ) → read_expr d s at ≡ ok e n → Leaves s (seen_in s table k) (equalities_of e) r table'

pub record NotesTwo (d : ℕ) (s : List ℕ) (at : ℕ) (table : List ℕ) (k : ℕ) (r : Seen) (table' heads links : List ℕ) : Type 0 where
  pub kept : Kept s r table' heads links
  pub of : (a : Expr) (j : ℕ) (b : Expr) (n : ℕ) → read_expr d s at ≡ ok a j → read_expr d s j ≡ ok b n → Leaves s (seen_in s table k) (equalities_of b ++ equalities_of a) r table'

-- a guard, where the table has room for its names
unfoldable pub Answers : List ℕ → Option guards.Clash → Seen → Type 0
Answers s c (Ok m) = c ≡ none
Answers s c (Err (Clash x)) = c ≡ some (record { name = text_at s x.name; earlier = x.earlier; later = x.later })
Answers s c (Err Full) = Unit {0}

pub record OnePass (d : ℕ) (s : List ℕ) (at : ℕ) (r : Seen) : Type 0 where
  pub of : (e : Expr) (n : ℕ) → read_expr d s at ≡ ok e n → Answers s (contradictory_equalities e) r
