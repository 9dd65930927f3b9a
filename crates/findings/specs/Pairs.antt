-- Pairs of transitions that share state and pattern: sites 14, 15 and 24.
use Rattle.std.specs.Prelude.{ℕ, List, [], ◌++◌, map, Bool, true, false, cond, not, ◌&&◌, eqb, length}
use Rattle.std.proofs.Math.Option.{Option, none, some}
use Rattle.reading.specs.Text.{Name}
use Rattle.reading.specs.Encode.{enc_option}
use Rattle.reading.specs.Expr.{enc_expr}
use Rattle.reading.specs.Pattern.{enc_pattern}
use Rattle.reading.specs.Transition.{Transition}
use Rattle.typing.specs.Names.{eq_name}
use Rattle.findings.specs.Lists.{Placed, placed, each, each_pair}
use Rattle.findings.specs.Finding.{Note, note, noted}
use Rattle.findings.specs.Order.{ordered}

-- "equal given priorities"
unfoldable pub equal_priority : Option ℕ → Option ℕ → Bool
equal_priority none none = false
equal_priority none (some b) = false
equal_priority (some a) none = false
equal_priority (some a) (some b) = eqb a b

-- "without priorities"
unfoldable pub no_priority : Option ℕ → Option ℕ → Bool
no_priority none none = true
no_priority none (some b) = false
no_priority (some a) none = false
no_priority (some a) (some b) = false

-- "Equal patterns or guards are equal bytes"
unfoldable pub same_pattern : Transition → Transition → Bool
same_pattern t u = eq_name (enc_pattern t.pattern) (enc_pattern u.pattern)

unfoldable pub same_guard : Transition → Transition → Bool
same_guard t u = eq_name (enc_option enc_expr t.guard) (enc_option enc_expr u.guard)

-- "Pairs share state and pattern"
unfoldable pub alike : Transition → Transition → Bool
alike t u = eq_name t.state u.state && same_pattern t u

-- site 14, and 15: "without priorities 15 for equal guards"
unfoldable pub clash : Placed Transition → Placed Transition → List Note
clash x y =
    noted (alike x.item y.item && equal_priority x.item.priority y.item.priority) (note 14 x.place y.place 0)
    ++ noted (alike x.item y.item && no_priority x.item.priority y.item.priority && same_guard x.item y.item) (note 15 x.place y.place 0)

-- "24 for others"
unfoldable pub ambiguous : Placed Transition → Placed Transition → List Note
ambiguous x y =
    noted (alike x.item y.item && no_priority x.item.priority y.item.priority && not (same_guard x.item y.item)) (note 24 x.place y.place 0)

abbrev pub state_of : Transition → Name
state_of t = t.state

unfoldable pub state_names : List Transition → List Name
state_names ts = ordered (length ts) (map state_of ts)

-- "by state name in byte order, pairs of places"; s is the state name whose turn it is
unfoldable pub by_state : (Placed Transition → Placed Transition → List Note) → List Transition → List Note
by_state f ts = each (λ s. each_pair (λ x y. cond (eq_name s x.item.state) (f x y) []) (placed 0 ts)) (state_names ts)
