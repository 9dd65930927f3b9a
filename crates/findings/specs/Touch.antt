-- What the walk over mentioned names promises: for whatever reads there, the variables of the names in it are marked.
use Rattle.std.specs.Prelude.{ℕ, ◌+◌, ◌*◌, ◌/◌, ◌<◌, ◌≤◌, ◌≡◌, List, [], ◌∷◌, map, Bool, true, false, cond, length, get_or, take, eqb}
use Rattle.std.proofs.Math.Option.{Option, none, some}
use Rattle.std.proofs.Math.ListN.{get_elem?}
use Rattle.reading.specs.Read.{Reader, ok, pick}
use Rattle.reading.specs.Limits.{max_list}
use Rattle.reading.specs.Item.{read_case}
use Rattle.reading.specs.Text.{Name}
use Rattle.reading.specs.Expr.{Expr, unary_ops, bin_ops, unary, binary, read_expr}
use Rattle.reading.specs.Combine.{list_of, optional}
use Rattle.reading.specs.Decl.{VarDecl, read_var_decl}
use Rattle.reading.specs.Transition.{OutputExpr, Assignment, Transition, read_top_expr, read_output_expr, read_assignment}
use Rattle.reading.specs.Module.{Module}
use Rattle.reading.specs.Skip.{text_at}
use Rattle.typing.specs.Names.{eq_name, member}
use Rattle.typing.specs.Env.{given}
use Rattle.typing.specs.Table.{find_first}
use Rattle.typing.specs.Lanes.{Laned}
use Rattle.findings.specs.Lists.{each}
use Rattle.findings.specs.Mentions.{collect_names, emit_names, touched, all_touched}
use Rattle.findings.specs.Warnings.{unused}
use Rattle.findings.specs.Noting.{Noted}
use Rattle.findings.specs.Scene.{Reads, RowAt, Rows, Scene}

-- the name of variable k, by a table of the variables, two words each: the first is the place of the name
abbrev pub var_at : List ℕ → List ℕ → ℕ → Name
var_at s names k = text_at s (get_or names (2 * k) 0)

-- the names ns are mentioned: the variables of these names are marked, and the others keep their marks
pub record Touched (s names m : List ℕ) (ns : List Name) (m' : List ℕ) : Type 0 where
  pub size : length m' ≡ length m
  pub at : (k : ℕ) → k < length names / 2 → k < length m → get_or m' k 0 ≡ cond (member (var_at s names k) ns) 1 (get_or m k 0)

-- the same of one variable, whose name stands at a place
pub record VarTouched (s : List ℕ) (key : ℕ) (w : Name) (k : ℕ) (m m' : List ℕ) : Type 0 where
  pub size : length m' ≡ length m
  pub here : k < length m → get_or m' k 0 ≡ cond (eq_name w (text_at s key)) 1 (get_or m k 0)
  pub other : (j : ℕ) → (j ≡ k → ⊥) → get_or m' j 0 ≡ get_or m j 0

-- what reads at a place, whose names are f of it; r is the place after it
pub record Touches {A : Type 0} (F : Reader A) (f : A → List Name) (s : List ℕ) (at : ℕ) (names m : List ℕ) (r : ℕ) (m' : List ℕ) : Type 0 where
  pub end : (x : A) (n : ℕ) → F s at ≡ ok x n → r ≡ n
  pub of : (x : A) (n : ℕ) → F s at ≡ ok x n → Touched s names m (f x) m'

-- an output's arguments, an output and outputs, a set and sets
abbrev pub arg_names : List Expr → List Name
arg_names = each collect_names

abbrev pub output_names : OutputExpr → List Name
output_names o = arg_names o.args

abbrev pub set_name : Assignment → List Name
set_name a = a.var ∷ []

abbrev pub set_names : List Assignment → List Name
set_names xs = map (λ (a : Assignment). a.var) xs

module _ (s : List ℕ) (at : ℕ) (names m : List ℕ) (r : ℕ) (m' : List ℕ) where
  abbrev pub TouchesExpr : ℕ → Type 0
  TouchesExpr d = Touches (read_expr d) collect_names s at names m r m'

  abbrev pub TouchesArgs : Type 0
  TouchesArgs = Touches (list_of max_list read_top_expr) arg_names s at names m r m'

  abbrev pub TouchesOutput : Type 0
  TouchesOutput = Touches read_output_expr output_names s at names m r m'

  abbrev pub TouchesEmits : Type 0
  TouchesEmits = Touches (list_of max_list read_output_expr) emit_names s at names m r m'

  abbrev pub TouchesSet : Type 0
  TouchesSet = Touches read_assignment set_name s at names m r m'

  abbrev pub TouchesSets : Type 0
  TouchesSets = Touches (list_of max_list read_assignment) set_names s at names m r m'

  -- the fields of a unary and of a binary expression
  pub record TouchesUnary (d : ℕ) : Type 0 where
    pub end : (op k : ℕ) (e : Expr) (n : ℕ) → read_case unary_ops s at ≡ ok op k → read_expr d s k ≡ ok e n → r ≡ n
    pub of : (op k : ℕ) (e : Expr) (n : ℕ) → read_case unary_ops s at ≡ ok op k → read_expr d s k ≡ ok e n → Touched s names m (collect_names (unary op e)) m'

  pub record TouchesBinary (d : ℕ) : Type 0 where
    pub end : (op k : ℕ) (a : Expr) (j : ℕ) (b : Expr) (n : ℕ) → read_case bin_ops s at ≡ ok op k → read_expr d s k ≡ ok a j → read_expr d s j ≡ ok b n → r ≡ n
    pub of : (op k : ℕ) (a : Expr) (j : ℕ) (b : Expr) (n : ℕ) → read_case bin_ops s at ≡ ok op k → read_expr d s k ≡ ok a j → read_expr d s j ≡ ok b n → Touched s names m (collect_names (binary op a b)) m'

-- what may be absent
pub record Mentions {A : Type 0} (F : Reader A) (f : Option A → List Name) (s : List ℕ) (at : ℕ) (names m m' : List ℕ) : Type 0 where
  pub of : (x : Option A) → Reads (optional F) s at x → Touched s names m (f x) m'

-- every variable of a table is marked
pub record AllMarked (names m : List ℕ) (r : Bool) : Type 0 where
  pub of : r ≡ true → (k : ℕ) → k < length names / 2 → get_or m k 0 ≡ 1

-- a transition by its row, all transitions, and a module
module _ (s rows names m m' : List ℕ) where
  pub record TouchesRow (i : ℕ) : Type 0 where
    pub of : (t : Transition) → RowAt s rows i t → Touched s names m (touched t) m'

  pub record TouchesRows (count : ℕ) : Type 0 where
    pub of : (ts : List Transition) → Rows s rows ts → count ≡ length ts → Touched s names m (each touched ts) m'

  pub record TouchesAll (places : List ℕ) (count : ℕ) : Type 0 where
    pub of : (x : Module) → Scene s places x → Rows s rows x.transitions → count ≡ length x.transitions → Touched s names m (all_touched x) m'

-- m names on their lanes, each with its number
pub record Numbered (s once : List ℕ) (m : ℕ) (heads links : List ℕ) : Type 0 where
  pub laned : Laned 255 s once m heads links
  pub number : (j : ℕ) → j < m → get_or once (2 * j + 1) 0 ≡ j

-- the name at a place is put after the first m where it is none of them; r is how many there are then
pub record GathersName (s : List ℕ) (at : ℕ) (once : List ℕ) (m r : ℕ) (once' heads links : List ℕ) : Type 0 where
  pub numbered : Numbered s once' r heads links
  pub has : (w : Name) → given (find_first s w once' r) ≡ pick (eq_name (text_at s at) w) true (given (find_first s w once m))

-- the names of the first k variables of a table are among m names
pub record Gathered (s names : List ℕ) (k : ℕ) (once : List ℕ) (m : ℕ) (heads links : List ℕ) : Type 0 where
  pub numbered : Numbered s once m heads links
  pub has : (j : ℕ) → j < k → given (find_first s (var_at s names j) once m) ≡ true

-- whether a name that has a number is marked
unfoldable pub own_mark : List ℕ → Option ℕ → Bool
own_mark own none = false
own_mark own (some j) = eqb (get_or own j 0) 1

-- the first k variables of a table are marked where their names are, and the others keep their marks
pub record HandedOn (s names : List ℕ) (k : ℕ) (once : List ℕ) (m : ℕ) (own marks marks' : List ℕ) : Type 0 where
  pub size : length marks' ≡ length marks
  pub at : (j : ℕ) → j < k → j < length marks → get_or marks' j 0 ≡ cond (own_mark own (find_first s (var_at s names j) once m)) 1 (get_or marks j 0)
  pub other : (j : ℕ) → k ≤ j → get_or marks' j 0 ≡ get_or marks j 0

-- the names of the variables are those of a table
pub record Vars (s names : List ℕ) (vs : List VarDecl) : Type 0 where
  pub room : length names ≡ 2 * length vs
  pub at : (k : ℕ) (v : VarDecl) → get_elem? vs k ≡ some v → var_at s names k ≡ v.name

-- the first words of a table are those of the variables of a list
pub record VarsFilled (s : List ℕ) (at words : ℕ) (table : List ℕ) : Type 0 where
  pub room : words ≤ length table
  pub of : (vs : List VarDecl) → Reads (list_of max_list read_var_decl) s at vs → Vars s (take words table) vs

-- the marks of variables: 1 where the name is used
pub record Marked (marks : List ℕ) (used : List Name) (vs : List VarDecl) : Type 0 where
  pub at : (k : ℕ) (v : VarDecl) → get_elem? vs k ≡ some v → get_or marks k 0 ≡ cond (member v.name used) 1 0

-- how many variables a module has, and their marks
pub record MarksUsed (s places rows : List ℕ) (count r : ℕ) (m : List ℕ) : Type 0 where
  pub many : (x : Module) → Scene s places x → r ≡ length x.vars
  pub of : (x : Module) → Scene s places x → Rows s rows x.transitions → count ≡ length x.transitions → Marked m (all_touched x) x.vars

pub record NotesUnmarked (owner : ℕ) (o : List ℕ) (skip n r : ℕ) (o' : List ℕ) (marks : List ℕ) (count : ℕ) : Type 0 where
  pub of : (used : List Name) (vs : List VarDecl) → Marked marks used vs → count ≡ length vs → Noted owner o skip n (unused used vs) r o'
