-- What the code of each part of a module's errors promises: for whatever reads there, it notes what the definition says.
use Rattle.std.specs.Prelude.{ℕ, ◌+◌, ◌*◌, ◌≤◌, ◌≡◌, List, ◌++◌, map, Bool, length, get_or, take, Option as Maybe}
use Rattle.std.proofs.Math.Option.{Option, some}
use Rattle.std.proofs.Math.ListN.{get_elem?}
use Rattle.reading.specs.Read.{ok}
use Rattle.reading.specs.Limits.{max_depth, max_list}
use Rattle.reading.specs.Text.{Name, read_name, read_version}
use Rattle.reading.specs.Combine.{list_of, optional}
use Rattle.reading.specs.Expr.{Expr, read_expr}
use Rattle.reading.specs.Decl.{EnumDecl, ConstructorGroup, VarDecl, read_enum_decl, read_var_decl}
use Rattle.reading.specs.Transition.{OutputExpr, Assignment, OnError, Transition, read_top_expr, read_output_expr, read_assignment, read_on_error}
use Rattle.reading.specs.Formula.{Formula, read_formula}
use Rattle.reading.specs.Module.{Property, Module, read_property}
use Rattle.reading.specs.Skip.{text_at}
use Rattle.typing.specs.Causes.{Answer, cause_word}
use Rattle.typing.specs.Names.{member, first_called, state_enum}
use Rattle.typing.specs.Env.{Env, given, for_module, with_bindings, Agree}
use Rattle.typing.specs.Patterns.{validate_event_pattern}
use Rattle.typing.specs.Typing.{type_expr}
use Rattle.typing.specs.Outputs.{validate_output_expr}
use Rattle.typing.specs.Formulas.{type_formula, bounded_always_error}
use Rattle.typing.specs.Table.{find_first}
use Rattle.typing.specs.Blocks.{find_in, env_at}
use Rattle.typing.specs.Means.{typed_of, outcome, blame_of, Typed}
use Rattle.findings.specs.declared.transition.Judged.{Judged}
use Rattle.findings.specs.Lists.{Placed, placed, each}
use Rattle.findings.specs.Finding.{Note, note, noted, caused, blamed, type_cause}
use Rattle.typing.specs.First.{enum_name}
use Rattle.typing.specs.Rolls.{OutputsAt}
use Rattle.typing.specs.Lanes.{print}
use Rattle.findings.specs.Mentions.{enum_variants, states}
use Rattle.findings.specs.Errors.{unknown_state, is_empty, initial_notes, version_notes, init_notes, opening, guard_notes, set_notes, emit_notes, body_notes, own, error_emit_notes, on_error_notes, property_name, repeat_notes, formula_notes}
use Rattle.findings.specs.Noting.{Noted, numbered}
use Rattle.findings.specs.Scene.{Bytes, Reads, RowAt, Rows, Scene, StatesAt}
use Rattle.findings.specs.Prints.{PrintOf, Prints}
use Rattle.findings.specs.Variants.{Variants}

-- an entry with its place
abbrev pub at_place : {A : Type 0} → ℕ → A → Placed A
at_place i x = record { place = i; item = x }

-- the variables that a table knows are those of the environment
pub record Known (s vars : List ℕ) (env : Env) : Type 0 where
  pub of : (w : Name) → given (env.vars w) ≡ given (find_in s w vars)

-- the pattern of transition i: what is wrong with it, and the names with those that it binds, if the first block of the table has the
-- module's variables
pub record JudgesOwn (s places rows : List ℕ) (i : ℕ) (table : List ℕ) (r : Judged) (table' : List ℕ) : Type 0 where
  pub fault : (m : Module) (t : Transition) → Scene s places m → RowAt s rows i t → blame_of s r.blame ≡ (validate_event_pattern m.events t.pattern).fault
  pub bound : (m : Module) (t : Transition) (enums : List ℕ) → Scene s places m → RowAt s rows i t → Agree (env_at s (take 829 table) enums) (for_module m) → Agree (env_at s (take r.names table') enums) (with_bindings (validate_event_pattern m.events t.pattern).bound (for_module m))

-- the first enum called State, in the list of enums at a place
pub record FirstStates (s : List ℕ) (at : ℕ) (r : Maybe ℕ) : Type 0 where
  pub of : (es : List EnumDecl) → Reads (list_of max_list read_enum_decl) s at es → StatesAt s r (enum_variants (first_called enum_name state_enum es))

-- whether the name at a place is a State variant, and whether there are none
pub record IsState (s : List ℕ) (found : Maybe ℕ) (at : ℕ) (r : Bool) : Type 0 where
  pub of : (vs : List Name) → StatesAt s found vs → r ≡ member (text_at s at) vs

pub record NoStates (s : List ℕ) (found : Maybe ℕ) (r : Bool) : Type 0 where
  pub of : (vs : List Name) → StatesAt s found vs → r ≡ is_empty vs

-- the number of why an expression has no type: 0 where it has one
pub record TypedNumber (s : List ℕ) (t : Typed) (r : ℕ) : Type 0 where
  pub of : (a : Answer) (k : ℕ) → typed_of s t ≡ outcome k a → r ≡ cause_word (type_cause a)

-- where the first value of the variable at a place stands
pub record InitAt (s : List ℕ) (at r : ℕ) : Type 0 where
  pub of : (v : VarDecl) (n : ℕ) → read_var_decl s at ≡ ok v n → read_expr max_depth s r ≡ ok v.init n

-- below, finding number n is the next one, and o the words before: r and o' are those after
module _ (s : List ℕ) (owner : ℕ) (o : List ℕ) (skip n r : ℕ) (o' : List ℕ) where
  abbrev Notes : List Note → Type 0
  Notes xs = Noted owner o skip n xs r o'

  -- the expression at a place, with the words that its note has
  pub record NotesTyped (at : ℕ) (names enums : List ℕ) (site first second : ℕ) : Type 0 where
    pub of : (e : Expr) (env : Env) → Reads read_top_expr s at e → Agree (env_at s names enums) env → Notes (caused (λ c. note site first second c) (type_cause (type_expr env e)))

  -- the name at a place, where it is no State variant
  pub record NotesState (found : Maybe ℕ) (at site first : ℕ) : Type 0 where
    pub of : (vs : List Name) (w : Name) → StatesAt s found vs → text_at s at ≡ w → Notes (unknown_state vs w (note site first 0 0))

  -- the same by the table of the State variants, of a name that has the print p
  pub record NotesVariant (variants : List ℕ) (at p site first : ℕ) : Type 0 where
    pub of : (vs : List Name) (w : Name) → Variants s variants vs → text_at s at ≡ w → p ≡ print 0 w → Notes (unknown_state vs w (note site first 0 0))

  pub record NotesInitial (found : Maybe ℕ) (at : ℕ) (moves : Bool) : Type 0 where
    pub of : (vs : List Name) (w : Option Name) → StatesAt s found vs → Reads (optional read_name) s at w → Notes (initial_notes vs w moves)

  pub record NotesVersion (at : ℕ) : Type 0 where
    pub of : (w : Option Name) → Reads (optional read_version) s at w → Notes (version_notes w)

  pub record NotesInits (at : ℕ) (names enums : List ℕ) : Type 0 where
    pub of : (vs : List VarDecl) (env : Env) → Reads (list_of max_list read_var_decl) s at vs → Agree (env_at s names enums) env → Notes (each (init_notes env) (placed 0 vs))

  -- sites 1 to 5
  pub record NotesOpening (places : List ℕ) (found : Maybe ℕ) (moves : Bool) (names enums : List ℕ) : Type 0 where
    pub of : (m : Module) → Scene s places m → StatesAt s found (states m) → Agree (env_at s names enums) (for_module m) → Notes (opening m moves)

  -- of transition i: its guard; a set and the sets; an emit and the emits; sites 9 to 13; sites 6 to 13
  pub record NotesGuard (at i : ℕ) (names enums : List ℕ) : Type 0 where
    pub of : (g : Option Expr) (env : Env) → Reads (optional read_top_expr) s at g → Agree (env_at s names enums) env → Notes (guard_notes env i g)

  pub record NotesSet (at i j : ℕ) (vars names enums : List ℕ) : Type 0 where
    pub of : (a : Assignment) (env : Env) → Reads read_assignment s at a → Agree (env_at s names enums) env → Known s vars env → Notes (set_notes env i (at_place j a))

  pub record NotesSets (at i : ℕ) (vars names enums : List ℕ) : Type 0 where
    pub of : (xs : List Assignment) (env : Env) → Reads (list_of max_list read_assignment) s at xs → Agree (env_at s names enums) env → Known s vars env → Notes (each (set_notes env i) (placed 0 xs))

  -- an output, with the words that its note has
  pub record NotesOutput (at : ℕ) (outputs names enums : List ℕ) (site first second : ℕ) : Type 0 where
    pub of : (x : OutputExpr) (gs : List ConstructorGroup) (env : Env) → Reads read_output_expr s at x → OutputsAt s outputs gs → Agree (env_at s names enums) env → Notes (blamed (λ c. note site first second c) (validate_output_expr gs env x))

  pub record NotesEmits (at i : ℕ) (outputs names enums : List ℕ) : Type 0 where
    pub of : (xs : List OutputExpr) (gs : List ConstructorGroup) (env : Env) → Reads (list_of max_list read_output_expr) s at xs → OutputsAt s outputs gs → Agree (env_at s names enums) env → Notes (each (emit_notes env gs i) (placed 0 xs))

  pub record NotesBody (rows : List ℕ) (i : ℕ) (outputs vars names enums : List ℕ) : Type 0 where
    pub of : (t : Transition) (gs : List ConstructorGroup) (env : Env) → RowAt s rows i t → OutputsAt s outputs gs → Agree (env_at s names enums) env → Known s vars env → Notes (body_notes env gs (at_place i t))

  -- sites 6 to 8, by the number of what is wrong with the pattern
  pub record NotesHeads (rows prints : List ℕ) (i : ℕ) (variants : List ℕ) (cause : ℕ) : Type 0 where
    pub of : (vs : List Name) (t : Transition) → RowAt s rows i t → PrintOf prints i t → Variants s variants vs → Notes (unknown_state vs t.state (note 6 i 0 0) ++ unknown_state vs t.next_state (note 7 i 0 0) ++ numbered 8 i 0 cause)

  -- sites 6 to 13, by that number and by the names that the pattern binds too
  pub record NotesJudged (places rows prints : List ℕ) (i : ℕ) (variants : List ℕ) (cause : ℕ) (vars names enums : List ℕ) : Type 0 where
    pub of : (m : Module) (t : Transition) (env : Env) → Scene s places m → RowAt s rows i t → PrintOf prints i t → Variants s variants (states m) → Agree (env_at s names enums) env → Known s vars env → Notes (unknown_state (states m) t.state (note 6 i 0 0) ++ unknown_state (states m) t.next_state (note 7 i 0 0) ++ numbered 8 i 0 cause ++ body_notes env m.outputs (at_place i t))

  -- the first k words of the table are the module's variables
  pub record NotesTransition (places rows prints : List ℕ) (i : ℕ) (variants table : List ℕ) (k : ℕ) (enums : List ℕ) : Type 0 where
    pub of : (m : Module) (t : Transition) → Scene s places m → RowAt s rows i t → PrintOf prints i t → Variants s variants (states m) → Agree (env_at s (take k table) enums) (for_module m) → Notes (own m (at_place i t))

  pub record NotesTransitions (places rows prints : List ℕ) (count : ℕ) (variants table : List ℕ) (k : ℕ) (enums : List ℕ) : Type 0 where
    pub of : (m : Module) → Scene s places m → Rows s rows m.transitions → Prints prints m.transitions → count ≡ length m.transitions → Variants s variants (states m) → Agree (env_at s (take k table) enums) (for_module m) → Notes (each (own m) (placed 0 m.transitions))

  -- the same where the State variants stand at a place
  pub record NotesMoves (places rows prints : List ℕ) (count : ℕ) (found : Maybe ℕ) (table : List ℕ) (k : ℕ) (enums : List ℕ) : Type 0 where
    pub of : (m : Module) → Scene s places m → Rows s rows m.transitions → Prints prints m.transitions → count ≡ length m.transitions → StatesAt s found (states m) → Agree (env_at s (take k table) enums) (for_module m) → Notes (each (own m) (placed 0 m.transitions))

  -- sites 16 and 17
  pub record NotesErrorEmits (at : ℕ) (outputs names enums : List ℕ) : Type 0 where
    pub of : (xs : List OutputExpr) (m : Module) → Reads (list_of max_list read_output_expr) s at xs → OutputsAt s outputs m.outputs → Agree (env_at s names enums) (for_module m) → Notes (each (error_emit_notes m) (placed 0 xs))

  pub record NotesOnError (at : ℕ) (found : Maybe ℕ) (outputs names enums : List ℕ) : Type 0 where
    pub of : (e : Option OnError) (m : Module) → Reads (optional read_on_error) s at e → StatesAt s found (states m) → OutputsAt s outputs m.outputs → Agree (env_at s names enums) (for_module m) → Notes (on_error_notes m e)

-- a table of properties: pairs of the places of a name and of its formula
pub record ClaimAt (s table : List ℕ) (i : ℕ) (p : Property) : Type 0 where
  pub name_is : read_name s (get_or table (2 * i) 0) ≡ ok p.name (get_or table (2 * i + 1) 0)
  pub formula_is : Reads (read_formula max_depth) s (get_or table (2 * i + 1) 0) p.formula

pub record Claims (s table : List ℕ) (ps : List Property) : Type 0 where
  pub room : 2 * length ps ≡ length table
  pub at : (i : ℕ) (p : Property) → get_elem? ps i ≡ some p → ClaimAt s table i p

-- the first words of a table are those of two lists, one after the other
pub record ClaimsSet (s : List ℕ) (a b words : ℕ) (table : List ℕ) : Type 0 where
  pub most : words ≤ 1020
  pub of : (ps qs : List Property) → Bytes s → Reads (list_of max_list read_property) s a ps → Reads (list_of max_list read_property) s b qs → Claims s (take words table) (ps ++ qs)

-- whether the name of number i stands under a smaller number too
abbrev pub earlier_in : List ℕ → List ℕ → ℕ → Bool
earlier_in s table i = given (find_first s (text_at s (get_or table (2 * i) 0)) table i)

module _ (s : List ℕ) (owner : ℕ) (o : List ℕ) (skip n r : ℕ) (o' : List ℕ) where
  -- site 18
  pub record NotesRepeats (table : List ℕ) : Type 0 where
    pub of : (ps : List Property) → Claims s table ps → Noted owner o skip n (repeat_notes (map property_name ps)) r o'

  -- sites 19 and 20: of the formula of number i, and of each
  pub record NotesFormula (at : ℕ) (names enums : List ℕ) (i : ℕ) : Type 0 where
    pub of : (f : Formula) (env : Env) → Reads (read_formula max_depth) s at f → Agree (env_at s names enums) env → Noted owner o skip n (caused (λ c. note 19 i 0 c) (type_formula env f) ++ noted (bounded_always_error f) (note 20 i 0 0)) r o'

  pub record NotesFormulas (table names enums : List ℕ) : Type 0 where
    pub of : (ps : List Property) (env : Env) → Claims s table ps → Agree (env_at s names enums) env → Noted owner o skip n (each (formula_notes env) (placed 0 ps)) r o'
