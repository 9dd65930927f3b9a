-- Places of a document in tables: those of the fields of a record, and of each record of a list.
use Rattle.std.specs.Prelude.{ℕ, zero, suc, ◌+◌, ◌*◌, ◌<◌, ◌≤◌, ◌≡◌, List, [], ◌∷◌, ◌++◌, length, get_or, set, take, drop, Option, Some, None}
use Rattle.std.proofs.Math.Option.{some}
use Rattle.std.proofs.Math.ListN.{get_elem?}
use Rattle.std.proofs.lemmas.List.Edits.{sets}
use Rattle.reading.specs.Read.{Read, Reader, ok, refused}
use Rattle.reading.specs.Limits.{max_u32, max_u64, max_list}
use Rattle.reading.specs.Items.{Items}
use Rattle.reading.specs.Item.{read_number, read_count}
use Rattle.reading.specs.Text.{Name, read_name, read_version}
use Rattle.reading.specs.Combine.{list_of, optional}
use Rattle.reading.specs.Decl.{read_names, read_enum_decl, read_constructor_group, read_var_decl}
use Rattle.reading.specs.Pattern.{read_pattern}
use Rattle.reading.specs.Transition.{Transition, read_top_expr, read_output_expr, read_assignment, read_on_error, read_transition}
use Rattle.reading.specs.Module.{Module, read_property, read_module}
use Rattle.typing.specs.Table.{after_item, after_head, pairs_at, Past}
use Rattle.typing.specs.First.{GroupsAt}
use Rattle.typing.specs.Rolls.{OutputsAt, FillsOutputs}
use Rattle.findings.specs.declared.rows.Listed.{Listed}

-- so many items from a place on, one after another: their places, and the place after them
unfoldable pub row_from : ℕ → List ℕ → ℕ → List ℕ
row_from zero s k = []
row_from (suc f) s k = k ∷ row_from f s (after_item s k)

unfoldable pub end_from : ℕ → List ℕ → ℕ → ℕ
end_from zero s k = k
end_from (suc f) s k = end_from f s (after_item s k)

-- those of the first fields of the record at a place
abbrev pub row_at : ℕ → List ℕ → ℕ → List ℕ
row_at fields s at = row_from fields s (after_head s at)

abbrev pub row_end : ℕ → List ℕ → ℕ → ℕ
row_end fields s at = end_from fields s (after_head s at)

-- those of so many transitions from a place on
unfoldable pub rows_from : ℕ → List ℕ → ℕ → List ℕ
rows_from zero s k = []
rows_from (suc c) s k = row_at 8 s k ++ rows_from c s (row_end 8 s k)

unfoldable pub rows_end : ℕ → List ℕ → ℕ → ℕ
rows_end zero s k = k
rows_end (suc c) s k = rows_end c s (row_end 8 s k)

unfoldable pub rows_of : List ℕ → Read ℕ → List ℕ
rows_of s (ok count first) = rows_from count s first
rows_of s (refused f p) = []

-- those of the list at a place
unfoldable pub rows_at : List ℕ → ℕ → List ℕ
rows_at s at = rows_of s (read_count max_list s at)

-- a table is filled from its start on; the other words keep their contents, and what does not fit is left out
pub record RowsFilled (s : List ℕ) (at : ℕ) (table : List ℕ) (r : Listed) (table' : List ℕ) : Type 0 where
  pub words : table' ≡ sets table 0 (rows_at s at)
  pub of : (count first : ℕ) → read_count max_list s at ≡ ok count first → (r.count ≡ count) × (r.end ≡ rows_end count s first)

-- each word is a byte
abbrev pub Bytes : List ℕ → Type 0
Bytes s = (i : ℕ) → get_or s i 0 < 256

-- the name and the absent variant of a pattern stand from a place to r
pub record PastBare (s : List ℕ) (name r : ℕ) : Type 0 where
  pub items : Items s 2 name r
  pub within : r ≤ length s

-- content reads at a place
pub record Reads {A : Type 0} (F : Reader A) (s : List ℕ) (at : ℕ) (x : A) : Type 0 where
  pub end : ℕ
  pub is : F s at ≡ ok x end

-- word f of row i: a transition has eight fields
abbrev pub field : List ℕ → ℕ → ℕ → ℕ
field rows i f = get_or rows (8 * i + f) 0

-- row i has the places of a transition's fields
pub record RowAt (s rows : List ℕ) (i : ℕ) (t : Transition) : Type 0 where
  pub id_is : read_number max_u64 s (field rows i 0) ≡ ok t.id (field rows i 1)
  pub state_is : read_name s (field rows i 1) ≡ ok t.state (field rows i 2)
  pub pattern_is : read_pattern s (field rows i 2) ≡ ok t.pattern (field rows i 3)
  pub guard_is : optional read_top_expr s (field rows i 3) ≡ ok t.guard (field rows i 4)
  pub next_state_is : read_name s (field rows i 4) ≡ ok t.next_state (field rows i 5)
  pub emits_are : list_of max_list read_output_expr s (field rows i 5) ≡ ok t.emits (field rows i 6)
  pub assignments_are : list_of max_list read_assignment s (field rows i 6) ≡ ok t.assignments (field rows i 7)
  pub priority_is : Reads (optional (read_number max_u32)) s (field rows i 7) t.priority

-- each row those of its transition
pub record Rows (s rows : List ℕ) (ts : List Transition) : Type 0 where
  pub at : (i : ℕ) (t : Transition) → get_elem? ts i ≡ some t → RowAt s rows i t

-- behind the places of a module's eleven fields: how many words the table of its groups of events takes, that table, and the table of its outputs
abbrev pub groups_in : List ℕ → ℕ → ℕ → List ℕ
groups_in places from words = take words (take 510 (drop from places))

abbrev pub events_in : List ℕ → List ℕ
events_in places = groups_in places 12 (get_or places 11 0)

abbrev pub outputs_in : List ℕ → List ℕ
outputs_in places = drop 522 places

unfoldable pub with_table : List ℕ → ℕ → ℕ → List ℕ → List ℕ
with_table places w from table = set (sets places from table) w (length table)

-- a table of places after both were filled
pub record GroupsFilled (s places places' : List ℕ) : Type 0 where
  pub kept : take 522 places' ≡ take 522 (with_table places 11 12 (pairs_at s (get_or places 5 0)))
  pub before : List ℕ
  pub outputs : FillsOutputs s (get_or places 6 0) before (outputs_in places')

-- the places of a module's fields, in the order of ir.rs, and its groups
pub record Scene (s places : List ℕ) (m : Module) : Type 0 where
  pub name_is : Reads read_name s (get_or places 0 0) m.name
  pub version_is : Reads (optional read_version) s (get_or places 1 0) m.version
  pub on_error_is : Reads (optional read_on_error) s (get_or places 2 0) m.on_error
  pub enums_are : Reads (list_of max_list read_enum_decl) s (get_or places 3 0) m.enums
  pub initial_state_is : Reads (optional read_name) s (get_or places 4 0) m.initial_state
  pub events_are : Reads (list_of max_list read_constructor_group) s (get_or places 5 0) m.events
  pub outputs_are : Reads (list_of max_list read_constructor_group) s (get_or places 6 0) m.outputs
  pub vars_are : Reads (list_of max_list read_var_decl) s (get_or places 7 0) m.vars
  pub transitions_are : Reads (list_of max_list read_transition) s (get_or places 8 0) m.transitions
  pub properties_are : Reads (list_of max_list read_property) s (get_or places 9 0) m.properties
  pub assumptions_are : Reads (list_of max_list read_property) s (get_or places 10 0) m.assumptions
  pub event_groups : GroupsAt s (events_in places) m.events
  pub output_groups : OutputsAt s (outputs_in places) m.outputs

-- the variants of the first enum called State stand at a place; there are none where there is no such enum
pub data StatesAt (s : List ℕ) : Option ℕ → List Name → Type 0 where
  states_here : {k : ℕ} {vs : List Name} → Reads read_names s k vs → StatesAt s (Some k) vs
  states_none : StatesAt s None []

-- the tables of a module: the places of its fields and of its transitions' fields, how many transitions there are, and its end
pub record Opened (s : List ℕ) (r : Listed) (places rows : List ℕ) (m : Module) (n : ℕ) : Type 0 where
  pub bytes : Bytes s
  pub scene : Scene s places m
  pub rows_are : Rows s rows m.transitions
  pub count : r.count ≡ length m.transitions
  pub end : r.end ≡ n

-- the last three fields and the rows, from the place of the transitions on
pub record OpensRest (s : List ℕ) (t : ℕ) (places rows : List ℕ) (r : Listed) (places' rows' : List ℕ) : Type 0 where
  pub listed : Listed
  pub assumptions : ℕ
  pub filled : RowsFilled s t rows listed rows'
  pub words : places' ≡ sets places 8 (t ∷ listed.end ∷ assumptions ∷ [])
  pub after_properties : Past s listed.end assumptions
  pub after_all : Past s assumptions r.end
  pub count : r.count ≡ listed.count

pub record Opens (s : List ℕ) (at : ℕ) (r : Listed) (places rows : List ℕ) : Type 0 where
  pub of : (m : Module) (n : ℕ) → read_module s at ≡ ok m n → Opened s r places rows m n
