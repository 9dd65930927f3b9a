-- Demand 3: what a rearrangement is, and what stays.
use Rattle.std.specs.Prelude.{ℕ, zero, suc, ◌<◌, min, max, ◌≡◌, ◌↔◌, Bool, cond, ◌&&◌, ◌||◌, eqb, leb, length}
use mathlib.Core.List.{List, [], ◌∷◌, map, Permᴰ, Memᴰ}
use Rattle.std.proofs.Math.Option.{some}
use Rattle.std.proofs.Math.ListN.{get_elem?}
use Rattle.reading.specs.Read.{ok}
use Rattle.reading.specs.Text.{Name}
use Rattle.reading.specs.Transition.{Transition}
use Rattle.reading.specs.Module.{Module, Ir, enc_ir}
use Rattle.reading.specs.Document.{read_document}
use Rattle.findings.specs.Lists.{each}
use Rattle.findings.specs.Finding.{Note, note, Finding, in_module}
use Rattle.findings.specs.Mentions.{states}
use Rattle.findings.specs.Reach.{Leads}
use Rattle.findings.specs.Warnings.{leads_to}
use Rattle.findings.specs.Findings.{all_errors, all_warnings, findings}

-- us is ts rearranged: the transition at place i of ts stands at place ρ i of us, and no two at one place
pub record Rearranged (ρ : ℕ → ℕ) (ts us : List Transition) : Type 0 where
  pub as_many : length us ≡ length ts
  pub apart : (i j : ℕ) → i < length ts → j < length ts → ρ i ≡ ρ j → i ≡ j
  pub moved : (i : ℕ) → i < length ts → get_elem? us (ρ i) ≡ get_elem? ts i

-- the module with us for its transitions
abbrev pub with_transitions : List Transition → Module → Module
with_transitions us m = record {
  name = m.name;
  version = m.version;
  on_error = m.on_error;
  enums = m.enums;
  initial_state = m.initial_state;
  events = m.events;
  outputs = m.outputs;
  vars = m.vars;
  transitions = us;
  properties = m.properties;
  assumptions = m.assumptions;
}

abbrev pub in_place : ℕ → List Transition → List Module → List Module
in_place m us [] = []
in_place zero us (x ∷ xs) = with_transitions us x ∷ xs
in_place (suc m) us (x ∷ xs) = x ∷ in_place m us xs

-- the document with us for the transitions of module m
abbrev pub rearranged : ℕ → List Transition → Ir → Ir
rearranged m us x = record { ir_version = x.ir_version; modules = in_place m us x.modules }

-- "Pairs are the findings at 14, 15 and 24"
abbrev pub is_pair : ℕ → Bool
is_pair s = eqb s 14 || eqb s 15 || eqb s 24

-- "Transition places are thus first at 6 to 13, 25 and 26"
abbrev pub is_own : ℕ → Bool
is_own s = leb 6 s && leb s 13 || eqb s 25 || eqb s 26

-- "once transition places are renamed and each pair's places put in rising order"
abbrev pub renamed_note : (ℕ → ℕ) → Note → Note
renamed_note ρ f =
    cond (is_pair f.site)
    (note f.site (min (ρ f.first) (ρ f.second)) (max (ρ f.first) (ρ f.second)) f.cause)
    (cond (is_own f.site) (note f.site (ρ f.first) f.second f.cause) f)

abbrev pub renamed : (ℕ → ℕ) → Finding → Finding
renamed ρ f = record { owner = f.owner; note = renamed_note ρ f.note }

-- "A module's findings are all errors and warnings whose module word is its place"
abbrev pub of_module : ℕ → List Finding → List Finding
of_module m fs = each (λ f. cond (eqb f.owner m) (f ∷ []) []) fs

-- a transition starts at its state
abbrev pub StartsAt : Transition → Name → Type 0
StartsAt t s = t.state ≡ s

-- an initial state is given and no chain leads from it to n
abbrev pub NoChain : Module → Name → Type 0
NoChain x n = (s : Name) × (x.initial_state ≡ some s) × (Leads StartsAt leads_to x.transitions s n → ⊥)

-- site 21 of module m, whose content is x, in the findings fs: variant v of the first enum called State, whose name is n, is named
-- exactly when no chain leads to it
abbrev pub Unreachables : Module → ℕ → List Finding → Type 0
Unreachables x m fs = (v : ℕ) (n : Name) → get_elem? (states x) v ≡ some n → Memᴰ (in_module m (note 21 v 0 0)) fs ↔ NoChain x n

-- of document x, module m, whose content is y, is rearranged by ρ, so that its transitions are us
pub record Demand3 (x : Ir) (m : ℕ) (y : Module) (ρ : ℕ → ℕ) (us : List Transition) : Type 0 where
  -- "The rearranged document is accepted too"
  pub accepted : read_document (enc_ir (rearranged m us x)) ≡ ok (rearranged m us x) (length (enc_ir (rearranged m us x)))
  -- "The module's findings are the same before and after, each as often"
  pub same_findings : Permᴰ (map (renamed ρ) (of_module m (findings x))) (of_module m (findings (rearranged m us x)))
  -- so "10 comes for both or neither"
  pub as_many_errors : length (all_errors (rearranged m us x)) ≡ length (all_errors x)
  pub as_many_warnings : length (all_warnings (rearranged m us x)) ≡ length (all_warnings x)
  -- "In both documents, a variant .. is named unreachable exactly when .."
  pub before : Unreachables y m (findings x)
  pub after : Unreachables (with_transitions us y) m (findings (rearranged m us x))
