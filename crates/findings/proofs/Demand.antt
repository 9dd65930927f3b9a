-- Demand 3, whole: of an accepted document, one module's transitions are rearranged. The rearranged document is accepted too, the module's
-- findings are the same, each as often, and a variant is named unreachable exactly when no chain leads to it.
use Prim.Native.Nat.{ℕ, ◌+◌}
use mathlib.Core.Path.{◌≡◌, refl, ap, ap₂, ◌∙◌}
use mathlib.Core.List.{List, [], ◌∷◌, map, Permᴰ}
use mathlib.Core.Option.{some}
use mathlib.Core.Bool.{cond}
use native.Mathlib.Omega.{arith}
use lib.ListN.{length, length-append, get_elem?}
use Rattle.reading.specs.Read.{ok}
use Rattle.reading.specs.Transition.{Transition}
use Rattle.reading.specs.Module.{Module, Ir}
use Rattle.reading.specs.Document.{read_document}
use Rattle.reading.proofs.HeadSound.{Bytes}
use Rattle.typing.specs.Names.{eq_name}
use Rattle.findings.specs.Finding.{Finding, words}
use Rattle.findings.specs.Warnings.{warnings}
use Rattle.findings.specs.Findings.{findings}
use Rattle.findings.specs.Demand.{Rearranged, with_transitions, rearranged, renamed_note, renamed, of_module, Demand3}
use Rattle.findings.proofs.Places.{items_perm}
use Rattle.findings.proofs.Parts.{same_warnings}
use Rattle.findings.proofs.Rearrange.{in_place_there, same_findings, as_many_errors, as_many_warnings}
use Rattle.findings.proofs.Unreachable.{unreachables}
use Rattle.findings.proofs.Accepted.{rearranged_accepted}
use Rattle.findings.proofs.EveryRearrangement.{every_rearrangement}

pub demand_3 : (s : List ℕ) → Bytes s → (x : Ir) (n : ℕ) → read_document s ≡ ok x n → (m : ℕ) (y : Module) → get_elem? x.modules m ≡ some y → (ρ : ℕ → ℕ) (us : List Transition) → Rearranged ρ y.transitions us → Demand3 x m y ρ us
demand_3 s b x n h m y e ρ us r =
    record {
      accepted = rearranged_accepted y us (items_perm r) s b x n h m e;
      same_findings = same_findings x m y ρ us e r;
      as_many_errors = as_many_errors x m y ρ us e r;
      as_many_warnings = as_many_warnings x m y ρ us e r;
      before = unreachables x m y e;
      after = unreachables (rearranged m us x) m (with_transitions us y) (in_place_there x.modules m us y e);
    }

-- so for every rearranged list: it has a renaming
pub demand_3_of_perm : (s : List ℕ) → Bytes s → (x : Ir) (n : ℕ) → read_document s ≡ ok x n → (m : ℕ) (y : Module) → get_elem? x.modules m ≡ some y → (us : List Transition) → Permᴰ y.transitions us → (ρ : ℕ → ℕ) × Rearranged ρ y.transitions us × Demand3 x m y ρ us
demand_3_of_perm s b x n h m y e us p =
    let r = every_rearrangement p in
    (r.0, r.1, demand_3 s b x n h m y e r.0 us r.1)

-- both documents have as many findings, so that as many words hold either or neither
pub as_many_findings : (x : Ir) (m : ℕ) (y : Module) → get_elem? x.modules m ≡ some y → (ρ : ℕ → ℕ) (us : List Transition) → Rearranged ρ y.transitions us → length (findings (rearranged m us x)) ≡ length (findings x)
unfolding findings
as_many_findings x m y e ρ us r = simp length-append (ap₂ ◌+◌ (as_many_errors x m y ρ us e r) (as_many_warnings x m y ρ us e r))

-- a module's warnings, by its content alone
pub warnings_stay : (y : Module) (ρ : ℕ → ℕ) (us : List Transition) → Rearranged ρ y.transitions us → Permᴰ (map (renamed_note ρ) (warnings y)) (warnings (with_transitions us y))
warnings_stay y ρ us r = (same_warnings y r).perm

-- ── how often ──
abbrev once : Finding → Finding → ℕ
once f g = cond (eq_name (words f) (words g)) 1 0

-- how often the words of f stand in a list
abbrev pub times : Finding → List Finding → ℕ
times f [] = 0
times f (g ∷ l) = once f g + times f l

perm_times : {l k : List Finding} → Permᴰ l k → (f : Finding) → times f l ≡ times f k
perm_times Permᴰ.nil f = refl
perm_times (Permᴰ.cons e d) f = ap₂ ◌+◌ (ap (once f) e) (perm_times d f)
perm_times (Permᴰ.swap {a} {b} {a'} {b'} {l} e₁ e₂) f =
    let p : once f a ≡ once f b' = ap (once f) e₁ in
    let q : once f b ≡ once f a' = ap (once f) e₂ in
    omega arith
perm_times (Permᴰ.trans d₁ d₂) f = perm_times d₁ f ∙ perm_times d₂ f

-- a finding stands as often before, once renamed, as after
pub as_often : (x : Ir) (m : ℕ) (y : Module) → get_elem? x.modules m ≡ some y → (ρ : ℕ → ℕ) (us : List Transition) → Rearranged ρ y.transitions us → (f : Finding) → times f (map (renamed ρ) (of_module m (findings x))) ≡ times f (of_module m (findings (rearranged m us x)))
as_often x m y e ρ us r = perm_times (same_findings x m y ρ us e r)
