-- The sites of each part of the findings, as document 01 numbers them.
use Prim.Native.Nat.{ℕ, ◌≤◌}
use mathlib.Core.Path.{◌≡◌, refl, sym, subst, ◌∙◌}
use mathlib.Core.Logic.{◌⊎◌, inl, inr}
use mathlib.Core.List.Memᴰ
use mathlib.Core.List.{List, [], ◌∷◌, ◌++◌, Memᴰ}
use mathlib.Core.Option.{Option, none, some}
use mathlib.Core.Bool.{Bool, true, false, cond, ◌&&◌, true≢false, false≢true}
use native.Mathlib.Omega.{arith}
use lib.Dec.{leb}
use borrow.Author.Tests.{le-leb, leb-true}
use Rattle.reading.specs.Text.{Name}
use Rattle.reading.specs.Expr.{Expr}
use Rattle.reading.specs.Decl.{ConstructorGroup, VarDecl}
use Rattle.reading.specs.Transition.{OnError, Transition}
use Rattle.reading.specs.Module.{Module}
use Rattle.typing.specs.Causes.{Cause, number, Answer, is, fails, Blame}
use Rattle.typing.specs.Env.{Env}
use Rattle.findings.specs.Lists.{Placed, placed, each, each_pair}
use Rattle.findings.specs.Finding.{Note, caused, blamed}
use Rattle.findings.specs.Pairs.{clash, ambiguous, by_state}
use Rattle.findings.specs.Errors.{unknown_state, initial_notes, version_notes, init_notes, opening, guard_typed, guard_notes, set_notes, emit_notes, body_notes, judged_notes, own, error_emit_notes, on_error_notes, repeat_notes, formula_notes, closing, errors}
use Rattle.findings.specs.Warnings.{unreachable, dead_in, dead, unused, impossible_guard, impossible}
use Rattle.findings.proofs.ListLaws.{each_mem}

-- a site from low to high
abbrev pub between : ℕ → ℕ → ℕ → Bool
between low high s = leb low s && leb s high

-- the sites of all notes are from low to high
pub record Sites (low high : ℕ) (l : List Note) : Type 0 where
  pub sited : (x : Note) → Memᴰ x l → between low high x.site ≡ true

module _ (low high s : ℕ) where
  pub between_le : between low high s ≡ true → (low ≤ s) × (s ≤ high)
  between_le h = go (leb low s) refl h
    where
      go : (b : Bool) → leb low s ≡ b → (b && leb s high) ≡ true → (low ≤ s) × (s ≤ high)
      go true e k = (leb-true low s e, leb-true s high k)
      go false e k = absurd (false≢true k)

  le_between : low ≤ s → s ≤ high → between low high s ≡ true
  le_between h k = rw (le-leb low s h) (le-leb s high k)

module _ {low high : ℕ} where
  sites_nil : Sites low high []
  sites_nil = record { sited = λ x m. absurd (Memᴰ.not-nil m) }

  sites_one : {y : Note} → between low high y.site ≡ true → Sites low high (y ∷ [])
  sites_one h = record { sited = λ x m. subst (λ z. between low high z.site ≡ true) (sym (Memᴰ.eq_of_singleton m)) h }

  sites_append : {a b : List Note} → Sites low high a → Sites low high b → Sites low high (a ++ b)
  sites_append {a} {b} p q = record { sited = λ x m. go x (Memᴰ.append_cases a m) }
    where
      go : (x : Note) → Memᴰ x a ⊎ Memᴰ x b → between low high x.site ≡ true
      go x (inl m) = p.sited x m
      go x (inr m) = q.sited x m

  sites_cond : (b : Bool) {x y : List Note} → Sites low high x → Sites low high y → Sites low high (cond b x y)
  sites_cond true p q = p
  sites_cond false p q = q

  sites_each : {A : Type 0} (f : A → List Note) (l : List A) → ((x : A) → Sites low high (f x)) → Sites low high (each f l)
  sites_each f l h = record { sited = λ x m. let r = each_mem f l m in (h r.0).sited x r.2 }

  sites_each_pair : {A : Type 0} (f : A → A → List Note) (l : List A) → ((x y : A) → Sites low high (f x y)) → Sites low high (each_pair f l)
  sites_each_pair f [] h = sites_nil
  sites_each_pair f (x ∷ l) h = sites_append (sites_each (f x) l (h x)) (sites_each_pair f l h)

  sites_caused : (f : ℕ → Note) (o : Option Cause) → ((c : ℕ) → between low high (f c).site ≡ true) → Sites low high (caused f o)
  unfolding caused
  sites_caused f none h = sites_nil
  sites_caused f (some c) h = sites_one (h (number c))

  sites_blamed : (f : ℕ → Note) (o : Option Blame) → ((c : ℕ) → between low high (f c).site ≡ true) → Sites low high (blamed f o)
  unfolding blamed
  sites_blamed f none h = sites_nil
  sites_blamed f (some b) h = sites_one (h (number b.cause))

  pub sites_wider : {a b : ℕ} {l : List Note} → leb low a ≡ true → leb b high ≡ true → Sites a b l → Sites low high l
  sites_wider {a} {b} h k p = record { sited = λ x m. go x.site (p.sited x m) }
    where
      go : (s : ℕ) → between a b s ≡ true → between low high s ≡ true
      go s e =
          let r = between_le a b s e in
          le_between low high s (omega (arith, leb-true low a h, r.0)) (omega (arith, leb-true b high k, r.1))

ruleset of_parts = (sites_nil, sites_one, sites_append, sites_cond, sites_each, sites_each_pair, sites_caused, sites_blamed)

-- ── errors ──
initial_sites : (vs : List Name) (s : Option Name) (b : Bool) → Sites 1 5 (initial_notes vs s b)
unfolding initial_notes unknown_state
initial_sites vs none b = search of_parts
initial_sites vs (some s) b = search of_parts

version_sites : (v : Option Name) → Sites 1 5 (version_notes v)
unfolding version_notes
version_sites none = search of_parts
version_sites (some v) = search of_parts

pub opening_sites : (m : Module) (b : Bool) → Sites 1 5 (opening m b)
unfolding opening init_notes
opening_sites m b = search (of_parts, initial_sites, version_sites) depth 10

typed_sites : (i : ℕ) (a : Answer) → Sites 6 13 (guard_typed i a)
unfolding guard_typed
typed_sites i (is t) = search of_parts
typed_sites i (fails c) = search of_parts

guard_sites : (env : Env) (i : ℕ) (g : Option Expr) → Sites 6 13 (guard_notes env i g)
unfolding guard_notes
guard_sites env i none = search of_parts
guard_sites env i (some e) = search typed_sites

pub own_sites : (m : Module) (x : Placed Transition) → Sites 6 13 (own m x)
unfolding own judged_notes unknown_state body_notes set_notes emit_notes
own_sites m x = search (of_parts, guard_sites) depth 10

pub clash_sites : (ts : List Transition) → Sites 14 15 (by_state clash ts)
unfolding by_state clash
clash_sites ts = search of_parts depth 10

on_error_sites : (m : Module) (e : Option OnError) → Sites 16 20 (on_error_notes m e)
unfolding on_error_notes unknown_state error_emit_notes
on_error_sites m none = search of_parts
on_error_sites m (some e) = search of_parts

pub closing_sites : (m : Module) → Sites 16 20 (closing m)
unfolding closing repeat_notes formula_notes
closing_sites m = search (of_parts, on_error_sites) depth 10

pub errors_sites : (m : Module) → Sites 1 20 (errors m)
unfolding errors
errors_sites m =
    sites_append
    (sites_append
    (sites_append (sites_wider refl refl (opening_sites m _)) (sites_each (own m) (placed 0 m.transitions) (λ x. sites_wider refl refl (own_sites m x))))
    (sites_wider refl refl (clash_sites m.transitions)))
    (sites_wider refl refl (closing_sites m))

-- ── warnings ──
pub unreachable_sites : (vs : List Name) (s : Option Name) (ts : List Transition) → Sites 21 21 (unreachable vs s ts)
unfolding unreachable
unreachable_sites vs none ts = search of_parts
unreachable_sites vs (some s) ts = search of_parts

pub dead_sites : (events : List ConstructorGroup) (ts : List Transition) → Sites 22 22 (dead events ts)
unfolding dead dead_in
dead_sites events ts = search of_parts depth 10

pub unused_sites : (used : List Name) (vs : List VarDecl) → Sites 23 23 (unused used vs)
unfolding unused
unused_sites used vs = search of_parts

pub ambiguous_sites : (ts : List Transition) → Sites 24 24 (by_state ambiguous ts)
unfolding by_state ambiguous
ambiguous_sites ts = search of_parts depth 10

impossible_guard_sites : (i : ℕ) (g : Option Expr) → Sites 25 26 (impossible_guard i g)
unfolding impossible_guard
impossible_guard_sites i none = search of_parts
impossible_guard_sites i (some e) = search of_parts

pub impossible_sites : (ts : List Transition) → Sites 25 26 (each impossible (placed 0 ts))
unfolding impossible
impossible_sites ts = search (of_parts, impossible_guard_sites)

-- a part has no note at a site out of its range
pub not_at : {low high : ℕ} {l : List Note} → Sites low high l → (x : Note) → between low high x.site ≡ false → Memᴰ x l → ⊥
not_at p x h m = true≢false (sym (p.sited x m) ∙ h)
