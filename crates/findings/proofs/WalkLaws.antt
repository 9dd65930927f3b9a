-- The walk over the modules: what is written of the modules so far, and what is still to be written, make the whole.
use Prim.Native.Nat.{ℕ, ◌+◌, ◌<◌, ◌≤◌}
use mathlib.Core.Path.{◌≡◌, sym, ap, subst, ◌∙◌}
use mathlib.Core.List.{List, ◌∷◌, map}
use native.Mathlib.Omega.{arith}
use lib.ListN.{length, drop, drop_of_length-le}
use Rattle.reading.specs.Limits.{max_modules, max_version}
use Rattle.reading.specs.Item.{read_count}
use Rattle.reading.specs.Combine.{list_of}
use Rattle.reading.specs.Module.{Module, read_module}
use Rattle.reading.specs.Views.{Rest}
use Rattle.reading.specs.Link.{answer}
use Rattle.reading.specs.declared.cursor.Cursor.{Cursor}
use Rattle.reading.proofs.Rules.{no}
use Rattle.reading.proofs.Answers.{got, out}
use Rattle.reading.proofs.ItemLaws.{number_laws}
use Rattle.reading.proofs.ModuleLaws.{version_agrees}
use Rattle.reading.proofs.Views.{ir_at}
use Rattle.reading.proofs.ListViews.{list_at, rest_all, turn}
use Rattle.typing.specs.Table.{after_item, after_head, Past}
use Rattle.typing.proofs.EnvLaws.{after_is, fields_head}
use Rattle.findings.specs.Lists.{Placed, placed, each}
use Rattle.findings.specs.Finding.{Note, Finding, in_module}
use Rattle.findings.specs.Errors.{errors}
use Rattle.findings.specs.Warnings.{warnings}
use Rattle.findings.specs.Findings.{by_module, all_errors, all_warnings}
use Rattle.findings.specs.Sheet.{Written}
use Rattle.findings.specs.Noting.{Noted}
use Rattle.findings.specs.Scene.{Reads}
use Rattle.findings.specs.Walks.{WalksModule, WalksModules, WalksAll}
use Rattle.findings.proofs.SheetLaws.{Left, left_all, left_more, left_none}
use Rattle.findings.proofs.EachLaws.{each_from, each_here}
-- the findings of one module
use Rattle.std.specs.Prelude.{Result, Ok, Err}
use Rattle.reading.specs.declared.fault.Refusal.{Refusal}

abbrev pub of_one : (Module → List Note) → Placed Module → List Finding
of_one f x = map (in_module x.place) (f x.item)

-- what is written of a list of modules, up to module i
module _ (f : Module → List Note) where
  pub record WrittenTo (ms : List Module) (o : List ℕ) (skip n i r : ℕ) (o' : List ℕ) : Type 0 where
    pub left : Left o skip n (by_module f ms) r o' (each_from (of_one f) i ms)

  to_start : (ms : List Module) (o : List ℕ) (skip n : ℕ) → WrittenTo ms o skip n 0 n o
  unfolding by_module
  to_start ms o skip n = record { left = left_all o skip n (by_module f ms) }

  to_more : (ms : List Module) {o o' o'' : List ℕ} {skip n i r r' : ℕ} (m : Module) → drop i ms ≡ m ∷ drop (i + 1) ms → WrittenTo ms o skip n i r o' → Noted i o' skip r (f m) r' o'' → WrittenTo ms o skip n (i + 1) r' o''
  to_more ms {i} m e w p = record { left = left_more (map (in_module i) (f m)) w.left (each_here (of_one f) i m (drop (i + 1) ms) (drop i ms) e) p.written }

  to_done : (ms : List Module) {o o' : List ℕ} {skip n i r : ℕ} → length ms ≤ i → WrittenTo ms o skip n i r o' → Written o skip n (by_module f ms) r o'
  to_done ms {i} h w = left_none w.left (ap (λ (ys : List Module). each (of_one f) (placed i ys)) (drop_of_length-le ms h))

module _ (s : List ℕ) (at : ℕ) (o : List ℕ) (skip n : ℕ) (p : List ℕ) (leave b : ℕ) where
  pub record Gone (ms : List Module) (count k i r : ℕ) (o' : List ℕ) (q : ℕ) (p' : List ℕ) : Type 0 where
    pub end : ℕ
    pub as_many : count ≡ length ms
    pub rest : Rest read_module s k i ms end
    pub errors_to : WrittenTo errors ms o skip n i r o'
    pub warnings_to : WrittenTo warnings ms p leave b i q p'

  -- module i stands at k
  pub record Going (count k i r : ℕ) (o' : List ℕ) (q : ℕ) (p' : List ℕ) : Type 0 where
    pub of : (ms : List Module) → Reads (list_of max_modules read_module) s at ms → Gone ms count k i r o' q p'

  module _ {a : Result (ℕ × Cursor) Refusal} (e : a ≡ answer (read_count max_modules s at)) where
    pub go_refused : {t : Refusal} → a ≡ Err t → WalksModules s o skip n n o p leave b b p at
    go_refused q = record { of = λ ms g. let l = list_at read_module s max_modules at ms g.end g.is in no (let x = out _ e q in let y = l.opens in cc) }

    pub go_start : {count : ℕ} {c : Cursor} → a ≡ Ok (count, c) → Going count c.at 0 n o b p
    go_start {count} {c} q = record {
      of = λ ms g.
          let l = list_at read_module s max_modules at ms g.end g.is in
          let x = got _ e q in
          let y = l.opens in
          let u : count ≡ length ms = cc in
          let v : l.first ≡ c.at = cc in
          record {
            end = g.end;
            as_many = u;
            rest = subst (λ (k : ℕ). Rest read_module s k 0 ms g.end) v (rest_all read_module s l);
            errors_to = to_start errors ms o skip n;
            warnings_to = to_start warnings ms p leave b;
          };
    }

  module _ {count k i r : ℕ} {o' : List ℕ} {q : ℕ} {p' : List ℕ} (w : Going count k i r o' q p') where
    pub go_more : {r' : ℕ} {o'' : List ℕ} {q' : ℕ} {p'' : List ℕ} {k' : ℕ} → i < count → WalksModule s o' skip r r' o'' p' leave q q' p'' i k k' → Going count k' (i + 1) r' o'' q' p''
    go_more {k'} h t = record {
      of = λ ms g.
          let v = w.of ms g in
          let c = v.as_many in
          let u = turn read_module s (omega arith) v.rest in
          let x = t.of u.entry u.end u.here in
          record {
            end = v.end;
            as_many = v.as_many;
            rest = subst (λ (j : ℕ). Rest read_module s j (i + 1) ms v.end) (sym x.ends) u.next;
            errors_to = to_more errors ms u.entry u.split v.errors_to x.errors_are;
            warnings_to = to_more warnings ms u.entry u.split v.warnings_to x.warnings_are;
          };
    }

    pub go_done : count ≤ i → WalksModules s o skip n r o' p leave b q p' at
    go_done h = record {
      of = λ ms g.
          let v = w.of ms g in
          let c = v.as_many in
          record { errors_are = to_done errors ms (omega arith) v.errors_to; warnings_are = to_done warnings ms (omega arith) v.warnings_to };
    }

-- the modules stand after the version
pub all_walked : (s : List ℕ) {o o' p p' : List ℕ} {skip n r leave b q version modules : ℕ} → version ≡ after_head s 0 → Past s version modules → WalksModules s o skip n r o' p leave b q p' modules → WalksAll s o skip n r o' p leave b q p'
unfolding all_errors all_warnings
all_walked s {version} {modules} e t w = record {
  of = λ x n g.
      let v = ir_at s 0 x n g in
      let h = fields_head 2 s 0 tt v.ir_version v.opens in
      let a = after_is (number_laws max_version (omega arith)) s t.each v.ir_version x.ir_version v.modules (version_agrees s v.ir_version _ _ v.ir_version_is) in
      let k : modules ≡ v.modules = t.is ∙ ap (after_item s) (e ∙ h) ∙ a in
      let u = w.of x.modules (record { end = n; is = ap (list_of max_modules read_module s) k ∙ v.modules_is }) in
      record { errors_are = u.errors_are; warnings_are = u.warnings_are };
}
