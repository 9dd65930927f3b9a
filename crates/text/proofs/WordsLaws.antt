-- The message of a finding, by its words: its module among all, the tables of that module, and what is said by them.
use Rattle.std.specs.Prelude.{Option as Maybe, None, Some}
use Prim.Native.Nat.{ℕ, ◌+◌, ◌-◌}
use mathlib.Core.Path.{◌≡◌, refl, sym, ap, ◌∙◌}
use mathlib.Core.List.{List}
use mathlib.Core.Option.{Option}
use native.Mathlib.Omega.{arith}
use lib.ListN.{get_or, take}
use Rattle.reading.specs.Limits.{max_modules, max_version}
use Rattle.reading.specs.Module.{Module}
use Rattle.reading.proofs.ItemLaws.{number_laws}
use Rattle.reading.proofs.ModuleLaws.{version_agrees, module_laws}
use Rattle.reading.proofs.Views.{document_at, ir_at}
use Rattle.typing.specs.Table.{after_item, after_head, Past}
use Rattle.typing.proofs.EnvLaws.{after_is, fields_head}
use Rattle.findings.specs.Mentions.{states}
use Rattle.findings.specs.Scene.{Opens}
use Rattle.findings.specs.Promises.{FirstStates}
use Rattle.findings.specs.ModulePromises.{Names}
use Rattle.findings.specs.declared.rows.Listed.{Listed}
use Rattle.findings.specs.declared.whole.Ready.{Ready}
use Rattle.text.specs.Message.{Saying, saying, saying_text, note_text, in_owner, message_of}
use Rattle.text.specs.Said.{saying_of}
use Rattle.text.specs.Says.{passed, Says, Tables, Named, SaysIn, ModuleAt, SaysWords}
use Rattle.text.specs.Near.{Kept, PickedFrom, KeptModule, PickedModule}
use Rattle.text.specs.declared.entry.Near.{Near}
use Rattle.text.specs.declared.said.Said.{Said}
use Rattle.text.proofs.LineLaws.{reads_there}
use Rattle.text.proofs.EntryLaws.{passed_both, up_here}
use Rattle.text.proofs.EntryReads.{entry_picked, entry_nothing, entry_given}

-- the words of the tables that are in use
pub named_said : (s places rows : List ℕ) (count : ℕ) (known : Ready) (table enums properties : List ℕ) {X : Module → Option Saying} {r : Maybe Said} → Says (Tables s places rows count known.found (take 829 table) enums (take (known.claims - 0) properties)) s X r → Says (Named s places rows count known table enums properties) s X r
named_said s places rows count known table enums properties h =
    let j : known.claims - 0 ≡ known.claims = omega arith in
    rw j at h

-- the tables are those of the module
pub opened_said : (s : List ℕ) (at site i j : ℕ) {places rows table enums properties : List ℕ} {l : Listed} {known : Ready} {r : Maybe Said} → Opens s at l places rows → FirstStates s (get_or places 3 0) known.found → Names s places known.claims table enums properties → Says (Named s places rows l.count known table enums properties) s (saying site i j) r → SaysIn s at site i j r
unfolding states
opened_said s at site i j x y z w = record {
  of = λ m n g.
      let a = x.of m n g in
      let d = z.of m a.bytes a.scene in
      w.of m (record {
        scene = a.scene;
        rows_are = a.rows_are;
        count_is = a.count;
        states_at = y.of m.enums a.scene.enums_are;
        agree = d.agree;
        claims_are = d.claims_are;
      });
}

-- the modules stand after the version
pub modules_there : (s : List ℕ) {version modules : ℕ} → version ≡ after_head s 0 → Past s version modules → Past s (after_head s 0) modules
modules_there s e t = rw e at t

pub module_picked : (s : List ℕ) (k : ℕ) {near : Maybe Near} {modules : ℕ} {f : Maybe ℕ} → Past s (after_head s 0) modules → KeptModule s near → PickedFrom near max_modules s modules k f → PickedModule s k f
module_picked s k t h p = record { of = λ x n g. rw (sym t.is) (p.of (h.of x n g)) }

module_found : (s : List ℕ) (k : ℕ) {f : Maybe ℕ} → PickedModule s k f → ModuleAt s k f
module_found s k p = record {
  of = λ x n g.
      let t = p.of x n g in
      let v = ir_at s 0 x n (document_at s x n g) in
      let h = fields_head 2 s 0 tt v.ir_version v.opens in
      let a = after_is (number_laws max_version (omega arith)) s t.each v.ir_version x.ir_version v.modules (version_agrees s v.ir_version _ _ v.ir_version_is) in
      entry_picked module_laws s t (reads_there (ap (after_item s) h ∙ a) v.modules_is);
}

-- the module after one that was opened stands at its end
pub module_next : (s : List ℕ) (k : ℕ) {at : ℕ} {l : Listed} {places rows : List ℕ} {near : Near} → PickedModule s k (Some at) → Opens s at l places rows → near ≡ record { list = after_item s (after_head s 0); number = k + 1; place = l.end } → KeptModule s (Some near)
unfolding Kept passed
module_next s k {at} p o e = rw e (record {
  of = λ x n g.
      let t = p.of x n g in
      let v = entry_given ((module_found s k p).of x n g) refl in
      let d = o.of v.item v.reads.end v.reads.is in
      record {
        of = λ many first c.
            d.end
            ∙ sym (after_is module_laws s t.each at v.item v.reads.end v.reads.is)
            ∙ ap (after_item s) ((up_here max_modules s _ k t refl).of many first c)
            ∙ passed_both 1 k s first;
      };
})

-- what is said in the module that a finding names
module _ (s : List ℕ) (owner site i j : ℕ) {f : Maybe ℕ} (g : PickedModule s owner f) where
  pub words_none : f ≡ None → SaysWords s owner site i j None
  unfolding saying_of saying_text message_of in_owner
  words_none q = record { of = λ x n c h. rw (entry_nothing ((module_found s owner g).of x n h) q) }

  pub words_said : {at : ℕ} {r : Maybe Said} → f ≡ Some at → SaysIn s at site i j r → SaysWords s owner site i j r
  unfolding message_of in_owner note_text
  words_said q w = record {
    of = λ x n c h.
        let v = entry_given ((module_found s owner g).of x n h) q in
        rw v.is (ap (saying_text site) (w.of v.item v.reads.end v.reads.is));
  }
