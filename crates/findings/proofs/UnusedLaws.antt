-- The marks of a module's variables say which are mentioned; and a note for each that is not.
use Prim.Native.Nat.{ℕ, zero, suc, ◌+◌, ◌-◌, ◌*◌, ◌/◌, ◌<◌, ◌≤◌}
use mathlib.Core.Path.{◌≡◌, ap, ◌∙◌}
use mathlib.Core.Bool.{Bool, true, false, cond, not}
use mathlib.Core.List.{List, [], ◌∷◌}
use mathlib.Core.Option.{some}
use native.Mathlib.Omega.{arith}
use native.Mathlib.Nat.{sub-zero}
use lib.ListN.{length, get_or, get_elem?, replicate, take, length-replicate, get_or-replicate}
use lib.Seq.{length-sets, length-take-le}
use lib.Dec.{eqb}
use Rattle.reading.specs.Read.{ok}
use Rattle.reading.specs.Limits.{max_list}
use Rattle.reading.specs.Text.{Name}
use Rattle.reading.specs.Combine.{entries, list_of}
use Rattle.reading.specs.Decl.{VarDecl, read_var_decl}
use Rattle.reading.specs.Module.{Module}
use Rattle.reading.specs.Skip.{text_at}
use Rattle.reading.proofs.Rules.{no}
use Rattle.reading.proofs.HeadSound.{Bytes}
use Rattle.reading.proofs.DeclLaws.{var_decl_laws}
use Rattle.reading.proofs.Views.{var_decl_at}
use Rattle.reading.proofs.ListViews.{list_at}
use Rattle.reading.proofs.Walks.{name_text}
use Rattle.typing.specs.Names.{member}
use Rattle.typing.specs.Table.{pairs_from, pairs_of, pairs_at, Filled}
use Rattle.typing.proofs.TableLaws.{pairs_length}
use Rattle.typing.proofs.EnvLaws.{entry, after_is, fields_head}
use Rattle.findings.specs.Lists.{Placed}
use Rattle.findings.specs.Finding.{Note, note, noted}
use Rattle.findings.specs.Mentions.{all_touched}
use Rattle.findings.specs.Warnings.{unused}
use Rattle.findings.specs.Noting.{Noted}
use Rattle.findings.specs.Scene.{Reads, Scene}
use Rattle.findings.specs.Touch.{var_at, Vars, VarsFilled, TouchesAll, Marked, MarksUsed, NotesUnmarked}
use Rattle.findings.specs.WarningPromises.{NotesUnused}
use Rattle.findings.proofs.NoteLaws.{note_as}
use Rattle.findings.proofs.EachLaws.{Left, left_all, get_some, get_below, each_from, each_turn, each_done}
use Rattle.findings.proofs.ClaimTables.{pairs_few, filled_front}

-- the name of variable i, by the table of a list of variables
module _ (s : List ℕ) (B : Bytes s) where
  var_from : (vs : List VarDecl) (k n : ℕ) → entries (length vs) read_var_decl s k ≡ ok vs n → (i : ℕ) (v : VarDecl) → get_elem? vs i ≡ some v → var_at s (pairs_from (length vs) s k) i ≡ v.name
  unfolding pairs_from
  var_from [] k n e i v q = no (cc)
  var_from (x ∷ vs) k n e zero v q =
      let u = entry read_var_decl s k x vs n e in
      let w = var_decl_at s k x u.end u.here in
      let z : x ≡ v = cc in
      ap (text_at s) (fields_head 3 s k tt w.name w.opens) ∙ name_text s w.name x.name w.ty w.name_is ∙ ap (λ (y : VarDecl). y.name) z
  var_from (x ∷ vs) k n e (suc i) v q =
      let u = entry read_var_decl s k x vs n e in
      let z : 2 * suc i ≡ suc (suc (2 * i)) = omega arith in
      let p = after_is var_decl_laws s B k x u.end u.here in
      rw z (ap (λ (j : ℕ). var_at s (pairs_from (length vs) s j) i) p ∙ var_from vs u.end n u.rest i v q)

  pub var_names : (at : ℕ) (vs : List VarDecl) → Reads (list_of max_list read_var_decl) s at vs → (length (pairs_at s at) ≡ 2 * length vs) × ((i : ℕ) (v : VarDecl) → get_elem? vs i ≡ some v → var_at s (pairs_at s at) i ≡ v.name)
  unfolding pairs_at pairs_of
  var_names at vs g =
      let l = list_at read_var_decl s max_list at vs g.end g.is in
      rw l.opens (pairs_length (length vs) s l.first, var_from vs l.first g.end l.entries_are)

-- the table of the variables: the pairs of a list
module _ (s : List ℕ) (at : ℕ) {o t : List ℕ} {r : ℕ} where
  pub vars_filled : Filled o (pairs_at s at) r t → Bytes s → length o ≡ 512 → VarsFilled s at r t
  vars_filled f B h = record { room = room; of = λ vs g. let n = var_names s B at vs g in rw front (record { room = n.0; at = n.1 }) }
    where
      room : r ≤ length t
      room = let l = ap length f.words ∙ length-sets o 0 (pairs_at s at) in omega (arith, f.many, pairs_few s at)

      front : take r t ≡ pairs_at s at
      front = filled_front o (pairs_at s at) (omega (arith, pairs_few s at)) f

module _ (s places rows : List ℕ) (count : ℕ) {at r : ℕ} {table m m' : List ℕ} (e : at ≡ get_or places 7 0) (f : VarsFilled s at r table) (few : r ≤ 510) (t : TouchesAll s rows (take (r - 0) table) m m' places count) (z : m ≡ replicate 256 0) where
  pub used_marked : MarksUsed s places rows count (r / 2) m'
  used_marked = record {
    many = λ x c. let i = (filled x c).room in omega (arith, size);
    of = λ x c w q. record {
      at = λ k v g.
          let p = filled x c in
          let u = t.of x c w q in
          let i = p.room in
          let l = get_below x.vars k v g in
          let a : get_or m k 0 ≡ 0 = ap (λ (y : List ℕ). get_or y k 0) z ∙ get_or-replicate {A = ℕ} 256 k 0 0 (omega (arith, size)) in
          let y : length m ≡ 256 = ap length z ∙ length-replicate {A = ℕ} 256 0 in
          u.at k (omega arith) (omega (arith, size))
          ∙ ap (cond (member (var_at s (take (r - 0) table) k) (all_touched x)) 1) a
          ∙ ap (λ (y : Name). cond (member y (all_touched x)) 1 0) (p.at k v g);
    };
  }
    where
      size : length (take (r - 0) table) ≡ r
      size = rw sub-zero (length-take-le r table f.room)

      filled : (x : Module) → Scene s places x → Vars s (take (r - 0) table) x.vars
      filled x c = rw sub-zero (f.of x.vars (rw e c.vars_are))

-- what is noted of a variable
abbrev unused_note : List Name → Placed VarDecl → List Note
unused_note used v = noted (not (member v.item.name used)) (note 23 v.place 0 0)

free_is : (b : Bool) {x : ℕ} → x ≡ cond b 1 0 → eqb x 0 ≡ not b
free_is true e = rw e
free_is false e = rw e

module _ (owner : ℕ) (o : List ℕ) (skip n : ℕ) (marks : List ℕ) (count : ℕ) where
  pub record UnmarkedLeft (k r : ℕ) (o' : List ℕ) : Type 0 where
    pub of : (used : List Name) (vs : List VarDecl) → Marked marks used vs → count ≡ length vs → Left owner o skip n (unused used vs) r o' (each_from (unused_note used) k vs)

  pub unmarked_start : UnmarkedLeft 0 n o
  unfolding unused
  unmarked_start = record { of = λ used vs w q. left_all owner o skip n (unused used vs) }

  module _ (k r : ℕ) {o' : List ℕ} (g : UnmarkedLeft k r o') where
    pub unmarked_more : {free : Bool} {r' : ℕ} {o'' : List ℕ} → k < count → free ≡ eqb (get_or marks k 0) 0 → Noted owner o' skip r (noted free (note 23 k 0 0)) r' o'' → UnmarkedLeft (k + 1) r' o''
    unmarked_more {free} h e p = record {
      of = λ used vs w q.
          let x = get_some vs k (omega arith) in
          let y : free ≡ not (member x.0.name used) = e ∙ free_is (member x.0.name used) (w.at k x.0 x.1) in
          each_turn (unused_note used) k vs x.0 x.1 (g.of used vs w q) (note_as owner (unused_note used (record { place = k; item = x.0 })) (ap (λ (b : Bool). noted b (note 23 k 0 0)) y) p);
    }

    pub unmarked_done : count ≤ k → NotesUnmarked owner o skip n r o' marks count
    unmarked_done h = record { of = λ used vs w q. each_done (unused_note used) k vs (omega arith) (g.of used vs w q) }

pub unused_noted : (s : List ℕ) (owner : ℕ) (o : List ℕ) (skip n r : ℕ) (o' rows : List ℕ) (count : ℕ) (places : List ℕ) {v : ℕ} {m : List ℕ} → MarksUsed s places rows count v m → NotesUnmarked owner o skip n r o' m v → NotesUnused s owner o skip n r o' rows count places
unused_noted s owner o skip n r o' rows count places u p = record { of = λ x c w q. p.of (all_touched x) x.vars (u.of x c w q) (u.many x c) }
