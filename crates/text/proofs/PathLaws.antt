-- Whether a path stands at a place, and its names one by one.
use Prim.Native.Nat.{ℕ, zero, suc, ◌+◌, ◌-◌, ◌<◌, ◌≤◌}
use native.Mathlib.Numerals.{sub-one}
use native.Mathlib.Omega.{arith}
use mathlib.Core.Path.{◌≡◌, refl, sym, ap, ◌∙◌}
use mathlib.Core.Bool.{Bool, true, false}
use mathlib.Core.List.{List, [], ◌∷◌, ◌++◌}
use lib.ListN.{length}
use Rattle.reading.specs.Read.{Read, ok, refused, pick, bind, map_r}
use Rattle.reading.specs.Limits.{max_path}
use Rattle.reading.specs.Item.{read_count}
use Rattle.reading.specs.Text.{Name, read_name}
use Rattle.reading.specs.Combine.{entries, list_of}
use Rattle.reading.specs.Expr.{read_path}
use Rattle.reading.specs.Link.{answer}
use Rattle.reading.specs.Skip.{text_at}
use Rattle.reading.specs.declared.cursor.Cursor.{Cursor}
use Rattle.reading.specs.declared.fault.Fault.{Fault}
use Rattle.reading.proofs.Rules.{no}
use Rattle.reading.proofs.Answers.{got, out}
use Rattle.reading.proofs.ItemLaws.{count_kind}
use Rattle.reading.proofs.ListViews.{list_at}
use Rattle.reading.proofs.Walks.{name_text}
use Rattle.typing.specs.Table.{place_after}
use Rattle.typing.specs.Means.{names_of, path_at}
use Rattle.typing.proofs.EnvLaws.{entry}
use Rattle.text.specs.Form.{text}
use Rattle.text.specs.Shown.{quoted, more_names, debug_names}
use Rattle.text.specs.Path.{reads, names_from}
-- a name that is read, or not
use Rattle.std.specs.Prelude.{Result, Ok, Err}
use Rattle.reading.specs.declared.fault.Refusal.{Refusal}

place_ok : (m : Read Name) (v n : ℕ) → map_r length m ≡ ok v n → n ≡ place_after m
unfolding map_r place_after
place_ok (ok w k) v n e = cc
place_ok (refused f p) v n e = no (cc)

place_out : (m : Read Name) (f : Fault) (p : ℕ) → map_r length m ≡ refused f p → p ≡ place_after m
unfolding map_r place_after
place_out (ok w k) f p e = no (cc)
place_out (refused g k) f p e = cc

reads_ok : (m : Read Name) (v n : ℕ) → map_r length m ≡ ok v n → true ≡ reads m
unfolding map_r reads
reads_ok (ok w k) v n e = refl
reads_ok (refused f p) v n e = no (cc)

reads_out : (m : Read Name) (f : Fault) (p : ℕ) → map_r length m ≡ refused f p → false ≡ reads m
unfolding map_r reads
reads_out (ok w k) f p e = no (cc)
reads_out (refused g k) f p e = refl

module _ (m : Read Name) {r : Result (ℕ × Cursor) Refusal} (e : r ≡ answer (map_r length m)) where
  pub after_got : {v : ℕ} {c : Cursor} → r ≡ Ok (v, c) → c.at ≡ place_after m
  after_got {v} {c} q = place_ok m v c.at (got (map_r length m) e q)

  pub after_refused : {f : Refusal} → r ≡ Err f → f.place ≡ place_after m
  after_refused {f} q = place_out m f.fault f.place (out (map_r length m) e q)

-- names one after another
map_reads : {A B : Type 0} (g : A → B) (m : Read A) → reads (map_r g m) ≡ reads m
unfolding map_r reads
map_reads g (ok a n) = refl
map_reads g (refused f p) = refl

bind_reads : (n : ℕ) (s : List ℕ) (m : Read Name) → reads (bind m λ a j. map_r (λ l. a ∷ l) (entries n read_name s j)) ≡ pick (reads m) (reads (entries n read_name s (place_after m))) false
unfolding bind reads pick place_after
bind_reads n s (ok a j) = map_reads (λ l. a ∷ l) (entries n read_name s j)
bind_reads n s (refused f p) = refl

module _ (s : List ℕ) (k : ℕ) where
  entries_reads : (left : ℕ) → 0 < left → reads (entries left read_name s k) ≡ pick (reads (read_name s k)) (reads (entries (left - 1) read_name s (place_after (read_name s k)))) false
  unfolding entries
  entries_reads zero h = absurd (omega arith)
  entries_reads (suc n) h = bind_reads n s (read_name s k) ∙ rw sub-one

  module _ (count i : ℕ) {w : Bool} (r : reads (entries (count - i) read_name s k) ≡ w) where
    pub names_done : count ≤ i → true ≡ w
    unfolding entries reads
    names_done h = let z : count - i ≡ 0 = omega arith in rw z at r

    module _ {a : Result (ℕ × Cursor) Refusal} (e : a ≡ answer (map_r length (read_name s k))) (h : i < count) where
      pub names_stop : {f : Refusal} → a ≡ Err f → false ≡ w
      unfolding pick
      names_stop {f} q = let y = sym (reads_out (read_name s k) f.fault f.place (out (map_r length (read_name s k)) e q)) in rw y at (sym (entries_reads (count - i) (omega arith)) ∙ r)

      pub names_on : {v : ℕ} {c : Cursor} → a ≡ Ok (v, c) → reads (entries (count - (i + 1)) read_name s c.at) ≡ w
      unfolding pick
      names_on {v} {c} q =
          let y = sym (reads_ok (read_name s k) v c.at (got (map_r length (read_name s k)) e q)) in
          let z : count - (i + 1) ≡ count - i - 1 = omega arith in
          rw (after_got (read_name s k) e q, z) (rw y at (sym (entries_reads (count - i) (omega arith)) ∙ r))

-- the names that are read are those that are put
names_are : (s : List ℕ) (ns : List Name) (k n : ℕ) → entries (length ns) read_name s k ≡ ok ns n → names_from (length ns) s k ≡ ns
unfolding names_from place_after
names_are s [] k n e = refl
names_are s (x ∷ xs) k n e =
    let u = entry read_name s k x xs n e in
    rw (u.here, name_text s k x u.end u.here, names_are s xs u.end n u.rest)

none_read : (m : Read (List Name)) → reads m ≡ false → names_of m ≡ []
unfolding reads names_of
none_read (ok p n) e = no (cc)
none_read (refused f p) e = refl

some_read : (m : Read (List Name)) → reads m ≡ true → m ≡ ok (names_of m) (place_after m)
unfolding reads names_of place_after
some_read (ok p n) e = refl
some_read (refused f p) e = no (cc)

module _ (s : List ℕ) (at : ℕ) {a : Result (ℕ × Cursor) Refusal} (e : a ≡ answer (read_count max_path s at)) where
  pub path_refused : {f : Refusal} → a ≡ Err f → debug_names (path_at s at) ≡ text "[]"
  unfolding read_path list_of bind names_of debug_names
  path_refused q = rw (out _ e q)

  module _ {m : ℕ} {c : Cursor} (q : a ≡ Ok (m, c)) where
    pub path_few : m ≤ 8
    path_few = (count_kind s at max_path m c.at (got _ e q)).1

    path_read : read_path s at ≡ entries m read_name s c.at
    unfolding read_path list_of bind
    path_read = rw (got _ e q)

    module _ {b : Bool} (g : b ≡ reads (entries m read_name s c.at)) where
      pub path_none : b ≡ false → debug_names (path_at s at) ≡ text "[]"
      unfolding debug_names
      path_none h = ap debug_names (none_read (read_path s at) (ap reads path_read ∙ sym g ∙ h))

      pub path_names : b ≡ true → debug_names (path_at s at) ≡ debug_names (names_from m s c.at)
      unfolding read_path
      path_names h =
          let l = list_at read_name s max_path at (path_at s at) (place_after (read_path s at)) (some_read (read_path s at) (ap reads path_read ∙ sym g ∙ h)) in
          let x = got _ e q in
          let y = l.opens in
          let u : length (path_at s at) ≡ m = cc in
          let v : l.first ≡ c.at = cc in
          ap debug_names (sym (names_are s (path_at s at) l.first _ l.entries_are) ∙ ap (λ (z : ℕ). names_from z s l.first) u ∙ ap (names_from m s) v)

-- what is put of names from a place on
pub more_none : (n : ℕ) (s : List ℕ) (k : ℕ) → n ≤ 0 → more_names (names_from n s k) ≡ []
unfolding names_from more_names
more_none n s k h = let z : n ≡ 0 = omega arith in rw z

more_of : (n : ℕ) (s : List ℕ) (k : ℕ) {j : ℕ} → j ≡ place_after (read_name s k) → more_names (names_from (suc n) s k) ≡ text ", " ++ quoted (text_at s k) ++ more_names (names_from n s j)
unfolding names_from more_names
more_of n s k e = rw e

pub more_one : (count i : ℕ) (s : List ℕ) (k : ℕ) {j : ℕ} → i < count → j ≡ place_after (read_name s k) → more_names (names_from (count - i) s k) ≡ text ", " ++ quoted (text_at s k) ++ more_names (names_from (count - (i + 1)) s j)
more_one count i s k h e = let z : count - i ≡ suc (count - (i + 1)) = omega arith in rw z (more_of (count - (i + 1)) s k e)

pub list_none : (n : ℕ) (s : List ℕ) (k : ℕ) → n ≡ 0 → debug_names (names_from n s k) ≡ text "[]"
unfolding names_from debug_names
list_none n s k e = rw e

pub list_some : (n : ℕ) (s : List ℕ) (k : ℕ) {j : ℕ} → (n ≡ 0 → ⊥) → j ≡ place_after (read_name s k) → debug_names (names_from n s k) ≡ text "[" ++ quoted (text_at s k) ++ more_names (names_from (n - 1) s j) ++ text "]"
unfolding names_from debug_names
list_some zero s k z i = absurd (z refl)
list_some (suc n) s k z i = rw (sub-one, i)
