-- Names gathered once: each name of a table is found with its number, and what marks it marks the variables of the name.
use Rattle.std.specs.Prelude.{Option as Maybe, Some, None}
use Prim.Native.Nat.{ℕ, zero, suc, ◌+◌, ◌-◌, ◌*◌, ◌/◌, ◌<◌, ◌≤◌}
use mathlib.Core.Path.{◌≡◌, refl, sym, ap, subst, ◌∙◌}
use mathlib.Core.Logic.{◌⊎◌, inl, inr}
use mathlib.Core.Bool.{Bool, true, false, cond}
use mathlib.Core.List.{List}
use mathlib.Core.Option.{Option, none, some}
use native.Mathlib.Omega.{arith}
use native.Mathlib.Nat.{sub-zero}
use lib.ListN.{length, get_or, set, replicate, take, length-set, length-replicate, get_or-replicate}
use lib.Seq.{get_or-set_same, get_or-set_other, get_or-take, length-take-le}
use lib.Dec.{eqb, ltb}
use borrow.Author.Tests.{ltb-true, ltb-false}
use Rattle.reading.specs.Read.{pick}
use Rattle.reading.specs.Text.{Name}
use Rattle.reading.specs.Skip.{text_at}
use Rattle.reading.proofs.Rules.{no, by}
use Rattle.typing.specs.Names.{eq_name, member}
use Rattle.typing.specs.Env.{given}
use Rattle.typing.specs.Table.{find_first, found}
use Rattle.typing.specs.Lanes.{Lanes, Laned}
use Rattle.typing.proofs.NameLaws.{eq_name_eq, eq_name_refl}
use Rattle.typing.proofs.TableLaws.{given_at, given_pick}
use Rattle.typing.proofs.PathLaws.{found_at, found_none}
use Rattle.typing.proofs.LaneLaws.{put, words_kept, pair_laned, pair_value, pair_found}
use Rattle.findings.specs.Touch.{var_at, Touched, TouchesAll, Numbered, GathersName, Gathered, own_mark, HandedOn}
use Rattle.findings.proofs.TouchLaws.{last_or_before}

pick_same : (b c : Bool) → (b ≡ true → c ≡ true) → c ≡ pick b true c
unfolding pick
pick_same true c h = h refl
pick_same false c h = refl

-- a name is one of them already, or it is put after them
module _ {s : List ℕ} (at : ℕ) {once : List ℕ} {m : ℕ} {heads links : List ℕ} (g : Numbered s once m heads links) where
  pub name_known : {t : Name} {f : Maybe ℕ} {j : ℕ} → t ≡ text_at s at → f ≡ found (find_first s t once m) → f ≡ Some j → GathersName s at once m m once heads links
  name_known t e q = record {
    numbered = g;
    has = λ w. pick_same (eq_name (text_at s at) w) (given (find_first s w once m)) (λ z. sym (given_at (find_first s w once m) (rw (sym (eq_name_eq (text_at s at) w z), sym t) e) q));
  }

  pub name_new : {heads' links' : List ℕ} → m < 255 → Lanes s (put once m at m) (m + 1) heads' links' → length links' ≡ length links → GathersName s at once m (m + 1) (put once m at m) heads' links'
  name_new low l z = record {
    numbered = record { laned = pair_laned g.laned low at m l z; number = λ j h. own j (last_or_before j m h) };
    has = λ w. ap given (pair_found g.laned low at m w) ∙ given_pick (eq_name (text_at s at) w) m (find_first s w once m);
  }
    where
      own : (j : ℕ) → (j ≡ m) ⊎ (j < m) → get_or (put once m at m) (2 * j + 1) 0 ≡ j
      own j (inl q) = rw q (pair_value g.laned low at m)
      own j (inr h) = words_kept once m at m (2 * j + 1) (omega arith) ∙ g.number j h

-- variable by variable
module _ (s names : List ℕ) where
  pub gathered_start : {once heads links : List ℕ} → Laned 255 s once 0 heads links → Gathered s names 0 once 0 heads links
  gathered_start l = record { numbered = record { laned = l; number = λ j h. absurd (omega arith) }; has = λ j h. absurd (omega arith) }

  module _ {k : ℕ} {once : List ℕ} {m : ℕ} {heads links : List ℕ} (g : Gathered s names k once m heads links) where
    pub gathered_more : {r : ℕ} {once' heads' links' : List ℕ} → GathersName s (get_or names (2 * k) 0) once m r once' heads' links' → Gathered s names (k + 1) once' r heads' links'
    unfolding pick
    gathered_more p = record {
      numbered = p.numbered;
      has = λ j h. p.has (var_at s names j) ∙ had (last_or_before j k h);
    }
      where
        had : {j : ℕ} → (j ≡ k) ⊎ (j < k) → pick (eq_name (var_at s names k) (var_at s names j)) true (given (find_first s (var_at s names j) once m)) ≡ true
        had (inl q) = rw (q, eq_name_refl (var_at s names k))
        had {j} (inr h) = sym (pick_same (eq_name (var_at s names k) (var_at s names j)) _ (λ z. g.has j h)) ∙ g.has j h

    pub gathered_all : {n : ℕ} → n ≤ k → k ≤ n → Gathered s names n once m heads links
    gathered_all {n} a b = let q : k ≡ n = omega arith in subst (λ (i : ℕ). Gathered s names i once m heads links) q g

-- what is found is the number of a pair of the name
number_found : (s once : List ℕ) (w : Name) (m : ℕ) → ((j : ℕ) → j < m → get_or once (2 * j + 1) 0 ≡ j) → (i : ℕ) → find_first s w once m ≡ some i → (i < m) × (var_at s once i ≡ w)
unfolding find_first pick
number_found s once w zero f i e = no (cc)
number_found s once w (suc m) f i e =
    by (eq_name (var_at s once m) w)
    (λ q.
    let u : some (get_or once (2 * m + 1) 0) ≡ some i = rw q at e in
    let v : i ≡ m = let x = f m (omega arith) in cc in
    (omega arith, rw v (eq_name_eq (var_at s once m) w q)))
    (λ q. let r = number_found s once w m (λ j h. f j (omega arith)) i (rw q at e) in (let h = r.0 in omega arith, r.1))

-- whether the name at a place is marked
module _ (s : List ℕ) (at : ℕ) (once : List ℕ) (m : ℕ) (own : List ℕ) {w : Name} {f : Maybe ℕ} (t : w ≡ text_at s at) (e : f ≡ found (find_first s w once m)) where
  pub mark_room : {heads links : List ℕ} {j : ℕ} → Numbered s once m heads links → m ≤ length own → f ≡ Some j → j < length own
  mark_room {j = j} g l q = let h = (number_found s once w m g.number j (found_at _ e q)).0 in omega arith

  pub mark_found : {j : ℕ} → f ≡ Some j → eqb (get_or own j 0) 1 ≡ own_mark own (find_first s (text_at s at) once m)
  unfolding own_mark
  mark_found q = rw (sym t, found_at _ e q)

  pub mark_none : f ≡ None → false ≡ own_mark own (find_first s (text_at s at) once m)
  unfolding own_mark
  mark_none q = rw (sym t, found_none _ e q)

-- marks handed on, variable by variable
module _ (s names once : List ℕ) (m : ℕ) (own marks : List ℕ) where
  pub handed_start : HandedOn s names 0 once m own marks marks
  handed_start = record { size = refl; at = λ j h l. absurd (omega arith); other = λ j h. refl }

  module _ {k : ℕ} {marks' : List ℕ} (g : HandedOn s names k once m own marks marks') where
    module _ {b : Bool} (e : b ≡ own_mark own (find_first s (var_at s names k) once m)) where
      handed : (c : Bool) → b ≡ c → cond c 1 (get_or marks k 0) ≡ cond (own_mark own (find_first s (var_at s names k) once m)) 1 (get_or marks k 0)
      handed c q = ap (λ (x : Bool). cond x 1 (get_or marks k 0)) (sym q ∙ e)

      pub handed_hit : k < length marks' → b ≡ true → HandedOn s names (k + 1) once m own marks (set marks' k 1)
      handed_hit l q = record {
        size = length-set marks' k 1 ∙ g.size;
        at = λ j h a. here j a (last_or_before j k h);
        other = λ j h. get_or-set_other marks' k j 1 0 (λ z. omega arith) ∙ g.other j (omega arith);
      }
        where
          here : (j : ℕ) → j < length marks → (j ≡ k) ⊎ (j < k) → get_or (set marks' k 1) j 0 ≡ cond (own_mark own (find_first s (var_at s names j) once m)) 1 (get_or marks j 0)
          here j a (inl z) = rw z (get_or-set_same marks' k 1 0 l ∙ handed true q)
          here j a (inr h) = get_or-set_other marks' k j 1 0 (λ z. omega arith) ∙ g.at j h a

      pub handed_miss : b ≡ false → HandedOn s names (k + 1) once m own marks marks'
      handed_miss q = record { size = g.size; at = λ j h a. here j a (last_or_before j k h); other = λ j h. g.other j (omega arith) }
        where
          here : (j : ℕ) → j < length marks → (j ≡ k) ⊎ (j < k) → get_or marks' j 0 ≡ cond (own_mark own (find_first s (var_at s names j) once m)) 1 (get_or marks j 0)
          here j a (inl z) = rw z (g.other k (omega arith) ∙ handed false q)
          here j a (inr h) = g.at j h a

    -- all are passed, or all that have marks
    pub handed_all : {n : ℕ} → k ≤ n → (k < n → length marks' ≤ k) → HandedOn s names n once m own marks marks'
    handed_all {n} a f = record {
      size = g.size;
      at = λ j h l. by (ltb j k) (λ q. g.at j (ltb-true j k q) l) (λ q. let z = ltb-false j k q in let y = f (omega arith) in let x = g.size in absurd (omega arith));
      other = λ j h. g.other j (omega arith);
    }

mark_is : (b : Bool) {x : ℕ} → x ≡ cond b 1 0 → eqb x 1 ≡ b
mark_is true e = rw e
mark_is false e = rw e

-- the names gathered are touched, and their marks handed on
module _ (s rows names : List ℕ) {once : List ℕ} {m : ℕ} {heads links own own' marks marks' : List ℕ} (places : List ℕ) (count : ℕ) (g : Gathered s names (length names / 2) once m heads links) (few : m ≤ 255) (z : own ≡ replicate 256 0) where
  pub once_touched : TouchesAll s rows (take (2 * m - 0) once) own own' places count → HandedOn s names (length names / 2) once m own' marks marks' → TouchesAll s rows names marks marks' places count
  unfolding given own_mark
  once_touched t p = record {
    of = λ x c w q. record {
      size = p.size;
      at = λ k h l. p.at k h l ∙ ap (λ (b : Bool). cond b 1 (get_or marks k 0)) (marked (rw sub-zero at (t.of x c w q)) (var_at s names k) _ refl (g.has k h));
    };
  }
    where
      marked : {ns : List Name} → Touched s (take (2 * m) once) own ns own' → (w : Name) (o : Option ℕ) → find_first s w once m ≡ o → given o ≡ true → own_mark own' o ≡ member w ns
      marked u w none e h = no (cc)
      marked {ns} u w (some j) e h =
          let n = number_found s once w m g.numbered.number j e in
          let low = n.0 in
          let y = length-take-le (2 * m) once g.numbered.laned.lanes.table_room in
          let v : length own ≡ 256 = ap length z ∙ length-replicate {A = ℕ} 256 0 in
          let i : get_or own j 0 ≡ 0 = ap (λ (y : List ℕ). get_or y j 0) z ∙ get_or-replicate {A = ℕ} 256 j 0 0 (omega arith) in
          let a : var_at s (take (2 * m) once) j ≡ w = ap (text_at s) (get_or-take (2 * m) once (2 * j) 0 (omega arith)) ∙ n.1 in
          mark_is (member w ns) (u.at j (omega arith) (omega arith) ∙ rw (i, a))
