-- The filling of a table of outputs: a roll is not changed by what is put behind it or aside for it, and so each group's variants keep theirs.
use Prim.Native.Nat.{ℕ, ◌+◌, ◌*◌, ◌/◌, ◌%◌, ◌^◌, ◌<◌, ◌≤◌}
use mathlib.Core.Path.{◌≡◌, refl, sym, ap, ◌∙◌}
use mathlib.Core.Bool.{Bool, true, false}
use mathlib.Core.List.{List}
use mathlib.Core.Option.{some}
use native.Mathlib.Decide.{ℕ_discrete}
use native.Mathlib.Omega.{arith}
use lib.ListN.{length, get_or, get_elem?, set, take, length-set}
use lib.Seq.{get_or-set_same, get_or-set_other}
use Rattle.reading.specs.Read.{ok}
use Rattle.reading.specs.Limits.{max_list}
use Rattle.reading.specs.Item.{read_count}
use Rattle.reading.specs.Combine.{list_of}
use Rattle.reading.specs.Decl.{ConstructorGroup, read_constructor_variant, read_constructor_group}
use Rattle.reading.specs.Skip.{text_at}
use Rattle.reading.specs.Views.{ListAt}
use Rattle.reading.proofs.DeclLaws.{constructor_group_laws}
use Rattle.reading.proofs.ListViews.{list_at}
use Rattle.typing.specs.Lanes.{print_by, factor}
use Rattle.typing.specs.Table.{after_item, after_head, Past}
use Rattle.typing.specs.Segments.{after_items}
use Rattle.typing.specs.Rolls.{Bytes, many_in, name_at, aside_of, Rolled, PutsRoll, item_in, roll_in, variants_in, OutputsAt, RollsOne, FillsOutputs}
use Rattle.typing.proofs.BlockLaws.{word_kept}
use Rattle.typing.proofs.ChainLaws.{chained_same}
use Rattle.typing.proofs.EnvLaws.{after_is}
use Rattle.typing.proofs.GroupLaws.{group_parts}
use Rattle.typing.proofs.OutputLaws.{get_less, entry_at, variants_at}

-- a roll depends on its own words only, and on its index words only below 2 ^ 48
low_print : (x y : ℕ) → x % 2 ^ 48 ≡ y % 2 ^ 48 → x % 2 ^ 32 ≡ y % 2 ^ 32
low_print x y e = omega arith

low_hint : (x y : ℕ) → x % 2 ^ 48 ≡ y % 2 ^ 48 → x / 2 ^ 32 % 2 ^ 8 ≡ y / 2 ^ 32 % 2 ^ 8
low_hint x y e = omega arith

low_next : (x y : ℕ) → x % 2 ^ 48 ≡ y % 2 ^ 48 → x / 2 ^ 40 % 2 ^ 8 ≡ y / 2 ^ 40 % 2 ^ 8
low_next x y e = omega arith

module _ {tagged : Bool} {s T : List ℕ} (T' : List ℕ) {q first n : ℕ} (r : Rolled tagged s T q first n) (l : length T' ≡ length T) (g : (j : ℕ) → q ≤ j → j < q + 1 + n → get_or T' j 0 ≡ get_or T j 0) (d : (i : ℕ) → i < n → get_or T' (q + 1 + n + i) 0 % 2 ^ 48 ≡ get_or T (q + 1 + n + i) 0 % 2 ^ 48) where
  rolled_kept : Rolled tagged s T' q first n
  rolled_kept =
      let m = r.room in
      let w = g q (omega arith) (omega arith) in
      record {
        many = ap (λ (x : ℕ). x % 2 ^ 8) w ∙ r.many;
        few = r.few;
        room = omega arith;
        item = λ i a. g (q + 1 + i) (omega arith) (omega arith) ∙ r.item i a;
        print_is = λ i a. low_print _ _ (d i a) ∙ r.print_is i a ∙ ap (λ (x : ℕ). print_by (factor (x / 2 ^ 8)) 0 (text_at s (name_at tagged s (after_items i s first)))) (sym w);
        hinted = chained_same r.hinted (λ i a. low_print _ _ (d i a)) (λ i a. low_hint _ _ (d i a)) (λ i a. low_next _ _ (d i a));
      }

-- no roll for the variants of one group
pub roll_none : (s T : List ℕ) (n k : ℕ) {q : ℕ} (T' : List ℕ) → 1 + n + k < q → q ≤ length T → length T' ≡ length T → take q T' ≡ take q T → RollsOne s T n k q q T'
roll_none s T n k {q} T' before room l t =
    let o = word_kept T T' q t in
    record {
      size = l;
      more = omega arith;
      room = room;
      few = omega arith;
      kept = λ j c d. o j c;
      index_kept = ap (λ (x : ℕ). x % 2 ^ 48) (o (1 + n + k) before);
      none_put = λ e. o (1 + n + k) before;
      put = λ e. absurd (omega arith);
    }

-- a roll for them
module _ (s T : List ℕ) {n k q : ℕ} (before : 1 + n + k < q) (room : q ≤ length T) {r name list : ℕ} {T' : List ℕ} (a : name ≡ after_head s (get_or T (1 + k) 0)) (b : Past s name list) (p : PutsRoll true s list T q r T') where
  pub roll_put : (r ≡ 0 → ⊥) → r ≤ 511 → RollsOne s T n k q (q + r) (set T' (1 + n + k) (get_or T' (1 + n + k) 0 % 2 ^ 48 + q * 2 ^ 48))
  roll_put z few =
      let x = 1 + n + k in
      let v = get_or T' x 0 % 2 ^ 48 + q * 2 ^ 48 in
      let y = p.size in
      let o = word_kept T T' q p.kept in
      let w = o x before in
      let e = get_or-set_same T' x v 0 (omega arith) in
      let c : (j : ℕ) → q ≤ j → get_or (set T' x v) j 0 ≡ get_or T' j 0 = λ j h. get_or-set_other T' x j v 0 (λ (i : j ≡ x). omega arith) in
      record {
        size = length-set T' x v ∙ p.size;
        more = omega arith;
        room = p.room;
        few = omega arith;
        kept = λ j h d. get_or-set_other T' x j v 0 d ∙ o j h;
        index_kept = omega arith;
        none_put = λ h. absurd (omega arith);
        put = λ h. (
          omega arith,
          λ m from u.
              let g = p.has (omega arith) m from (ap (read_count max_list s) (variants_at s T k refl a b) ∙ u) in
              let i = g.0 in
              (omega arith, rolled_kept (set T' x v) g.1 (length-set T' x v) (λ j d f. c j d) (λ j d. ap (λ (y : ℕ). y % 2 ^ 48) (c (q + 1 + m + j) (omega arith)))),
        );
      }

-- group by group: those before group k are through, and their rolls lie behind that of the groups and before word q
module _ (s T : List ℕ) (n : ℕ) where
  pub record Behind (j q : ℕ) (T' : List ℕ) : Type 0 where
    pub of : 0 < aside_of (get_or T' (1 + n + j) 0) → (m from : ℕ) → read_count max_list s (variants_in s T j) ≡ ok m from → (2 * n + 1 ≤ aside_of (get_or T' (1 + n + j) 0)) × (aside_of (get_or T' (1 + n + j) 0) + 2 * m + 1 ≤ q) × Rolled true s T' (aside_of (get_or T' (1 + n + j) 0)) from m

  pub record Rolling (k q : ℕ) (T' : List ℕ) : Type 0 where
    pub many : n ≡ many_in T 0
    pub size : length T' ≡ length T
    pub through : k ≤ n
    pub few : n ≤ 255
    pub low : 2 * n + 1 ≤ q
    pub room : q ≤ length T
    pub bare : (j : ℕ) → j < n → get_or T (1 + n + j) 0 < 2 ^ 48
    pub kept : (j : ℕ) → j < 1 + n → get_or T' j 0 ≡ get_or T j 0
    pub later : (j : ℕ) → k ≤ j → j < n → get_or T' (1 + n + j) 0 ≡ get_or T (1 + n + j) 0
    pub index_kept : (j : ℕ) → j < n → get_or T' (1 + n + j) 0 % 2 ^ 48 ≡ get_or T (1 + n + j) 0 % 2 ^ 48
    pub rolls : (j : ℕ) → j < k → Behind j q T'

  pub rolling_start : {at r : ℕ} {T₀ : List ℕ} → PutsRoll false s at T₀ 0 r T → 0 < r → n ≡ many_in T 0 → Rolling 0 r T
  rolling_start p z e =
      let c = p.count z in
      let y = p.size in
      let m = p.room in
      record {
        many = e;
        size = refl;
        through = omega arith;
        few = omega arith;
        low = omega arith;
        room = omega arith;
        bare = λ j a. rw e (p.bare z j (omega arith));
        kept = λ j a. refl;
        later = λ j a b. refl;
        index_kept = λ j a. refl;
        rolls = λ j a. absurd (omega arith);
      }

  module _ {k q : ℕ} {T' : List ℕ} (g : Rolling k q T') where
    variants_kept : (j : ℕ) → j < n → variants_in s T' j ≡ variants_in s T j
    variants_kept j a = ap (λ (x : ℕ). after_item s (after_head s x)) (g.kept (1 + j) (omega arith))

    pub rolling_more : {r : ℕ} {T'' : List ℕ} → k < n → RollsOne s T' n k q r T'' → Rolling (k + 1) r T''
    rolling_more {r} {T''} h o =
        let l = g.low in
        let m = o.more in
        let c = o.room in
        let y = g.size in
        record {
          many = g.many;
          size = o.size ∙ g.size;
          through = omega arith;
          few = g.few;
          low = omega arith;
          room = omega arith;
          bare = g.bare;
          kept = λ j a. o.kept j (omega arith) (λ (e : j ≡ 1 + n + k). omega arith) ∙ g.kept j a;
          later = λ j a b. o.kept (1 + n + j) (omega arith) (λ (e : 1 + n + j ≡ 1 + n + k). omega arith) ∙ g.later j (omega arith) b;
          index_kept = λ j a. index j a (ℕ_discrete j k);
          rolls = λ j a. behind j a (ℕ_discrete j k);
        }
      where
        other : (j : ℕ) → j < n → (j ≡ k → ⊥) → get_or T'' (1 + n + j) 0 ≡ get_or T' (1 + n + j) 0
        other j a d = let l = g.low in o.kept (1 + n + j) (omega arith) (λ (e : 1 + n + j ≡ 1 + n + k). d (omega arith))

        index : (j : ℕ) → j < n → Dec (j ≡ k) → get_or T'' (1 + n + j) 0 % 2 ^ 48 ≡ get_or T (1 + n + j) 0 % 2 ^ 48
        index j a (yes e) = rw e (o.index_kept ∙ g.index_kept k h)
        index j a (no d) = ap (λ (x : ℕ). x % 2 ^ 48) (other j a d) ∙ g.index_kept j a

        turn : Dec (r ≡ q) → Behind k r T''
        turn (yes e) = record { of = λ z. let i = o.none_put e in let j = g.later k (omega arith) h in let b = g.bare k h in absurd (omega arith) }
        turn (no d) =
            let m = o.more in
            let l = g.low in
            let p = o.put (omega arith) in
            let i = p.0 in
            record { of = λ z m from u. let x = p.1 m from (ap (read_count max_list s) (variants_kept k h) ∙ u) in let f = x.0 in (omega arith, omega arith, rw i x.1) }

        behind : (j : ℕ) → j < k + 1 → Dec (j ≡ k) → Behind j r T''
        behind j a (yes e) = rw e (turn (ℕ_discrete r q))
        behind j a (no d) =
            let t = g.through in
            let w = other j (omega arith) d in
            let v = g.rolls j (omega arith) in
            let m = o.more in
            record {
              of = λ z m from u.
                  let x = v.of (rw w at z) m from u in
                  let b = x.0 in
                  let f = x.1 in
                  let c : (i : ℕ) → 2 * n + 1 ≤ i → i < q → get_or T'' i 0 ≡ get_or T' i 0 = λ i a b. o.kept i b (λ (e : i ≡ 1 + n + k). omega arith) in
                  rw w (b, omega arith, rolled_kept T'' x.2 o.size (λ i y b. c i (omega arith) (omega arith)) (λ i y. ap (λ (e : ℕ). e % 2 ^ 48) (c _ (omega arith) (omega arith))));
            }

    -- for whatever list of groups reads there
    module _ {at r : ℕ} {T₀ : List ℕ} (p : PutsRoll false s at T₀ 0 r T) (z : 0 < r) (end : n ≤ k) where
      module _ (B : Bytes s) (gs : List ConstructorGroup) (e : ℕ) (u : ListAt max_list read_constructor_group s at gs e) where
        first_put : Rolled false s T 0 u.first (length gs)
        first_put = (p.has z (length gs) u.first u.opens).1

        all : n ≡ length gs
        all = g.many ∙ first_put.many

        groups : Rolled false s T' 0 u.first (length gs)
        groups = rw (sym all) (rolled_kept T' (rw (sym all) at first_put) g.size (λ j a b. g.kept j b) (λ j a. g.index_kept j a))

        place : (j : ℕ) (y : ConstructorGroup) → get_elem? gs j ≡ some y → item_in T' 0 j ≡ after_items j s u.first
        place j y a = groups.item j (get_less gs j y a)

        parts : (j : ℕ) (y : ConstructorGroup) → get_elem? gs j ≡ some y → (text_at s (after_head s (item_in T' 0 j)) ≡ y.name) × (m : ℕ) × (list_of max_list read_constructor_variant s (variants_in s T' j) ≡ ok y.variants m)
        parts j y a =
            let v = entry_at read_constructor_group s (after_is constructor_group_laws s B) gs u.first e u.entries_are j y a in
            let w = group_parts s B (after_items j s u.first) y v.0 v.1 in
            rw (place j y a) (w.0, v.0, w.1)

        rolls : (j : ℕ) (y : ConstructorGroup) → get_elem? gs j ≡ some y → 0 < roll_in T' j → (m from : ℕ) × (read_count max_list s (variants_in s T' j) ≡ ok m from) × Rolled true s T' (roll_in T' j) from m
        rolls j y a h =
            let v = parts j y a in
            let i = get_less gs j y a in
            let d = all in
            let o = list_at read_constructor_variant s max_list (variants_in s T' j) y.variants v.1 v.2 in
            let c : many_in T' 0 ≡ n = groups.many ∙ sym all in
            (length y.variants, o.first, o.opens, rw c ((g.rolls j (omega arith)).of (rw c at h) (length y.variants) o.first (ap (read_count max_list s) (sym (variants_kept j (omega arith))) ∙ o.opens)).2)

        outputs : OutputsAt s T' gs
        outputs = record { first = u.first; groups = groups; name_is = λ j y a. (parts j y a).0; variants_are = λ j y a. ((parts j y a).1, (parts j y a).2); rolls = rolls }

      pub rolling_done : FillsOutputs s at T₀ T'
      rolling_done = record { size = g.size ∙ p.size; of = λ B gs e l. outputs B gs e (list_at read_constructor_group s max_list at gs e l) }
