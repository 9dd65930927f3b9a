-- Tables of places while they are filled: what is still to come, put from the next word on, makes the whole.
use Prim.Native.Nat.{ℕ, zero, suc, ◌+◌, ◌-◌, ◌*◌, ◌<◌, ◌≤◌}
use mathlib.Core.Path.{◌≡◌, refl, sym, ap, subst, ◌∙◌}
use mathlib.Core.List.{List, [], ◌∷◌, ◌++◌}
use native.Mathlib.Omega.{arith}
use lib.ListN.{length, set, length-set}
use lib.Seq.{sets, length-sets}
use Rattle.reading.specs.Read.{Reader, ok}
use Rattle.reading.specs.Limits.{max_list}
use Rattle.reading.specs.Item.{read_count}
use Rattle.reading.specs.Link.{answer}
use Rattle.reading.specs.declared.cursor.Cursor.{Cursor}
use Rattle.reading.proofs.Rules.{no}
use Rattle.reading.proofs.Answers.{got, out}
use Rattle.reading.proofs.ItemLaws.{count_kind}
use Rattle.typing.specs.Table.{after_item, after_head, Past}
use Rattle.findings.specs.Scene.{row_from, end_from, row_at, row_end, rows_from, rows_end, rows_of, rows_at, RowsFilled, Reads}
use Rattle.findings.specs.declared.rows.Listed.{Listed}
-- what reads at a place reads at that place by another name
use Rattle.std.specs.Prelude.{Result, Ok, Err}
use Rattle.reading.specs.declared.fault.Refusal.{Refusal}

pub moved : {A : Type 0} {F : Reader A} {s : List ℕ} {a b : ℕ} {x : A} → a ≡ b → Reads F s b x → Reads F s a x
moved {F} {s} {x} e g = subst (λ (k : ℕ). Reads F s k x) (sym e) g

-- so many items are left, the next at k; its place goes to word w
pub record RowLeft (s : List ℕ) (fields at : ℕ) (table : List ℕ) (j left k w : ℕ) (now : List ℕ) : Type 0 where
  pub size : length now ≡ length table
  pub rest : sets now w (row_from left s k) ≡ sets table j (row_at fields s at)
  pub end : end_from left s k ≡ row_end fields s at

module _ (s : List ℕ) (fields at : ℕ) (table : List ℕ) (j : ℕ) where
  pub row_start : {k : ℕ} → k ≡ after_head s at → RowLeft s fields at table j (fields - 0) k (j + 0) table
  row_start {k} e = rw (e, zero_right j, zero_less fields) (record { size = refl; rest = refl; end = refl })
    where
      zero_right : (n : ℕ) → n + 0 ≡ n
      zero_right n = omega arith

      zero_less : (n : ℕ) → n - 0 ≡ n
      zero_less n = omega arith

  pub row_more : {f k k' w : ℕ} {now now' : List ℕ} → RowLeft s fields at table j (fields - f) k (j + f) now → f < fields → w ≡ j + f → now' ≡ set now w k → Past s k k' → RowLeft s fields at table j (fields - (f + 1)) k' (j + (f + 1)) now'
  unfolding row_from end_from
  row_more {f} {k} {k'} {w} {now} g h a b p =
      let z : fields - f ≡ suc (fields - (f + 1)) = omega arith in
      let y : j + (f + 1) ≡ suc (j + f) = omega arith in
      let u = rw z at g.rest in
      let v = rw z at g.end in
      rw (y, b, a, p.is) (record { size = length-set now (j + f) k ∙ g.size; rest = u; end = v })

  module _ {f k : ℕ} {now : List ℕ} (g : RowLeft s fields at table j (fields - f) k (j + f) now) (h : fields ≤ f) where
    pub row_ends : k ≡ row_end fields s at
    unfolding end_from
    row_ends = let z : fields - f ≡ 0 = omega arith in rw z at g.end

    pub row_filled : now ≡ sets table j (row_at fields s at)
    unfolding row_from
    row_filled = let z : fields - f ≡ 0 = omega arith in rw z at g.rest

pub row_length : (f : ℕ) (s : List ℕ) (k : ℕ) → length (row_from f s k) ≡ f
unfolding row_from
row_length zero s k = refl
row_length (suc f) s k = ap suc (row_length f s (after_item s k))

pub sets_append : (o : List ℕ) (j : ℕ) (xs ys : List ℕ) → sets o j (xs ++ ys) ≡ sets (sets o j xs) (j + length xs) ys
sets_append o j [] ys = ap (λ (n : ℕ). sets o n ys) (omega arith)
sets_append o j (x ∷ xs) ys = sets_append (set o j x) (suc j) xs ys ∙ ap (λ (n : ℕ). sets (sets (set o j x) (suc j) xs) n ys) (omega arith)

-- i transitions are done, the next stands at k; its row goes to word 8 * i
module _ (s : List ℕ) (at : ℕ) (table : List ℕ) where
  pub record RowsLeft (count i k : ℕ) (now : List ℕ) : Type 0 where
    pub first : ℕ
    pub opens : read_count max_list s at ≡ ok count first
    pub most : count ≤ 255
    pub size : length now ≡ length table
    pub rest : sets now (8 * i) (rows_from (count - i) s k) ≡ sets table 0 (rows_at s at)
    pub end : rows_end (count - i) s k ≡ rows_end count s first

  module _ {a : Result (ℕ × Cursor) Refusal} (e : a ≡ answer (read_count max_list s at)) where
    pub rows_refused : {f : Refusal} (r : Listed) → a ≡ Err f → RowsFilled s at table r table
    unfolding rows_at rows_of
    rows_refused r q =
        let w = out _ e q in
        record { words = rw w; of = λ c k g. no (cc) }

    pub rows_start : {count : ℕ} {c : Cursor} → a ≡ Ok (count, c) → RowsLeft count 0 c.at table
    unfolding rows_at rows_of
    rows_start {count} {c} q =
        let w = got _ e q in
        let m = count_kind s at max_list count c.at w in
        let o = m.1 in
        let sub0 : count - 0 ≡ count = omega arith in
        record { first = c.at; opens = w; most = omega arith; size = refl; rest = rw (sub0, w); end = rw sub0 }

  module _ {count i k : ℕ} {now : List ℕ} (g : RowsLeft count i k now) where
    pub rows_more : {k' : ℕ} {now' : List ℕ} → i < count → (k' ≡ row_end 8 s k) × (now' ≡ sets now (8 * i) (row_at 8 s k)) → RowsLeft count (i + 1) k' now'
    unfolding rows_from rows_end
    rows_more {k'} {now'} h p =
        let left = count - (i + 1) in
        let z : count - i ≡ suc left = omega arith in
        let l : 8 * i + length (row_at 8 s k) ≡ 8 * (i + 1) = omega (arith, row_length 8 s (after_head s k)) in
        let u : sets now' (8 * (i + 1)) (rows_from left s k') ≡ sets table 0 (rows_at s at) = rw (p.1, p.0) (ap (λ (n : ℕ). sets (sets now (8 * i) (row_at 8 s k)) n (rows_from left s (row_end 8 s k))) (sym l) ∙ sym (sets_append now (8 * i) (row_at 8 s k) (rows_from left s (row_end 8 s k))) ∙ rw z at g.rest) in
        record {
          first = g.first;
          opens = g.opens;
          most = g.most;
          size = ap length p.1 ∙ length-sets now (8 * i) (row_at 8 s k) ∙ g.size;
          rest = u;
          end = ap (rows_end left s) p.0 ∙ rw z at g.end;
        }

    pub rows_done : count ≤ i → RowsFilled s at table (record { count = count; end = k }) now
    unfolding rows_from rows_end
    rows_done h =
        let z : count - i ≡ 0 = omega arith in
        let w = rw z at g.end in
        let v = rw z at g.rest in
        record {
          words = v;
          of = λ c f q.
              let o = g.opens in
              let x : count ≡ c = cc in
              let y : g.first ≡ f = cc in
              (x, w ∙ ap (rows_end count s) y ∙ ap (λ (n : ℕ). rows_end n s f) x);
        }
