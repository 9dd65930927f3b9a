-- A reader reads what stands in its document at its offset.
use Prim.Native.Nat.{ℕ}
use mathlib.Core.Path.{◌≡◌, ap, ◌∙◌}
use mathlib.Core.List.{List}
use denote.Ref.{Bor}
use Rattle.reading.specs.Head.{read_head}
use Rattle.reading.specs.Link.{answer}
use Rattle.reading.specs.declared.reader.Reader.{Reader}

pub reads : (r : Reader) {s : Bor (List ℕ)} {at : ℕ} → (r.doc ≡ s) × (r.at ≡ at) → answer (read_head r.doc.now r.at) ≡ answer (read_head s.now at)
reads r {s} e = ap (λ (x : Bor (List ℕ)). answer (read_head x.now r.at)) e.0 ∙ ap (λ (i : ℕ). answer (read_head s.now i)) e.1
