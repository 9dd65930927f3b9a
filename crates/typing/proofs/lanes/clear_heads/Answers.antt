use mathlib.Core.Path.{◌∙◌, sym, refl}
use native.Mathlib.Omega.{arith}
use Rattle.std.proofs.lemmas.List.{length-take-le}
use Rattle.typing.proofs.LaneLaws.{cleared}
use Rattle.typing.proofs.lanes.clear_heads.Goals as goal

pub slice_bounds-fill-end-2 : goal.slice_bounds-fill-end-2
slice_bounds-fill-end-2 c = sym (length-take-le 1024 c.args.heads.now (omega arith))

pub returns : goal.returns
returns c =
    let n = length-take-le 1024 c.args.heads.now (omega arith) in
    cleared c.args.heads.now c.args.key _ c.requires (c.fill.ensures.len ∙ n) (λ h l. c.fill.ensures.clones h 0 (omega arith) refl)
