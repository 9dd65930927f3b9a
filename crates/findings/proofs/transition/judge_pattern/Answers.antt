-- The bindings are put on their lanes, if there are any.
use native.Mathlib.Omega.{arith}
use mathlib.Core.Path.{◌∙◌}
use Rattle.findings.proofs.TransitionLaws.{front_kept, judged_unbound, judged_bound}
use Rattle.findings.proofs.transition.judge_pattern.Goals as goal

pub returns-then-p-eq0 : goal.returns-then-p-eq0
returns-then-p-eq0 c =
    let p = c.bind_pattern-p.ensures in
    record {
      judges_own = judged_unbound _ _ _ _ _ c.requires p.judges_pattern p.spares.kept c.if-p-eq0.true;
      table_len_unchanged = omega arith;
      table_unchanged = p.spares.kept;
      le_names = omega arith;
      names_bound = omega arith;
    }

pub returns : goal.returns
returns c =
    let p = c.bind_pattern-p.ensures in
    let w = c.weave.ensures in
    record {
      judges_own = judged_bound _ _ _ _ _ c.requires p.judges_pattern p.spares.few p.spares.kept w;
      table_len_unchanged = omega arith;
      table_unchanged = front_kept _ _ _ w ∙ p.spares.kept;
      le_names = omega arith;
      names_bound = omega arith;
    }
