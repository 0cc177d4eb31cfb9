-- What is no Punct changes nothing; else its parentheses are added, which fit, and it is a hit where they balance and it compares.
use native.Mathlib.Omega.{arith}
use Rattle.clips.proofs.Clips.{kind_same}
use Rattle.comparisons.proofs.Looking.{step_other, step_hit, step_dull, step_inside, within_fits}
use Rattle.comparisons.proofs.looks.look_at.Goals as goal
use Rattle.comparisons.proofs.looks.look_at.Goals.{else-opens-closes-via-then-opens-closes+else-compares, else-opens-closes-via-else-opens-closes}

pub returns-then-kind_at-ne-PUNCT : goal.returns-then-kind_at-ne-PUNCT
returns-then-kind_at-ne-PUNCT c = let a = c.args in step_other a.lowered.now a.source.now a.c a.k a.l _ (kind_same _ _ _ c.place.ensures _ c.kind_at.ensures) c.if-kind_at-ne-PUNCT.true

pub overflow_add-opens : goal.overflow_add-opens
overflow_add-opens c = let a = c.args in let f = (within_fits a.lowered.now a.source.now a.c a.k a.l _ _ _ _ c.requires c.clip_from-from.ensures c.clip_to-to.ensures c.count_between.ensures).0 in omega arith

pub overflow_add-closes : goal.overflow_add-closes
overflow_add-closes c = let a = c.args in let f = (within_fits a.lowered.now a.source.now a.c a.k a.l _ _ _ _ c.requires c.clip_from-from.ensures c.clip_to-to.ensures c.count_between-2.ensures).1 in omega arith

pub returns-then-compares : goal.returns-then-compares
returns-then-compares c = let a = c.args in step_hit a.lowered.now a.source.now a.c a.k a.l _ _ _ _ _ (kind_same _ _ _ c.place.ensures _ c.kind_at.ensures) c.if-kind_at-ne-PUNCT.false c.clip_from-from.ensures c.clip_to-to.ensures c.count_between.ensures c.count_between-2.ensures _ c.if-opens-closes.true c.compares.ensures c.if-compares.true

pub returns : goal.returns
returns c = let a = c.args in
    let six = c.if-kind_at-ne-PUNCT.false in
    let kind = kind_same _ _ _ c.place.ensures _ c.kind_at.ensures in
    elim c.else-opens-closes.branch [
      | else-opens-closes-via-then-opens-closes+else-compares w ↦
          step_dull a.lowered.now a.source.now a.c a.k a.l _ _ _ _ _ kind six c.clip_from-from.ensures c.clip_to-to.ensures c.count_between.ensures c.count_between-2.ensures _ w.if-opens-closes.true w.compares.ensures w.if-compares.false
      | else-opens-closes-via-else-opens-closes w ↦
          step_inside a.lowered.now a.source.now a.c a.k a.l _ _ _ _ _ kind six c.clip_from-from.ensures c.clip_to-to.ensures c.count_between.ensures c.count_between-2.ensures w.if-opens-closes.false
    ]
