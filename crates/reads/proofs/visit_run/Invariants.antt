-- A step at the nodes from j to b gives at every turn what it gives from a on, whatever function says what it does; at the end no node is left.
use Rattle.std.proofs.Common.{◌≡◌, List, ℕ, length, MutBor}
use Rattle.reads.specs.Counts.{visit, slots, between}
use Rattle.reads.proofs.visit_run.Given as goal

abbrev pub invariant-loop-j : goal.invariant-loop-j
invariant-loop-j g l =
    ((h : List ℕ → ℕ → List ℕ) → ((t : MutBor (List ℕ)) (i : ℕ) (u : MutBor (List ℕ)) → goal.F-post g l.step t i tt u → u.now ≡ h t.now i)
    → visit h l.initial.tab (slots l.numbers l.base (between l.order l.a l.b)) ≡ visit h l.tab (slots l.numbers l.base (between l.order l.j l.b)))
    × (length l.tab ≡ length l.initial.tab)
