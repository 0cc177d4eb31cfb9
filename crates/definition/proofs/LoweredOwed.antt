-- What lowering owes to the structuring theorems, gathered, and that every accepted file's function gives it: the refusals supply the premises of the other files.
use mathlib.Core.Path.{◌≡◌}
use mathlib.Core.Bool.{true, false}
use mathlib.Core.List.{List, map}
use Prim.Native.Nat.{ℕ, ◌≤◌}
use lib.Dec.{ltb}
use lib.ListN.{length}
use Rattle.definition.specs.Edition.{Edition}
use Rattle.definition.specs.Lists.{all, only, count, among}
use Rattle.definition.specs.Shape.{refused4}
use Rattle.definition.specs.References.{refused5}
use Rattle.definition.specs.Meaning.{refused6}
use Rattle.definition.specs.Ssa.{Function}
use Rattle.definition.specs.Read.{read}
use Rattle.definition.specs.Offsets.{Known}
use Rattle.definition.specs.Numbers.{label}
use Rattle.definition.specs.Lookup.{order, jumps_from}
use Rattle.definition.specs.Tokens.{Line}
use Rattle.definition.specs.Blocks.{lower}
use Rattle.definition.specs.Passes.{aimed, named}
use Rattle.definition.proofs.ListLaws.{Each}
use Rattle.definition.proofs.LoweredShapes.{LineShape, labels_of, lower_labels, shapes}
use Rattle.definition.proofs.LoweredLabels.{labels_once}
use Rattle.definition.proofs.LoweredAims.{destined, unspelled, met}
use Rattle.definition.proofs.LoweredRead.{ends_with_text, names_there, starts_differ, starts_below}

-- of the lowered lines `ls` of F: their shapes; the label lines, in order; no label twice; and, under the premises of demand 3, a label for each goto to a start
pub record Owed (F : Function) (ls : List Line) : Type 0 where
  pub shaped : Each (LineShape (λ s. 1 ≤ length s)) ls
  pub labels : labels_of ls ≡ map label (only (λ a. among a (jumps_from F.blocks)) (order F))
  pub once : (n : List ℕ) → count (named n) ls ≤ 1
  pub meets : destined F ≡ true → unspelled F ≡ true → (a : ℕ) → among a (order F) ≡ true → aimed (label a) ls ≡ true → count (named (label a)) ls ≡ 1

pub owed : (E : Edition) (f : List ℕ) (t : List Known) → ends_with_text E.sections ≡ true → all (λ b. ltb b 256) f ≡ true
    → refused4 E f ≡ false → refused5 E f ≡ false → refused6 E f ≡ false → Owed (read E f) (lower (read E f) t)
owed E f t w bytes r4 r5 r6 =
    let F = read E f in
    let differ = starts_differ E f r6 in
    let below = starts_below E f bytes in
    record {
      shaped = shapes F t (names_there E f w r4 r5);
      labels = lower_labels F t;
      once = labels_once F t differ below;
      meets = met F t differ below;
    }
