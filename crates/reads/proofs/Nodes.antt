-- A table of Use nodes has only Use nodes in it, since each entry is a Use node itself or what stands below it: so has the list of all.
use mathlib.Core.Path.{◌≡◌}
use mathlib.Core.List.{List, [], ◌∷◌}
use Prim.Native.Nat.{ℕ, zero, suc, ◌≤◌, ◌<◌}
use native.Mathlib.Omega.{arith}
use lib.Dec.{eqb}
use lib.ListN.{get_or}
use borrow.Author.Tests.{eqb-true}
use Rattle.definition.specs.Codes.{t_use, t_bin, t_un, t_load}
use Rattle.definition.specs.Edition.{expressions}
use Rattle.definition.specs.Lists.{gather}
use Rattle.definition.specs.Contents.{size, expr_word}
use Rattle.definition.specs.References.{roots}
use Rattle.definition.specs.Read.{marked}
use Rattle.definition.proofs.Bools.{by_cond}
use Rattle.definition.proofs.ListLaws.{Each, end, ◌▸◌, each_append}
use Rattle.uses.specs.Uses.{node_uses, uses_below, uses_in, stmt_uses}
use Rattle.reads.specs.Counts.{live_uses}

-- n is a Use node of the file
abbrev pub IsUse : List ℕ → ℕ → Type 0
IsUse f n = (expr_word f n 0 ≡ 2) × (n < size f expressions)

each_at : {A : Type 0} {P : A → Type 0} {l : List A} {d : A} → Each P l → P d → (i : ℕ) → P (get_or l i d)
each_at end q i = q
each_at (p ▸ h) q zero = p
each_at (p ▸ h) q (suc i) = each_at h q i

pub each_gather : {A : Type 0} {B : Type 0} {P : B → Type 0} (g : A → List B) → ((x : A) → Each P (g x)) → (xs : List A) → Each P (gather g xs)
unfolding gather
each_gather g h [] = end
each_gather g h (x ∷ xs) = each_append (h x) (each_gather g h xs)

module _ (f : List ℕ) where
  abbrev Uses : List ℕ → Type 0
  Uses ns = Each (IsUse f) ns

  node_use : (t : List (List ℕ)) → Each Uses t → (n : ℕ) → n < size f expressions → Uses (node_uses f t n)
  unfolding node_uses
  node_use t h n b =
      let g = expr_word f n 0 in
      let child : (i : ℕ) → Uses (get_or t i []) = each_at h end in
      by_cond Uses (eqb g t_use) (λ e. (eqb-true g t_use e, b) ▸ end) (λ a.
      by_cond Uses (eqb g t_bin) (λ e. each_append (child (expr_word f n 3)) (child (expr_word f n 4))) (λ c.
      by_cond Uses (eqb g t_un) (λ e. child (expr_word f n 3)) (λ d.
      by_cond Uses (eqb g t_load) (λ e. child (expr_word f n 2)) (λ e. end))))

  table_uses : (n : ℕ) → n ≤ size f expressions → Each Uses (uses_below f n)
  unfolding uses_below
  table_uses zero b = end
  table_uses (suc n) b = let r = table_uses n (omega arith) in each_append r (node_use (uses_below f n) r n b ▸ end)

  expr_uses_lem : (n : ℕ) → Uses (uses_in f n)
  unfolding uses_in
  expr_uses_lem n = each_at (table_uses (size f expressions) (omega arith)) end n

  pub stmt_nodes : (i : ℕ) → Each (IsUse f) (stmt_uses f i)
  unfolding stmt_uses
  stmt_nodes i = each_gather (uses_in f) expr_uses_lem (roots f i)

  pub live_nodes : (i : ℕ) → Each (IsUse f) (live_uses f i)
  unfolding live_uses
  live_nodes i = by_cond Uses (marked f i 1) (λ e. end) (λ e. stmt_nodes i)
