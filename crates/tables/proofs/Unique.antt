-- The public contract is an equation for the answer and every table, so no second outcome meets it. Where it holds for every edition, edition 1 is enough.
use mathlib.Core.Path.{◌≡◌, refl, sym, subst, ◌∙◌}
use mathlib.Core.List.{List}
use Prim.Native.Nat.{ℕ}
use Rattle.definition.specs.Edition.{edition1}
use Rattle.definition.specs.Contents.{text}
use Rattle.tables.specs.Tables.{Tables}
use Rattle.tables.specs.Filled.{Held, Filled}
use Rattle.tables.proofs.Emptying.{same_tables}

held_once : (f : List ℕ) (r : ℕ) (T U W : Tables) → Held f r T U → Held f r T W → U ≡ W
unfolding edition1 text
held_once f r T U W p q =
    same_tables U W (p.keys ∙ sym q.keys) (p.numbers ∙ sym q.numbers) (p.spare ∙ sym q.spare) (p.offs edition1 refl ∙ sym (q.offs edition1 refl)) (p.order ∙ sym q.order) (p.starts ∙ sym q.starts) (p.loads ∙ sym q.loads) (p.live edition1 ∙ sym (q.live edition1)) (p.phi edition1 ∙ sym (q.phi edition1)) (p.roots edition1 ∙ sym (q.roots edition1)) (p.places edition1 ∙ sym (q.places edition1)) (p.names edition1 ∙ sym (q.names edition1)) (p.marks edition1 refl ∙ sym (q.marks edition1 refl)) (p.labels edition1 ∙ sym (q.labels edition1))

pub tables : (f : List ℕ) (r s : ℕ) (T U W : Tables) → Filled f r T U → Filled f s T W → (r ≡ s) × (U ≡ W)
tables f r s T U W p q =
    let e : r ≡ s = p.says ∙ sym q.says in
    (e, held_once f s T U W (subst (λ (n : ℕ). Held f n T U) e p.tables) q.tables)

-- each table of `clear_four`, `clear_numbers` and `clear_all`
pub cleared_once : (t u v : List ℕ) → u ≡ t → v ≡ t → u ≡ v
cleared_once t u v p q = p ∙ sym q
