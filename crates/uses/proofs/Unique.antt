-- Each contract of this crate is an equation for the tables that are left, so no second one meets it. Where it holds for every edition, one is enough.
use mathlib.Core.Path.{◌≡◌, sym, ◌∙◌}
use mathlib.Core.List.{List}
use Prim.Native.Nat.{ℕ}
use Rattle.definition.specs.Edition.{edition1}
use Rattle.uses.specs.Orders.{Ordered}
use Rattle.uses.specs.Loads.{Loads}

pub order : (f : List ℕ) (m n : ℕ) (o p s t : List ℕ) → Ordered f m n o s → Ordered f m n p t → (o ≡ p) × (s ≡ t)
order f m n o p s t a b = (a.nodes ∙ sym b.nodes, a.begins ∙ sym b.begins)

pub loads : (f : List ℕ) (n : ℕ) (t u : List ℕ) → Loads f n t → Loads f n u → t ≡ u
loads f n t u p q = p edition1 ∙ sym (q edition1)
