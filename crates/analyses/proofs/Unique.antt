-- Each record that a step leaves is an equation for every table in it, so no second tables of the same lengths meet it.
use mathlib.Core.Path.{◌≡◌, sym, ap, ◌∙◌}
use mathlib.Core.Bool.{cond}
use mathlib.Core.List.{List, map}
use Prim.Native.Nat.{ℕ}
use lib.ListN.{length, replicate}
use Rattle.definition.specs.Edition.{edition1}
use Rattle.definition.specs.Read.{all_trees}
use Rattle.definition.specs.Inline.{has_load}
use Rattle.definition.specs.Listing.{padded}
use Rattle.uses.specs.Uses.{use_order, use_starts}
use Rattle.analyses.specs.Tables.{Valued, ReadAs, Placed, Named}

-- lists that the same g gives of their lengths
alike : (g : ℕ → List ℕ) (l m : List ℕ) → length l ≡ length m → l ≡ g (length l) → m ≡ g (length m) → l ≡ m
alike g l m e p q = p ∙ ap g e ∙ sym q

pub values : (f : List ℕ) (n : ℕ) (ks ns heads next ks' ns' heads' next' : List ℕ) → Valued f n ks ns heads next → Valued f n ks' ns' heads' next'
    → length heads ≡ length heads' → length next ≡ length next' → (ks ≡ ks') × (ns ≡ ns') × (heads ≡ heads') × (next ≡ next')
values f n ks ns heads next ks' ns' heads' next' p q h k =
    let zeros : ℕ → List ℕ = λ m. replicate m 0 in (
      p.keys ∙ sym q.keys,
      p.numbers ∙ sym q.numbers,
      alike zeros heads heads' h p.no_heads q.no_heads,
      alike zeros next next' k p.no_next q.no_next,
    )

pub by_value : (f : List ℕ) (n : ℕ) (order starts loads live phi readers order' starts' loads' live' phi' readers' : List ℕ)
    → ReadAs f n order starts loads live phi readers → ReadAs f n order' starts' loads' live' phi' readers'
    → (live ≡ live') × (phi ≡ phi') × (readers ≡ readers')
by_value f n order starts loads live phi readers order' starts' loads' live' phi' readers' p q =
    (p.times edition1 ∙ sym (q.times edition1), p.flows edition1 ∙ sym (q.flows edition1), p.last ∙ sym q.last)

pub by_node : (f : List ℕ) (n : ℕ) (order starts loads live phi readers order' starts' loads' live' phi' readers' : List ℕ)
    → ReadAs f n order starts loads live phi readers → ReadAs f n order' starts' loads' live' phi' readers'
    → length order ≡ length order' → length starts ≡ length starts' → length loads ≡ length loads' → (order ≡ order') × (starts ≡ starts') × (loads ≡ loads')
by_node f n order starts loads live phi readers order' starts' loads' live' phi' readers' p q a b d = (
  alike (λ m. padded m (use_order f)) order order' a p.flat.nodes q.flat.nodes,
  alike (λ m. padded m (use_starts f)) starts starts' b p.flat.begins q.flat.begins,
  alike (λ m. padded m (map (λ x. cond (has_load x) 1 0) (all_trees edition1 f))) loads loads' d (p.loaded edition1) (q.loaded edition1),
)

pub variables : (f : List ℕ) (n : ℕ) (roots places roots' places' : List ℕ) → Placed f n roots places → Placed f n roots' places'
    → (roots ≡ roots') × (places ≡ places')
variables f n roots places roots' places' p q = (p.rooted edition1 ∙ sym (q.rooted edition1), p.placed edition1 ∙ sym (q.placed edition1))

pub called : (f : List ℕ) (n : ℕ) (names seen entry names' seen' entry' : List ℕ) → Named f n names seen entry → Named f n names' seen' entry'
    → (names ≡ names') × (seen ≡ seen') × (entry ≡ entry')
called f n names seen entry names' seen' entry' p q =
    (p.named edition1 ∙ sym (q.named edition1), p.cleared ∙ sym q.cleared, p.entered.says edition1 ∙ sym (q.entered.says edition1))
