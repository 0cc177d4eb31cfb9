-- Tokens in which `negate` sees no comparison. A walk over their punctuation keeps how many parentheses are open and whether a `<`, `=` or `>`
-- stands in this run of Punct; `negate` asks for a comparison only where no parenthesis is open, and there the walk has met none.
use mathlib.Core.Path.{◌≡◌, refl, sym, ap, subst, subst⁻¹, ◌∙◌}
use mathlib.Core.Bool.{Bool, true, false, cond, ◌&&◌, and-false}
use mathlib.Core.List.{List, [], ◌∷◌, ◌++◌, map}
use Prim.Native.Nat.{ℕ, zero, suc, ◌+◌}
use native.Mathlib.Omega.{arith}
use borrow.Author.Tests.{ne_eqb, eqb-true}
use lib.Dec.{eqb}
use Rattle.definition.specs.Lists.{any, count}
use Rattle.definition.specs.Tokens.{Token, tok, punct, join, merge}
use Rattle.definition.specs.Negate.{compares, comparisons}
use Rattle.definition.proofs.Runs.{run_append}
use Rattle.definition.proofs.Bools.{by_test}
use Rattle.definition.proofs.ListLaws.{bit, count_cons}
use Rattle.definition.proofs.Merge.{by_join}
use Rattle.definition.proofs.Signs.{sharp, Dull, sharp_apart, compares_dull}

pub data Depth : Type 0 where
  cold : ℕ → Depth  -- inside so many parentheses
  hot : ℕ → Depth  -- inside one more than that, and no word stands since a `<`, `=` or `>`
  lost : Depth  -- a `<`, `=` or `>` outside of all, a `)` behind one with no word between, or a `)` too many

-- what `(`, `)`, one of `<`, `=`, `>`, and a token that is no Punct do to it
unfoldable pub up : Depth → Depth
up (cold d) = cold (suc d)
up (hot d) = hot (suc d)
up lost = lost

unfoldable pub down : Depth → Depth
down (cold zero) = lost
down (cold (suc d)) = cold d
down (hot d) = lost
down lost = lost

unfoldable pub heat : Depth → Depth
heat (cold zero) = lost
heat (cold (suc d)) = hot d
heat (hot d) = hot d
heat lost = lost

unfoldable pub cool : Depth → Depth
cool (cold d) = cold d
cool (hot d) = cold (suc d)
cool lost = lost

unfoldable pub byte : Depth → ℕ → Depth
byte s b = cond (eqb 40 b) (up s) (cond (eqb 41 b) (down s) (cond (sharp b) (heat s) s))

unfoldable pub bytes : Depth → List ℕ → Depth
bytes s [] = s
bytes s (b ∷ t) = bytes (byte s b) t

unfoldable pub pass : Depth → Token → Depth
pass s t = cond (eqb t.kind (punct []).kind) (bytes s t.text) (cool s)

unfoldable pub walk : Depth → List Token → Depth
walk s [] = s
walk s (t ∷ ts) = walk (pass s t) ts

-- calm tokens are to `negate` what one word is: they close what they open, and no comparison is to be seen outside
abbrev pub Calm : List Token → Type 0
Calm X = (s : Depth) → walk s X ≡ cool s

-- ---- the walk over joined texts and lists
bytes_append : (s : Depth) (t u : List ℕ) → bytes s (t ++ u) ≡ bytes (bytes s t) u
unfolding bytes
bytes_append = run_append bytes byte (λ s. refl) (λ s b t. refl)

pub walk_append : (s : Depth) (X Y : List Token) → walk s (X ++ Y) ≡ walk (walk s X) Y
unfolding walk
walk_append = run_append walk pass (λ s. refl) (λ s t X. refl)

pub cool_cool : (s : Depth) → cool (cool s) ≡ cool s
unfolding cool
cool_cool (cold d) = refl
cool_cool (hot d) = refl
cool_cool lost = refl

-- merged tokens are walked as they were before
pass_two : (s : Depth) (k : ℕ) (x y : List ℕ) → pass s (tok k (x ++ y)) ≡ pass (pass s (tok k x)) (tok k y)
unfolding pass
pass_two s k x y = by_test (eqb k 6) (λ h. rw h (bytes_append s x y)) (λ h. rw h (sym (cool_cool s)))

walk_join : (s : Depth) (t : Token) (us : List Token) → walk s (join t us) ≡ walk s (t ∷ us)
unfolding walk join
walk_join s t [] = refl
walk_join s t (u ∷ us) =
    by_join (λ z. walk s z ≡ walk s (t ∷ u ∷ us)) t u us
    (λ j. ap (λ (z : Depth). walk z us) (pass_two s t.kind t.text u.text ∙ ap (λ (n : ℕ). pass (pass s t) (tok n u.text)) j.alike)) refl

pub walk_merge : (s : Depth) (ts : List Token) → walk s (merge ts) ≡ walk s ts
unfolding walk merge
walk_merge s [] = refl
walk_merge s (t ∷ ts) = walk_join s t (merge ts) ∙ walk_merge (pass s t) ts

-- ---- once lost, always lost
abbrev pub Live : Depth → Type 0
Live (cold d) = Unit
Live (hot d) = Unit
Live lost = ⊥

lost_byte : (b : ℕ) → byte lost b ≡ lost
unfolding byte up down heat
lost_byte b = go (eqb 40 b) (eqb 41 b) (sharp b)
  where
    go : (x y z : Bool) → cond x lost (cond y lost (cond z lost lost)) ≡ lost
    go true y z = refl
    go false true z = refl
    go false false true = refl
    go false false false = refl

lost_bytes : (t : List ℕ) → bytes lost t ≡ lost
unfolding bytes
lost_bytes [] = refl
lost_bytes (b ∷ t) = ap (λ (s : Depth). bytes s t) (lost_byte b) ∙ lost_bytes t

lost_walk : (ts : List Token) → walk lost ts ≡ lost
unfolding walk pass cool
lost_walk [] = refl
lost_walk (t ∷ ts) = ap (λ (s : Depth). walk s ts) (go (eqb t.kind 6)) ∙ lost_walk ts
  where
    go : (b : Bool) → cond b (bytes lost t.text) lost ≡ lost
    go true = lost_bytes t.text
    go false = refl

pub live_bytes : (s : Depth) (t : List ℕ) → Live (bytes s t) → Live s
live_bytes (cold d) t h = tt
live_bytes (hot d) t h = tt
live_bytes lost t h = subst Live (lost_bytes t) h

pub live_walk : (s : Depth) (ts : List Token) → Live (walk s ts) → Live s
live_walk (cold d) ts h = tt
live_walk (hot d) ts h = tt
live_walk lost ts h = subst Live (lost_walk ts) h

-- ---- where a text ends outside of all parentheses, it has no `<`, `=` or `>`: once hot, a run of Punct is not cold again
abbrev Warm : Depth → Type 0
Warm (cold d) = ⊥
Warm (hot d) = Unit
Warm lost = Unit

warm_byte : (s : Depth) (b : ℕ) → Warm s → Warm (byte s b)
unfolding byte up down heat
warm_byte (cold d) b w = absurd w
warm_byte (hot d) b w = go (eqb 40 b) (eqb 41 b) (sharp b)
  where
    go : (x y z : Bool) → Warm (cond x (hot (suc d)) (cond y lost (cond z (hot d) (hot d))))
    go true y z = tt
    go false true z = tt
    go false false true = tt
    go false false false = tt
warm_byte lost b w = subst⁻¹ Warm (lost_byte b) tt

warm_bytes : (s : Depth) (t : List ℕ) → Warm s → Warm (bytes s t)
unfolding bytes
warm_bytes s [] w = w
warm_bytes s (b ∷ t) w = warm_bytes (byte s b) t (warm_byte s b w)

warm_heat : (s : Depth) → Warm (heat s)
unfolding heat
warm_heat (cold zero) = tt
warm_heat (cold (suc d)) = tt
warm_heat (hot d) = tt
warm_heat lost = tt

pub dull_outside : (s : Depth) (t : List ℕ) → bytes s t ≡ cold 0 → Dull t
unfolding bytes byte any sharp
dull_outside s [] e = refl
dull_outside s (b ∷ t) e =
    let d = dull_outside (byte s b) t e in
    by_test (sharp b)
    (λ h.
    let p = ne_eqb 40 b (λ q. sharp_apart b 40 h refl (sym q)) in
    let r = ne_eqb 41 b (λ q. sharp_apart b 41 h refl (sym q)) in
    let w : Warm (byte s b) = rw (p, r, h) (warm_heat s) in
    absurd (subst Warm e (warm_bytes (byte s b) t w)))
    (λ h. rw h d)

-- ---- the parentheses counted
unfoldable pub depth : Depth → ℕ
depth (cold d) = d
depth (hot d) = suc d
depth lost = 0

up_depth : (s : Depth) → Live (up s) → depth (up s) ≡ suc (depth s)
unfolding up depth
up_depth (cold d) h = refl
up_depth (hot d) h = refl
up_depth lost h = absurd h

down_depth : (s : Depth) → Live (down s) → suc (depth (down s)) ≡ depth s
unfolding down depth
down_depth (cold zero) h = absurd h
down_depth (cold (suc d)) h = refl
down_depth (hot d) h = absurd h
down_depth lost h = absurd h

heat_depth : (s : Depth) → Live (heat s) → depth (heat s) ≡ depth s
unfolding heat depth
heat_depth (cold zero) h = absurd h
heat_depth (cold (suc d)) h = refl
heat_depth (hot d) h = refl
heat_depth lost h = absurd h

cool_depth : (s : Depth) → depth (cool s) ≡ depth s
unfolding cool depth
cool_depth (cold d) = refl
cool_depth (hot d) = refl
cool_depth lost = refl

byte_depth : (s : Depth) (b : ℕ) → Live (byte s b) → depth (byte s b) + bit (eqb 41 b) ≡ depth s + bit (eqb 40 b)
unfolding byte
byte_depth s b = go (eqb 40 b) (eqb 41 b) (sharp b) refl refl
  where
    go : (x y z : Bool) → eqb 40 b ≡ x → eqb 41 b ≡ y → Live (cond x (up s) (cond y (down s) (cond z (heat s) s)))
        → depth (cond x (up s) (cond y (down s) (cond z (heat s) s))) + bit y ≡ depth s + bit x
    go true true z p q l = let e = eqb-true 40 b p ∙ sym (eqb-true 41 b q) in absurd (omega arith)
    go true false z p q l = omega (arith, up_depth s l)
    go false true z p q l = omega (arith, down_depth s l)
    go false false true p q l = omega (arith, heat_depth s l)
    go false false false p q l = refl

-- from o opened and c closed, the walk being at s
pub counted : (s : Depth) (t : List ℕ) (o c : ℕ) → Live (bytes s t) → o ≡ c + depth s
    → o + count (eqb 40) t ≡ c + count (eqb 41) t + depth (bytes s t)
unfolding bytes count
counted s [] o c l h = omega arith
counted s (b ∷ t) o c l h =
    let k = byte_depth s b (live_bytes (byte s b) t l) in
    let ih = counted (byte s b) t (o + bit (eqb 40 b)) (c + bit (eqb 41 b)) l (omega arith) in
    rw (count_cons (eqb 40) b t, count_cons (eqb 41) b t) (omega arith)

-- ---- no comparison is marked
unfoldable pub nothing : List Token → List Bool
nothing ts = map (λ t. false) ts

-- a Punct is not marked, wherever the walk over it ends
unmarked : (s s₂ : Depth) (t : List ℕ) (o c : ℕ) → bytes s t ≡ s₂ → Live s₂ → o ≡ c + depth s₂ → (eqb o c && compares t) ≡ false
unfolding depth
unmarked s (cold zero) t o c e l h = rw (compares_dull t (dull_outside s t e)) (and-false (eqb o c))
unmarked s (cold (suc d)) t o c e l h = rw (ne_eqb o c (λ q. omega arith))
unmarked s (hot d) t o c e l h = rw (ne_eqb o c (λ q. omega arith))
unmarked s lost t o c e l h = absurd l

-- behind ts the counts are as the walk says, and none of ts is marked
pub record Quiet (ts : List Token) (s : Depth) (o c : ℕ) : Type 0 where
  pub opened : ℕ
  pub closed : ℕ
  pub level : opened ≡ closed + depth (walk s ts)
  pub marks : (Z : List Token) → comparisons o c (ts ++ Z) ≡ nothing ts ++ comparisons opened closed Z

pub quiet : (ts : List Token) (s : Depth) (o c : ℕ) → Live (walk s ts) → o ≡ c + depth s → Quiet ts s o c
unfolding walk pass comparisons nothing
quiet [] s o c l h = record { opened = o; closed = c; level = h; marks = λ Z. refl }
quiet (t ∷ ts) s o c l h = go (eqb t.kind 6) refl (λ o₂ c₂ h₂. quiet ts (pass s t) o₂ c₂ l h₂)
  where
    more : (o₂ c₂ : ℕ) → Quiet ts (pass s t) o₂ c₂ → ((Z : List Token) → comparisons o c (t ∷ Z) ≡ false ∷ comparisons o₂ c₂ Z) → Quiet (t ∷ ts) s o c
    more o₂ c₂ Q here = record {
      opened = Q.opened;
      closed = Q.closed;
      level = Q.level;
      marks = λ Z. here (ts ++ Z) ∙ ap (λ (bs : List Bool). false ∷ bs) (Q.marks Z);
    }

    go : (b : Bool) → eqb t.kind 6 ≡ b → ((o₂ c₂ : ℕ) → o₂ ≡ c₂ + depth (pass s t) → Quiet ts (pass s t) o₂ c₂) → Quiet (t ∷ ts) s o c
    go true k ih =
        let e : pass s t ≡ bytes s t.text = rw k in
        let v : Live (bytes s t.text) = subst Live e (live_walk (pass s t) ts l) in
        let o₂ = o + count (eqb 40) t.text in
        let c₂ = c + count (eqb 41) t.text in
        let h₂ : o₂ ≡ c₂ + depth (bytes s t.text) = counted s t.text o c v h in
        more o₂ c₂ (ih o₂ c₂ (rw e h₂)) (λ Z. rw (k, unmarked s (bytes s t.text) t.text o₂ c₂ refl v h₂))
    go false k ih =
        let e : pass s t ≡ cool s = rw k in
        more o c (ih o c (rw (e, cool_depth s) h)) (λ Z. rw k)
