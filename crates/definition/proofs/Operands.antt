-- What `expr` prints is calm, where no operator has a parenthesis and none with one operand a `<`, `=` or `>`: by induction over the expression,
-- since words are calm, and so are tokens in parentheses, an operator among them or not.
use mathlib.Core.Path.{◌≡◌, refl, ap, ◌∙◌}
use mathlib.Core.Bool.{Bool, true, false, cond, ◌&&◌, ◌||◌}
use mathlib.Core.Option.{Option, none, some}
use mathlib.Core.List.{List, [], ◌∷◌, ◌++◌, append_assoc}
use Prim.Native.Nat.{ℕ, zero, suc}
use lib.Dec.{eqb}
use Rattle.definition.specs.Texts.{txt, is_empty, trim_end}
use Rattle.definition.specs.Lists.{any}
use Rattle.definition.specs.Values.{Value, eqv}
use Rattle.definition.specs.Ssa.{Expr}
use Rattle.definition.specs.Ssa.Expr.{Const, Use, Bin, Un, Load, Opaque}
use Rattle.definition.specs.Offsets.{look, stack_off}
use Rattle.definition.specs.Inline.{InPlace}
use Rattle.definition.specs.Numbers.{num, slot}
use Rattle.definition.specs.Tokens.{Token, textual, register, numeral, symbol, punct}
use Rattle.definition.specs.Render.{Opened, Gen, opened_at, variable, use_or, address_or, nested, pointer, through, slot_or, global_of, global_or, operator, expr, open_next, open_all}
use Rattle.definition.proofs.Bools.{both_false}
use Rattle.definition.proofs.ListLaws.{Each, each_append, ◌▸◌, end}
use Rattle.definition.proofs.Signs.{sharp, Dull}
use Rattle.definition.proofs.Calm.{Depth, cold, hot, lost, up, down, heat, cool, byte, bytes, pass, walk, Calm, walk_append, cool_cool}

-- ---- words, and tokens behind a word
led_calm : (t : Token) (X : List Token) → eqb t.kind 6 ≡ false → Calm X → Calm (t ∷ X)
unfolding walk pass
led_calm t X h x s = rw h (x (cool s) ∙ cool_cool s)

pub word_calm : (t : Token) → eqb t.kind 6 ≡ false → Calm (t ∷ [])
unfolding walk pass
word_calm t h s = rw h

-- ---- parentheses: what they hold has only to be calm inside of some
abbrev pub Deep : List Token → Type 0
Deep Z = (s : Depth) → walk (up s) Z ≡ cool (up s)

nested_calm : (Z : List Token) → Deep Z → Calm (punct (txt "(") ∷ (Z ++ (punct (txt ")") ∷ [])))
unfolding walk pass bytes byte up down cool
nested_calm Z h s = walk_append (up s) Z (punct (txt ")") ∷ []) ∙ ap down (h s) ∙ back s
  where
    back : (s : Depth) → down (cool (up s)) ≡ cool s
    back (cold d) = refl
    back (hot d) = refl
    back lost = refl

-- ---- operators
-- without parentheses
abbrev paren : ℕ → Bool
paren b = eqb 40 b || eqb 41 b

abbrev pub NoParen : List ℕ → Type 0
NoParen m = any paren m ≡ false

flat_byte : (s : Depth) (b : ℕ) (m : List ℕ) → NoParen (b ∷ m) → (byte s b ≡ cond (sharp b) (heat s) s) × NoParen m
unfolding byte any
flat_byte s b m f =
    let f₂ = both_false (paren b) (any paren m) f in
    let p = both_false (eqb 40 b) (eqb 41 b) f₂.0 in
    (rw (p.0, p.1), f₂.1)

-- inside of parentheses such a text leaves the depth
abbrev Inside : Depth → Type 0
Inside (cold zero) = ⊥
Inside (cold (suc d)) = Unit
Inside (hot d) = Unit
Inside lost = Unit

heat_within : (s : Depth) → Inside s → Inside (heat s) × (cool (heat s) ≡ cool s)
unfolding heat cool
heat_within (cold zero) w = absurd w
heat_within (cold (suc d)) w = (tt, refl)
heat_within (hot d) w = (tt, refl)
heat_within lost w = (tt, refl)

flat_cool : (m : List ℕ) (s : Depth) → Inside s → NoParen m → cool (bytes s m) ≡ cool s
unfolding bytes
flat_cool [] s w f = refl
flat_cool (b ∷ m) s w f =
    let q = flat_byte s b m f in
    let h = heat_within s w in
    ap (λ (z : Depth). cool (bytes z m)) q.0 ∙ go (sharp b) (flat_cool m s w q.1) (flat_cool m (heat s) h.0 q.1 ∙ h.1)
  where
    go : (x : Bool) → cool (bytes s m) ≡ cool s → cool (bytes (heat s) m) ≡ cool s → cool (bytes (cond x (heat s) s) m) ≡ cool s
    go true y z = z
    go false y z = y

pair_deep : (X Y : List Token) (m : List ℕ) → Calm X → Calm Y → NoParen m → Deep (X ++ (punct m ∷ Y))
unfolding walk pass up cool
pair_deep X Y m x y f s =
    walk_append (up s) X (punct m ∷ Y) ∙ ap (λ (z : Depth). walk (bytes z m) Y) (x (up s)) ∙ y (bytes (cool (up s)) m)
    ∙ flat_cool m (cool (up s)) (within s) f ∙ cool_cool (up s)
  where
    within : (s : Depth) → Inside (cool (up s))
    within (cold d) = tt
    within (hot d) = tt
    within lost = tt

pub pair_calm : (X Y : List Token) (m : List ℕ) → Calm X → Calm Y → NoParen m
    → Calm (punct (txt "(") ∷ (X ++ (punct m ∷ (Y ++ (punct (txt ")") ∷ [])))))
pair_calm X Y m x y f = rw append_assoc at (nested_calm (X ++ (punct m ∷ Y)) (pair_deep X Y m x y f))

-- an operator with one operand may stand outside of all
still : (s : Depth) (o : List ℕ) → NoParen o → Dull o → bytes s o ≡ s
unfolding bytes any
still s [] f d = refl
still s (b ∷ o) f d =
    let q = flat_byte s b o f in
    let d₂ = both_false (sharp b) (any sharp o) d in
    let e : byte s b ≡ s = q.0 ∙ ap (λ (x : Bool). cond x (heat s) s) d₂.0 in
    ap (λ (z : Depth). bytes z o) e ∙ still s o q.1 d₂.1

prefix_calm : (o : List ℕ) (X : List Token) → NoParen o → Dull o → Calm X → Calm (punct o ∷ X)
unfolding walk pass
prefix_calm o X f d x s = ap (λ (z : Depth). walk z X) (still s o f d) ∙ x s

-- an operator with two operands is printed between spaces, without its trailing `s`
operator_flat : (o : List ℕ) → NoParen o → NoParen (operator o).text
unfolding operator any trim_end
operator_flat o f = spaced (trim_end 115 o) (trimmed o f)
  where
    spaced : (m : List ℕ) → NoParen m → NoParen (m ++ txt " ")
    spaced [] f = refl
    spaced (b ∷ m) f =
        let f₂ = both_false (paren b) (any paren m) f in
        rw f₂.0 (spaced m f₂.1)

    kept : (x : Bool) (b : ℕ) (m : List ℕ) → paren b ≡ false → NoParen m → NoParen (cond x [] (b ∷ m))
    kept true b m p f = refl
    kept false b m p f = rw p f

    trimmed : (o : List ℕ) → NoParen o → NoParen (trim_end 115 o)
    trimmed [] f = refl
    trimmed (b ∷ o) f =
        let f₂ = both_false (paren b) (any paren o) f in
        kept (eqb b 115 && is_empty (trim_end 115 o)) b (trim_end 115 o) f₂.0 (trimmed o f₂.1)

-- ---- expressions
-- no operator has a parenthesis, and none with one operand a `<`, `=` or `>`
abbrev pub Tame : Expr → Type 0
Tame (Const c) = Unit
Tame (Use v) = Unit
Tame (Bin o x y) = NoParen o × Tame x × Tame y
Tame (Un o x) = NoParen o × Dull o × Tame x
Tame (Load n x) = Tame x
Tame (Opaque t) = Unit

-- printed inside of an expression, and at the top
pub record Rests (inner top : List Token) : Type 0 where
  pub calm : Calm inner
  pub deep : Deep top

-- the values that are written in place print calmly
abbrev pub Settled : List Opened → Type 0
Settled os = Each (λ o. Rests o.inner o.top) os

same_both : (X : List Token) → Calm X → Rests X X
same_both X x = record { calm = x; deep = λ s. x (up s) }

-- one or the other
choose : (b : Bool) (X X₂ Y Y₂ : List Token) → Rests X X₂ → Rests Y Y₂ → Rests (cond b X Y) (cond b X₂ Y₂)
choose true X X₂ Y Y₂ x y = x
choose false X X₂ Y Y₂ x y = y

use_rests : (os : List Opened) → Settled os → (n : List ℕ) (v : Value) → Rests (use_or n (opened_at os false v)) (use_or n (opened_at os true v))
unfolding use_or opened_at
use_rests [] so n v = same_both (register n ∷ []) (word_calm (register n) refl)
use_rests (o ∷ os) (r₀ ▸ so) n v = go (eqv o.of v) (use_rests os so n v)
  where
    go : (b : Bool) → Rests (use_or n (opened_at os false v)) (use_or n (opened_at os true v))
        → Rests (use_or n (cond b (some o.inner) (opened_at os false v))) (use_or n (cond b (some o.top) (opened_at os true v)))
    go true r = r₀
    go false r = r

address_rests : (n : ℕ) (X Y : List Token) → Rests X Y → Rests (address_or n X) (address_or n Y)
unfolding address_or any sharp
address_rests n X Y r =
    choose (eqb n 0) X Y slotted slotted r
    (same_both slotted (prefix_calm (txt "&") (register (slot n) ∷ []) refl refl (word_calm (register (slot n)) refl)))
  where
    slotted : List Token
    slotted = punct (txt "&") ∷ register (slot n) ∷ []

-- a load through tokens that are printed at the top
load_calm : (n k : ℕ) (X : List Token) (g : Option (List ℕ)) → Deep X → Calm (global_or (slot_or k (through n X)) g)
unfolding global_or slot_or through pointer
load_calm n k X (some g) x = word_calm (symbol g) refl
load_calm n k X none x = go (eqb k 0)
  where
    go : (b : Bool) → Calm (cond b (through n X) (register (slot k) ∷ []))
    go true = led_calm (pointer n) (punct (txt "(") ∷ (X ++ (punct (txt ")") ∷ []))) refl (nested_calm X x)
    go false = word_calm (register (slot k)) refl

module _ (G : Gen) (settled : Settled G.opened) where
  pub rests : (x : Expr) → Tame x → Rests (expr G false x) (expr G true x)
  unfolding expr nested operator
  rests (Const c) h = same_both (numeral (num c) ∷ []) (word_calm (numeral (num c)) refl)
  rests (Use v) h = address_rests (look G.offsets v) _ _ (use_rests G.opened settled (variable G v) v)
  rests (Bin o x y) h =
      let Z = expr G false x ++ (operator o ∷ expr G false y) in
      let deep : Deep Z = pair_deep (expr G false x) (expr G false y) (operator o).text (rests x h.1).calm (rests y h.2).calm (operator_flat o h.0) in
      address_rests (stack_off G.offsets (Bin o x y)) (nested false Z) (nested true Z) (record { calm = nested_calm Z deep; deep = deep })
  rests (Un o x) h = same_both (punct o ∷ expr G false x) (prefix_calm o (expr G false x) h.0 h.1 (rests x h.2).calm)
  rests (Load n x) h =
      same_both (global_or (slot_or (stack_off G.offsets x) (through n (expr G true x))) (global_of G.supplied n x))
      (load_calm n (stack_off G.offsets x) (expr G true x) (global_of G.supplied n x) (rests x h).deep)
  rests (Opaque t) h = same_both (textual t ∷ []) (word_calm (textual t) refl)

-- ---- the values written in place, each printed where those before it are open
abbrev pub AllTame : List InPlace → Type 0
AllTame ps = Each (λ p. Tame p.expr) ps

pub settled_all : (G : Gen) (ps : List InPlace) → Settled G.opened → AllTame ps → Settled (open_all G ps).opened
unfolding open_all open_next
settled_all G [] s h = s
settled_all G (p ∷ ps) s (t ▸ h) = settled_all (open_next G p) ps (each_append s (rests G s p.expr t ▸ end)) h
