-- The values pushed for a call, written from the last push down: what is left to write is the same before a turn and after it; at the end it is nothing.
use mathlib.Core.Path.{◌≡◌, refl, sym, ap, ◌∙◌}
use mathlib.Core.Bool.{Bool, true, false, cond, ◌&&◌, ◌||◌, or-true, or-false}
use mathlib.Core.List.{List, [], ◌∷◌, ◌++◌}
use Prim.Native.Nat.{ℕ, suc, ◌+◌, ◌-◌, ◌≤◌, ◌<◌}
use native.Mathlib.Omega.{arith}
use lib.Dec.{eqb}
use Rattle.definition.specs.Codes.{k_store}
use Rattle.definition.specs.Edition.{Edition}
use Rattle.definition.specs.Lists.{gather}
use Rattle.definition.specs.Owners.{stmt_kind, stmt_field}
use Rattle.definition.specs.Read.{marked}
use Rattle.definition.specs.Tokens.{Token}
use Rattle.definition.specs.Lower.{comma_list}
use Rattle.room.specs.Room.{Room, emit_all, seen}
use Rattle.room.proofs.Laws.{done, seen_emits}
use Rattle.lowering.specs.Lowered.{lowering_of}
use Rattle.lowering.specs.Commas.{arg_of, args_of, trees_of}
use Rattle.lowering.proofs.Commas.{args_are, args_turn, args_none}
use Rattle.calls.specs.Waiting.{pushes_in, stored_at, pushed_nodes}
use Rattle.calling.specs.Written.{is_push, push_of}

-- one statement more
with_stored : (b : Bool) (x : ℕ) (ns : List ℕ) → cond b (x ∷ []) [] ++ ns ≡ cond b (x ∷ ns) ns
with_stored true x ns = refl
with_stored false x ns = refl

stored_one : (f : List ℕ) (i : ℕ) (js : List ℕ) (m : Bool)
    → gather (stored_at f) (cond m (i ∷ js) js) ≡ cond (m && eqb (stmt_kind f i) k_store) (stmt_field f i 2 ∷ gather (stored_at f) js) (gather (stored_at f) js)
unfolding gather stored_at
stored_one f i js true = with_stored (eqb (stmt_kind f i) k_store) (stmt_field f i 2) (gather (stored_at f) js)
stored_one f i js false = refl

module _ (E : Edition) (f : List ℕ) where
  -- ---- pushes, from the last down
  pub push_is : (r r₀ : Room) (b : Bool) (i x : ℕ) (p : Bool) → p ≡ is_push f i → p ≡ true → x ≡ stmt_field f i 2
      → seen r ≡ seen (emit_all r₀ (arg_of E f b x)) → seen r ≡ seen (emit_all r₀ (push_of E f b i))
  unfolding push_of
  push_is r r₀ b i x p s t w h = rw (← s, t, ← w) h

  pub push_not : (r : Room) (b : Bool) (i : ℕ) (p : Bool) → p ≡ is_push f i → p ≡ false → seen r ≡ seen (emit_all r (push_of E f b i))
  unfolding push_of
  push_not r b i p s t = rw (← s, t) (done r)

  -- one statement, which pushes x where p holds
  one_push : (p b c : Bool) (x : ℕ) (ns : List ℕ) (r₁ r : Room) → seen r₁ ≡ seen (emit_all r (cond p (arg_of E f b x) [])) → c ≡ (b || p)
      → seen (emit_all r (args_of E f b (cond p (x ∷ ns) ns))) ≡ seen (emit_all r₁ (args_of E f c ns))
  one_push true b c x ns r₁ r h k = args_turn E f b x ns r₁ r h ∙ ap (λ (d : Bool). seen (emit_all r₁ (args_of E f d ns))) (sym (k ∙ or-true b))
  one_push false b c x ns r₁ r h k =
      sym (seen_emits r₁ r (args_of E f b ns) (h ∙ sym (done r))) ∙ ap (λ (d : Bool). seen (emit_all r₁ (args_of E f d ns))) (sym (k ∙ or-false b))

  nodes_down : (from j : ℕ) → from < j
      → pushed_nodes f from j ≡ cond (is_push f (j - 1)) (stmt_field f (j - 1) 2 ∷ pushed_nodes f from (j - 1)) (pushed_nodes f from (j - 1))
  unfolding pushed_nodes pushes_in is_push
  nodes_down from j h =
      let p : j - from ≡ suc (j - 1 - from) = omega arith in
      let q : from + (j - 1 - from) ≡ j - 1 = omega arith in
      let js = pushes_in f from (j - 1 - from) in
      ap (λ (n : ℕ). gather (stored_at f) (pushes_in f from n)) p ∙ stored_one f (from + (j - 1 - from)) js (marked f (from + (j - 1 - from)) 4)
      ∙ ap (λ (i : ℕ). cond (is_push f i) (stmt_field f i 2 ∷ gather (stored_at f) js) (gather (stored_at f) js)) q

  pub pushed_turn : (from j : ℕ) (b c : Bool) (r₁ r : Room) → from < j → seen r₁ ≡ seen (emit_all r (push_of E f b (j - 1))) → c ≡ (b || is_push f (j - 1))
      → seen (emit_all r (args_of E f b (pushed_nodes f from j))) ≡ seen (emit_all r₁ (args_of E f c (pushed_nodes f from (j - 1))))
  unfolding push_of
  pushed_turn from j b c r₁ r h s k =
      ap (λ (ns : List ℕ). seen (emit_all r (args_of E f b ns))) (nodes_down from j h)
      ∙ one_push (is_push f (j - 1)) b c (stmt_field f (j - 1) 2) (pushed_nodes f from (j - 1)) r₁ r s k

  nodes_none : (from j : ℕ) → j ≤ from → pushed_nodes f from j ≡ []
  unfolding pushed_nodes pushes_in gather
  nodes_none from j h = let z : j - from ≡ 0 = omega arith in ap (λ (n : ℕ). gather (stored_at f) (pushes_in f from n)) z

  pub pushed_end : (from i j : ℕ) (b : Bool) (r r₀ : Room) → j ≤ from
      → seen (emit_all r₀ (args_of E f false (pushed_nodes f from i))) ≡ seen (emit_all r (args_of E f b (pushed_nodes f from j)))
      → seen r ≡ seen (emit_all r₀ (comma_list (lowering_of E f) (trees_of E f (pushed_nodes f from i))))
  pushed_end from i j b r r₀ h s =
      sym (s ∙ ap (λ (l : List ℕ). seen (emit_all r (args_of E f b l))) (nodes_none from j h) ∙ args_none E f b r)
      ∙ ap (λ (ps : List Token). seen (emit_all r₀ ps)) (args_are E f (pushed_nodes f from i))
