-- What the tables say of the value that an Assign defines, at its number: whether it is written in place, whether its class is really read, and its name.
use mathlib.Core.Path.{◌≡◌, refl, sym, ap, ap₂, ◌∙◌}
use mathlib.Core.Bool.{Bool, not, cond, ◌&&◌, ◌||◌}
use mathlib.Core.List.{List}
use Prim.Native.Nat.{ℕ, ◌+◌, ◌<◌}
use native.Mathlib.Omega.{arith}
use lib.Dec.{eqb}
use lib.ListN.{length, get_or}
use mir.Syntax.{w8}
use mir.Val.{Fits}
use Rattle.words.proofs.Laws.{word_small}
use Rattle.definition.specs.Edition.{Edition, statements}
use Rattle.definition.specs.Contents.{size, text}
use Rattle.definition.specs.Owners.{stmt_kind, stmt_field}
use Rattle.definition.specs.Values.{Value, within, RSP}
use Rattle.definition.specs.Meaning.{bits}
use Rattle.definition.specs.Ssa.{Expr}
use Rattle.definition.specs.Read.{marked, read}
use Rattle.definition.specs.Offsets.{offsets}
use Rattle.definition.specs.Classes.{find, classes}
use Rattle.definition.specs.Inline.{reads_of, inline}
use Rattle.definition.specs.Registers.{reg_name, callee_saved}
use Rattle.definition.specs.Lookup.{name_or}
use Rattle.definition.specs.Tokens.{tok}
use Rattle.definition.specs.Render.{variable}
use Rattle.definition.specs.Lower.{is_stack_load, restores}
use Rattle.definition.specs.Blocks.{read_roots, lowering}
use Rattle.definition.specs.Lists.{at}
use Rattle.reads.proofs.ReadAtAll.{bit_not}
use Rattle.places.specs.declared.Places.{Places}
use Rattle.places.specs.Keys.{stmt_key, places_of}
use Rattle.values.specs.Tables.{numbered, table}
use Rattle.values.proofs.Placed.{at_stmt, keyed_length, stmt_here}
use Rattle.values.proofs.Tables.{table_read, Names}
use Rattle.names.specs.Codes.{name_text, name_code}
use Rattle.names.proofs.Mentioned.{root_number}
use Rattle.names.proofs.Rooted.{rooted}
use Rattle.inline.specs.Placing.{place_of}
use Rattle.inline.proofs.Forgetting.{in_place_lem}
use Rattle.room.specs.Room.{Room, emit, emit_all, seen}
use Rattle.room.proofs.Laws.{next}
use Rattle.render.specs.Told.{Told}
use Rattle.lowering.specs.Lowered.{lowering_of}
use Rattle.plain.specs.Classed.{Classed}
use Rattle.plain.specs.Pieces.{becomes, target, gone_by, is_gone, restored_by, assign_of}
use Rattle.lowering.proofs.Gen.{variable_coded}

-- ---- the name
pub name_put : (r₁ r₀ : Room) (f names : List ℕ) (i m w r c : ℕ) → w ≡ bits f → r ≡ stmt_field f i 0 → c ≡ at names m
    → r₁ ≡ emit r₀ (tok 1 (name_or (reg_name w r) (name_text w r c)))
    → r₁ ≡ emit r₀ (tok 1 (name_or (reg_name (bits f) (stmt_field f i 0)) (name_text (bits f) (stmt_field f i 0) (at names m))))
name_put r₁ r₀ f names i m w r c p q d e = rw (← p, ← q, ← d) e

-- ---- what the tables say
module _ (f : List ℕ) (bytes : (k : ℕ) → Fits w8 (get_or f k 0)) (t : ℕ) (P : Places) (numbers offs placed names : List ℕ)
    (told : Told f t P numbers offs placed names) (i : ℕ) (assigns : stmt_kind f i ≡ 1) (here : i < size f statements)
    (m : ℕ) (is : m ≡ at numbers (P.stmts + i)) where
  abbrev n : ℕ
  n = length numbers

  abbrev spot : ℕ
  spot = (places_of f).stmts + i

  mention : Names f n spot (target f i)
  unfolding stmt_key
  mention = record {
    here = omega (arith, stmt_here f i here, keyed_length f n told.ground.counts told.ground.room, told.ground.room);
    is = at_stmt f n told.ground.counts i here ∙ rw assigns refl;
    small = word_small f bytes _;
  }

  number : m ≡ at (numbered f n) spot
  number = is ∙ ap₂ (λ (l : List ℕ) (Q : Places). at l (Q.stmts + i)) told.ground.values told.ground.where_all

  tells : (g : Value → ℕ) (l : List ℕ) → l ≡ table f n g → at l m ≡ g (target f i)
  tells g l e = ap₂ at e number ∙ table_read f n g spot (target f i) mention

  module _ (E : Edition) where
    pub gone_is : (r : Bool) → r ≡ gone_by f i (at placed m) → r ≡ is_gone E f i
    unfolding gone_by is_gone lowering_of lowering
    gone_is r e =
        e ∙ ap (λ (b : Bool). marked f i 1 || eqb (stmt_field f i 0) RSP || b)
        (ap (λ (p : ℕ). not (eqb p 0)) (tells (place_of E f) placed (told.placed E)) ∙ sym (in_place_lem E f (target f i)))

    pub assign_put : (r₂ r₁ r₀ : Room) (k : ℕ) → r₁ ≡ emit r₀ (tok 1 (name_or (reg_name (bits f) (stmt_field f i 0)) (name_text (bits f) (stmt_field f i 0) (at names m))))
        → k ≡ stmt_field f i 2 → seen r₂ ≡ seen (emit_all r₁ (becomes E f k)) → seen r₂ ≡ seen (emit_all r₀ (assign_of E f i))
    unfolding assign_of
    assign_put r₂ r₁ r₀ k a q b =
        let code = name_code (read E f) (classes (read E f)) (inline (read E f) (reads_of (read E f))) in
        let same : variable (lowering_of E f).gen (target f i) ≡ name_or (reg_name (bits f) (stmt_field f i 0)) (name_text (bits f) (stmt_field f i 0) (at names m)) =
        variable_coded E f (target f i) ∙ ap (λ (c : ℕ). name_or (reg_name (bits f) (stmt_field f i 0)) (name_text (bits f) (stmt_field f i 0) c)) (sym (tells code names (told.named E))) in
        rw (same, ← q) (next r₂ r₀ _ _ a b)

    -- the class's mark
    module _ (section : text E ≡ t) (roots marks : List ℕ) (classed : Classed f t n offs roots marks) where
      class_marked : at marks (at roots m) ≡ cond (within (find (classes (read E f)) (target f i)) (read_roots (read E f) (offsets (read E f)) (classes (read E f)))) 1 0
      class_marked =
          let to = rooted f bytes told.ground.counts n told.ground.room E spot (target f i) mention in
          ap₂ at (classed.read E (offsets (read E f)) section (told.known E section) (classed.rooted E))
          (ap₂ at (classed.rooted E) number ∙ root_number f n (find (classes (read E f))) spot to.0 (target f i) mention to.1)
          ∙ table_read f n (λ v. cond (within v (read_roots (read E f) (offsets (read E f)) (classes (read E f)))) 1 0) to.0 (find (classes (read E f)) (target f i)) to.1

      class_unread : eqb (at marks (at roots m)) 0 ≡ not (within (find (lowering_of E f).classes (target f i)) (lowering_of E f).read_roots)
      unfolding lowering_of lowering
      class_unread =
          ap (λ (z : ℕ). eqb z 0) class_marked ∙ bit_not (within (find (classes (read E f)) (target f i)) (read_roots (read E f) (offsets (read E f)) (classes (read E f))))

      pub restore_is : (r : Bool) (x : Expr) → r ≡ restored_by f i (at marks (at roots m)) (is_stack_load (lowering_of E f) x) → r ≡ restores (lowering_of E f) (target f i) x
      unfolding restored_by restores
      restore_is r x e = e ∙ ap (λ (b : Bool). callee_saved (stmt_field f i 0) && b && is_stack_load (lowering_of E f) x) class_unread
