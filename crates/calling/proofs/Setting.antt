-- The result's variable: the tables say at the number of a call's value what the definition counts of it, so the code's test is the definition's and
-- the code of the name is that of the value.
use mathlib.Core.Path.{◌≡◌, refl, sym, ap, ap₂, ◌∙◌}
use mathlib.Core.Bool.{Bool, true, false, cond}
use mathlib.Core.List.{List, [], ◌∷◌}
use Prim.Native.Nat.{ℕ, ◌+◌, ◌<◌}
use native.Mathlib.Omega.{arith}
use lib.ListN.{length, get_or}
use mir.Syntax.{w8}
use mir.Val.{Fits}
use borrow.Author.Tests.{ne_eqb}
use Rattle.definition.specs.Edition.{Edition, statements}
use Rattle.definition.specs.Texts.{txt}
use Rattle.definition.specs.Lists.{count, at}
use Rattle.definition.specs.Contents.{size}
use Rattle.definition.specs.Owners.{stmt_kind, stmt_field}
use Rattle.definition.specs.Values.{Value, value, eqv, within}
use Rattle.definition.specs.Meaning.{bits}
use Rattle.definition.specs.Read.{read}
use Rattle.definition.specs.Registers.{reg_name}
use Rattle.definition.specs.Classes.{classes}
use Rattle.definition.specs.Inline.{reads, phi_reads, reads_of, inline}
use Rattle.definition.specs.Lookup.{name_or}
use Rattle.definition.specs.Tokens.{register, punct}
use Rattle.definition.specs.Render.{variable}
use Rattle.definition.specs.Lower.{is_read, result_tokens}
use Rattle.definition.specs.Blocks.{lowering}
use Rattle.words.proofs.Laws.{word_small}
use Rattle.places.specs.declared.Places.{Places}
use Rattle.places.specs.Keys.{key_of, stmt_key, places_of, keyed}
use Rattle.values.specs.Tables.{table}
use Rattle.values.proofs.Tables.{table_read}
use Rattle.values.proofs.Placed.{at_stmt, keyed_length, stmt_here}
use Rattle.names.specs.Codes.{name_text, name_code}
use Rattle.reads.specs.Counts.{read_by, LiveReads, PhiReads}
use Rattle.reads.proofs.ReadAtAll.{read_by_lem}
use Rattle.room.specs.Room.{Room, emit_all, seen}
use Rattle.room.proofs.Laws.{pieces_are}
use Rattle.render.specs.Told.{Told}
use Rattle.lowering.specs.Lowered.{lowering_of}
use Rattle.calling.specs.Given.{Results}
use Rattle.calling.specs.Written.{setting_of, result_of}
use Rattle.lowering.proofs.Gen.{variable_coded}
use Rattle.lowering.proofs.Commas.{none_are}

-- ---- what the tables say
pub results_of : (f : List ℕ) (t : ℕ) (P : Places) (numbers offs placed names live phi : List ℕ) → Told f t P numbers offs placed names
    → LiveReads f (length numbers) live → PhiReads f (length numbers) phi → Results f P numbers names live phi
results_of f t P numbers offs placed names live phi told l p = record { ground = told.ground; named = told.named; times = l; flows = p }

module _ (f numbers names live phi : List ℕ) (P : Places) (G : Results f P numbers names live phi) (bytes : (k : ℕ) → Fits w8 (get_or f k 0))
    (i : ℕ) (call : (stmt_kind f i ≡ 3) × (i < size f statements)) where
  -- no result
  pub result_none : (E : Edition) (r : Room) (x : ℕ) → x ≡ stmt_field f i 3 → (x ≡ 1 → ⊥) → seen r ≡ seen (emit_all r (result_of E f i))
  unfolding result_of result_tokens
  result_none E r x e h = none_are r (result_of E f i) (rw (← e, ne_eqb x 1 h))

  module _ (x : ℕ) (field : x ≡ stmt_field f i 3) (given : x ≡ 1) where
    abbrev result : Value
    result = value (stmt_field f i 4) (stmt_field f i 5)

    key : at (keyed f (length numbers)) ((places_of f).stmts + i) ≡ key_of result
    unfolding stmt_key
    key = at_stmt f (length numbers) G.ground.counts i call.1 ∙ rw (call.0, sym field ∙ given) refl

    here : (places_of f).stmts + i < length (keyed f (length numbers))
    here = omega (arith, stmt_here f i call.1, keyed_length f (length numbers) G.ground.counts G.ground.room, G.ground.room)

    module _ (m : ℕ) (number : m ≡ at numbers (P.stmts + i)) where
      tells : (g : Value → ℕ) (t : List ℕ) → t ≡ table f (length numbers) g → at t m ≡ g result
      tells g t e =
          ap (at t) (number ∙ ap (λ (Q : Places). at numbers (Q.stmts + i)) G.ground.where_all)
          ∙ ap₂ (λ (a b : List ℕ). at a (at b ((places_of f).stmts + i))) e G.ground.values
          ∙ table_read f (length numbers) g ((places_of f).stmts + i) result (record { here = here; is = key; small = word_small f bytes _ })

      module _ (b : Bool) (test : b ≡ read_by live phi m) where
        read_is : (E : Edition) → is_read (reads_of (read E f)) result ≡ b
        read_is E =
            sym (test
            ∙ read_by_lem E f live phi m result (tells (λ v. count (eqv v) (reads (read E f))) live (G.times E))
            (tells (λ v. cond (within v (phi_reads (read E f))) 1 0) phi (G.flows E)))

        -- by whether it is read
        result_by : (E : Edition) → result_of E f i ≡ cond b (register (variable (lowering_of E f).gen result) ∷ punct (txt " = ") ∷ []) []
        unfolding result_of result_tokens lowering_of lowering
        result_by E =
            rw (sym field ∙ given)
            (ap (λ (p : Bool). cond p (register (variable (lowering_of E f).gen result) ∷ punct (txt " = ") ∷ []) []) (read_is E))

        pub result_unread : (E : Edition) (r : Room) → b ≡ false → seen r ≡ seen (emit_all r (result_of E f i))
        result_unread E r h = none_are r (result_of E f i) (result_by E ∙ ap (λ (p : Bool). cond p (register (variable (lowering_of E f).gen result) ∷ punct (txt " = ") ∷ []) []) h)

        pub result_read : (E : Edition) (r r₀ : Room) (w y z : ℕ) → b ≡ true → w ≡ bits f → y ≡ stmt_field f i 4 → z ≡ at names m
            → seen r ≡ seen (emit_all r₀ (setting_of w y z)) → seen r ≡ seen (emit_all r₀ (result_of E f i))
        unfolding setting_of
        result_read E r r₀ w y z h p q s k =
            let code : name_code (read E f) (classes (read E f)) (inline (read E f) (reads_of (read E f))) result ≡ z =
            sym (s ∙ tells (name_code (read E f) (classes (read E f)) (inline (read E f) (reads_of (read E f)))) names (G.named E)) in
            let name : variable (lowering_of E f).gen result ≡ name_or (reg_name w y) (name_text w y z) =
            variable_coded E f result
            ∙ ap (λ (c : ℕ). name_or (reg_name (bits f) (stmt_field f i 4)) (name_text (bits f) (stmt_field f i 4) c)) code
            ∙ ap₂ (λ (a b : ℕ). name_or (reg_name a b) (name_text a b z)) (sym p) (sym q) in
            pieces_are r r₀ (setting_of w y z) (result_of E f i) k
            (sym (result_by E ∙ ap (λ (c : Bool). cond c (register (variable (lowering_of E f).gen result) ∷ punct (txt " = ") ∷ []) []) h
            ∙ ap (λ (n : List ℕ). register n ∷ punct (txt " = ") ∷ []) name))
