-- The variables that an Other sets and somebody reads: the definition's list of their names is empty, of one or of more as the code's search says, since
-- the tables say of each value whether it is read and what its name is.
use mathlib.Core.Path.{◌≡◌, refl, sym, ap, ap₂, subst, ◌∙◌}
use mathlib.Core.Bool.{Bool, true, false, cond}
use mathlib.Core.List.{List, [], ◌∷◌, ◌++◌, append_assoc, append-nil}
use Prim.Native.Nat.{ℕ, zero, suc, ◌+◌, ◌<◌}
use native.Mathlib.Omega.{arith}
use lib.Dec.{eqb}
use lib.ListN.{length, get_or}
use mir.Syntax.{w8}
use mir.Val.{Fits}
use Rattle.words.proofs.Laws.{word_small}
use Rattle.definition.specs.Edition.{Edition, statements}
use Rattle.definition.specs.Lists.{count, gather, range, at}
use Rattle.definition.specs.Contents.{size, item_word, text_at}
use Rattle.definition.specs.Owners.{stmt_field, expr_items, value_items, first_item}
use Rattle.definition.specs.Values.{Value, value, eqv, within}
use Rattle.definition.specs.Meaning.{bits, item_values}
use Rattle.definition.specs.Read.{read}
use Rattle.definition.specs.Classes.{classes}
use Rattle.definition.specs.Inline.{reads, phi_reads, reads_of, inline}
use Rattle.definition.specs.Names.{name_in}
use Rattle.definition.specs.Lookup.{name_or}
use Rattle.definition.specs.Lower.{Lowering, is_read, name_list, asm}
use Rattle.definition.specs.Blocks.{lowering}
use Rattle.definition.proofs.Bools.{by_test}
use Rattle.records.proofs.Ranges.{gather_map}
use Rattle.places.specs.declared.Places.{Places}
use Rattle.places.specs.Keys.{item_key, places_of}
use Rattle.values.specs.Tables.{table}
use Rattle.values.proofs.Placed.{at_item, keyed_length, item_here}
use Rattle.values.proofs.Tables.{table_read, Names}
use Rattle.reads.specs.Counts.{read_by, LiveReads, PhiReads}
use Rattle.reads.proofs.ReadAtAll.{read_by_lem}
use Rattle.names.specs.Codes.{code_text, name_text, name_code}
use Rattle.render.specs.Told.{Told}
use Rattle.lowering.specs.Lowered.{lowering_of}
use Rattle.plain.specs.declared.sets.Sets.{Sets}
use Rattle.plain.specs.declared.sets.Sets.TheVariants.{Nothing, One, More}
use Rattle.plain.specs.Asm.{Tables, tables, with_one, with_name, code_at, sets_from, asm_block, asm_call, asm_of, other_of}
use Rattle.lowering.proofs.Gen.{name_coded}

-- ---- a list of names that what was found says
record Two (ns : List (List ℕ)) : Type 0 where
  first : List ℕ
  second : List ℕ
  rest : List (List ℕ)
  are : ns ≡ first ∷ second ∷ rest

module _ (b : ℕ) where
  unfoldable Says : Sets → List (List ℕ) → Type 0
  Says Nothing ns = ns ≡ []
  Says (One n) ns = (ns ≡ code_text b n.reg n.code ∷ []) × (eqb n.code 0 ≡ false)
  Says More ns = Two ns

  -- it prints as the definition says
  says_asm : (s : Sets) (ns : List (List ℕ)) (x : List ℕ) → Says s ns → asm ns x ≡ asm_of b s x
  unfolding Says asm asm_of asm_block asm_call name_text name_or
  says_asm Nothing ns x h = rw h
  says_asm (One n) ns x h = rw (h.0, h.1)
  says_asm More ns x h = ap (λ (l : List (List ℕ)). asm l x) h.are

  -- one name more
  says_one : (s : Sets) (ns : List (List ℕ)) (r c : ℕ) → eqb c 0 ≡ false → Says s ns → Says (with_one s r c) (ns ++ (code_text b r c ∷ []))
  unfolding Says with_one
  says_one Nothing ns r c h e = (rw e, h)
  says_one (One n) ns r c h e = record { first = code_text b n.reg n.code; second = code_text b r c; rest = []; are = rw e.0 }
  says_one More ns r c h e = record { first = e.first; second = e.second; rest = e.rest ++ (code_text b r c ∷ []); are = ap (λ (l : List (List ℕ)). l ++ (code_text b r c ∷ [])) e.are }

  abbrev list_of : ℕ → ℕ → List (List ℕ)
  list_of r c = cond (eqb c 0) [] (code_text b r c ∷ [])

  says_name : (s : Sets) (ns : List (List ℕ)) (r c : ℕ) → Says s ns → Says (with_name s r c) (ns ++ list_of r c)
  unfolding with_name
  says_name s ns r c e =
      by_test (eqb c 0) (λ h. rw (h, append-nil ns) e) (λ h. rw h (says_one s ns r c h e))

  -- a run of n values from place a + j on, each with the names that g gives
  says_run : (f : List ℕ) (T : Tables) (base a : ℕ) (g : ℕ → List (List ℕ)) (m j n : ℕ) (s : Sets) (ns : List (List ℕ)) → j + n ≡ m
      → ((k : ℕ) → k < m → g k ≡ list_of (item_word f (a + k) 0) (code_at f T base (a + k)))
      → Says s ns → Says (sets_from f T base (a + j) n s) (ns ++ gather g (range j n))
  unfolding sets_from gather range
  says_run f T base a g m j zero s ns h are e = rw (append-nil ns) e
  says_run f T base a g m j (suc n) s ns h are e =
      let next = says_run f T base a g m (j + 1) n (with_name s (item_word f (a + j) 0) (code_at f T base (a + j))) (ns ++ g j) (omega arith) are in
      let q : a + j + 1 ≡ a + (j + 1) = omega arith in
      rw (q, ← append_assoc ns (g j) (gather g (range (j + 1) n)))
      (next (rw (are j (omega arith)) (says_name s ns (item_word f (a + j) 0) (code_at f T base (a + j)) e)))

-- the names that the definition lists of a value that is read or not as q says, and whose code is c
list_by : (L : Lowering) (v : Value) (b c : ℕ) (q : Bool) → is_read L.reads v ≡ q → name_in L.gen.names v ≡ name_text b v.reg c
    → name_list L v ≡ list_of b v.reg (cond (eqb v.reg 4) 0 (cond q c 0))
unfolding name_list name_text
list_by L v b c true e d = rw (e, d) (by_test (eqb v.reg 4) (λ h. rw h) (λ h. rw h (by_test (eqb c 0) (λ z. rw z) (λ z. rw z))))
list_by L v b c false e d = rw (e, d) (by_test (eqb v.reg 4) (λ h. rw h) (λ h. rw h))

-- ---- the values of the lists
module _ (f : List ℕ) (bytes : (k : ℕ) → Fits w8 (get_or f k 0)) (t : ℕ) (P : Places) (numbers offs placed names live phi : List ℕ)
    (told : Told f t P numbers offs placed names) (lives : LiveReads f (length numbers) live) (flows : PhiReads f (length numbers) phi)
    (i : ℕ) (inside : i < size f statements) where
  abbrev n : ℕ
  n = length numbers

  abbrev from : ℕ
  from = first_item f i + expr_items f i

  abbrev val : ℕ → Value
  val j = value (item_word f (from + j) 0) (item_word f (from + j) 1)

  abbrev T : Tables
  T = tables numbers names live phi

  module _ (j : ℕ) (here : j < value_items f i) where
    abbrev spot : ℕ
    spot = (places_of f).items + (from + j)

    mention : Names f n spot (val j)
    unfolding item_key
    mention = record {
      here = omega (arith, item_here f told.ground.counts i j inside here, keyed_length f n told.ground.counts told.ground.room, told.ground.room);
      is = at_item f n told.ground.counts i j inside here;
      small = word_small f bytes _;
    }

    tells : (g : Value → ℕ) (l : List ℕ) → l ≡ table f n g → at l (at numbers spot) ≡ g (val j)
    tells g l e = ap₂ (λ (a b : List ℕ). at a (at b spot)) e told.ground.values ∙ table_read f n g spot (val j) mention

    module _ (E : Edition) where
      read_is : read_by live phi (at numbers spot) ≡ is_read (lowering_of E f).reads (val j)
      unfolding lowering_of lowering
      read_is =
          read_by_lem E f live phi (at numbers spot) (val j) (tells (λ v. count (eqv v) (reads (read E f))) live (lives E))
          (tells (λ v. cond (within v (phi_reads (read E f))) 1 0) phi (flows E))

      list_is : name_list (lowering_of E f) (val j) ≡ list_of (bits f) (item_word f (from + j) 0) (code_at f T (places_of f).items (from + j))
      unfolding code_at
      list_is =
          list_by (lowering_of E f) (val j) (bits f) (at names (at numbers spot)) (read_by live phi (at numbers spot)) (sym read_is)
          (name_coded E f (val j)
          ∙ ap (name_text (bits f) (item_word f (from + j) 0)) (sym (tells (name_code (read E f) (classes (read E f)) (inline (read E f) (reads_of (read E f)))) names (told.named E))))

  module _ (E : Edition) where
    abbrev found : ℕ → Sets
    found k = sets_from f T (places_of f).items k (value_items f i) Nothing

    all_says : Says (bits f) (found from) (gather (name_list (lowering_of E f)) (item_values f i))
    unfolding item_values Says
    all_says =
        let z : from + 0 ≡ from = omega arith in
        subst (λ (l : List (List ℕ)). Says (bits f) (found from) l) (sym (gather_map (name_list (lowering_of E f)) val (range 0 (value_items f i))))
        (subst (λ (k : ℕ). Says (bits f) (found k) (gather (λ j. name_list (lowering_of E f) (val j)) (range 0 (value_items f i)))) z
        (says_run (bits f) f T (places_of f).items from (λ j. name_list (lowering_of E f) (val j)) (value_items f i) 0 (value_items f i) Nothing [] (omega arith) (λ k h. list_is k h E) refl))

    pub other_is : (s : Sets) → s ≡ found from
        → asm_of (bits f) s (text_at E f (stmt_field f i 0) (stmt_field f i 1)) ≡ other_of E f i
    unfolding other_of
    other_is s e =
        let x = text_at E f (stmt_field f i 0) (stmt_field f i 1) in
        ap (λ (z : Sets). asm_of (bits f) z x) e ∙ sym (says_asm (bits f) (found from) (gather (name_list (lowering_of E f)) (item_values f i)) x all_says)
