-- The tables say of the value that a place names what the definition says of it; so a value prints as its slot's address, as the expression of its
-- statement where that is open, or else by the name that its code says.
use mathlib.Core.Path.{◌≡◌, sym, ap, ◌∙◌}
use mathlib.Core.Bool.{Bool, true, false, cond}
use mathlib.Core.Option.{none, some}
use mathlib.Core.List.{List, [], ◌∷◌}
use Prim.Native.Nat.{ℕ, ◌+◌, ◌*◌, ◌^◌, ◌-◌, ◌≤◌, ◌<◌}
use native.Mathlib.Omega.{arith}
use lib.ListN.{length, get_or}
use mir.Syntax.{w8}
use mir.Val.{Fits}
use borrow.Author.Tests.{ne_eqb}
use Rattle.definition.specs.Edition.{Edition, expressions}
use Rattle.definition.specs.Contents.{size, text, expr_word}
use Rattle.definition.specs.Owners.{stmt_field}
use Rattle.definition.specs.Values.{Value, value}
use Rattle.definition.specs.Meaning.{bits}
use Rattle.definition.specs.Offsets.{look, offsets}
use Rattle.definition.specs.Classes.{classes}
use Rattle.definition.specs.Inline.{reads_of, inline}
use Rattle.definition.specs.Registers.{reg_name}
use Rattle.definition.specs.Lookup.{name_or}
use Rattle.definition.specs.Read.{read}
use Rattle.definition.specs.Tokens.{Token, tok, register}
use Rattle.definition.specs.Render.{variable, opened_at, use_or, address_or, expr}
use Rattle.definition.specs.Lists.{at}
use Rattle.words.proofs.Laws.{word_small}
use Rattle.records.proofs.Items.{size_small}
use Rattle.places.specs.declared.Places.{Places}
use Rattle.places.specs.Keys.{key_of, value_of, expr_key, keyed}
use Rattle.values.specs.Tables.{table}
use Rattle.values.proofs.Tables.{decode, encode, key_not_0, table_read}
use Rattle.values.proofs.Placed.{keyed_length, at_expr}
use Rattle.sums.specs.Ground.{Ground}
use Rattle.sums.proofs.Naming.{expr_inside}
use Rattle.inline.specs.Placing.{place_of}
use Rattle.names.specs.Codes.{name_text, name_code}
use Rattle.room.specs.Room.{Room, emit, emit_all, seen}
use Rattle.room.proofs.Laws.{one}
use Rattle.render.specs.Gens.{gen_at, rendered, used}
use Rattle.render.specs.Told.{Told, NamedAt}
use Rattle.render.specs.Forms.{opens, rendered_below, address_tokens}
use Rattle.render.proofs.Opening.{Before, open_before, gen_offsets, opened_at_lem}
use Rattle.render.proofs.Coded.{variable_coded}
use Rattle.render.proofs.Formed.{below_all}
use Rattle.render.proofs.Falling.{falls_back}

-- ---- whether a place is open
-- where it is, its statement
pub was_open : (k pos : ℕ) (b : Bool) → b ≡ opens k pos → b ≡ true → Before k pos
was_open k pos b e h = open_before k pos (sym e ∙ h)

-- its statement is before pos, and the position falls
open_low : (k pos : ℕ) → Before k pos → k - 1 < pos
open_low k pos h = omega (arith, h.some, h.within)

pub open_falls : (f : List ℕ) (pos k b t : ℕ) → pos * 2 ^ 33 ≡ t → Before k pos → ((k : ℕ) → Fits w8 (get_or f k 0)) → b ≡ size f expressions → (k - 1) * 2 ^ 33 + 2 * b < t
open_falls f pos k b t e h bytes q = falls_back pos (k - 1) b t e (open_low k pos h) (rw q (size_small f bytes expressions))

pub all_within : (b m : ℕ) → b ≡ m → b ≤ m
all_within b m e = omega arith

-- ---- a place with the key of a value names that value
module _ (f : List ℕ) (m p r n : ℕ) (key : at (keyed f m) p ≡ key_of (value r n)) (small : n < 4294967296) where
  pub key_value : value_of (at (keyed f m) p) ≡ value r n
  key_value = ap value_of key ∙ decode r n small

  pub key_named : p < m → NamedAt f m p r
  key_named h = record { here = h; names = λ z. key_not_0 (value r n) (sym key ∙ z); register = ap (λ (v : Value). v.reg) key_value }

-- a Use node's own place
module _ (f numbers : List ℕ) (P : Places) (g : Ground f numbers P) (bytes : (k : ℕ) → Fits w8 (get_or f k 0)) (n : ℕ) (here : n < size f expressions) (uses : expr_word f n 0 ≡ 2) where
  use_key : at (keyed f (length numbers)) (P.exprs + n) ≡ key_of (value (expr_word f n 1) (expr_word f n 2))
  unfolding expr_key
  use_key = rw g.where_all (at_expr f (length numbers) g.counts n here ∙ rw uses)

  pub use_value_lem : value_of (at (keyed f (length numbers)) (P.exprs + n)) ≡ value (expr_word f n 1) (expr_word f n 2)
  use_value_lem = key_value f (length numbers) (P.exprs + n) (expr_word f n 1) (expr_word f n 2) use_key (word_small f bytes _)

  pub use_named : (r : ℕ) → r ≡ expr_word f n 1 → NamedAt f (length numbers) (P.exprs + n) r
  use_named r e =
      rw e (key_named f (length numbers) (P.exprs + n) (expr_word f n 1) (expr_word f n 2) use_key (word_small f bytes _) (expr_inside f numbers P g n here))

-- ---- the value that a place names
module _ (f numbers offs placed names : List ℕ) (t : ℕ) (P : Places) (T : Told f t P numbers offs placed names) (p r : ℕ) (N : NamedAt f (length numbers) p r) where
  abbrev v : Value
  v = value_of (at (keyed f (length numbers)) p)

  small : v.ver < 4294967296
  unfolding value_of
  small = omega arith

  table_says : (g : Value → ℕ) → at (table f (length numbers) g) (at numbers p) ≡ g v
  table_says g =
      let o = T.ground in
      ap (λ (l : List ℕ). at (table f (length numbers) g) (at l p)) o.values
      ∙ table_read f (length numbers) g p v
      (record {
        here = omega (arith, N.here, keyed_length f (length numbers) o.counts o.room);
        is = sym (encode (at (keyed f (length numbers)) p) N.names);
        small = small;
      })

  -- i is its number
  module _ (i : ℕ) (number : i ≡ at numbers p) (E : Edition) where
    look_is : (s : ℕ) → text E ≡ t → s ≡ at offs i → s ≡ look (offsets (read E f)) v
    look_is s z e = e ∙ rw (T.known E z, number) (table_says (look (offsets (read E f))))

    place_is : (k : ℕ) → k ≡ at placed i → k ≡ place_of E f v
    place_is k e = e ∙ rw (T.placed E, number) (table_says (place_of E f))

    code_is : (c : ℕ) → c ≡ at names i → c ≡ name_code (read E f) (classes (read E f)) (inline (read E f) (reads_of (read E f))) v
    code_is c e = e ∙ rw (T.named E, number) (table_says (name_code (read E f) (classes (read E f)) (inline (read E f) (reads_of (read E f)))))

  module _ (r₁ r₀ : Room) (pos : ℕ) (top : Bool) (i s : ℕ) (number : i ≡ at numbers p) (off : s ≡ at offs i) where
    pub value_address : (s ≡ 0 → ⊥) → seen r₁ ≡ seen (emit_all r₀ (address_tokens s)) → (E : Edition) → text E ≡ t → seen r₁ ≡ seen (emit_all r₀ (used E f pos top v))
    unfolding used expr address_or address_tokens
    value_address n e E z = rw (gen_offsets E f pos, ← look_is i number E s z off, ne_eqb s 0 n) e

    -- where nothing is known of its offset
    no_address : s ≡ 0 → (E : Edition) → text E ≡ t → used E f pos top v ≡ use_or (variable (gen_at E f pos) v) (opened_at (gen_at E f pos).opened top v)
    unfolding used expr address_or
    no_address e E z = rw (gen_offsets E f pos, ← look_is i number E s z off, e)

    module _ (none_known : s ≡ 0) (k : ℕ) (place : k ≡ at placed i) where
      -- what is open of it
      opened_by : (E : Edition) (o : Bool) → o ≡ opens k pos
          → opened_at (gen_at E f pos).opened top v ≡ cond o (some (rendered E f (k - 1) top (stmt_field f (k - 1) 2))) none
      opened_by E o e = rw (e, place_is i number E k place) (opened_at_lem E f T.ground.counts T.once top v pos)

      pub value_opened : (o : Bool) (b n : ℕ) → o ≡ opens k pos → o ≡ true → b ≡ size f expressions → n ≡ stmt_field f (k - 1) 2
          → ((E : Edition) → text E ≡ t → seen r₁ ≡ seen (emit_all r₀ (rendered_below E f (k - 1) b top n)))
          → (E : Edition) → text E ≡ t → seen r₁ ≡ seen (emit_all r₀ (used E f pos top v))
      unfolding use_or
      value_opened o b n h y q d e E z =
          let own : used E f pos top v ≡ rendered E f (k - 1) top (stmt_field f (k - 1) 2) =
          no_address none_known E z ∙ ap (use_or (variable (gen_at E f pos) v)) (opened_by E true (sym y ∙ h)) in
          e E z ∙ ap (λ (ts : List Token). seen (emit_all r₀ ts)) (rw (q, d) (below_all E f (k - 1) (stmt_field f (k - 1) 2) top) ∙ sym own)

      pub value_named : (b : Bool) (w c : ℕ) → b ≡ opens k pos → b ≡ false → w ≡ bits f → c ≡ at names i
          → r₁ ≡ emit r₀ (tok 1 (name_or (reg_name w r) (name_text w r c)))
          → (E : Edition) → text E ≡ t → seen r₁ ≡ seen (emit_all r₀ (used E f pos top v))
      unfolding use_or
      value_named b w c h q d m e E z =
          let own : used E f pos top v ≡ register (variable (gen_at E f pos) v) ∷ [] =
          no_address none_known E z ∙ ap (use_or (variable (gen_at E f pos) v)) (opened_by E false (sym q ∙ h)) in
          let text' : name_or (reg_name w r) (name_text w r c) ≡ variable (gen_at E f pos) v =
          rw (d, ← N.register, code_is i number E c m) (sym (variable_coded E f pos v)) in
          one r₁ r₀ _ e ∙ ap (λ (ts : List Token). seen (emit_all r₀ ts)) (ap (λ (x : List ℕ). register x ∷ []) text' ∙ sym own)
