-- Refusals 2, 3 and 4 (document 01, "When nothing is printed"; D1 to D6): size, edition and limits, sections, and each word in its place.
use Rattle.std.specs.Prelude.{Bool, true, false, not, cond, ◌&&◌, ◌||◌, List, [], ◌∷◌, ℕ, ◌+◌, ◌*◌, eqb, ltb, leb, length}
use Rattle.definition.specs.Edition.{Edition, Section, blocks, phis, inputs, statements, lists, expressions}
use Rattle.definition.specs.Codes.{k_assign, k_store, k_call, k_branch, k_flags, k_return, k_other, t_const, t_use, t_bin, t_un, t_load, t_opaque}
use Rattle.definition.specs.Words.{word}
use Rattle.definition.specs.Lists.{all_below}
use Rattle.definition.specs.Contents.{contents, offset, size, block_word, phi_word, stmt_word, item_word, expr_word}
use Rattle.definition.specs.Owners.{stmt_kind, stmt_field, expr_items, first_phi, first_stmt, first_input, first_item}

-- 2: too short, another edition, or the reserved word not 0
unfoldable pub refused2 : Edition → List ℕ → Bool
refused2 E f = ltb (length f) (contents E) || not (eqb (word f 0) E.number) || not (eqb (word f 12) 0)

-- 3: too long, or a section of too many records
unfoldable pub too_many : List ℕ → ℕ → List Section → Bool
too_many f s [] = false
too_many f s (t ∷ ts) = ltb t.most (size f s) || too_many f (s + 1) ts

unfoldable pub refused3 : Edition → List ℕ → Bool
refused3 E f = ltb E.most (length f) || too_many f 0 E.sections

-- the sections follow each other from byte `from` on, and end with the file
unfoldable pub bytes_of : Section → ℕ → ℕ
bytes_of t n = cond (eqb t.words 0) n (4 * (t.words * n))

unfoldable pub adjoin : List ℕ → ℕ → ℕ → List Section → Bool
adjoin f from s [] = eqb from (length f)
adjoin f from s (t ∷ ts) = eqb (offset f s) from && adjoin f (from + bytes_of t (size f s)) (s + 1) ts

-- what is owned comes out exactly
unfoldable pub owned : List ℕ → Bool
owned f =
    eqb (first_phi f (size f blocks)) (size f phis) && eqb (first_stmt f (size f blocks)) (size f statements)
    && eqb (first_input f (size f phis)) (size f inputs) && eqb (first_item f (size f statements)) (size f lists)

-- a word that is 0 or 1; a word that is 0 where the word before it says that nothing is there
abbrev pub bit : ℕ → Bool
bit w = leb w 1

abbrev pub absent : ℕ → ℕ → Bool
absent there w = cond (eqb there 0) (eqb w 0) true

abbrev pub byte : ℕ → Bool
byte w = leb w 255

unfoldable pub block_shaped : List ℕ → ℕ → Bool
block_shaped f i =
    let w = block_word f i in
    bit (w 2) && absent (w 2) (w 3) && absent (w 2) (w 4) && bit (w 5) && absent (w 5) (w 6) && absent (w 5) (w 7)

unfoldable pub phi_shaped : List ℕ → ℕ → Bool
phi_shaped f i = bit (phi_word f i 2)

-- the seven fields of a statement of each kind
unfoldable pub fields_shaped : ℕ → (ℕ → ℕ) → Bool
fields_shaped k w =
    cond (eqb k k_assign) (eqb (w 3) 0 && eqb (w 4) 0 && eqb (w 5) 0 && eqb (w 6) 0)
    (cond (eqb k k_store) (byte (w 0) && eqb (w 3) 0 && eqb (w 4) 0 && eqb (w 5) 0 && eqb (w 6) 0)
    (cond (eqb k k_call) (bit (w 3) && absent (w 3) (w 4) && absent (w 3) (w 5))
    (cond (eqb k k_branch) (bit (w 0) && absent (w 0) (w 1) && absent (w 0) (w 2) && bit (w 3) && absent (w 3) (w 4) && absent (w 3) (w 5))
    (cond (eqb k k_flags) (bit (w 0) && eqb (w 3) 0 && eqb (w 4) 0 && eqb (w 5) 0 && eqb (w 6) 0)
    (cond (eqb k k_return) (bit (w 0) && absent (w 0) (w 1) && eqb (w 2) 0 && eqb (w 3) 0 && eqb (w 4) 0 && eqb (w 5) 0 && eqb (w 6) 0)
    (cond (eqb k k_other) (eqb (w 4) 0 && eqb (w 5) 0 && eqb (w 6) 0) false))))))

-- an item that is an expression has 0 behind it
unfoldable pub items_shaped : List ℕ → ℕ → Bool
items_shaped f i = all_below (expr_items f i) (λ k. eqb (item_word f (first_item f i + k) 1) 0)

unfoldable pub stmt_shaped : List ℕ → ℕ → Bool
stmt_shaped f i = leb (stmt_word f i 2) 7 && fields_shaped (stmt_kind f i) (stmt_field f i) && items_shaped f i

-- the four fields of an expression of each tag
unfoldable pub expr_shaped : List ℕ → ℕ → Bool
expr_shaped f i =
    let t = expr_word f i 0 in
    let w = expr_word f i in
    cond (eqb t t_const) (eqb (w 3) 0 && eqb (w 4) 0)
    (cond (eqb t t_use) (eqb (w 3) 0 && eqb (w 4) 0)
    (cond (eqb t t_bin) true
    (cond (eqb t t_un) (eqb (w 4) 0)
    (cond (eqb t t_load) (byte (w 1) && eqb (w 3) 0 && eqb (w 4) 0)
    (cond (eqb t t_opaque) (eqb (w 3) 0 && eqb (w 4) 0) false)))))

-- 4: sections, owned counts, or a word out of place
unfoldable pub shaped : List ℕ → Bool
shaped f =
    bit (word f 8) && all_below (size f blocks) (block_shaped f) && all_below (size f phis) (phi_shaped f)
    && all_below (size f statements) (stmt_shaped f) && all_below (size f expressions) (expr_shaped f)

unfoldable pub refused4 : Edition → List ℕ → Bool
refused4 E f = not (adjoin f (contents E) 0 E.sections && owned f && shaped f)
