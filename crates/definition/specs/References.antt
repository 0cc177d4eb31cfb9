-- Refusal 5 (document 01, "When nothing is printed"; D7 to D9): texts inside the text, children lower, every expression owned once.
use Rattle.std.specs.Prelude.{Bool, true, not, cond, ◌&&◌, List, [], ◌∷◌, ◌++◌, map, ℕ, ◌+◌, eqb, ltb, leb}
use Rattle.definition.specs.Codes.{k_assign, k_store, k_call, k_branch, k_flags, k_return, k_other, t_bin, t_un, t_load, t_opaque}
use Rattle.definition.specs.Edition.{Edition, statements, expressions, names}
use Rattle.definition.specs.Lists.{all, count, gather, range, all_below}
use Rattle.definition.specs.Contents.{size, text, text_at, item_word, expr_word, name_word}
use Rattle.definition.specs.Owners.{stmt_kind, stmt_field, expr_items, first_item}

-- n bytes from `start` on lie inside the text
unfoldable pub in_text : Edition → List ℕ → ℕ → ℕ → Bool
in_text E f start n = leb (start + n) (size f (text E))

unfoldable pub printable : ℕ → Bool
printable b = leb 32 b && leb b 126

unfoldable pub name_sound : Edition → List ℕ → ℕ → Bool
name_sound E f i = in_text E f (name_word f i 2) (name_word f i 3) && not (eqb (name_word f i 3) 0)

-- a Call's target, a Branch's condition, an Other's text
unfoldable pub stmt_text : Edition → List ℕ → ℕ → Bool
stmt_text E f i =
    let k = stmt_kind f i in
    cond (eqb k k_call) (in_text E f (stmt_field f i 0) (stmt_field f i 1))
    (cond (eqb k k_branch) (in_text E f (stmt_field f i 1) (stmt_field f i 2))
    (cond (eqb k k_other) (in_text E f (stmt_field f i 0) (stmt_field f i 1)) true))

-- an operator, which is not empty, and an Opaque's text
unfoldable pub expr_text : Edition → List ℕ → ℕ → Bool
expr_text E f i =
    let t = expr_word f i 0 in
    let inside = in_text E f (expr_word f i 1) (expr_word f i 2) in
    cond (eqb t t_bin) (inside && not (eqb (expr_word f i 2) 0))
    (cond (eqb t t_un) (inside && not (eqb (expr_word f i 2) 0))
    (cond (eqb t t_opaque) inside true))

-- the children of expression i
unfoldable pub children : List ℕ → ℕ → List ℕ
children f i =
    let t = expr_word f i 0 in
    cond (eqb t t_bin) (expr_word f i 3 ∷ expr_word f i 4 ∷ [])
    (cond (eqb t t_un) (expr_word f i 3 ∷ [])
    (cond (eqb t t_load) (expr_word f i 2 ∷ []) []))

-- the expressions among the list items of statement i
unfoldable pub item_exprs : List ℕ → ℕ → List ℕ
item_exprs f i = map (λ k. item_word f (first_item f i + k) 0) (range 0 (expr_items f i))

-- the expressions that statement i names
unfoldable pub roots : List ℕ → ℕ → List ℕ
roots f i =
    let k = stmt_kind f i in
    cond (eqb k k_assign) (stmt_field f i 2 ∷ [])
    (cond (eqb k k_store) (stmt_field f i 1 ∷ stmt_field f i 2 ∷ [])
    (cond (eqb k k_flags) (stmt_field f i 1 ∷ stmt_field f i 2 ∷ [])
    (cond (eqb k k_return) (cond (eqb (stmt_field f i 0) 1) (stmt_field f i 1 ∷ []) [])
    (item_exprs f i))))

-- every expression that a statement or an expression names, once for each time
unfoldable pub mentions : List ℕ → List ℕ
mentions f = gather (roots f) (range 0 (size f statements)) ++ gather (children f) (range 0 (size f expressions))

unfoldable pub children_lower : List ℕ → ℕ → Bool
children_lower f i = all (λ c. ltb c i) (children f i)

unfoldable pub roots_inside : List ℕ → ℕ → Bool
roots_inside f i = all (λ e. ltb e (size f expressions)) (roots f i)

unfoldable pub owned_once : List ℕ → Bool
owned_once f = let m = mentions f in all_below (size f expressions) (λ e. eqb (count (eqb e) m) 1)

-- 5
unfoldable pub refused5 : Edition → List ℕ → Bool
refused5 E f = not
    (all printable (text_at E f 0 (size f (text E)))
    && all_below (size f names) (name_sound E f) && all_below (size f statements) (stmt_text E f) && all_below (size f expressions) (expr_text E f)
    && all_below (size f expressions) (children_lower f) && all_below (size f statements) (roots_inside f) && owned_once f)
