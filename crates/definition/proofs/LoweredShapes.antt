-- The shapes of lowered lines. A block writes its label, if something jumps there, the lines of its statements, and a closing goto; so every line
-- is a label or as LoweredLines says, and the label lines are those of the starts that are jumped to, in the blocks' order.
use mathlib.Core.Path.{◌≡◌, refl, sym, ap, ap₂, subst, ◌∙◌}
use mathlib.Core.Bool.{Bool, true, false, cond}
use mathlib.Core.Option.{none, some}
use mathlib.Core.List.{List, [], ◌∷◌, ◌++◌, map, append_assoc, append-nil}
use Prim.Native.Nat.{ℕ, ◌≤◌}
use native.Mathlib.Omega.{arith}
use lib.ListN.{length}
use Rattle.definition.specs.Texts.{txt}
use Rattle.definition.specs.Lists.{among, gather, only, or_else}
use Rattle.definition.specs.Ssa.{Kind, Stmt, Block, Name, Function}
use Rattle.definition.specs.Ssa.Kind.{Assign, Store, Call, Branch, Flags, Return, Other}
use Rattle.definition.specs.Offsets.{Known}
use Rattle.definition.specs.Classes.{classes}
use Rattle.definition.specs.Inline.{InPlace, reads_of, inline}
use Rattle.definition.specs.Names.{naming}
use Rattle.definition.specs.Numbers.{hex_upper, label, outward}
use Rattle.definition.specs.Lookup.{global_name, next_of, is_next, target_name, order, jumps_from}
use Rattle.definition.specs.Tokens.{Line, symbol, punct, line}
use Rattle.definition.specs.Render.{Gen, open_next, open_all}
use Rattle.definition.specs.Lower.{Lowering, Here}
use Rattle.definition.specs.Blocks.{lower_stmts, last_leaves, closing, label_line, lower_block, lower_blocks, lowering, lower}
use Rattle.definition.specs.Sorts.{Sort, sort}
use Rattle.definition.specs.Passes.{label_name}
use Rattle.definition.proofs.Bools.{by_cond}
use Rattle.definition.proofs.ListLaws.{Each, end, ◌▸◌, each_append, each_to}
use Rattle.definition.proofs.TokenSorts.{label_line_lem, if_sort}
use Rattle.definition.proofs.LoweredRender.{Sound, open_all_lem}
use Rattle.definition.proofs.LoweredLines.{Stated, conditional, jump, simple, GoesTo, stmts_lines, closing_lines}
use Rattle.definition.proofs.LoweredNames.{supplied, by_global, by_target, by_prefix}

-- a lowered line; P says what is known of the names that jumps aim at
pub data LineShape (P : List ℕ → Type 0) : Line → Type 0 where
  labelled : (a : ℕ) → LineShape P (line 0 (some a) (symbol (label a) ∷ punct (txt ":") ∷ []))
  stated : {x : Line} → Stated P x → LineShape P x

-- ---- what a block's destinations have to have
pub record Lead (D : ℕ → Type 0) (H : Here) : Type 0 where
  pub fall : (a : ℕ) → H.block.fall ≡ some a → is_next H.next a ≡ false → D a
  pub stmts : Each (λ s. s.dead ≡ false → GoesTo D H s.kind) H.block.stmts
  pub close : (a : ℕ) → or_else H.block.fall H.block.taken ≡ some a → is_next H.next a ≡ false → D a

abbrev pub here_at : Block → List Block → Here
here_at b bs = record { block = b; next = next_of bs }

abbrev pub Leads : (ℕ → Type 0) → List Block → Type 0
Leads D [] = Unit {0}
Leads D (b ∷ bs) = Lead D (here_at b bs) × Leads D bs

-- nothing is asked of them
goes_any : (H : Here) (k : Kind) → GoesTo (λ a. Unit {0}) H k
goes_any H (Assign v x) = tt
goes_any H (Store n a x) = tt
goes_any H (Call t xs r c) = tt
goes_any H (Branch (some cc) t us) = tt
goes_any H (Branch none t us) = λ a e. tt
goes_any H (Flags t a b) = tt
goes_any H (Return x) = tt
goes_any H (Other t us ds) = tt

stmts_any : (H : Here) (ss : List Stmt) → Each (λ s. s.dead ≡ false → GoesTo (λ a. Unit {0}) H s.kind) ss
stmts_any H [] = end
stmts_any H (s ∷ ss) = (λ d. goes_any H s.kind) ▸ stmts_any H ss

leads_any : (bs : List Block) → Leads (λ a. Unit {0}) bs
leads_any [] = tt
leads_any (b ∷ bs) = (record { fall = λ a e n. tt; stmts = stmts_any (here_at b bs) b.stmts; close = λ a e n. tt }, leads_any bs)

-- ---- the labels of lines, in order
unfoldable pub label_of : Sort → List (List ℕ)
label_of k = elim (label_name k) [ none ↦ [] | some t ↦ t ∷ [] ]

unfoldable pub labels_of : List Line → List (List ℕ)
labels_of ls = gather (λ x. label_of (sort x)) ls

labels_append : (xs ys : List Line) → labels_of (xs ++ ys) ≡ labels_of xs ++ labels_of ys
unfolding labels_of gather
labels_append [] ys = refl
labels_append (x ∷ xs) ys = ap (λ l. label_of (sort x) ++ l) (labels_append xs ys) ∙ sym (append_assoc (label_of (sort x)) (labels_of xs) (labels_of ys))

stated_label : {P : List ℕ → Type 0} {x : Line} → Stated P x → label_of (sort x) ≡ []
unfolding label_of label_name line
stated_label (conditional a C t c p) = ap label_of (if_sort C t c)
stated_label (jump a ts t e p) = ap label_of e
stated_label (simple a ts e) = ap label_of e

no_labels : {P : List ℕ → Type 0} {ls : List Line} → Each (Stated P) ls → labels_of ls ≡ []
unfolding labels_of gather
no_labels end = refl
no_labels (h ▸ hs) = ap₂ (λ (x y : List (List ℕ)). x ++ y) (stated_label h) (no_labels hs)

label_labels : (L : Lowering) (a : ℕ) → labels_of (label_line L a) ≡ cond (among a L.jumps) (label a ∷ []) []
unfolding label_line labels_of gather line label_of label_name
label_labels L a = go (among a L.jumps)
  where
    go : (b : Bool) → labels_of (cond b (line 0 (some a) (symbol (label a) ∷ punct (txt ":") ∷ []) ∷ []) []) ≡ cond b (label a ∷ []) []
    go true = ap (λ (k : Sort). label_of k ++ []) (label_line_lem (label a))
    go false = refl

-- ---- blocks
module _ {P : List ℕ → Type 0} (L : Lowering) (sound : Sound P L.gen) (D : ℕ → Type 0) (aim : (a : ℕ) → D a → P (target_name L.starts L.gen.supplied a)) where
  label_shaped : (a : ℕ) → Each (LineShape P) (label_line L a)
  unfolding label_line
  label_shaped a = by_cond (Each (LineShape P)) (among a L.jumps) (λ h. labelled a ▸ end) (λ h. end)

  module _ (H : Here) (lead : Lead D H) where
    abbrev ending : List Line
    ending = cond (last_leaves false H.block.stmts) [] (closing L H (or_else H.block.fall H.block.taken))

    stmts_stated : Each (Stated P) (lower_stmts L H [] [] H.block.stmts)
    stmts_stated = stmts_lines L sound D aim H lead.fall [] [] lead.stmts

    ending_stated : Each (Stated P) ending
    ending_stated =
        by_cond (Each (Stated P)) (last_leaves false H.block.stmts) (λ h. end) (λ h. closing_lines L sound D aim H (or_else H.block.fall H.block.taken) lead.close)

    block_shaped_lem : Each (LineShape P) (lower_block L H)
    unfolding lower_block
    block_shaped_lem = each_append (each_append (label_shaped H.block.start) (each_to (λ x. stated) stmts_stated)) (each_to (λ x. stated) ending_stated)

    block_labels : labels_of (lower_block L H) ≡ cond (among H.block.start L.jumps) (label H.block.start ∷ []) []
    unfolding lower_block
    block_labels =
        let a = H.block.start in
        let ss = lower_stmts L H [] [] H.block.stmts in
        labels_append (label_line L a ++ ss) ending
        ∙ ap₂ (λ (x y : List (List ℕ)). x ++ y) (labels_append (label_line L a) ss) (no_labels ending_stated)
        ∙ append-nil (labels_of (label_line L a) ++ labels_of ss)
        ∙ ap₂ (λ (x y : List (List ℕ)). x ++ y) (label_labels L a) (no_labels stmts_stated)
        ∙ append-nil (cond (among a L.jumps) (label a ∷ []) [])

  blocks_shaped : (bs : List Block) → Leads D bs → Each (LineShape P) (lower_blocks L bs)
  unfolding lower_blocks
  blocks_shaped [] h = end
  blocks_shaped (b ∷ bs) h = each_append (block_shaped_lem (here_at b bs) h.0) (blocks_shaped bs h.1)

  blocks_labels : (bs : List Block) → Leads D bs → labels_of (lower_blocks L bs) ≡ map label (only (λ a. among a L.jumps) (map (λ b. b.start) bs))
  unfolding lower_blocks only labels_of gather
  blocks_labels [] h = refl
  blocks_labels (b ∷ bs) h =
      labels_append (lower_block L (here_at b bs)) (lower_blocks L bs)
      ∙ ap₂ (λ (x y : List (List ℕ)). x ++ y) (block_labels (here_at b bs) h.0) (blocks_labels bs h.1)
      ∙ go (among b.start L.jumps) (only (λ a. among a L.jumps) (map (λ b. b.start) bs))
    where
      go : (q : Bool) (r : List ℕ) → cond q (label b.start ∷ []) [] ++ map label r ≡ map label (cond q (b.start ∷ r) r)
      go true r = refl
      go false r = refl

-- ---- all of lowering
open_supplied : (G : Gen) (ps : List InPlace) → (open_all G ps).supplied ≡ G.supplied
unfolding open_all open_next
open_supplied G [] = refl
open_supplied G (p ∷ ps) = open_supplied (open_next G p) ps

module _ (F : Function) (t : List Known) where
  gen : Gen
  gen = record { bits = F.bits; supplied = F.names; offsets = t; names = naming F (classes F) (inline F (reads_of F)); opened = [] }

  module _ {P : List ℕ → Type 0} (globals : (c n : ℕ) (s : List ℕ) → global_name F.names c n ≡ some s → P s) where
    sound : Sound P (lowering F t).gen
    unfolding lowering gen
    sound = open_all_lem gen (inline F (reads_of F)) (record { globals = globals; opened = end })

    pub lower_shaped : (D : ℕ → Type 0) → ((a : ℕ) → D a → P (target_name (order F) F.names a)) → Leads D F.blocks → Each (LineShape P) (lower F t)
    unfolding lower lowering gen
    lower_shaped D aim leads =
        blocks_shaped (lowering F t) sound D
        (λ a d. subst (λ (ns : List Name). P (target_name (order F) ns a)) (sym (open_supplied gen (inline F (reads_of F)))) (aim a d))
        F.blocks leads

  -- the label lines are those of the starts that something jumps to, in order
  pub lower_labels : labels_of (lower F t) ≡ map label (only (λ a. among a (jumps_from F.blocks)) (order F))
  unfolding lower lowering order
  lower_labels = blocks_labels {P = λ s. Unit {0}} (lowering F t) (sound (λ c n s e. tt)) (λ a. Unit {0}) (λ a d. tt) F.blocks (leads_any F.blocks)

  -- every line has its shape, and the names that jumps aim at are not empty, if no supplied name is
  pub shapes : Each (λ n. 1 ≤ length n.text) F.names → Each (LineShape (λ s. 1 ≤ length s)) (lower F t)
  unfolding label outward
  shapes long =
      let Long : List ℕ → Type 0 = λ s. 1 ≤ length s in
      lower_shaped
      (λ c n s. by_global Long F.names c n s (by_prefix (λ p. Long (p ++ hex_upper c)) n (omega arith) (omega arith) (omega arith) (omega arith) (omega arith)) (supplied Long long c))
      (λ a. Unit {0}) (λ a d. by_target Long (order F) F.names a (λ m. omega arith) (omega arith) (λ s q b. supplied Long long a s q)) (leads_any F.blocks)
