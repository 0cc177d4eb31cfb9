-- What an expression is written as: a leaf, a value, or pieces around its children. A child that is not lower is an Opaque of no text.
use Rattle.std.specs.Prelude.{Bool, true, false, not, cond, ◌&&◌, List, [], ◌∷◌, ◌++◌, ℕ, eqb, ltb, leb}
use Rattle.definition.specs.Codes.{t_const}
use Rattle.definition.specs.Edition.{Edition}
use Rattle.definition.specs.Texts.{txt}
use Rattle.definition.specs.Contents.{text, text_at, expr_word, expr_long}
use Rattle.definition.specs.Values.{value}
use Rattle.definition.specs.Read.{tree_at, all_trees, read}
use Rattle.definition.specs.Offsets.{offsets, stack_off}
use Rattle.definition.specs.Numbers.{num, slot}
use Rattle.definition.specs.Tokens.{Token, textual, register, numeral, symbol, punct}
use Rattle.definition.specs.Render.{nested, pointer, through, operator}
use Rattle.text.specs.Supplied.{is_global, global_text}
use Rattle.ssa.specs.declared.node.Bin.{Bin as BinS}
use Rattle.ssa.specs.declared.node.Load.{Load as LoadS}
use Rattle.ssa.specs.declared.node.Node.{Node}
use Rattle.ssa.specs.declared.node.Node.TheVariants.{Const, Use as UseN, Bin as BinN, Un as UnN, Load, Opaque as OpaqueN}
use Rattle.ssa.specs.Node.{node_record}
use Rattle.render.specs.Gens.{rendered, used}
use Rattle.render.specs.declared.form.Leaf.{Leaf as LeafS}
use Rattle.render.specs.declared.form.Leaf.TheVariants.{Number, Address, Global, Slot, Opaque}
use Rattle.render.specs.declared.form.Form.{Form}
use Rattle.render.specs.declared.form.Form.TheVariants.{Leaf, Use, Bin, Un, Through}

-- is place p, which is 0, or 1 more than a statement's number, that of a statement before pos
unfoldable pub opens : ℕ → ℕ → Bool
opens p pos = not (eqb p 0) && leb p pos

-- expression n, where it is below b
unfoldable pub rendered_below : Edition → List ℕ → ℕ → ℕ → Bool → ℕ → List Token
rendered_below E f pos b top n = cond (ltb n b) (rendered E f pos top n) (textual [] ∷ [])

-- its offset, 0 where none is known
unfoldable pub off_at : Edition → List ℕ → ℕ → ℕ
off_at E f n = stack_off (offsets (read E f)) (tree_at (all_trees E f) n)

-- the stack address at offset s
unfoldable pub address_tokens : ℕ → List Token
address_tokens s = punct (txt "&") ∷ register (slot s) ∷ []

-- what `through` puts before an address
unfoldable pub cast_tokens : ℕ → List Token
cast_tokens n = pointer n ∷ punct (txt "(") ∷ []

unfoldable pub leaf_tokens : Edition → List ℕ → LeafS → List Token
leaf_tokens E f (Number c) = numeral (num c) ∷ []
leaf_tokens E f (Address s) = address_tokens s
leaf_tokens E f (Global g) = symbol (global_text f (text E) g.address g.size) ∷ []
leaf_tokens E f (Slot s) = register (slot s) ∷ []
leaf_tokens E f (Opaque x) = textual (text_at E f x.start x.len) ∷ []

-- what form x of expression n prints before statement pos
unfoldable pub form_tokens : Edition → List ℕ → ℕ → ℕ → Bool → Form → List Token
form_tokens E f pos n top (Leaf l) = leaf_tokens E f l
form_tokens E f pos n top (Use r) = used E f pos top (value r (expr_word f n 2))
form_tokens E f pos n top (Bin s) =
    nested top (rendered_below E f pos n false s.left ++ (operator (text_at E f s.op.start s.op.len) ∷ rendered_below E f pos n false s.right))
form_tokens E f pos n top (Un s) = punct (text_at E f s.op.start s.op.len) ∷ rendered_below E f pos n false s.child
form_tokens E f pos n top (Through s) = through s.size (rendered_below E f pos n true s.child)

-- the leaf l where offset o is known
unfoldable pub offset_form : ℕ → Form → LeafS → Form
offset_form o x l = cond (eqb o 0) x (Leaf l)

-- a stack address is a leaf; so is a load of a global or of a slot
abbrev pub bin_form : ℕ → BinS → Form
bin_form o s = offset_form o (Bin s) (Address o)

abbrev pub slot_form : ℕ → LoadS → Form
slot_form o s = offset_form o (Through s) (Slot o)

unfoldable pub load_form : Edition → List ℕ → ℕ → LoadS → Form
load_form E f n s =
    let a = s.child in
    cond (ltb a n)
    (cond (eqb (expr_word f a 0) t_const && is_global (expr_long f a 1)) (Leaf (Global (record { address = expr_long f a 1; size = s.size })))
    (slot_form (off_at E f a) s))
    (Through s)

unfoldable pub node_form : Edition → List ℕ → ℕ → Node → Form
node_form E f n (Const c) = Leaf (Number c)
node_form E f n (UseN v) = Use v.reg
node_form E f n (BinN s) = bin_form (off_at E f n) s
node_form E f n (UnN s) = Un s
node_form E f n (Load s) = load_form E f n s
node_form E f n (OpaqueN x) = Leaf (Opaque x)

-- the form of expression n
unfoldable pub form_of : Edition → List ℕ → ℕ → Form
form_of E f n = node_form E f n (node_record f n)
