-- What the passes ask of a row: the tests of the definition on a line's sort and indent, read off the row's numbers.
use Rattle.std.specs.Prelude.{Bool, false, not, cond, ◌&&◌, ◌||◌, List, ℕ, zero, suc, eqb, ltb, leb}
use Rattle.definition.specs.Lists.{at}
use Rattle.outline.specs.declared.rows.Seen.{Seen}
use Rattle.outline.specs.declared.rows.Seen.TheVariants.{Pass, Hit, End}
use Rattle.outline.specs.Rows.{LABEL, COND, JUMP, kind_of, indent_of, name_of}

-- a row of kind k: a label; a conditional jump; any goto
unfoldable pub is_kind : ℕ → ℕ → Bool
is_kind k w = eqb (kind_of w) k

abbrev pub is_label : ℕ → Bool
is_label w = is_kind LABEL w

abbrev pub is_cond : ℕ → Bool
is_cond w = is_kind COND w

unfoldable pub is_goto : ℕ → Bool
is_goto w = eqb (kind_of w) COND || eqb (kind_of w) JUMP

-- the label m; a conditional jump to it
unfoldable pub labels : ℕ → ℕ → Bool
labels m w = is_label w && eqb (name_of w) m

unfoldable pub backs : ℕ → ℕ → Bool
backs m w = is_cond w && eqb (name_of w) m

-- a row that ends a scan at depth d
unfoldable pub stops : ℕ → ℕ → Bool
stops d w = ltb (indent_of w) d && not (is_label w && eqb (suc (indent_of w)) d)

-- what a row is to a scan at depth d for the label m
unfoldable pub verdict : ℕ → ℕ → ℕ → Seen
verdict m d w = cond (labels m w && eqb (suc (indent_of w)) d) Hit (cond (stops d w) End Pass)

-- what it is to a search for the back edges to m
unfoldable pub back_verdict : ℕ → ℕ → ℕ → Seen
back_verdict m d w = cond (stops d w) End (cond (eqb (indent_of w) d && backs m w) Hit Pass)

-- 9: raised, the row would stand inside more than 254 open braces
unfoldable pub too_deep : ℕ → Bool
too_deep w = cond (is_label w) (leb 254 (indent_of w)) (leb 255 (indent_of w))

-- a loop over f rows from row j on: what is said of a row, by what the rows behind it say
unfoldable pub along : {A : Type 0} → (ℕ → ℕ → A → A) → A → List ℕ → ℕ → ℕ → A
along g z R j zero = z
along g z R j (suc f) = g j (at R j) (along g z R (suc j) f)

-- does the test hold of one of them
unfoldable pub some_row : (ℕ → Bool) → List ℕ → ℕ → ℕ → Bool
some_row p R j f = along (λ i w r. p w || r) false R j f
