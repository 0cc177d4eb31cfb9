-- Names that the file supplies, `global_name`, and where a jump goes: labels, `target_name` (c.rs, "Labels").
use Rattle.std.specs.Prelude.{Bool, false, cond, ◌&&◌, List, [], ◌∷◌, ◌++◌, map, ℕ, eqb, ltb, leb}
use Rattle.std.proofs.Math.Option.{Option, none, some}
use Rattle.definition.specs.Texts.{txt, begins}
use Rattle.definition.specs.Lists.{among, gather}
use Rattle.definition.specs.Ssa.{Kind, Block, Name, Function}
use Rattle.definition.specs.Ssa.Kind.{Assign, Store, Call, Branch, Flags, Return, Other}
use Rattle.definition.specs.Offsets.{half}
use Rattle.definition.specs.Numbers.{hex_upper, label, outward}

-- the name supplied for an address
unfoldable pub name_for : List Name → ℕ → Option (List ℕ)
name_for [] a = none
name_for (n ∷ ns) a = cond (eqb n.address a) (some n.text) (name_for ns a)

-- the size's prefix of a global without a name
unfoldable pub size_prefix : ℕ → List ℕ
size_prefix n =
    cond (eqb n 1) (txt "byte_") (cond (eqb n 2) (txt "word_") (cond (eqb n 4) (txt "dword_") (cond (eqb n 8) (txt "qword_") (txt "unk_"))))

unfoldable pub name_or : List ℕ → Option (List ℕ) → List ℕ
name_or t none = t
name_or t (some n) = n

-- `global_name` of the constant with the bits c: for addresses from 0x1000 on that are not negative
unfoldable pub global_name : List Name → ℕ → ℕ → Option (List ℕ)
global_name ns c n = cond (leb 4096 c && ltb c half) (some (name_or (size_prefix n ++ hex_upper c) (name_for ns c))) none

-- the blocks' starts in order
unfoldable pub order : Function → List ℕ
order F = map (λ b. b.start) F.blocks

-- the start of the block behind the first of these
unfoldable pub next_of : List Block → Option ℕ
next_of [] = none
next_of (b ∷ bs) = some b.start

unfoldable pub is_next : Option ℕ → ℕ → Bool
is_next none a = false
is_next (some n) a = eqb a n

unfoldable pub option_list : Option ℕ → List ℕ
option_list none = []
option_list (some a) = a ∷ []

-- the target of a branch, dead or live
unfoldable pub target_of : Kind → List ℕ
target_of (Assign v e) = []
target_of (Store n a x) = []
target_of (Call t as' r c) = []
target_of (Branch c t us) = option_list t
target_of (Flags t a b) = []
target_of (Return x) = []
target_of (Other t us ds) = []

unfoldable pub unless_next : Option ℕ → Option ℕ → List ℕ
unless_next n none = []
unless_next n (some a) = cond (is_next n a) [] (a ∷ [])

-- where blocks jump to other than by falling into the next
unfoldable pub jumps_from : List Block → List ℕ
jumps_from [] = []
jumps_from (b ∷ bs) =
    option_list b.taken ++ unless_next (next_of bs) b.fall ++ gather (λ s. target_of s.kind) b.stmts ++ jumps_from bs

-- a name for a jump's target: a label here, else a name that is no label's, else the raw address
unfoldable pub outside_name : ℕ → Option (List ℕ) → List ℕ
outside_name a none = outward a
outside_name a (some n) = cond (begins (txt "loc_") n) (outward a) n

unfoldable pub target_name : List ℕ → List Name → ℕ → List ℕ
target_name starts ns a = cond (among a starts) (label a) (outside_name a (name_for ns a))
