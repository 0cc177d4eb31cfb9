-- Each public contract of this crate says by an equation what comes out, so no second outcome meets it. Where it holds for every edition, one is enough.
use mathlib.Core.Path.{◌≡◌, refl, sym, ap, ◌∙◌}
use mathlib.Core.Bool.{Bool, false}
use mathlib.Core.List.{List, map}
use Prim.Native.Nat.{ℕ, ◌+◌, ◌-◌, ◌≤◌}
use native.Mathlib.Omega.{arith}
use lib.ListN.{length, length-drop}
use Rattle.definition.specs.Edition.{Edition, edition1}
use Rattle.definition.specs.Words.{part}
use Rattle.definition.specs.Lists.{any, among, range}
use Rattle.definition.specs.Contents.{text, text_at}
use Rattle.definition.specs.Texts.{txt, begins}
use Rattle.definition.specs.Read.{all_trees, stmt_at, read}
use Rattle.definition.specs.Numbers.{read_hex}
use Rattle.definition.specs.Lookup.{order, target_name}
use Rattle.definition.specs.Tokens.{tok, symbol}
use Rattle.definition.specs.Lower.{is_indirect, count_set, takes}
use Rattle.definition.specs.Blocks.{pend_after, set_after, last_leaves}
use Rattle.definition.proofs.Unique.{equation}
use Rattle.room.specs.declared.out.Out.{Out}
use Rattle.room.specs.Room.{Room, room_of, emit}
use Rattle.pieces.proofs.Unique.{piece}
use Rattle.std.specs.Prelude.{Option}
use Rattle.records.specs.Options.{answer_of}
use Rattle.calls.specs.Spelled.{Trimmed, direct_text}
use Rattle.calls.specs.Waiting.{pending}
use Rattle.calls.proofs.Trims.{part_behind}

-- ---- texts
pub begins_part : (f : List ℕ) (at n : ℕ) (w : List ℕ) (r s : Bool) → r ≡ begins w (part f at n) → s ≡ begins w (part f at n) → r ≡ s
begins_part f at n w = equation (begins w (part f at n))

-- as many bytes go as the rest is shorter
pub trim_sub : (f : List ℕ) (at n r s : ℕ) → Trimmed f at n r → Trimmed f at n s → r ≡ s
trim_sub f at n r s p q =
    let x = part f at n in
    let same : length (part f (at + r) (n - r)) ≡ length (part f (at + s) (n - s)) = ap length (p.rest ∙ sym q.rest) in
    let a : length (part f (at + r) (n - r)) ≡ length x - r = ap length (sym (part_behind f at n r p.within)) ∙ length-drop r x in
    let b : length (part f (at + s) (n - s)) ≡ length x - s = ap length (sym (part_behind f at n s q.within)) ∙ length-drop s x in
    omega (arith, p.within, q.within)

pub read_hex_lem : (f : List ℕ) (at n : ℕ) (r s : Option ℕ) → r ≡ answer_of (read_hex (part f at n)) → s ≡ answer_of (read_hex (part f at n)) → r ≡ s
read_hex_lem f at n = equation (answer_of (read_hex (part f at n)))

-- ---- where jumps and calls go
pub is_block : (f : List ℕ) (a : ℕ) (r s : Bool) → ((E : Edition) → r ≡ among a (order (read E f))) → ((E : Edition) → s ≡ among a (order (read E f))) → r ≡ s
is_block f a r s p q = p edition1 ∙ sym (q edition1)

module _ (E : Edition) (f : List ℕ) where
  pub put_target : (x : Room) (kind a : ℕ) (k k' t t' : List ℕ) (r r' : Out)
      → ((D : Edition) → text D ≡ text E → room_of k t r ≡ emit x (tok kind (target_name (order (read D f)) (read D f).names a)))
      → ((D : Edition) → text D ≡ text E → room_of k' t' r' ≡ emit x (tok kind (target_name (order (read D f)) (read D f).names a))) → (k ≡ k') × (t ≡ t') × (r ≡ r')
  put_target x kind a k k' t t' r r' p q = piece x (tok kind (target_name (order (read E f)) (read E f).names a)) k k' t t' r r' (p E refl) (q E refl)

  pub leaves_raw : (a : ℕ) (r s : Bool) → ((D : Edition) → text D ≡ text E → r ≡ begins (txt "*") (target_name (order (read D f)) (read D f).names a))
      → ((D : Edition) → text D ≡ text E → s ≡ begins (txt "*") (target_name (order (read D f)) (read D f).names a)) → r ≡ s
  leaves_raw a r s p q = p E refl ∙ sym (q E refl)

  pub put_direct : (x : Room) (start n : ℕ) (k k' t t' : List ℕ) (r r' : Out)
      → ((D : Edition) → text D ≡ text E → room_of k t r ≡ emit x (symbol (direct_text D f (text_at D f start n))))
      → ((D : Edition) → text D ≡ text E → room_of k' t' r' ≡ emit x (symbol (direct_text D f (text_at D f start n)))) → (k ≡ k') × (t ≡ t') × (r ≡ r')
  put_direct x start n k k' t t' r r' p q = piece x (symbol (direct_text E f (text_at E f start n))) k k' t t' r r' (p E refl) (q E refl)

  pub is_indirect_lem : (start n : ℕ) (r s : Bool) → ((D : Edition) → text D ≡ text E → r ≡ is_indirect (text_at D f start n))
      → ((D : Edition) → text D ≡ text E → s ≡ is_indirect (text_at D f start n)) → r ≡ s
  is_indirect_lem start n r s p q = p E refl ∙ sym (q E refl)

  -- ---- what a call takes along, and how a block ends
  -- where the number before the statement counts some registers
  pub set_behind : (set : List ℕ) (i r s : ℕ)
      → r ≡ count_set (set_after (read E f).args (stmt_at E f (all_trees E f) i) (stmt_at E f (all_trees E f) i).kind set) (read E f).args
      → s ≡ count_set (set_after (read E f).args (stmt_at E f (all_trees E f) i) (stmt_at E f (all_trees E f) i).kind set) (read E f).args → r ≡ s
  set_behind set i = equation (count_set (set_after (read E f).args (stmt_at E f (all_trees E f) i) (stmt_at E f (all_trees E f) i).kind set) (read E f).args)

  -- two numbers that meet it say the same pushes
  pub from_behind : (i from r s : ℕ)
      → (pend_after (stmt_at E f (all_trees E f) i) (pending E f from i) ≡ pending E f r (i + 1)) × (r ≤ i + 1)
      → (pend_after (stmt_at E f (all_trees E f) i) (pending E f from i) ≡ pending E f s (i + 1)) × (s ≤ i + 1) → pending E f r (i + 1) ≡ pending E f s (i + 1)
  from_behind i from r s p q = sym p.0 ∙ q.0

pub taken_behind : (f : List ℕ) (a n : ℕ) (r s : Bool) → ((E : Edition) → r ≡ any takes (map (stmt_at E f (all_trees E f)) (range a n)))
    → ((E : Edition) → s ≡ any takes (map (stmt_at E f (all_trees E f)) (range a n))) → r ≡ s
taken_behind f a n r s p q = p edition1 ∙ sym (q edition1)

pub last_leaves_lem : (f : List ℕ) (first count : ℕ) (r s : Bool) → ((E : Edition) → r ≡ last_leaves false (map (stmt_at E f (all_trees E f)) (range first count)))
    → ((E : Edition) → s ≡ last_leaves false (map (stmt_at E f (all_trees E f)) (range first count))) → r ≡ s
last_leaves_lem f first count r s p q = p edition1 ∙ sym (q edition1)
