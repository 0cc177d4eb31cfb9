-- The names that a jump or a global can have: a label, an outward address, a supplied name, or a size's prefix before an address.
use mathlib.Core.Path.{◌≡◌, refl}
use mathlib.Core.Bool.{true, false, ◌&&◌}
use mathlib.Core.Option.{Option, none, some}
use mathlib.Core.List.{List, ◌++◌}
use Prim.Native.Nat.{ℕ}
use lib.Dec.{eqb, ltb, leb}
use Rattle.definition.specs.Texts.{txt, begins}
use Rattle.definition.specs.Lists.{among}
use Rattle.definition.specs.Ssa.{Name}
use Rattle.definition.specs.Offsets.{half}
use Rattle.definition.specs.Numbers.{hex_upper, label, outward}
use Rattle.definition.specs.Lookup.{name_for, size_prefix, name_or, global_name, outside_name, target_name}
use Rattle.definition.proofs.Bools.{by_cond, none_some, cond_some}
use Rattle.definition.proofs.ListLaws.{Each, end, ◌▸◌}

-- what every supplied name has, the name of an address has
pub supplied : (Q : List ℕ → Type 0) {ns : List Name} → Each (λ n. Q n.text) ns → (a : ℕ) (s : List ℕ) → name_for ns a ≡ some s → Q s
unfolding name_for
supplied Q end a s e = none_some e
supplied Q (◌▸◌ {x = n} {xs = ns} q h) a s e = cond_some Q (eqb n.address a) (λ z. q) (supplied Q h a s) e

-- a global's name
pub by_global : (Q : List ℕ → Type 0) (ns : List Name) (c n : ℕ) (s : List ℕ) → Q (size_prefix n ++ hex_upper c) → ((m : List ℕ) → name_for ns c ≡ some m → Q m) → global_name ns c n ≡ some s → Q s
unfolding global_name name_or
by_global Q ns c n s p k e = cond_some Q (leb 4096 c && ltb c half) (λ z. of (name_for ns c) refl) none_some e
  where
    of : (o : Option (List ℕ)) → name_for ns c ≡ o → Q (name_or (size_prefix n ++ hex_upper c) o)
    of none z = p
    of (some m) z = k m z

-- the name of a jump's target
pub by_target : (Q : List ℕ → Type 0) (starts : List ℕ) (ns : List Name) (a : ℕ)
    → (among a starts ≡ true → Q (label a)) → Q (outward a) → ((s : List ℕ) → name_for ns a ≡ some s → begins (txt "loc_") s ≡ false → Q s) → Q (target_name starts ns a)
unfolding target_name outside_name
by_target Q starts ns a l o n = by_cond Q (among a starts) l (λ h. go (name_for ns a) refl)
  where
    go : (x : Option (List ℕ)) → name_for ns a ≡ x → Q (outside_name a x)
    go none e = o
    go (some s) e = by_cond Q (begins (txt "loc_") s) (λ b. o) (λ b. n s e b)

pub by_prefix : (Q : List ℕ → Type 0) (n : ℕ) → Q (txt "byte_") → Q (txt "word_") → Q (txt "dword_") → Q (txt "qword_") → Q (txt "unk_") → Q (size_prefix n)
unfolding size_prefix
by_prefix Q n b w d q u =
    by_cond Q (eqb n 1) (λ h. b) (λ h. by_cond Q (eqb n 2) (λ h. w) (λ h. by_cond Q (eqb n 4) (λ h. d) (λ h. by_cond Q (eqb n 8) (λ h. q) (λ h. u))))
