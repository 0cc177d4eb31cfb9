-- A name by the address that is meant: what a jump goes to outside, and a direct call, whose spelling holds the address.
use Rattle.std.specs.Prelude.{◌≡◌, List, ℕ, ◌+◌, ◌-◌, ◌≤◌, length}
use Rattle.std.proofs.Math.Option.{Option, none, some}
use Rattle.definition.specs.Edition.{Edition}
use Rattle.definition.specs.Words.{part}
use Rattle.definition.specs.Texts.{txt, trim_start}
use Rattle.definition.specs.Numbers.{outward, read_hex}
use Rattle.definition.specs.Ssa.{Name}
use Rattle.definition.specs.Read.{read}
use Rattle.definition.specs.Lookup.{name_for, name_or, outside_name}
use Rattle.text.specs.Supplied.{name_index, name_text, text_of}
use Rattle.std.specs.Prelude.{Option as Answer, Some, None}

-- the name of what is outside at a, its text being in section t
unfoldable pub outside_text : List ℕ → ℕ → ℕ → List ℕ
outside_text f t a = outside_name a (text_of f t (name_index f a))

-- the same by the index of its name, if it has one that is no label's
unfoldable pub named_or : List ℕ → ℕ → ℕ → Answer ℕ → List ℕ
named_or f t a None = outward a
named_or f t a (Some i) = name_text f t i

-- r bytes go off n from `at` on
pub record Trimmed (f : List ℕ) (at n r : ℕ) : Type 0 where
  pub rest : part f (at + r) (n - r) ≡ trim_start (txt "sub_") (part f at n)
  pub within : r ≤ length (part f at n)

-- the name for an address, if one was read; and its index
unfoldable pub name_at_hex : List Name → Option ℕ → Option (List ℕ)
name_at_hex ns none = none
name_at_hex ns (some a) = name_for ns a

unfoldable pub index_at_hex : List ℕ → Option ℕ → Option ℕ
index_at_hex f none = none
index_at_hex f (some a) = name_index f a

-- the index of the name for the address that s spells
unfoldable pub direct_index : List ℕ → List ℕ → Option ℕ
direct_index f s = index_at_hex f (read_hex (trim_start (txt "sub_") s))

-- the name of a direct call's target that is spelled s
unfoldable pub direct_text : Edition → List ℕ → List ℕ → List ℕ
direct_text E f s = name_or s (name_at_hex (read E f).names (read_hex (trim_start (txt "sub_") s)))
