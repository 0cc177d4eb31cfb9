-- A chain over the statements of a file: what is tested of each is tested of every number below their count.
use mathlib.Core.Path.{◌≡◌, refl, ap, ap₂, ◌∙◌}
use mathlib.Core.Bool.{Bool, true, false, ◌&&◌}
use mathlib.Core.List.{List, [], ◌∷◌, map}
use Prim.Native.Nat.{ℕ, suc}
use native.Mathlib.Omega.{arith}
use lib.ListN.{length}
use denote.Param.Members.{Mut}
use Rattle.std.specs.Prelude.{Option, Some, None}
use Rattle.std.specs.Option.{MatchOption}
use Rattle.std.specs.Fn.{Called}
use Rattle.std.specs.Iterator.{YieldsThen}
use Rattle.std.specs.List.{list_all, FoldsTo}
use Rattle.std.proofs.lemmas.Iterator.Consumers.{YieldsList-from_shown}
use Rattle.std.proofs.lemmas.Iterator.Search.{all_from_yields_List}
use Rattle.definition.specs.Edition.{statements}
use Rattle.definition.specs.Contents.{size}
use Rattle.definition.specs.Lists.{all, all_below, range}
use Rattle.defined.specs.declared.statement.Statement.{Statement}
use Rattle.defined.specs.declared.statement.Statements.{Statements}
use Rattle.defined.specs.Statements.{left, Begins, steps}
use Rattle.defined.proofs.Ranges.{all_map}

-- what is read of a statement, and of all that are left
abbrev Place : Type 0
Place = List ℕ × ℕ

abbrev place : Statement → Place
place x = (x.f.now, x.i)

abbrev shown : Statements → List Place
shown s = map (λ (i : ℕ). (s.f.now, i)) (range s.i (left s))

none_shown : (s t : Statements) → steps s None t → length (shown s) ≡ 0
unfolding range
none_shown s t h = rw h.1.0

one_shown : (s : Statements) (x : Statement) (t : Statements) → steps s (Some x) t → shown s ≡ place x ∷ shown t
unfolding range
one_shown s x t h =
    let e : left s ≡ suc (left t) = omega (arith, h.1.3) in
    rw (e, h.0, h.1.0, h.1.1, h.1.2) refl

list_all_is : {A : Type 0} (p : A → Bool) (xs : List A) → list_all p xs ≡ all p xs
unfolding all
list_all_is p [] = refl
list_all_is p (x ∷ xs) = ap (λ (b : Bool). p x && b) (list_all_is p xs)

pub all_statements : {F : Type 0} {g : Mut F (Statement × Unit {0}) Bool} {s : Statements} {k : F} {r : Bool} (u : Statements) (p : List ℕ → ℕ → Bool) (f : List ℕ)
    → ((xs : List Statement) × (o : Option Statement) × (j : F) × YieldsThen steps s xs o u × FoldsTo (λ p x q. Called g p (x, tt) true q) k xs j
    × MatchOption o (r ≡ true) (λ x. (r ≡ false) × ((h : F) × Called g j (x, tt) false h)))
    → Begins f s → ((x : Statement) (b : Bool) (q : F) → Called g k (x, tt) b q → (q ≡ k) × (b ≡ p x.f.now x.i)) → r ≡ all_below (size f statements) (p f)
all_statements {s = s} {k = k} {r = r} u p f ran h says =
    let test = λ (y : Place). p y.0 y.1 in
    all_from_yields_List test u k r ran (YieldsList-from_shown steps place shown none_shown one_shown s) says
    ∙ list_all_is test (shown s) ∙ ap₂ (λ (l : List ℕ) (m : ℕ × ℕ). all test (map (λ (i : ℕ). (l, i)) (range m.0 m.1))) h.file (ap₂ (λ (a b : ℕ). (a, b)) h.first h.many)
    ∙ all_map test (λ (i : ℕ). (f, i)) (size f statements)
