-- What an indent some steps deeper comes to, by the test whether the sum is a number of 64 bits; and that setting the lines deeper one by one, as the
-- loop does, is a map, by induction on the lines.
use mathlib.Core.Path.{◌≡◌, refl, sym, ap, ◌∙◌}
use Prim.Native.Nat.{ℕ, zero, suc, ◌+◌, ◌-◌, ◌<◌, ◌≤◌, ◌^◌}
use native.Mathlib.Omega.{arith}
use mathlib.Core.Bool.{Bool, cond}
use mathlib.Core.List.{List, [], ◌∷◌, map}
use borrow.Author.Tests.{lt-ltb}
use lib.ListN.{get_or, set, length, length-set}
use Rattle.indents.specs.declared.Line.{Line}
use Rattle.indents.specs.Deeper.{deeper_by, raised_by}

pub deeper_fits : (d n : ℕ) → n + d < 2 ^ 64 → n + d ≡ deeper_by d n
unfolding deeper_by
deeper_fits d n small = sym (ap (λ (t : Bool). cond t (n + d) n) (lt-ltb (n + d) (2 ^ 64) small))

-- what is read where there is no line
abbrev pub nowhere : Line
nowhere = record { has = 0; address = 0; indent = 0; end = 0; block = 0 }

-- the lines from i on, m of them, set deeper one by one
unfoldable pub raised_from : ℕ → List Line → ℕ → ℕ → List Line
raised_from d ls i zero = ls
raised_from d ls i (suc m) = raised_from d (set ls i (raised_by d (get_or ls i nowhere))) (suc i) m

behind : (d : ℕ) (l : Line) (ls : List Line) (i m : ℕ) → raised_from d (l ∷ ls) (suc i) m ≡ l ∷ raised_from d ls i m
unfolding raised_from
behind d l ls i zero = refl
behind d l ls i (suc m) = behind d l (set ls i (raised_by d (get_or ls i nowhere))) (suc i) m

pub raised_is : (d : ℕ) (ls : List Line) → raised_from d ls 0 (length ls) ≡ map (raised_by d) ls
unfolding raised_from
raised_is d [] = refl
raised_is d (l ∷ ls) = behind d (raised_by d l) ls 0 (length ls) ∙ ap (λ (ms : List Line). raised_by d l ∷ ms) (raised_is d ls)

-- a line with another indent
abbrev pub at_indent : Line → ℕ → Line
at_indent l n = record { has = l.has; address = l.address; indent = n; end = l.end; block = l.block }

turn_to : (d : ℕ) (ls : List Line) (i j m n : ℕ) (x : Line) → n ≡ suc m → j ≡ suc i → x ≡ raised_by d (get_or ls i nowhere)
    → raised_from d ls i n ≡ raised_from d (set ls i x) j m
unfolding raised_from
turn_to d ls i j m n x en ej ex = rw (en, ej, ex)

-- one turn of the loop
pub raised_turn : (d : ℕ) (ls : List Line) (i v : ℕ) → i < length ls → v ≡ deeper_by d (get_or ls i nowhere).indent
    → raised_from d ls i (length ls - i)
    ≡ raised_from d (set ls i (at_indent (get_or ls i nowhere) v)) (i + 1) (length (set ls i (at_indent (get_or ls i nowhere) v)) - (i + 1))
raised_turn d ls i v h e =
    let x = at_indent (get_or ls i nowhere) v in
    turn_to d ls i (i + 1) (length (set ls i x) - (i + 1)) (length ls - i) x (omega (arith, length-set ls i x)) (omega arith)
    (ap (λ (n : ℕ). at_indent (get_or ls i nowhere) n) e)

end_at : (d : ℕ) (ls : List Line) (i n : ℕ) → n ≡ 0 → raised_from d ls i n ≡ ls
unfolding raised_from
end_at d ls i n e = rw e

-- with no line left from i on it is done
pub raised_end : (d : ℕ) (ls : List Line) (i : ℕ) → length ls ≤ i → raised_from d ls i (length ls - i) ≡ ls
raised_end d ls i h = end_at d ls i (length ls - i) (omega arith)
