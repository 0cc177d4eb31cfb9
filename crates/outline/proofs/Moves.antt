-- The changes of rows in place: a part changed row by row, a part cleared, and the rest one place on before a row is put in.
use mathlib.Core.Path.{◌≡◌, refl, sym, ap, ap₂, ◌∙◌}
use mathlib.Core.List.{List, [], ◌∷◌, ◌++◌, map, map-append, append_assoc}
use Prim.Native.Nat.{ℕ, suc, ◌+◌, ◌-◌, ◌≤◌, ◌<◌}
use native.Mathlib.Omega.{arith}
use native.Mathlib.Numerals.{add-one}
use lib.ListN.{length, get_or, take, drop, set, replicate, length-map}
use lib.Seq.{drop-drop, drop-cons, take-suc, append_snoc, length-take-le, set_at, get_or_at}
use borrow.Rule.Slice.PartMut.{put_mid}
use Rattle.std.specs.List.{copy_within}
use Rattle.outline.specs.Rows.{indent_of}
use Rattle.outline.specs.Forming.{nought, changed_in, inserted}

-- a row of a part changed by f, where those before it are
pub changed_turn : (f : ℕ → ℕ) (l : List ℕ) (i v : ℕ) → i < length l → v ≡ f (get_or (map f (take i l) ++ drop i l) i 0)
    → set (map f (take i l) ++ drop i l) i v ≡ map f (take (i + 1) l) ++ drop (i + 1) l
changed_turn f l i v h q =
    let y : ℕ = get_or l i 0 in
    let p : List ℕ = map f (take i l) in
    let z : List ℕ = drop (suc i) l in
    let n : length p ≡ i = length-map (take i l) f ∙ length-take-le i l (omega arith) in
    let e : drop i l ≡ y ∷ z = drop-cons l i 0 h in
    let ev : v ≡ f y = q ∙ ap f (ap (λ (r : List ℕ). get_or (p ++ r) i 0) e ∙ get_or_at p y z 0 i n) in
    ap (λ (r : List ℕ). set (p ++ r) i v) e ∙ set_at p y z v i n ∙ ap (λ (w : ℕ). p ++ w ∷ z) ev ∙ sym (append_snoc p (f y) z)
    ∙ ap (λ (r : List ℕ). r ++ z) (sym (ap (map f) (take-suc l i 0 h) ∙ map-append f (take i l) (y ∷ [])))
    ∙ ap (λ (k : ℕ). map f (take k l) ++ drop k l) (sym (add-one i))

pub zeros : (l : List ℕ) → map nought l ≡ replicate (length l) 0
unfolding nought
zeros [] = refl
zeros (x ∷ l) = ap (λ (z : List ℕ). 0 ∷ z) (zeros l)

-- zeros put in place of a part
pub cleared_part : (s t : List ℕ) (a b : ℕ) → a ≤ b → b ≤ length s → t ≡ replicate (length (take (b - a) (drop a s))) 0 → put_mid a (b - a) s t ≡ changed_in nought s a b
unfolding changed_in
cleared_part s t a b h k e =
    let d : a + (b - a) ≡ b = omega arith in
    ap₂ (λ (x y : List ℕ). take a s ++ (x ++ y)) (e ∙ sym (zeros (take (b - a) (drop a s)))) (drop-drop (b - a) a s ∙ ap (λ (k : ℕ). drop k s) d)

-- v put in at j, the rows from j up to n being one place on
pub put_in : (R : List ℕ) (n j v : ℕ) → j ≤ n → n < length R → set (copy_within R j n (j + 1)) j v ≡ inserted R n j v
unfolding inserted
put_in R n j v h k =
    let x : ℕ = get_or R j 0 in
    let p : List ℕ = take j R in
    let m : List ℕ = take (n - j) (drop j R) in
    let z : List ℕ = drop (suc n) R in
    let e : take (j + 1) R ≡ p ++ x ∷ [] = ap (λ (i : ℕ). take i R) (add-one j) ∙ take-suc R j 0 (omega arith) in
    let d : j + 1 + (n - j) ≡ suc n = omega arith in
    ap (λ (y : List ℕ). set y j v) (append_assoc (take (j + 1) R) m (drop (j + 1 + (n - j)) R)) ∙ ap₂ (λ (y : List ℕ) (i : ℕ). set (y ++ (m ++ drop i R)) j v) e d
    ∙ ap (λ (y : List ℕ). set y j v) (append_snoc p x (m ++ z)) ∙ set_at p x (m ++ z) v j (length-take-le j R (omega arith))

pub indent_small : (w : ℕ) → indent_of w < 4096
indent_small w = omega arith
