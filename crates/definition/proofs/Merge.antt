-- `merge`: it joins Punct with Punct and Text with Text, so it keeps the text, never makes a `goto` nor more tokens, and goes on either side of a
-- keyword, which joins nothing; to merge a part first changes nothing. Kinds of tokens are numbers, as in the definition: 0 Text, 3 Keyword, 4 Symbol, 6 Punct.
use mathlib.Core.Path.{◌≡◌, refl, sym, ap, ◌∙◌}
use mathlib.Core.Bool.{Bool, true, false, cond, ◌&&◌, ◌||◌, and-false}
use mathlib.Core.List.{List, [], ◌∷◌, ◌++◌, append_assoc}
use Prim.Native.Nat.{ℕ, suc, ◌+◌, ◌≤◌}
use native.Mathlib.Omega.{arith}
use borrow.Author.Tests.{eqb-true, eq-eqb}
use lib.Dec.{eqb}
use lib.ListN.{length, length-append}
use Rattle.definition.specs.Texts.{txt, same}
use Rattle.definition.specs.Tokens.{Token, tok, keyword, punct, joins, join, merge, text_of}
use Rattle.definition.specs.Sorts.{is_tok}
use Rattle.definition.proofs.Bools.{both_true, or_cases, by_cond, both_false, by_test}
use Rattle.definition.proofs.ListLaws.{Each, end, ◌▸◌}

-- ---- no token is the keyword `goto`
abbrev pub NotGoto : Token → Type 0
NotGoto t = is_tok (keyword (txt "goto")) t ≡ false

abbrev pub NoGoto : List Token → Type 0
NoGoto ts = Each NotGoto ts

pub no_keyword : (t : Token) → eqb t.kind 3 ≡ false → NotGoto t
unfolding is_tok
no_keyword t e = ap (λ (b : Bool). b && same t.text (txt "goto")) e

-- ---- two tokens that are one: of one kind, Punct or Text
pub record Joined (t u : Token) : Type 0 where
  pub alike : t.kind ≡ u.kind
  pub fuse : (eqb t.kind 6 || eqb t.kind 0) ≡ true
  pub unlike : (k : ℕ) → (eqb 6 k || eqb 0 k) ≡ false → eqb t.kind k ≡ false

joined : (t u : Token) → joins t u ≡ true → Joined t u
unfolding joins
joined t u e =
    let h = both_true (eqb t.kind u.kind) (eqb t.kind 6 || eqb t.kind 0) e in
    record { alike = eqb-true t.kind u.kind h.0; fuse = h.1; unlike = other h.1 }
  where
    other : (eqb t.kind 6 || eqb t.kind 0) ≡ true → (k : ℕ) → (eqb 6 k || eqb 0 k) ≡ false → eqb t.kind k ≡ false
    other f k n =
        let q = both_false (eqb 6 k) (eqb 0 k) n in
        or_cases (eqb t.kind 6) (eqb t.kind 0) (λ z. ap (λ (m : ℕ). eqb m k) (eqb-true t.kind 6 z) ∙ q.0) (λ z. ap (λ (m : ℕ). eqb m k) (eqb-true t.kind 0 z) ∙ q.1) f

-- what holds of a join, by whether the two are one
pub by_join {ℓ} : (P : List Token → Type ℓ) (t u : Token) (us : List Token) → (Joined t u → P (tok t.kind (t.text ++ u.text) ∷ us)) → P (t ∷ u ∷ us) → P (join t (u ∷ us))
unfolding join
by_join P t u us h k = by_cond P (joins t u) (λ e. h (joined t u e)) (λ e. k)

-- ---- what each token has, where two that are one have it as well
module _ {P : Token → Type 0} (keep : (t u : Token) → Joined t u → P t → P (tok t.kind (t.text ++ u.text))) where
  each_join : (t : Token) (us : List Token) → P t → Each P us → Each P (join t us)
  unfolding join
  each_join t [] h k = h ▸ end
  each_join t (u ∷ us) h (c ▸ k) = by_join (Each P) t u us (λ j. keep t u j h ▸ k) (h ▸ c ▸ k)

  pub each_merge : {ts : List Token} → Each P ts → Each P (merge ts)
  unfolding merge
  each_merge end = end
  each_merge (◌▸◌ {x = t} {xs = ts} c h) = each_join t (merge ts) c (each_merge h)

-- no goto is made
pub nogoto_merge : {ts : List Token} → NoGoto ts → NoGoto (merge ts)
nogoto_merge = each_merge (λ t u j h. no_keyword _ (j.unlike 3 refl))

-- ---- a token that is neither Punct nor Text stays as it is
pub lone_join : (k : ℕ) (w : List ℕ) → (eqb k 6 || eqb k 0) ≡ false → (us : List Token) → join (tok k w) us ≡ tok k w ∷ us
unfolding join joins
lone_join k w lone [] = refl
lone_join k w lone (u ∷ us) =
    ap (λ (b : Bool). cond b (tok k (w ++ u.text) ∷ us) (tok k w ∷ u ∷ us)) (ap (λ (b : Bool). eqb k u.kind && b) lone ∙ and-false (eqb k u.kind))

-- what stands behind the second token does not matter
pub join_further : (t u : Token) (us Z : List Token) → join t (u ∷ (us ++ Z)) ≡ join t (u ∷ us) ++ Z
unfolding join
join_further t u us Z = go (joins t u)
  where
    go : (b : Bool) → cond b (tok t.kind (t.text ++ u.text) ∷ (us ++ Z)) (t ∷ u ∷ (us ++ Z)) ≡ cond b (tok t.kind (t.text ++ u.text) ∷ us) (t ∷ u ∷ us) ++ Z
    go true = refl
    go false = refl

pub merge_keyword : (ts : List Token) (w : List ℕ) (rs : List Token) → merge (ts ++ keyword w ∷ rs) ≡ merge ts ++ keyword w ∷ merge rs
unfolding merge join
merge_keyword [] w rs = lone_join 3 w refl (merge rs)
merge_keyword (t ∷ ts) w rs = ap (join t) (merge_keyword ts w rs) ∙ further (merge ts)
  where
    further : (M : List Token) → join t (M ++ keyword w ∷ merge rs) ≡ join t M ++ keyword w ∷ merge rs
    further [] =
        by_join (λ z. z ≡ join t [] ++ keyword w ∷ merge rs) t (keyword w) (merge rs)
        (λ j. let z : ◌≡◌ {A = Bool} true false = sym (ap (λ k. eqb k 3) j.alike) ∙ j.unlike 3 refl in cc) refl
    further (u ∷ us) = join_further t u us (keyword w ∷ merge rs)

-- ---- a part merged first
join_twice : (k : ℕ) (x y : List ℕ) (M : List Token) → (eqb k 6 || eqb k 0) ≡ true → join (tok k (x ++ y)) M ≡ join (tok k x) (join (tok k y) M)
unfolding join joins
join_twice k x y [] h = rw (h, eq-eqb k k refl)
join_twice k x y (u ∷ us) h =
    by_test (eqb k u.kind) (λ e. rw (e, h, eq-eqb k k refl, h, append_assoc x y u.text)) (λ e. rw (e, h, eq-eqb k k refl))

pub merge_again : (B D : List Token) → merge (merge B ++ D) ≡ merge (B ++ D)
unfolding merge join
merge_again [] D = refl
merge_again (t ∷ B) D = first (merge B) ∙ ap (join t) (merge_again B D)
  where
    first : (M : List Token) → merge (join t M ++ D) ≡ join t (merge (M ++ D))
    first [] = refl
    first (u ∷ us) =
        by_join (λ z. merge (z ++ D) ≡ join t (merge (u ∷ (us ++ D)))) t u us
        (λ j. join_twice t.kind t.text u.text (merge (us ++ D)) j.fuse ∙ ap (λ (k : ℕ). join t (join (tok k u.text) (merge (us ++ D)))) j.alike) refl

-- ---- the text
text_join : (t : Token) (us : List Token) → text_of (join t us) ≡ t.text ++ text_of us
unfolding join text_of
text_join t [] = refl
text_join t (u ∷ us) = by_join (λ z. text_of z ≡ t.text ++ (u.text ++ text_of us)) t u us (λ j. append_assoc t.text u.text (text_of us)) refl

pub text_merge : (ts : List Token) → text_of (merge ts) ≡ text_of ts
unfolding merge text_of
text_merge [] = refl
text_merge (t ∷ ts) = text_join t (merge ts) ∙ ap (λ (s : List ℕ). t.text ++ s) (text_merge ts)

pub text_append : (xs ys : List Token) → text_of (xs ++ ys) ≡ text_of xs ++ text_of ys
unfolding text_of
text_append [] ys = refl
text_append (t ∷ xs) ys = ap (λ (s : List ℕ). t.text ++ s) (text_append xs ys) ∙ sym (append_assoc t.text (text_of xs) (text_of ys))

-- its length
abbrev pub size : List Token → ℕ
size ts = length (text_of ts)

pub size_cons : (t : Token) (ts : List Token) → size (t ∷ ts) ≡ length t.text + size ts
unfolding text_of
size_cons t ts = length-append t.text (text_of ts)

pub size_append : (xs ys : List Token) → size (xs ++ ys) ≡ size xs + size ys
size_append xs ys = ap length (text_append xs ys) ∙ length-append (text_of xs) (text_of ys)

pub size_merge : (ts : List Token) → size (merge ts) ≡ size ts
size_merge ts = ap length (text_merge ts)

-- ---- the number of tokens
pub join_length : (t : Token) (us : List Token) → length (join t us) ≤ suc (length us)
unfolding join
join_length t [] = omega arith
join_length t (u ∷ us) = by_join (λ z. length z ≤ suc (suc (length us))) t u us (λ j. omega arith) (omega arith)

pub merge_length : (xs ys : List Token) → length (merge (xs ++ ys)) ≤ length xs + length (merge ys)
unfolding merge
merge_length [] ys = omega arith
merge_length (x ∷ xs) ys = omega (arith, join_length x (merge (xs ++ ys)), merge_length xs ys)

-- two of punctuation in front are one
pub join_two : (a b : List ℕ) (us : List Token) → length (join (punct a) (join (punct b) us)) ≤ suc (length us)
unfolding join joins
join_two a b [] = omega arith
join_two a b (u ∷ us) = by_join (λ z. length (join (punct a) z) ≤ suc (suc (length us))) (punct b) u us (λ j. omega arith) (omega arith)
