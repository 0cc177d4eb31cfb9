-- What a region makes of the counts: its lines take the place of a jump or of a label and a jump, and raising a line changes none of them.
use mathlib.Core.Path.{◌≡◌, refl, sym, ap, ◌∙◌}
use mathlib.Core.Bool.{Bool, true, false, cond, false≢true}
use mathlib.Core.Option.{Option, none, some}
use mathlib.Core.List.{List, [], ◌∷◌, ◌++◌}
use Prim.Native.Nat.{ℕ, suc, ◌+◌, ◌≤◌}
use native.Mathlib.Omega.{arith}
use lib.Dec.{eqb}
use lib.ListN.{length, length-append}
use Rattle.definition.specs.Texts.{txt, same}
use Rattle.definition.specs.Lists.{count, total, has}
use Rattle.definition.specs.Tokens.{Token, Line, keyword, punct, text_of}
use Rattle.definition.specs.Sorts.{Sort, sort, sort_of, sort_at, sort_jump, sort_rest, is_label, goto_target, first_is, first_text}
use Rattle.definition.specs.Sorts.Sort.{label, cond_to, if_open, close, do_open, while_close, plain}
use Rattle.definition.specs.Negate.{close_tokens, do_tokens}
use Rattle.definition.specs.Passes.{label_name, aim_name, cond_name, is, named, aims, aimed, conds, raise, raised, opened, closer, do_line, while_line, form_if, form_do}
use Rattle.definition.specs.Listing.{token_count, byte_count}
use Rattle.definition.proofs.Bools.{none_some, both_true}
use Rattle.definition.proofs.TextLaws.{same_eq, same_refl}
use Rattle.definition.proofs.ListLaws.{bit, total_append, total_map, total_length, bit_le, count_total, count_append, count_at, any_none}
use Rattle.definition.proofs.Merge.{size}
use Rattle.definition.proofs.TokenSorts.{close_sort, do_sort}
use Rattle.definition.proofs.Fits.{Fit}

-- a sum that raising does not change
module _ (f : Line → ℕ) (r : (x : Line) → f (raise x) ≡ f x) where
  total_if : (pre : List Line) (l : Line) (mid post : List Line)
      → total f (form_if pre l mid post) + f l ≡ total f (pre ++ l ∷ (mid ++ post)) + f (opened l) + f (closer l.indent)
  unfolding total
  total_if pre l mid post =
      omega (
        arith,
        total_append f pre (opened l ∷ (raised mid ++ closer l.indent ∷ post)),
        total_append f (raised mid) (closer l.indent ∷ post),
        total_map f raise r mid,
        total_append f pre (l ∷ (mid ++ post)),
        total_append f mid post,
      )

  total_do : (pre : List Line) (l : Line) (mid : List Line) (b : Line) (post : List Line)
      → total f (form_do pre l mid b post) + f l + f b ≡ total f (pre ++ l ∷ (mid ++ b ∷ post)) + f (do_line l) + f (while_line (suc l.indent) b)
  unfolding total
  total_do pre l mid b post =
      omega (
        arith,
        total_append f pre (do_line l ∷ (raised mid ++ while_line (suc l.indent) b ∷ post)),
        total_append f (raised mid) (while_line (suc l.indent) b ∷ post),
        total_map f raise r mid,
        total_append f pre (l ∷ (mid ++ b ∷ post)),
        total_append f mid (b ∷ post),
      )

module _ (p : Line → Bool) (r : (x : Line) → p (raise x) ≡ p x) where
  count_if : (pre : List Line) (l : Line) (mid post : List Line)
      → count p (form_if pre l mid post) + bit (p l) ≡ count p (pre ++ l ∷ (mid ++ post)) + bit (p (opened l)) + bit (p (closer l.indent))
  count_if pre l mid post =
      omega (arith, total_if (λ x. bit (p x)) (λ x. ap bit (r x)) pre l mid post, count_total p (form_if pre l mid post), count_total p (pre ++ l ∷ (mid ++ post)))

  count_do : (pre : List Line) (l : Line) (mid : List Line) (b : Line) (post : List Line)
      → count p (form_do pre l mid b post) + bit (p l) + bit (p b) ≡ count p (pre ++ l ∷ (mid ++ b ∷ post)) + bit (p (do_line l)) + bit (p (while_line (suc l.indent) b))
  count_do pre l mid b post =
      omega (arith, total_do (λ x. bit (p x)) (λ x. ap bit (r x)) pre l mid b post, count_total p (form_do pre l mid b post), count_total p (pre ++ l ∷ (mid ++ b ∷ post)))

-- ---- an if: a jump to t is gone
module _ (pre : List Line) (l : Line) (mid post : List Line) (t : List ℕ) (jump : sort l ≡ cond_to t) (f : Fit t l.toks) where
  abbrev in_l : List Line
  in_l = pre ++ l ∷ (mid ++ post)

  abbrev out_l : List Line
  out_l = form_if pre l mid post

  pub if_lines_lem : length out_l ≡ length in_l + 1
  if_lines_lem = omega (arith, total_if (λ x. 1) (λ x. refl) pre l mid post, total_length out_l, total_length in_l)

  pub if_tokens_lem : token_count out_l ≤ token_count in_l
  unfolding token_count close_tokens
  if_tokens_lem = omega (arith, total_if (λ x. length x.toks) (λ x. refl) pre l mid post, f.open_tokens_lem)

  pub if_bytes : byte_count out_l ≤ byte_count in_l
  unfolding byte_count close_tokens text_of
  if_bytes = omega (arith, total_if (λ x. size x.toks) (λ x. refl) pre l mid post, f.open_text)

  -- of a test of sorts: the jump is gone, and a head and an end have come
  if_sorts : (p : Sort → Bool) → count (λ x. p (sort x)) out_l + bit (p (cond_to t)) ≡ count (λ x. p (sort x)) in_l + bit (p if_open) + bit (p close)
  if_sorts p =
      let c : Sort → ℕ = λ s. bit (p s) in
      omega (arith, count_if (λ x. p (sort x)) (λ x. refl) pre l mid post, ap c jump, ap c f.open_sort, ap c close_sort)

  pub if_conds : conds in_l ≡ suc (conds out_l)
  unfolding conds cond_name has
  if_conds = omega (arith, if_sorts (λ s. has (cond_name s)))

  pub if_labels : (u : List ℕ) → count (named u) out_l ≡ count (named u) in_l
  unfolding named label_name is
  if_labels u = omega (arith, if_sorts (λ s. is u (label_name s)))

  pub if_aims : (u : List ℕ) → count (aims u) in_l ≡ count (aims u) out_l + bit (same t u)
  unfolding aims aim_name is
  if_aims u = omega (arith, if_sorts (λ s. is u (aim_name s)))

-- ---- a label's line is its name and a colon
two_tokens : (ts : List Token) → is_label ts ≡ true → (size ts ≡ length (first_text ts) + 1) × (length ts ≡ 2)
unfolding is_label first_text text_of
two_tokens [] e = absurd (false≢true e)
two_tokens (t ∷ []) e = absurd (false≢true e)
two_tokens (t ∷ u ∷ []) e =
    let c : u.text ≡ txt ":" = same_eq _ _ (both_true (same u.text (txt ":")) (eqb t.kind 4) e).0 in
    (length-append t.text (u.text ++ []) ∙ ap (λ (z : List ℕ). length t.text + length (z ++ [])) c, refl)
two_tokens (t ∷ u ∷ v ∷ ts) e = absurd (false≢true e)

-- and no other line is a label
sort_no_label : (ts : List Token) (o : Option (List ℕ)) → label_name (sort_at false o ts) ≡ none
unfolding sort_at sort_rest sort_jump label_name
sort_no_label ts none = go (first_is (keyword (txt "if")) ts) (first_is (keyword (txt "do")) ts) (first_is (punct (txt "}")) ts) (first_is (punct (txt "} ")) ts)
  where
    go : (p q r s : Bool) → label_name (cond p if_open (cond q do_open (cond r close (cond s while_close plain)))) ≡ none
    go true q r s = refl
    go false true r s = refl
    go false false true s = refl
    go false false false true = refl
    go false false false false = refl
sort_no_label ts (some u) = go (first_is (keyword (txt "if")) ts)
  where
    go : (b : Bool) → label_name (sort_jump b u) ≡ none
    go true = refl
    go false = refl

label_at : (ts : List Token) (t : List ℕ) (b : Bool) → is_label ts ≡ b → (o : Option (List ℕ)) → sort_at b o ts ≡ label t → (is_label ts ≡ true) × (first_text ts ≡ t)
unfolding sort_at label_name
label_at ts t true eb o e = (eb, (cc))
label_at ts t false eb o e = none_some {a = t} (sym (sort_no_label ts o) ∙ ap label_name e)

label_size : (ts : List Token) (t : List ℕ) → sort_of ts ≡ label t → (size ts ≡ length t + 1) × (length ts ≡ 2)
unfolding sort_of
label_size ts t e =
    let l = label_at ts t (is_label ts) refl (goto_target ts) e in
    let w = two_tokens ts l.0 in
    (w.0 ∙ ap (λ (z : List ℕ). length z + 1) l.1, w.1)

-- ---- a loop: a label t and a jump to t are gone
module _ (pre : List Line) (l : Line) (mid : List Line) (b : Line) (post : List Line) (t : List ℕ) (head : sort l ≡ label t) (back : sort b ≡ cond_to t) (f : Fit t b.toks) where
  abbrev in_d : List Line
  in_d = pre ++ l ∷ (mid ++ b ∷ post)

  abbrev out_d : List Line
  out_d = form_do pre l mid b post

  pub do_lines : length out_d ≡ length in_d
  do_lines = omega (arith, total_do (λ x. 1) (λ x. refl) pre l mid b post, total_length out_d, total_length in_d)

  pub do_tokens_lem : token_count out_d ≤ token_count in_d
  unfolding token_count do_tokens
  do_tokens_lem = omega (arith, total_do (λ x. length x.toks) (λ x. refl) pre l mid b post, f.while_tokens_lem, (label_size l.toks t head).1)

  pub do_bytes : byte_count out_d ≤ byte_count in_d
  unfolding byte_count do_tokens text_of
  do_bytes = omega (arith, total_do (λ x. size x.toks) (λ x. refl) pre l mid b post, f.while_text, f.nonempty, (label_size l.toks t head).0)

  -- of a test of sorts: the label and the jump are gone, and a head and an end have come
  do_sorts : (p : Sort → Bool) → count (λ x. p (sort x)) out_d + bit (p (label t)) + bit (p (cond_to t)) ≡ count (λ x. p (sort x)) in_d + bit (p do_open) + bit (p while_close)
  do_sorts p =
      let c : Sort → ℕ = λ s. bit (p s) in
      omega (arith, count_do (λ x. p (sort x)) (λ x. refl) pre l mid b post, ap c head, ap c back, ap c do_sort, ap c f.while_sort)

  pub do_conds : conds in_d ≡ suc (conds out_d)
  unfolding conds cond_name has
  do_conds = omega (arith, do_sorts (λ s. has (cond_name s)))

  pub do_labels : (u : List ℕ) → count (named u) in_d ≡ count (named u) out_d + bit (same t u)
  unfolding named label_name is
  do_labels u = omega (arith, do_sorts (λ s. is u (label_name s)))

  pub do_aims : (u : List ℕ) → count (aims u) in_d ≡ count (aims u) out_d + bit (same t u)
  unfolding aims aim_name is
  do_aims u = omega (arith, do_sorts (λ s. is u (aim_name s)))

  -- no goto to the head is left
  pub do_alone : aimed t (pre ++ l ∷ (mid ++ post)) ≡ false → count (aims t) out_d ≡ 0
  unfolding aimed
  do_alone e =
      omega (
        arith,
        any_none (aims t) (pre ++ l ∷ (mid ++ post)) e,
        count_at (aims t) pre l (mid ++ post),
        count_append (aims t) mid post,
        count_at (aims t) pre l (mid ++ b ∷ post),
        count_at (aims t) mid b post,
        bit_le (aims t b),
        do_aims t,
        ap bit (same_refl t),
      )
