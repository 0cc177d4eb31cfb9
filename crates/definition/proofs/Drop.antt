-- `drop_unused_labels`: only labels that no goto names go, so braces, gotos and named labels stay, and no label is left that no goto names.
use mathlib.Core.Path.{◌≡◌, refl, sym, ap, subst, ◌∙◌}
use mathlib.Core.Bool.{Bool, false, true≢false}
use mathlib.Core.Option.{Option, none, some}
use mathlib.Core.List.{List, [], ◌∷◌, ◌++◌}
use Prim.Native.Nat.{ℕ, ◌<◌}
use native.Mathlib.Omega.{arith}
use Rattle.definition.specs.Texts.{same}
use Rattle.definition.specs.Lists.{only, count}
use Rattle.definition.specs.Tokens.{Line}
use Rattle.definition.specs.Sorts.{Sort, sort}
use Rattle.definition.specs.Sorts.Sort.{label}
use Rattle.definition.specs.Passes.{label_name, aim_name, is, named, aims, aimed, kept}
use Rattle.definition.proofs.Bools.{is_false, by_test, by_cond}
use Rattle.definition.proofs.TextLaws.{same_eq}
use Rattle.definition.proofs.ListLaws.{count_only, count_only_none, any_count, count_any}
use Rattle.definition.proofs.SortLaws.{is_some, label_sort}
use Rattle.definition.proofs.Nest.{Mark, Act, Nest}
use Rattle.definition.proofs.Body.{stays, body, body_append, body_skip}

module _ (all : List Line) where
  abbrev pub keep : Line → Bool
  keep x = kept all (label_name (sort x))

  -- only a label that no goto names is dropped
  dropped : (x : Line) → keep x ≡ false → (t : List ℕ) × (sort x ≡ label t) × (aimed t all ≡ false)
  unfolding kept
  dropped x e = go (label_name (sort x)) refl e
    where
      go : (o : Option (List ℕ)) → label_name (sort x) ≡ o → kept all o ≡ false → (t : List ℕ) × (sort x ≡ label t) × (aimed t all ≡ false)
      go none n e = absurd (true≢false e)
      go (some t) n e = (t, label_sort (sort x) t n, e)

  pub drop_nest : (s : List Mark) (xs : List Line) (s' : List Mark) → Nest s xs s' → Nest s (only keep xs) s'
  unfolding only
  drop_nest s [] s' h = h
  drop_nest s (x ∷ xs) s' h =
      let r = drop_nest h.0 xs s' h.2 in
      by_cond (λ z. Nest s z s') (keep x) (λ e. (h.0, h.1, r))
      (λ e. subst (λ (z : List Mark). Nest z (only keep xs) s') (subst (λ (k : Sort). Act k s x.indent h.0) (dropped x e).1 h.1).1 r)

  pub drop_body : (xs : List Line) → body (only keep xs) ≡ body xs
  unfolding only stays
  drop_body [] = refl
  drop_body (x ∷ xs) =
      let r = drop_body xs in
      by_cond (λ z. body z ≡ body (x ∷ xs)) (keep x)
      (λ e. body_append (x ∷ []) (only keep xs) ∙ ap (λ (z : List Line). body (x ∷ []) ++ z) r ∙ sym (body_append (x ∷ []) xs))
      (λ e. let d = dropped x e in r ∙ sym (body_skip x (label d.0) xs d.1 refl))

  -- gotos stay
  pub drop_aims : (t : List ℕ) (xs : List Line) → count (aims t) (only keep xs) ≡ count (aims t) xs
  unfolding aims aim_name is
  drop_aims t = count_only (aims t) keep (λ x e. ap (λ (s : Sort). is t (aim_name s)) (dropped x e).1)

  -- a label that a goto names stays
  pub drop_labels : (t : List ℕ) → 0 < count (aims t) all → (xs : List Line) → count (named t) (only keep xs) ≡ count (named t) xs
  unfolding named label_name is aimed
  drop_labels t a =
      count_only (named t) keep (λ x e.
      let d = dropped x e in
      ap (λ (s : Sort). is t (label_name s)) d.1
      ∙ is_false (same d.0 t) (λ h. absurd (true≢false (sym (count_any (aims t) all a) ∙ ap (λ (z : List ℕ). aimed z all) (sym (same_eq d.0 t h)) ∙ d.2))))

  -- a label that stays is named by a goto
  pub drop_used : (t : List ℕ) (xs : List Line) → 0 < count (named t) (only keep xs) → 0 < count (aims t) all
  unfolding named kept aimed
  drop_used t xs h =
      by_test (aimed t all) (any_count (aims t) all) (λ e.
      absurd (omega (
        arith,
        count_only_none (named t) keep (λ x k. is_false (named t x) (λ n.
            absurd (true≢false (sym k ∙ ap (kept all) (is_some t (label_name (sort x)) n) ∙ e)))) xs,
      )))
