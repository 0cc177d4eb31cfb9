-- The laws that callers cite, all about what is seen, which is nothing once the room is full. What keeps a full room full can tell two rooms
-- apart only by what is seen of them; so runs of pieces and of lines compose, and pieces may be merged before or while they are written.
use mathlib.Core.Path.{◌≡◌, refl, sym, ap, ◌∙◌}
use mathlib.Core.Bool.{Bool, true, false, cond, ◌||◌}
use mathlib.Core.Option.{Option, none, some, some-injective}
use mathlib.Core.List.{List, [], ◌∷◌, ◌++◌}
use Prim.Native.Nat.{ℕ}
use lib.Dec.{eqb}
use Rattle.definition.specs.Tokens.{Token, Line, tok, join, merge, line}
use Rattle.definition.proofs.Bools.{none_some, by_test}
use Rattle.definition.proofs.Merge.{by_join}
use Rattle.definition.proofs.Runs.{run_append}
use Rattle.room.specs.declared.out.Out.{Out}
use Rattle.room.specs.Room.{Room, Sheet, sheet_of, is_full, emit, emit_all, seen, end_line, write_line, write_all, seen_sheet}
use Rattle.room.specs.Ending.{Ended}
use Rattle.room.proofs.Emits.{emit_stays}
use Rattle.room.proofs.Joining.{two_pieces}

-- ---- what is seen of the results, from what is seen of the arguments
by_seen : {A : Type 0} (full : A → Bool) (f : A → A) → ((x : A) → full x ≡ true → f x ≡ x) → (x y : A)
    → cond (full x) none (some x) ≡ cond (full y) none (some y) → cond (full (f x)) none (some (f x)) ≡ cond (full (f y)) none (some (f y))
by_seen {A} full f stays x y e =
    by_test (full x)
    (λ h. by_test (full y) (λ k. rw (stays x h, stays y k) e) (λ k. none_some (sym (look x true h) ∙ e ∙ look y false k)))
    (λ h. by_test (full y) (λ k. none_some (sym (look y true k) ∙ sym e ∙ look x false h))
    (λ k. ap (λ (z : A). cond (full (f z)) none (some (f z))) (some-injective _ _ (sym (look x false h) ∙ e ∙ look y false k))))
  where
    look : (z : A) (b : Bool) → full z ≡ b → cond (full z) none (some z) ≡ cond b none (some z)
    look z b h = ap (λ (q : Bool). cond q none (some z)) h

-- ---- a run of steps that keep what is full as it is: of pieces into a room, or of lines into a sheet
module _ {S X : Type 0} (full : S → Bool) (run : S → List X → S) (step : S → X → S) (none_run : (s : S) → run s [] ≡ s) (next_run : (s : S) (x : X) (xs : List X) → run s (x ∷ xs) ≡ run (step s x) xs)
    (stays : (s : S) (x : X) → full s ≡ true → step s x ≡ s) where
  abbrev look : S → Option S
  look s = cond (full s) none (some s)

  run_stays : (s : S) (xs : List X) → full s ≡ true → run s xs ≡ s
  run_stays s [] h = none_run s
  run_stays s (x ∷ xs) h = next_run s x xs ∙ ap (λ (z : S). run z xs) (stays s x h) ∙ run_stays s xs h

  run_seen : (s u : S) (xs : List X) → look s ≡ look u → look (run s xs) ≡ look (run u xs)
  run_seen s u xs = by_seen full (λ z. run z xs) (λ z. run_stays z xs) s u

  -- one run behind another
  runs_seen : (s₂ s₁ s₀ : S) (xs ys : List X) → look s₁ ≡ look (run s₀ xs) → look s₂ ≡ look (run s₁ ys) → look s₂ ≡ look (run s₀ (xs ++ ys))
  runs_seen s₂ s₁ s₀ xs ys a b = b ∙ run_seen s₁ (run s₀ xs) ys a ∙ ap look (sym (run_append run step none_run next_run s₀ xs ys))

-- ---- a full room stays as it is
pub emits_stay : (r : Room) (ps : List Token) → is_full r ≡ true → emit_all r ps ≡ r
unfolding emit_all
emits_stay = run_stays is_full emit_all emit (λ r. refl) (λ r p ps. refl) emit_stays

pub end_stays : (s : Sheet) (n : ℕ) (a : Option ℕ) → is_full s.room ≡ true → end_line s n a ≡ s
unfolding end_line
end_stays s n a h = rw h

pub line_stays : (s : Sheet) (x : Line) → is_full s.room ≡ true → write_line s x ≡ s
unfolding write_line
line_stays s x h =
    ap (λ (r : Room). end_line (record { lines = s.lines; room = r }) x.indent x.addr) (emits_stay s.room x.toks h)
    ∙ end_stays s x.indent x.addr h

-- ---- so only what is seen counts
pub seen_emits : (r q : Room) (ps : List Token) → seen r ≡ seen q → seen (emit_all r ps) ≡ seen (emit_all q ps)
unfolding seen emit_all
seen_emits = run_seen is_full emit_all emit (λ r. refl) (λ r p ps. refl) emit_stays

seen_end : (s u : Sheet) → seen_sheet s ≡ seen_sheet u → (n : ℕ) (a : Option ℕ) → seen_sheet (end_line s n a) ≡ seen_sheet (end_line u n a)
unfolding seen_sheet
seen_end s u same n a = by_seen (λ z. is_full z.room) (λ z. end_line z n a) (λ z. end_stays z n a) s u same

-- ---- a run of calls: `next` for one piece, `more` for a list of pieces, `done` at the end; or the room is full
pub next : {r₁ : Room} (rₙ r₀ : Room) (p : Token) (ps : List Token) → r₁ ≡ emit r₀ p → seen rₙ ≡ seen (emit_all r₁ ps) → seen rₙ ≡ seen (emit_all r₀ (p ∷ ps))
unfolding emit_all
next rₙ r₀ p ps a b = b ∙ ap (λ (r : Room). seen (emit_all r ps)) a

pub more : (rₙ r₁ r₀ : Room) (qs ps : List Token) → seen r₁ ≡ seen (emit_all r₀ qs) → seen rₙ ≡ seen (emit_all r₁ ps) → seen rₙ ≡ seen (emit_all r₀ (qs ++ ps))
unfolding seen emit_all
more = runs_seen is_full emit_all emit (λ r. refl) (λ r p ps. refl) emit_stays

pub done : (r : Room) → seen r ≡ seen (emit_all r [])
unfolding emit_all
done r = refl

pub full_stays : (r : Room) (ps : List Token) → is_full r ≡ true → seen r ≡ seen (emit_all r ps)
full_stays r ps h = ap seen (sym (emits_stay r ps h))

-- ---- merging
-- two pieces of one kind that join are one
pub joined : (r : Room) (k : ℕ) (a b : List ℕ) (ps : List Token) → (eqb k 6 || eqb k 0) ≡ true
    → seen (emit_all r (tok k a ∷ tok k b ∷ ps)) ≡ seen (emit_all r (tok k (a ++ b) ∷ ps))
unfolding emit_all
joined r k a b ps h = seen_emits (emit (emit r (tok k a)) (tok k b)) (emit r (tok k (a ++ b))) ps (two_pieces r.tokens r.text r.out k a b h)

join_seen : (r : Room) (t : Token) (ts : List Token) → seen (emit_all r (join t ts)) ≡ seen (emit_all r (t ∷ ts))
unfolding join
join_seen r t [] = refl
join_seen r t (u ∷ us) =
    by_join (λ z. seen (emit_all r z) ≡ seen (emit_all r (t ∷ u ∷ us))) t u us
    (λ j. sym (joined r t.kind t.text u.text us j.fuse) ∙ ap (λ (k : ℕ). seen (emit_all r (t ∷ tok k u.text ∷ us))) j.alike) refl

-- before or while they are written
pub merged : (r : Room) (ps : List Token) → seen (emit_all r (merge ps)) ≡ seen (emit_all r ps)
unfolding merge emit_all
merged r [] = refl
merged r (t ∷ ts) = join_seen r t (merge ts) ∙ merged (emit r t) ts

-- ---- lines
-- what is seen of a sheet, from what is seen of its room
sheet_seen : (l : List ℕ) (r q : Room) → seen r ≡ seen q → seen_sheet (record { lines = l; room = r }) ≡ seen_sheet (record { lines = l; room = q })
unfolding seen seen_sheet
sheet_seen l r q e =
    by_test (is_full r)
    (λ h. by_test (is_full q) (λ k. rw (h, k)) (λ k. none_some (rw (h, k) at e)))
    (λ h. by_test (is_full q) (λ k. none_some (sym (rw (h, k) at e))) (λ k. ap (λ (z : Room). seen_sheet (record { lines = l; room = z })) (some-injective _ _ (rw (h, k) at e))))

-- one piece, as a list
pub one : (r₁ r₀ : Room) (p : Token) → r₁ ≡ emit r₀ p → seen r₁ ≡ seen (emit_all r₀ (p ∷ []))
one r₁ r₀ p e = next r₁ r₀ p [] e (done r₁)

-- the same piece, and the same pieces, named otherwise
pub piece_as : (x y : Room) (k : ℕ) (s t : List ℕ) → y ≡ emit x (tok k s) → s ≡ t → y ≡ emit x (tok k t)
piece_as x y k s t e h = rw (← h) e

pub pieces_are : (r r₀ : Room) (ps qs : List Token) → seen r ≡ seen (emit_all r₀ ps) → ps ≡ qs → seen r ≡ seen (emit_all r₀ qs)
pieces_are r r₀ ps qs h p = rw (← p) h

-- a line ended behind its tokens, or behind its pieces, is that line
pub line_ended : (l l' : List ℕ) (r₀ r₁ : Room) (o : Out) (x : Line) → seen r₁ ≡ seen (emit_all r₀ x.toks) → Ended l r₁.out x.indent x.addr l' o
    → seen_sheet (sheet_of l' r₁.tokens r₁.text o) ≡ seen_sheet (write_all (record { lines = l; room = r₀ }) (x ∷ []))
unfolding write_all write_line
line_ended l l' r₀ r₁ o x e d =
    ap seen_sheet (d.whole r₁.tokens r₁.text)
    ∙ seen_end (record { lines = l; room = r₁ }) (record { lines = l; room = emit_all r₀ x.toks }) (sheet_seen l r₁ (emit_all r₀ x.toks) e) x.indent x.addr

pub line_ends : (l l' : List ℕ) (r₀ r₁ : Room) (o : Out) (n : ℕ) (a : Option ℕ) (ps : List Token)
    → seen r₁ ≡ seen (emit_all r₀ ps) → Ended l r₁.out n a l' o
    → seen_sheet (sheet_of l' r₁.tokens r₁.text o) ≡ seen_sheet (write_all (record { lines = l; room = r₀ }) (line n a ps ∷ []))
unfolding line
line_ends l l' r₀ r₁ o n a ps e = line_ended l l' r₀ r₁ o (line n a ps) (e ∙ sym (merged r₀ ps))

-- lines one after the other
pub writes : (s₂ s₁ s₀ : Sheet) (xs ys : List Line) → seen_sheet s₁ ≡ seen_sheet (write_all s₀ xs) → seen_sheet s₂ ≡ seen_sheet (write_all s₁ ys)
    → seen_sheet s₂ ≡ seen_sheet (write_all s₀ (xs ++ ys))
unfolding seen_sheet write_all
writes = runs_seen (λ s. is_full s.room) write_all write_line (λ s. refl) (λ s x xs. refl) line_stays

pub written_none : (s : Sheet) → seen_sheet s ≡ seen_sheet (write_all s [])
unfolding write_all
written_none s = refl
