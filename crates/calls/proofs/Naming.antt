-- The code finds a name by its index in the file; its text is the definition's name, which a jump's target and a direct call's are made of.
use mathlib.Core.Path.{◌≡◌, refl, sym, ap, ◌∙◌}
use mathlib.Core.Bool.{Bool, true, false}
use mathlib.Core.Option.{Option, none, some}
use mathlib.Core.List.{List, [], ◌∷◌}
use Prim.Native.Nat.{ℕ, ◌+◌, ◌-◌}
use Rattle.definition.specs.Edition.{Edition}
use Rattle.definition.specs.Words.{part}
use Rattle.definition.specs.Lists.{among}
use Rattle.definition.specs.Contents.{offset, text, text_at, name_word}
use Rattle.definition.specs.Texts.{txt, begins, trim_start}
use Rattle.definition.specs.Read.{read}
use Rattle.definition.specs.Offsets.{Known}
use Rattle.definition.specs.Numbers.{label, outward, read_hex}
use Rattle.definition.specs.Lookup.{name_for, name_or, order, outside_name, target_name}
use Rattle.definition.specs.Tokens.{tok, symbol}
use Rattle.definition.specs.Render.{Gen, open_next, open_all}
use Rattle.definition.specs.Inline.{InPlace}
use Rattle.definition.specs.Lower.{name_for_hex, direct, is_indirect}
use Rattle.definition.specs.Blocks.{lowering}
use Rattle.std.specs.Prelude.{Option as Answer, Some, None, not}
use Rattle.std.specs.Option.{MatchOption}
use Rattle.std.specs.Bool.{then_some}
use Rattle.definition.proofs.Bools.{by_test}
use Rattle.records.specs.Options.{answer_of}
use Rattle.text.specs.Supplied.{name_index, name_text, text_of}
use Rattle.text.proofs.Lookups.{name_is, name_part, text_is, told_some, told_none}
use Rattle.room.specs.Room.{Room, emit}
use Rattle.room.proofs.Laws.{piece_as}
use Rattle.calls.specs.Spelled.{outside_text, Trimmed, named_or, name_at_hex, index_at_hex, direct_index, direct_text}

-- ---- outside
module _ (f : List ℕ) (t a : ℕ) (r : Answer ℕ) (look : r ≡ answer_of (name_index f a)) where
  outside_unnamed : r ≡ None → outside_text f t a ≡ outward a
  unfolding outside_text outside_name text_of
  outside_unnamed e = rw (told_none (name_index f a) (sym look ∙ e))

  module _ (i : ℕ) (at : r ≡ Some i) (b : Bool) (is : b ≡ begins (txt "loc_") (name_text f t i)) where
    outside_label : b ≡ true → outside_text f t a ≡ outward a
    unfolding outside_text outside_name text_of
    outside_label h = rw (told_some (name_index f a) i (sym look ∙ at), sym is ∙ h)

    outside_named : b ≡ false → outside_text f t a ≡ name_text f t i
    unfolding outside_text outside_name text_of
    outside_named h = rw (told_some (name_index f a) i (sym look ∙ at), sym is ∙ h)

-- by what the search for its name answered
module _ (f : List ℕ) (t a : ℕ) (r : Answer ℕ) (is : outside_text f t a ≡ named_or f t a r) where
  pub by_name : (i : ℕ) → r ≡ Some i → name_text f t i ≡ outside_text f t a
  unfolding named_or
  by_name i e = sym (is ∙ rw e)

  pub by_address : r ≡ None → outward a ≡ outside_text f t a
  unfolding named_or
  by_address e = sym (is ∙ rw e)

-- a raw address begins with `*`, a label does not
outward_raw : (a : ℕ) (s : List ℕ) → outward a ≡ s → true ≡ begins (txt "*") s
unfolding outward begins
outward_raw a s e = rw (← e)

named_raw : (b : Bool) (s t : List ℕ) → b ≡ begins (txt "*") s → s ≡ t → b ≡ begins (txt "*") t
named_raw b s t e h = rw (← h) e

-- the name that was looked up, but for a label's
pub name_kept : (f : List ℕ) (t a : ℕ) (r q : Answer ℕ) {Q : ℕ → Bool → Type 0} → r ≡ answer_of (name_index f a)
    → MatchOption r (q ≡ None) (λ x. (b : Bool) × Q x b × (q ≡ then_some b x))
    → ((i : ℕ) (b : Bool) → Q i b → b ≡ not (begins (txt "loc_") (name_text f t i))) → outside_text f t a ≡ named_or f t a q
unfolding named_or
name_kept f t a None q look h more = outside_unnamed f t a None look refl ∙ rw h
name_kept f t a (Some i) q look h more =
    by_test (begins (txt "loc_") (name_text f t i))
    (λ s. outside_label f t a (Some i) look i refl _ refl s ∙ rw (h.2, more i h.0 h.1, s))
    (λ s. outside_named f t a (Some i) look i refl _ refl s ∙ rw (h.2, more i h.0 h.1, s))

pub raw_kept : (f : List ℕ) (t a : ℕ) (r : Answer ℕ) (b : Bool) {Q : ℕ → Type 0} → outside_text f t a ≡ named_or f t a r → MatchOption r (b ≡ true) Q
    → ((i : ℕ) → Q i → b ≡ begins (txt "*") (name_text f t i)) → b ≡ begins (txt "*") (outside_text f t a)
raw_kept f t a None b is h more = h ∙ outward_raw a _ (by_address f t a None is refl)
raw_kept f t a (Some i) b is h more = named_raw b _ _ (more i h) (by_name f t a (Some i) is i refl)

label_plain : (a : ℕ) → false ≡ begins (txt "*") (label a)
unfolding label begins
label_plain a = refl

-- ---- targets
module _ (f : List ℕ) (a : ℕ) (b : Bool) (is : (E : Edition) → b ≡ among a (order (read E f))) (E : Edition) where
  target_label : b ≡ true → label a ≡ target_name (order (read E f)) (read E f).names a
  unfolding target_name
  target_label h = rw (sym (is E) ∙ h)

  target_outside : b ≡ false → outside_text f (text E) a ≡ target_name (order (read E f)) (read E f).names a
  unfolding target_name outside_text read
  target_outside h = rw (sym (is E) ∙ h) (ap (outside_name a) (sym (name_is E f a)))

  pub raw_label : b ≡ true → false ≡ begins (txt "*") (target_name (order (read E f)) (read E f).names a)
  raw_label h = rw (← target_label h) (label_plain a)

  pub raw_outside : (t : ℕ) (r : Bool) → text E ≡ t → b ≡ false → r ≡ begins (txt "*") (outside_text f t a) → r ≡ begins (txt "*") (target_name (order (read E f)) (read E f).names a)
  raw_outside t r s h e = rw (← target_outside h, s) e

  module _ (t k : ℕ) (section : text E ≡ t) (x y : Room) where
    pub put_label : b ≡ true → y ≡ emit x (tok k (label a)) → y ≡ emit x (tok k (target_name (order (read E f)) (read E f).names a))
    put_label h e = e ∙ ap (λ (l : List ℕ). emit x (tok k l)) (target_label h)

    pub put_name : b ≡ false → y ≡ emit x (tok k (outside_text f t a)) → y ≡ emit x (tok k (target_name (order (read E f)) (read E f).names a))
    put_name h e = e ∙ ap (λ (l : List ℕ). emit x (tok k l)) (ap (λ (i : ℕ). outside_text f i a) (sym section) ∙ target_outside h)

-- ---- direct calls
module _ (f : List ℕ) (at n k : ℕ) (off : Trimmed f at n k) (h : Answer ℕ) (is : h ≡ answer_of (read_hex (part f (at + k) (n - k)))) where
  spelled : h ≡ answer_of (read_hex (trim_start (txt "sub_") (part f at n)))
  spelled = is ∙ ap (λ (s : List ℕ). answer_of (read_hex s)) off.rest

  pub index_none : h ≡ None → None ≡ answer_of (direct_index f (part f at n))
  unfolding direct_index index_at_hex
  index_none e = rw (told_none _ (sym spelled ∙ e))

  pub index_found : (a : ℕ) (r : Answer ℕ) → h ≡ Some a → r ≡ answer_of (name_index f a) → r ≡ answer_of (direct_index f (part f at n))
  unfolding direct_index index_at_hex
  index_found a r e q = q ∙ rw (told_some _ a (sym spelled ∙ e))

index_is : (E : Edition) (f : List ℕ) (o : Option ℕ) → name_at_hex (read E f).names o ≡ text_of f (text E) (index_at_hex f o)
unfolding name_at_hex index_at_hex text_of read
index_is E f none = refl
index_is E f (some a) = name_is E f a

direct_is : (E : Edition) (f s : List ℕ) → direct_text E f s ≡ name_or s (text_of f (text E) (direct_index f s))
unfolding direct_text direct_index
direct_is E f s = ap (name_or s) (index_is E f (read_hex (trim_start (txt "sub_") s)))

module _ (E : Edition) (f : List ℕ) (t start n o : ℕ) (section : text E ≡ t) (place : o ≡ offset f t) where
  spelling : part f (o + start) n ≡ text_at E f start n
  spelling = rw (place, ← section) (text_is E f start n)

  pub indirect_is : (b : Bool) → b ≡ begins (txt "[") (part f (o + start) n) → b ≡ is_indirect (text_at E f start n)
  unfolding is_indirect
  indirect_is b e = e ∙ ap (begins (txt "[")) spelling

  module _ (r : Answer ℕ) (is : r ≡ answer_of (direct_index f (part f (o + start) n))) (x y : Room) where
    found_there : r ≡ answer_of (direct_index f (text_at E f start n))
    found_there = is ∙ ap (λ (s : List ℕ). answer_of (direct_index f s)) spelling

    pub direct_plain : r ≡ None → y ≡ emit x (tok 4 (part f (o + start) n)) → y ≡ emit x (symbol (direct_text E f (text_at E f start n)))
    unfolding name_or text_of
    direct_plain h e =
        let s = text_at E f start n in
        let d : s ≡ direct_text E f s = sym (direct_is E f s ∙ ap (λ (k : Option ℕ). name_or s (text_of f (text E) k)) (told_none (direct_index f s) (sym found_there ∙ h))) in
        piece_as x y 4 _ _ e (spelling ∙ d)

    pub direct_named : (i : ℕ) → r ≡ Some i → y ≡ emit x (tok 4 (name_text f t i)) → y ≡ emit x (symbol (direct_text E f (text_at E f start n)))
    unfolding name_or text_of
    direct_named i h e =
        let s = text_at E f start n in
        let d : name_text f (text E) i ≡ direct_text E f s = sym (direct_is E f s ∙ ap (λ (k : Option ℕ). name_or s (text_of f (text E) k)) (told_some (direct_index f s) i (sym found_there ∙ h))) in
        piece_as x y 4 _ _ e (ap (λ (z : ℕ). name_text f z i) (sym section) ∙ d)

-- so it is the definition's token: what is opened in place changes no name
open_keeps : (P : Gen → Type 0) → ((G : Gen) (p : InPlace) → P G → P (open_next G p)) → (G : Gen) (ps : List InPlace) → P G → P (open_all G ps)
unfolding open_all
open_keeps P next G [] h = h
open_keeps P next G (p ∷ ps) h = open_keeps P next (open_next G p) ps (next G p h)

hex_name : (E : Edition) (f : List ℕ) (k : List Known) (o : Option ℕ) → name_for_hex (lowering (read E f) k) o ≡ name_at_hex (read E f).names o
unfolding name_for_hex name_at_hex lowering open_next
hex_name E f k none = refl
hex_name E f k (some a) = open_keeps (λ G. name_for G.supplied a ≡ name_for (read E f).names a) (λ G p h. h) _ _ refl

pub direct_tokens : (E : Edition) (f : List ℕ) (k : List Known) (s : List ℕ) → direct (lowering (read E f) k) s ≡ symbol (direct_text E f s) ∷ []
unfolding direct direct_text
direct_tokens E f k s = ap (λ (o : Option (List ℕ)). symbol (name_or s o) ∷ []) (hex_name E f k (read_hex (trim_start (txt "sub_") s)))

-- ---- names by what they begin with
pub begins_name : (f : List ℕ) (t i o a n : ℕ) (w : List ℕ) (b : Bool) → o ≡ offset f t → a ≡ name_word f i 2 → n ≡ name_word f i 3 → b ≡ begins w (part f (o + a) n) → b ≡ begins w (name_text f t i)
begins_name f t i o a n w b p q r e = e ∙ ap (begins w) (rw p (name_part f t i a n q r))
