-- Every file that passes 2 to 8 gives `structure` what it asks: its lowered lines are proper and plain, and the limits of 8 bound the tables and the
-- lent buffers.
use mathlib.Core.Path.{◌≡◌}
use mathlib.Core.Bool.{true, false}
use mathlib.Core.List.{List}
use Prim.Native.Nat.{ℕ, ◌+◌, ◌≤◌, ◌<◌}
use native.Mathlib.Omega.{arith}
use lib.Dec.{ltb}
use lib.ListN.{length, replicate}
use Rattle.definition.specs.Edition.{Edition, Room}
use Rattle.definition.specs.Lists.{all, has}
use Rattle.definition.specs.Shape.{refused4}
use Rattle.definition.specs.References.{refused5}
use Rattle.definition.specs.Meaning.{refused6}
use Rattle.definition.specs.Ssa.{Function}
use Rattle.definition.specs.Read.{read}
use Rattle.definition.specs.Offsets.{Known}
use Rattle.definition.specs.Tokens.{Line, text_of}
use Rattle.definition.specs.Blocks.{lower}
use Rattle.definition.specs.Sorts.{sort}
use Rattle.definition.specs.Passes.{cond_name, conds}
use Rattle.definition.specs.Listing.{Listing, line_words, token_words, tokens_of, padded, refused8, structure}
use Rattle.definition.specs.Listing.Outcome.{listed}
use Rattle.definition.proofs.ListLaws.{count_length}
use Rattle.definition.proofs.Plain.{Plain}
use Rattle.definition.proofs.Structured.{shaped}
use Rattle.definition.proofs.LoweredRead.{ends_with_text}
use Rattle.definition.proofs.Accepted.{Within, within, plain_lowered}
use Rattle.structure.specs.Lowered.{Given}
use Rattle.structure.proofs.Filled.{given}
use Rattle.structure.proofs.ProperLines.{proper}

conds_few : (low : List Line) → conds low ≤ length low
unfolding conds
conds_few low = count_length (λ x. has (cond_name (sort x))) low

-- ---- plain lines within the limits M
module _ (M : Room) where
  -- twice the lines, and as many tokens and bytes, are room for what is finished
  roomy : (low : List Line) → Plain low → refused8 M low ≡ false → (m d x : ℕ) → M.lines + M.lines ≤ m → M.tokens ≤ d → M.bytes ≤ x
      → (K : Listing) → structure low ≡ listed K → Within (record { lines = m; tokens = d; bytes = x }) K.lines
  roomy low plain r8 m d x lines tokens bytes K e =
      let w = within M low r8 in
      let s = shaped low K plain e in
      record {
        lines = omega (arith, s.line_room, w.lines, conds_few low);
        tokens = omega (arith, s.token_room, w.tokens);
        bytes = omega (arith, s.text_room, w.bytes);
      }

  -- and tables of twice the lines are long enough
  filled : (F : Function) (t : List Known) → Plain (lower F t) → refused8 M (lower F t) ≡ false → M.lines < 16777216
      → (L T B : ℕ) (R S : List ℕ) → R ≡ replicate (length R) 0 → M.lines + M.lines ≤ length R → length R ≤ 4294967295 → M.lines < length S
      → Given (lower F t) (padded L (line_words 0 (lower F t))) (padded T (token_words 0 (tokens_of (lower F t)))) (padded B (text_of (tokens_of (lower F t)))) R S (length (lower F t))
  filled F t plain r8 few L T B R S clean room short names =
      let low = lower F t in
      let w = within M low r8 in
      given low L T B (proper F t) R S (omega (arith, w.lines)) plain clean (omega (arith, w.lines, conds_few low)) short (omega (arith, w.lines))

-- ---- a file that passes 4 to 6
module _ (E : Edition) (f : List ℕ) (t : List Known) (ends : ends_with_text E.sections ≡ true) (bytes : all (λ b. ltb b 256) f ≡ true)
    (r4 : refused4 E f ≡ false) (r5 : refused5 E f ≡ false) (r6 : refused6 E f ≡ false) (r8 : refused8 E.lowered (lower (read E f) t) ≡ false) where
  plain_file : Plain (lower (read E f) t)
  plain_file = plain_lowered E f t ends bytes r4 r5 r6

  -- and 8, with tables and lent buffers as long as the edition's limits ask
  pub room_file : (m d x : ℕ) → E.lowered.lines + E.lowered.lines ≤ m → E.lowered.tokens ≤ d → E.lowered.bytes ≤ x
      → (K : Listing) → structure (lower (read E f) t) ≡ listed K → Within (record { lines = m; tokens = d; bytes = x }) K.lines
  room_file = roomy E.lowered (lower (read E f) t) plain_file r8

  pub given_file : E.lowered.lines < 16777216
      → (L T B : ℕ) (R S : List ℕ) → R ≡ replicate (length R) 0 → E.lowered.lines + E.lowered.lines ≤ length R → length R ≤ 4294967295 → E.lowered.lines < length S
      → Given (lower (read E f) t) (padded L (line_words 0 (lower (read E f) t))) (padded T (token_words 0 (tokens_of (lower (read E f) t))))
      (padded B (text_of (tokens_of (lower (read E f) t)))) R S (length (lower (read E f) t))
  given_file = filled E.lowered (read E f) t plain_file r8
