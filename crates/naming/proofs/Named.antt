-- The table that the walk leaves is that of the codes: it begins with the parameters, whose classes are given their codes from the last down, and goes
-- over the values that the definition names.
use mathlib.Core.Path.{◌≡◌, refl, sym, ap, ap₂, ◌∙◌}
use mathlib.Core.Bool.{Bool}
use mathlib.Core.List.{List, [], map}
use Prim.Native.Nat.{ℕ, zero, suc, ◌+◌, ◌*◌, ◌≤◌, ◌<◌}
use native.Mathlib.Omega.{arith}
use lib.ListN.{length, get_or, set, replicate}
use mir.Syntax.{w8}
use mir.Val.{Fits}
use Rattle.definition.specs.Edition.{Edition, args}
use Rattle.definition.specs.Lists.{gather, range}
use Rattle.definition.specs.Contents.{size, arg_at}
use Rattle.definition.specs.Values.{Value, value}
use Rattle.definition.specs.Read.{read}
use Rattle.definition.specs.Classes.{find, classes}
use Rattle.definition.specs.Inline.{reads_of, inline, in_place}
use Rattle.definition.specs.Names.{params, block_keys}
use Rattle.places.specs.Keys.{key_of, keyed}
use Rattle.values.specs.Tables.{number_of, numbered, table}
use Rattle.values.proofs.Tables.{table_same, zeros_are, Names}
use Rattle.values.proofs.Placed.{keyed_length}
use Rattle.names.specs.Codes.{coded, param_codes, code_keys, code_start, name_code}
use Rattle.names.specs.Spots.{State, known, state}
use Rattle.naming.specs.Walk.{walked, spots, params_seen}
use Rattle.names.specs.Given.{Numbered, Counted}
use Rattle.naming.specs.Given.{Told, NamesAll}
use Rattle.names.proofs.Mentioned.{coded_write, root_number, arg_named_lem}
use Rattle.naming.proofs.Tied.{Tied, walk_tied}
use Rattle.naming.proofs.Spots.{all_values}
use Rattle.naming.proofs.Mentioned.{all_right}
use Rattle.names.proofs.Rooted.{rooted}
use Rattle.names.proofs.Entered.{params_first}

-- ---- the parameters' classes
module _ (f : List ℕ) (n : ℕ) (root : Value → Value) (to : (p : ℕ) (v : Value) → Names f n p v → (q : ℕ) × Names f n q (root v)) (by : (i : ℕ) → i < size f args → Names f n i (value (arg_at f i) 0)) where
  abbrev root_table : List ℕ
  root_table = table f n (λ v. number_of (keyed f n) (key_of (root v)))

  seen_codes : (m j : ℕ) → m ≤ size f args
      → params_seen (numbered f n) root_table m (table f n (param_codes root (suc m) (map (arg_at f) (range m j)))) ≡ table f n (param_codes root 1 (map (arg_at f) (range 0 (m + j))))
  unfolding params_seen param_codes range
  seen_codes zero j h = let p : 0 + j ≡ j = omega arith in rw p
  seen_codes (suc m) j h =
      let v = value (arg_at f m) 0 in
      let here = by m (omega arith) in
      let there = to m v here in
      let g = param_codes root (suc (suc m)) (map (arg_at f) (range (suc m) j)) in
      let p : suc m ≡ m + 1 = omega arith in
      let q : m + suc j ≡ suc m + j = omega arith in
      ap (params_seen (numbered f n) root_table m)
      (ap (λ (x : ℕ). set (table f n g) x (2 * suc m)) (root_number f n root m there.0 v here there.1)
      ∙ coded_write f n there.0 (root v) there.1 g (2 * suc m)
      ∙ table_same f n (coded (root v) (2 * suc m) g) (param_codes root (suc m) (map (arg_at f) (range m (suc j))))
      (λ w. ap (λ (x : ℕ). coded (root v) (2 * suc m) (param_codes root (suc (suc m)) (map (arg_at f) (range x j))) w) p))
      ∙ seen_codes m (suc j) (omega arith)
      ∙ ap (λ (x : ℕ). table f n (param_codes root 1 (map (arg_at f) (range 0 x)))) q

  pub seen_params : (m : ℕ) → m ≤ size f args → params_seen (numbered f n) root_table m (table f n (λ v. 0)) ≡ table f n (param_codes root 1 (map (arg_at f) (range 0 m)))
  unfolding param_codes range
  seen_params m h =
      let p : m + 0 ≡ m = omega arith in
      ap (params_seen (numbered f n) root_table m) (table_same f n (λ v. 0) (param_codes root (suc m) []) (λ v. refl))
      ∙ seen_codes m 0 h ∙ ap (λ (x : ℕ). table f n (param_codes root 1 (map (arg_at f) (range 0 x)))) p

-- ---- all
module _ (f : List ℕ) (bytes : (k : ℕ) → Fits w8 (get_or f k 0)) (ns roots places entry : List ℕ) (given : Numbered f ns) (short : length ns < 2147483648) (r : ℕ) (counted : Counted f ns entry r) where
  abbrev n : ℕ
  n = length ns

  -- of one edition
  module _ (E : Edition) (p : Value → ℕ) (told : Told E p f n roots places entry) where
    abbrev root : Value → Value
    root v = find (classes (read E f)) v

    abbrev away : Value → Bool
    away v = in_place (inline (read E f) (reads_of (read E f))) v

    start_tied : Tied f n (state (replicate n 0) (params_seen ns roots r (replicate n 0)) 1) (code_start root (params (read E f)))
    unfolding code_start
    start_tied = record {
      names = zeros_are f n (keyed_length f n given.own given.room);
      seen = ap₂ (λ (a b : List ℕ). params_seen a b r (replicate n 0)) given.are told.rooted
          ∙ ap (params_seen (numbered f n) (table f n (λ v. number_of (keyed f n) (key_of (root v)))) r) (zeros_are f n (keyed_length f n given.own given.room))
          ∙ seen_params f n root (rooted f bytes given.own n given.room E) (arg_named_lem f bytes given.own n given.room) r counted.few
          ∙ ap (λ (m : ℕ). table f n (param_codes root 1 (map (arg_at f) (range 0 m)))) (counted.says E told.entered)
          ∙ ap (λ (l : List ℕ). table f n (param_codes root 1 l)) (sym (params_first E f));
      next = refl;
      few = omega arith;
    }

    names_are_codes : (walked (known ns roots places) (state (replicate n 0) (params_seen ns roots r (replicate n 0)) 1) (spots f)).names
        ≡ table f n (name_code (read E f) (classes (read E f)) (inline (read E f) (reads_of (read E f))))
    unfolding name_code
    names_are_codes =
        let S = state (replicate n 0) (params_seen ns roots r (replicate n 0)) 1 in
        let C = code_start root (params (read E f)) in
        ap (λ (a : List ℕ). (walked (known a roots places) S (spots f)).names) given.are
        ∙ ap₂ (λ (a b : List ℕ). (walked (known (numbered f n) a b) S (spots f)).names) told.rooted told.placed
        ∙ (walk_tied f n (omega (arith, keyed_length f n given.own given.room)) root p away told.away (rooted f bytes given.own n given.room E)
        (spots f) (all_right f bytes given.own n given.room) S C start_tied).names
        ∙ ap (λ (vs : List Value). table f n (code_keys root away C vs).names) (all_values f E)
        ∙ table_same f n (code_keys root away C (gather block_keys (read E f).blocks)).names (name_code (read E f) (classes (read E f)) (inline (read E f) (reads_of (read E f)))) (λ v. refl)

  pub names_all : (names₀ seen₀ seen₁ names seen₂ seen : List ℕ) (k : ℕ) → (names₀ ≡ replicate n 0) × (seen₀ ≡ replicate n 0) → seen₁ ≡ params_seen ns roots r seen₀
      → state names seen₂ k ≡ walked (known ns roots places) (state names₀ seen₁ 1) (spots f) → seen ≡ replicate (length seen₂) 0 → length seen₂ ≡ n
      → NamesAll f n roots places entry names seen
  names_all names₀ seen₀ seen₁ names seen₂ seen k z s w c l = record {
    says = λ E p told.
        ap (λ (S : State). S.names) w
        ∙ ap₂ (λ (a b : List ℕ). (walked (known ns roots places) (state a b 1) (spots f)).names) z.0 (s ∙ ap (params_seen ns roots r) z.1)
        ∙ names_are_codes E p told;
    cleared = c ∙ ap (λ (m : ℕ). replicate m 0) l;
  }
