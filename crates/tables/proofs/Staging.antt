-- Each stage's tables of zeros have the lengths that the analyses ask of a sound file, and what those leave is the stage's record.
use mathlib.Core.Path.{◌≡◌, refl, sym, ap, subst, ◌∙◌}
use mathlib.Core.Bool.{Bool, true}
use mathlib.Core.List.{List}
use Prim.Native.Nat.{ℕ, ◌≤◌}
use native.Mathlib.Omega.{arith}
use lib.ListN.{length, replicate}
use Rattle.definition.specs.Edition.{Edition, edition1, blocks}
use Rattle.definition.specs.Lists.{distinct}
use Rattle.definition.specs.Contents.{size, text}
use Rattle.definition.specs.Shape.{owned}
use Rattle.definition.specs.Meaning.{starts}
use Rattle.definition.specs.Read.{read, all_trees}
use Rattle.definition.specs.Offsets.{Known, look, offsets, refused7}
use Rattle.definition.proofs.ListLaws.{zeros_long, own_zeros}
use Rattle.places.specs.Keys.{places_of, keyed}
use Rattle.values.specs.Tables.{numbered, table}
use Rattle.values.proofs.Tables.{table_length}
use Rattle.values.proofs.Placed.{keyed_length}
use Rattle.uses.specs.Orders.{Ordered}
use Rattle.reads.specs.Counts.{last_reader}
use Rattle.names.specs.Given.{EntryRead}
use Rattle.sums.specs.Ground.{Ground}
use Rattle.marks.specs.Reading.{ReadRoots}
use Rattle.labels.specs.Labels.{Labels}
use Rattle.analyses.specs.Sound.{Sound}
use Rattle.analyses.specs.Tables.{Unnumbered, Before, ReadAs, Shared, Unplaced, Placed, Nameable, Nameless, Named}
use Rattle.tables.specs.Stages.{width, Grounded, Rooted, Stacked, Stack, Unvalued, Unread, Unnamed, Unmarked, Marked, Called, Counted}
use Rattle.tables.proofs.Emptying.{zeros_of, again}

-- ---- numbers
pub unnumbered : (f ks ns os order starts loads live phi spare : List ℕ) → Sound f → Unvalued (width f) ks ns os → Unread (width f) order starts loads live phi spare
    → Unnumbered f ks ns order spare
unnumbered f ks ns os order starts loads live phi spare s u v =
    let k = zeros_long ks (width f) u.no_keys in
    let n = zeros_long ns (width f) u.no_numbers in
    let h = zeros_long order 2048 v.no_order in
    let x = zeros_long spare (width f) v.no_spare in
    record {
      own = s.own;
      registered = s.registered;
      clear = own_zeros ks (width f) u.no_keys;
      room = omega (arith, k);
      few = omega (arith, k, s.few_places);
      as_numbers = n ∙ sym k;
      as_next = x ∙ sym k;
      chains = omega (arith, h);
    }

-- the tables that values were numbered with are zeros again
pub unread_still : (n : ℕ) (order starts loads live phi spare order' spare' : List ℕ) → Unread n order starts loads live phi spare
    → length order' ≡ length order → order' ≡ replicate (length order') 0 → length spare' ≡ length spare → spare' ≡ replicate (length spare') 0
    → Unread n order' starts loads live phi spare'
unread_still n order starts loads live phi spare order' spare' u p o q x = record {
  no_order = again order order' order' 2048 u.no_order p o;
  no_starts = u.no_starts;
  no_loads = u.no_loads;
  no_live = u.no_live;
  no_phi = u.no_phi;
  no_spare = again spare spare' spare' n u.no_spare q x;
}

pub grounded : (f ks ns ns' : List ℕ) → Sound f → ks ≡ replicate (width f) 0 → ns ≡ replicate (width f) 0 → ns' ≡ numbered f (length ks) → length ns' ≡ length ns → Grounded f ns'
grounded f ks ns ns' s k n e p = record {
  sound = s;
  numbers = e ∙ ap (numbered f) (zeros_long ks (width f) k);
  long = p ∙ zeros_long ns (width f) n;
}

pub all_keys : (f ks ks' : List ℕ) → ks ≡ replicate (width f) 0 → ks' ≡ keyed f (length ks) → ks' ≡ keyed f (width f)
all_keys f ks ks' k e = e ∙ ap (keyed f) (zeros_long ks (width f) k)

module _ (f ns : List ℕ) (g : Grounded f ns) where
  few : (places_of f).total ≤ length ns
  few = omega (arith, g.long)

  are_numbers : ns ≡ numbered f (length ns)
  are_numbers = g.numbers ∙ ap (numbered f) (sym g.long)

  as_numbers : (l : List ℕ) → l ≡ replicate (width f) 0 → l ≡ replicate (length ns) 0
  as_numbers l e = zeros_of l (width f) (length ns) g.long e

  pub ground : Ground f ns (places_of f)
  ground = record { counts = g.sound.own; where_all = refl; room = few; values = are_numbers }

  as_keys : (ks : List ℕ) → ks ≡ keyed f (width f) → ks ≡ keyed f (length ns)
  as_keys ks e = e ∙ ap (keyed f) (sym g.long)

  -- ---- stack offsets
  pub unstacked : (ks os : List ℕ) → ks ≡ keyed f (width f) → os ≡ replicate (width f) 0
      → Ground f ns (places_of f) × ((ks ≡ keyed f (length ns)) × (os ≡ replicate (length ns) 0))
  unstacked ks os k o = (ground, (as_keys ks k, as_numbers os o))

  pub stacked : (r : Bool) (os : List ℕ)
      → ((E : Edition) → text E ≡ 8 → os ≡ table f (length ns) (look (offsets (read E f))))
      → ((E : Edition) (k : List Known) → text E ≡ 8 → os ≡ table f (length ns) (look k) → r ≡ refused7 k (all_trees E f)) → Stack f (width f) r os
  unfolding text edition1
  stacked r os o s = record {
    says = s edition1 (offsets (read edition1 f)) refl (o edition1 refl);
    offs = λ E p. o E p ∙ ap (λ (n : ℕ). table f n (look (offsets (read E f)))) g.long;
  }

  -- ---- reads
  pub unread : (order starts loads live phi readers : List ℕ) → Unread (width f) order starts loads live phi readers → Before f ns order starts loads live phi readers
  unread order starts loads live phi readers u =
      let a = zeros_long order 2048 u.no_order in
      let b = zeros_long starts 1025 u.no_starts in
      let d = zeros_long loads 2048 u.no_loads in
      record {
        own = g.sound.own;
        room = few;
        numbers = are_numbers;
        no_order = own_zeros order 2048 u.no_order;
        no_starts = own_zeros starts 1025 u.no_starts;
        no_loads = own_zeros loads 2048 u.no_loads;
        no_live = as_numbers live u.no_live;
        no_phi = as_numbers phi u.no_phi;
        no_readers = as_numbers readers u.no_spare;
        nodes = omega (arith, a, g.sound.nodes, g.sound.few_exprs);
        small = omega (arith, a);
        stmts = omega (arith, b, g.sound.few_stmts);
        exprs = omega (arith, d, g.sound.few_exprs);
      }

  pub read_so : (order starts loads live phi readers : List ℕ) → ReadAs f (length ns) order starts loads live phi readers → ReadAs f (width f) order starts loads live phi readers
  read_so order starts loads live phi readers r = subst (λ (n : ℕ). ReadAs f n order starts loads live phi readers) g.long r

  -- spare is written twice before it is emptied: h behind the readers, e behind the names
  pub counted : (order starts loads live phi spare a b d live' phi' h e order' starts' loads' spare' : List ℕ)
      → Unread (width f) order starts loads live phi spare → ReadAs f (length ns) a b d live' phi' h
      → length a ≡ length order → length b ≡ length starts → length d ≡ length loads → length e ≡ length spare
      → (order' ≡ replicate (length a) 0) × (starts' ≡ replicate (length b) 0) × (loads' ≡ replicate (length d) 0) × (spare' ≡ replicate (length e) 0)
      → Counted f (width f) order' starts' loads' live' phi' spare'
  counted order starts loads live phi spare a b d live' phi' h e order' starts' loads' spare' u r p q s t z =
      let w = read_so a b d live' phi' h r in
      record {
        no_order = again order a order' 2048 u.no_order p z.0;
        no_starts = again starts b starts' 1025 u.no_starts q z.1;
        no_loads = again loads d loads' 2048 u.no_loads s z.2;
        times = w.times;
        flows = w.flows;
        no_spare = again spare e spare' (width f) u.no_spare t z.3;
      }

  -- ---- variables and names
  pub shared : (ks order starts loads live phi readers : List ℕ) → ks ≡ keyed f (width f) → ReadAs f (width f) order starts loads live phi readers
      → Shared f ks ns loads live phi readers
  shared ks order starts loads live phi readers k r =
      let w : ReadAs f (length ns) order starts loads live phi readers = subst (λ (n : ℕ). ReadAs f n order starts loads live phi readers) (sym g.long) r in
      record {
        own = g.sound.own;
        room = few;
        few = omega (arith, g.long, g.sound.few_places);
        keys = as_keys ks k;
        numbers = are_numbers;
        loaded = w.loaded;
        times = w.times;
        flows = w.flows;
        last = w.last;
      }

  pub unplaced : (roots places names : List ℕ) → Unnamed (width f) roots places names → Unplaced (length ns) roots places
  unplaced roots places names u = record {
    as_roots = zeros_long roots (width f) u.no_roots ∙ sym g.long;
    no_places = as_numbers places u.no_places;
  }

  pub nameable : (roots places order starts : List ℕ) → Placed f (length ns) roots places → Ordered f (length order) (length starts) order starts
      → Nameable f ns roots places order starts
  nameable roots places order starts p o = record {
    own = g.sound.own;
    room = few;
    few = omega (arith, g.long, g.sound.few_places);
    numbers = are_numbers;
    variables = p;
    flat = o;
  }

  -- the last readers have a number for each place, and so has what is emptied of them
  readers_long : (readers : List ℕ) → readers ≡ table f (width f) (last_reader f) → length readers ≡ width f
  readers_long readers e = ap length e ∙ table_length f (width f) (last_reader f) ∙ keyed_length f (width f) g.sound.own (omega arith)

  pub nameless : (roots places names marks labels readers entry : List ℕ) → Unnamed (width f) roots places names → Unmarked (width f) marks labels
      → readers ≡ table f (width f) (last_reader f) → entry ≡ replicate (length readers) 0 → Nameless (length ns) names marks entry
  nameless roots places names marks labels readers entry u m r e = record {
    no_names = as_numbers names u.no_names;
    no_seen = as_numbers marks m.no_marks;
    no_entry = as_numbers entry (e ∙ ap (λ (n : ℕ). replicate n 0) (readers_long readers r));
  }

  pub rooted_so : (roots places : List ℕ) → Placed f (length ns) roots places → Placed f (width f) roots places
  rooted_so roots places r = subst (λ (n : ℕ). Placed f n roots places) g.long r

  named_so : (names seen entry : List ℕ) → Named f (length ns) names seen entry → Named f (width f) names seen entry
  named_so names seen entry r = subst (λ (n : ℕ). Named f n names seen entry) g.long r

  -- the scratch of naming is ready for the marks again
  pub unmarked_still : (marks labels names seen entry : List ℕ) → Unmarked (width f) marks labels → Named f (length ns) names seen entry → Unmarked (width f) seen labels
  unmarked_still marks labels names seen entry u r = record { no_marks = (named_so names seen entry r).cleared; no_labels = u.no_labels }

  pub called : (roots places names seen entry marks labels : List ℕ) → Placed f (length ns) roots places → Named f (length ns) names seen entry
      → Marked f (width f) marks labels → Called f (width f) roots places names marks labels × EntryRead f (width f) entry
  called roots places names seen entry marks labels p r m =
      let v = rooted_so roots places p in
      let w = named_so names seen entry r in
      (record { rooted = v.rooted; placed = v.placed; named = w.named; marked = m }, w.entered)

  -- ---- marks
  pub unmarked : (marks labels order starts : List ℕ) → Unmarked (width f) marks labels → Ordered f (length order) (length starts) order starts
      → Ground f ns (places_of f) × (Ordered f (length order) (length starts) order starts × (marks ≡ replicate (length ns) 0))
  unmarked marks labels order starts u o = (ground, (o, as_numbers marks u.no_marks))

  pub unlabelled : (marks labels : List ℕ) → Unmarked (width f) marks labels
      → ((owned f ≡ true) × (distinct (starts f) ≡ true)) × ((labels ≡ replicate (length labels) 0) × (size f blocks ≤ length labels))
  unlabelled marks labels u =
      let l = zeros_long labels 320 u.no_labels in
      let b : size f blocks ≤ length labels = omega (arith, l, g.sound.few_blocks) in
      ((g.sound.own, g.sound.apart), (own_zeros labels 320 u.no_labels, b))

  pub marked : (os roots marks labels marks' labels' : List ℕ) → Stacked f (width f) os → Rooted f (width f) roots → Unmarked (width f) marks labels → ReadRoots f 8 (length ns) os roots marks'
      → Labels f (length labels) labels' → Marked f (width f) marks' labels'
  marked os roots marks labels marks' labels' o r u m l =
      let m' : ReadRoots f 8 (width f) os roots marks' = subst (λ (n : ℕ). ReadRoots f 8 n os roots marks') g.long m in
      record {
        really = λ E p. m' E (offsets (read E f)) p (o E p) (r E);
        labelled = subst (λ (n : ℕ). Labels f n labels') (zeros_long labels 320 u.no_labels) l;
      }
