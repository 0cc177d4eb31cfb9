-- Each step's record opens to what its callees ask, and their answers together are the record that it leaves.
use mathlib.Core.Path.{◌≡◌, sym, ap, subst, ◌∙◌}
use mathlib.Core.List.{List}
use Prim.Native.Nat.{ℕ, ◌≤◌, ◌<◌}
use native.Mathlib.Omega.{arith}
use lib.ListN.{length, replicate}
use Rattle.definition.specs.Edition.{Edition}
use Rattle.definition.specs.Read.{read}
use Rattle.definition.specs.Classes.{find, classes}
use Rattle.definition.proofs.ListLaws.{own_zeros}
use Rattle.places.specs.Keys.{key_of, keyed}
use Rattle.values.specs.Tables.{number_of, numbered, table}
use Rattle.values.specs.Chains.{Emptied}
use Rattle.values.proofs.Tables.{numbered_from}
use Rattle.classes.specs.Given.{Given}
use Rattle.uses.specs.Orders.{Ordered, Ready}
use Rattle.reads.specs.Counts.{last_reader, LiveReads, PhiReads, Numbers, Runs}
use Rattle.uses.specs.Loads.{Loads}
use Rattle.reads.proofs.Visits.{ordered_runs}
use Rattle.inline.specs.Placing.{place_of, Told}
use Rattle.inline.proofs.Forgetting.{in_place_lem}
use Rattle.names.specs.Given.{Numbered, EntryRead}
use Rattle.naming.specs.Given.{NamesAll}
use Rattle.analyses.specs.Tables.{Unnumbered, Valued, Before, ReadAs, Shared, Placed, Nameable, Named}

-- ---- numbers of values
pub chains_fit : (f ks ns heads next after : List ℕ) → Unnumbered f ks ns heads next → length after ≡ length ks
    → (length ns ≡ length after) × (length after ≤ length next) × (length after < 4294967296) × (0 < length heads)
chains_fit f ks ns heads next after u e = (u.as_numbers ∙ sym e, omega (arith, u.as_next), omega (arith, u.few), u.chains)

pub all_valued : (f : List ℕ) (n h k : ℕ) (ks ns heads next : List ℕ) → ks ≡ keyed f n → Emptied ks ns heads next h k → Valued f n ks ns heads next
all_valued f n h k ks ns heads next p e = record {
  keys = p;
  numbers = numbered_from f n ks ns p e.numbers;
  no_heads = own_zeros heads h e.no_heads;
  no_next = own_zeros next k e.no_next;
}

-- ---- reads
module _ (f ns order starts loads live phi readers : List ℕ) (b : Before f ns order starts loads live phi readers) where
  pub ready : Ready f order starts
  ready = record { own = b.own; clear = b.no_order; cleared = b.no_starts; room = b.nodes; small = b.small; long = b.stmts }

  pub by_numbers : (tab : List ℕ) → tab ≡ replicate (length ns) 0 → Numbers f ns tab
  by_numbers tab z = record { own = b.own; are = b.numbers; room = b.room; clear = z }

  module _ (order' starts' : List ℕ) (o : Ordered f (length order) (length starts) order' starts') (p : length order' ≡ length order) (q : length starts' ≡ length starts) where
    pub runs : Runs f order' starts'
    runs = ordered_runs f order starts order' starts' o p q b.stmts

    pub all_read : (loads' live' phi' readers' : List ℕ) → Loads f (length loads) loads' → length loads' ≡ length loads
        → LiveReads f (length ns) live' → PhiReads f (length ns) phi' → readers' ≡ table f (length ns) (last_reader f)
        → ReadAs f (length ns) order' starts' loads' live' phi' readers'
    all_read loads' live' phi' readers' l e t w r = record {
      flat = record { nodes = runs.nodes; begins = runs.begins };
      loaded = subst (λ (k : ℕ). Loads f k loads') (sym e) l;
      times = t;
      flows = w;
      last = r;
    }

-- ---- variables
module _ (f ks ns loads live phi readers : List ℕ) (s : Shared f ks ns loads live phi readers) where
  pub for_classes : (n : ℕ) → n ≡ length ns → Given f ks ns n
  for_classes n e = record {
    whole = s.own;
    keys = s.keys ∙ ap (keyed f) (sym e);
    numbers = s.numbers ∙ ap (numbered f) (sym e);
    room = omega (arith, s.room);
    few = omega (arith, s.few);
  }

  pub for_inline : Told f ns live phi readers loads
  for_inline = record {
    own = s.own;
    room = s.room;
    number = s.numbers;
    times = s.times;
    flows = s.flows;
    reader = s.last;
    loaded = s.loaded;
  }

pub all_placed_lem : (f : List ℕ) (m n : ℕ) (roots places : List ℕ) → m ≡ n
    → ((E : Edition) → roots ≡ table f m (λ v. number_of (keyed f m) (key_of (find (classes (read E f)) v))))
    → ((E : Edition) → places ≡ table f n (place_of E f)) → Placed f n roots places
all_placed_lem f m n roots places e r p = record {
  rooted = λ E. r E ∙ ap (λ (k : ℕ). table f k (λ v. number_of (keyed f k) (key_of (find (classes (read E f)) v)))) e;
  placed = p;
}

-- ---- names
module _ (f ns roots places order starts : List ℕ) (s : Nameable f ns roots places order starts) where
  pub for_names : Numbered f ns
  for_names = record { own = s.own; are = s.numbers; room = s.room }

  pub all_named : (names seen entry : List ℕ) → EntryRead f (length ns) entry → NamesAll f (length ns) roots places entry names seen
      → Named f (length ns) names seen entry
  all_named names seen entry t a =
      let p = s.variables in
      record {
        named = λ E. a.says E (place_of E f) (record { rooted = p.rooted E; placed = p.placed E; away = in_place_lem E f; entered = t.says E });
        cleared = a.cleared;
        entered = t;
      }
