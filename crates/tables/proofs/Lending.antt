-- Of tables of zeros the fronts are lent: they are tables of zeros of that length, and what comes back, with the untouched rest behind it, is tables of
-- zeros or tables of the file again.
use mathlib.Core.Path.{◌≡◌, ap₂, ◌∙◌}
use mathlib.Core.Bool.{true}
use mathlib.Core.List.{List, ◌++◌}
use Prim.Native.Nat.{ℕ, ◌-◌, ◌≤◌}
use lib.ListN.{get_or, take, drop, replicate}
use mir.Syntax.{w8}
use mir.Val.{Fits}
use Rattle.definition.specs.Shape.{owned}
use Rattle.places.specs.Keys.{places_of}
use Rattle.tables.specs.Tables.{Tables, tables_of}
use Rattle.tables.specs.Stages.{Blank, Staged}
use Rattle.tables.proofs.Fronts.{front_zeros, rest_zeros, back_zeros, numbered_front, table_front, roots_front}

-- the first n numbers of each table by place
abbrev pub fronts : ℕ → Tables → Tables
fronts n T =
    tables_of (take n T.keys) (take n T.numbers) (take n T.spare) (take n T.offs) T.order T.starts T.loads (take n T.live) (take n T.phi) (take n T.roots) (take n T.places) (take n T.names) (take n T.marks) T.labels

-- the tables T with the fronts U
abbrev pub widened : ℕ → Tables → Tables → Tables
widened n T U =
    tables_of (U.keys ++ drop n T.keys) (U.numbers ++ drop n T.numbers) (U.spare ++ drop n T.spare) (U.offs ++ drop n T.offs) U.order U.starts U.loads (U.live ++ drop n T.live) (U.phi ++ drop n T.phi) (U.roots ++ drop n T.roots) (U.places ++ drop n T.places) (U.names ++ drop n T.names) (U.marks ++ drop n T.marks) U.labels

module _ (n m : ℕ) (h : n ≤ m) (T : Tables) (b : Blank m T) where
  pub lent_blank : Blank n (fronts n T)
  lent_blank = record {
    unvalued = record {
      no_keys = front_zeros n m h T.keys b.unvalued.no_keys;
      no_numbers = front_zeros n m h T.numbers b.unvalued.no_numbers;
      no_offs = front_zeros n m h T.offs b.unvalued.no_offs;
    };
    unread = record {
      no_order = b.unread.no_order;
      no_starts = b.unread.no_starts;
      no_loads = b.unread.no_loads;
      no_live = front_zeros n m h T.live b.unread.no_live;
      no_phi = front_zeros n m h T.phi b.unread.no_phi;
      no_spare = front_zeros n m h T.spare b.unread.no_spare;
    };
    unnamed = record {
      no_roots = front_zeros n m h T.roots b.unnamed.no_roots;
      no_places = front_zeros n m h T.places b.unnamed.no_places;
      no_names = front_zeros n m h T.names b.unnamed.no_names;
    };
    unmarked = record {
      no_marks = front_zeros n m h T.marks b.unmarked.no_marks;
      no_labels = b.unmarked.no_labels;
    };
  }

  module _ (U : Tables) where
    pub still_blank : Blank n U → Blank m (widened n T U)
    still_blank u = record {
      unvalued = record {
        no_keys = back_zeros n m h T.keys b.unvalued.no_keys U.keys u.unvalued.no_keys;
        no_numbers = back_zeros n m h T.numbers b.unvalued.no_numbers U.numbers u.unvalued.no_numbers;
        no_offs = back_zeros n m h T.offs b.unvalued.no_offs U.offs u.unvalued.no_offs;
      };
      unread = record {
        no_order = u.unread.no_order;
        no_starts = u.unread.no_starts;
        no_loads = u.unread.no_loads;
        no_live = back_zeros n m h T.live b.unread.no_live U.live u.unread.no_live;
        no_phi = back_zeros n m h T.phi b.unread.no_phi U.phi u.unread.no_phi;
        no_spare = back_zeros n m h T.spare b.unread.no_spare U.spare u.unread.no_spare;
      };
      unnamed = record {
        no_roots = back_zeros n m h T.roots b.unnamed.no_roots U.roots u.unnamed.no_roots;
        no_places = back_zeros n m h T.places b.unnamed.no_places U.places u.unnamed.no_places;
        no_names = back_zeros n m h T.names b.unnamed.no_names U.names u.unnamed.no_names;
      };
      unmarked = record {
        no_marks = back_zeros n m h T.marks b.unmarked.no_marks U.marks u.unmarked.no_marks;
        no_labels = u.unmarked.no_labels;
      };
    }

    -- a front x that goes on with zeros as t
    goes_on : (l x y t : List ℕ) → l ≡ replicate m 0 → x ≡ y → (y ++ replicate (m - n) 0) ≡ t → (x ++ drop n l) ≡ t
    goes_on l x y t e p q = ap₂ (λ (a c : List ℕ). a ++ c) p (rest_zeros n m h l e) ∙ q

    pub still_staged : (f : List ℕ) → ((j : ℕ) → Fits w8 (get_or f j 0)) → owned f ≡ true → (places_of f).total ≤ n → Staged f n U → Staged f m (widened n T U)
    still_staged f bytes own room s = record {
      no_keys = back_zeros n m h T.keys b.unvalued.no_keys U.keys s.no_keys;
      numbers = goes_on T.numbers U.numbers _ _ b.unvalued.no_numbers s.numbers (numbered_front f own n m room h);
      stacked = λ E p. goes_on T.offs U.offs _ _ b.unvalued.no_offs (s.stacked E p) (table_front f own n m room h _);
      counted = record {
        no_order = s.counted.no_order;
        no_starts = s.counted.no_starts;
        no_loads = s.counted.no_loads;
        times = λ E. goes_on T.live U.live _ _ b.unread.no_live (s.counted.times E) (table_front f own n m room h _);
        flows = λ E. goes_on T.phi U.phi _ _ b.unread.no_phi (s.counted.flows E) (table_front f own n m room h _);
        no_spare = back_zeros n m h T.spare b.unread.no_spare U.spare s.counted.no_spare;
      };
      called = record {
        rooted = λ E. goes_on T.roots U.roots _ _ b.unnamed.no_roots (s.called.rooted E) (roots_front f own n m room h bytes E);
        placed = λ E. goes_on T.places U.places _ _ b.unnamed.no_places (s.called.placed E) (table_front f own n m room h _);
        named = λ E. goes_on T.names U.names _ _ b.unnamed.no_names (s.called.named E) (table_front f own n m room h _);
        marked = record {
          really = λ E p. goes_on T.marks U.marks _ _ b.unmarked.no_marks (s.called.marked.really E p) (table_front f own n m room h _);
          labelled = s.called.marked.labelled;
        };
      };
    }
