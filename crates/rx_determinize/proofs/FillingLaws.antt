-- What stays true of a table in which rows are written: where a row is added, and where a cell is set.
use Rattle.rx_spec.proofs.Prelude.{rules, common_steps, ◌≡◌, ◌≢◌, ℕ, ◌+◌, ◌*◌, ◌/◌, ◌<◌, ◌≤◌, Some, List, [], ◌∷◌}
use Rattle.rx_spec.proofs.Prelude.{◌++◌, length, map, get_or, length-append, length-set, refl, ap, sym, ◌∙◌, subst}
use Rattle.rx_spec.proofs.Prelude.{arith, ⊎_elim, map-append, cases_eq, slice_get_within, Bool, Option, IfSome}
use Rattle.rx_spec.proofs.Prelude.{if◌then◌else◌, slice_get, ◌⊎◌, Node, Running, next_node, built_entry, State}
use Rattle.rx_determinize.proofs.Prelude.{keying, Adds, AreRows, AreWritten, Grows, IsEntering, IsFilling, IsRowId}
use Rattle.rx_determinize.proofs.Prelude.{IsRowOf, IsWorking, IsWrittenOver, Keying, Layout, Met, Settled, Work}
use Rattle.rx_determinize.proofs.Prelude.{alphabet_len, column, column_within, entry_in, keys_in, machine_of, next_in}
use Rattle.rx_determinize.proofs.Prelude.{row_count, rows_set, states_of, stride, unit_of, with_next, with_row}
use Rattle.rx_determinize.proofs.ContinuesLaws.{continues_over, serves_later, started_over, written_over}
use Rattle.rx_determinize.proofs.RowIds.{row_id}
use Rattle.rx_determinize.proofs.WorkListLaws.{row_stays, old_key, slice_get-append, does}
use Rattle.rx_determinize.proofs.ColumnLaws.{unit_in, unit_column, same_column}
use Rattle.rx_determinize.proofs.CellLaws.{next_more, next_kept, next_set}

pub adds_over : {met after : Met} {l m : Layout} {key : List ℕ} {id : ℕ} → Adds met l key after m id → IsWrittenOver l m
adds_over {met} {after} {l} {m} adds = grind (arith, common_steps)

-- a state that is entered
pub grows_by : {met after : Met} {l m : Layout} {key : List ℕ} {id : ℕ} → AreRows l → Adds met l key after m id
    → Grows met l after m
grows_by {met} {after} {l} {m} {key} rows adds = at adds.interns.is_new adds.interns.keys adds.layout
  where
    at : (is_new : Bool) → after.keys ≡ (if is_new then met.keys ++ key ∷ [] else met.keys)
        → m ≡ (if is_new then with_row l else l) → Grows met l after m
    at is_new keys is_more = search (rules, machine_of, next_more, entry_in)

module _ (k : Keying) {met : Met} {l : Layout} {after : Met} {m : Layout} (grows : Grows met l after m) where
  -- a node's row
  pub row_kept : (node : Node) (row : ℕ) → IsRowOf (states_of k met) node row → IsRowOf (states_of k after) node row
  row_kept node row is_row =
      subst (λ (states : List State). IsRowOf states node row)
      (sym (ap (map k.state_of) grows.keys ∙ map-append k.state_of met.keys grows.more))
      (row_stays (states_of k met) (map k.state_of grows.more) node row is_row)

  pub written_kept : {settled : Settled} {set done : ℕ} → IsWorking k settled met l → IsWorking k settled after m
      → AreWritten k met l set done → AreWritten k after m set done
  written_kept {settled} {set} {done} before working old =
      let count = before.count in
      record {
        within = omega (arith, ap length grows.keys, length-append met.keys grows.more);
        list = record {
          reached = working.reached;
          steps = λ id key there lt unit is_unit.
              let in_old : id < length met.keys = omega arith in
              let was = old_key met.keys grows.more id key (subst (λ (ks : List (List ℕ)). slice_get ks id ≡ Some
              key) grows.keys there) in_old in
              subst (IsRowOf (states_of k after) (next_node k.build (Running (k.state_of key)) unit))
              (sym (grows.nexts (id + 2) unit (omega arith) is_unit))
              (row_kept (next_node k.build (Running (k.state_of key)) unit) (next_in l id unit)
              (old.list.steps id key was lt unit is_unit));
        };
        starts = λ mode start lt.
            subst (IsRowOf (states_of k after) (built_entry k.build mode start)) (sym (grows.entries mode start))
            (row_kept (built_entry k.build mode start) (entry_in l mode start) (old.starts mode start lt));
        dead_stays = λ unit is_unit. grows.nexts 0 unit (omega arith) is_unit ∙ old.dead_stays unit is_unit;
        quit_ends = λ unit is_unit. grows.nexts 1 unit (omega arith) is_unit ∙ old.quit_ends unit is_unit;
      }

  -- the cells that were ready
  pub filling_kept : {place : ℕ} {state : State} {ready before : ℕ → Type 0} → AreRows l
      → row_count l ≡ length met.keys + 2 → ((c : ℕ) → ready c → before c) → IsFilling k met l place state before
      → IsFilling k after m place state ready
  filling_kept {place} {state} rows count back old = record {
    key = old.key;
    here =
        subst (λ (ks : List (List ℕ)). slice_get ks place ≡ Some old.key) (sym grows.keys)
        (slice_get-append met.keys grows.more place old.key old.here);
    stands = old.stands;
    cells = λ c low is_ready.
        let low_in : c < alphabet_len l.classes = subst (λ (cs : List ℕ). c < alphabet_len cs) grows.classes low in
        let unit = unit_of l.classes c in
        let there = slice_get_within met.keys place old.key old.here in
        let node = next_node k.build (Running state) unit in
        subst (λ (classes : List ℕ). IsRowOf (states_of k after) (next_node k.build (Running state) (unit_of classes c))
        ((machine_of m).next (place + 2) (unit_of classes c))) (sym grows.classes)
        (subst (IsRowOf (states_of k after) node)
        (sym (grows.nexts (place + 2) unit (omega arith) (unit_in l rows.classes c low_in)))
        (row_kept node ((machine_of l).next (place + 2) unit) (old.cells c low_in (back c is_ready))));
  }

-- ---- a row that is written

-- a limit that isn't passed by an equal size
limit_kept : (limit : Option ℕ) {size bytes : ℕ} → IfSome limit (λ most. size ≤ most) → bytes ≡ size
    → IfSome limit (λ most. bytes ≤ most)
limit_kept limit within same = subst (λ n. IfSome limit (λ most. n ≤ most)) (sym same) within

-- Words of the row of a place were written, and nothing else.
pub record IsRewritten (l : Layout) (place : ℕ) (m : Layout) : Type 0 where
  pub over : IsWrittenOver l m
  pub rows : AreRows m
  pub count : length m.words ≡ length l.words
  pub others : (row unit : ℕ) → row < row_count l → unit < 257 → (row ≡ place + 2 → ⊥)
      → (machine_of m).next row unit ≡ (machine_of l).next row unit

module _ {l : Layout} {place : ℕ} {m : Layout} (is : IsRewritten l place m) where
  pub written_beside : {k : Keying} {met : Met} {set done : ℕ} → done ≤ place → place < length met.keys
      → row_count l ≡ length met.keys + 2 → AreWritten k met l set done → AreWritten k met m set done
  written_beside {k} {met} before place_in count old = record {
    within = old.within;
    list = record {
      reached = old.list.reached;
      steps = λ id key there lt unit is_unit.
          subst (IsRowOf (states_of k met) (next_node k.build (Running (k.state_of key)) unit))
          (sym (is.others (id + 2) unit (omega arith) is_unit
          (λ e. absurd (omega arith)))) (old.list.steps id key there lt unit is_unit);
    };
    starts = λ mode start lt.
        subst (IsRowOf (states_of k met) (built_entry k.build mode start))
        (sym (ap (λ (n : Layout). entry_in n mode start) is.over)) (old.starts mode start lt);
    dead_stays = λ unit is_unit.
        is.others 0 unit (omega arith) is_unit (λ e. absurd (omega arith)) ∙ old.dead_stays unit is_unit;
    quit_ends = λ unit is_unit.
        is.others 1 unit (omega arith) is_unit (λ e. absurd (omega arith)) ∙ old.quit_ends unit is_unit;
  }

  working_beside : {k : Keying} {settled : Settled} {met : Met} → IsWorking k settled met l
      → IsWorking k settled met m
  working_beside {k} {settled} {met} w = subst (IsWorking k settled met) (sym is.over) over
    where
      over : IsWorking k settled met (record l { words = m.words })
      over = record {
        bare = record { slices = w.bare.slices; pattern_ids = w.bare.pattern_ids; accels = w.bare.accels };
        count = ap (λ n. n / stride l) is.count ∙ w.count;
        distinct = w.distinct;
        are_keys = w.are_keys;
        reached = w.reached;
        size = w.size;
        patterns = w.patterns;
        few_patterns = w.few_patterns;
        table = λ some.
            limit_kept settled.dfa_size_limit (w.table some) (ap (λ n. 4 * (n + length l.starts + 1)) is.count);
        construction = w.construction;
      }

  -- the rows that are written are those before it
  pub entering_beside : {w : Work} {set : ℕ} → place < length w.met.keys → IsEntering w l set place
      → IsEntering w m set place
  entering_beside {w} {set} place_in old =
      let same : keys_in w m ≡ keys_in w l = ap (keying w.stepping) is.over in
      record {
        serves =
            serves_later (continues_over w (started_over is.over)) old.serves is.rows
            (subst (λ (k : Keying). IsWorking k w.settled w.met m) (sym same) (working_beside old.serves.working));
        written =
            subst (λ (k : Keying). AreWritten k w.met m set place) (sym same)
            (written_beside (omega arith) place_in old.serves.working.count old.written);
      }

-- ---- a cell that is set

-- the row of a place and the unit of a column lead to another row
pub record IsSet (l : Layout) (place unit id : ℕ) (m : Layout) : Type 0 where
  pub rows : AreRows l
  pub place_in : place + 2 < row_count l
  pub is_unit : unit < 257
  pub is_id : IsRowId l id
  pub is : m ≡ with_next l ((place + 2) * stride l) unit id

module _ {l : Layout} {place unit id : ℕ} {m : Layout} (set : IsSet l place unit id m) where
  -- other cells lead where they led
  others_kept : (row other : ℕ) → other < 257 → (row ≡ place + 2 → column l other ≢ column l unit)
      → (machine_of m).next row other ≡ (machine_of l).next row other
  others_kept row other is_other apart =
      ap (λ (n : Layout). (machine_of n).next row other) set.is
      ∙ next_kept l set.rows (place + 2) unit id set.place_in set.is_unit row other is_other apart

  pub rewritten : IsRewritten l place m
  rewritten =
      let row = (place + 2) * stride l in
      record {
        over = written_over l m _ set.is;
        rows =
            subst AreRows (sym set.is)
            (rows_set l (with_next l row unit id) row (column l unit) id refl refl refl
            (row_id l (place + 2) set.rows set.place_in) (column_within l set.rows.classes unit set.is_unit) set.is_id
            set.rows);
        count = ap (λ (n : Layout). length n.words) set.is ∙ length-set l.words (row + column l unit) id;
        others = λ other_row other is_row is_other apart.
            others_kept other_row other is_other (λ e. absurd (apart e));
      }

  -- the column that was set is ready
  pub filling_set : {k : Keying} {met : Met} {state : State} {at : ℕ} {ready before : ℕ → Type 0}
      → at < alphabet_len l.classes → unit_of l.classes at ≡ unit → ((c : ℕ) → ready c → (c ≡ at) ⊎ before c)
      → IsRowOf (states_of k met) (next_node k.build (Running state) unit) (id / stride l)
      → IsFilling k met l place state before → IsFilling k met m place state ready
  filling_set {k} {met} {state} {at} {ready} {before} at_in unit_is split is_row old = record {
    key = old.key;
    here = old.here;
    stands = old.stands;
    cells = λ c low is_ready.
        let low_in : c < alphabet_len l.classes =
        subst (λ (cs : List ℕ). c < alphabet_len cs) (ap (λ (n : Layout). n.classes) set.is) low in
        subst (λ (classes : List ℕ). IsRowOf (states_of k met) (next_node k.build (Running state) (unit_of classes c))
        ((machine_of m).next (place + 2) (unit_of classes c))) (sym (ap (λ (n : Layout). n.classes) set.is))
        (⊎_elim (λ (e : c ≡ at). here c e)
        (λ (ne : c ≡ at → ⊥).
        there c low_in ne (⊎_elim (λ (e : c ≡ at). absurd (ne e)) (λ (b : before c). b) (split c is_ready)))
        (cases_eq c at));
  }
    where
      there : (c : ℕ) → c < alphabet_len l.classes → (c ≡ at → ⊥) → before c
          → IsRowOf (states_of k met) (next_node k.build (Running state) (unit_of l.classes c))
          ((machine_of m).next (place + 2) (unit_of l.classes c))
      there c low ne was =
          let mine = unit_column l set.rows.classes c low in
          let its = unit_column l set.rows.classes at at_in in
          subst (IsRowOf (states_of k met) (next_node k.build (Running state) (unit_of l.classes c)))
          (sym (others_kept (place + 2) (unit_of l.classes c) (unit_in l set.rows.classes c low)
          (λ e same. absurd (ne (sym mine ∙ same ∙ ap (column l) (sym unit_is) ∙ its)))))
          (old.cells c low was)

      here : (c : ℕ) → c ≡ at
          → IsRowOf (states_of k met) (next_node k.build (Running state) (unit_of l.classes c))
          ((machine_of m).next (place + 2) (unit_of l.classes c))
      here c is_at =
          let unit_at : unit_of l.classes c ≡ unit = ap (unit_of l.classes) is_at ∙ unit_is in
          let led : (machine_of m).next (place + 2) unit ≡ id / stride l =
          ap (λ (n : Layout). (machine_of n).next (place + 2) unit) set.is
          ∙ next_set l set.rows (place + 2) unit id set.place_in set.is_unit unit refl in
          subst (λ u. IsRowOf (states_of k met) (next_node k.build (Running state) u) ((machine_of m).next (place +
          2) u))
          (sym unit_at)
          (subst (IsRowOf (states_of k met) (next_node k.build (Running state) unit)) (sym led) is_row)

-- A state whose row is ready in each column is done.
pub filled : {w : Work} {l : Layout} {set place : ℕ} {state : State} {ready : ℕ → Type 0} → IsEntering w l set place
    → ((c : ℕ) → c < alphabet_len l.classes → ready c) → IsFilling (keys_in w l) w.met l place state ready
    → IsEntering w l set (place + 1)
filled {w} {l} {set} {place} {state} {ready} old all row =
    let there = slice_get_within w.met.keys place row.key row.here in
    record {
      serves = old.serves;
      written = record {
        within = omega arith;
        list = does old.written.list row.here known;
        starts = old.written.starts;
        dead_stays = old.written.dead_stays;
        quit_ends = old.written.quit_ends;
      };
    }
  where
    known : (unit : ℕ) → unit < 257
        → IsRowOf (states_of (keys_in w l) w.met)
        (next_node (keys_in w l).build (Running (w.stepping.state_of row.key)) unit) (next_in l place unit)
    known unit is_unit =
        let k = keys_in w l in
        let s = old.serves in
        let c = column l unit in
        let other = unit_of l.classes c in
        let within : c < alphabet_len l.classes = column_within l s.rows.classes unit is_unit in
        let other_in = unit_in l s.rows.classes c within in
        let same : column l other ≡ column l unit = unit_column l s.rows.classes c within in
        let node : next_node k.build (Running state) other ≡ next_node k.build (Running (k.state_of row.key)) unit =
        same_column l k.build s.byte_classes s.are_classes (Running state) other unit other_in is_unit same
        ∙ ap (λ (s : State). next_node k.build (Running s) unit) (sym row.stands) in
        let led : next_in l place other ≡ next_in l place unit =
        ap (λ n. get_or l.words ((place + 2) * stride l + n) 0 / stride l) same in
        subst (λ (n : Node). IsRowOf (states_of k w.met) n (next_in l place unit)) node
        (subst (IsRowOf (states_of k w.met) (next_node k.build (Running state) other)) led
        (row.cells c within (all c within)))
