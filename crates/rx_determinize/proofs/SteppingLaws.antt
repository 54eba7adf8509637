-- A state that is stepped column by column: what is kept where states are entered, and where a cell is set.
use Rattle.rx_spec.proofs.Prelude.{common_steps, ◌≡◌, ℕ, ◌+◌, ◌*◌, ◌/◌, ◌<◌, ◌≤◌, true, false, Option, Some, None, List}
use Rattle.rx_spec.proofs.Prelude.{[], length, refl, ap, sym, ◌∙◌, subst, arith, inl, inr, ◌⊎◌, ⊎_elim, cases_lt}
use Rattle.rx_spec.proofs.Prelude.{All-get_or, get_or_from_slice_get, slice_get_within, IfSome, slice_get, Node, Quit}
use Rattle.rx_spec.proofs.Prelude.{Running, IsReached, next_node, contains}
use Rattle.rx_determinize.proofs.Prelude.{keying, AreWritten, FindsRow, IsAlone, IsAnother, IsEntering, IsFilling}
use Rattle.rx_determinize.proofs.Prelude.{IsReady, IsRowId, IsRowOf, IsStepped, IsStepping, IsWorking, IsWrittenOver}
use Rattle.rx_determinize.proofs.Prelude.{Keying, Layout, Met, Stepping, Work, alphabet_len, begun_at, column, keys_in}
use Rattle.rx_determinize.proofs.Prelude.{next_column, nodes, none_stepped, row_count, states_of, stepped, stride}
use Rattle.rx_determinize.proofs.Prelude.{unit_of, with_next}
use Rattle.rx_determinize.specs.declared.construction.Last.{Last}
use Rattle.rx_determinize.specs.declared.construction.Progress.{Progress}
use Rattle.rx_determinize.proofs.ColumnLaws.{unit_in}
use Rattle.rx_determinize.proofs.ContinuesLaws.{continues_other, same_keys, serves_later, written_over}
use Rattle.rx_determinize.proofs.NextLaws.{leads_on}
use Rattle.rx_determinize.proofs.RowIds.{row_of_id}
use Rattle.rx_determinize.proofs.FillingLaws.{IsSet, entering_beside, filling_kept, filling_set, rewritten}
use Rattle.rx_determinize.proofs.FillingLaws.{written_kept}

-- ---- columns that are ready

ready_next : (s : Stepping) (l m : Layout) (at : Progress) → IsWrittenOver l m → (c : ℕ)
    → IsReady s m (next_column at) c → (c ≡ at.column) ⊎ IsReady s l at c
ready_next s l m at over c (inl passed) = grind (arith, common_steps)
ready_next s l m at over c (inr alone) =
    let stays = subst (λ (n : Layout). contains n.quit (unit_of n.classes c) ≡ false) over alone.1 in
    inr (inr (alone.0, stays, alone.2))

-- ---- a state that is stepped

-- a column leads to a row
pub record IsLed (w : Work) (l : Layout) (at : Progress) (id : ℕ) (m : Layout) : Type 0 where
  pub column_in : at.column < alphabet_len l.classes
  pub is_row : IsRowOf (states_of (keys_in w l) w.met)
      (next_node (keys_in w l).build (Running w.stepping.current) (unit_of l.classes at.column)) (id / stride l)
  pub is_id : IsRowId l id
  pub is : m ≡ with_next l ((at.place + 2) * stride l) (unit_of l.classes at.column) id

module _ {w : Work} {l : Layout} {at : Progress} {last : Last} (stepping : IsStepping w l at last) where
  place_in : at.place < length w.met.keys
  place_in = slice_get_within w.met.keys at.place stepping.filling.key stepping.filling.here

  pub place_row : at.place + 2 < row_count l
  place_row = let count = stepping.entering.serves.working.count in omega (arith, place_in)

  pub current_reached : IsReached (keys_in w l).build w.stepping.current
  current_reached =
      let b = (keys_in w l).build in
      let state_of = w.stepping.state_of in
      let key = stepping.filling.key in
      let reached : IsReached b (state_of key) =
      subst (λ (k : List ℕ). IsReached b (state_of k))
      (get_or_from_slice_get w.met.keys at.place key [] stepping.filling.here)
      (All-get_or (λ k. IsReached b (state_of k)) w.met.keys at.place [] place_in
      stepping.entering.serves.working.reached) in
      subst (IsReached b) stepping.filling.stands reached

  module _ {id : ℕ} {m : Layout} (led : IsLed w l at id m) where
    is_set : IsSet l at.place (unit_of l.classes at.column) id m
    is_set =
        let rows = stepping.entering.serves.rows in
        record {
          rows = rows;
          place_in = place_row;
          is_unit = unit_in l rows.classes at.column led.column_in;
          is_id = led.is_id;
          is = led.is;
        }

    stepped_kept : (c n : ℕ) → IsStepped w l c n → IsStepped w m c n
    stepped_kept c n was = grind (arith, common_steps)

    -- the column is written
    pub written : (other : Last) → IfSome other.column (λ c. IsStepped w l c other.id)
        → IsStepping w m (next_column at) other
    written other was =
        let over = written_over l m _ led.is in
        let same : keys_in w m ≡ keys_in w l = ap (keying w.stepping) led.is in
        record {
          entering =
              subst (λ n. IsEntering w m n at.place) (sym (ap (λ (k : Layout). length k.starts) led.is))
              (entering_beside (rewritten is_set) place_in stepping.entering);
          filling =
              subst (λ (k : Keying). IsFilling k w.met m at.place w.stepping.current
              (IsReady w.stepping m (next_column at))) (sym same)
              (filling_set is_set led.column_in refl (ready_next w.stepping l m at over) led.is_row stepping.filling);
          stepped_last = kept other.column was;
        }
      where
        kept : (column : Option ℕ) → IfSome column (λ c. IsStepped w l c other.id)
            → IfSome column (λ c. IsStepped w m c other.id)
        kept None h = tt
        kept (Some c) h = stepped_kept c other.id h

  -- columns that were ready are passed
  pub passed_to : (column : ℕ)
      → ((c : ℕ) → at.column ≤ c → c < column → (at.copied ≡ true)
      × (contains l.quit (unit_of l.classes c) ≡ false) × IsAlone w.stepping c)
      → IsStepping w l (record { place = at.place; column = column; copied = at.copied }) last
  passed_to column ready = record {
    entering = stepping.entering;
    filling = record {
      key = stepping.filling.key;
      here = stepping.filling.here;
      stands = stepping.filling.stands;
      cells = λ c low is_ready. stepping.filling.cells c low (back c is_ready);
    };
    stepped_last = stepping.stepped_last;
  }
    where
      back : (c : ℕ) → IsReady w.stepping l (record { place = at.place; column = column; copied = at.copied }) c
          → IsReady w.stepping l at c
      back c (inl below) =
          ⊎_elim (λ (less : c < at.column). inl less) (λ (past : at.column ≤ c). inr (ready c past below))
          (cases_lt c at.column)
      back c (inr alone) = inr alone

-- ---- where a column leads

-- to quit
pub quit_led : {w : Work} {l m : Layout} {at : Progress} {last : Last} {id : ℕ} → IsStepping w l at last
    → at.column < alphabet_len l.classes → contains l.quit (unit_of l.classes at.column) ≡ true
    → id ≡ 1 * stride l → IsRowId l id
    → m ≡ with_next l ((at.place + 2) * stride l) (unit_of l.classes at.column) id → IsLed w l at id m
quit_led {w} {l} {m} {at} {last} {id} stepping within quits id_is is_id is = record {
  column_in = within;
  is_row =
      let b = (keys_in w l).build in
      let states = states_of (keys_in w l) w.met in
      let unit = unit_of l.classes at.column in
      let alive = (current_reached stepping).alive in
      let node : next_node b (Running w.stepping.current) unit ≡ Quit = rw (alive, quits) refl in
      let row : id / stride l ≡ 1 = ap (λ n. n / stride l) id_is ∙ row_of_id l 1 in
      subst (λ (n : Node). IsRowOf states n (id / stride l)) (sym node) (ap (slice_get (nodes states)) row);
  is_id = is_id;
  is = is;
}

-- to the state that is stepped to
pub state_led : {w : Work} {l m : Layout} {at : Progress} {last : Last} {id : ℕ} → IsStepping w l at last
    → contains l.quit (unit_of l.classes at.column) ≡ false → IsStepped w l at.column id
    → m ≡ with_next l ((at.place + 2) * stride l) (unit_of l.classes at.column) id → IsLed w l at id m
state_led {w} {l} {m} {at} {last} {id} stepping stays led is =
    let serves = stepping.entering.serves in
    record {
      column_in = led.column_in;
      is_row =
          subst (λ (n : Node). IsRowOf (states_of (keys_in w l) w.met) n (id / stride l))
          (sym (leads_on w.stepping l serves.rows serves.classes (current_reached stepping) at.column led.column_in
          stays)) led.is_row;
      is_id = led.is_id;
      is = is;
    }

-- ---- the row of the state that is stepped to was found

module _ {w : Work} {l : Layout} {at : Progress} {last : Last} (stepping : IsStepping w l at last) {after : Met}
    {m : Layout} {id : ℕ}
    (found : FindsRow w l (Running (stepped w.stepping at.column)) (record w { met = after }) m id) where
  same_build : keys_in w m ≡ keys_in w l
  same_build = ap (keying w.stepping) found.over

  -- the state under way has its row still
  grown : IsStepping (record w { met = after }) m at none_stepped
  grown =
      let old = stepping.entering in
      record {
        entering = record {
          serves = found.serves;
          written =
              subst (λ (k : Keying). AreWritten k after m (length m.starts) at.place) (sym same_build)
              (subst (λ n. AreWritten (keys_in w l) after m n at.place)
              (sym (ap (λ (k : Layout). length k.starts) found.over))
              (written_kept (keys_in w l) found.grows old.serves.working
              (subst (λ (k : Keying). IsWorking k w.settled after m) same_build found.serves.working) old.written));
        };
        filling =
            subst (λ (k : Keying). IsFilling k after m at.place w.stepping.current (IsReady w.stepping m at))
            (sym same_build)
            (filling_kept (keys_in w l) found.grows old.serves.rows old.serves.working.count
            (λ c ready. subst (λ (n : Layout). IsReady w.stepping n at c) found.over ready) stepping.filling);
        stepped_last = tt;
      }

  pub found_row : at.place + 2 < row_count m
  found_row = place_row grown

  -- the column is written, and was stepped last
  stepped_to : (n : Layout) → at.column < alphabet_len l.classes
      → contains l.quit (unit_of l.classes at.column) ≡ false
      → n ≡ with_next m ((at.place + 2) * stride m) (unit_of l.classes at.column) id
      → IsStepping (record w { met = after }) n (next_column at) (record { column = Some at.column; id = id })
  stepped_to n within stays is =
      let same : m.classes ≡ l.classes = ap (λ (k : Layout). k.classes) found.over in
      let goes_on : contains m.quit (unit_of m.classes at.column) ≡ false =
      subst (λ (k : Layout). contains k.quit (unit_of k.classes at.column) ≡ false) (sym found.over) stays in
      let led : IsStepped (record w { met = after }) m at.column id = record {
        column_in = subst (λ (cs : List ℕ). at.column < alphabet_len cs) (sym same) within;
        is_row = found.is_row;
        is_id = found.is_id;
      } in
      written grown
      (state_led grown goes_on led
      (is ∙ ap (λ (cs : List ℕ). with_next m ((at.place + 2) * stride m) (unit_of cs at.column) id) (sym same)))
      (record { column = Some at.column; id = id }) led

-- the same for what is carried by then
module _ {w v : Work} {l : Layout} {at : Progress} {last : Last} (stepping : IsStepping w l at last) {m : Layout}
    {id : ℕ} (found : FindsRow w l (Running (stepped w.stepping at.column)) v m id) where
  pub found_with : FindsRow w l (Running (stepped w.stepping at.column)) (record w { met = v.met }) m id
  found_with = grind (arith, common_steps)

  pub stepped_on : (n : Layout) → at.column < alphabet_len l.classes
      → contains l.quit (unit_of l.classes at.column) ≡ false
      → n ≡ with_next m ((at.place + 2) * stride m) (unit_of l.classes at.column) id
      → IsStepping v n (next_column at) (record { column = Some at.column; id = id })
  stepped_on n within stays is =
      subst (λ (u : Work). IsStepping u n (next_column at) (record { column = Some at.column; id = id }))
      (sym found.same) (stepped_to stepping found_with n within stays is)

-- ---- from one state to the next

-- the same states are entered, whichever is under way
entering_other : (w : Work) (r : Stepping) {l : Layout} {set done : ℕ} → IsAnother w.stepping r
    → IsEntering w l set done → IsEntering (record w { stepping = r }) l set done
entering_other w r {l} {set} {done} another old =
    let later = continues_other w r l another in
    let same = same_keys later in
    record {
      serves =
          serves_later later old.serves old.serves.rows
          (subst (λ (k : Keying). IsWorking k w.settled w.met l) (sym same) old.serves.working);
      written = subst (λ (k : Keying). AreWritten k w.met l set done) (sym same) old.written;
    }

-- a state is stepped by no column yet
pub stepping_begun : (w : Work) (r : Stepping) {l : Layout} {place : ℕ} {key : List ℕ} → IsAnother w.stepping r
    → r.current ≡ w.stepping.state_of key → slice_get w.met.keys place ≡ Some key
    → IsEntering w l (length l.starts) place
    → IsStepping (record w { stepping = r }) l (begun_at place false) none_stepped
stepping_begun w r {l} {place} {key} another current here entering =
    let same : keying r l ≡ keys_in w l = ap (λ (t : Stepping). keying t l) another in
    record {
      entering = entering_other w r another entering;
      filling =
          subst (λ (k : Keying). IsFilling k w.met l place r.current (IsReady r l (begun_at place false))) (sym same)
          (record {
            key = key;
            here = here;
            stands = sym current;
            cells = λ c low ready. absurd (none c ready);
          });
      stepped_last = tt;
    }
  where
    none : (c : ℕ) → IsReady r l (begun_at place false) c → ⊥
    none c (inl below) = omega arith
    none c (inr alone) = let clash = alone.0 in cc
