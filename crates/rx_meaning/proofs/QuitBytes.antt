-- A search in reverse from an end that was told forward meets no quit byte: the forward search read each byte that
-- it reads.
use Rattle.rx_spec.proofs.Prelude.{common_steps, ◌≡◌, ℕ, suc, zero, ◌+◌, ◌-◌, ◌<◌, ◌≤◌, ◌⊎◌, inl, inr, ⊎_elim, Bool}
use Rattle.rx_spec.proofs.Prelude.{true, false, Option, Some, None, Ok, List, [], ◌∷◌, length, refl, ap, sym, ◌∙◌}
use Rattle.rx_spec.proofs.Prelude.{subst, arith, none-some, contains, unit_of, Reading, before, after, Anchored, Query}
use Rattle.rx_spec.proofs.Prelude.{reading, HalfMatch, MatchError, label_of, State, step, Build, Node, power}
use Rattle.rx_spec.proofs.Prelude.{build_settings, HalfAnswer, last_match, at_label, next_offset, unit_offset, beside}
use Rattle.rx_spec.proofs.Prelude.{first_offset, back_from}
use Rattle.rx_plan.specs.Plans.{plan_build}
use Rattle.rx_spec.specs.declared.Direction.{Direction}
use Rattle.rx_meaning.proofs.QuitSets.{quits_alike}
use Rattle.rx_lemmas.proofs.HalfSearches.{Begun, half_begun, told_same, error_not_told, IsStarted}
use Rattle.rx_lemmas.proofs.ReadUnits.{unit_at, units_from, units_from-zero, units_from-suc, place_of, place_of-next}
use Rattle.rx_lemmas.proofs.ReadUnits.{first_place, first_offset_is, next_at_place}
use Rattle.rx_lemmas.proofs.Walking.{goes_on, Dead, Quits, Steps, leads, state_walk, walk-nil, walk_dead, walk_quits}
use Rattle.rx_lemmas.proofs.Walking.{walk_steps}
use Rattle.rx_meaning.specs.Preference.{build_half_search}
use Rattle.rx_meaning.proofs.Scan.{read_in, PlanQuery, scan_of}
use Rattle.rx_meaning.proofs.StartStates.{begin_state, begun_walk, query_state, started_search}

-- what a unit has told, or what was told before
met_here : (label : List ℕ) (offset : ℕ) (last : Option HalfMatch) (h : HalfMatch)
    → last_match (label_of label) offset last ≡ Some h → (last ≡ Some h) ⊎ (h.offset ≡ offset)
met_here [] offset last h e = inl e
met_here (k ∷ ks) offset last h e = grind (arith, common_steps)

-- a walk that tells has ended with a label, or goes on
at_told : (label : List ℕ) (direction : Direction) (earliest : Bool) (unit offset : ℕ) (met : Option HalfMatch)
    (later : HalfAnswer) {h : HalfMatch}
    → at_label (label_of label) direction earliest unit offset (Ok met) later ≡ Ok (Some h)
    → (met ≡ Some h) ⊎ (later ≡ Ok (Some h))
at_told [] direction earliest unit offset met later e = inr e
at_told (k ∷ ks) direction true unit offset met later {h} e = inl (told_same met (Some h) e)
at_told (k ∷ ks) direction false unit offset met later e = inr e

module _ (b : Build) (r : Reading) (direction : Direction) (size : ℕ) where
  -- the units of these places can be searched
  abbrev pub AreClean : ℕ → ℕ → Type 0
  AreClean low high = (k : ℕ) → low ≤ k → k ≤ high → contains b.quit (unit_at r k) ≡ false

  -- a match that was told at a place, to which every unit can be searched
  pub record ReadTo (i n : ℕ) (h : HalfMatch) : Type 0 where
    pub place : ℕ
    pub low : i ≤ place
    pub high : place < i + n
    pub offset : h.offset ≡ place_of direction size place
    pub clean : AreClean i place

  read_here : (i n : ℕ) (h : HalfMatch) → contains b.quit (unit_at r i) ≡ false → h.offset ≡ place_of direction size i
      → ReadTo i (suc n) h
  read_here i n h here e = grind (arith, common_steps)

  read_more : (i n : ℕ) (h : HalfMatch) → contains b.quit (unit_at r i) ≡ false → ReadTo (i + 1) n h
      → ReadTo i (suc n) h
  read_more i n h here later = grind (arith, common_steps)

  -- Each match that is told was read up to.
  pub told_read : (earliest : Bool) (n i : ℕ) (s : State) (last : Option HalfMatch) (h : HalfMatch)
      → state_walk b direction earliest s (place_of direction size i) last (units_from r i n) ≡ Ok (Some h)
      → (last ≡ Some h) ⊎ ReadTo i n h
  told_read earliest zero i s last h w = grind (arith, common_steps, units_from-zero, walk-nil)
  told_read earliest (suc n) i s last h w =
      let unit = unit_at r i in
      let offset = place_of direction size i in
      let units = units_from r (i + 1) n in
      let walked = ap (state_walk b direction earliest s offset last) (sym (units_from-suc r i n)) ∙ w in
      elim (leads b s unit) as (λ l. (last ≡ Some h) ⊎ ReadTo i (suc n) h) [
        | Dead d ↦
            inl (told_same last (Some h) (sym (walk_dead b direction earliest s offset last (unit ∷ units) d) ∙ walked))
        | Quits d q ↦
            absurd (error_not_told (MatchError.Quit unit (unit_offset direction offset)) (Some h)
            (sym (walk_quits b direction earliest s unit offset last units d q) ∙ walked))
        | Steps d clean ↦
            let next = step b.nfa b.kind s unit in
            let met = last_match (label_of next.label) offset last in
            let later = λ (o : ℕ). state_walk b direction earliest next o met units in
            let done : (met ≡ Some h) → (last ≡ Some h) ⊎ ReadTo i (suc n) h
            = λ m. ⊎_elim (λ (e : last ≡ Some h). inl e)
            (λ (e : h.offset ≡ offset). inr (read_here i n h clean e)) (met_here next.label offset last h m) in
            ⊎_elim done
            (λ (v : later (next_offset direction offset) ≡ Ok (Some h)).
            ⊎_elim done (λ (x : ReadTo (i + 1) n h). inr (read_more i n h clean x))
            (told_read earliest n (i + 1) next met h (ap later (sym (place_of-next direction size i)) ∙ v)))
            (at_told next.label direction earliest unit offset met (later (next_offset direction offset))
            (sym (walk_steps b direction earliest s unit offset last units d clean) ∙ walked))
      ]

  -- A walk for the last match doesn't quit over units that can all be searched.
  pub clean_told : (n i : ℕ) (s : State) (last : Option HalfMatch)
      → ((k : ℕ) → i ≤ k → k < i + n → contains b.quit (unit_at r k) ≡ false)
      → (h : Option HalfMatch)
      × (state_walk b direction false s (place_of direction size i) last (units_from r i n) ≡ Ok h)
  clean_told zero i s last clean =
      let offset = place_of direction size i in (
        last,
        ap (state_walk b direction false s offset last) (units_from-zero r i)
            ∙ walk-nil (power b) direction false (Node.Running s) offset last,
      )
  clean_told (suc n) i s last clean =
      let unit = unit_at r i in
      let offset = place_of direction size i in
      let units = units_from r (i + 1) n in
      let walked = ap (state_walk b direction false s offset last) (units_from-suc r i n) in
      elim (leads b s unit) as (λ l. (h : Option HalfMatch)
      × (state_walk b direction false s offset last (units_from r i (suc n)) ≡ Ok h)) [
        | Dead d ↦ (last, walked ∙ walk_dead b direction false s offset last (unit ∷ units) d)
        | Quits d q ↦ absurd (let c = clean i (omega arith) (omega arith) in cc)
        | Steps d q ↦
            let next = step b.nfa b.kind s unit in
            let met = last_match (label_of next.label) offset last in
            let later = λ (o : ℕ). state_walk b direction false next o met units in
            let on = clean_told n (i + 1) next met (λ k low high. clean k (omega arith) (omega arith)) in (
              on.0,
              walked ∙ walk_steps b direction false s unit offset last units d q
                  ∙ goes_on next.label direction unit offset (Ok met) (later (next_offset direction offset))
                  ∙ ap later (place_of-next direction size i) ∙ on.1,
            )
      ]

-- ---- the two searches

-- what a forward search that told an end says: where it lies, and that each byte up to it can be searched
pub record Ended (quit : ℕ) (q : Query) (end : ℕ) : Type 0 where
  pub low : q.start ≤ end
  pub high : end ≤ q.end
  pub before_clean : contains quit (unit_of (before q.haystack q.start)) ≡ false
  pub clean : (k : ℕ) → q.start ≤ k → k ≤ end → contains quit (unit_of (after q.haystack k)) ≡ false

module _ (a : PlanQuery) where
  abbrev forward : Build
  forward = plan_build a.plan Direction.Forward a.expressions

  pub forward_ended : (end : HalfMatch)
      → build_half_search (plan_build a.plan Direction.Forward a.expressions) Direction.Forward a.query ≡ Ok (Some end)
      → Ended (plan_build a.plan Direction.Forward a.expressions).quit a.query end.offset
  forward_ended end e =
      let q = a.query in
      ⊎_elim (λ (d : (q.end < q.start) × (Some end ≡ None)). absurd (none-some end (sym d.1)))
      (λ (g : Begun (power forward) (build_settings forward) Direction.Forward q (Some end)).
      let n = suc (q.end - q.start) in
      let s = begin_state a Direction.Forward in
      ⊎_elim (λ (x : None ≡ Some end). absurd (none-some end x))
      (λ (x : ReadTo forward (read_in (scan_of a Direction.Forward)) Direction.Forward 0 q.start n end).
      let low = x.low in
      let high = x.high in
      let ended : Ended forward.quit q end.offset = record {
        low = subst (λ k. q.start ≤ k) (sym x.offset) low;
        high = subst (λ k. k ≤ q.end) (sym x.offset) (omega arith);
        before_clean = g.start.clean;
        clean = λ k a b. x.clean k a (subst (λ j. k ≤ j) x.offset b);
      } in ended)
      (told_read forward (read_in (scan_of a Direction.Forward)) Direction.Forward 0 q.earliest n q.start s None end
      (begun_walk a Direction.Forward (Some end) g)))
      (half_begun (power forward) (build_settings forward) Direction.Forward q (Some end) e)

-- from there on backward
clean_before : (quit : ℕ) (q : Query) (end i : ℕ) → q.start ≤ i → i ≤ end → Ended quit q end
    → contains quit (unit_of (before q.haystack i)) ≡ false
clean_before quit q end i low high e = grind (arith, common_steps)

-- A search for the last match tells where all its units can be searched.
clean_search : (b : Build) (direction : Direction) (q : Query) → q.start ≤ q.end → q.end ≤ length q.haystack
    → IsStarted (build_settings b) (beside direction q) q.mode → q.earliest ≡ false
    → ((k : ℕ) → first_place direction q ≤ k → k < first_place direction q + suc (q.end - q.start)
    → contains b.quit (unit_at (reading direction 0 q.haystack) k) ≡ false)
    → (h : Option HalfMatch) × (build_half_search b direction q ≡ Ok h)
clean_search b direction q order inside start last clean =
    let i = first_place direction q in
    let s = query_state b direction q in
    let units = units_from (reading direction 0 q.haystack) i (suc (q.end - q.start)) in
    let walked = clean_told b (reading direction 0 q.haystack) direction (length q.haystack) (suc (q.end - q.start)) i s
    None clean in (
      walked.0,
      started_search b direction 0 q order inside start
          ∙ ap (λ v. state_walk b direction v s (first_offset direction q) None units) last
          ∙ ap (λ o. state_walk b direction false s o None units) (sym (first_offset_is direction q order inside))
          ∙ walked.1,
    )

-- So a search in reverse from there tells, and doesn't quit.
pub reverse_told : (a : PlanQuery) (end : HalfMatch)
    → build_half_search (plan_build a.plan Direction.Forward a.expressions) Direction.Forward a.query ≡ Ok (Some end)
    → (h : Option HalfMatch)
    × (build_half_search (plan_build a.plan Direction.Reverse a.expressions) Direction.Reverse
    (back_from a.query end.offset) ≡ Ok h)
reverse_told a end told =
    let b = plan_build a.plan Direction.Reverse a.expressions in
    let q = a.query in
    let size = length q.haystack in
    let ended : Ended b.quit q end.offset
    = subst (λ quit. Ended quit q end.offset) (sym (quits_alike a.plan a.expressions)) (forward_ended a end told) in
    let low = ended.low in
    let start : IsStarted (build_settings b) (after q.haystack end.offset) Anchored.Yes
    = record { clean = ended.clean end.offset low (omega arith); supported = refl } in
    clean_search b Direction.Reverse (back_from q end.offset) low (omega arith) start refl
    (λ k l h. let same : size - (size - k) ≡ k = omega arith in
    subst (λ j. contains b.quit (unit_at (reading Direction.Reverse 0 q.haystack) j) ≡ false) same
    (ap (λ byte. contains b.quit (unit_of byte)) (next_at_place Direction.Reverse q.haystack (size - k) (omega arith))
    ∙ clean_before b.quit q end.offset (size - k) (omega arith) (omega arith) ended))
