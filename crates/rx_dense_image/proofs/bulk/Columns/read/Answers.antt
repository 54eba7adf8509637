use Rattle.rx_spec.proofs.Prelude.{rules, ◌≡◌, ℕ, ◌+◌, ◌-◌, ◌%◌, ◌^◌, ◌<◌, ◌&&◌, Bool, bit_and, length, min}
use Rattle.rx_spec.proofs.Prelude.{slice_index, sym, ap, subst, ◌∙◌, arith, common_steps}
use Rattle.rx_image_parts.specs.Words.{word_at}
use Rattle.rx_image_parts.specs.Below.{each_below}
use Rattle.rx_dense_image.specs.Bulk.{kept_word, may_stand, word_stands}
use Rattle.rx_dense_image.proofs.WordBytes.{below_more, next_begins, pushed, wraps}
use Rattle.rx_dense_image.proofs.bulk.Columns.read.Goals as goal

more : (at column : ℕ) → at + (column + 1) ≡ at + column + 1
more at column = omega arith

pub columns-preserved : goal.columns-preserved
columns-preserved c =
    let columns = c.args.self.now in
    let bytes = c.args.bytes.now in
    let at : ℕ = c.rounds.at in
    let column : ℕ = c.columns.column in
    let place : ℕ = at + column in
    let w : ℕ = c.word-word.result in
    let wide : ℕ = length columns.kept.now in
    let is_column : place % wide ≡ column = wraps at column wide (search rules) (search rules) in
    let is : w ≡ kept_word columns bytes place =
    c.word-word.ensures
    ∙ ap (λ (m : ℕ). bit_and (word_at columns.order bytes place) (slice_index columns.kept.now m)) (sym is_column) in
    let forbidden : slice_index columns.forbidden.now column ≡ slice_index columns.forbidden.now (place % wide) =
    ap (λ (m : ℕ). slice_index columns.forbidden.now m) (sym is_column) in
    record {
      room = search rules;
      len = search rules;
      words =
          subst (λ (n : ℕ). (k : ℕ) → k < n → slice_index c.push_reserved.new.self.items k ≡ kept_word columns bytes k)
          (sym (more at column))
          (subst
          (λ xs. (k : ℕ) → k < place + 1 → slice_index xs k ≡ kept_word columns bytes k)
          (sym c.push_reserved.ensures.items)
          (pushed (kept_word columns bytes) c.columns.words.items place w c.columns.invariant.len
          c.columns.invariant.words is));
      clean = λ s last.
          let p : ℕ → Bool = word_stands s last columns bytes in
          c.with-wrong.ensures s last
          ∙ ap (λ (b : Bool). b && may_stand (2 ^ s) last (slice_index columns.forbidden.now column) w)
          (c.columns.invariant.clean s last)
          ∙ ap (λ (f : ℕ). each_below place p && may_stand (2 ^ s) last f w) forbidden
          ∙ ap
          (λ (x : ℕ).
          each_below place p && may_stand (2 ^ s) last (slice_index columns.forbidden.now (place % wide)) x) is
          ∙ sym (below_more p place)
          ∙ ap (λ (n : ℕ). each_below n p) (sym (more at column));
    }

-- a round after which words are left is whole
whole : (at width count round : ℕ) → round ≡ min width (count - at) → at + round < count → round ≡ width
whole at width count round is left = grind (arith, common_steps)

pub rounds-preserved : goal.rounds-preserved
rounds-preserved c =
    let at : ℕ = c.rounds.at in
    let width : ℕ = length c.args.self.now.kept.now in
    let least : c.min-round.result ≡ min width (c.args.count - at) = search rules in
    record {
      within = search rules;
      begins = λ left.
          ap (λ (n : ℕ). (at + n) % width) (whole at width c.args.count c.min-round.result least left)
          ∙ next_begins at width (search rules);
      room = search rules;
      len = search rules;
      words = search rules;
      clean = search rules;
    }
