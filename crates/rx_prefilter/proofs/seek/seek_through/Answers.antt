use Rattle.rx_spec.proofs.Prelude.{◌≡◌, ◌≤◌, min, ℕ, ◌+◌, ◌-◌, ap, sym, ◌∙◌, subst, arith, drop, length, length-take}
use Rattle.rx_spec.proofs.Prelude.{slice_index, take, get_or-take}
use Rattle.rx_prefilter.proofs.Seeking.{IsUnderWay, found_next, none_read, read_len, read_more, shows_read}
use Rattle.rx_prefilter.proofs.seek.seek_through.Goals as goal

pub pieces-init : goal.pieces-init
pieces-init g c = record {
  read =
      none_read (g.S.Source.left c.args.src.now)
      (record { literal = c.args.literal.now; start = c.args.span.now.start; end = c.args.span.now.end })
      c.args.buffer.now c.requires.literal;
  room = c.requires.room;
  few = omega arith;
  counted = omega arith;
}

pub pieces-preserved : goal.pieces-preserved
pieces-preserved g c =
    let u = c.pieces.invariant.read in
    let got = c.in-Got.ensures.bytes in
    let buffer = c.read_behind.new.buffer in
    let kept = c.pieces.kept in
    let count = c.in-Got.count in
    let room = c.min-room.result in
    let full = c.pieces.invariant.room in
    let len = c.read_behind.ensures.len in
    let fits : kept ≤ length buffer = omega arith in
    let read = take count (take room (drop kept buffer)) in
    let shows = shows_read kept room count c.pieces.buffer buffer c.read_behind.ensures.kept got.1 fits
    c.place_in-sought.ensures.bytes in
    let n = read_len kept room count c.pieces.buffer buffer c.read_behind.ensures.kept got.1 fits in
    let place = c.place_in-sought.result in
    let found = found_next u shows place (rw c.new-finder.ensures at c.place_in-sought.ensures.first) in
    record {
      read =
          subst (λ (more : ℕ). IsUnderWay (g.S.Source.left c.args.src.now) (g.S.Source.left c.read_behind.new.src)
          (record { literal = c.args.literal.now; start = c.args.span.now.start; end = c.args.span.now.end })
          (record { len = c.pieces.sought.len + more; place = place }) c.copy_within.new.self c.min-kept.result) n
          (read_more u shows got.2 place found c.copy_within.new.self c.min-kept.result
          (c.min-kept.ensures ∙ ap (λ (more : ℕ). min (kept + more) (length c.args.literal.now - 1)) (sym n))
          (λ i h.
          let there : kept + count - c.min-kept.result + (i - 0) ≡ kept + length read - c.min-kept.result + i =
          omega arith in
          c.copy_within.ensures.by_index.0 i 0 (omega arith) (omega arith)
          ∙ ap (slice_index buffer) there
          ∙ sym (get_or-take (kept + count) buffer (kept + length read - c.min-kept.result + i) 0
          (omega arith))));
      room = c.copy_within.ensures.len ∙ len ∙ full;
      few = omega (arith, length-take room (drop kept buffer));
      counted = omega (arith, c.in-Got.ensures.cause);
    }
