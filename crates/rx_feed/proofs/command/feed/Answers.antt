use Rattle.rx_spec.proofs.Prelude.{arith, ℕ, List, Option, Err, ap, subst, common_steps, err_from_is_err_and}
use Rattle.rx_spec.specs.declared.Form.{Form}
use Rattle.rx_base.specs.Search.{mode_of}
use Rattle.rx_dense.specs.Layouts as dense
use Rattle.rx_dense_image.specs.Images as dense_images
use Rattle.rx_sparse.specs.Layouts as sparse
use Rattle.rx_sparse_image.specs.Images as sparse_images
use Rattle.rx_wire.specs.Kinds.{Gives}
use Rattle.rx_feed.specs.Replies.{table_read}
use Rattle.rx_transfer.specs.declared.reading.ReadFault.{ReadFault}
use Rattle.rx_feed.proofs.Images.{Run, feed_read_ends, feed_unread, read_first}
use Rattle.rx_transfer.proofs.Transfers.{keeps_same}
use Rattle.rx_feed.proofs.command.feed.Given as given
use Rattle.rx_feed.proofs.command.feed.Goals.{After-read_up_to}
use Rattle.rx_feed.proofs.command.feed.Goals as goal

-- a run that leaves so much of the source and of the sink
abbrev run_to : (g : given.Over) → After-read_up_to g → Option (List ℕ) → Option (List ℕ) → Run
run_to g c left written = record {
  form = c.args.form;
  mode = mode_of c.args.mode;
  len = c.args.len;
  ends = record {
    left_before = g.S.Source.left c.args.src.now;
    left_after = left;
    written_before = g.K.Sink.written c.args.out.now;
    written_after = written;
  };
}

pub returns-in_err-over-clause-ends : goal.returns-in_err-over-clause-ends
returns-in_err-over-clause-ends g c =
    let p = err_from_is_err_and c.from_residual.result c.from_residual.ensures.1 in
    let run = run_to g (goal.at.returns-in_err-over-clause-ends g c).After-read_up_to
    (g.S.Source.left c.read_up_to.new.src) (g.K.Sink.written c.args.out.now) in
    let told = c.in_err-over.ensures in
    rw (p.1, p.2)
    (feed_unread run c.in_err-over.field-0.0 c.new-image.ensures.items (λ e. told.cut (ap (λ (f : ReadFault). Err f) e))
    (λ e. told.starved (ap (λ (f : ReadFault). Err f) e)) (keeps_same (g.K.Sink.written c.args.out.now)))

pub returns-in-Dense-clause-ends : goal.returns-in-Dense-clause-ends
returns-in-Dense-clause-ends g c =
    let at = goal.at.returns-in-Dense-clause-ends g c in
    let run = run_to g at.After-read_up_to (g.S.Source.left c.feed_read.new.src)
    (g.K.Sink.written c.feed_read.new.out) in
    let image = c.read_up_to.new.text.items in
    feed_read_ends run (grind (arith, common_steps, read_first)) dense.table_of (dense_images.reads image)
    c.from_bytes-read.result
    c.feed_read.result (ap (λ (form : Form). table_read form image) c.in-Dense.is)
    (subst (λ (bytes : List ℕ). Gives (λ (x : dense.Layout × ℕ). (x.0, x.1)) c.from_bytes-read.result
    (dense_images.reads bytes)) c.deref.ensures.value c.from_bytes-read.ensures.read)
    c.feed_read.ensures.ends

pub returns-clause-ends : goal.returns-clause-ends
returns-clause-ends g c =
    let at = goal.at.returns-clause-ends g c in
    let run = run_to g at.After-read_up_to (g.S.Source.left c.feed_read-in-Sparse.new.src)
    (g.K.Sink.written c.feed_read-in-Sparse.new.out) in
    feed_read_ends run (grind (arith, common_steps, read_first)) (λ (t : sparse.Stored). sparse.table_of t.layout)
    (sparse_images.reads c.read_up_to.new.text.items) c.from_bytes-read-in-Sparse.result c.feed_read-in-Sparse.result
    (ap (λ (form : Form). table_read form c.read_up_to.new.text.items) c.in-Sparse.is)
    (subst (λ (bytes : List ℕ). Gives (λ (x : sparse.Stored × ℕ). (x.0, x.1)) c.from_bytes-read-in-Sparse.result
    (sparse_images.reads bytes)) c.deref-in-Sparse.ensures.value c.from_bytes-read-in-Sparse.ensures.read)
    c.feed_read-in-Sparse.ensures.ends
