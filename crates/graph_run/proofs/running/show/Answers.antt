use Rattle.graph_run.proofs.Writes.{flushed}
use Rattle.graph_run.proofs.running.show.Goals as goal

pub returns : goal.returns
returns g c =
    flushed c.args.text.now c.flush.result _ (g.W.Write.contents c.write_all.new.writer) (g.W.Write.contents c.flush.new.writer) c.in_ok-write_all.ensures c.flush.ensures.kept c.flush.ensures.err
