use Rattle.std.proofs.Common.{sym, ap, ◌∙◌, arith}
use Rattle.lan_schedule.specs.declared.frames.Put.{Put}
use Rattle.lan_schedule.proofs.Flowing.{marked-more}
use Rattle.lan_schedule.proofs.frames.Frames.pass_marked.Goals as goal

pub loop-self-preserved : goal.loop-self-preserved
loop-self-preserved c = record {
  frames = c.loop-self.invariant.frames;
  rounds = c.loop-self.invariant.rounds;
  marked = marked-more c.loop-self.self-inside.first c.loop-self.self-inside.frames.items
      c.index.result.now (omega arith)
      (ap (λ (p : Put). p.marked) (sym c.index.ensures) ∙ c.if-index.true)
      c.loop-self.invariant.marked;
  ordered = c.loop-self.invariant.ordered;
}
