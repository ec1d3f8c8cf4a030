use Rattle.std.proofs.Common.{refl, ◌∙◌, arith}
use Rattle.station_words.proofs.Out.{out-none, out-then}
use Rattle.station_words.proofs.Stations.{followed-first, followed-next, followed-end}
use Rattle.station_words.proofs.controls.Controls.follow.Goals as goal

pub loop-fact-init : goal.loop-fact-init
loop-fact-init g c = (
  refl,
  (λ settings users r stands. followed-first settings r c.args.self.now),
  out-none c.args.self.now,
)

pub follow_one-requires : goal.follow_one-requires
follow_one-requires g c = record { here = c.loop-fact.invariant.0 ∙ c.requires.here }

pub loop-fact-preserved : goal.loop-fact-preserved
loop-fact-preserved g c = (
  c.follow_one.ensures.same ∙ c.loop-fact.invariant.0,
  (λ settings users r stands.
      followed-next settings r c.args.facts.now c.loop-fact.fact-index c.fact-item.result c.args.self.now c.loop-fact.self c.follow_one.new.self (omega arith) c.fact-item.is
      (c.loop-fact.invariant.1 settings users r stands) (c.follow_one.ensures.followed settings users r stands)),
  out-then _ _ _ c.loop-fact.invariant.2 c.follow_one.ensures.out,
)

pub returns : goal.returns
returns g c = record {
  same = c.loop-fact.invariant.0;
  followed = λ settings users r stands.
      followed-end settings r c.args.facts.now c.loop-fact.fact-index c.args.self.now c.loop-fact.self (omega arith) (c.loop-fact.invariant.1 settings users r stands);
  out = c.loop-fact.invariant.2;
}
