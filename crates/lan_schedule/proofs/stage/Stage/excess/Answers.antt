use Rattle.std.proofs.Common.{◌≡◌, ◌-◌, ℕ, length, not, ap, ◌∙◌, arith}
use Rattle.std.specs.Prelude.{nat_lt}
use Rattle.lan_base.specs.Ranges.{most_frames}
use Rattle.lan_core.specs.Order.{most_octets}
use Rattle.lan_schedule.specs.Races.{frames_asked, octets_asked}
use Rattle.lan_schedule.specs.World.{settings}
use Rattle.lan_schedule.proofs.Exceeding.{few-enough, too-many-frames, too-many-octets}
use Rattle.lan_schedule.proofs.stage.Stage.excess.Goals as goal

pub returns-then-not-frames_fit : goal.returns-then-not-frames_fit
returns-then-not-frames_fit c = λ w reached.
    let left : c.saturating_sub-frames.result ≡ most_frames - length c.args.self.now.frames.frames =
    omega arith in
    too-many-frames c.args.bursts.now w c.args.self.now c.frames_fit.result reached
    (c.frames_fit.ensures
    ∙ ap (λ (n : ℕ). not (nat_lt n (frames_asked c.args.bursts.now))) left) c.if-not-frames_fit.true

pub returns-then-not-octets_fit : goal.returns-then-not-octets_fit
returns-then-not-octets_fit c = λ w reached.
    let left : c.saturating_sub-frames.result ≡ most_frames - length c.args.self.now.frames.frames =
    omega arith in
    let over : c.saturating_sub.result ≡ most_octets - c.octets.result = omega arith in
    too-many-octets c.args.bursts.now w c.args.self.now c.octets.result c.frames_fit.result
    c.octets_fit.result reached (c.octets.ensures (settings w) w.kept.users w.run reached.stands.lan)
    (c.frames_fit.ensures ∙ ap (λ (n : ℕ). not (nat_lt n (frames_asked c.args.bursts.now))) left)
    c.if-not-frames_fit.false
    (c.octets_fit.ensures ∙ ap (λ (n : ℕ). not (nat_lt n (octets_asked c.args.bursts.now))) over)
    c.if-not-octets_fit.true

pub returns : goal.returns
returns c = λ w reached.
    let left : c.saturating_sub-frames.result ≡ most_frames - length c.args.self.now.frames.frames =
    omega arith in
    let over : c.saturating_sub.result ≡ most_octets - c.octets.result = omega arith in
    few-enough c.args.bursts.now w c.args.self.now c.octets.result c.frames_fit.result
    c.octets_fit.result reached (c.octets.ensures (settings w) w.kept.users w.run reached.stands.lan)
    (c.frames_fit.ensures ∙ ap (λ (n : ℕ). not (nat_lt n (frames_asked c.args.bursts.now))) left)
    c.if-not-frames_fit.false
    (c.octets_fit.ensures ∙ ap (λ (n : ℕ). not (nat_lt n (octets_asked c.args.bursts.now))) over)
    c.if-not-octets_fit.false
