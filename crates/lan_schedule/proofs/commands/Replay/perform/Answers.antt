use Rattle.std.proofs.Common.{refl, sym, ap, ◌∙◌}
use Rattle.lan_schedule.specs.World.{is_racing}
use Rattle.lan_schedule.specs.Standing.{phase_of}
use Rattle.lan_schedule.specs.Lines.{act_of}
use Rattle.lan_schedule.specs.Woven.{race_in}
use Rattle.lan_schedule.specs.inside.Phased.{act_apart}
use Rattle.lan_schedule.proofs.EachDeed.{apart-comes, still-apart}
use Rattle.lan_schedule.proofs.Commanding.{none-of}
use Rattle.lan_schedule.proofs.Replaying.{same-act, staged-does, none-stage}
use Rattle.lan_schedule.proofs.RunsRaces.{runs-act}
use Rattle.lan_schedule.specs.Acts.{look}
use Rattle.lan_schedule.proofs.Phasing.{taken-does, same-apart, not-taken, outside-calm}
use Rattle.lan_schedule.proofs.Phasing.{ends-race, end-controls, outside-apart}
use Rattle.lan_schedule.proofs.Opening.{unbegun-refused, unbegun-performed}
use Rattle.lan_schedule.proofs.SeatsBack.{staged-out, still-out}
use Rattle.lan_schedule.proofs.Ending.{calm-performs}
use Rattle.lan_schedule.proofs.commands.Replay.perform.Goals as goal

pub returns-then-is_end : goal.returns-then-is_end
returns-then-is_end g c =
    let phase = phase_of c.args.self.now.phase in
    let ends = sym c.is_end.ensures ∙ c.if-is_end.true in
    let act = act_of c.args.line in
    let raced = look (λ w. race_in w.kept.phase w) in record {
      does = same-act act raced _ _ c.run_kept.result
          (λ w stands. ends-race c.args.line w phase stands.phase ends) c.run_kept.ensures.runs.does;
      race = λ end. runs-act (λ w. w) act raced _ _ c.run_kept.result
          (λ w stands. ends-race c.args.line w phase stands.phase ends) c.run_kept.ensures.runs;
      seats = c.run_kept.ensures.seats;
    }

pub run_kept-requires-clause-controls : goal.run_kept-requires-clause-controls
run_kept-requires-clause-controls g c = λ lifetimes outlive.
    end-controls c.args.line (phase_of c.args.self.now.phase)
    (sym c.is_end.ensures ∙ c.if-is_end.true)

pub returns-then-takes : goal.returns-then-takes
returns-then-takes g c =
    let other = sym c.is_end.ensures ∙ c.if-is_end.false in
    calm-performs (λ w. w) _ c.args.line _ _ _ other
    (taken-does c.args.line _ _ c.in-Some.stage c.take.result c.in-Some.is refl refl refl
    c.take.ensures (sym c.takes.ensures ∙ c.if-takes.true) other)
    (staged-out _ _ c.in-Some.stage c.in-Some.stage c.in-Some.is refl (λ s i out. out))

pub command-requires-clause-apart : goal.command-requires-clause-apart
command-requires-clause-apart g c = λ lifetimes outlive.
    (not-taken _ _ (sym c.takes.ensures ∙ c.if-takes.false)).1

pub returns-in-Some : goal.returns-in-Some
returns-in-Some g c =
    let not = not-taken _ _ (sym c.takes.ensures ∙ c.if-takes.false) in
    let phase = phase_of c.args.self.now.phase in
    calm-performs (λ w. w) (act_of c.args.line) c.args.line _ _ _
    (sym c.is_end.ensures ∙ c.if-is_end.false)
    (same-act (act_of c.args.line) (act_apart c.args.line) _ _ c.command.result
    (λ w stands. same-apart c.args.line w phase stands.phase not.0)
    (staged-does (act_apart c.args.line) _ _ c.in-Some.stage c.command.new.self
    c.command.result
    (λ w stands tidy. apart-comes c.args.line c.requires w tidy
    (ap is_racing stands.phase ∙ outside-calm phase not.0))
    (still-apart c.args.line not.1) c.in-Some.is refl refl refl
    (outside-apart phase not.0) c.command.ensures))
    (staged-out _ _ c.in-Some.stage c.command.new.self c.in-Some.is refl c.command.ensures.seats.out)

pub returns-in-Some-refusal : goal.returns-in-Some-refusal
returns-in-Some-refusal g c =
    calm-performs (λ w. w) _ c.args.line _ _ _ (sym c.is_end.ensures ∙ c.if-is_end.false)
    (unbegun-refused c.args.line c.in-Some-refusal.kind _ (none-stage _ c.in_default.not-Some)
    (sym c.refusal.ensures ∙ c.in-Some-refusal.is))
    (still-out _ _ refl)

pub returns : goal.returns
returns g c =
    calm-performs (λ w. w) _ c.args.line _ _ c.prepare.result (sym c.is_end.ensures ∙ c.if-is_end.false)
    (unbegun-performed c.args.line _ _ c.prepare.result (none-stage _ c.in_default.not-Some)
    (sym c.refusal.ensures ∙ none-of c.refusal.result c.in_default-refusal.not-Some)
    c.prepare.ensures.does)
    c.prepare.ensures.seats
