use Rattle.std.proofs.Common.{Ok, refl, sym, ap, ◌∙◌, arith}
use Rattle.std.specs.Prelude.{Err}
use Rattle.lan_schedule.proofs.Replaying.{memory-does, begun-does, stands-counts}
use Rattle.lan_schedule.proofs.RunsRaces.{runs-text, runs-wanting}
use Rattle.lan_schedule.proofs.Texting.{skipped-does, line-does, fault-does, fault-is}
use Rattle.lan_schedule.proofs.SeatsBack.{still-out}
use Rattle.lan_schedule.proofs.commands.Replay.perform_text.Goals as goal

pub returns-in-Ok-None : goal.returns-in-Ok-None
returns-in-Ok-None g c =
    let said = c.in-Ok-None.ensures.read ∙ ap (λ o. Ok o) c.in-Ok-None.field-0-is in record {
      does = skipped-does c.args.text.now c.saturating_add-number.result _ _
          (λ w stands. let at = c.line.ensures w stands in let counts = c.saturating_add-number.ensures in
          omega (arith, at, counts)) said
          (begun-does c.saturating_add-number.result _ _ c.begin_line.ensures.stands refl);
      race = λ end. (let none = sym end ∙ said in absurd (cc none));
      seats = still-out _ _ c.begin_line.ensures.words;
    }

pub returns-in-Ok-Some : goal.returns-in-Ok-Some
returns-in-Ok-Some g c =
    let said = c.in-Ok-Some.ensures.read ∙ ap (λ o. Ok o) c.in-Ok-Some.field-0-is in record {
      does = line-does c.args.text.now c.saturating_add-number.result c.in-Ok-Some.line _ _ c.perform_line.result
          (λ w stands. let at = c.line.ensures w stands in let counts = c.saturating_add-number.ensures in
          omega (arith, at, counts)) said c.perform_line.ensures.does;
      race = λ end.
          (let same = sym said ∙ end in
          runs-text c.args.text.now c.saturating_add-number.result c.in-Ok-Some.line _ _
          c.perform_line.result
          (λ w stands. let at = c.line.ensures w stands in let counts = c.saturating_add-number.ensures in
          omega (arith, at, counts)) said (c.perform_line.ensures.race (cc same)));
      seats = c.perform_line.ensures.seats;
    }

pub returns-in-Err-Refused : goal.returns-in-Err-Refused
returns-in-Err-Refused g c =
    let fault = (c.in-Err-Refused.ensures.refused c.in-Err-Refused.fault).0
    (ap (λ e. Err e) c.in-Err-Refused.field-0-is) in record {
      does = rw c.kind_of_fault.ensures (fault-does c.args.text.now c.saturating_add-number.result
          c.in-Err-Refused.fault _
          (λ w stands. let at = c.line.ensures w stands in let counts = c.saturating_add-number.ensures in
          omega (arith, at, counts)) fault);
      race = λ end. (let none = sym end ∙ fault-is _ c.in-Err-Refused.fault fault in absurd (cc none));
      seats = still-out _ _ refl;
    }

pub returns-in-Err-Memory : goal.returns-in-Err-Memory
returns-in-Err-Memory g c =
    record {
      does = memory-does _ _ _ (λ w stands. stands-counts w _ stands) refl;
      race = λ end. runs-wanting _ _ _ _ (memory-does _ _ _ (λ w stands. stands-counts w _ stands) refl);
      seats = still-out _ _ refl;
    }
