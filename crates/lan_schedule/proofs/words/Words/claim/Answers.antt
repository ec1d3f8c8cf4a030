use Rattle.std.proofs.Common.{List, sym, subst}
use Rattle.association_slots.specs.Views.{ControlAt}
use Rattle.station_words.specs.Ties.{AreTied, HaveCaughtUp}
use Rattle.station_words.specs.Seats.{HasGot, NoMoreOut}
use Rattle.lan_schedule.proofs.words.Words.claim.Goals as goal

pub returns-clause-ahead : goal.returns-clause-ahead
returns-clause-ahead g c = λ settings r user tied there most.
    c.claim.ensures.ahead settings r user
    (subst (λ (cs : List ControlAt). AreTied settings r cs) (sym c.self.view_is) tied) there most

pub returns-clause-gained : goal.returns-clause-gained
returns-clause-gained g c = λ settings r user caught there.
    let got = c.claim.ensures.catches_up settings r user
    (subst (λ (cs : List ControlAt). HaveCaughtUp settings r cs) (sym c.self.view_is) caught)
    there in (
      subst (λ (cs : List ControlAt). HasGot settings c.args.station r cs c.claim.result)
          c.self.view_is got.0,
      got.1,
    )

pub returns-clause-out : goal.returns-clause-out
returns-clause-out g c = subst (λ (cs : List ControlAt). NoMoreOut cs c.claim.new.self) c.self.view_is
    c.claim.ensures.out
