use Rattle.std.proofs.Common.{◌≡◌, ◌≤◌, ◌+◌, true, refl, arith}
use Rattle.lan_core.specs.Expected.{last_number}
use Rattle.lan_schedule.proofs.Doing.{handed-on}
use Rattle.lan_schedule.proofs.Numbering.{over-does, within-does}
use Rattle.lan_schedule.proofs.Recorded.{seats-same, seats-then}
use Rattle.lan_schedule.proofs.Sending.{send-does, claim-err, claim-ok}
use Rattle.lan_schedule.proofs.stage.Stage.send.Goals as goal

pub returns-then-not-has_numbers : goal.returns-then-not-has_numbers
returns-then-not-has_numbers g c =
    over-does c.args.user.now c.args.station _ (c.has_numbers.ensures.over c.if-not-has_numbers.true)

pub returns-in_err-happen : goal.returns-in_err-happen
returns-in_err-happen g c =
    let n = c.args.self.now.users + 1 in
    let within = c.has_numbers.ensures.few c.if-not-has_numbers.false in
    let few : n ≤ last_number = let most = within.0 in omega (arith, most) in
    handed-on _ _ _ _ _
    (within-does c.args.user.now c.args.station _ _ _ within.0 within.1
    (send-does c.args.station n c.claim-pn.result c.args.user.now _ _ _ _ _ refl
    (record {
      lag = refl;
      lan = refl;
      draws = refl;
      frames = refl;
      tally = refl;
      raced = refl;
      steps = refl;
    }) refl refl refl few refl (record {
      calm = λ settings run tied there most. (
        c.claim-pn.ensures.claimed settings run tied there most,
        c.claim-pn.ensures.ahead settings run n tied there most,
      );
      raced = λ settings run caught there.
          c.claim-pn.ensures.gained settings run n caught there;
      few = λ (raced : c.args.self.now.raced ≡ true). let most = within.1 in omega (arith, most);
      cards = c.claim-pn.ensures.cards;
      spends = c.law_few_claims_spend_no_words.ensures.stations;
    })
    (seats-then _ _ _ (seats-same _ _ c.claim-pn.ensures.same c.claim-pn.ensures.out) c.in_err-happen.ensures.seats)
    (claim-err c.args.station n c.claim-pn.result c.args.user.now _ _ _
    c.in_err-happen.ensures)))
    c.from_residual.ensures.1

pub returns : goal.returns
returns g c =
    let n = c.args.self.now.users + 1 in
    let within = c.has_numbers.ensures.few c.if-not-has_numbers.false in
    let few : n ≤ last_number = let most = within.0 in omega (arith, most) in
    within-does c.args.user.now c.args.station _ _ _ within.0 within.1
    (send-does c.args.station n c.claim-pn.result c.args.user.now _ _ _ _ _ refl
    (record {
      lag = refl;
      lan = refl;
      draws = refl;
      frames = refl;
      tally = refl;
      raced = refl;
      steps = refl;
    }) refl refl refl few refl (record {
      calm = λ settings run tied there most. (
        c.claim-pn.ensures.claimed settings run tied there most,
        c.claim-pn.ensures.ahead settings run n tied there most,
      );
      raced = λ settings run caught there.
          c.claim-pn.ensures.gained settings run n caught there;
      few = λ (raced : c.args.self.now.raced ≡ true). let most = within.1 in omega (arith, most);
      cards = c.claim-pn.ensures.cards;
      spends = c.law_few_claims_spend_no_words.ensures.stations;
    })
    (seats-then _ _ _ (seats-same _ _ c.claim-pn.ensures.same c.claim-pn.ensures.out)
    (seats-then _ _ _ c.in_ok-happen.ensures.seats c.emit.ensures.seats))
    (claim-ok c.args.station n c.claim-pn.result c.args.user.now _ _ _ _
    c.in_ok-happen.ensures c.emit.ensures))
