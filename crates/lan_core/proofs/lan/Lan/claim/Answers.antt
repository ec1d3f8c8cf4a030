use Rattle.std.proofs.Common.{◌≡◌, ◌∷◌, [], List, subst, sym}
use Rattle.std.specs.Option.{option_copied}
use Rattle.lan_core.specs.declared.event.Event.TheVariants as events
use Rattle.lan_core.specs.Lives.{receiving}
use Rattle.lan_core.specs.Standing.{Seat, StandsFor}
use Rattle.lan_core.specs.Answers.{GoesOn}
use Rattle.lan_core.specs.inside.Seats.{Claims}
use Rattle.lan_core.specs.inside.Shown.{claim_shown}
use Rattle.lan_core.proofs.ClaimGoesOn.{claim-goes-on}
use Rattle.lan_core.proofs.OctetsReach.{place-of, came-so, came-not}
use Rattle.lan_core.proofs.lan.Lan.claim.Goals as goal

pub returns-clause-answers : goal.returns-clause-answers
returns-clause-answers c settings users r nth number stands comes =
    let s = c.args.station in
    let now = c.self.inside in
    let user = option_copied c.args.user in
    let st = subst (λ lan. StandsFor settings users lan r) (sym c.self.view_is) stands in
    let place = place-of settings users r _ st s comes.0 in
    let there = place.1.1 in
    let claims = came-so (Claims there.alive c.args.pn user) c.in_ok-claimed.field-0 c.in-Some.claimed c.in-Some.is
    (c.in_ok-claimed.ensures.claimed settings.window (receiving s r) there.seat there.alive there.there there.seated.0) in
    let told : c.in_ok-facts.facts ≡ claim_shown s c.args.pn c.in-Some.claimed.key ∷ [] =
    cc (c.in_ok-facts.ensures, c.claim_fact.ensures) in
    subst (λ (seats : List Seat). GoesOn settings users r (events.Claim s number c.args.pn) nth nth (record {
      settings = now.judge.settings;
      stopped = now.stopped;
      names = now.names;
      air = now.air;
      seats = seats;
      waiting = c.wait.new.waiting;
      ticks = now.ticks;
      drawn = now.drawn;
    }) c.in_ok-facts.facts)
    (sym c.in_ok-claimed.ensures.same)
    (claim-goes-on settings users r _ st s number c.args.pn user comes.1 comes.2 place.0 place.1.0 there
    c.in-Some.claimed.key claims.key c.in-Some.claimed.octets claims.none claims.octets
    nth c.in_ok-facts.facts told c.wait.new.waiting c.in_ok-wait.ensures)

pub returns-in_default-clause-answers : goal.returns-in_default-clause-answers
returns-in_default-clause-answers c settings users r nth number stands comes =
    let s = c.args.station in
    let st = subst (λ lan. StandsFor settings users lan r) (sym c.self.view_is) stands in
    let there = (place-of settings users r _ st s comes.0).1.1 in
    absurd (came-not (Claims there.alive c.args.pn (option_copied c.args.user)) c.in_ok-claimed.field-0 c.in_default.is
    (c.in_ok-claimed.ensures.claimed settings.window (receiving s r) there.seat there.alive there.there there.seated.0))
