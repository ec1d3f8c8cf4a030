use Rattle.lan_core.proofs.SeatMoved.{is-the-seat}
use Rattle.lan_core.proofs.seats.Seats.claim.Goals as goal

pub returns-clause-claimed : goal.returns-clause-claimed
returns-clause-claimed c window h seat l there sits =
    let now = is-the-seat window l h c.args.place c.args.self.now c.self.inside.seats.items seat c.in-Some.seat.now
    c.self.view_is there c.in-Some.ensures.value sits in
    c.in_ok-claimed.ensures.claims window l h now
