use Rattle.lan_core.specs.Lives.{receiving}
use Rattle.lan_core.proofs.SeatMoved.{is-the-seat, same-seat, more-installs, moves}
use Rattle.lan_core.proofs.seats.Seats.restart.Goals as goal

pub returns : goal.returns
returns c settings r seat l there sits =
    let s = c.args.place in
    let h = receiving s r in
    let given = c.in-Some.seat.now in
    let now = is-the-seat settings.window l h s c.args.self.now c.self.inside.seats.items seat given
    c.self.view_is there c.in-Some.ensures.value sits in
    let facts = c.in_ok-facts.ensures.facts settings.window l h now in
    record {
      facts = facts;
      counted = more-installs seat given c.restart.new.self c.installs-installs.result _
          (same-seat s c.args.self.now c.self.inside.seats.items seat given c.self.view_is there c.in-Some.ensures.value)
          c.installs-installs.ensures c.in_ok-facts.ensures.counted;
      moved = moves settings.window _ h s c.args.self.now c.self.inside.seats.items seat c.restart.new.self
          c.installs-installs.result c.in_ok-facts.facts _ c.self.view_is there facts
          (c.in_ok-facts.ensures.stands settings.window l h now) c.installs-installs.ensures;
    }
