use Rattle.lan_core.specs.Lives.{receiving}
use Rattle.lan_core.proofs.SeatMoved.{is-the-seat, same-seat, more-installs, moves, refused-tick}
use Rattle.lan_core.proofs.seats.Seats.tick.Goals as goal

pub returns-clause-event_facts : goal.returns-clause-event_facts
returns-clause-event_facts g c settings r seat l there sits numbered =
    let s = c.args.place in
    let h = receiving s r in
    let given = c.in-Some.seat.now in
    let xs = c.self.inside.seats.items in
    let now = is-the-seat settings.window l h s c.args.self.now xs seat given
    c.self.view_is there c.in-Some.ensures.value sits in
    let facts = c.in-Ok.ensures.facts settings r l now numbered in
    record {
      facts = facts;
      counted = more-installs seat given c.tick.new.self c.installs-installs.result _
          (same-seat s c.args.self.now xs seat given c.self.view_is there c.in-Some.ensures.value)
          c.installs-installs.ensures c.in-Ok.ensures.counted;
      moved = moves settings.window _ h s c.args.self.now xs seat c.tick.new.self
          c.installs-installs.result c.in-Ok.facts _ c.self.view_is there facts
          (c.in-Ok.ensures.stands settings r l now numbered) c.installs-installs.ensures;
      enough = c.in-Ok.ensures.enough settings r l now;
      drawn = c.in-Ok.ensures.drawn settings r l now;
    }

pub returns-in-Err-clause-spent : goal.returns-in-Err-clause-spent
returns-in-Err-clause-spent g c settings r seat l there sits =
    let s = c.args.place in
    let given = c.in-Some.seat.now in
    let now = is-the-seat settings.window l (receiving s r) s c.args.self.now c.self.inside.seats.items seat given
    c.self.view_is there c.in-Some.ensures.value sits in
    refused-tick c.in-Err.fault c.tick.result _ c.in-Err.is (c.tick.ensures.spent settings r l now)
