use Rattle.lan_core.specs.Lives.{receiving, heard_data}
use Rattle.lan_core.proofs.SeatMoved.{is-the-seat, same-seat, more-installs, moves}
use Rattle.lan_core.proofs.seats.Seats.reach.Goals as goal

pub returns-clause-event_facts : goal.returns-clause-event_facts
returns-clause-event_facts c settings r seat l there sits of =
    let s = c.args.place in
    let h = receiving s r in
    let given = c.in-Some.seat.now in
    let now = is-the-seat settings.window l h s c.args.self.now c.self.inside.seats.items seat given
    c.self.view_is there c.in-Some.ensures.value sits in
    let facts = c.in_ok-facts.ensures.facts settings r l now of in
    record {
      facts = facts;
      counted = more-installs seat given c.reach.new.self c.installs-installs.result _
          (same-seat s c.args.self.now c.self.inside.seats.items seat given c.self.view_is there c.in-Some.ensures.value)
          c.installs-installs.ensures c.in_ok-facts.ensures.counted;
      moved = moves settings.window _ (heard_data c.args.octets.now h) s c.args.self.now c.self.inside.seats.items seat
          c.reach.new.self c.installs-installs.result c.in_ok-facts.facts _ c.self.view_is there facts
          (c.in_ok-facts.ensures.stands settings r l now of) c.installs-installs.ensures;
    }
