use Rattle.lan_core.specs.Lives.{receiving, heard_data}
use Rattle.lan_core.proofs.Admitted.{admitted-facts, admitted-sits}
use Rattle.lan_core.proofs.SeatMoved.{is-the-seat, same-seat, more-installs, moves}
use Rattle.lan_core.proofs.seats.Seats.admit.Goals as goal

pub returns : goal.returns
returns c settings r seat l octets there sits sec checked =
    let s = c.args.place in
    let n = c.args.number in
    let h = receiving s r in
    let given = c.in-Some.seat.now in
    let now = is-the-seat settings.window l h s c.args.self.now c.self.inside.seats.items seat given
    c.self.view_is there c.in-Some.ensures.value sits in
    let facts = admitted-facts settings s r n octets l _ sec (c.in_ok-facts.ensures.facts settings.window l h octets now checked) in
    let after = admitted-sits settings s r n octets l c.admit.new.self sec (c.in_ok-facts.ensures.stands settings.window l h octets now checked) in
    record {
      facts = facts;
      counted = more-installs seat given c.admit.new.self c.installs-installs.result _
          (same-seat s c.args.self.now c.self.inside.seats.items seat given c.self.view_is there c.in-Some.ensures.value)
          c.installs-installs.ensures c.in_ok-facts.ensures.counted;
      moved = moves settings.window _ (heard_data octets h) s c.args.self.now c.self.inside.seats.items seat
          c.admit.new.self c.installs-installs.result c.in_ok-facts.facts _ c.self.view_is there facts
          after c.installs-installs.ensures;
    }
