use Rattle.std.proofs.Common.{◌≡◌, ◌≤◌, ◌-◌, ◌^◌, ℕ, List}
use Rattle.capture_packets.specs.Packets.{Seen}
use Rattle.capture_packets.specs.Captures.{Told}
use Rattle.capture_packets.specs.Reading.{TellsOn}
use Rattle.capture_packets.proofs.reader.PacketReader.read.Given as goal

abbrev pub invariant-loop : goal.invariant-loop
invariant-loop g l =
    let left = g.S.Source.left in
    let faults = g.S.Source.faults in
    record {
      tells : (limit : ℕ) (text : List ℕ) (packets : List Seen) (t : Told)
          → TellsOn limit text l.fn.self (left l.fn.source) packets t → TellsOn limit text l.self (left l.source) packets t;
      start : l.self.start ≡ l.fn.self.start;
      given : l.fn.self.supply.given ≤ l.self.supply.given;
      counts : faults l.fn.source ≤ faults l.source;
    }

abbrev pub decreases-loop : goal.decreases-loop
decreases-loop g l = 2 ^ 32 - l.self.supply.given
