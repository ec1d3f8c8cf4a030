-- The beginning is tidy.
use Rattle.std.proofs.Common.{List, [], refl, arith}
use Rattle.std.specs.Prelude.{false}
use Rattle.lan_core.specs.Run.{stations}
use Rattle.lan_core.specs.Ledgers.{air, installs}
use Rattle.lan_core.specs.Claims.{claimed, next}
use Rattle.trace_acts.proofs.Public.{counted-draws}
use Rattle.lan_schedule.specs.Races.{Chance}
use Rattle.lan_schedule.specs.World.{beginning, settings}
use Rattle.lan_schedule.specs.Sound.{IsTidy}
use Rattle.lan_schedule.proofs.LinesCome.{sound-empty}

pub tidy-beginning : (chances : List Chance) → IsTidy (beginning chances)
unfolding air installs stations claimed next
tidy-beginning chances = record {
  sound = sound-empty false (settings (beginning chances)) [];
  within = record {
    frames = omega arith;
    octets = omega arith;
    ticks = omega arith;
    installs = λ s. omega arith;
    stations = omega arith;
  };
  frames = refl;
  numbered = tt;
  in_turn = omega arith;
  few = λ e s epoch. omega arith;
  unspent = tt;
  waits = λ e. refl;
  draws = counted-draws;
  dealt = λ k d lt. absurd (omega arith);
}
