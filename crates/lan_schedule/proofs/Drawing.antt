-- Draws that are still to come are 16 octets each.
use Rattle.lan_core.specs.Unstopped.{AreDraws}
use Rattle.trace_acts.specs.Settings.{rule_of}
use Rattle.trace_acts.proofs.Public.{taken-draws}
use Rattle.lan_schedule.specs.World.{World}
use Rattle.lan_schedule.specs.Answers.{supply}
use Rattle.lan_schedule.specs.Sound.{IsTidy}

-- what is still to come
pub supply-draws : (w : World) → IsTidy w → AreDraws (supply w)
supply-draws w tidy = taken-draws (rule_of w.kept.chosen) w.kept.taken tidy.draws
