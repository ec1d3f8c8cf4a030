use Rattle.std.proofs.Common.{refl, arith}
use Rattle.sak_exchange.specs.Held.{latest, old}
use Rattle.sak_exchange.proofs.key_state.KeyState.new.Goals as goal

pub returns-clause-stands : goal.returns-clause-stands
unfolding latest old
returns-clause-stands c = record {
  kept = tt;
  numbered = tt;
  owner = refl;
  latest = refl;
  former = refl;
  roster = refl;
  epochs = omega arith;
  numbers = λ q. refl;
  made = refl;
  since_made = refl;
  last_an = refl;
}
