-- What holds in tidy worlds, by the laws of twin runs.
use Rattle.std.proofs.Common.{◌++◌, List, [], ◌∷◌, refl}
use Rattle.lan_base.specs.declared.frame.UserFrame.{UserFrame}
use Rattle.lan_core.specs.Fresh.{drawn_saks}
use Rattle.lan_core.specs.Ledgers.{births}
use Rattle.lan_core.proofs.Public.{counts-are}
use Rattle.cak_roll.specs.Twin.{IsTwinRun, merged, Pair, run_of, Twin}
use Rattle.twin_schedule.specs.World.{beginning}
use Rattle.twin_schedule.specs.Sound.{IsTidy}

pub tidy-beginning : IsTidy beginning
unfolding run_of merged births drawn_saks
tidy-beginning = record {
  legal = tt;
  fresh = record { mis = tt; saks = tt };
  waits = λ e. refl;
  lone = λ e. refl;
  draws = counts-are 0;
}

-- what happened before is a twin run too
pub run-before : (pair : Pair) (users : List UserFrame) (later t : Twin)
    → IsTwinRun pair users (later ++ t) → IsTwinRun pair users t
run-before pair users [] t run = run
run-before pair users (x ∷ later) t (step, before) = run-before pair users later t before
