-- A group with no station stands for the empty run.
use Rattle.std.proofs.Common.{List, [], None, refl, arith}
use Rattle.lan_base.specs.declared.frame.UserFrame.{UserFrame}
use Rattle.lan_core.specs.declared.settings.Settings.{Settings}
use Rattle.lan_core.specs.Run.{stations}
use Rattle.lan_core.specs.Ledgers.{air, installs}
use Rattle.lan_core.specs.Lives.{life, receiving}
use Rattle.lan_core.specs.Claims.{claimed}
use Rattle.lan_core.specs.Types.{IsSetting}
use Rattle.lan_core.specs.Stops.{draws_in, mi_number, sak_number}
use Rattle.aes_block.specs.declared.secret.Secret.{Secret}
use Rattle.aes_block.specs.declared.secret.Secret.TheVariants.{S128, S256}
use Rattle.std.proofs.Common.{◌≡◌}
use Rattle.lan_core.specs.Standing.{StandsFor, number_of_sak}

no_sak_yet : (sak : Secret) → number_of_sak (record { count = 0; mis = []; narrow = []; wide = [] }) sak ≡ None
no_sak_yet (S128 octets) = refl
no_sak_yet (S256 octets) = refl

pub stands-for-none : (settings : Settings) (users : List UserFrame) → IsSetting settings
    → StandsFor settings users (record {
      settings = settings;
      stopped = None;
      names = [];
      air = [];
      seats = [];
      waiting = [];
      ticks = 0;
      drawn = record { count = 0; mis = []; narrow = []; wide = [] };
    }) []
unfolding stations air installs life receiving claimed draws_in mi_number sak_number
stands-for-none settings users setting = record {
  set_up = refl;
  setting = setting;
  goes = refl;
  names = refl;
  on_air = refl;
  numbered = tt;
  seats = λ s. (refl, refl);
  waiting = refl;
  in_turn = omega arith;
  ticked = refl;
  drawn = record { count = refl; mis = λ mi. refl; saks = λ sak. no_sak_yet sak };
  within = record {
    frames = omega arith;
    octets = omega arith;
    ticks = omega arith;
    installs = λ s. omega arith;
    stations = omega arith;
  };
}
