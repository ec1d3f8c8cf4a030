-- How the numbers of draws are kept with what they gave.
use Rattle.std.specs.Prelude.{◌≡◌, ℕ, ◌+◌, if◌then◌else◌, Option, Some, None, option_map}
use Rattle.lan_base.specs.declared.address.Mi.{Mi}
use Rattle.aes_block.specs.declared.secret.Secret.{Secret}
use Rattle.lan_core.specs.declared.stop.Stop.{Stop}
use Rattle.lan_core.specs.declared.stop.Stop.TheVariants.{RepeatedDraw}
use Rattle.aes_block.specs.Secrets.{same_secret}
use Rattle.lan_core.specs.Standing.{Numbers, number_of_mi, number_of_sak}
use Rattle.lan_core.specs.Noting.{SakIsNoted}

-- the stop of a draw whose value was given before by the draw of this number
abbrev pub stop_of : Numbers → Option ℕ → Option Stop
stop_of drawn before = option_map (λ first. RepeatedDraw first (drawn.count + 1)) before

-- a key has this number now, and all else is as before
pub record SakIsKept (number : ℕ) (old new : Numbers) (sak : Secret) : Type 0 where
  pub count : new.count ≡ old.count
  pub mis : (m : Mi) → number_of_mi new m ≡ number_of_mi old m
  pub saks : (s : Secret) → number_of_sak new s
      ≡ (if same_secret s sak then Some number else number_of_sak old s)

-- a key was drawn, if any
abbrev pub IfNoted : ℕ → Numbers → Numbers → Option Secret → Type 0
IfNoted draws old new None = new ≡ old
IfNoted draws old new (Some sak) = SakIsNoted draws old new sak
