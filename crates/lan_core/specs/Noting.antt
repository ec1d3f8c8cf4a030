-- A table of draws after a draw more.
use Rattle.std.specs.Prelude.{◌≡◌, ℕ, ◌+◌, if◌then◌else◌, Some}
use Rattle.lan_base.specs.declared.address.Mi.{Mi}
use Rattle.lan_base.specs.Identifiers.{same_mi}
use Rattle.aes_block.specs.declared.secret.Secret.{Secret}
use Rattle.aes_block.specs.Secrets.{same_secret}
use Rattle.lan_core.specs.Standing.{Numbers, number_of_mi, number_of_sak}

-- a member identifier was drawn
pub record MiIsNoted (old new : Numbers) (mi : Mi) : Type 0 where
  pub count : new.count ≡ old.count + 1
  pub mis : (m : Mi) → number_of_mi new m
      ≡ (if same_mi m mi then Some (old.count + 1) else number_of_mi old m)
  pub saks : (sak : Secret) → number_of_sak new sak ≡ number_of_sak old sak

-- a key was drawn, by so many draws
pub record SakIsNoted (draws : ℕ) (old new : Numbers) (sak : Secret) : Type 0 where
  pub count : new.count ≡ old.count + draws
  pub mis : (m : Mi) → number_of_mi new m ≡ number_of_mi old m
  pub saks : (s : Secret) → number_of_sak new s
      ≡ (if same_secret s sak then Some (old.count + 1) else number_of_sak old s)
