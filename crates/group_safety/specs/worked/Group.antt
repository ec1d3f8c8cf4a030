-- Three stations of one group, and the keys that alice makes.
use Rattle.std.specs.Prelude.{ℕ, ◌==◌, if◌then◌else◌, List, [], ◌∷◌, ◌++◌, replicate, false, true}
use Rattle.lan_base.specs.declared.association_number.AssociationNumber.TheVariants.{An0}
use Rattle.lan_base.specs.declared.address.Mi.{Mi}
use Rattle.lan_base.specs.declared.address.Sci.{Sci}
use Rattle.lan_base.specs.declared.key_id.KeyId.{KeyId}
use Rattle.lan_base.specs.declared.frame.UserFrame.{UserFrame}
use Rattle.lan_base.specs.declared.suite.Suite.TheVariants.{GcmAes128}
use Rattle.aes_block.specs.declared.secret.Secret.{Secret}
use Rattle.aes_block.specs.declared.secret.Secret.TheVariants.{S128}
use Rattle.sak_exchange.specs.declared.held_key.Key.{Key}
use Rattle.lan_core.specs.declared.settings.Settings.{Settings}
use Rattle.lan_core.specs.Run.{Profile}

abbrev pub settings : Settings
settings = record {
  cak = S128 (replicate 16 0);
  ckn = 1 ∷ 2 ∷ 3 ∷ 4 ∷ [];
  conf = true;
  early_flag = false;
  window = 0;
  rekey = 3221225472;
  suite = GcmAes128;
}

-- the member identifier of a draw
abbrev pub mi : ℕ → Mi
mi n = record { 0 = replicate 11 0 ++ n ∷ [] }

abbrev pub sci : ℕ → Sci
sci n = record { 0 = 2 ∷ 0 ∷ 0 ∷ 0 ∷ 0 ∷ n ∷ 0 ∷ 1 ∷ [] }

abbrev pub alice : Profile
alice = record { name = 65 ∷ []; sci = sci 10; priority = 16 }

abbrev pub bob : Profile
bob = record { name = 66 ∷ []; sci = sci 11; priority = 32 }

abbrev pub carol : Profile
carol = record { name = 67 ∷ []; sci = sci 12; priority = 64 }

-- alice is station 0, bob station 1 and carol station 2
abbrev pub profile : ℕ → Profile
profile s = if s == 0 then alice else if s == 1 then bob else carol

-- the SAK of a draw
abbrev pub octets_of_sak : ℕ → List ℕ
octets_of_sak n = replicate 15 0 ++ n ∷ []

abbrev pub sak : ℕ → Secret
sak n = S128 (octets_of_sak n)

-- which draw is the SAK of the key of a number
abbrev pub draw_of : ℕ → ℕ
draw_of number = if number == 1 then 3 else 5

-- the identifiers of alice's keys
abbrev pub id : ℕ → KeyId
id n = record { server = mi 1; number = n }

abbrev pub first_key : Key
first_key = record { id = id 1; an = An0; sak = sak 3; conf = true; epoch = 1 }

-- what bob sends
abbrev pub user : UserFrame
user = record { destination = record { 0 = replicate 6 1 }; body = 8 ∷ 0 ∷ 1 ∷ [] }
