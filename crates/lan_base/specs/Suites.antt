-- Cipher suites (IEEE Std 802.1AE, clause 14), by the length of their keys. How many values are
-- drawn for a key is this profile's own rule.
use Rattle.std.specs.Prelude.{ℕ, ◌==◌, if◌then◌else◌, Option, Some, None}
use Rattle.lan_base.specs.declared.suite.Suite.{Suite}
use Rattle.lan_base.specs.declared.suite.Suite.TheVariants.{GcmAes128, GcmAes256}

-- how many bits a key has
abbrev pub key_bits : Suite → ℕ
key_bits GcmAes128 = 128
key_bits GcmAes256 = 256

-- the suite whose keys have so many bits, where there is one
abbrev pub suite_of : ℕ → Option Suite
suite_of bits =
    if bits == 128 then Some GcmAes128
    else if bits == 256 then Some GcmAes256
    else None

-- how many draws of 128 bits a key is made of
abbrev pub sak_draws : Suite → ℕ
sak_draws GcmAes128 = 1
sak_draws GcmAes256 = 2
