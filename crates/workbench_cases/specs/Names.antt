-- The names of the tests.
use Rattle.std.specs.Prelude.{ℕ, List, codes}
use Rattle.workbench_cases.specs.declared.ciphers.named.Test.{Test}
use Rattle.workbench_cases.specs.declared.ciphers.named.Test.TheVariants.{Block, Cmac, Gcm, LongKeyBlock, LongKeyGcm, Protect, Receive}
use Rattle.workbench_cases.specs.declared.ciphers.named.Frame.TheVariants.{Octets64, Octets512, Octets1500}

-- the name of a test
abbrev pub name : Test → List ℕ
name Block = codes "aes128_block"
name LongKeyBlock = codes "aes256_block"
name Cmac = codes "cmac_150"
name (Gcm Octets64) = codes "gcm_64"
name (Gcm Octets512) = codes "gcm_512"
name (Gcm Octets1500) = codes "gcm_1500"
name LongKeyGcm = codes "gcm256_1500"
name Protect = codes "protect_1500"
name Receive = codes "receive_1500"
