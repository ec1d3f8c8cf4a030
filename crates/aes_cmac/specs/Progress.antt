-- What a CMAC in the making stands for.
use Rattle.std.specs.Prelude.{◌≡◌, ℕ, List}
use Rattle.aes_cmac.specs.Cmac.{block, before_last, chain_after}

-- a key, the chain after the blocks that were enciphered, and the octets behind these
pub record Progress : Type 0 where
  pub key : List ℕ
  pub chain : List ℕ
  pub rest : List ℕ

-- all of this message has come under this key: the blocks before the last one were enciphered, and
-- the last one waits
pub record Holds (p : Progress) (key message : List ℕ) : Type 0 where
  pub under : p.key ≡ key
  pub enciphered : p.chain ≡ chain_after key message (before_last message)
  pub waits : p.rest ≡ block message (before_last message)
