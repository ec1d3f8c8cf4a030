-- The groups of a LAN, by their names and the keys that are derived of their CAKs (IEEE Std 802.1X,
-- 9.3.3).
use Rattle.std.specs.Prelude.{ℕ, nat_eq, ◌&&◌, Bool, List}
use lib.Pointwise.{pointwise}
use Rattle.aes_cmac.specs.Cmac.{cmac}
use Rattle.mka_kdf.specs.Kdf.{ick_of, kek_of}
use Rattle.mka_kdf.specs.declared.group.Group.{Group}
use Rattle.mkpdu_codec.specs.declared.spelled.Spelled.{Spelled}

-- the name of a group (CKN), its key encrypting key, and its integrity check key
pub record GroupKeys : Type 0 where
  pub ckn : List ℕ
  pub kek : List ℕ
  pub ick : List ℕ

-- a group without where it lies in memory
abbrev pub keys_of : Group → GroupKeys
keys_of group = record { ckn = group.ckn; kek = group.kek; ick = group.ick }

-- the group of a CAK and its CKN
abbrev pub derived_keys : List ℕ → List ℕ → GroupKeys
derived_keys cak ckn = record { ckn = ckn; kek = kek_of cak ckn; ick = ick_of cak ckn }

-- a group has this name
abbrev pub has_name : List ℕ → GroupKeys → Bool
has_name ckn group = pointwise nat_eq group.ckn ckn

-- A group has the name in an announcement, and its integrity check key gives the announcement's check
-- value over these octets.
abbrev pub gives_check : List ℕ → Spelled → GroupKeys → Bool
gives_check covered s group =
    has_name s.announcement.ckn group && pointwise nat_eq (cmac group.ick covered) s.check
