-- What the stations of a group hear is judged once for all of them.
use Rattle.std.specs.Prelude.{◌≡◌, ℕ, List, Option, IfSome, Result}
use Rattle.lan_base.specs.Ranges.{IsCkn}
use Rattle.aes_block.specs.Secrets.{secret_octets}
use Rattle.mkpdu_codec.specs.declared.announcement.Announcement.{Announcement}
use Rattle.mka_kdf.specs.declared.group.Group.{Group}
use Rattle.mka_kdf.specs.Kdf.{ick_of}
use Rattle.mka_station.specs.declared.verdict.DropReason.{DropReason}
use Rattle.mka_station.specs.Lives.{Setup}
use Rattle.mka_station.specs.Hearing.{judged}
use Rattle.lan_core.specs.declared.settings.Settings.{Settings}

-- a station is set up with the name and the integrity check key of a group
pub record IsOf (settings : Settings) (setup : Setup) : Type 0 where
  pub ckn : setup.ckn ≡ settings.ckn
  pub ick : setup.ick ≡ ick_of (secret_octets settings.cak) settings.ckn

-- each station of a group comes to this judgement of octets
abbrev pub IsJudged : Settings → List ℕ → Result Announcement DropReason → Type 0
IsJudged settings octets judgement =
    (setup : Setup) → IsOf settings setup → judgement ≡ judged setup octets

-- these are the keys of a group
abbrev pub HasKeys : Settings → Group → Type 0
HasKeys settings group =
    (group.ckn ≡ settings.ckn) × (group.ick ≡ ick_of (secret_octets settings.cak) settings.ckn)

-- what contracts see of a judge: whose it is, and what it judged last
pub record Judge : Type 0 where
  pub settings : Settings
  pub octets : List ℕ

-- a judge has a group whose name is what it may be, its keys, if any, and the judgement of what was
-- judged last
pub record IsJudge (settings : Settings) (group : Option Group) (octets : List ℕ)
    (judgement : Result Announcement DropReason) : Type 0 where
  pub named : IsCkn settings.ckn
  pub keys : IfSome group (HasKeys settings)
  pub judged : IsJudged settings octets judgement
