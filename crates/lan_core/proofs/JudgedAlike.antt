-- The stations of a group judge octets alike.
use Rattle.std.proofs.Common.{◌≡◌, ◌∙◌, ℕ, List, [], refl, ap, sym, subst}
use Rattle.std.specs.Prelude.{Result, Err}
use Rattle.aes_block.specs.Secrets.{secret_octets}
use Rattle.mkpdu_codec.specs.declared.announcement.Announcement.{Announcement}
use Rattle.mkpdu_codec.specs.declared.refusal.Refusal.TheVariants.{NotMka}
use Rattle.mkpdu_codec.specs.Reading.{reading, parts_at}
use Rattle.mka_kdf.specs.Kdf.{ick_of}
use Rattle.mka_station.specs.declared.verdict.DropReason.{DropReason}
use Rattle.mka_station.specs.declared.verdict.DropReason.TheVariants.{Unspelled}
use Rattle.mka_station.specs.Lives.{Setup}
use Rattle.mka_station.specs.Hearing.{judged}
use Rattle.lan_core.specs.declared.settings.Settings.{Settings}
use Rattle.lan_core.specs.Run.{Profile}
use Rattle.lan_core.specs.Lives.{setup_of}
use Rattle.lan_core.specs.inside.Judge.{IsOf, IsJudged, Judge}

-- no octets are no frame of key agreement
pub nothing-judged : (settings : Settings) → IsJudged settings [] (Err (Unspelled NotMka))
unfolding judged reading parts_at
nothing-judged settings setup of = refl

-- what a judge makes of octets, a station of its group does
pub as-judged : (before after : Judge) (octets : List ℕ) (j : Result Announcement DropReason)
    → after.settings ≡ before.settings → after.octets ≡ octets
    → IsJudged after.settings after.octets j → (setup : Setup) → IsOf before.settings setup
    → j ≡ judged setup octets
as-judged before after octets j kept turned is setup of =
    is setup (subst (λ q. IsOf q setup) (sym kept) of) ∙ ap (λ o. judged setup o) turned

-- a station of a group is set up as one
pub set-up-alike : (own settings : Settings) (p : Profile) (setup : Setup) → own ≡ settings
    → setup ≡ setup_of settings p → IsOf own setup
set-up-alike own settings p setup same is = record {
  ckn = ap (λ (x : Setup). x.ckn) is ∙ ap (λ (q : Settings). q.ckn) (sym same);
  ick = ap (λ (x : Setup). x.ick) is ∙ ap (λ (q : Settings). ick_of (secret_octets q.cak) q.ckn) (sym same);
}
