-- A packet that gives no key changes none that are known.
use Rattle.std.proofs.Common.{◌≡◌, ◌∙◌, ◌<◌, ℕ, false, List, ◌∷◌, ◌++◌, Some, None, refl, sym, ap, subst}
use Rattle.std.specs.Prelude.{Option, is_some}
use Rattle.gcm_frames.specs.declared.tag.Tag.{Tag}
use Rattle.key_ring.specs.Rings.{Ring}
use Rattle.known_keys.specs.History.{Entry}
use Rattle.mkpdu_codec.specs.declared.given.Given.{Given}
use Rattle.lan_base.specs.declared.address.Mi.{Mi}
use Rattle.packet_verdicts.specs.declared.given.Gift.{Gift}
use Rattle.packet_verdicts.specs.declared.given.Shown.{Shown}
use Rattle.packet_verdicts.specs.declared.given.ShownKeys.{ShownKeys}
use Rattle.packet_verdicts.specs.declared.kind.Kind.{Kind}
use Rattle.packet_verdicts.specs.declared.kind.Kind.TheVariants as kinds
use Rattle.packet_verdicts.specs.declared.kind.Mka.TheVariants as mkas
use Rattle.packet_verdicts.specs.Given.{GivesBy, shown_keys}
use Rattle.packet_verdicts.specs.Groups.{GroupKeys}
use Rattle.packet_verdicts.specs.Kinds.{packet_kind}
use Rattle.capture_audit.specs.Before.{IsUnwrapped, Unwrapped, UnwrapsBy, entries, entries_by, mkpdu_entries, number_behind, right_key, shown_entries}
use Rattle.capture_audit.specs.inside.Batches.{HaveSameKeys, distributes}
use Rattle.capture_audit.proofs.Behind.{mkpdu-behind, mkpdu-keys}

-- what gives nothing
gives-none : (kek : List ℕ) (mi : Mi) (given : Option Given) (gift : Option Gift) → is_some given ≡ false
    → GivesBy kek mi given gift → gift ≡ None
gives-none kek mi None None quiet is = refl
gives-none kek mi None (Some gift) quiet is = absurd is
gives-none kek mi (Some given) gift quiet is = absurd (cc quiet)

shown-right : (n nanos group : ℕ) (shown : Option Shown) (told : List Entry) (tag : Tag) (frame : List ℕ)
    → right_key (shown_entries n nanos group shown ++ told) tag frame ≡ right_key told tag frame
shown-right n nanos group None told tag frame = refl
shown-right n nanos group (Some shown) told tag frame = refl

itself : (told : List Entry) → HaveSameKeys told told
itself told = record { key_list = refl; right = λ tag frame. refl }

mkpdu-same : (n nanos group : ℕ) (shown : ShownKeys) (told : List Entry)
    → HaveSameKeys told (mkpdu_entries n nanos group shown None ++ told)
mkpdu-same n nanos group shown told = record {
  key_list = mkpdu-keys n nanos group shown None told;
  right = λ tag frame.
      ap (λ (es : List Entry). right_key es tag frame) (mkpdu-behind n nanos group shown None told)
      ∙ shown-right n nanos group shown.old (shown_entries n nanos group shown.latest ++ told) tag frame
      ∙ shown-right n nanos group shown.latest told tag frame;
}

quiet-same : (groups : List GroupKeys) (n nanos : ℕ) (gift : Option Gift) (k : Kind) (told : List Entry)
    → distributes k ≡ false → UnwrapsBy groups gift k → HaveSameKeys told (entries_by n nanos gift k ++ told)
quiet-same groups n nanos gift (kinds.Mka (mkas.Right group s)) told quiet is =
    let none = gives-none is.0.kek s.announcement.mi s.announcement.given gift quiet is.2 in
    subst (λ (g : Option Gift). HaveSameKeys told (mkpdu_entries n nanos group (shown_keys s.announcement.uses) g ++ told)) (sym none)
    (mkpdu-same n nanos group (shown_keys s.announcement.uses) told)
quiet-same groups n nanos gift (kinds.Mka (mkas.Unknown ckn sci gives)) told quiet is =
    record { key_list = refl; right = λ tag frame. refl }
quiet-same groups n nanos gift _ told quiet is = itself told

-- a packet that gives nothing changes no key, and none that is known
pub quiet-behind : (ring : Ring) (before : List Unwrapped) (u : Unwrapped) → IsUnwrapped ring u
    → distributes (packet_kind ring.groups u.packet) ≡ false → HaveSameKeys (entries ring before) (entries ring (u ∷ before))
quiet-behind ring before u is quiet =
    quiet-same ring.groups (number_behind before) u.packet.head.nanos u.gift (packet_kind ring.groups u.packet) (entries ring before) quiet is
