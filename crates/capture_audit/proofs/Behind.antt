-- What packets behind others add to what was told.
use Rattle.std.proofs.Common.{◌≡◌, ◌∙◌, ◌+◌, ℕ, suc, List, [], ◌∷◌, ◌++◌, length, Some, None, refl, ap, subst, arith, append_assoc}
use Rattle.std.specs.Prelude.{Option, option_map}
use Rattle.capture_packets.specs.Packets.{Seen}
use Rattle.key_ring.specs.Rings.{Ring}
use Rattle.known_keys.specs.History.{Entry, keys}
use Rattle.packet_verdicts.specs.declared.given.Gift.{Gift}
use Rattle.packet_verdicts.specs.declared.given.Shown.{Shown}
use Rattle.packet_verdicts.specs.declared.given.ShownKeys.{ShownKeys}
use Rattle.packet_verdicts.specs.declared.kind.Kind.{Kind}
use Rattle.packet_verdicts.specs.declared.kind.Kind.TheVariants as kinds
use Rattle.packet_verdicts.specs.declared.kind.Sec.TheVariants as secs
use Rattle.use_notes.specs.declared.frame.RightFrame.{RightFrame}
use Rattle.use_notes.specs.Frames.{IsBehind}
use Rattle.capture_audit.specs.Before.{Unwrapped, entries, frame_by, frames, gift_entries, kind_in, mkpdu_entries, number_behind, right_key, right_under, shown_entries, with_some}
use Rattle.capture_audit.specs.Telling.{all_told}
use Rattle.packet_verdicts.specs.Frames.{frame_of}

-- ---- entries

pub shown-keys : (n nanos group : ℕ) (shown : Option Shown) (told : List Entry)
    → keys (shown_entries n nanos group shown ++ told) ≡ keys told
shown-keys n nanos group None told = refl
shown-keys n nanos group (Some shown) told = refl

pub mkpdu-behind : (n nanos group : ℕ) (shown : ShownKeys) (gift : Option Gift) (told : List Entry)
    → mkpdu_entries n nanos group shown gift ++ told
    ≡ shown_entries n nanos group shown.old ++ (shown_entries n nanos group shown.latest ++ (gift_entries n nanos group gift ++ told))
mkpdu-behind n nanos group shown gift told =
    append_assoc (shown_entries n nanos group shown.old)
    (shown_entries n nanos group shown.latest ++ gift_entries n nanos group gift) told
    ∙ ap (λ (es : List Entry). shown_entries n nanos group shown.old ++ es)
    (append_assoc (shown_entries n nanos group shown.latest) (gift_entries n nanos group gift) told)

-- what is shown makes no key
pub mkpdu-keys : (n nanos group : ℕ) (shown : ShownKeys) (gift : Option Gift) (told : List Entry)
    → keys (mkpdu_entries n nanos group shown gift ++ told) ≡ keys (gift_entries n nanos group gift ++ told)
mkpdu-keys n nanos group shown gift told =
    ap (λ (es : List Entry). keys es) (mkpdu-behind n nanos group shown gift told)
    ∙ shown-keys n nanos group shown.old (shown_entries n nanos group shown.latest ++ (gift_entries n nanos group gift ++ told))
    ∙ shown-keys n nanos group shown.latest (gift_entries n nanos group gift ++ told)

-- ---- numbers

pub told-length : (ring : Ring) (before : List Unwrapped) → length (all_told ring before) ≡ length before
told-length ring [] = refl
told-length ring (u ∷ before) = ap suc (told-length ring before)

-- ---- right frames stand behind each other

pub behind-one : (n : ℕ) (h : List RightFrame) → IsBehind n h → IsBehind (n + 1) h
behind-one n [] is = omega (arith, is)
behind-one n (e ∷ h) is = let here = is.0 in (omega (arith, here), behind-one n h is.1)

mapped-behind : (n : ℕ) (o : Option ℕ) (make : ℕ → RightFrame) → ((k : ℕ) → (make k).packet ≡ n)
    → (h : List RightFrame) → IsBehind n h → IsBehind (n + 1) (with_some (option_map make o) h)
mapped-behind n None make is h behind = behind-one n h behind
mapped-behind n (Some k) make is h behind =
    let p = is k in (omega (arith, p), behind-one n h behind)

frame-behind : (n nanos : ℕ) (told : List Entry) (packet : Seen) (kind : Kind) (h : List RightFrame) → IsBehind n h
    → IsBehind (n + 1) (with_some (frame_by told n packet kind) h)
frame-behind n nanos told packet kinds.Foreign h is = behind-one n h is
frame-behind n nanos told packet kinds.Other h is = behind-one n h is
frame-behind n nanos told packet (kinds.Mka mka) h is = behind-one n h is
frame-behind n nanos told packet (kinds.Sec secs.Cut) h is = behind-one n h is
frame-behind n nanos told packet (kinds.Sec (secs.Malformed why)) h is = behind-one n h is
frame-behind n nanos told packet (kinds.Sec (secs.Protected tag check)) h is =
    mapped-behind n (right_key told tag (frame_of packet.octets)) (right_under n packet.head.nanos tag check) (λ k. refl) h is

-- a packet stands behind the right frames before it
pub frames-behind : (ring : Ring) (before : List Unwrapped) → IsBehind (number_behind before) (frames ring before)
frames-behind ring [] = omega arith
frames-behind ring (u ∷ before) =
    let e : number_behind before + 1 ≡ number_behind (u ∷ before) = omega arith in
    subst (λ n. IsBehind n (frames ring (u ∷ before))) e
    (frame-behind (number_behind before) u.packet.head.nanos (entries ring before) u.packet (kind_in ring u)
    (frames ring before) (frames-behind ring before))
