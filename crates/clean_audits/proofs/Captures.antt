-- Each run has a capture in which all gifts are unwrapped.
use Rattle.std.proofs.Common.{◌≡◌, ◌≤◌, ◌+◌, refl, sym, ap, ◌∙◌, subst, ℕ, List, [], ◌∷◌, length, true, false, Option, Some, None, Ok, arith}
use Rattle.std.proofs.lemmas.List.Elements.{All-cons, All-nil}
use Rattle.lan_base.specs.Ranges.{most_ticks}
use Rattle.lan_base.specs.declared.frame.UserFrame.{UserFrame}
use Rattle.mkpdu_codec.specs.declared.announcement.Announcement.{Announcement}
use Rattle.mkpdu_codec.specs.declared.given.Given.{Given}
use Rattle.packet_verdicts.specs.declared.given.Gift.{Gift}
use Rattle.packet_verdicts.specs.Given.{Gives, GivesBy}
use Rattle.packet_verdicts.specs.Groups.{derived_keys}
use Rattle.aes_block.specs.Secrets.{secret_octets}
use Rattle.capture_audit.specs.Before.{IsUnwrapped, Unwrapped, UnwrapsBy}
use Rattle.sak_exchange.specs.declared.due.Seen.{Seen}
use Rattle.mka_station.specs.Lives.{Entry, Member, Setup}
use Rattle.mka_station.specs.Views.{view}
use Rattle.mka_station.specs.Announcing.{announcement, given, offset}
use Rattle.mka_station.specs.Tick.{ticked_past}
use Rattle.lan_core.specs.declared.event.Event.TheVariants as events
use Rattle.lan_core.specs.declared.fact.Fact.{Fact}
use Rattle.lan_core.specs.declared.settings.Settings.{Settings}
use Rattle.lan_core.specs.Run.{happened, Run}
use Rattle.lan_core.specs.Ledgers.{air, Frame, framed, gather}
use Rattle.lan_core.specs.Lives.{Life, sak_in}
use Rattle.lan_core.specs.Order.{ticks}
use Rattle.lan_core.specs.Fresh.{IsFresh, IsUnforged}
use Rattle.lan_core.specs.Legal.{IsStepped}
use Rattle.group_safety.proofs.Public.{AreSound, given-is, installed-key, IsLiving, IsReady, known, latest-installed}
use Rattle.group_safety.proofs.Public.{said-now, tick-sound, tick_lowest, view-keys}
use Rattle.clean_audits.specs.Captured.{group_ring, IsPacketOf}
use Rattle.clean_audits.specs.Clean.{AreCaptured, HasCapture}
use Rattle.clean_audits.specs.Given.{group_kek}
use Rattle.clean_audits.proofs.Gifts.{IsSound}
use Rattle.clean_audits.proofs.GivenKeys.{gift-is, IsTick, said_by, secret-of, seen_by}
use Rattle.clean_audits.proofs.MkpdusRight.{sound-before, spoken-kind}
use Rattle.clean_audits.proofs.OnAir.{air-grown, nothing, Puts, puts, seals, speaks, spoken, sealed}
use Rattle.clean_audits.proofs.SealedFrames.{AreProtected, sealed-packet}
use Rattle.clean_audits.proofs.SealedStands.{able-to-send}

-- ---- what an announcement gives is unwrapped

gift-there : (settings : Settings) (users : List UserFrame) (s next : ℕ) (f : List Fact) (r : Run)
    (l : Life) (a : Announcement) → IsTick settings users s next f r l
    → said_by settings s next f r l ≡ Some a → (o : Option Gift) × Gives (group_kek settings) a o
gift-there settings users s next f r l a t said =
    let found = go (given m (view m q)) refl in (
      found.0,
      subst (λ w. GivesBy w a.mi a.given found.0) kek
          (subst (λ g. GivesBy m.setup.kek a.mi g found.0) (ap (λ (w : Announcement). w.given) now) found.1),
    )
  where
    m : Member
    m = l.member

    p : List Entry
    p = l.past

    seen : Seen
    seen = seen_by settings s next r l

    q : List Entry
    q = ticked_past m seen (sak_in f) p

    v : IsLiving settings r s l
    v = (known settings users r t.stepped.1 t.unforged.1).living s l t.living

    kek : m.setup.kek ≡ group_kek settings
    kek = ap (λ (w : Setup). w.kek) v.setup

    now : announcement m (tick_lowest m seen p) (view m q) ≡ a
    now = said-now m (tick_lowest m seen p) q (view m q) a said

    few : 1 + ticks r ≤ most_ticks
    few = t.stepped.0.within.ticks

    ready : IsReady m p (ticks r)
    ready = record { mi = v.mi; keys = v.keys; few = omega (arith, few) }

    sound : AreSound m.base m.mi (ticks r + 1) (view m q).keys
    sound = subst (AreSound m.base m.mi (ticks r + 1)) (sym (view-keys m q))
        (tick-sound m seen (sak_in f) p (ticks r) ready
        (λ key made. secret-of settings users s next f r l key t made))

    go : (o : Option Given) → given m (view m q) ≡ o
        → (g : Option Gift) × GivesBy m.setup.kek a.mi (given m (view m q)) g
    go None e = (None, subst (λ w. GivesBy m.setup.kek a.mi w None) (sym e) tt)
    go (Some g) e =
        let by = given-is m (view m q) g e in
        let key = by.key in
        let kept = installed-key m.base (view m q).keys key sound.keys
        (latest-installed (view m q).keys key by.last) in
        let gift : Gift = record {
          id = record { server = a.mi; number = key.id.number };
          an = key.an;
          offset = offset key;
          sak = Ok key.sak;
        } in (
          Some gift,
          subst (λ w. GivesBy m.setup.kek a.mi w (Some gift)) (sym (e ∙ ap (λ w. Some w) by.same))
              (gift-is m.setup.kek a.mi key kept.sak),
        )

-- ---- a packet for each frame

-- the packet of a frame, at the time 0
abbrev packet_of : Frame → Option Gift → Unwrapped
packet_of frame gift = record {
  packet = record {
    octets = frame.octets;
    head = record {
      original = length frame.octets;
      nanos = 0;
      is_untimed = false;
      is_ethernet = true;
    };
  };
  gift = gift;
}

is-packet : (frame : Frame) (gift : Option Gift) → IsPacketOf frame (packet_of frame gift).packet
is-packet frame gift = record { octets = refl; whole = refl; ethernet = refl }

-- one packet more
more : (settings : Settings) (frame : Frame) (u : Unwrapped) (fs earlier : List Frame)
    → fs ≡ frame ∷ earlier → IsPacketOf frame u.packet → IsUnwrapped (group_ring settings) u
    → HasCapture settings earlier → HasCapture settings fs
more settings frame u fs earlier grown is unwrapped h = record {
  packets = u ∷ h.packets;
  captured = subst (λ gs. AreCaptured gs (u ∷ h.packets)) (sym grown) (is, h.captured);
  unwrapped = All-cons (IsUnwrapped (group_ring settings)) u h.packets unwrapped h.unwrapped;
}

no-frames : (settings : Settings) → HasCapture settings (air [])
unfolding air
no-frames settings = record {
  packets = [];
  captured = tt;
  unwrapped = All-nil (IsUnwrapped (group_ring settings));
}

spoken-more : (settings : Settings) (users : List UserFrame) (s next : ℕ) (f : List Fact) (r : Run)
    (l : Life) (a : Announcement) (fs : List Frame) → IsTick settings users s next f r l
    → said_by settings s next f r l ≡ Some a → fs ≡ spoken r s l a ∷ air r
    → HasCapture settings (air r) → HasCapture settings fs
spoken-more settings users s next f r l a fs t said grown h =
    let g = gift-there settings users s next f r l a t said in
    let u = packet_of (spoken r s l a) g.0 in
    more settings (spoken r s l a) u fs (air r) grown (is-packet (spoken r s l a) g.0)
    (subst (UnwrapsBy (group_ring settings).groups g.0)
    (sym (spoken-kind settings users s next f r l a u.packet t said (is-packet (spoken r s l a) g.0)))
    (derived_keys (secret_octets settings.cak) settings.ckn, refl, g.1)) h

pub captures : AreProtected → (settings : Settings) (users : List UserFrame) (r : Run)
    → IsSound settings users r → HasCapture settings (air r)
captures laws settings users [] sound = no-frames settings
captures laws settings users (x ∷ r) sound =
    subst (HasCapture settings) (sym (air-grown x r))
    (go (puts settings users x r sound.stepped.0)
    (captures laws settings users r (sound-before settings users x r sound)))
  where
    go : Puts settings users r x.event x.facts → HasCapture settings (air r)
        → HasCapture settings (gather framed x.facts (air r))
    go (nothing same) h = subst (HasCapture settings) (sym same) h
    go (speaks s next l a ev living said grown) h =
        let whole : x ≡ happened (events.Tick s next) x.facts =
        λ i. record { event = ev i; facts = x.facts } in
        spoken-more settings users s next x.facts r l a (gather framed x.facts (air r)) (record {
          stepped = subst (λ y. IsStepped settings users (y ∷ r)) whole sound.stepped;
          fresh = subst (λ y. IsFresh (y ∷ r)) whole sound.fresh;
          unforged = subst (λ y. IsUnforged settings (y ∷ r)) whole sound.unforged;
          living = living;
        }) said grown h
    go (seals w p user ev waits placed given grown) h =
        let u = packet_of (sealed r w p user) None in
        let able = able-to-send settings users r w p user (sound-before settings users x r sound) waits placed given in
        more settings (sealed r w p user) u (gather framed x.facts (air r)) (air r) grown
        (is-packet (sealed r w p user) None)
        (subst (UnwrapsBy (group_ring settings).groups None)
        (sym (sealed-packet laws (group_ring settings).groups r w p user u.packet able
        (is-packet (sealed r w p user) None))) refl) h
