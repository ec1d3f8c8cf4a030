-- Each MKPDU that a run puts on the air is right under the ring of its group, and gives a key that the
-- run made.
use Rattle.std.proofs.Common.{◌≡◌, sym, ap, ◌∙◌, subst, inl, inr, ℕ, List, [], ◌∷◌, ◌++◌, length, false, Some, Ok}
use Rattle.std.proofs.lemmas.Bool.{true≢false}
use Rattle.lan_base.specs.declared.frame.UserFrame.{UserFrame}
use Rattle.aes_cmac.specs.Cmac.{cmac}
use Rattle.capture_packets.specs.Packets.{Seen}
use Rattle.mkpdu_codec.specs.declared.announcement.Announcement.{Announcement}
use Rattle.mkpdu_codec.specs.Reading.{reading}
use Rattle.mkpdu_codec.specs.Written.{written}
use Rattle.mkpdu_codec.proofs.Public.{read_again}
use Rattle.packet_verdicts.specs.declared.given.Gift.{Gift}
use Rattle.packet_verdicts.specs.declared.kind.Kind.TheVariants as kinds
use Rattle.packet_verdicts.specs.declared.kind.Mka.TheVariants as mkas
use Rattle.packet_verdicts.specs.Kinds.{packet_kind}
use Rattle.mka_station.specs.Lives.{Setup}
use Rattle.mka_station.specs.Views.{view}
use Rattle.mka_station.specs.Tick.{ticked_past}
use Rattle.lan_core.specs.declared.event.Event.TheVariants as events
use Rattle.lan_core.specs.declared.fact.Fact.{Fact}
use Rattle.lan_core.specs.declared.settings.Settings.{Settings}
use Rattle.lan_core.specs.Run.{Run, Happening, happened}
use Rattle.lan_core.specs.Ledgers.{Frame, air, framed, gather, install_of}
use Rattle.lan_core.specs.Lives.{Life, life, sak_in}
use Rattle.lan_core.specs.Legal.{IsStepped}
use Rattle.lan_core.specs.Fresh.{IsFresh, IsUnforged}
use Rattle.lan_core.proofs.Public.{front-fresh}
use Rattle.group_safety.specs.Once.{makes, shown_made}
use Rattle.group_safety.proofs.Public.{In, contains-in, in-contains, in-later, known}
use Rattle.group_safety.proofs.Public.{said-now, tick_lowest}
use Rattle.clean_audits.specs.Captured.{GivesMade, group_ring, IsPacketOf, IsRightMkpdu}
use Rattle.clean_audits.proofs.Gifts.{gives-made, IsSound, OneWrap}
use Rattle.clean_audits.proofs.GivenKeys.{IsTick, said_by, seen_by, spells-said}
use Rattle.clean_audits.proofs.OnAir.{air-grown, nothing, Puts, puts, seals, speaks, spoken}
use Rattle.clean_audits.proofs.RightMkpdus.{IsOfGroup, packet-kind, right-kind, spelled_of, spelled-type}

-- what is said at a tick is of the group
of-group : (settings : Settings) (users : List UserFrame) (s next : ℕ) (f : List Fact) (r : Run)
    (l : Life) (a : Announcement) → IsTick settings users s next f r l
    → said_by settings s next f r l ≡ Some a → IsOfGroup settings l.member.setup.ick a
of-group settings users s next f r l a t said =
    let v = (known settings users r t.stepped.1 t.unforged.1).living s l t.living in
    let seen = seen_by settings s next r l in
    let q = ticked_past l.member seen (sak_in f) l.past in
    let now = said-now l.member (tick_lowest l.member seen l.past) q (view l.member q) a said in
    record {
      key = ap (λ (w : Setup). w.ick) v.setup;
      named = sym (ap (λ (w : Announcement). w.ckn) now) ∙ ap (λ (w : Setup). w.ckn) v.setup;
    }

-- its packet is right
pub spoken-kind : (settings : Settings) (users : List UserFrame) (s next : ℕ) (f : List Fact) (r : Run)
    (l : Life) (a : Announcement) (packet : Seen) → IsTick settings users s next f r l
    → said_by settings s next f r l ≡ Some a → IsPacketOf (spoken r s l a) packet
    → packet_kind (group_ring settings).groups packet
    ≡ kinds.Mka (mkas.Right 1 (spelled_of l.member.setup.ick a))
spoken-kind settings users s next f r l a packet t said is =
    let ick = l.member.setup.ick in
    let spells = spells-said settings users s next f r l a t said in
    let again : reading (written a ++ cmac ick (written a)) ≡ Ok (spelled_of ick a) =
    read_again (written a ++ cmac ick (written a)) a (length (written a)) (cmac ick (written a)) spells in
    packet-kind (group_ring settings).groups (spoken r s l a) packet is
    (spelled-type (written a ++ cmac ick (written a)) (spelled_of ick a) again)
    ∙ right-kind settings ick a (of-group settings users s next f r l a t said) spells

gives-later : (x : Happening) (r : Run) (gift : Gift) → GivesMade r gift → GivesMade (x ∷ r) gift
unfolding makes
gives-later x r gift g = record {
  made = g.made;
  there = in-contains (makes (x ∷ r)) g.made
      (in-later install_of (shown_made x.facts x.event) (makes r) g.made
      (contains-in (makes r) g.made g.there));
  is = g.is;
}

right-later : (settings : Settings) (x : Happening) (r : Run) (packet : Seen)
    → IsRightMkpdu settings r packet → IsRightMkpdu settings (x ∷ r) packet
right-later settings x r packet m = record {
  spelled = m.spelled;
  kind = m.kind;
  gives = λ gift gives. gives-later x r gift (m.gives gift gives);
}

spoken-right : OneWrap → (settings : Settings) (users : List UserFrame) (s next : ℕ) (f : List Fact)
    (r : Run) (l : Life) (a : Announcement) (packet : Seen) → IsTick settings users s next f r l
    → said_by settings s next f r l ≡ Some a → IsPacketOf (spoken r s l a) packet
    → IsRightMkpdu settings (happened (events.Tick s next) f ∷ r) packet
spoken-right one settings users s next f r l a packet t said is = record {
  spelled = spelled_of l.member.setup.ick a;
  kind = spoken-kind settings users s next f r l a packet t said is;
  gives = λ gift gives. gives-made one settings users s next f r l a gift t said gives;
}

-- what comes before an event
pub sound-before : (settings : Settings) (users : List UserFrame) (x : Happening) (r : Run)
    → IsSound settings users (x ∷ r) → IsSound settings users r
sound-before settings users x r sound = record {
  stepped = sound.stepped.1;
  fresh = front-fresh (x ∷ []) r sound.fresh;
  unforged = sound.unforged.1;
}

none-sent : (frame : Frame) → In frame (air []) → ⊥
unfolding air
none-sent frame there = there

pub mkpdus-right : OneWrap → (settings : Settings) (users : List UserFrame) (r : Run) (frame : Frame)
    (packet : Seen) → IsSound settings users r → In frame (air r) → frame.sec ≡ false
    → IsPacketOf frame packet → IsRightMkpdu settings r packet
mkpdus-right one settings users [] frame packet sound there plain is = absurd (none-sent frame there)
mkpdus-right one settings users (x ∷ r) frame packet sound there plain is =
    go (puts settings users x r sound.stepped.0)
    (subst (λ w. In frame w) (air-grown x r) there)
    (λ there. right-later settings x r packet
    (mkpdus-right one settings users r frame packet (sound-before settings users x r sound) there plain is))
  where
    new : (s next : ℕ) (l : Life) (a : Announcement) → x.event ≡ events.Tick s next
        → life settings s r ≡ Some l → said_by settings s next x.facts r l ≡ Some a
        → frame ≡ spoken r s l a → IsRightMkpdu settings (x ∷ r) packet
    new s next l a ev living said same =
        let whole : x ≡ happened (events.Tick s next) x.facts =
        λ i. record { event = ev i; facts = x.facts } in
        subst (λ y. IsRightMkpdu settings (y ∷ r) packet) (sym whole)
        (spoken-right one settings users s next x.facts r l a packet (record {
          stepped = subst (λ y. IsStepped settings users (y ∷ r)) whole sound.stepped;
          fresh = subst (λ y. IsFresh (y ∷ r)) whole sound.fresh;
          unforged = subst (λ y. IsUnforged settings (y ∷ r)) whole sound.unforged;
          living = living;
        }) said (subst (λ w. IsPacketOf w packet) same is))

    go : Puts settings users r x.event x.facts → In frame (gather framed x.facts (air r))
        → (In frame (air r) → IsRightMkpdu settings (x ∷ r) packet)
        → IsRightMkpdu settings (x ∷ r) packet
    go (nothing same) there older = older (subst (λ w. In frame w) same there)
    go (speaks s next l a ev living said grown) there older =
        elim (subst (λ w. In frame w) grown there) [
          | inl same ↦ new s next l a ev living said same
          | inr later ↦ older later
        ]
    go (seals w p user ev waits placed given grown) there older =
        elim (subst (λ w. In frame w) grown there) [
          | inl same ↦ absurd (true≢false (sym (ap (λ (f : Frame). f.sec) same) ∙ plain))
          | inr later ↦ older later
        ]
