-- What an event puts on the air: nothing, what a station says at a tick, or the frame of a claim.
use Rattle.std.proofs.Common.{◌≡◌, refl, sym, ap, ◌∙◌, ℕ, List, [], ◌∷◌, ◌++◌, Bool, true, false}
use Rattle.std.proofs.Common.{cond, Option, Some, None, Result, Ok, Err}
use Rattle.std.specs.Prelude.{◌==◌, option_map, slice_get}
use Rattle.lan_base.specs.declared.address.Mi.{Mi}
use Rattle.lan_base.specs.declared.frame.UserFrame.{UserFrame}
use Rattle.gcm_frames.specs.Tags.{is_sec}
use Rattle.mkpdu_codec.specs.declared.announcement.Announcement.{Announcement}
use Rattle.sak_exchange.specs.declared.held_key.Key.{Key}
use Rattle.mka_station.specs.declared.verdict.DropReason.{DropReason}
use Rattle.mka_station.specs.Lives.{Member, Entry}
use Rattle.mka_station.specs.Announcing.{frame_of}
use Rattle.mka_station.specs.Hearing.{frame_turn, hear_turn, heard_turn, judged}
use Rattle.mka_station.specs.Restart.{ending}
use Rattle.mka_station.specs.Tick.{says_at}
use Rattle.lan_core.specs.declared.event.Event.{Event}
use Rattle.lan_core.specs.declared.event.Event.TheVariants as events
use Rattle.lan_core.specs.declared.fact.Fact.{Fact}
use Rattle.lan_core.specs.declared.fact.Fact.TheVariants as facts
use Rattle.lan_core.specs.declared.settings.Settings.{Settings}
use Rattle.lan_core.specs.Run.{Run, Happening, Profile, stations}
use Rattle.lan_core.specs.Ledgers.{Frame, air, framed, gather, next_frame}
use Rattle.lan_core.specs.Lives.{Life, life, receiving, sak_in, seen_at, transmitting_at}
use Rattle.lan_core.specs.Claims.{Waiting, frame_by, frame_of_claim, user_at, waiting}
use Rattle.lan_core.specs.Expected.{claim_fact, emit_facts, lack, number_fact, reached_facts, reaction_facts, restart_facts, tick_facts}
use Rattle.rx_slots.specs.Numbers.{answer}
use Rattle.lan_core.specs.Legal.{IsStep}
use Rattle.lan_core.proofs.Public.{reaction-air, sending}
use Rattle.group_safety.proofs.Public.{kind, chained, mapped, sent_frame, tick-gist}
use Rattle.group_safety.proofs.Public as kinds

-- the frame of what a station says
abbrev pub spoken : Run → ℕ → Life → Announcement → Frame
spoken r s l a = record {
  number = next_frame r;
  station = s;
  sec = false;
  octets = frame_of l.member.setup a;
}

-- the frame of a claim
abbrev pub sealed : Run → Waiting → Profile → UserFrame → Frame
sealed r w p user = record {
  number = next_frame r;
  station = w.station;
  sec = true;
  octets = frame_by w p user;
}

pub data Puts (settings : Settings) (users : List UserFrame) (r : Run) (e : Event) (f : List Fact) :
    Type 0 where
  nothing : gather framed f (air r) ≡ air r → Puts settings users r e f
  speaks : (s next : ℕ) (l : Life) (a : Announcement) → e ≡ events.Tick s next
      → life settings s r ≡ Some l
      → says_at l.member (seen_at settings s r l next) (sak_in f) l.past ≡ Some a
      → gather framed f (air r) ≡ spoken r s l a ∷ air r → Puts settings users r e f
  seals : (w : Waiting) (p : Profile) (user : UserFrame) → e ≡ events.Emit
      → waiting settings r ≡ Some w → slice_get (stations r) w.station ≡ Some p
      → user_at users w.user ≡ Some user
      → gather framed f (air r) ≡ sealed r w p user ∷ air r → Puts settings users r e f

-- ---- what hears or ends is silent

hear-sends : (m : Member) (a : Announcement) (p : List Entry) (s heard : ℕ)
    → sending s heard (hear_turn m a p).reaction ≡ []
unfolding hear_turn
hear-sends m a p s heard = refl

frame-sends : (m : Member) (octets : List ℕ) (p : List Entry) (s sent : ℕ)
    → sending s sent (frame_turn m octets p).reaction ≡ []
frame-sends m octets p s sent = go (judged m.setup octets)
  where
    go : (o : Result Announcement DropReason) → sending s sent (heard_turn m o p).reaction ≡ []
    go (Ok a) = hear-sends m a p s sent
    go (Err reason) = refl

end-sends : (m : Member) (p : List Entry) (s sent : ℕ) → sending s sent (ending m p) ≡ []
unfolding ending
end-sends m p s sent = refl

reached-air : (settings : Settings) (s number : ℕ) (octets : List ℕ) (r : Run) (l : Life)
    (fs : List Frame) → gather framed (reached_facts settings s r number octets l) fs ≡ fs
reached-air settings s number octets r l fs = go (is_sec octets)
  where
    go : (b : Bool)
        → gather framed (cond b
        (facts.Arrived number s (answer l.member.setup.sci settings.window (receiving s r) octets) ∷ [])
        (reaction_facts s number 0 (frame_turn l.member octets l.past).reaction)) fs ≡ fs
    go true = refl
    go false = reaction-air s number 0 (frame_turn l.member octets l.past).reaction fs
        ∙ ap (λ f. gather framed f fs) (frame-sends l.member octets l.past s 0)

restart-air : (s : ℕ) (mi : Mi) (l : Life) (fs : List Frame)
    → gather framed (restart_facts s mi l) fs ≡ fs
restart-air s mi l fs =
    reaction-air s 0 0 (ending l.member l.past) fs
    ∙ ap (λ f. gather framed f fs) (end-sends l.member l.past s 0)

-- ---- a claim is silent

claim-air : (settings : Settings) (s : ℕ) (r : Run) (pn : ℕ) (k : Option Key) (fs : List Frame)
    → gather framed (claim_fact settings s r pn k ∷ []) fs ≡ fs
claim-air settings s r pn k fs = go (pn == 0) k
  where
    go : (b : Bool) (o : Option Key)
        → gather framed (cond b (facts.Unclaimed s (lack settings s r k)) (number_fact s pn o) ∷ []) fs
        ≡ fs
    go true o = refl
    go false None = refl
    go false (Some n) = refl

-- ---- each event

ticks-puts : (settings : Settings) (users : List UserFrame) (r : Run) (e : Event) (f : List Fact)
    (s next : ℕ) (l : Life) → e ≡ events.Tick s next → life settings s r ≡ Some l
    → f ≡ tick_facts settings s r next (sak_in f) l → Puts settings users r e f
ticks-puts settings users r e f s next l ev living is =
    go (says_at l.member (seen_at settings s r l next) (sak_in f) l.past) refl
  where
    added : gather framed f (air r) ≡ sent_frame (next_frame r) s
        (option_map (frame_of l.member.setup)
        (says_at l.member (seen_at settings s r l next) (sak_in f) l.past)) ++ air r
    added = ap (λ g. gather framed g (air r)) is ∙ (tick-gist settings s r next (sak_in f) l).air (air r)

    go : (o : Option Announcement)
        → says_at l.member (seen_at settings s r l next) (sak_in f) l.past ≡ o
        → Puts settings users r e f
    go None said = nothing
        (added ∙ ap (λ o. sent_frame (next_frame r) s (option_map (frame_of l.member.setup) o) ++ air r) said)
    go (Some a) said = speaks s next l a ev living said
        (added ∙ ap (λ o. sent_frame (next_frame r) s (option_map (frame_of l.member.setup) o) ++ air r) said)

emits-puts : (settings : Settings) (users : List UserFrame) (r : Run) (e : Event) (f : List Fact)
    (w : Waiting) → e ≡ events.Emit → waiting settings r ≡ Some w → emit_facts users r w ≡ Some f
    → Puts settings users r e f
emits-puts settings users r e f w ev waits is =
    let octets = mapped (λ octets. facts.Framed (next_frame r) w.station true octets ∷ [])
    (frame_of_claim users r w) f is in
    let p = chained (λ p. option_map (frame_by w p) (user_at users w.user))
    (slice_get (stations r) w.station) octets.0 octets.1 in
    let user = mapped (frame_by w p.0) (user_at users w.user) octets.0 p.2 in
    seals w p.0 user.0 ev waits p.1 user.1
    (ap (λ g. gather framed g (air r)) (sym octets.2)
    ∙ ap (λ o. record { number = next_frame r; station = w.station; sec = true; octets = o } ∷ air r)
    (sym user.2))

pub puts : (settings : Settings) (users : List UserFrame) (x : Happening) (r : Run)
    → IsStep settings users x r → Puts settings users r x.event x.facts
puts settings users x r step = elim (kind settings users x r step) [
  | kinds.starts name sci priority mi ev is ↦ nothing (ap (λ g. gather framed g (air r)) is)
  | kinds.ticks s next l ev living is ↦ ticks-puts settings users r x.event x.facts s next l ev living is
  | kinds.reached s number octets l came living is ↦
      nothing (ap (λ g. gather framed g (air r)) is ∙ reached-air settings s number octets r l (air r))
  | kinds.restarts s mi l ev drawn living is ↦
      nothing (ap (λ g. gather framed g (air r)) is ∙ restart-air s mi l (air r))
  | kinds.claims s user pn ev is ↦
      nothing (ap (λ g. gather framed g (air r)) is
      ∙ claim-air settings s r pn (transmitting_at settings s r) (air r))
  | kinds.emits w ev waits is ↦ emits-puts settings users r x.event x.facts w ev waits is
]

pub air-grown : (x : Happening) (r : Run) → air (x ∷ r) ≡ gather framed x.facts (air r)
unfolding air
air-grown x r = refl
