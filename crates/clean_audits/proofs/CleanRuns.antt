-- The audit of the capture of a run is clean.
use Rattle.std.proofs.Common.{◌≡◌, refl, sym, ap, ◌∙◌, subst, ℕ, List, [], ◌∷◌, Option, Some, None}
use Rattle.std.specs.Prelude.{All, Contains, map, option_map}
use Rattle.std.specs.Option.{option_or}
use Rattle.std.proofs.lemmas.List.Elements.{All-head, All-tail}
use Rattle.lan_base.specs.declared.frame.UserFrame.{UserFrame}
use Rattle.audit_report.specs.Verdicts.{Verdict}
use Rattle.aes_block.specs.Secrets.{secret_octets}
use Rattle.known_keys.specs.History.{keys}
use Rattle.known_keys.specs.OneKey.{BreaksOneKey}
use Rattle.packet_verdicts.specs.Right.{key_numbered}
use Rattle.least_pairs.specs.Pairs.{IsJudged}
use Rattle.use_notes.specs.declared.frame.RightFrame.{RightFrame}
use Rattle.use_notes.specs.Frames.{AreInOrder, novelty_in}
use Rattle.use_notes.specs.Once.{BreaksOnce, first_reuse, reuse_by}
use Rattle.capture_audit.specs.Before.{entries, frames, IsUnwrapped, Unwrapped}
use Rattle.capture_audit.specs.Telling.{IsVerdict, noted}
use Rattle.capture_audit.proofs.Public.{each-member}
use Rattle.audit_facts.specs.Noted.{spoken_of}
use Rattle.member_notes.specs.declared.facts.Member.{Member}
use Rattle.member_notes.specs.Spoken.{Spoken}
use Rattle.lan_core.specs.declared.event.Event.TheVariants as events
use Rattle.lan_core.specs.declared.settings.Settings.{Settings}
use Rattle.lan_core.specs.Claims.{claimed}
use Rattle.lan_core.specs.Run.{Happening, happened, Profile, Run}
use Rattle.lan_core.specs.Counted.{AreCounted}
use Rattle.lan_core.specs.Ledgers.{air, claims, Frame, framed, gather, install_of, installs}
use Rattle.lan_core.specs.Legal.{IsStepped}
use Rattle.lan_core.specs.Fresh.{IsFresh, IsUnforged}
use Rattle.group_safety.specs.Once.{sak_of, sci_of}
use Rattle.group_safety.proofs.Public.{contains-in, in-contains, in-get, in-later}
use Rattle.clean_audits.specs.Captured.{group_ring, IsPacketOf}
use Rattle.clean_audits.specs.Clean.{AreCaptured, IsClaimed, IsClean, IsSealedOnce}
use Rattle.clean_audits.proofs.Claimed.{backed, claim_by, claims-sak}
use Rattle.clean_audits.proofs.Gifts.{IsSound, OneWrap}
use Rattle.clean_audits.proofs.OnAir.{air-grown, nothing, Puts, puts, sealed, seals, speaks, spoken}
use Rattle.clean_audits.proofs.MkpdusRight.{sound-before}
use Rattle.clean_audits.proofs.NoReturns.{none-returned}
use Rattle.clean_audits.proofs.OneKeys.{none-breaks}
use Rattle.clean_audits.proofs.SealedFrames.{AreProtected}
use Rattle.clean_audits.proofs.SealedStands.{sealed-stands}
use Rattle.clean_audits.proofs.SpokenStands.{spoken-stands}
use Rattle.clean_audits.proofs.Standing.{AreNew, Stands, stands-quiet}
use Rattle.clean_audits.proofs.Told.{numbered}

-- what other laws give
pub record Laws : Type 0 where
  pub one_wrap : OneWrap
  pub protect : AreProtected
  pub counted : (settings : Settings) (users : List UserFrame) (r : Run) → IsStepped settings users r
      → AreCounted (installs r)
  pub least : (h : List RightFrame) → AreInOrder h → IsJudged (BreaksOnce h) (first_reuse h)

-- ---- each event

once-before : (x : Happening) (r : Run) → IsSealedOnce (x ∷ r) → IsSealedOnce r
unfolding air installs
once-before x r once frame tag i j there sec fields hi hj =
    once frame tag i j
    (in-contains (air (x ∷ r)) frame (in-later framed x.facts (air r) frame (contains-in (air r) frame there)))
    sec fields
    (in-contains (installs (x ∷ r)) i (in-later install_of x.facts (installs r) i (contains-in (installs r) i hi)))
    (in-contains (installs (x ∷ r)) j (in-later install_of x.facts (installs r) j (contains-in (installs r) j hj)))

-- the packets of one frame more
record HasPacket (settings : Settings) (frame : Frame) (earlier : List Frame) (packets : List Unwrapped) :
    Type 0 where
  first : Unwrapped
  before : List Unwrapped
  parts : packets ≡ first ∷ before
  packet : IsPacketOf frame first.packet
  captured : AreCaptured earlier before
  unwrapped : IsUnwrapped (group_ring settings) first
  others : All (IsUnwrapped (group_ring settings)) before

has-packet : (settings : Settings) (frame : Frame) (earlier : List Frame) (packets : List Unwrapped)
    → AreCaptured (frame ∷ earlier) packets → All (IsUnwrapped (group_ring settings)) packets
    → HasPacket settings frame earlier packets
has-packet settings frame earlier [] are each = elim are [ ]
has-packet settings frame earlier (u ∷ before) are each = record {
  first = u;
  before = before;
  parts = refl;
  packet = are.0;
  captured = are.1;
  unwrapped = All-head (IsUnwrapped (group_ring settings)) u before each;
  others = All-tail (IsUnwrapped (group_ring settings)) u before each;
}

no-packets : (settings : Settings) (packets : List Unwrapped) → AreCaptured (air []) packets
    → Stands settings [] packets
unfolding air installs
no-packets settings [] are = record {
  ours = tt;
  every = λ frame i there gk. elim there [ ];
  used = λ e there. elim there [ ];
  sent = λ m there. elim there [ ];
  spoke = λ e there. elim there [ ];
  returns = tt;
  found = tt;
  new = tt;
  ordered = tt;
  within = λ e there. elim there [ ];
}
no-packets settings (u ∷ before) are = elim are [ ]

pub stands : Laws → (settings : Settings) (users : List UserFrame) (r : Run) (packets : List Unwrapped)
    → IsSound settings users r → IsSealedOnce r → AreCaptured (air r) packets
    → All (IsUnwrapped (group_ring settings)) packets → Stands settings r packets
stands laws settings users [] packets sound once are each = no-packets settings packets are
stands laws settings users (x ∷ r) packets sound once are each =
    go (puts settings users x r sound.stepped.0)
    (subst (λ fs. AreCaptured fs packets) (air-grown x r) are)
    (λ ps captured unwrapped. stands laws settings users r ps (sound-before settings users x r sound)
    (once-before x r once) captured unwrapped)
  where
    before : IsSound settings users r
    before = sound-before settings users x r sound

    go : Puts settings users r x.event x.facts → AreCaptured (gather framed x.facts (air r)) packets
        → ((ps : List Unwrapped) → AreCaptured (air r) ps
        → All (IsUnwrapped (group_ring settings)) ps → Stands settings r ps)
        → Stands settings (x ∷ r) packets
    go (nothing same) captured earlier =
        stands-quiet settings users x r packets sound.stepped.0 sound.fresh (air-grown x r ∙ same)
        (earlier packets (subst (λ fs. AreCaptured fs packets) same captured) each)
    go (speaks s next l a ev living said grown) captured earlier =
        let p = has-packet settings (spoken r s l a) (air r) packets
        (subst (λ fs. AreCaptured fs packets) grown captured) each in
        let whole : x ≡ happened (events.Tick s next) x.facts =
        λ i. record { event = ev i; facts = x.facts } in
        let y = happened (events.Tick s next) x.facts in
        subst (λ ps. Stands settings (x ∷ r) ps) (sym p.parts)
        (subst (λ y. Stands settings (y ∷ r) (p.first ∷ p.before)) (sym whole)
        (spoken-stands laws.one_wrap settings users s next x.facts r l a p.first p.before (record {
          tick = record {
            stepped = subst (λ y. IsStepped settings users (y ∷ r)) whole sound.stepped;
            fresh = subst (λ y. IsFresh (y ∷ r)) whole sound.fresh;
            unforged = subst (λ y. IsUnforged settings (y ∷ r)) whole sound.unforged;
            living = living;
          };
          said = said;
          grown = air-grown y r ∙ grown;
          packet = p.packet;
          unwrapped = p.unwrapped;
        }) (earlier p.before p.captured p.others)))
    go (seals w p user ev waits placed given grown) captured earlier =
        let h = has-packet settings (sealed r w p user) (air r) packets
        (subst (λ fs. AreCaptured fs packets) grown captured) each in
        let whole : x ≡ happened events.Emit x.facts = λ i. record { event = ev i; facts = x.facts } in
        let y = happened events.Emit x.facts in
        subst (λ ps. Stands settings (x ∷ r) ps) (sym h.parts)
        (subst (λ y. Stands settings (y ∷ r) (h.first ∷ h.before)) (sym whole)
        (sealed-stands laws.protect settings users x.facts r w p user h.first h.before (record {
          sound = record {
            stepped = subst (λ y. IsStepped settings users (y ∷ r)) whole sound.stepped;
            fresh = subst (λ y. IsFresh (y ∷ r)) whole sound.fresh;
            unforged = subst (λ y. IsUnforged settings (y ∷ r)) whole sound.unforged;
          };
          before = before;
          once = subst (λ y. IsSealedOnce (y ∷ r)) whole once;
          counted = laws.counted settings users r before.stepped;
          waits = waits;
          placed = placed;
          protects = given;
          grown = air-grown y r ∙ grown;
          packet = h.packet;
        }) (earlier h.before h.captured h.others)))

-- ---- the verdict

no-reuse : (h : List RightFrame) → AreNew h → first_reuse h ≡ None
no-reuse [] new = refl
no-reuse (e ∷ h) new =
    ap (λ o. option_or o (reuse_by e.packet (novelty_in h e))) (no-reuse h new.1)
    ∙ ap (reuse_by e.packet) new.0

none-judged : (Broken : ℕ → ℕ → Type 0) (o : Option (ℕ × ℕ)) → IsJudged Broken o
    → ((a b : ℕ) → Broken a b → ⊥) → o ≡ None
none-judged Broken None judged none = refl
none-judged Broken (Some pair) judged none = absurd (none pair.0 pair.1 judged.broken)

pub clean : Laws → (settings : Settings) (users : List UserFrame) (r : Run) (packets : List Unwrapped)
    (v : Verdict) → IsSound settings users r → IsSealedOnce r → AreCaptured (air r) packets
    → All (IsUnwrapped (group_ring settings)) packets → IsVerdict (group_ring settings) packets v
    → IsClean (group_ring settings) packets v
clean laws settings users r packets v sound once are each judged = record {
  found = s.found;
  once = none-judged (BreaksOnce fs) v.once judged.once
      (subst (IsJudged (BreaksOnce fs)) (no-reuse fs s.new) (laws.least fs s.ordered));
  one_key = none-judged (BreaksOneKey (entries (group_ring settings) packets)) v.one_key judged.one_key
      (λ a b broken. none-breaks settings users r (entries (group_ring settings) packets) a b sound
      s.ours broken);
  returned = each-member (λ (m : Member). m.counts.returned.count ≡ 0) said v.members judged.members
      (λ group mi m told. none-returned group mi m said s.returns told);
}
  where
    s : Stands settings r packets
    s = stands laws settings users r packets sound once are each

    fs : List RightFrame
    fs = frames (group_ring settings) packets

    said : List Spoken
    said = spoken_of (noted (group_ring settings) packets)

-- ---- whose a right frame is

pub right-claimed : Laws → (settings : Settings) (users : List UserFrame) (r : Run)
    (packets : List Unwrapped) (e : RightFrame)
    → IsSound settings users r → IsSealedOnce r → AreCaptured (air r) packets
    → All (IsUnwrapped (group_ring settings)) packets
    → Contains (frames (group_ring settings) packets) e → IsClaimed r (group_ring settings) packets e
right-claimed laws settings users r packets e sound once are each there =
    let s = stands laws settings users r packets sound once are each in
    let told = entries (group_ring settings) packets in
    let u = s.used e (contains-in (frames (group_ring settings) packets) e there) in
    let w = u.claim in
    let b = backed settings users r w sound.stepped sound.unforged
    (in-get (claimed settings r) u.place w u.claimed_there) in
    let sak : sak_of r (claim_by w) ≡ key_numbered (map secret_octets (keys told)) e.key =
    claims-sak r w (laws.counted settings users r sound.stepped) b
    ∙ sym (numbered (keys told) w.key.sak e.key u.number) in
    let sci : sci_of r w.station ≡ Some e.sci =
    ap (option_map (λ (p : Profile). p.sci)) u.at ∙ ap (λ c. Some c) u.sci in
    record {
      claim = claim_by w;
      there = in-contains (claims r) (claim_by w) b.claim;
      uses = λ t. record { sak = sak t; sci = sci t; pn = u.pn t };
    }
