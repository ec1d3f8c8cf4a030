-- The frame of a claim as a packet: a protected frame with the fields of the claim, which its key opens.
use Rattle.std.proofs.Common.{◌≡◌, ◌<◌, ◌≤◌, ◌+◌, ◌^◌, refl, sym, ap, ◌∙◌, inl, inr, ℕ, List, length}
use Rattle.std.proofs.Common.{Bool, true, false, cond, not, ◌&&◌, Option, Some, None, Ok, arith}
use Rattle.std.specs.Prelude.{◌==◌, ◌||◌, nat_le, nat_lt, slice_index}
use Rattle.std.proofs.lemmas.Bool.{and_parts, eqb-true, ltb-true}
use Rattle.lan_base.specs.Ranges.{most_frame_octets}
use Rattle.lan_base.specs.declared.association_number.AssociationNumber.{AssociationNumber}
use Rattle.lan_base.specs.declared.address.Sci.{Sci}
use Rattle.lan_base.specs.declared.frame.UserFrame.{UserFrame}
use Rattle.aes_block.specs.Aes.{IsKey}
use Rattle.aes_block.specs.Secrets.{secret_octets}
use Rattle.aes_block.specs.declared.secret.Secret.{Secret}
use Rattle.aes_block.specs.declared.secret.Secret.TheVariants.{S128, S256}
use Rattle.capture_packets.specs.Packets.{Seen}
use Rattle.gcm_frames.specs.declared.tag.Tag.{Tag}
use Rattle.gcm_frames.specs.declared.tag.TagRefusal.{TagRefusal}
use Rattle.gcm_frames.specs.declared.tag.TagRefusal.TheVariants.{NotSec, Version, Mode, Short, SlWrong}
use Rattle.gcm_frames.specs.Protected.{IsSci, IsSent, protected, protection_octets}
use Rattle.gcm_frames.specs.Sealed.{check_octets, opened}
use Rattle.gcm_frames.specs.Tags.{are_same, fields_or, has_control, has_sci, has_version, implied_fields, implied_refused, is_broadcast}
use Rattle.gcm_frames.specs.Tags.{is_changed, is_enciphered, is_end_station, is_implied_mode, is_length_wrong, is_mode}
use Rattle.gcm_frames.specs.Tags.{is_sec, is_short, refused, refused_in, tag_fields, tag_in}
use Rattle.gcm_frames.specs.Written.{tag_written}
use Rattle.packet_verdicts.specs.declared.kind.Kind.TheVariants as kinds
use Rattle.packet_verdicts.specs.declared.kind.Sec.TheVariants as secs
use Rattle.packet_verdicts.specs.Groups.{GroupKeys}
use Rattle.packet_verdicts.specs.Kinds.{frame_kind, packet_kind, tagged_kind}
use Rattle.sak_exchange.proofs.Public.{by_test}
use Rattle.lan_core.specs.Claims.{Waiting, frame_by}
use Rattle.lan_core.specs.Run.{Profile, Run}
use Rattle.lan_core.specs.Types.{IsSecret, IsUserFrame}
use Rattle.group_safety.proofs.Public.{protected-is_sec}
use Rattle.clean_audits.specs.Captured.{IsPacketOf}
use Rattle.clean_audits.proofs.OnAir.{sealed}
use Rattle.clean_audits.proofs.RightMkpdus.{HasType, packet-kind}

-- ---- what the laws of protected frames say

-- what is written is read, is so long, and is opened by its key
pub record AreProtected : Type 0 where
  pub reads : (key : List ℕ) (sci : Sci) (an : AssociationNumber) (pn : ℕ) (conf : Bool) (user : UserFrame)
      → IsKey key → IsSent sci pn user
      → tag_fields (protected key sci an pn conf user) ≡ Ok (tag_written sci an pn conf user)
  pub longer : (key : List ℕ) (sci : Sci) (an : AssociationNumber) (pn : ℕ) (conf : Bool)
      (user : UserFrame) → IsKey key → IsSent sci pn user
      → length (protected key sci an pn conf user) ≡ length user.body + protection_octets
  pub opens : (key : List ℕ) (sci : Sci) (an : AssociationNumber) (pn : ℕ) (conf : Bool)
      (user : UserFrame) → IsKey key → IsSent sci pn user
      → opened key (tag_written sci an pn conf user) (protected key sci an pn conf user)
      ≡ Some user.body

-- ---- what is read where the SCI must stand there is read where it may be implied

-- with an SCI neither ES nor SCB is set
not-all : (b e s : Bool) → not b ≡ true → not (are_same e s) ≡ true → not (s && (e || b)) ≡ true
not-all b e false x y = refl
not-all true e true x y = absurd (cc x)
not-all false true true x y = absurd (cc y)
not-all false false true x y = refl

and-two : (a b : Bool) → a ≡ true → b ≡ true → (a && b) ≡ true
and-two a b x y = rw (x, y) refl

implied-mode : (frame : List ℕ) → is_mode frame ≡ true → is_implied_mode frame ≡ true
implied-mode frame e =
    let front = and_parts (not (is_broadcast frame) && not (are_same (is_end_station frame) (has_sci frame)))
    (are_same (is_enciphered frame) (is_changed frame)) e in
    let parts = and_parts (not (is_broadcast frame)) (not (are_same (is_end_station frame) (has_sci frame)))
    front.0 in
    and-two (not (has_sci frame && (is_end_station frame || is_broadcast frame)))
    (are_same (is_enciphered frame) (is_changed frame))
    (not-all (is_broadcast frame) (is_end_station frame) (has_sci frame) parts.0 parts.1) front.1

-- what is refused in neither mode
same-refused : (frame : List ℕ) (mode other : Bool) → (mode ≡ true → other ≡ true)
    → refused_in mode frame ≡ None → refused_in other frame ≡ None
same-refused frame true other grows e = rw (grows refl) e
same-refused frame false true grows e =
    go (not (is_sec frame)) (has_control frame && has_version frame) (has_control frame) e
  where
    go : (a b c : Bool)
        → cond a (Some NotSec) (cond b (Some Version) (cond (c && true) (Some Mode)
        (cond (is_short frame) (Some Short) (cond (is_length_wrong frame) (Some SlWrong) None)))) ≡ None
        → cond a (Some NotSec) (cond b (Some Version) (cond (c && false) (Some Mode)
        (cond (is_short frame) (Some Short) (cond (is_length_wrong frame) (Some SlWrong) None)))) ≡ None
    go true b c e = absurd (cc e)
    go false true c e = absurd (cc e)
    go false false true e = absurd (cc e)
    go false false false e = e
same-refused frame false false grows e = e

ok-none : (o : Option TagRefusal) (frame : List ℕ) (tag : Tag) → fields_or o frame ≡ Ok tag
    → (o ≡ None) × (tag_in frame ≡ tag)
ok-none None frame tag e = (refl, cc e)
ok-none (Some why) frame tag e = absurd (cc e)

pub implied-too : (frame : List ℕ) (tag : Tag) → tag_fields frame ≡ Ok tag
    → implied_fields frame ≡ Ok tag
unfolding tag_fields implied_fields
implied-too frame tag e =
    let both = ok-none (refused frame) frame tag e in
    let none : implied_refused frame ≡ None =
    same-refused frame (is_mode frame) (is_implied_mode frame) (implied-mode frame) both.0 in
    ap (λ o. fields_or o frame) none ∙ ap Ok both.1

-- ---- the frame of a claim

-- what is known of a claim that is sealed
pub record IsSendable (w : Waiting) (p : Profile) (user : UserFrame) : Type 0 where
  pub channel : IsSci p.sci
  pub secret : IsSecret w.key.sak
  pub frame : IsUserFrame user
  pub first : 1 ≤ w.pn
  pub last : w.pn < 2 ^ 32

is-key : (sak : Secret) → IsSecret sak → IsKey (secret_octets sak)
is-key (S128 octets) is = record { count = inl is.0; octets = is.1 }
is-key (S256 octets) is = record { count = inr (inr is.0); octets = is.1 }

pub key-of : (w : Waiting) (p : Profile) (user : UserFrame) → IsSendable w p user
    → IsKey (secret_octets w.key.sak)
key-of w p user s = is-key w.key.sak s.secret

sent-of : (w : Waiting) (p : Profile) (user : UserFrame) → IsSendable w p user
    → IsSent p.sci w.pn user
sent-of w p user s = record {
  channel = s.channel;
  destination = s.frame.destination.0;
  first = s.first;
  last = s.last;
  body = s.frame.body;
}

-- its fields
abbrev pub tag_of : Waiting → Profile → UserFrame → Tag
tag_of w p user = tag_written p.sci w.key.an w.pn w.key.conf user

pub fields-of : AreProtected → (w : Waiting) (p : Profile) (user : UserFrame) → IsSendable w p user
    → implied_fields (frame_by w p user) ≡ Ok (tag_of w p user)
fields-of laws w p user s =
    implied-too (frame_by w p user) (tag_of w p user)
    (laws.reads (secret_octets w.key.sak) p.sci w.key.an w.pn w.key.conf user (key-of w p user s)
    (sent-of w p user s))

pub opened-of : AreProtected → (w : Waiting) (p : Profile) (user : UserFrame) → IsSendable w p user
    → opened (secret_octets w.key.sak) (tag_of w p user) (frame_by w p user) ≡ Some user.body
opened-of laws w p user s =
    laws.opens (secret_octets w.key.sak) p.sci w.key.an w.pn w.key.conf user (key-of w p user s)
    (sent-of w p user s)

-- ---- its kind

pub sec-of : (w : Waiting) (p : Profile) (user : UserFrame) → IsSendable w p user
    → is_sec (frame_by w p user) ≡ true
sec-of w p user s =
    protected-is_sec (secret_octets w.key.sak) p.sci w.key.an w.pn w.key.conf user s.channel.count
    s.frame.destination.0

not-long : AreProtected → (w : Waiting) (p : Profile) (user : UserFrame) → IsSendable w p user
    → nat_lt most_frame_octets (length (frame_by w p user)) ≡ false
not-long laws w p user s =
    let long = laws.longer (secret_octets w.key.sak) p.sci w.key.an w.pn w.key.conf user
    (key-of w p user s) (sent-of w p user s) in
    let most = s.frame.body.1 in
    by_test (nat_lt most_frame_octets (length (frame_by w p user)))
    (λ y.
    let less = ltb-true most_frame_octets (length (frame_by w p user)) y in
    absurd (omega (arith, long, most, less)))
    (λ y. y)

sealed-kind : AreProtected → (groups : List GroupKeys) (w : Waiting) (p : Profile) (user : UserFrame)
    → IsSendable w p user
    → frame_kind groups false (frame_by w p user)
    ≡ kinds.Sec (secs.Protected (tag_of w p user) (check_octets (tag_of w p user) (frame_by w p user)))
sealed-kind laws groups w p user s =
    let octets = frame_by w p user in
    rw (sec-of w p user s) (rw (not-long laws w p user s)
    (ap (λ o. kinds.Sec (tagged_kind false octets o)) (fields-of laws w p user s)))

sec-type : (frame : List ℕ) → is_sec frame ≡ true → HasType frame
sec-type frame e =
    let a = and_parts (nat_le 14 (length frame) && (slice_index frame 12 == 0x88)) (slice_index frame 13 == 0xe5) e in
    let b = and_parts (nat_le 14 (length frame)) (slice_index frame 12 == 0x88) a.0 in
    let second : slice_index frame 13 ≡ 0xe5 = eqb-true _ _ a.1 in
    (eqb-true _ _ b.1, ap (λ n. n == 0xa8) second)

pub typed-of : (w : Waiting) (p : Profile) (user : UserFrame) → IsSendable w p user
    → HasType (frame_by w p user)
typed-of w p user s = sec-type (frame_by w p user) (sec-of w p user s)

-- as a packet
pub sealed-packet : AreProtected → (groups : List GroupKeys) (r : Run) (w : Waiting) (p : Profile)
    (user : UserFrame) (packet : Seen)
    → IsSendable w p user → IsPacketOf (sealed r w p user) packet
    → packet_kind groups packet
    ≡ kinds.Sec (secs.Protected (tag_of w p user) (check_octets (tag_of w p user) (frame_by w p user)))
sealed-packet laws groups r w p user packet s is =
    packet-kind groups (sealed r w p user) packet is (typed-of w p user s)
    ∙ sealed-kind laws groups w p user s
