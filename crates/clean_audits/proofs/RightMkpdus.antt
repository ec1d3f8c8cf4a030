-- What a station says at a tick is right under the ring of its group.
use Rattle.std.proofs.Common.{◌≡◌, refl, sym, ap, ◌∙◌, ℕ, List, [], ◌∷◌, ◌++◌, length}
use Rattle.std.proofs.Common.{take, drop, Bool, true, false, cond, ◌&&◌, ◌||◌, Some, Result, Ok, Err, arith}
use Rattle.std.specs.Prelude.{◌==◌, ◌+◌, nat_eq, nat_le, nat_lt, slice_index, ◌%◌}
use Rattle.std.specs.List.{position}
use Rattle.std.proofs.Math.Seq.{take-append_seam}
use Rattle.std.proofs.lemmas.Bool.{and_parts, eqb-true, ltb-true, true≢false}
use Rattle.std.proofs.lemmas.List.{get_or-drop, take-append-drop}
use lib.Pointwise.{pointwise, bytes_decides}
use Rattle.aes_block.specs.Secrets.{secret_octets}
use Rattle.aes_cmac.specs.Cmac.{cmac}
use Rattle.capture_packets.specs.Packets.{Seen}
use Rattle.gcm_frames.specs.Tags.{is_sec}
use Rattle.mka_kdf.specs.Kdf.{ick_of}
use Rattle.mkpdu_codec.specs.declared.announcement.Announcement.{Announcement}
use Rattle.mkpdu_codec.specs.declared.refusal.Refusal.TheVariants.{NotMka}
use Rattle.mkpdu_codec.specs.declared.spelled.Spelled.{Spelled}
use Rattle.mkpdu_codec.specs.Frames.{Spells}
use Rattle.mkpdu_codec.specs.Reading.{reading, parts_at}
use Rattle.mkpdu_codec.specs.Refusals.{is_mka}
use Rattle.mkpdu_codec.specs.Written.{written}
use Rattle.mkpdu_codec.proofs.Public.{read_again}
use Rattle.packet_verdicts.specs.declared.kind.Kind.TheVariants as kinds
use Rattle.packet_verdicts.specs.declared.kind.Mka.TheVariants as mkas
use Rattle.packet_verdicts.specs.Frames.{begins_with_tag, frame_of}
use Rattle.packet_verdicts.specs.Groups.{GroupKeys, derived_keys, gives_check}
use Rattle.packet_verdicts.specs.Kinds.{frame_kind, group_kind, is_cut, mka_kind, packet_kind, sec_kind}
use Rattle.lan_core.specs.declared.settings.Settings.{Settings}
use Rattle.lan_core.specs.Ledgers.{Frame}
use Rattle.sak_exchange.proofs.Public.{by_test}
use Rattle.clean_audits.specs.Captured.{IsPacketOf}

-- ---- a frame without tags

-- what stands behind the addresses
behind-is : (frame : List ℕ) (k : ℕ) → slice_index (drop 12 frame) k ≡ slice_index frame (12 + k)
behind-is frame k = get_or-drop 12 frame k _

-- the second octet of the EtherType is that of no tag
abbrev pub HasType : List ℕ → Type 0
HasType frame = (slice_index frame 12 ≡ 0x88) × ((slice_index frame 13 == 0xa8) ≡ false)

untagged : (frame : List ℕ) → HasType frame → begins_with_tag (drop 12 frame) ≡ false
untagged frame is =
    let first : slice_index (drop 12 frame) 0 ≡ 0x88 = behind-is frame 0 ∙ is.0 in
    let second : (slice_index (drop 12 frame) 1 == 0xa8) ≡ false =
    ap (λ n. n == 0xa8) (behind-is frame 1) ∙ is.1 in
    go (nat_le 4 (length (drop 12 frame))) first second
  where
    go : (long : Bool) → slice_index (drop 12 frame) 0 ≡ 0x88
        → (slice_index (drop 12 frame) 1 == 0xa8) ≡ false
        → (long && (((slice_index (drop 12 frame) 0 == 0x81) && (slice_index (drop 12 frame) 1 == 0x00))
        || ((slice_index (drop 12 frame) 0 == 0x88) && (slice_index (drop 12 frame) 1 == 0xa8)))) ≡ false
    go false first second = refl
    go true first second = rw (first, second) refl

pub whole-frame : (frame : List ℕ) → HasType frame → frame_of frame ≡ frame
whole-frame frame is = rw (untagged frame is) (take-append-drop 12 frame)

-- ---- a packet of a frame

not-less : (n : ℕ) → nat_lt n n ≡ false
not-less n = by_test (nat_lt n n) (λ y. let less = ltb-true n n y in absurd (omega (arith, less))) (λ y. y)

pub packet-kind : (groups : List GroupKeys) (frame : Frame) (packet : Seen) → IsPacketOf frame packet
    → HasType frame.octets → packet_kind groups packet ≡ frame_kind groups false frame.octets
packet-kind groups frame packet is typed =
    ap (λ b. cond b (frame_kind groups (is_cut packet) (frame_of packet.octets)) kinds.Foreign) is.ethernet
    ∙ ap (λ b. frame_kind groups b (frame_of packet.octets)) uncut
    ∙ ap (λ o. frame_kind groups false (frame_of o)) is.octets
    ∙ ap (frame_kind groups false) (whole-frame frame.octets typed)
  where
    uncut : is_cut packet ≡ false
    uncut = ap (λ n. nat_lt (length packet.octets) n) is.whole
        ∙ ap (λ o. nat_lt (length o) (length frame.octets)) is.octets ∙ not-less (length frame.octets)

-- ---- a frame that is read

err-ok : {A E : Type 0} (r : Result A E) (x : E) (a : A) → r ≡ Err x → r ≡ Ok a → ⊥
err-ok r x a e f = cc (e, f)

read-mka : (frame : List ℕ) (s : Spelled) → reading frame ≡ Ok s → is_mka frame ≡ true
unfolding reading parts_at
read-mka frame s e = by_test (is_mka frame) (λ y. y) (λ y.
    let no : reading frame ≡ Err NotMka = rw y refl in absurd (err-ok (reading frame) NotMka s no e))

mka-octets : (frame : List ℕ) → is_mka frame ≡ true
    → (slice_index frame 12 ≡ 0x88) × (slice_index frame 13 ≡ 0x8e)
mka-octets frame e =
    let a = and_parts (nat_le 18 (length frame) && (slice_index frame 12 == 0x88)
    && (slice_index frame 13 == 0x8e) && (slice_index frame 15 == 5)) (slice_index frame 0 % 2 == 1) e in
    let b = and_parts (nat_le 18 (length frame) && (slice_index frame 12 == 0x88)
    && (slice_index frame 13 == 0x8e)) (slice_index frame 15 == 5) a.0 in
    let c = and_parts (nat_le 18 (length frame) && (slice_index frame 12 == 0x88))
    (slice_index frame 13 == 0x8e) b.0 in
    let d = and_parts (nat_le 18 (length frame)) (slice_index frame 12 == 0x88) c.0 in
    (eqb-true (slice_index frame 12) 0x88 d.1, eqb-true (slice_index frame 13) 0x8e c.1)

-- the EtherType of a frame of key agreement
pub mka-type : (frame : List ℕ) → is_mka frame ≡ true → HasType frame
mka-type frame e =
    let octets = mka-octets frame e in
    (octets.0, ap (λ n. n == 0xa8) octets.1)

mka-not-sec : (frame : List ℕ) → is_mka frame ≡ true → is_sec frame ≡ false
mka-not-sec frame e =
    let octets = mka-octets frame e in
    let other : (slice_index frame 13 == 0xe5) ≡ false = ap (λ n. n == 0xe5) octets.1 in
    by_test (is_sec frame)
    (λ y.
    let last = and_parts (nat_le 14 (length frame) && (slice_index frame 12 == 0x88))
    (slice_index frame 13 == 0xe5) y in
    absurd (true≢false (sym last.1 ∙ other)))
    (λ y. y)

-- no protected frame is read as one of key agreement
pub not-read : (frame : List ℕ) → is_sec frame ≡ true → (s : Spelled) → reading frame ≡ Ok s → ⊥
not-read frame sec s e = true≢false (sym sec ∙ mka-not-sec frame (read-mka frame s e))

same-octets : (xs : List ℕ) → pointwise nat_eq xs xs ≡ true
same-octets xs = (bytes_decides xs xs).1 refl

-- ---- right under its group

abbrev pub groups_of : Settings → List GroupKeys
groups_of settings = derived_keys (secret_octets settings.cak) settings.ckn ∷ []

-- the announcement is one of the group, and so is its check value
pub record IsOfGroup (settings : Settings) (ick : List ℕ) (a : Announcement) : Type 0 where
  pub key : ick ≡ ick_of (secret_octets settings.cak) settings.ckn
  pub named : a.ckn ≡ settings.ckn

abbrev pub spelled_of : List ℕ → Announcement → Spelled
spelled_of ick a =
    record { announcement = a; covered = length (written a); check = cmac ick (written a) }

checks : (settings : Settings) (ick : List ℕ) (a : Announcement) → IsOfGroup settings ick a
    → gives_check (take (length (written a)) (written a ++ cmac ick (written a))) (spelled_of ick a)
    (derived_keys (secret_octets settings.cak) settings.ckn) ≡ true
checks settings ick a is =
    let keys = derived_keys (secret_octets settings.cak) settings.ckn in
    let named : pointwise nat_eq settings.ckn a.ckn ≡ true =
    ap (λ n. pointwise nat_eq settings.ckn n) is.named ∙ same-octets settings.ckn in
    let covered = take-append_seam (written a) (cmac ick (written a)) in
    let right : pointwise nat_eq
    (cmac keys.ick (take (length (written a)) (written a ++ cmac ick (written a)))) (cmac ick (written a))
    ≡ true =
    ap (λ o. pointwise nat_eq (cmac keys.ick o) (cmac ick (written a))) covered
    ∙ ap (λ k. pointwise nat_eq (cmac k (written a)) (cmac ick (written a))) (sym is.key)
    ∙ same-octets (cmac ick (written a)) in
    rw (named, right) refl

first-found : (p : GroupKeys → Bool) (g : GroupKeys) → p g ≡ true → position p (g ∷ []) ≡ Some 0
first-found p g e = rw e refl

pub right-kind : (settings : Settings) (ick : List ℕ) (a : Announcement) → IsOfGroup settings ick a
    → Spells (written a ++ cmac ick (written a)) a (length (written a)) (cmac ick (written a))
    → frame_kind (groups_of settings) false (written a ++ cmac ick (written a))
    ≡ kinds.Mka (mkas.Right 1 (spelled_of ick a))
right-kind settings ick a is spells =
    let octets = written a ++ cmac ick (written a) in
    let again : reading octets ≡ Ok (spelled_of ick a) =
    read_again octets a (length (written a)) (cmac ick (written a)) spells in
    let mka = read-mka octets (spelled_of ick a) again in
    let found = first-found (gives_check (take (length (written a)) octets) (spelled_of ick a))
    (derived_keys (secret_octets settings.cak) settings.ckn) (checks settings ick a is) in
    ap (λ b. cond b (kinds.Sec (sec_kind false octets)) (mka_kind (groups_of settings) false octets (reading octets)))
    (mka-not-sec octets mka)
    ∙ ap (mka_kind (groups_of settings) false octets) again
    ∙ ap (λ o. kinds.Mka (group_kind (groups_of settings) (spelled_of ick a) o)) found

pub spelled-type : (frame : List ℕ) (s : Spelled) → reading frame ≡ Ok s → HasType frame
spelled-type frame s e = mka-type frame (read-mka frame s e)
