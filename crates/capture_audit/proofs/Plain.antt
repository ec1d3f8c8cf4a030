-- A packet is settled at once whose EtherType shows that it is neither a protected frame nor one of key agreement.
use Rattle.std.proofs.Common.{◌≡◌, ◌∙◌, ◌++◌, ◌&&◌, ◌||◌, ℕ, Bool, true, false, cond, List, [], ◌∷◌, drop, length, Err, refl, sym, ap, subst}
use Rattle.std.specs.Prelude.{◌==◌, ◌%◌, nat_le, nat_lt, not, slice_index, Option, None}
use Rattle.std.proofs.lemmas.List.{append-nil, get_or-drop, take-append-drop}
use Rattle.audit_report.specs.Packets.{begun_words, finding_lines}
use Rattle.audit_report.specs.declared.finding.Finding.{Finding}
use Rattle.audit_report.specs.declared.finding.Finding.TheVariants as findings
use Rattle.capture_packets.specs.Packets.{Seen}
use Rattle.gcm_frames.specs.Tags.{is_sec}
use Rattle.key_ring.specs.Rings.{Ring}
use Rattle.known_keys.specs.History.{Entry}
use Rattle.mkpdu_codec.specs.declared.refusal.Refusal.TheVariants.{NotMka}
use Rattle.mkpdu_codec.specs.Reading.{parts_at, reading}
use Rattle.mkpdu_codec.specs.Refusals.{is_mka}
use Rattle.packet_verdicts.specs.declared.kind.Kind.{Kind}
use Rattle.packet_verdicts.specs.declared.kind.Kind.TheVariants as kinds
use Rattle.packet_verdicts.specs.Frames.{begins_with_tag, frame_of}
use Rattle.packet_verdicts.specs.Groups.{GroupKeys}
use Rattle.packet_verdicts.specs.Kinds.{frame_kind, is_cut, packet_kind}
use Rattle.capture_audit.specs.declared.asks.Asks.{Asks}
use Rattle.capture_audit.specs.declared.auditor.Auditor.{Auditor}
use Rattle.capture_audit.specs.declared.batch.Batch.{Batch}
use Rattle.capture_audit.specs.declared.batch.Waiting.{Waiting}
use Rattle.capture_audit.specs.declared.end.AuditEnd.{AuditEnd}
use Rattle.capture_audit.specs.declared.end.AuditEnd.TheVariants as ends
use Rattle.capture_audit.specs.Before.{Unwrapped, entries, number_behind}
use Rattle.capture_audit.specs.Findings.{finding_by}
use Rattle.capture_audit.specs.Reading.{in_order}
use Rattle.capture_audit.specs.inside.Batches.{AreWaiting, IsFurther, IsTold, StandsAt, Takes, answers, has_other_type}
use Rattle.capture_audit.specs.inside.Keeping.{IsFound, IsSettled, Keeps, Settles}
use Rattle.capture_audit.proofs.Standing.{after-none}
use Rattle.capture_audit.proofs.Taking.{no-memory}
use Rattle.capture_audit.proofs.Telling.{told-more}

-- ---- what it is

-- the first octet of its EtherType is neither of these
abbrev pub IsPlain : List ℕ → Type 0
IsPlain octets = ((slice_index octets 12 == 0x81) ≡ false) × ((slice_index octets 12 == 0x88) ≡ false)

none-begins : (long second third : Bool) → (long && ((false && second) || (false && third))) ≡ false
none-begins true second third = refl
none-begins false second third = refl

untagged : (octets : List ℕ) → IsPlain octets → begins_with_tag (drop 12 octets) ≡ false
untagged octets is =
    let same : slice_index (drop 12 octets) 0 ≡ slice_index octets 12 = get_or-drop 12 octets 0 _ in
    let one : (slice_index (drop 12 octets) 0 == 0x81) ≡ false = ap (λ n. n == 0x81) same ∙ is.0 in
    let two : (slice_index (drop 12 octets) 0 == 0x88) ≡ false = ap (λ n. n == 0x88) same ∙ is.1 in
    rw (one, two) (none-begins (nat_le 4 (length (drop 12 octets)))
    (slice_index (drop 12 octets) 1 == 0x00) (slice_index (drop 12 octets) 1 == 0xa8))

whole : (octets : List ℕ) → IsPlain octets → frame_of octets ≡ octets
whole octets is = rw (untagged octets is) (take-append-drop 12 octets)

none-of-sec : (long last : Bool) → ((long && false) && last) ≡ false
none-of-sec true last = refl
none-of-sec false last = refl

not-sec : (octets : List ℕ) → IsPlain octets → is_sec octets ≡ false
not-sec octets is = rw is.1 (none-of-sec (nat_le 14 (length octets)) (slice_index octets 13 == 0xe5))

none-of-mka : (long a b c : Bool) → ((((long && false) && a) && b) && c) ≡ false
none-of-mka true a b c = refl
none-of-mka false a b c = refl

not-mka : (octets : List ℕ) → IsPlain octets → is_mka octets ≡ false
not-mka octets is = rw is.1 (none-of-mka (nat_le 18 (length octets)) (slice_index octets 13 == 0x8e)
    (slice_index octets 15 == 5) (slice_index octets 0 % 2 == 1))

not-read : (octets : List ℕ) → IsPlain octets → reading octets ≡ Err NotMka
unfolding reading parts_at
not-read octets is = rw (not-mka octets is) refl

are-not : (long a b : Bool) → (long && not a && not b) ≡ true → (a ≡ false) × (b ≡ false)
are-not true false false is = (refl, refl)
are-not true false true is = absurd (cc is)
are-not true true b is = absurd (cc is)
are-not false a b is = absurd (cc is)

pub other-kind : (groups : List GroupKeys) (p : Seen) → p.head.is_ethernet ≡ true → has_other_type p.octets ≡ true
    → packet_kind groups p ≡ kinds.Other
other-kind groups p ethernet other =
    let is = are-not (nat_lt 12 (length p.octets)) (slice_index p.octets 12 == 0x81) (slice_index p.octets 12 == 0x88) other in
    ap (λ b. cond b (frame_kind groups (is_cut p) (frame_of p.octets)) kinds.Foreign) ethernet
    ∙ ap (λ o. frame_kind groups (is_cut p) o) (whole p.octets is)
    ∙ rw (not-sec p.octets is, not-read p.octets is) refl

-- ---- it is settled at once

nobody : (asks : Asks) (ring : Ring) (told : List Entry) (found : List (Option ℕ)) (n : ℕ) (packets : List Seen)
    (ws : List Waiting) → AreWaiting asks ring told found n packets ws → ws ≡ [] → packets ≡ []
nobody asks ring told found n [] ws are none = refl
nobody asks ring told found n (p ∷ ps) [] are none = absurd are
nobody asks ring told found n (p ∷ ps) (w ∷ ws) are none = absurd (cc none)

pub other-found : (ring : Ring) (before : List Unwrapped) (p : Seen) → packet_kind ring.groups p ≡ kinds.Other
    → IsFound ring before p p.head kinds.Other None
other-found ring before p is = record { head_is = refl; kind_is = sym is; tried = tt }

module _ (asks : Asks) (ring : Ring) (before : List Unwrapped) (p : Seen) (written : List ℕ) (held : Option (List ℕ))
    (a new : Auditor) (b : Batch) (hidden : b.asks.shows ≡ false) (none : b.waiting.items ≡ []) where
  no-lines : (it : Finding) → StandsAt asks ring before [] written a b → packet_kind ring.groups p ≡ kinds.Other
      → IsSettled ring before p it new
      → finding_lines asks.shows asks.keys (number_behind before) (begun_words (frame_of p.octets) (packet_kind ring.groups p)) it ≡ []
  no-lines it stands is done =
      let words = begun_words (frame_of p.octets) (packet_kind ring.groups p) in
      let other : it ≡ findings.Other = done.told_is
      ∙ ap (λ (k : Kind). finding_by ring before (record { packet = p; gift = done.gift }) k) is in
      ap (λ s. finding_lines s asks.keys (number_behind before) words it)
      (ap (λ (x : Asks). x.shows) (sym stands.asks_are) ∙ hidden)
      ∙ ap (λ (f : Finding). finding_lines false asks.keys (number_behind before) words f) other

  told-none : (it : Finding) → StandsAt asks ring before [] written a b → packet_kind ring.groups p ≡ kinds.Other
      → IsSettled ring before p it new → IsTold asks ring before p new b.text.items b.text.items
  told-none it stands is done =
      told-more asks ring before p it new b.text.items b.text.items done
      (sym (append-nil b.text.items) ∙ ap (λ (xs : List ℕ). b.text.items ++ xs) (sym (no-lines it stands is done)))

  further : (it : Finding) → StandsAt asks ring before [] written a b → packet_kind ring.groups p ≡ kinds.Other
      → IsSettled ring before p it new → IsFurther asks ring before (p ∷ []) written held held new b
  further it stands is done =
      let told = told-none it stands is done in
      record {
        now = told.now;
        waiting = [];
        all = append-nil (in_order told.now) ∙ told.all;
        more = [];
        written_is = after-none held;
        stands = record {
          keeps = told.keeps;
          asks_are = stands.asks_are;
          waits = subst (λ (ws : List Waiting). AreWaiting asks ring (entries ring told.now) (answers (entries ring told.now) b.trials.items) (number_behind told.now) [] ws)
              (sym none) tt;
          lines = ap (λ (xs : List ℕ). xs ++ b.text.items) (append-nil written) ∙ told.lines written stands.lines;
        };
      }

  stops : (end : AuditEnd) → StandsAt asks ring before [] written a b → Settles ring before p a new (Err end)
      → Takes asks ring before [] p written held held new b (Err end)
  stops ends.KeyLimit stands is = record {
    now = before;
    all = sym (append-nil (in_order before));
    more = [];
    written_is = after-none held;
    keeps = subst (λ (x : Auditor). Keeps ring before x) (sym is.same) stands.keeps;
    lines = ap (λ (xs : List ℕ). xs ++ b.text.items) (append-nil written) ∙ stands.lines;
    full = record { gift = is.gift; unwrapped = is.unwrapped; many = is.many; same = refl };
  }
  stops ends.Memory stands is = no-memory asks ring before [] p written held a b stands
  stops _ stands is = absurd is

  module _ (waiting : List Seen) (stands : StandsAt asks ring before waiting written a b) where
    empty : waiting ≡ []
    empty = nobody asks ring (entries ring before) (answers (entries ring before) b.trials.items) (number_behind before)
        waiting b.waiting.items stands.waits none

    alone : StandsAt asks ring before [] written a b
    alone = subst (λ (ps : List Seen). StandsAt asks ring before ps written a b) empty stands

    pub passes : (it : Finding) → packet_kind ring.groups p ≡ kinds.Other → IsSettled ring before p it new
        → IsFurther asks ring before (waiting ++ p ∷ []) written held held new b
    passes it is done = subst (λ (ps : List Seen). IsFurther asks ring before (ps ++ p ∷ []) written held held new b)
        (sym empty) (further it alone is done)

    pub passes-not : (end : AuditEnd) → Settles ring before p a new (Err end)
        → Takes asks ring before waiting p written held held new b (Err end)
    passes-not end is = subst (λ (ps : List Seen). Takes asks ring before ps p written held held new b (Err end))
        (sym empty) (stops end alone is)
