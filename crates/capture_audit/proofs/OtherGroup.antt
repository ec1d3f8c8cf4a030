-- A group that no MKPDU names, put last, changes nothing.
use Rattle.std.proofs.Common.{◌≡◌, ◌∙◌, ◌<◌, ◌≤◌, ◌+◌, ◌-◌, ◌↔◌, ◌⊎◌, inl, inr, ℕ, zero, suc, Bool, true, false, cond, List, [], ◌∷◌, ◌++◌, length, map, take, Option, Some, None, Ok, Err, refl, sym, ap, subst, arith}
use Rattle.std.specs.Prelude.{◌&&◌, ◌||◌, All, Result, is_some, not, nat_lt, slice_get}
use Rattle.std.specs.List.{list_any, position, position_or_len}
use Rattle.std.proofs.lemmas.Bool.{cases_lt, le-ltb, lt-ltb}
use Rattle.std.proofs.lemmas.List.Elements.{All-head, All-tail}
use Rattle.std.proofs.lemmas.List.Quantifiers.{position-Some}
use Rattle.audit_facts.specs.Noted.{Noted, events, fresh_frames, noted_of, spoken_of, unknown_names}
use Rattle.audit_report.specs.Packets.{begun_words}
use Rattle.audit_report.specs.Lines.{set_lines}
use Rattle.audit_report.specs.Report.{packet_lines}
use Rattle.audit_report.specs.Report as reports
use Rattle.audit_report.specs.Told.{Told}
use Rattle.audit_report.specs.Unknown.{unknown_of}
use Rattle.audit_report.specs.Uses.{timed}
use Rattle.audit_report.specs.Verdicts.{Verdict}
use Rattle.audit_report.specs.declared.ending.Ending.{Ending}
use Rattle.audit_report.specs.declared.finding.Finding.{Finding}
use Rattle.capture_packets.specs.Packets.{Seen}
use Rattle.use_notes.specs.changes.Changes.{AreChangesOf}
use Rattle.key_ring.specs.Rings.{Ring}
use Rattle.known_keys.specs.History.{Entry}
use Rattle.known_keys.specs.OneKey.{BreaksOneKey}
use Rattle.least_pairs.specs.Pairs.{IsJudged}
use Rattle.member_notes.specs.declared.mkpdu.RightMkpdu.{RightMkpdu}
use Rattle.member_notes.specs.Facts.{AreMembersOf}
use Rattle.mkpdu_codec.specs.Reading.{reading}
use Rattle.mkpdu_codec.specs.declared.refusal.Refusal.{Refusal}
use Rattle.mkpdu_codec.specs.declared.refusal.Refusal.TheVariants as refusals
use Rattle.mkpdu_codec.specs.declared.spelled.Spelled.{Spelled}
use Rattle.gcm_frames.specs.Tags.{is_sec}
use Rattle.packet_verdicts.specs.declared.given.Gift.{Gift}
use Rattle.packet_verdicts.specs.declared.kind.Kind.{Kind}
use Rattle.packet_verdicts.specs.declared.kind.Kind.TheVariants as kinds
use Rattle.packet_verdicts.specs.declared.kind.Mka.{Mka}
use Rattle.packet_verdicts.specs.declared.kind.Mka.TheVariants as mkas
use Rattle.packet_verdicts.specs.Frames.{frame_of}
use Rattle.packet_verdicts.specs.Groups.{GroupKeys, gives_check, has_name}
use Rattle.packet_verdicts.specs.Kinds.{frame_kind, group_kind, is_cut, mka_kind, packet_kind, sec_kind, spelled_kind}
use Rattle.rollover_notes.specs.Counted.{AreUnreadyOf}
use Rattle.use_notes.specs.declared.frame.RightFrame.{RightFrame}
use Rattle.use_notes.specs.Once.{BreaksOnce}
use Rattle.use_notes.specs.Uses.{AreUsesOf}
use Rattle.capture_audit.specs.declared.asks.Asks.{Asks}
use Rattle.capture_audit.specs.Before.{IsUnwrapped, Unwrapped, UnwrapsBy, entries, entries_by, frame_by, frames, kind_in, mkpdu_by, mkpdus, number_behind, with_some}
use Rattle.capture_audit.specs.Findings.{finding_by, mka_finding, sec_finding}
use Rattle.capture_audit.specs.Laws.{IsOfOther, with_group}
use Rattle.capture_audit.specs.Telling.{IsVerdict, all_told, noted, numbered_hand, report, told_lines, told_of}

-- ---- lists with one more

or-false : (b : Bool) → (b || false) ≡ b
or-false true = refl
or-false false = refl

any-more : (p : GroupKeys → Bool) (groups : List GroupKeys) (keys : GroupKeys) → p keys ≡ false
    → list_any p (groups ++ keys ∷ []) ≡ list_any p groups
any-more p [] keys none = ap (λ b. b || false) none
any-more p (g ∷ groups) keys none = ap (λ b. p g || b) (any-more p groups keys none)

less-more : (n m : ℕ) → (n < m) ⊎ (m ≤ n) → nat_lt (1 + n) (suc m) ≡ nat_lt n m
less-more n m (inl less) = lt-ltb (1 + n) (suc m) (omega (arith, less)) ∙ sym (lt-ltb n m less)
less-more n m (inr more) = le-ltb (1 + n) (suc m) (omega (arith, more)) ∙ sym (le-ltb n m more)

position-more : (p : GroupKeys → Bool) (groups : List GroupKeys) (keys : GroupKeys) → p keys ≡ false
    → position p (groups ++ keys ∷ []) ≡ position p groups
position-more p [] keys none = ap (λ b. cond (nat_lt (cond (not b) 1 0) 1) (Some (cond (not b) 1 0)) None) none
position-more p (g ∷ groups) keys none = go (p g) (position-more p groups keys none)
  where
    more : List GroupKeys
    more = groups ++ keys ∷ []

    up : Option ℕ → Option ℕ
    up None = None
    up (Some n) = Some (1 + n)

    raised : (b : Bool) (n : ℕ) → cond b (Some (1 + n)) None ≡ up (cond b (Some n) None)
    raised true n = refl
    raised false n = refl

    counted : (n m : ℕ) → cond (nat_lt (1 + n) (suc m)) (Some (1 + n)) None ≡ up (cond (nat_lt n m) (Some n) None)
    counted n m = ap (λ b. cond b (Some (1 + n)) None) (less-more n m (cases_lt n m)) ∙ raised (nat_lt n m) n

    go : (b : Bool) → position p more ≡ position p groups
        → cond (nat_lt (cond (not b) (1 + position_or_len p more) 0) (suc (length more))) (Some (cond (not b) (1 + position_or_len p more) 0)) None
        ≡ cond (nat_lt (cond (not b) (1 + position_or_len p groups) 0) (suc (length groups))) (Some (cond (not b) (1 + position_or_len p groups) 0)) None
    go true before = ap (λ b. cond b (Some 0) None) (lt-ltb 0 (suc (length more)) (omega arith) ∙ sym (lt-ltb 0 (suc (length groups)) (omega arith)))
    go false before =
        counted (position_or_len p more) (length more)
        ∙ ap up before
        ∙ sym (counted (position_or_len p groups) (length groups))

get-more : (groups : List GroupKeys) (keys : GroupKeys) (i : ℕ) → i < length groups
    → slice_get (groups ++ keys ∷ []) i ≡ slice_get groups i
get-more [] keys i less = absurd (omega (arith, less))
get-more (g ∷ groups) keys zero less = refl
get-more (g ∷ groups) keys (suc i) less = get-more groups keys i (omega (arith, less))

-- ---- what a packet is

module _ (groups : List GroupKeys) (keys : GroupKeys) where
  and-false : (a b : Bool) → a ≡ false → (a && b) ≡ false
  and-false true b e = absurd (cc e)
  and-false false b e = refl

  spelled-same : (covered : List ℕ) (s : Spelled) → has_name s.announcement.ckn keys ≡ false
      → spelled_kind (groups ++ keys ∷ []) covered s ≡ spelled_kind groups covered s
  spelled-same covered s none =
      ap (λ (o : Option ℕ). group_kind (groups ++ keys ∷ []) s o)
      (position-more (gives_check covered s) groups keys
      (and-false (has_name s.announcement.ckn keys) _ none))
      ∙ go (position (gives_check covered s) groups)
    where
      go : (o : Option ℕ) → group_kind (groups ++ keys ∷ []) s o ≡ group_kind groups s o
      go (Some n) = refl
      go None = ap (λ b. cond b (mkas.Wrong (is_some s.announcement.given)) (mkas.Unknown s.announcement.ckn s.announcement.sci (is_some s.announcement.given)))
          (any-more (has_name s.announcement.ckn) groups keys none)

  mka-same : (cut : Bool) (frame : List ℕ) (r : Result Spelled Refusal)
      → ((s : Spelled) → r ≡ Ok s → has_name s.announcement.ckn keys ≡ false)
      → mka_kind (groups ++ keys ∷ []) cut frame r ≡ mka_kind groups cut frame r
  mka-same cut frame (Ok s) other = ap (λ (m : Mka). kinds.Mka m) (spelled-same (take s.covered frame) s (other s refl))
  mka-same cut frame (Err refusals.NotMka) other = refl
  mka-same cut frame (Err refusals.Short) other = refl
  mka-same cut frame (Err (refusals.Shape at)) other = refl
  mka-same cut frame (Err (refusals.Repeated kind)) other = refl
  mka-same cut frame (Err refusals.Agility) other = refl

  packet-same : (p : Seen)
      → ((s : Spelled) → p.head.is_ethernet ≡ true → reading (frame_of p.octets) ≡ Ok s → has_name s.announcement.ckn keys ≡ false)
      → packet_kind (groups ++ keys ∷ []) p ≡ packet_kind groups p
  packet-same p other = go p.head.is_ethernet refl
    where
      frame : List ℕ
      frame = frame_of p.octets

      framed : (b : Bool) → p.head.is_ethernet ≡ true
          → cond b (kinds.Sec (sec_kind (is_cut p) frame)) (mka_kind (groups ++ keys ∷ []) (is_cut p) frame (reading frame))
          ≡ cond b (kinds.Sec (sec_kind (is_cut p) frame)) (mka_kind groups (is_cut p) frame (reading frame))
      framed true e = refl
      framed false e = mka-same (is_cut p) frame (reading frame) (λ s is. other s e is)

      go : (b : Bool) → p.head.is_ethernet ≡ b
          → cond b (frame_kind (groups ++ keys ∷ []) (is_cut p) frame) kinds.Foreign
          ≡ cond b (frame_kind groups (is_cut p) frame) kinds.Foreign
      go true e = framed (is_sec frame) e
      go false e = refl

  -- the group of a right one is there
  abbrev IsThere : Kind → Type 0
  IsThere (kinds.Mka (mkas.Right group s)) = (group - 1) < length groups
  IsThere _ = Unit {0}

  nobody : GroupKeys
  nobody = record { ckn = []; kek = []; ick = [] }

  group-there : (p : GroupKeys → Bool) (s : Spelled) (o : Option ℕ) → position p groups ≡ o
      → IsThere (kinds.Mka (group_kind groups s o))
  group-there p s (Some n) e = let less = (position-Some p groups n nobody e).0 in omega (arith, less)
  group-there p s None e =
      elim (list_any (has_name s.announcement.ckn) groups) as (λ b. IsThere (kinds.Mka (cond b (mkas.Wrong (is_some s.announcement.given)) (mkas.Unknown s.announcement.ckn s.announcement.sci (is_some s.announcement.given))))) [ true ↦ tt | false ↦ tt ]

  mka-there : (cut : Bool) (frame : List ℕ) (r : Result Spelled Refusal) → IsThere (mka_kind groups cut frame r)
  mka-there cut frame (Ok s) = group-there (gives_check (take s.covered frame) s) s (position (gives_check (take s.covered frame) s) groups) refl
  mka-there cut frame (Err refusals.NotMka) = tt
  mka-there cut frame (Err refusals.Short) =
      elim cut as (λ b. IsThere (kinds.Mka (cond b mkas.Cut (mkas.Dropped refusals.Short)))) [ true ↦ tt | false ↦ tt ]
  mka-there cut frame (Err (refusals.Shape at)) = tt
  mka-there cut frame (Err (refusals.Repeated kind)) = tt
  mka-there cut frame (Err refusals.Agility) = tt

  packet-there : (p : Seen) → IsThere (packet_kind groups p)
  packet-there p =
      elim p.head.is_ethernet as (λ b. IsThere (cond b (frame_kind groups (is_cut p) (frame_of p.octets)) kinds.Foreign)) [
        | true ↦ elim (is_sec (frame_of p.octets)) as (λ b. IsThere (cond b (kinds.Sec (sec_kind (is_cut p) (frame_of p.octets))) (mka_kind groups (is_cut p) (frame_of p.octets) (reading (frame_of p.octets))))) [
          | true ↦ tt
          | false ↦ mka-there (is_cut p) (frame_of p.octets) (reading (frame_of p.octets))
        ]
        | false ↦ tt
      ]

  -- ---- what was unwrapped

  unwraps-in : (gift : Option Gift) (k : Kind) → IsThere k → UnwrapsBy (groups ++ keys ∷ []) gift k → UnwrapsBy groups gift k
  unwraps-in gift (kinds.Mka (mkas.Right group s)) there is =
      (is.0, sym (get-more groups keys (group - 1) there) ∙ is.1, is.2)
  unwraps-in gift (kinds.Mka mkas.Cut) there is = is
  unwraps-in gift (kinds.Mka (mkas.Dropped refusal)) there is = is
  unwraps-in gift (kinds.Mka (mkas.Unknown ckn sci gives)) there is = is
  unwraps-in gift (kinds.Mka (mkas.Wrong gives)) there is = is
  unwraps-in gift kinds.Foreign there is = is
  unwraps-in gift kinds.Other there is = is
  unwraps-in gift (kinds.Sec sec) there is = is

  unwraps-out : (gift : Option Gift) (k : Kind) → IsThere k → UnwrapsBy groups gift k → UnwrapsBy (groups ++ keys ∷ []) gift k
  unwraps-out gift (kinds.Mka (mkas.Right group s)) there is =
      (is.0, get-more groups keys (group - 1) there ∙ is.1, is.2)
  unwraps-out gift (kinds.Mka mkas.Cut) there is = is
  unwraps-out gift (kinds.Mka (mkas.Dropped refusal)) there is = is
  unwraps-out gift (kinds.Mka (mkas.Unknown ckn sci gives)) there is = is
  unwraps-out gift (kinds.Mka (mkas.Wrong gives)) there is = is
  unwraps-out gift kinds.Foreign there is = is
  unwraps-out gift kinds.Other there is = is
  unwraps-out gift (kinds.Sec sec) there is = is

-- ---- what is judged

-- it follows from the right frames, what made keys known, and what packets tell
verdict-from : (one two : Ring) (packets : List Unwrapped) (v : Verdict) → frames one packets ≡ frames two packets
    → entries one packets ≡ entries two packets → noted one packets ≡ noted two packets
    → IsVerdict one packets v → IsVerdict two packets v
verdict-from one two packets v rights told notes is = record {
  once = subst (λ (fs : List RightFrame). IsJudged (BreaksOnce fs) v.once) rights is.once;
  one_key = subst (λ (es : List Entry). IsJudged (BreaksOneKey es) v.one_key) told is.one_key;
  uses = subst (λ (fs : List RightFrame). AreUsesOf fs v.uses) rights is.uses;
  timed = is.timed ∙ ap (λ (ns : List Noted). map (timed (events ns)) v.uses) notes;
  changes = subst (λ (ns : List Noted). AreChangesOf (fresh_frames ns) v.changes) notes is.changes;
  unready = subst (λ (ns : List Noted). AreUnreadyOf (events ns) v.unready) notes is.unready;
  members = subst (λ (ns : List Noted). AreMembersOf (spoken_of ns) v.members) notes is.members;
  unknown = is.unknown ∙ ap (λ (ns : List Noted). unknown_of (unknown_names ns)) notes;
}

module _ (ring : Ring) (keys : GroupKeys) where
  abbrev more : Ring
  more = with_group ring keys

  kind-same : (u : Unwrapped) → IsOfOther keys u → kind_in more u ≡ kind_in ring u
  kind-same u other = packet-same ring.groups keys u.packet other

  pub unwrapped-same : (u : Unwrapped) → IsOfOther keys u → IsUnwrapped more u ↔ IsUnwrapped ring u
  unwrapped-same u other = (
    λ is. unwraps-in ring.groups keys u.gift (kind_in ring u) (packet-there ring.groups keys u.packet)
        (subst (λ (k : Kind). UnwrapsBy more.groups u.gift k) (kind-same u other) is),
    λ is. subst (λ (k : Kind). UnwrapsBy more.groups u.gift k) (sym (kind-same u other))
        (unwraps-out ring.groups keys u.gift (kind_in ring u) (packet-there ring.groups keys u.packet) is),
  )

  -- ---- what is known before a packet

  pub entries-same : (packets : List Unwrapped) → All (IsOfOther keys) packets → entries more packets ≡ entries ring packets
  entries-same [] all = refl
  entries-same (u ∷ before) all =
      let other = All-head (IsOfOther keys) u before all in
      ap (λ (k : Kind). entries_by (number_behind before) u.packet.head.nanos u.gift k ++ entries more before) (kind-same u other)
      ∙ ap (λ (es : List Entry). entries_by (number_behind before) u.packet.head.nanos u.gift (kind_in ring u) ++ es)
      (entries-same before (All-tail (IsOfOther keys) u before all))

  pub frames-same : (packets : List Unwrapped) → All (IsOfOther keys) packets → frames more packets ≡ frames ring packets
  frames-same [] all = refl
  frames-same (u ∷ before) all =
      let rest = All-tail (IsOfOther keys) u before all in
      ap (λ (k : Kind). with_some (frame_by (entries more before) (number_behind before) u.packet k) (frames more before))
      (kind-same u (All-head (IsOfOther keys) u before all))
      ∙ ap (λ (es : List Entry). with_some (frame_by es (number_behind before) u.packet (kind_in ring u)) (frames more before)) (entries-same before rest)
      ∙ ap (λ (fs : List RightFrame). with_some (frame_by (entries ring before) (number_behind before) u.packet (kind_in ring u)) fs) (frames-same before rest)

  mkpdus-same : (packets : List Unwrapped) → All (IsOfOther keys) packets → mkpdus more packets ≡ mkpdus ring packets
  mkpdus-same [] all = refl
  mkpdus-same (u ∷ before) all =
      ap (λ (k : Kind). with_some (mkpdu_by (number_behind before) k) (mkpdus more before))
      (kind-same u (All-head (IsOfOther keys) u before all))
      ∙ ap (λ (ms : List RightMkpdu). with_some (mkpdu_by (number_behind before) (kind_in ring u)) ms)
      (mkpdus-same before (All-tail (IsOfOther keys) u before all))

  -- ---- what is told

  finding-same : (u : Unwrapped) (before : List Unwrapped) (k : Kind) → All (IsOfOther keys) before
      → finding_by more before u k ≡ finding_by ring before u k
  finding-same u before kinds.Foreign all = refl
  finding-same u before kinds.Other all = refl
  finding-same u before (kinds.Sec sec) all =
      ap (λ (es : List Entry). sec_finding es (frames more before) (frame_by es (number_behind before) u.packet (kinds.Sec sec)) u.packet.head.nanos sec) (entries-same before all)
      ∙ ap (λ (fs : List RightFrame). sec_finding (entries ring before) fs (frame_by (entries ring before) (number_behind before) u.packet (kinds.Sec sec)) u.packet.head.nanos sec) (frames-same before all)
  finding-same u before (kinds.Mka mka) all =
      ap (λ (es : List Entry). mka_finding es (mkpdus more before) (number_behind before) u.packet.head.nanos u.gift mka) (entries-same before all)
      ∙ ap (λ (ms : List RightMkpdu). mka_finding (entries ring before) ms (number_behind before) u.packet.head.nanos u.gift mka) (mkpdus-same before all)

  abbrev told_by : Unwrapped → Kind → Finding → Told
  told_by u k it = record { begun = begun_words (frame_of u.packet.octets) k; finding = it; is_untimed = u.packet.head.is_untimed }

  pub told-same : (packets : List Unwrapped) → All (IsOfOther keys) packets → all_told more packets ≡ all_told ring packets
  told-same [] all = refl
  told-same (u ∷ before) all =
      let rest = All-tail (IsOfOther keys) u before all in
      ap (λ (k : Kind). told_by u k (finding_by more before u k) ∷ all_told more before) (kind-same u (All-head (IsOfOther keys) u before all))
      ∙ ap (λ (it : Finding). told_by u (kind_in ring u) it ∷ all_told more before) (finding-same u before (kind_in ring u) rest)
      ∙ ap (λ (told : List Told). told_of ring before u ∷ told) (told-same before rest)

  noted-same : (packets : List Unwrapped) → All (IsOfOther keys) packets → noted more packets ≡ noted ring packets
  noted-same [] all = refl
  noted-same (u ∷ before) all =
      let rest = All-tail (IsOfOther keys) u before all in
      ap (λ (k : Kind). noted_of (finding_by more before u k) u.packet.head.nanos k ∷ noted more before) (kind-same u (All-head (IsOfOther keys) u before all))
      ∙ ap (λ (it : Finding). noted_of it u.packet.head.nanos (kind_in ring u) ∷ noted more before) (finding-same u before (kind_in ring u) rest)
      ∙ ap (λ (ns : List Noted). noted_of (finding_by ring before u (kind_in ring u)) u.packet.head.nanos (kind_in ring u) ∷ ns) (noted-same before rest)

  pub verdict-same : (packets : List Unwrapped) (v : Verdict) → All (IsOfOther keys) packets → IsVerdict more packets v ↔ IsVerdict ring packets v
  verdict-same packets v all = (
    verdict-from more ring packets v (frames-same packets all) (entries-same packets all) (noted-same packets all),
    verdict-from ring more packets v (sym (frames-same packets all)) (sym (entries-same packets all)) (sym (noted-same packets all)),
  )

  pub report-same : (asks : Asks) (packets : List Unwrapped) (v : Verdict) (ending : Ending) → All (IsOfOther keys) packets
      → report asks more packets v ending ≡ report asks ring packets v ending
  report-same asks packets v ending all =
      ap (λ (told : List Told). reports.report asks.shows asks.keys (numbered_hand ring) told v ending) (told-same packets all)

  pub lines-same : (asks : Asks) (packets : List Unwrapped) → All (IsOfOther keys) packets
      → told_lines asks more packets ≡ told_lines asks ring packets
  lines-same asks packets all =
      ap (λ (told : List Told). set_lines asks.keys (numbered_hand ring) ++ packet_lines asks.shows asks.keys told) (told-same packets all)
