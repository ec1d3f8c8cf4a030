-- What is told of a front of packets, and what is broken in it.
use Rattle.std.proofs.Common.{◌≡◌, ◌≢◌, ◌∙◌, ◌<◌, ◌≤◌, ◌+◌, ◌⊎◌, inl, inr, ℕ, Bool, cond, List, [], ◌∷◌, ◌++◌, length, Option, Some, None, refl, sym, ap, subst, arith, append_assoc, length-append}
use Rattle.std.specs.Prelude.{option_map}
use Rattle.std.proofs.lemmas.Bool.{cases_eq, ne_eqb}
use Rattle.std.proofs.lemmas.List.{append-nil}
use Rattle.audit_report.specs.Packets.{begun_words, finding_lines}
use Rattle.audit_report.specs.Report.{packet_lines}
use Rattle.audit_report.specs.Verdicts.{Verdict}
use Rattle.capture_packets.specs.Packets.{Seen}
use Rattle.key_ring.specs.Rings.{Ring}
use Rattle.key_ring.specs.declared.ring.HandKey.{HandKey}
use Rattle.known_keys.specs.Fronts.{IsBehind, IsWithin}
use Rattle.known_keys.specs.History.{Entry, Set}
use Rattle.known_keys.specs.OneKey.{BreaksOneKey}
use Rattle.known_keys.proofs.Public.{stays-broken}
use Rattle.least_pairs.specs.Pairs.{IsFront, IsJudged}
use Rattle.least_pairs.proofs.Public.{front-stays, one-verdict}
use Rattle.packet_verdicts.specs.declared.given.Gift.{Gift}
use Rattle.packet_verdicts.specs.declared.given.Shown.{Shown}
use Rattle.packet_verdicts.specs.declared.given.ShownKeys.{ShownKeys}
use Rattle.packet_verdicts.specs.declared.kind.Kind.{Kind}
use Rattle.packet_verdicts.specs.declared.kind.Kind.TheVariants as kinds
use Rattle.packet_verdicts.specs.declared.kind.Mka.TheVariants as mkas
use Rattle.packet_verdicts.specs.declared.kind.Sec.TheVariants as secs
use Rattle.packet_verdicts.specs.Frames.{frame_of}
use Rattle.packet_verdicts.specs.Given.{shown_keys}
use Rattle.use_notes.specs.declared.frame.RightFrame.{RightFrame}
use Rattle.use_notes.specs.Frames.{same_check}
use Rattle.use_notes.specs.Once.{BreaksOnce, Number, noted, number_of}
use Rattle.capture_audit.specs.declared.asks.Asks.{Asks}
use Rattle.capture_audit.specs.Before.{Unwrapped, entries, entries_by, frame_by, frames, gift_entries, kind_in, mkpdu_entries, number_behind, right_frame, right_key, right_under, set_behind, shown_entries, with_some}
use Rattle.capture_audit.specs.Findings.{finding}
use Rattle.capture_audit.specs.Telling.{IsVerdict, all_told}
use Rattle.capture_audit.proofs.Behind.{mkpdu-behind}

-- ---- lines

pub told-front : (asks : Asks) (ring : Ring) (later earlier : List Unwrapped)
    → (more : List ℕ) × (packet_lines asks.shows asks.keys (all_told ring (later ++ earlier)) ≡ packet_lines asks.shows asks.keys (all_told ring earlier) ++ more)
told-front asks ring [] earlier = ([], sym (append-nil (packet_lines asks.shows asks.keys (all_told ring earlier))))
told-front asks ring (u ∷ later) earlier =
    let before = told-front asks ring later earlier in
    let mine = finding_lines asks.shows asks.keys (length (all_told ring (later ++ earlier)) + 1)
    (begun_words (frame_of u.packet.octets) (kind_in ring u)) (finding ring (later ++ earlier) u) in (
      before.0 ++ mine,
      ap (λ (xs : List ℕ). xs ++ mine) before.1 ∙ append_assoc (packet_lines asks.shows asks.keys (all_told ring earlier)) before.0 mine,
    )

-- ---- right frames

-- a frame, if it is one, of a packet of this number
abbrev pub IsOfNumber : ℕ → Option RightFrame → Type 0
IsOfNumber n None = Unit {0}
IsOfNumber n (Some frame) = frame.packet ≡ n

under-number : (n nanos : ℕ) (make : ℕ → RightFrame) → ((k : ℕ) → (make k).packet ≡ n) → (o : Option ℕ)
    → IsOfNumber n (option_map make o)
under-number n nanos make is None = tt
under-number n nanos make is (Some key) = is key

by-number : (told : List Entry) (n : ℕ) (packet : Seen) (k : Kind) → IsOfNumber n (frame_by told n packet k)
by-number told n packet kinds.Foreign = tt
by-number told n packet kinds.Other = tt
by-number told n packet (kinds.Mka mka) = tt
by-number told n packet (kinds.Sec secs.Cut) = tt
by-number told n packet (kinds.Sec (secs.Malformed why)) = tt
by-number told n packet (kinds.Sec (secs.Protected tag check)) =
    under-number n packet.head.nanos (right_under n packet.head.nanos tag check) (λ key. refl)
    (right_key told tag (frame_of packet.octets))

pub right-number : (ring : Ring) (before : List Unwrapped) (u : Unwrapped)
    → IsOfNumber (number_behind before) (right_frame ring before u)
right-number ring before u = by-number (entries ring before) (number_behind before) u.packet (kind_in ring u)

pub noted-past : (n : ℕ) (o : Option RightFrame) (h : List RightFrame) → IsOfNumber n o → (m : ℕ) → m ≢ n
    → noted (with_some o h) m ≡ noted h m
noted-past n None h is m apart = refl
noted-past n (Some e) h is m apart =
    ap (λ b. cond b (Some (number_of e, e.check)) (noted h m)) (ne_eqb m e.packet (λ same. apart (same ∙ is)))

pub noted-front : (ring : Ring) (later earlier : List Unwrapped) (m : ℕ) → m ≤ length earlier
    → noted (frames ring (later ++ earlier)) m ≡ noted (frames ring earlier) m
noted-front ring [] earlier m less = refl
noted-front ring (u ∷ later) earlier m less =
    let long = length-append later earlier in
    noted-past (number_behind (later ++ earlier)) (right_frame ring (later ++ earlier) u) (frames ring (later ++ earlier))
    (right-number ring (later ++ earlier) u) m (λ e. omega (arith, e, less, long))
    ∙ noted-front ring later earlier m less

pub noted-ends : (ring : Ring) (earlier : List Unwrapped) (m : ℕ) (kv : Number × List ℕ)
    → noted (frames ring earlier) m ≡ Some kv → m ≤ length earlier
noted-ends ring [] m kv is = absurd (cc is)
noted-ends ring (u ∷ before) m kv is = go (cases_eq m (number_behind before)) (noted-ends ring before m kv)
  where
    go : (m ≡ number_behind before) ⊎ (m ≢ number_behind before)
        → (noted (frames ring before) m ≡ Some kv → m ≤ length before) → m ≤ length (u ∷ before)
    go (inl same) earlier = omega (arith, same)
    go (inr apart) earlier =
        let past = noted-past (number_behind before) (right_frame ring before u) (frames ring before) (right-number ring before u) m apart in
        let less = earlier (sym past ∙ is) in
        omega (arith, less)

pub frames-front : (ring : Ring) (later earlier : List Unwrapped)
    → IsFront Number (List ℕ) (length earlier) (noted (frames ring earlier)) (noted (frames ring (later ++ earlier)))
frames-front ring later earlier = record {
  same = λ m less. noted-front ring later earlier m less;
  ends = λ m kv is. noted-ends ring earlier m kv is;
}

pub once-stays : (ring : Ring) (later earlier : List Unwrapped) (front whole : Verdict) (pair : ℕ × ℕ)
    → IsVerdict ring earlier front → IsVerdict ring (later ++ earlier) whole → front.once ≡ Some pair → whole.once ≡ Some pair
once-stays ring later earlier front whole pair was is broken =
    one-verdict (BreaksOnce (frames ring (later ++ earlier))) whole.once (Some pair) is.once
    (front-stays Number (List ℕ) same_check (length earlier) (noted (frames ring earlier)) (noted (frames ring (later ++ earlier))) pair
    (frames-front ring later earlier)
    (subst (λ (o : Option (ℕ × ℕ)). IsJudged (BreaksOnce (frames ring earlier)) o) broken was.once))

-- ---- what makes keys known

shown-within : (end n nanos group : ℕ) (shown : Option Shown) (told : List Entry) → IsWithin end told
    → IsWithin end (shown_entries n nanos group shown ++ told)
shown-within end n nanos group None told is = is
shown-within end n nanos group (Some shown) told is = is

gift-within : (end n nanos group : ℕ) (gift : Option Gift) (told : List Entry) → n ≤ end → IsWithin end told
    → IsWithin end (gift_entries n nanos group gift ++ told)
gift-within end n nanos group None told most is = is
gift-within end n nanos group (Some gift) told most is = (most, is)

mkpdu-within : (end n nanos group : ℕ) (shown : ShownKeys) (gift : Option Gift) (told : List Entry) → n ≤ end
    → IsWithin end told → IsWithin end (mkpdu_entries n nanos group shown gift ++ told)
mkpdu-within end n nanos group shown gift told most is =
    subst (λ (es : List Entry). IsWithin end es) (sym (mkpdu-behind n nanos group shown gift told))
    (shown-within end n nanos group shown.old (shown_entries n nanos group shown.latest ++ (gift_entries n nanos group gift ++ told))
    (shown-within end n nanos group shown.latest (gift_entries n nanos group gift ++ told)
    (gift-within end n nanos group gift told most is)))

pub by-within : (end n nanos : ℕ) (gift : Option Gift) (k : Kind) (told : List Entry) → n ≤ end → IsWithin end told
    → IsWithin end (entries_by n nanos gift k ++ told)
by-within end n nanos gift (kinds.Mka (mkas.Right group s)) told most is =
    mkpdu-within end n nanos group (shown_keys s.announcement.uses) gift told most is
by-within end n nanos gift (kinds.Mka (mkas.Unknown ckn sci gives)) told most is = is
by-within end n nanos gift _ told most is = is

set-within : (end : ℕ) (told : List Entry) (hand : List HandKey) → IsWithin end told → IsWithin end (set_behind told hand)
set-within end told [] is = is
set-within end told (key ∷ later) is = set-within end (Set key.sender key.an key.sak ∷ told) later is

pub entries-within : (ring : Ring) (earlier : List Unwrapped) (end : ℕ) → length earlier ≤ end → IsWithin end (entries ring earlier)
entries-within ring [] end most = set-within end [] ring.hand tt
entries-within ring (u ∷ before) end most =
    by-within end (number_behind before) u.packet.head.nanos u.gift (kind_in ring u) (entries ring before)
    (omega (arith, most)) (entries-within ring before end (omega (arith, most)))

shown-behind : (end n nanos group : ℕ) (shown : Option Shown) (told : List Entry) → IsBehind end told
    → IsBehind end (shown_entries n nanos group shown ++ told)
shown-behind end n nanos group None told is = is
shown-behind end n nanos group (Some shown) told is = is

gift-behind : (end n nanos group : ℕ) (gift : Option Gift) (told : List Entry) → end < n → IsBehind end told
    → IsBehind end (gift_entries n nanos group gift ++ told)
gift-behind end n nanos group None told most is = is
gift-behind end n nanos group (Some gift) told most is = (most, is)

by-behind : (end n nanos : ℕ) (gift : Option Gift) (k : Kind) (told : List Entry) → end < n → IsBehind end told
    → IsBehind end (entries_by n nanos gift k ++ told)
by-behind end n nanos gift (kinds.Mka (mkas.Right group s)) told most is =
    let shown = shown_keys s.announcement.uses in
    subst (λ (es : List Entry). IsBehind end es) (sym (mkpdu-behind n nanos group shown gift told))
    (shown-behind end n nanos group shown.old (shown_entries n nanos group shown.latest ++ (gift_entries n nanos group gift ++ told))
    (shown-behind end n nanos group shown.latest (gift_entries n nanos group gift ++ told)
    (gift-behind end n nanos group gift told most is)))
by-behind end n nanos gift (kinds.Mka (mkas.Unknown ckn sci gives)) told most is = is
by-behind end n nanos gift _ told most is = is

-- what the later packets tell
abbrev pub later-entries : Ring → List Unwrapped → List Unwrapped → List Entry
later-entries ring [] earlier = []
later-entries ring (u ∷ later) earlier =
    entries_by (number_behind (later ++ earlier)) u.packet.head.nanos u.gift (kind_in ring u) ++ later-entries ring later earlier

pub entries-front : (ring : Ring) (later earlier : List Unwrapped)
    → entries ring (later ++ earlier) ≡ later-entries ring later earlier ++ entries ring earlier
entries-front ring [] earlier = refl
entries-front ring (u ∷ later) earlier =
    let mine = entries_by (number_behind (later ++ earlier)) u.packet.head.nanos u.gift (kind_in ring u) in
    ap (λ (es : List Entry). mine ++ es) (entries-front ring later earlier)
    ∙ sym (append_assoc mine (later-entries ring later earlier) (entries ring earlier))

pub later-behind : (ring : Ring) (later earlier : List Unwrapped) → IsBehind (length earlier) (later-entries ring later earlier)
later-behind ring [] earlier = tt
later-behind ring (u ∷ later) earlier =
    let long = length-append later earlier in
    by-behind (length earlier) (number_behind (later ++ earlier)) u.packet.head.nanos u.gift (kind_in ring u)
    (later-entries ring later earlier) (omega (arith, long)) (later-behind ring later earlier)

pub one-key-stays : (ring : Ring) (later earlier : List Unwrapped) (front whole : Verdict) (pair : ℕ × ℕ)
    → IsVerdict ring earlier front → IsVerdict ring (later ++ earlier) whole → front.one_key ≡ Some pair → whole.one_key ≡ Some pair
one-key-stays ring later earlier front whole pair was is broken =
    one-verdict (BreaksOneKey (entries ring (later ++ earlier))) whole.one_key (Some pair) is.one_key
    (subst (λ (es : List Entry). IsJudged (BreaksOneKey es) (Some pair)) (sym (entries-front ring later earlier))
    (stays-broken (later-entries ring later earlier) (entries ring earlier) (length earlier) pair
    (entries-within ring earlier (length earlier) (omega arith)) (later-behind ring later earlier)
    (subst (λ (o : Option (ℕ × ℕ)). IsJudged (BreaksOneKey (entries ring earlier)) o) broken was.one_key)))
