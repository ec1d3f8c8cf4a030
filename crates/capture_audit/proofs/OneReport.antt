-- Of one key text and the same packets there is one report.
use Rattle.std.proofs.Common.{◌≡◌, ◌≢◌, ◌∙◌, ◌<◌, ◌≤◌, ◌⊎◌, inl, inr, ℕ, List, [], ◌∷◌, ◌++◌, length, map, Option, Ok, refl, sym, ap, subst, arith, append_assoc, length-append, take_all}
use Rattle.std.specs.Prelude.{All}
use Rattle.std.specs.List.{AllByRecursion}
use Rattle.std.proofs.lemmas.Bool.{cases_lt}
use Rattle.std.proofs.lemmas.List.{length-map, length-reverse, reverse-append}
use Rattle.std.proofs.lemmas.List.Elements.{All-cons}
use Rattle.audit_facts.specs.Noted.{events, fresh_frames, spoken_of}
use Rattle.audit_report.specs.Uses.{timed}
use Rattle.audit_report.specs.Tallies.{tally_of}
use Rattle.audit_report.specs.Verdicts.{Verdict, blame}
use Rattle.audit_report.specs.declared.blame.Blame.{Blame}
use Rattle.audit_report.specs.declared.ending.Ending.{Ending}
use Rattle.audit_report.specs.declared.ending.Ending.TheVariants as endings
use Rattle.audit_text.specs.Parting.{IsParted, capture_behind, key_text}
use Rattle.lan_base.specs.Ranges.{most_input}
use Rattle.capture_file.specs.declared.order.Order.{Order}
use Rattle.capture_packets.specs.Captures.{Told}
use Rattle.capture_packets.specs.Packets.{Seen}
use Rattle.capture_packets.specs.Written.{IsWritable, blocks_file, classic_file}
use Rattle.capture_packets.specs.declared.state.Parts.{Parts}
use Rattle.key_ring.specs.Rings.{AreKeyed, Ring, no_ring, ring_from, ring_in}
use Rattle.known_keys.specs.History.{keys}
use Rattle.known_keys.specs.OneKey.{BreaksOneKey}
use Rattle.lan_base.specs.Told.{after}
use Rattle.least_pairs.proofs.Public.{one-verdict}
use Rattle.text_lines.specs.Texts.{lines_of}
use Rattle.use_notes.specs.Once.{BreaksOnce}
use Rattle.use_notes.specs.declared.notes.Use.{Use}
use Rattle.capture_audit.specs.declared.asks.Asks.{Asks}
use Rattle.capture_audit.specs.Before.{IsUnwrapped, Unwrapped, entries, frames}
use Rattle.capture_audit.specs.Ends.{IsReported}
use Rattle.capture_audit.specs.Laws.{IsFileOf, IsInput, IsWhole}
use Rattle.known_keys.specs.Numbered.{most_keys}
use Rattle.capture_audit.specs.Reading.{HasAll, IsOneTooMany, IsRead, in_order}
use Rattle.capture_audit.specs.Telling.{IsVerdict, all_told, noted, report}
use Rattle.capture_audit.proofs.ChangesAlone.{changes-alone}
use Rattle.capture_audit.proofs.GiftsAgree.{IsOneKeyForOneWrap}
use Rattle.capture_audit.proofs.NoneMissed.{front-agrees, keys-more, whole-agrees}
use Rattle.capture_audit.proofs.UsesAlone.{members-alone, unready-alone, uses-alone}

-- ---- lists

-- of two fronts of a list that which is no longer is a front of the other
prefix : (xs us ys vs : List Seen) → length xs ≤ length ys → xs ++ us ≡ ys ++ vs → (more : List Seen) × (ys ≡ xs ++ more)
prefix [] us ys vs less same = (ys, refl)
prefix (x ∷ xs) us [] vs less same = absurd (omega (arith, less))
prefix (x ∷ xs) us (y ∷ ys) vs less same =
    let first : x ≡ y = cc same in
    let later : xs ++ us ≡ ys ++ vs = cc same in
    let it = prefix xs us ys vs (omega (arith, less)) later in
    (it.0, λ i. sym first i ∷ it.1 i)

none-more : (more xs : List Unwrapped) → length (more ++ xs) ≤ length xs → more ++ xs ≡ xs
none-more [] xs less = refl
none-more (u ∷ more) xs less = let long = length-append more xs in absurd (omega (arith, less, long))

order-length : (packets : List Unwrapped) → length (in_order packets) ≡ length packets
order-length packets =
    length-reverse (map (λ (u : Unwrapped). u.packet) packets) ∙ length-map packets (λ (u : Unwrapped). u.packet)

order-push : (next : Unwrapped) (packets : List Unwrapped) (later : List Seen)
    → in_order packets ++ next.packet ∷ later ≡ in_order (next ∷ packets) ++ later
order-push next packets later =
    sym (append_assoc (in_order packets) (next.packet ∷ []) later)
    ∙ ap (λ (xs : List Seen). xs ++ later) (sym (reverse-append (next.packet ∷ []) (map (λ (u : Unwrapped). u.packet) packets)))

-- ---- how reading ends

module _ (ring : Ring) (seen : List Seen) where
  -- reading ended so in a file of these packets, read whole
  record IsFull (packets : List Unwrapped) : Type 0 where
    pub next : Unwrapped
    pub later : List Seen
    pub all : seen ≡ in_order packets ++ next.packet ∷ later
    pub unwrapped : IsUnwrapped ring next
    pub many : most_keys < length (keys (entries ring (next ∷ packets)))

  abbrev EndsSo : List Unwrapped → Ending → Type 0
  EndsSo packets endings.Whole = in_order packets ≡ seen
  EndsSo packets endings.KeyLimit = IsFull packets
  EndsSo packets _ = ⊥

  ends-so : (text : List ℕ) (left : Option (List ℕ)) (packets : List Unwrapped) (ending : Ending)
      → IsWhole text seen → ending ≢ endings.Fault → IsRead text left ring packets ending → EndsSo packets ending
  ends-so text left packets endings.Whole whole apart r =
      ap (λ (t : Told). t.packets) (sym r.ends.2 ∙ whole.1)
  ends-so text left packets endings.Fault whole apart r = apart refl
  ends-so text left packets endings.InputLimit whole apart r =
      let past = r.ends.0 in let few = whole.0 in omega (arith, past, few)
  ends-so text left packets endings.KeyLimit whole apart r =
      let full : IsOneTooMany ring text packets = r.ends in
      record {
        next = full.next;
        later = full.later;
        all = sym (ap (λ (t : Told). t.packets) whole.1) ∙ full.all;
        unwrapped = full.unwrapped;
        many = full.many;
      }
  ends-so text left packets (endings.Octet at why) whole apart r =
      cc (ap (λ (t : Told). t.refused) (sym whole.1 ∙ r.ends.0))

  module _ (law : IsOneKeyForOneWrap) (keyed : AreKeyed ring) where
    record IsHere (packets : List Unwrapped) : Type 0 where
      pub unwrapped : All (IsUnwrapped ring) packets
      pub few : length (keys (entries ring packets)) ≤ most_keys

    -- no packets are read of which a front has a key too many
    none-past : (a b : List Unwrapped) (next : Unwrapped) (more : List Seen) → IsHere a → IsHere b
        → IsUnwrapped ring next → most_keys < length (keys (entries ring (next ∷ b)))
        → in_order a ≡ in_order (next ∷ b) ++ more → ⊥
    none-past a b next more here there unwrapped many same =
        let it = front-agrees law ring keyed a (next ∷ b) more here.unwrapped
        (All-cons (IsUnwrapped ring) next b unwrapped there.unwrapped) same in
        let grows = keys-more ring it.0 (next ∷ b) in
        let long = ap (λ (us : List Unwrapped). length (keys (entries ring us))) it.1 in
        let few = here.few in
        omega (arith, grows, long, few, many)

    shorter : (a b : List Unwrapped) → IsHere a → IsHere b → IsFull a → IsFull b → length b < length a → ⊥
    shorter a b here there full also less =
        let long = order-length a in
        let short = order-length (also.next ∷ b) in
        let it = prefix (in_order (also.next ∷ b)) also.later (in_order a) (full.next.packet ∷ full.later)
        (omega (arith, long, short, less))
        (sym (order-push also.next b also.later) ∙ sym also.all ∙ full.all) in
        none-past a b also.next it.0 here there also.unwrapped also.many it.1

    level : (a b : List Unwrapped) → IsHere a → IsHere b → IsFull a → IsFull b → length a ≤ length b
        → length b ≤ length a → a ≡ b
    level a b here there full also less more =
        let long = order-length a in
        let short = order-length b in
        let it = prefix (in_order b) (also.next.packet ∷ also.later) (in_order a) (full.next.packet ∷ full.later)
        (omega (arith, long, short, more)) (sym also.all ∙ full.all) in
        let front = front-agrees law ring keyed a b it.0 here.unwrapped there.unwrapped it.1 in
        let size = ap (λ (us : List Unwrapped). length us) front.1 in
        front.1 ∙ none-more front.0 b (omega (arith, size, less))

    full-agree : (a b : List Unwrapped) → IsHere a → IsHere b → IsFull a → IsFull b → a ≡ b
    full-agree a b here there full also = go (cases_lt (length b) (length a)) (cases_lt (length a) (length b))
      where
        go : (length b < length a) ⊎ (length a ≤ length b) → (length a < length b) ⊎ (length b ≤ length a) → a ≡ b
        go (inl less) _ = absurd (shorter a b here there full also less)
        go (inr _) (inl less) = absurd (shorter b a there here also full less)
        go (inr less) (inr more) = level a b here there full also less more

    not-both : (a b : List Unwrapped) → IsHere a → IsHere b → in_order a ≡ seen → IsFull b → ⊥
    not-both a b here there whole full =
        none-past a b full.next full.later here there full.unwrapped full.many
        (whole ∙ full.all ∙ order-push full.next b full.later)

    -- the same packets are read, and reading ends alike
    ends-agree : (a b : List Unwrapped) (one two : Ending) → IsHere a → IsHere b → EndsSo a one → EndsSo b two
        → (one ≡ two) × (a ≡ b)
    ends-agree a b endings.Whole endings.Whole here there is other =
        (refl, whole-agrees law ring keyed a b here.unwrapped there.unwrapped (is ∙ sym other))
    ends-agree a b endings.Whole endings.KeyLimit here there is other = absurd (not-both a b here there is other)
    ends-agree a b endings.KeyLimit endings.Whole here there is other = absurd (not-both b a there here other is)
    ends-agree a b endings.KeyLimit endings.KeyLimit here there is other = (refl, full-agree a b here there is other)
    ends-agree a b endings.Whole endings.Fault here there is other = absurd other
    ends-agree a b endings.Whole endings.InputLimit here there is other = absurd other
    ends-agree a b endings.Whole (endings.Octet at why) here there is other = absurd other
    ends-agree a b endings.KeyLimit endings.Fault here there is other = absurd other
    ends-agree a b endings.KeyLimit endings.InputLimit here there is other = absurd other
    ends-agree a b endings.KeyLimit (endings.Octet at why) here there is other = absurd other
    ends-agree a b endings.Fault two here there is other = absurd is
    ends-agree a b endings.InputLimit two here there is other = absurd is
    ends-agree a b (endings.Octet at why) two here there is other = absurd is

-- ---- what is judged

pub verdicts-agree : (ring : Ring) (packets : List Unwrapped) (one two : Verdict) → IsVerdict ring packets one
    → IsVerdict ring packets two → one ≡ two
verdicts-agree ring packets one two is other =
    let once = one-verdict (BreaksOnce (frames ring packets)) one.once two.once is.once other.once in
    let key = one-verdict (BreaksOneKey (entries ring packets)) one.one_key two.one_key is.one_key other.one_key in
    let uses = uses-alone (frames ring packets) one.uses two.uses is.uses other.uses in
    let notes = noted ring packets in
    let timely = is.timed ∙ ap (λ (us : List Use). map (timed (events notes)) us) uses ∙ sym other.timed in
    let changes = changes-alone (fresh_frames notes) one.changes two.changes is.changes other.changes in
    let unready = unready-alone (events notes) one.unready two.unready is.unready other.unready in
    let members = members-alone (spoken_of notes) one.members two.members is.members other.members in
    let unknown = is.unknown ∙ sym other.unknown in
    λ i. record {
      once = once i;
      one_key = key i;
      uses = uses i;
      timed = timely i;
      changes = changes i;
      unready = unready i;
      members = members i;
      unknown = unknown i;
    }

-- ---- the report

-- what is told of two reports that are one
abbrev pub AreOne : Ending → Ending → Blame → Blame → Option (List ℕ) → Option (List ℕ) → Type 0
AreOne one two blamed also then later = (one ≡ two) × (blamed ≡ also) × (then ≡ later)

module _ (law : IsOneKeyForOneWrap) (asks : Asks) (seen : List Seen) (text other : List ℕ)
    (said : ring_in text ≡ ring_in other) (keyed : (ring : Ring) → ring_in text ≡ Ok ring → AreKeyed ring)
    (whole : IsWhole text seen) (also : IsWhole other seen)
    (one two : Ending) (apart : one ≢ endings.Fault) (away : two ≢ endings.Fault)
    (left right held then later : Option (List ℕ)) (blamed too : Blame) where
  -- for what a capture of these packets is to blame
  abbrev blamed_in : Ring → List Unwrapped → Verdict → Blame
  blamed_in ring packets v = blame asks.strict (tally_of (all_told ring packets)) v

  by-ring : (ring : Ring) (a b : List Unwrapped) (v w : Verdict) → ring_in text ≡ Ok ring
      → IsRead text left ring a one → IsRead other right ring b two → IsVerdict ring a v → IsVerdict ring b w
      → blamed_in ring a v ≡ blamed → blamed_in ring b w ≡ too
      → then ≡ after held (report asks ring a v one) → later ≡ after held (report asks ring b w two)
      → AreOne one two blamed too then later
  by-ring ring a b v w told r s is it for_one for_two written put =
      let both = ends-agree ring seen law (keyed ring told) a b one two
      (record { unwrapped = r.unwrapped; few = r.few }) (record { unwrapped = s.unwrapped; few = s.few })
      (ends-so ring seen text left a one whole apart r) (ends-so ring seen other right b two also away s) in
      let same = verdicts-agree ring b v w (subst (λ (us : List Unwrapped). IsVerdict ring us v) both.1 is) it in (
        both.0,
        sym for_one ∙ ap (λ (us : List Unwrapped). blamed_in ring us v) both.1
            ∙ ap (λ (x : Verdict). blamed_in ring b x) same ∙ for_two,
        written
            ∙ ap (λ (us : List Unwrapped). after held (report asks ring us v one)) both.1
            ∙ ap (λ (x : Verdict). after held (report asks ring b x one)) same
            ∙ ap (λ (e : Ending). after held (report asks ring b w e)) both.0
            ∙ sym put,
      )

  pub one-report : IsReported asks text left one blamed held then → IsReported asks other right two too held later
      → AreOne one two blamed too then later
  one-report r s =
      let same : s.ring ≡ r.ring = cc (sym s.read.said ∙ sym said ∙ r.read.said) in
      by-ring r.ring r.packets s.packets r.verdict s.verdict r.read.said r.read
      (subst (λ (x : Ring). IsRead other right x s.packets two) same s.read) r.judged
      (subst (λ (x : Ring). IsVerdict x s.packets s.verdict) same s.judged) r.blame_is
      (subst (λ (x : Ring). blamed_in x s.packets s.verdict ≡ too) same s.blame_is) r.written
      (s.written ∙ ap (λ (x : Ring). after held (report asks x s.packets s.verdict two)) same)

-- ---- formats

-- what `law_one_list` says
abbrev pub IsOneList : Type 0
IsOneList =
    (classic : (order : Order) (parts : Parts) (packets : List Seen) → AllByRecursion (IsWritable parts) packets
    → HasAll (classic_file order parts packets) packets)
    × ((order : Order) (parts : Parts) (packets : List Seen) → AllByRecursion (IsWritable parts) packets
    → HasAll (blocks_file order packets) packets)

-- what `law_parted` says
abbrev pub IsPartedAlone : Type 0
IsPartedAlone = (text keys file : List ℕ) → IsParted text keys file
    → (keys ≡ key_text text) × (file ≡ capture_behind text)

has-all : IsOneList → (packets : List Seen) (file : List ℕ) → IsFileOf packets file → HasAll file packets
has-all lists packets file (order, parts, fit, inl is) =
    subst (λ (f : List ℕ). HasAll f packets) (sym is) (lists.0 order parts packets fit)
has-all lists packets file (order, parts, fit, inr is) =
    subst (λ (f : List ℕ). HasAll f packets) (sym is) (lists.1 order parts packets fit)

pub whole-of : IsOneList → IsPartedAlone → (packets : List Seen) (keys file text : List ℕ) → IsInput keys file text
    → IsFileOf packets file → IsWhole text packets
whole-of lists parted packets keys file text input is = (
  input.1,
  subst (λ (f : List ℕ). HasAll f packets)
      ((parted text keys file input.0).1 ∙ ap capture_behind (sym (take_all most_input text input.1)))
      (has-all lists packets file is),
)

pub said-of : IsPartedAlone → (keys file text : List ℕ) → IsInput keys file text
    → ring_in text ≡ ring_from 1 (lines_of keys) no_ring
said-of parted keys file text input =
    ap (λ (k : List ℕ). ring_from 1 (lines_of k) no_ring) (sym (parted text keys file input.0).0)
