-- Of a text whose packets can be read to their end nothing is missed.
use Rattle.std.proofs.Common.{◌≡◌, ◌∙◌, ◌<◌, ◌≤◌, ◌⊎◌, inl, inr, ℕ, Bool, true, false, cond, List, [], ◌∷◌, ◌++◌, length, Option, Some, None, Result, Ok, Err, refl, sym, ap, subst, arith, append_assoc}
use Rattle.std.specs.Prelude.{◌==◌, ◌||◌, nat_lt, All, map, reverse}
use Rattle.std.proofs.lemmas.List.Elements.{All-cons, All-head, All-tail}
use Rattle.std.proofs.lemmas.List.{append-nil, reverse-append, reverse-reverse}
use Rattle.audit_report.specs.declared.blame.Blame.{Blame}
use Rattle.audit_report.specs.declared.blame.Blame.TheVariants as blames
use Rattle.audit_report.specs.declared.blame.Breach.{Breach}
use Rattle.audit_report.specs.declared.blame.Breach.TheVariants as breaches
use Rattle.audit_report.specs.declared.ending.Ending.{Ending}
use Rattle.audit_report.specs.declared.ending.Ending.TheVariants as endings
use Rattle.audit_report.specs.declared.tally.Tally.{Tally}
use Rattle.audit_report.specs.Tallies.{tally_of}
use Rattle.audit_report.specs.Verdicts.{Verdict, blame, blame_for, breach, breach_of, doubt, strict_doubt}
use Rattle.capture_packets.specs.Captures.{Told, capture}
use Rattle.capture_packets.specs.Packets.{Seen}
use Rattle.key_ring.specs.Reading.{file_in}
use Rattle.key_ring.specs.Rings.{AreKeyed, Ring, ring_in}
use Rattle.known_keys.specs.History.{Entry, keys, sak_of}
use Rattle.known_keys.proofs.Public.{no-fewer, stays-broken}
use Rattle.known_keys.specs.OneKey.{BreaksOneKey}
use Rattle.key_ring.specs.Reading.{ReadsRing}
use Rattle.key_ring.specs.Reading.{RingEnd}
use Rattle.text_lines.specs.declared.reading.End.TheVariants as rings
use Rattle.least_pairs.specs.Pairs.{IsJudged, IsLeast}
use Rattle.least_pairs.proofs.Public.{front-stays}
use Rattle.capture_packets.specs.declared.fault.CaptureFault.{CaptureFault}
use Rattle.octet_supply.specs.Supplying.{Held}
use Rattle.use_notes.specs.Frames.{same_check}
use Rattle.use_notes.specs.Once.{BreaksOnce, Number, noted}
use Rattle.packet_verdicts.specs.declared.kind.Kind.{Kind}
use Rattle.packet_verdicts.specs.Kinds.{packet_kind}
use Rattle.capture_audit.specs.declared.asks.Asks.{Asks}
use Rattle.capture_audit.specs.declared.end.AuditEnd.{AuditEnd}
use Rattle.capture_audit.specs.declared.end.AuditEnd.TheVariants as ends
use Rattle.capture_audit.specs.Before.{IsUnwrapped, Unwrapped, UnwrapsBy, entries, entries_by, frames, kind_in, number_behind}
use Rattle.capture_audit.specs.Ends.{EndsAudit, HasManySet, IsBlamed, IsBreach, IsBroken, IsOfOutside, IsRefuted, IsReported, end_for}
use Rattle.capture_audit.specs.Reading.{IsOneTooMany, IsRead, in_order}
use Rattle.capture_audit.specs.Telling.{IsVerdict, all_told}
use Rattle.capture_audit.specs.inside.Auditing.{end_of_ring}
use Rattle.capture_audit.proofs.FrontTold.{entries-front, entries-within, frames-front, later-behind, later-entries}
use Rattle.capture_audit.proofs.GiftsAgree.{IsOneKeyForOneWrap, gifts-agree}
use Rattle.capture_audit.proofs.Opening.{ring-said}

-- ---- packets that were unwrapped are those of the capture

module _ (law : IsOneKeyForOneWrap) (ring : Ring) (keyed : AreKeyed ring) where
  one-agrees : (a b : Unwrapped) → IsUnwrapped ring a → IsUnwrapped ring b → a.packet ≡ b.packet → a ≡ b
  one-agrees a b is other same =
      let kind : kind_in ring a ≡ kind_in ring b = ap (λ (s : Seen). packet_kind ring.groups s) same in
      let gift = gifts-agree law ring.groups a.gift b.gift (kind_in ring a) keyed is
      (subst (λ (k : Kind). UnwrapsBy ring.groups b.gift k) (sym kind) other) in
      λ i. record { packet = same i; gift = gift i }

  all-agree : (a b : List Unwrapped) → All (IsUnwrapped ring) a → All (IsUnwrapped ring) b
      → map (λ u. u.packet) a ≡ map (λ u. u.packet) b → a ≡ b
  all-agree [] [] is other same = refl
  all-agree [] (v ∷ b) is other same = absurd (cc same)
  all-agree (u ∷ a) [] is other same = absurd (cc same)
  all-agree (u ∷ a) (v ∷ b) is other same =
      let first : u.packet ≡ v.packet = cc same in
      let later : map (λ (w : Unwrapped). w.packet) a ≡ map (λ (w : Unwrapped). w.packet) b = cc same in
      let one = one-agrees u v (All-head (IsUnwrapped ring) u a is) (All-head (IsUnwrapped ring) v b other) first in
      let rest = all-agree a b (All-tail (IsUnwrapped ring) u a is) (All-tail (IsUnwrapped ring) v b other) later in
      λ i. one i ∷ rest i

  behind-agree : (more : List Seen) (a b : List Unwrapped) → All (IsUnwrapped ring) a → All (IsUnwrapped ring) b
      → map (λ u. u.packet) a ≡ more ++ map (λ u. u.packet) b → (later : List Unwrapped) × (a ≡ later ++ b)
  behind-agree [] a b is other same = ([], all-agree a b is other same)
  behind-agree (s ∷ more) [] b is other same = absurd (cc same)
  behind-agree (s ∷ more) (u ∷ a) b is other same =
      let rest : map (λ (w : Unwrapped). w.packet) a ≡ more ++ map (λ (w : Unwrapped). w.packet) b = cc same in
      let it = behind-agree more a b (All-tail (IsUnwrapped ring) u a is) other rest in
      (u ∷ it.0, ap (λ (us : List Unwrapped). u ∷ us) it.1)

  pub front-agrees : (a b : List Unwrapped) (later : List Seen) → All (IsUnwrapped ring) a → All (IsUnwrapped ring) b
      → in_order a ≡ in_order b ++ later → (more : List Unwrapped) × (a ≡ more ++ b)
  front-agrees a b later is other same =
      let seen_a = map (λ (w : Unwrapped). w.packet) a in
      let seen_b = map (λ (w : Unwrapped). w.packet) b in
      behind-agree (reverse later) a b is other
      (sym (reverse-reverse seen_a) ∙ ap (λ (xs : List Seen). reverse xs) same ∙ reverse-append (reverse seen_b) later
      ∙ ap (λ (xs : List Seen). reverse later ++ xs) (reverse-reverse seen_b))

  pub whole-agrees : (a b : List Unwrapped) → All (IsUnwrapped ring) a → All (IsUnwrapped ring) b
      → in_order a ≡ in_order b → a ≡ b
  whole-agrees a b is other same =
      let seen_a = map (λ (w : Unwrapped). w.packet) a in
      let seen_b = map (λ (w : Unwrapped). w.packet) b in
      all-agree a b is other
      (sym (reverse-reverse seen_a) ∙ ap (λ (xs : List Seen). reverse xs) same ∙ reverse-reverse seen_b)

-- ---- keys stay

keys-behind : (more told : List Entry) → length (keys told) ≤ length (keys (more ++ told))
keys-behind [] told = omega arith
keys-behind (e ∷ more) told =
    let a = keys-behind more told in
    let b = no-fewer (keys (more ++ told)) (sak_of e) in
    omega (arith, a, b)

pub keys-more : (ring : Ring) (later earlier : List Unwrapped)
    → length (keys (entries ring earlier)) ≤ length (keys (entries ring (later ++ earlier)))
keys-more ring [] earlier = omega arith
keys-more ring (u ∷ later) earlier =
    let a = keys-more ring later earlier in
    let b = keys-behind (entries_by (number_behind (later ++ earlier)) u.packet.head.nanos u.gift (kind_in ring u))
    (entries ring (later ++ earlier)) in
    omega (arith, a, b)

-- ---- what is broken stays broken

not-refuted : (once one_key : Option (ℕ × ℕ)) → breach_of once one_key ≡ None → (once ≡ None) × (one_key ≡ None)
not-refuted (Some pair) one_key is = absurd (cc is)
not-refuted None (Some pair) is = absurd (cc is)
not-refuted None None is = (refl, refl)

-- of a pair that shares a nonce, and of one that disagrees on a key where none shares a nonce
module _ (ring : Ring) (later earlier : List Unwrapped) where
  least-stays : (pair : ℕ × ℕ) → IsLeast (BreaksOnce (frames ring earlier)) pair.0 pair.1
      → IsLeast (BreaksOnce (frames ring (later ++ earlier))) pair.0 pair.1
  least-stays pair is =
      front-stays Number (List ℕ) same_check (length earlier) (noted (frames ring earlier))
      (noted (frames ring (later ++ earlier))) pair (frames-front ring later earlier) is

  key-stays : (pair : ℕ × ℕ) → IsLeast (BreaksOneKey (entries ring earlier)) pair.0 pair.1
      → IsLeast (BreaksOneKey (entries ring (later ++ earlier))) pair.0 pair.1
  key-stays pair is =
      subst (λ (es : List Entry). IsJudged (BreaksOneKey es) (Some pair)) (sym (entries-front ring later earlier))
      (stays-broken (later-entries ring later earlier) (entries ring earlier) (length earlier) pair
      (entries-within ring earlier (length earlier) (omega arith)) (later-behind ring later earlier) is)

  module _ (failed : Type 0)
      (then : ((k m : ℕ) → BreaksOnce (frames ring earlier) k m → ⊥)
      → ((k m : ℕ) → BreaksOnce (frames ring (later ++ earlier)) k m → ⊥) ⊎ failed) where
    breach-stays : (once one_key : Option (ℕ × ℕ)) (b : Breach) → IsJudged (BreaksOnce (frames ring earlier)) once
        → IsJudged (BreaksOneKey (entries ring earlier)) one_key → breach_of once one_key ≡ Some b
        → IsBreach ring (later ++ earlier) failed b
    breach-stays (Some pair) one_key b once key is =
        let e : breaches.Nonce pair.0 pair.1 ≡ b = cc is in
        subst (λ (x : Breach). IsBreach ring (later ++ earlier) failed x) e (least-stays pair once)
    breach-stays None (Some pair) b once key is =
        let e : breaches.Key pair.0 pair.1 ≡ b = cc is in
        subst (λ (x : Breach). IsBreach ring (later ++ earlier) failed x) e (key-stays pair key, then once)
    breach-stays None None b once key is = absurd (cc is)

-- what breaks is a pair that is broken
broken-by : (ring : Ring) (packets : List Unwrapped) (failed : Type 0) (b : Breach) → IsBreach ring packets failed b
    → (i : ℕ) × (j : ℕ) × IsBroken ring packets i j
broken-by ring packets failed (breaches.Nonce i j) is = (i, j, inl is.broken)
broken-by ring packets failed (breaches.Key i j) is = (i, j, inr is.0.broken)

-- ---- the key text is not read

pub ring-missed : (asks : Asks) (failed : Type 0) (text : List ℕ) (left : Option (List ℕ)) (ring : Ring)
    (packets : List Unwrapped) (end : RingEnd)
    → IsRead text (Some []) ring packets endings.Whole → ReadsRing text left (Err end)
    → IsOfOutside asks failed (Err (end_of_ring end))
ring-missed asks failed text left ring packets (rings.Refused (line, why)) read is = absurd (cc (sym read.said ∙ is))
ring-missed asks failed text left ring packets rings.Limit read is =
    let past = is.0 in let few = read.ends.0 in absurd (omega (arith, past, few))
ring-missed asks failed text left ring packets rings.ReadFault read is = inl refl
ring-missed asks failed text left ring packets rings.Memory read is = inr (inr (inl refl))

pub keyed-so : (text : List ℕ) (left : Option (List ℕ)) (own ring : Ring) (supply : Option Held)
    → ReadsRing text left (Ok (own, supply)) → AreKeyed own → ring_in text ≡ Ok ring → AreKeyed ring
keyed-so text left own ring supply is keyed said =
    let same : own ≡ ring = cc (sym (ring-said text left own supply is) ∙ said) in
    subst (λ (r : Ring). AreKeyed r) same keyed

-- ---- for what a capture is to blame

-- of frames alone no capture is refuted
no-doubt : (strict some none : Bool) (wrong undecided : ℕ) (b : Breach)
    → cond strict (cond some (blames.Doubted wrong undecided) (cond none blames.NotJudged blames.None)) blames.None
    ≡ blames.Refuted b → ⊥
no-doubt true true none wrong undecided b e = cc e
no-doubt true false true wrong undecided b e = cc e
no-doubt true false false wrong undecided b e = cc e
no-doubt false some none wrong undecided b e = cc e

-- and none is doubted that is not to be
doubted-strict : (strict : Bool) (some blamed : Blame) → (blames.None ≡ blamed → ⊥) → cond strict some blames.None ≡ blamed
    → strict ≡ true
doubted-strict true some blamed other e = refl
doubted-strict false some blamed other e = absurd (other e)

module _ (strict : Bool) (t : Tally) (v : Verdict) where
  blame-refuted : (b : Breach) → blame strict t v ≡ blames.Refuted b → breach v ≡ Some b
  blame-refuted b is = go (breach v) is
    where
      go : (o : Option Breach) → blame_for o (doubt strict t) ≡ blames.Refuted b → o ≡ Some b
      go (Some a) e = cc e
      go None e = absurd (no-doubt strict (nat_lt 0 t.sec.wrong || nat_lt 0 t.sec.undecided) (t.sec.right == 0)
          t.sec.wrong t.sec.undecided b e)

  blame-else : (blamed : Blame) → ((b : Breach) → blames.Refuted b ≡ blamed → ⊥) → blame strict t v ≡ blamed
      → (breach v ≡ None) × (doubt strict t ≡ blamed)
  blame-else blamed other is = go (breach v) is
    where
      go : (o : Option Breach) → blame_for o (doubt strict t) ≡ blamed → (o ≡ None) × (doubt strict t ≡ blamed)
      go (Some a) e = absurd (other a e)
      go None e = (refl, e)

-- ---- what is told

module _ (law : IsOneKeyForOneWrap) (asks : Asks) (failed : Type 0) (text : List ℕ) (ring : Ring) (packets : List Unwrapped)
    (keyed : AreKeyed ring) (read : IsRead text (Some []) ring packets endings.Whole) where
  same-ring : (other : Ring) → ring_in text ≡ Ok other → other ≡ ring
  same-ring other said = cc (sym said ∙ read.said)

  all : (capture (file_in text)).packets ≡ in_order packets
  all = ap (λ (t : Told). t.packets) read.ends.2

  unwrapped : (left : Option (List ℕ)) (other : Ring) (before : List Unwrapped) (ending : Ending)
      → IsRead text left other before ending → All (IsUnwrapped ring) before
  unwrapped left other before ending r =
      subst (λ (x : Ring). All (IsUnwrapped x) before) (same-ring other r.said) r.unwrapped

  fronts : (left : Option (List ℕ)) (other : Ring) (before : List Unwrapped) (ending : Ending)
      → IsRead text left other before ending → (later : List Unwrapped) × (packets ≡ later ++ before)
  fronts left other before ending r =
      front-agrees law ring keyed packets before r.first.0 read.unwrapped (unwrapped left other before ending r)
      (sym all ∙ r.first.1)

  not-refused : (left : Option (List ℕ)) (other : Ring) (before : List Unwrapped) (at : ℕ) (why : CaptureFault)
      → IsRead text left other before (endings.Octet at why) → ⊥
  not-refused left other before at why r =
      cc (sym (ap (λ (t : Told). t.refused) read.ends.2) ∙ ap (λ (t : Told). t.refused) r.ends.0)

  not-past : (left : Option (List ℕ)) (other : Ring) (before : List Unwrapped)
      → IsRead text left other before endings.InputLimit → ⊥
  not-past left other before r =
      let past = r.ends.0 in let few = read.ends.0 in omega (arith, past, few)

  not-full : (left : Option (List ℕ)) (other : Ring) (before : List Unwrapped)
      → IsRead text left other before endings.KeyLimit → ⊥
  not-full left other before r =
      let o : IsOneTooMany ring text before =
      subst (λ (x : Ring). IsOneTooMany x text before) (same-ring other r.said) r.ends in
      let seen = map (λ (w : Unwrapped). w.packet) before in
      let order : in_order before ++ o.next.packet ∷ o.later ≡ in_order (o.next ∷ before) ++ o.later =
      sym (append_assoc (in_order before) (o.next.packet ∷ []) o.later)
      ∙ ap (λ (xs : List Seen). xs ++ o.later) (sym (reverse-append (o.next.packet ∷ []) seen)) in
      let it = front-agrees law ring keyed packets (o.next ∷ before) o.later read.unwrapped
      (All-cons (IsUnwrapped ring) o.next before o.unwrapped (unwrapped left other before endings.KeyLimit r)) (sym all ∙ o.all ∙ order) in
      let more = keys-more ring it.0 (o.next ∷ before) in
      let long = ap (λ (us : List Unwrapped). length (keys (entries ring us))) it.1 in
      let few = read.few in
      let many = o.many in
      omega (arith, more, long, few, many)

  not-set : HasManySet text → ⊥
  not-set h =
      let many = subst (λ (x : Ring). 4096 < length (keys (entries x []))) (same-ring h.ring h.said) h.many in
      let more = keys-more ring packets [] in
      let long = ap (λ (us : List Unwrapped). length (keys (entries ring us))) (append-nil packets) in
      let few = read.few in
      omega (arith, more, long, few, many)

  judged-here : (left held then : Option (List ℕ)) (ending : Ending) (blamed : Blame)
      → (r : IsReported asks text left ending blamed held then) → IsVerdict ring r.packets r.verdict
  judged-here left held then ending blamed r =
      subst (λ (x : Ring). IsVerdict x r.packets r.verdict) (same-ring r.ring r.read.said) r.judged

  -- all packets were read
  all-read : (left held then : Option (List ℕ)) (blamed : Blame)
      → (r : IsReported asks text left endings.Whole blamed held then) → r.packets ≡ packets
  all-read left held then blamed r =
      whole-agrees law ring keyed r.packets packets (unwrapped left r.ring r.packets endings.Whole r.read) read.unwrapped
      (sym (ap (λ (t : Told). t.packets) r.read.ends.2) ∙ all)

  -- and for nothing but frames the capture is to blame
  module _ (left held then : Option (List ℕ)) (blamed : Blame) (other : (b : Breach) → blames.Refuted b ≡ blamed → ⊥)
      (r : IsReported asks text left endings.Whole blamed held then) where
    blamed-else : (breach r.verdict ≡ None) × (doubt asks.strict (tally_of (all_told r.ring r.packets)) ≡ blamed)
    blamed-else = blame-else asks.strict (tally_of (all_told r.ring r.packets)) r.verdict blamed other r.blame_is

    none-broken : (i j : ℕ) → IsBroken ring packets i j → ⊥
    none-broken i j =
        let none = not-refuted r.verdict.once r.verdict.one_key blamed-else.0 in
        let v : IsVerdict ring packets r.verdict =
        subst (λ (us : List Unwrapped). IsVerdict ring us r.verdict) (all-read left held then blamed r)
        (judged-here left held then endings.Whole blamed r) in
        λ b. elim b [
          | inl once ↦
              subst (λ (o : Option (ℕ × ℕ)). IsJudged (BreaksOnce (frames ring packets)) o) none.0 v.once i j once
          | inr one ↦
              subst (λ (o : Option (ℕ × ℕ)). IsJudged (BreaksOneKey (entries ring packets)) o) none.1 v.one_key i j one
        ]

    ends-so : end_for blamed ≡ end_for (doubt asks.strict (tally_of (all_told ring packets)))
    ends-so =
        ap (λ (x : Blame). end_for x) (sym blamed-else.1)
        ∙ ap (λ (x : Ring). end_for (doubt asks.strict (tally_of (all_told x r.packets)))) (same-ring r.ring r.read.said)
        ∙ ap (λ (us : List Unwrapped). end_for (doubt asks.strict (tally_of (all_told ring us))))
        (all-read left held then blamed r)

  -- a pair breaks: all packets were read, or the source failed
  module _ (left held then : Option (List ℕ)) (b : Breach) where
    abbrev refuted : Blame
    refuted = blames.Refuted b

    breaks : (ending : Ending) (r : IsReported asks text left ending refuted held then) (later : List Unwrapped)
        → packets ≡ later ++ r.packets
        → (((k m : ℕ) → BreaksOnce (frames ring r.packets) k m → ⊥)
        → ((k m : ℕ) → BreaksOnce (frames ring (later ++ r.packets)) k m → ⊥) ⊎ failed)
        → IsBreach ring packets failed b
    breaks ending r later is then_none =
        let v = judged-here left held then ending refuted r in
        subst (λ (us : List Unwrapped). IsBreach ring us failed b) (sym is)
        (breach-stays ring later r.packets failed then_none r.verdict.once r.verdict.one_key b v.once v.one_key
        (blame-refuted asks.strict (tally_of (all_told r.ring r.packets)) r.verdict b r.blame_is))

    whole-breach : IsBlamed asks text left failed refuted held then → IsBreach ring packets failed b
    whole-breach (endings.Whole, so, r) =
        breaks endings.Whole r [] (sym (all-read left held then refuted r)) (λ none. inl none)
    whole-breach (endings.Fault, so, r) =
        let f = fronts left r.ring r.packets endings.Fault r.read in
        breaks endings.Fault r f.0 f.1 (λ none. inr (so refl))
    whole-breach (endings.InputLimit, so, r) = absurd (not-past left r.ring r.packets r.read)
    whole-breach (endings.KeyLimit, so, r) = absurd (not-full left r.ring r.packets r.read)
    whole-breach (endings.Octet at why, so, r) = absurd (not-refused left r.ring r.packets at why r.read)

  -- frames are doubted: all packets were read, or the source failed
  module _ (left held then : Option (List ℕ)) (doubted : Blame) (some : blames.None ≡ doubted → ⊥)
      (other : (b : Breach) → blames.Refuted b ≡ doubted → ⊥) where
    is-strict : (ending : Ending) → IsReported asks text left ending doubted held then → asks.strict ≡ true
    is-strict ending r =
        let t = tally_of (all_told r.ring r.packets) in
        doubted-strict asks.strict (strict_doubt t.sec) doubted some
        (blame-else asks.strict t r.verdict doubted other r.blame_is).1

    whole-doubted : IsBlamed asks text left failed doubted held then
        → IsReported asks text left endings.Whole doubted held then ⊎ ((asks.strict ≡ true) × failed)
    whole-doubted (endings.Whole, so, r) = inl r
    whole-doubted (endings.Fault, so, r) = inr (is-strict endings.Fault r, so refl)
    whole-doubted (endings.InputLimit, so, r) = absurd (not-past left r.ring r.packets r.read)
    whole-doubted (endings.KeyLimit, so, r) = absurd (not-full left r.ring r.packets r.read)
    whole-doubted (endings.Octet at why, so, r) = absurd (not-refused left r.ring r.packets at why r.read)

  -- but for these ends it is of the outside
  abbrev IsOtherwise : Result (Unit {0}) AuditEnd → Type 0
  IsOtherwise (Ok done) = Unit {0}
  IsOtherwise (Err (ends.Refuted breach)) = Unit {0}
  IsOtherwise (Err (ends.Doubted wrong undecided)) = Unit {0}
  IsOtherwise (Err ends.NotJudged) = Unit {0}
  IsOtherwise result = IsOfOutside asks failed result

  otherwise : (left held then : Option (List ℕ)) (result : Result (Unit {0}) AuditEnd)
      → EndsAudit asks text left failed held then result → IsOtherwise result
  otherwise left held then (Ok done) is = tt
  otherwise left held then (Err (ends.Refuted breach)) is = tt
  otherwise left held then (Err (ends.Doubted wrong undecided)) is = tt
  otherwise left held then (Err ends.NotJudged) is = tt
  otherwise left held then (Err (ends.KeyLine line why)) is = absurd (cc (sym read.said ∙ is.0))
  otherwise left held then (Err (ends.Refused at why)) (inl it) = absurd (cc (sym read.opens ∙ it.0.1))
  otherwise left held then (Err (ends.Refused at why)) (inr r) = absurd (not-refused left r.ring r.packets at why r.read)
  otherwise left held then (Err ends.InputLimit) (inl it) =
      let past = it.0.0 in let few = read.ends.0 in absurd (omega (arith, past, few))
  otherwise left held then (Err ends.InputLimit) (inr r) = absurd (not-past left r.ring r.packets r.read)
  otherwise left held then (Err ends.KeyLimit) (inl it) = absurd (not-set it.0)
  otherwise left held then (Err ends.KeyLimit) (inr r) = absurd (not-full left r.ring r.packets r.read)
  otherwise left held then (Err ends.ReadFault) is = inl refl
  otherwise left held then (Err ends.WriteFault) is = inr (inl refl)
  otherwise left held then (Err ends.Memory) is = inr (inr (inl refl))

  pub broken-told : (left held then : Option (List ℕ)) (result : Result (Unit {0}) AuditEnd) (i j : ℕ)
      → EndsAudit asks text left failed held then result → IsBroken ring packets i j
      → IsRefuted ring packets failed result ⊎ IsOfOutside asks failed result
  broken-told left held then (Ok done) i j is b = absurd (none-broken left held then blames.None (λ c e. cc e) is i j b)
  broken-told left held then (Err (ends.Refuted breach)) i j is b = inl (breach, whole-breach left held then breach is, refl)
  broken-told left held then (Err (ends.Doubted wrong undecided)) i j is b =
      elim (whole-doubted left held then (blames.Doubted wrong undecided) (λ e. cc e) (λ c e. cc e) is) [
        | inl r ↦ absurd (none-broken left held then (blames.Doubted wrong undecided) (λ c e. cc e) r i j b)
        | inr it ↦ inr (inr (inr (inr it)))
      ]
  broken-told left held then (Err ends.NotJudged) i j is b =
      elim (whole-doubted left held then blames.NotJudged (λ e. cc e) (λ c e. cc e) is) [
        | inl r ↦ absurd (none-broken left held then blames.NotJudged (λ c e. cc e) r i j b)
        | inr it ↦ inr (inr (inr (inr it)))
      ]
  broken-told left held then (Err (ends.KeyLine line why)) i j is b = inr (otherwise left held then (Err (ends.KeyLine line why)) is)
  broken-told left held then (Err (ends.Refused at why)) i j is b = inr (otherwise left held then (Err (ends.Refused at why)) is)
  broken-told left held then (Err ends.InputLimit) i j is b = inr (otherwise left held then (Err ends.InputLimit) is)
  broken-told left held then (Err ends.KeyLimit) i j is b = inr (otherwise left held then (Err ends.KeyLimit) is)
  broken-told left held then (Err ends.ReadFault) i j is b = inr (inl refl)
  broken-told left held then (Err ends.WriteFault) i j is b = inr (inr (inl refl))
  broken-told left held then (Err ends.Memory) i j is b = inr (inr (inr (inl refl)))

  pub clean-told : (left held then : Option (List ℕ)) (result : Result (Unit {0}) AuditEnd)
      → EndsAudit asks text left failed held then result → ((i j : ℕ) → IsBroken ring packets i j → ⊥)
      → (result ≡ end_for (doubt asks.strict (tally_of (all_told ring packets)))) ⊎ IsOfOutside asks failed result
  clean-told left held then (Ok done) is none = inl (ends-so left held then blames.None (λ c e. cc e) is)
  clean-told left held then (Err (ends.Refuted breach)) is none =
      let b = broken-by ring packets failed breach (whole-breach left held then breach is) in absurd (none b.0 b.1 b.2)
  clean-told left held then (Err (ends.Doubted wrong undecided)) is none =
      elim (whole-doubted left held then (blames.Doubted wrong undecided) (λ e. cc e) (λ c e. cc e) is) [
        | inl r ↦ inl (ends-so left held then (blames.Doubted wrong undecided) (λ c e. cc e) r)
        | inr it ↦ inr (inr (inr (inr it)))
      ]
  clean-told left held then (Err ends.NotJudged) is none =
      elim (whole-doubted left held then blames.NotJudged (λ e. cc e) (λ c e. cc e) is) [
        | inl r ↦ inl (ends-so left held then blames.NotJudged (λ c e. cc e) r)
        | inr it ↦ inr (inr (inr (inr it)))
      ]
  clean-told left held then (Err (ends.KeyLine line why)) is none = inr (otherwise left held then (Err (ends.KeyLine line why)) is)
  clean-told left held then (Err (ends.Refused at why)) is none = inr (otherwise left held then (Err (ends.Refused at why)) is)
  clean-told left held then (Err ends.InputLimit) is none = inr (otherwise left held then (Err ends.InputLimit) is)
  clean-told left held then (Err ends.KeyLimit) is none = inr (otherwise left held then (Err ends.KeyLimit) is)
  clean-told left held then (Err ends.ReadFault) is none = inr (inl refl)
  clean-told left held then (Err ends.WriteFault) is none = inr (inr (inl refl))
  clean-told left held then (Err ends.Memory) is none = inr (inr (inr (inl refl)))
