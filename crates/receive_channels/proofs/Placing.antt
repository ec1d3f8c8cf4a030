-- Which channels are there at a step, and which afterwards.
use Rattle.std.proofs.Common.{◌≡◌, ◌⊎◌, ◌∙◌, inl, inr, ℕ, ◌≤◌, max, List, [], ◌∷◌, ◌++◌, map, filter, take, drop, refl, ap, sym, subst, le_refl, arith, Bool, true, false, if◌then◌else◌, not, ◌&&◌}
use Rattle.std.specs.List.{list_all}
use Rattle.std.proofs.lemmas.List.{map-append, take-append-drop}
use Rattle.std.proofs.lemmas.Bool.{le-ltb, not-true}
use Rattle.std.proofs.lemmas.Slice.Eq.{bytes_eq-Decides}
use Rattle.lan_base.specs.declared.address.Sci.{Sci}
use Rattle.lan_base.specs.Differing.{AllDiffer}
use Rattle.lan_base.specs.Identifiers.{same_sci}
use Rattle.receive_channels.specs.declared.channel.ChannelKey.{ChannelKey}
use Rattle.receive_channels.specs.declared.channel.Channel.{Channel}
use Rattle.receive_channels.specs.Channels.{Step, ChannelSet, added, after, has, has_channel, lacks, newcomers, newest_of, place_of, places, present, put_in, renewed, stays, with_added}
use Rattle.receive_channels.proofs.Members.{In, all-kept, all-put, all-filter, all-take, any-in, by_test, differs-in, in-any, in-all, in-either, in-filter, in-from_map, in-kept_by, in-left, in-map, in-right, in-take, never}

-- ---- SCIs

pub same-sci : (a b : Sci) → same_sci a b ≡ true → a ≡ b
same-sci a b is = ap (λ (octets : List ℕ). let sci : Sci = record { 0 = octets } in sci) ((bytes_eq-Decides a.0 b.0).0 is)

pub sci-same : (a : Sci) → same_sci a a ≡ true
sci-same a = (bytes_eq-Decides a.0 a.0).1 refl

abbrev pub sci_of : Channel → Sci
sci_of channel = channel.sci

abbrev pub new : Sci → Channel
new sci = record { sci = sci; newest = 0 }

pub has-in : (scis : List Sci) (sci : Sci) → has scis sci ≡ true → In sci scis
has-in scis sci is =
    let one = any-in (λ (o : Sci). same_sci o sci) scis is in
    subst (λ (s : Sci). In s scis) (same-sci one.0 sci one.2) one.1

pub in-has : (scis : List Sci) (sci : Sci) → In sci scis → has scis sci ≡ true
in-has scis sci i = in-any (λ (o : Sci). same_sci o sci) scis sci i (sci-same sci)

-- whose channel it is
pub channel-in : (channels : List Channel) (sci : Sci) → has_channel channels sci ≡ true
    → (c : Channel) × In c channels × (c.sci ≡ sci)
channel-in channels sci is =
    let one = any-in (λ (c : Channel). same_sci c.sci sci) channels is in
    (one.0, one.1, same-sci one.0.sci sci one.2)

pub in-channel : (channels : List Channel) (c : Channel) → In c channels → has_channel channels c.sci ≡ true
in-channel channels c i = in-any (λ (o : Channel). same_sci o.sci c.sci) channels c i (sci-same c.sci)

-- ---- channels that are made

in-parts : (i : ℕ) (cs : List Channel) (c : Channel) → In c cs → In c (take i cs ++ drop i cs)
in-parts i cs c j = subst (λ l. In c l) (sym (take-append-drop i cs)) j

parts-in : (i : ℕ) (cs : List Channel) (c : Channel) → In c (take i cs ++ drop i cs) → In c cs
parts-in i cs c j = subst (λ l. In c l) (take-append-drop i cs) j

put-in : (x : Channel) (cs : List Channel) (c : Channel) → In c (put_in x cs) → (c ≡ x) ⊎ In c cs
put-in x cs c i =
    let at = place_of x.sci cs in
    elim (in-either (take at cs) (x ∷ drop at cs) c i) [
      | inl j ↦ inr (parts-in at cs c (in-left (take at cs) (drop at cs) c j))
      | inr (inl e) ↦ inl e
      | inr (inr j) ↦ inr (parts-in at cs c (in-right (take at cs) (drop at cs) c j))
    ]

in-put : (x : Channel) (cs : List Channel) (c : Channel) → In c cs → In c (put_in x cs)
in-put x cs c i =
    let at = place_of x.sci cs in
    elim (in-either (take at cs) (drop at cs) c (in-parts at cs c i)) [
      | inl j ↦ in-left (take at cs) (x ∷ drop at cs) c j
      | inr j ↦ in-right (take at cs) (x ∷ drop at cs) c (inr j)
    ]

put-there : (x : Channel) (cs : List Channel) → In x (put_in x cs)
put-there x cs =
    let at = place_of x.sci cs in in-right (take at cs) (x ∷ drop at cs) x (inl refl)

-- a channel that is there was there, or is made for one of these
pub added-in : (scis : List Sci) (cs : List Channel) (c : Channel) → In c (with_added scis cs)
    → In c cs ⊎ ((sci : Sci) × In sci scis × (c ≡ new sci))
added-in [] cs c i = inl i
added-in (s ∷ scis) cs c i =
    elim (added-in scis (put_in (new s) cs) c i) [
      | inl j ↦ elim (put-in (new s) cs c j) [ inl e ↦ inr (s, inl refl, e) | inr k ↦ inl k ]
      | inr w ↦ inr (w.0, inr w.1, w.2)
    ]

pub in-added : (scis : List Sci) (cs : List Channel) (c : Channel) → In c cs → In c (with_added scis cs)
in-added [] cs c i = i
in-added (s ∷ scis) cs c i = in-added scis (put_in (new s) cs) c (in-put (new s) cs c i)

pub made-added : (scis : List Sci) (cs : List Channel) (sci : Sci) → In sci scis → In (new sci) (with_added scis cs)
made-added [] cs sci i = absurd i
made-added (s ∷ scis) cs sci (inl e) =
    in-added scis (put_in (new s) cs) (new sci) (subst (λ (z : Sci). In (new z) (put_in (new s) cs)) (sym e) (put-there (new s) cs))
made-added (s ∷ scis) cs sci (inr i) = made-added scis (put_in (new s) cs) sci i

-- ---- no SCI has two channels

-- no channel is of one of these
abbrev pub AreNew : List Sci → List Channel → Type 0
AreNew scis cs = (s : Sci) → In s scis → In s (map sci_of cs) → ⊥

put-apart : (sci : Sci) (cs : List Channel) → (In sci (map sci_of cs) → ⊥) → AllDiffer (map sci_of cs)
    → AllDiffer (map sci_of (put_in (new sci) cs))
put-apart sci cs away all =
    let at = place_of sci cs in
    let parts = map-append sci_of (take at cs) (drop at cs) in
    let whole = ap (map sci_of) (take-append-drop at cs) in
    subst AllDiffer (sym (map-append sci_of (take at cs) (new sci ∷ drop at cs)))
    (all-put sci (map sci_of (take at cs)) (map sci_of (drop at cs))
    (λ b i same. away (subst (λ (z : Sci). In z (map sci_of cs)) (sym same) (subst (λ l. In b l) (sym parts ∙ whole) i)))
    (subst AllDiffer (sym whole ∙ parts) all))

pub added-apart : (scis : List Sci) (cs : List Channel) → AllDiffer scis → AreNew scis cs
    → AllDiffer (map sci_of cs) → AllDiffer (map sci_of (with_added scis cs))
added-apart [] cs d away all = all
added-apart (s ∷ scis) cs d away all =
    added-apart scis (put_in (new s) cs) d.1 later (put-apart s cs (away s (inl refl)) all)
  where
    later : AreNew scis (put_in (new s) cs)
    later t i j =
        let c = in-from_map sci_of (put_in (new s) cs) t j in
        elim (put-in (new s) cs c.0 c.1) [
          | inl e ↦ differs-in s t scis d.0 i (sym (c.2 ∙ ap sci_of e))
          | inr k ↦ away t (inr i) (subst (λ (z : Sci). In z (map sci_of cs)) (sym c.2) (in-map sci_of cs c.0 k))
        ]

-- ---- those that are there at a step

newcomer : (step : Step) (s : ChannelSet) (sci : Sci) → In sci (added step s)
    → In sci step.scis × (has_channel s.channels sci ≡ false)
newcomer step s sci i =
    let kept = in-kept_by (λ (o : Sci). not (has_channel s.channels o)) step.scis sci
    (in-take (places s) (newcomers step s) sci i) in
    (kept.0, not-true (has_channel s.channels sci) kept.1)

added-differ : (step : Step) (s : ChannelSet) → AllDiffer step.scis → AllDiffer (added step s)
added-differ step s d =
    all-take (places s) (newcomers step s) (all-filter (λ (o : Sci). not (has_channel s.channels o)) step.scis d)

pub present-apart : (step : Step) (s : ChannelSet) → AllDiffer step.scis → AllDiffer (map sci_of s.channels)
    → AllDiffer (map sci_of (present step s))
present-apart step s d all =
    added-apart (added step s) s.channels (added-differ step s d) away all
  where
    away : AreNew (added step s) s.channels
    away t i j =
        let c = in-from_map sci_of s.channels t j in
        never (subst (λ (z : Sci). has_channel s.channels z ≡ true) (sym c.2) (in-channel s.channels c.0 c.1))
        (newcomer step s t i).1

-- ---- those that are there afterwards

-- a channel with another newest key, or as it is
abbrev with_newest : Bool → ℕ → Channel → Channel
with_newest b newest c = if b then record c { newest = newest } else c

with_newest-sci : (b : Bool) (newest : ℕ) (c : Channel) → (with_newest b newest c).sci ≡ c.sci
with_newest-sci true newest c = refl
with_newest-sci false newest c = refl

with_newest-true : (b : Bool) (newest : ℕ) (c : Channel) → b ≡ true
    → with_newest b newest c ≡ record c { newest = newest }
with_newest-true true newest c t = refl
with_newest-true false newest c t = never t refl

with_newest-false : (b : Bool) (newest : ℕ) (c : Channel) → b ≡ false → with_newest b newest c ≡ c
with_newest-false true newest c f = never refl f
with_newest-false false newest c f = refl

pub renewed-sci : (step : Step) (c : Channel) → (renewed step c).sci ≡ c.sci
renewed-sci step c = with_newest-sci (has step.scis c.sci) (newest_of c.newest step.keys) c

pub renewed-somebodys : (step : Step) (c : Channel) → has step.scis c.sci ≡ true
    → renewed step c ≡ record c { newest = newest_of c.newest step.keys }
renewed-somebodys step c t = with_newest-true (has step.scis c.sci) (newest_of c.newest step.keys) c t

pub renewed-nobodys : (step : Step) (c : Channel) → has step.scis c.sci ≡ false → renewed step c ≡ c
renewed-nobodys step c f = with_newest-false (has step.scis c.sci) (newest_of c.newest step.keys) c f

-- somebody's channel stays
pub somebodys-stays : (step : Step) (c : Channel) → has step.scis c.sci ≡ true → stays step c ≡ true
somebodys-stays step c t = ap (λ b. not (not b && list_all (λ (k : ChannelKey). lacks k c) step.keys)) t

-- one in which a key that is held came in stays
pub held-stays : (step : Step) (c : Channel) (key : ChannelKey) → In key step.keys → key.epoch ≤ c.newest
    → stays step c ≡ true
held-stays step c key i less =
    let one = in-all (λ (k : ChannelKey). lacks k c) step.keys key i (le-ltb c.newest key.epoch less) in
    by_test (has step.scis c.sci) (λ t. somebodys-stays step c t) (λ f.
    ap (λ b. not (not b && list_all (λ (k : ChannelKey). lacks k c) step.keys)) f ∙ ap not one)

pub in-after : (step : Step) (s : ChannelSet) (c : Channel) → In c (present step s) → stays step c ≡ true
    → In (renewed step c) (after step s).channels
in-after step s c i t =
    in-map (renewed step) (filter (stays step) (present step s)) c
    (in-filter (stays step) (present step s) c i t)

pub after-in : (step : Step) (s : ChannelSet) (c : Channel) → In c (after step s).channels
    → (old : Channel) × In old (present step s) × (stays step old ≡ true) × (c ≡ renewed step old)
after-in step s c i =
    let one = in-from_map (renewed step) (filter (stays step) (present step s)) c i in
    let kept = in-kept_by (stays step) (present step s) one.0 one.1 in
    (one.0, kept.0, kept.1, one.2)

map-renewed : (step : Step) (cs : List Channel) → map sci_of (map (renewed step) cs) ≡ map sci_of cs
map-renewed step [] = refl
map-renewed step (c ∷ cs) =
    ap (λ (z : Sci). z ∷ map sci_of (map (renewed step) cs)) (renewed-sci step c)
    ∙ ap (λ rest. c.sci ∷ rest) (map-renewed step cs)

pub after-apart : (step : Step) (s : ChannelSet) → AllDiffer step.scis → AllDiffer (map sci_of s.channels)
    → AllDiffer (map sci_of (after step s).channels)
after-apart step s d all =
    subst AllDiffer (sym (map-renewed step (filter (stays step) (present step s))))
    (all-kept sci_of (stays step) (present step s) (present-apart step s d all))

-- ---- the newest key of a channel

pub newest-grows : (epoch : ℕ) (keys : List ChannelKey) → epoch ≤ newest_of epoch keys
newest-grows epoch [] = omega arith
newest-grows epoch (key ∷ keys) = omega (arith, newest-grows (max epoch key.epoch) keys)

pub newest-has : (epoch : ℕ) (keys : List ChannelKey) (key : ChannelKey) → In key keys
    → key.epoch ≤ newest_of epoch keys
newest-has epoch [] key i = absurd i
newest-has epoch (k ∷ keys) key (inl e) =
    let same : key.epoch ≡ k.epoch = ap (λ (z : ChannelKey). z.epoch) e in
    omega (arith, newest-grows (max epoch k.epoch) keys)
newest-has epoch (k ∷ keys) key (inr i) = newest-has (max epoch k.epoch) keys key i

-- a channel that has all of them keeps its newest
pub newest-stays : (epoch : ℕ) (keys : List ChannelKey) → ((key : ChannelKey) → In key keys → key.epoch ≤ epoch)
    → newest_of epoch keys ≡ epoch
newest-stays epoch [] few = refl
newest-stays epoch (k ∷ keys) few =
    let first : k.epoch ≤ epoch = few k (inl refl) in
    let same : max epoch k.epoch ≡ epoch = omega arith in
    rw same (newest-stays epoch keys (λ key i. few key (inr i)))

pub renewed-newest : (step : Step) (c : Channel) → has step.scis c.sci ≡ true
    → (renewed step c).newest ≡ newest_of c.newest step.keys
renewed-newest step c t = ap (λ (x : Channel). x.newest) (renewed-somebodys step c t)

pub renewed-grows : (step : Step) (c : Channel) → c.newest ≤ (renewed step c).newest
renewed-grows step c =
    by_test (has step.scis c.sci)
    (λ t. subst (λ n. c.newest ≤ n) (sym (renewed-newest step c t)) (newest-grows c.newest step.keys))
    (λ f. subst (λ (x : Channel). c.newest ≤ x.newest) (sym (renewed-nobodys step c f)) (le_refl c.newest))
