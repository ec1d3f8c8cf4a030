-- The same step again tells nothing and changes nothing, where nobody waits for a place that is free.
use Rattle.std.proofs.Common.{◌≡◌, ◌⊎◌, ◌∙◌, inl, inr, ℕ, ◌≤◌, List, [], ◌∷◌, ◌++◌, map, filter, take, drop, refl, ap, ap₂, sym, subst, Bool, true, false, not, nat_lt, ◌&&◌, ◌||◌}
use Rattle.std.proofs.lemmas.Bool.{and_left, and_right, le-ltb, not-true, or_cases, or_left, or_right}
use Rattle.lan_base.specs.declared.address.Sci.{Sci}
use Rattle.lan_base.specs.Differing.{AllDiffer}
use Rattle.receive_channels.specs.declared.channel.ChannelKey.{ChannelKey}
use Rattle.receive_channels.specs.declared.channel.Channel.{Channel}
use Rattle.receive_channels.specs.declared.changes.Opened.TheVariants.{Add, Full}
use Rattle.receive_channels.specs.Channels.{Step, ChannelSet, IsStill, NobodyCanBePlaced, added, after, associations, goes, has, has_channel, lacks, newcomers, newest_of, places, present, renewed, stays, unplaced, with_added}
use Rattle.receive_channels.proofs.Members.{In, all-apart, all-filter, by_test, drop-none, filter-joined, keeps-all, keeps-both, keeps-none, keeps-same, maps-same, same_tests, take-drop, take-none}
use Rattle.receive_channels.proofs.Placing.{added-in, after-in, channel-in, has-in, in-added, in-after, in-channel, in-has, made-added, new, newest-has, newest-stays, renewed-newest, renewed-nobodys, renewed-sci, renewed-somebodys, somebodys-stays}

-- ---- a step at which all is settled

-- nobody comes, nobody waits who did not, no key comes into a channel, and no channel goes
record Settled (step : Step) (s : ChannelSet) : Type 0 where
  adds : added step s ≡ []
  waits : unplaced step s ≡ s.waiting
  lacks-none : (key : ChannelKey) → In key step.keys → (c : Channel) → In c s.channels
      → (has step.scis c.sci && lacks key c) ≡ false
  all-stay : (c : Channel) → In c s.channels → stays step c ≡ true
  all-kept : (c : Channel) → In c s.channels → renewed step c ≡ c

present-same : (step : Step) (s : ChannelSet) → Settled step s → present step s ≡ s.channels
present-same step s t = ap (λ a. with_added a s.channels) t.adds

told-full : (a u w : List Sci) → a ≡ [] → u ≡ w → map Add a ++ map Full (filter (λ sci. not (has w sci)) u) ≡ []
told-full a u w none same =
    let known : filter (λ sci. not (has w sci)) w ≡ [] =
    keeps-none (λ sci. not (has w sci)) w (λ sci i. ap not (in-has w sci i)) in
    rw (none, same, known) refl

no-keys : (step : Step) (channels : List Channel) (keys : List ChannelKey)
    → ((key : ChannelKey) → In key keys → (c : Channel) → In c channels → (has step.scis c.sci && lacks key c) ≡ false)
    → associations step channels keys ≡ []
no-keys step channels [] lacks-none = refl
no-keys step channels (key ∷ keys) lacks-none =
    let none : filter (λ (c : Channel). has step.scis c.sci && lacks key c) channels ≡ [] =
    keeps-none (λ (c : Channel). has step.scis c.sci && lacks key c) channels (lacks-none key (inl refl)) in
    rw none (no-keys step channels keys (λ k i. lacks-none k (inr i)))

goes-none : (step : Step) (s : ChannelSet) → Settled step s → filter (goes step) s.channels ≡ []
goes-none step s t =
    keeps-none (goes step) s.channels (λ c i. not-true (goes step c) (t.all-stay c i))

abbrev set_of : List Channel → List Sci → ChannelSet
set_of channels waiting = record { channels = channels; waiting = waiting }

settled-still : (step : Step) (s : ChannelSet) → Settled step s → IsStill step s
settled-still step s t =
    let there = present-same step s t in
    record {
      opens = told-full (added step s) (unplaced step s) s.waiting t.adds t.waits;
      receives = ap (λ cs. associations step cs step.keys) there ∙ no-keys step s.channels step.keys t.lacks-none;
      removes = ap (λ cs. map (λ (c : Channel). c.sci) (filter (goes step) cs)) there
          ∙ ap (map (λ (c : Channel). c.sci)) (goes-none step s t);
      changes = ap₂ set_of
          (ap (λ cs. map (renewed step) (filter (stays step) cs)) there
          ∙ (ap (map (renewed step)) (keeps-all (stays step) s.channels t.all-stay)
          ∙ maps-same (renewed step) s.channels t.all-kept))
          t.waits;
    }

-- ---- after a step the same one is settled

-- a channel that is there afterwards has all held keys, where it is somebody's
after-lacks : (step : Step) (s : ChannelSet) (key : ChannelKey) → In key step.keys → (c : Channel)
    → In c (after step s).channels → (has step.scis c.sci && lacks key c) ≡ false
after-lacks step s key i c j =
    let old = after-in step s c j in
    subst (λ (x : Channel). (has step.scis x.sci && lacks key x) ≡ false) (sym old.3) (of-old old.0)
  where
    of-old : (o : Channel) → (has step.scis (renewed step o).sci && lacks key (renewed step o)) ≡ false
    of-old o =
        by_test (has step.scis o.sci)
        (λ t.
        let newest = le-ltb (newest_of o.newest step.keys) key.epoch (newest-has o.newest step.keys key i) in
        subst (λ (x : Channel). (has step.scis x.sci && lacks key x) ≡ false) (sym (renewed-somebodys step o t))
        (and_right (has step.scis o.sci) (nat_lt (newest_of o.newest step.keys) key.epoch) newest))
        (λ f.
        subst (λ (x : Channel). (has step.scis x.sci && lacks key x) ≡ false) (sym (renewed-nobodys step o f))
        (and_left (has step.scis o.sci) (lacks key o) f))

renewed-stays : (step : Step) (o : Channel) → stays step o ≡ true → stays step (renewed step o) ≡ true
renewed-stays step o stay =
    by_test (has step.scis o.sci)
    (λ t. somebodys-stays step (renewed step o) (ap (has step.scis) (renewed-sci step o) ∙ t))
    (λ f. subst (λ (c : Channel). stays step c ≡ true) (sym (renewed-nobodys step o f)) stay)

after-stays : (step : Step) (s : ChannelSet) (c : Channel) → In c (after step s).channels → stays step c ≡ true
after-stays step s c i =
    let old = after-in step s c i in
    subst (λ (x : Channel). stays step x ≡ true) (sym old.3) (renewed-stays step old.0 old.2)

-- all held keys came into a channel that was renewed
renewed-last : (step : Step) (o : Channel) → has step.scis o.sci ≡ true
    → newest_of (renewed step o).newest step.keys ≡ (renewed step o).newest
renewed-last step o t =
    newest-stays (renewed step o).newest step.keys
    (λ key i. subst (λ n. key.epoch ≤ n) (sym (renewed-newest step o t)) (newest-has o.newest step.keys key i))

renewed-twice : (step : Step) (o : Channel) → renewed step (renewed step o) ≡ renewed step o
renewed-twice step o =
    by_test (has step.scis o.sci)
    (λ t.
    let again = ap (has step.scis) (renewed-sci step o) ∙ t in
    renewed-somebodys step (renewed step o) again ∙ with-last (renewed step o) (renewed-last step o t))
    (λ f. ap (renewed step) (renewed-nobodys step o f))
  where
    with-last : (c : Channel) → {n : ℕ} → n ≡ c.newest → (let x : Channel = record c { newest = n } in x) ≡ c
    with-last c e = ap (λ n. let x : Channel = record c { newest = n } in x) e

after-kept : (step : Step) (s : ChannelSet) (c : Channel) → In c (after step s).channels → renewed step c ≡ c
after-kept step s c i =
    let old = after-in step s c i in
    ap (renewed step) old.3 ∙ (renewed-twice step old.0 ∙ sym old.3)

-- ---- who has no channel afterwards

-- of those that somebody has, those had or got one
has-after : (step : Step) (s : ChannelSet) (sci : Sci) → In sci step.scis
    → has_channel (after step s).channels sci ≡ (has_channel s.channels sci || has (added step s) sci)
has-after step s sci i =
    same_tests (has_channel (after step s).channels sci) (has_channel s.channels sci || has (added step s) sci) before later
  where
    before : has_channel (after step s).channels sci ≡ true → (has_channel s.channels sci || has (added step s) sci) ≡ true
    before t =
        let c = channel-in (after step s).channels sci t in
        let old = after-in step s c.0 c.1 in
        let same : old.0.sci ≡ sci = sym (renewed-sci step old.0) ∙ (sym (ap (λ (x : Channel). x.sci) old.3) ∙ c.2) in
        elim (added-in (added step s) s.channels old.0 old.1) [
          | inl j ↦
              or_left (has_channel s.channels sci) (has (added step s) sci)
              (subst (λ (z : Sci). has_channel s.channels z ≡ true) same (in-channel s.channels old.0 j))
          | inr w ↦
              or_right (has_channel s.channels sci) (has (added step s) sci)
              (subst (λ (z : Sci). has (added step s) z ≡ true) (sym (ap (λ (x : Channel). x.sci) w.2) ∙ same)
              (in-has (added step s) w.0 w.1))
        ]

    stay : (c : Channel) → In c (present step s) → c.sci ≡ sci → has_channel (after step s).channels sci ≡ true
    stay c j same =
        let somebodys : has step.scis c.sci ≡ true = ap (has step.scis) same ∙ in-has step.scis sci i in
        let there = in-after step s c j (somebodys-stays step c somebodys) in
        subst (λ (z : Sci). has_channel (after step s).channels z ≡ true) (renewed-sci step c ∙ same)
        (in-channel (after step s).channels (renewed step c) there)

    later : (has_channel s.channels sci || has (added step s) sci) ≡ true → has_channel (after step s).channels sci ≡ true
    later t =
        elim (or_cases (has_channel s.channels sci) (has (added step s) sci) t) [
          | inl had ↦
              let c = channel-in s.channels sci had in
              stay c.0 (in-added (added step s) s.channels c.0 c.1) c.2
          | inr got ↦
              stay (new sci) (made-added (added step s) s.channels sci (has-in (added step s) sci got)) refl
        ]

not-or : (a b : Bool) → not (a || b) ≡ (not a && not b)
not-or true b = refl
not-or false b = refl

-- behind a front of a list in which nothing stands twice is what is none of it
behind-front : (n : ℕ) (scis : List Sci) → AllDiffer scis
    → filter (λ sci. not (has (take n scis) sci)) scis ≡ drop n scis
behind-front n scis d =
    let front = take n scis in
    let test : Sci → Bool = λ (sci : Sci). not (has front sci) in
    let parts = take-drop n scis in
    let gone = keeps-none test front (λ sci i. ap not (in-has front sci i)) in
    let rest = keeps-all test (drop n scis) (λ sci i. ap not (not-in front sci (away sci i))) in
    ap (filter test) parts ∙ (filter-joined test front (drop n scis)
    ∙ (ap (λ l. l ++ filter test (drop n scis)) gone ∙ rest))
  where
    away : (sci : Sci) → In sci (drop n scis) → In sci (take n scis) → ⊥
    away sci i j = all-apart (take n scis) (drop n scis) sci sci (subst AllDiffer (take-drop n scis) d) j i refl

    not-in : (front : List Sci) (sci : Sci) → (In sci front → ⊥) → has front sci ≡ false
    not-in front sci apart = by_test (has front sci) (λ t. absurd (apart (has-in front sci t))) (λ f. f)

-- those have none afterwards for whom there was no place
left-out : (step : Step) (s : ChannelSet) → AllDiffer step.scis → newcomers step (after step s) ≡ unplaced step s
left-out step s d =
    let came : Sci → Bool = λ (sci : Sci). not (has_channel s.channels sci) in
    let out : Sci → Bool = λ (sci : Sci). not (has (added step s) sci) in
    keeps-same (λ (sci : Sci). not (has_channel (after step s).channels sci)) (λ (sci : Sci). came sci && out sci) step.scis
    (λ sci i. ap not (has-after step s sci i) ∙ not-or (has_channel s.channels sci) (has (added step s) sci))
    ∙ (keeps-both came out step.scis
    ∙ behind-front (places s) (newcomers step s) (all-filter came step.scis d))

-- none of them gets a place
none-placed : (n : ℕ) (out : List Sci) → (out ≡ []) ⊎ (n ≡ 0) → (take n out ≡ []) × (drop n out ≡ out)
none-placed n out (inl none) = (take-none n out none, drop-none n out none)
none-placed n out (inr full) = (ap (λ k. take k out) full, ap (λ k. drop k out) full)

after-settled : (step : Step) (s : ChannelSet) → AllDiffer step.scis → NobodyCanBePlaced (after step s)
    → Settled step (after step s)
after-settled step s d given =
    let left = left-out step s d in
    let none = none-placed (places (after step s)) (unplaced step s) given in
    record {
      adds = ap (take (places (after step s))) left ∙ none.0;
      waits = ap (drop (places (after step s))) left ∙ none.1;
      lacks-none = after-lacks step s;
      all-stay = after-stays step s;
      all-kept = after-kept step s;
    }

pub still-again : (step : Step) (s : ChannelSet) → AllDiffer step.scis → NobodyCanBePlaced (after step s)
    → IsStill step (after step s)
still-again step s d given = settled-still step (after step s) (after-settled step s d given)
