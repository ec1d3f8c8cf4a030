-- Associations: which are made, that none is made twice, and in which channels they stand.
use Rattle.std.proofs.Common.{◌≡◌, ◌≢◌, ◌∙◌, inl, inr, ℕ, ◌≤◌, ◌<◌, List, [], ◌∷◌, map, filter, All, refl, ap, sym, subst, arith, Bool, true, ◌&&◌, ◌==◌}
use Rattle.std.proofs.lemmas.Bool.{ltb-true, eqb-true, and_parts}
use Rattle.std.proofs.lemmas.List.{map-append}
use Rattle.std.proofs.lemmas.List.Elements.{All-contains}
use Rattle.lan_base.specs.declared.address.Sci.{Sci}
use Rattle.lan_base.specs.Differing.{AllDiffer}
use Rattle.receive_channels.specs.declared.channel.ChannelKey.{ChannelKey}
use Rattle.receive_channels.specs.declared.channel.Channel.{Channel}
use Rattle.receive_channels.specs.declared.changes.Receive.{Receive}
use Rattle.receive_channels.specs.Channels.{Step, added, associations, has, has_channel, lacks, newest_of, present, receive, renewed, under_key}
use Rattle.receive_channels.specs.Histories.{Association, association, is_held, key_of, keys_before, made, made_at, standing, AreRising, AreSteady, IsNewer, IsNext}
use Rattle.receive_channels.proofs.Members.{In, all-both, all-kept, all-one, all-told, any-in, in-contains, in-either, in-from_map, in-kept_by}
use Rattle.receive_channels.proofs.Placing.{after-apart, held-stays, in-added, in-after, in-channel, newest-has, present-apart, renewed-grows, renewed-newest, renewed-sci, sci_of, somebodys-stays}

all-at : {A : Type 0} (P : A → Type 0) (xs : List A) (x : A) → All P xs → In x xs → P x
all-at P xs x all i = All-contains P xs x all (in-contains xs x i)

-- ---- what an association is made of

-- a key that the channel of somebody lacks comes into it
pub record Comes (step : Step) (channels : List Channel) (keys : List ChannelKey) (r : Receive) : Type 0 where
  pub key : ChannelKey
  pub channel : Channel
  pub held : In key keys
  pub there : In channel channels
  pub somebodys : has step.scis channel.sci ≡ true
  pub new : lacks key channel ≡ true
  pub is : r ≡ receive key channel

under-comes : (step : Step) (channels : List Channel) (key : ChannelKey) (keys : List ChannelKey) (r : Receive)
    → In key keys → In r (under_key step channels key) → Comes step channels keys r
under-comes step channels key keys r held i =
    let test : Channel → Bool = λ (c : Channel). has step.scis c.sci && lacks key c in
    let one = in-from_map (receive key) (filter test channels) r i in
    let kept = in-kept_by test channels one.0 one.1 in
    let both = and_parts (has step.scis one.0.sci) (lacks key one.0) kept.1 in
    record {
      key = key;
      channel = one.0;
      held = held;
      there = kept.0;
      somebodys = both.0;
      new = both.1;
      is = one.2;
    }

-- which key it is
under-epoch : (step : Step) (channels : List Channel) (key : ChannelKey) (r : Receive)
    → In r (under_key step channels key) → r.epoch ≡ key.epoch
under-epoch step channels key r i =
    let test : Channel → Bool = λ (c : Channel). has step.scis c.sci && lacks key c in
    ap (λ (x : Receive). x.epoch) (in-from_map (receive key) (filter test channels) r i).2

comes-later : (step : Step) (channels : List Channel) (key : ChannelKey) (keys : List ChannelKey) (r : Receive)
    → Comes step channels keys r → Comes step channels (key ∷ keys) r
comes-later step channels key keys r w = record {
  key = w.key;
  channel = w.channel;
  held = inr w.held;
  there = w.there;
  somebodys = w.somebodys;
  new = w.new;
  is = w.is;
}

pub made-comes : (step : Step) (channels : List Channel) (keys : List ChannelKey) (r : Receive)
    → In r (associations step channels keys) → Comes step channels keys r
made-comes step channels [] r i = absurd i
made-comes step channels (key ∷ keys) r i =
    elim (in-either (under_key step channels key) (associations step channels keys) r i) [
      | inl j ↦ under-comes step channels key (key ∷ keys) r (inl refl) j
      | inr j ↦ comes-later step channels key keys r (made-comes step channels keys r j)
    ]

abbrev pub ComesAt : Step → List Step → Receive → Type 0
ComesAt step h r = Comes step (present step (standing h)) step.keys r

pub comes-at : (step : Step) (h : List Step) (r : Receive) → In r (made_at step h) → ComesAt step h r
comes-at step h r i = made-comes step (present step (standing h)) step.keys r i

pub made-key : (step : Step) (h : List Step) (r : Receive) → ComesAt step h r → In (key_of r) step.keys
made-key step h r w =
    subst (λ (k : ChannelKey). In k step.keys) (sym (ap key_of w.is)) w.held

pub made-sci : (step : Step) (h : List Step) (r : Receive) → ComesAt step h r → has step.scis r.sci ≡ true
made-sci step h r w = ap (λ (x : Receive). has step.scis x.sci) w.is ∙ w.somebodys

-- the channel in which an association stands
pub record Stands (h : List Step) (r : Receive) : Type 0 where
  pub channel : Channel
  pub there : In channel (standing h).channels
  pub sci : channel.sci ≡ r.sci
  pub newest : r.epoch ≤ channel.newest

pub stands-now : (step : Step) (h : List Step) (r : Receive) → ComesAt step h r → Stands (step ∷ h) r
stands-now step h r w =
    let came = newest-has w.channel.newest step.keys w.key w.held in
    let grown = renewed-newest step w.channel w.somebodys in
    let epoch : r.epoch ≡ w.key.epoch = ap (λ (x : Receive). x.epoch) w.is in
    let last = subst (λ n. r.epoch ≤ n) (sym grown) (subst (λ n. n ≤ newest_of w.channel.newest step.keys) (sym epoch) came) in
    record {
      channel = renewed step w.channel;
      there = in-after step (standing h) w.channel w.there (somebodys-stays step w.channel w.somebodys);
      sci = renewed-sci step w.channel ∙ sym (ap (λ (x : Receive). x.sci) w.is);
      newest = last;
    }

pub has-channel : (h : List Step) (r : Receive) → Stands h r → has_channel (standing h).channels r.sci ≡ true
has-channel h r s =
    subst (λ (z : Sci). has_channel (standing h).channels z ≡ true) s.sci
    (in-channel (standing h).channels s.channel s.there)

-- ---- keys of steady steps

pub held-in : (keys : List ChannelKey) (epoch : ℕ) → is_held keys epoch ≡ true
    → (key : ChannelKey) × In key keys × (key.epoch ≡ epoch)
held-in keys epoch held =
    let one = any-in (λ (k : ChannelKey). k.epoch == epoch) keys held in
    (one.0, one.1, eqb-true one.0.epoch epoch one.2)

-- what was made is of an older key
older : (h : List Step) (key : ChannelKey) (r : Receive) → IsNewer h key → In r (made h) → r.epoch < key.epoch
older [] key r newer i = absurd i
older (step ∷ h) key r newer i =
    elim (in-either (made_at step h) (made h) r i) [
      | inl j ↦
          let w = comes-at step h r j in
          let epoch : r.epoch ≡ w.key.epoch = ap (λ (x : Receive). x.epoch) w.is in
          let less : w.key.epoch < key.epoch = all-at (λ (o : ChannelKey). o.epoch < key.epoch) step.keys w.key newer.0 w.held in
          omega arith
      | inr j ↦ older h key r newer.1 j
    ]

next-of : (step : Step) (h : List Step) (key : ChannelKey) → AreSteady (step ∷ h) → In key step.keys → IsNext h key
next-of step h key steady i = all-at (IsNext h) step.keys key steady.2 i

rest-of : (step : Step) (h : List Step) → AreSteady (step ∷ h) → AreSteady h
rest-of step h steady = steady.3

-- ---- associations stand while their key is held

-- one that stood goes on, while its key is held
stands-on : (step : Step) (h : List Step) (r : Receive) (key : ChannelKey) → In key step.keys → key.epoch ≡ r.epoch
    → Stands h r → Stands (step ∷ h) r
stands-on step h r key i same s =
    let epoch : key.epoch ≤ s.channel.newest = rw same s.newest in
    let grown : s.channel.newest ≤ (renewed step s.channel).newest = renewed-grows step s.channel in
    let stood : r.epoch ≤ s.channel.newest = s.newest in
    let there = in-added (added step (standing h)) (standing h).channels s.channel s.there in
    record {
      channel = renewed step s.channel;
      there = in-after step (standing h) s.channel there (held-stays step s.channel key i epoch);
      sci = renewed-sci step s.channel ∙ s.sci;
      newest = omega arith;
    }

stands-later : (step : Step) (h : List Step) (r : Receive) → AreSteady (step ∷ h) → In r (made h)
    → is_held step.keys r.epoch ≡ true → (is_held (keys_before h) r.epoch ≡ true → Stands h r) → Stands (step ∷ h) r
stands-later step h r steady i held before =
    let one = held-in step.keys r.epoch held in
    elim (next-of step h one.0 steady one.1) [
      | inl still ↦
          stands-on step h r one.0 one.1 one.2 (before (subst (λ epoch. is_held (keys_before h) epoch ≡ true) one.2 still))
      | inr newer ↦
          let less : r.epoch < one.0.epoch = older h one.0 r newer i in
          let same : one.0.epoch ≡ r.epoch = one.2 in
          absurd (omega arith)
    ]

pub stands : (h : List Step) (r : Receive) → AreSteady h → In r (made h) → is_held (keys_before h) r.epoch ≡ true
    → Stands h r
stands [] r steady i held = absurd i
stands (step ∷ h) r steady i held =
    elim (in-either (made_at step h) (made h) r i) [
      | inl j ↦ stands-now step h r (comes-at step h r j)
      | inr j ↦ stands-later step h r steady j held (λ still. stands h r (rest-of step h steady) j still)
    ]

-- ---- no SCI has two channels

pub channels-apart : (h : List Step) → AreSteady h → AllDiffer (map sci_of (standing h).channels)
channels-apart [] steady = tt
channels-apart (step ∷ h) steady = after-apart step (standing h) steady.0 (channels-apart h (rest-of step h steady))

present-differ : (step : Step) (h : List Step) → AreSteady (step ∷ h)
    → AllDiffer (map sci_of (present step (standing h)))
present-differ step h steady =
    present-apart step (standing h) steady.0 (channels-apart h (rest-of step h steady))

-- ---- none is made twice

-- under one key
under-once : (step : Step) (channels : List Channel) (key : ChannelKey) → AllDiffer (map sci_of channels)
    → AllDiffer (map association (under_key step channels key))
under-once step channels key d =
    let test : Channel → Bool = λ (c : Channel). has step.scis c.sci && lacks key c in
    let kept = filter test channels in
    subst AllDiffer (sym (map-over kept))
    (all-told sci_of (λ (c : Channel). association (receive key c)) kept
    (λ x y same. ap (λ (a : Association). a.sci) same) (all-kept sci_of test channels d))
  where
    map-over : (cs : List Channel)
        → map association (map (receive key) cs) ≡ map (λ (c : Channel). association (receive key c)) cs
    map-over [] = refl
    map-over (c ∷ cs) = ap (λ rest. association (receive key c) ∷ rest) (map-over cs)

-- at one step
made-once : (step : Step) (channels : List Channel) (keys : List ChannelKey) → AllDiffer (map sci_of channels)
    → AreRising keys → AllDiffer (map association (associations step channels keys))
made-once step channels [] d rising = tt
made-once step channels (key ∷ keys) d rising =
    subst AllDiffer (sym (map-append association (under_key step channels key) (associations step channels keys)))
    (all-both (map association (under_key step channels key)) (map association (associations step channels keys))
    (under-once step channels key d) (made-once step channels keys d rising.1) away)
  where
    away : (a b : Association) → In a (map association (under_key step channels key))
        → In b (map association (associations step channels keys)) → a ≢ b
    away a b i j same =
        let x = in-from_map association (under_key step channels key) a i in
        let y = in-from_map association (associations step channels keys) b j in
        let w = made-comes step channels keys y.0 y.1 in
        let first : x.0.epoch ≡ key.epoch = under-epoch step channels key x.0 x.1 in
        let second : y.0.epoch ≡ w.key.epoch = ap (λ (r : Receive). r.epoch) w.is in
        let equal : x.0.epoch ≡ y.0.epoch = ap (λ (o : Association). o.epoch) (sym x.2 ∙ (same ∙ y.2)) in
        let less : key.epoch < w.key.epoch = all-at (λ (o : ChannelKey). key.epoch < o.epoch) keys w.key rising.0 w.held in
        absurd (omega arith)

-- one that is made was not made
made-new : (step : Step) (h : List Step) (r before : Receive) → AreSteady (step ∷ h) → ComesAt step h r
    → In before (made h) → association r ≢ association before
made-new step h r before steady w i same =
    let epoch : r.epoch ≡ w.key.epoch = ap (λ (x : Receive). x.epoch) w.is in
    let equal : r.epoch ≡ before.epoch = ap (λ (o : Association). o.epoch) same in
    elim (next-of step h w.key steady w.held) [
      | inl still ↦
          let s = stands h before (rest-of step h steady) i
          (subst (λ e. is_held (keys_before h) e ≡ true) (sym epoch ∙ equal) still) in
          let there = in-added (added step (standing h)) (standing h).channels s.channel s.there in
          let sci : s.channel.sci ≡ w.channel.sci =
          s.sci ∙ (sym (ap (λ (o : Association). o.sci) same) ∙ ap (λ (x : Receive). x.sci) w.is) in
          let one = all-one sci_of (present step (standing h)) s.channel w.channel (present-differ step h steady) there w.there sci in
          let less : w.channel.newest < w.key.epoch = ltb-true w.channel.newest w.key.epoch w.new in
          let newest : before.epoch ≤ w.channel.newest = subst (λ (c : Channel). before.epoch ≤ c.newest) one s.newest in
          absurd (omega arith)
      | inr newer ↦
          let less : before.epoch < w.key.epoch = older h w.key before newer i in absurd (omega arith)
    ]

pub received-once : (h : List Step) → AreSteady h → AllDiffer (map association (made h))
received-once [] steady = tt
received-once (step ∷ h) steady =
    subst AllDiffer (sym (map-append association (made_at step h) (made h)))
    (all-both (map association (made_at step h)) (map association (made h))
    (made-once step (present step (standing h)) step.keys (present-differ step h steady) steady.1)
    (received-once h (rest-of step h steady)) away)
  where
    away : (a b : Association) → In a (map association (made_at step h)) → In b (map association (made h)) → a ≢ b
    away a b i j same =
        let x = in-from_map association (made_at step h) a i in
        let y = in-from_map association (made h) b j in
        made-new step h x.0 y.0 steady (comes-at step h x.0 x.1) y.1 (sym x.2 ∙ (same ∙ y.2))
