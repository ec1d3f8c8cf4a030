-- The receive slots and the counts of a station follow the changes of its keys.
use Rattle.std.proofs.Common.{◌≡◌, ◌∙◌, ◌+◌, ◌<◌, ◌≤◌, ℕ, Bool, true, false, cond, List, [], ◌∷◌, ◌++◌, length, map, take, drop, get_or, add-one, Option, Some, None, Result, Ok, Err, refl, ap, arith}
use Rattle.std.proofs.Math.Seq.{take-suc}
use Rattle.std.proofs.lemmas.List.{take-append-drop}
use Rattle.std.specs.Prelude.{◌==◌, option_map, option_to_list}
use Rattle.std.specs.List.{filter}
use Rattle.lan_base.specs.declared.address.Mi.{Mi}
use Rattle.lan_base.specs.declared.address.Sci.{Sci}
use Rattle.lan_base.specs.declared.association_number.AssociationNumber.TheVariants.{An0}
use Rattle.aes_block.specs.declared.secret.Secret.{Secret}
use Rattle.aes_block.specs.declared.secret.Secret.TheVariants.{S128}
use Rattle.mkpdu_codec.specs.declared.announcement.Announcement.{Announcement}
use Rattle.peer_lists.specs.Histories.{clock, last_sent}
use Rattle.rx_slots.specs.Histories.{Receiving, installed, removed}
use Rattle.sak_exchange.specs.declared.change.Change.{Change}
use Rattle.sak_exchange.specs.declared.change.Change.TheVariants as changes
use Rattle.sak_exchange.specs.declared.change.Why.{Why}
use Rattle.sak_exchange.specs.declared.due.Seen.{Seen}
use Rattle.sak_exchange.specs.declared.offer.Offer.{Offer}
use Rattle.sak_exchange.specs.declared.held_key.Key.{Key}
use Rattle.sak_exchange.specs.Histories.{Keying, installed as keys_installed, install_count}
use Rattle.sak_exchange.specs.Held.{received, ends, held}
use Rattle.sak_exchange.specs.Beginning.{Beginning, retired}
use Rattle.sak_exchange.specs.Making.{made_roster}
use Rattle.sak_exchange.specs.Taking.{taken}
use Rattle.sak_exchange.specs.Unwrapping.{given_sak}
use Rattle.sak_exchange.specs.Outcomes.{beginning, installing}
use Rattle.mka_station.specs.declared.reaction.Reaction.{Reaction}
use Rattle.mka_station.specs.declared.verdict.DropReason.{DropReason}
use Rattle.mka_station.specs.Lives.{Member, Entry, ticked, heard, peers_of, keys_of}
use Rattle.mka_station.specs.Views.{View, view, reports}
use Rattle.mka_station.specs.Announcing.{says_now, lowest_in}
use Rattle.mka_station.specs.Tick.{tick_turn, led, made, ended, with_beginning, with_install, with_sent, install_changes}
use Rattle.mka_station.specs.Hearing.{hear_turn, frame_turn, heard_turn, judged, outcome_of, offered, taken_of, key_taken, take_changes, followed as followed_by}
use Rattle.mka_station.specs.Restart.{ending}
use Rattle.lan_core.specs.declared.fact.Fact.{Fact}
use Rattle.lan_core.specs.declared.fact.Fact.TheVariants as facts
use Rattle.lan_core.specs.declared.settings.Settings.{Settings}
use Rattle.lan_core.specs.Ledgers.{gather, with_one}
use Rattle.lan_core.specs.Lives.{slot_change, lowest_under}
use Rattle.lan_core.specs.Expected.{change_fact, reaction_facts}
use Rattle.lan_core.specs.inside.Seats.{installs_in}
use Rattle.lan_core.proofs.Reactions.{gather-reaction, gather-unread, passed-over, sending}
use Rattle.lan_core.specs.inside.Following.{slot_of, followed, one_installed, count_installed, lowest_held}

-- ---- lists of changes

-- what the toolchain reads where there is no change
abbrev pub no_change : Change
no_change = changes.Dropped (record { key = record { id = record { server = record { 0 = [] }; number = 0 }; an = An0; sak = S128 []; conf = false; epoch = 0 }; begun = false })

pub followed-append : (cs ds : List Change) (h : List Receiving) → followed (cs ++ ds) h ≡ followed ds (followed cs h)
followed-append [] ds h = refl
followed-append (c ∷ cs) ds h = followed-append cs ds (with_one (slot_of c) h)

pub count-append : (cs ds : List Change) → count_installed (cs ++ ds) ≡ count_installed cs + count_installed ds
count-append [] ds = omega arith
count-append (c ∷ cs) ds = let e = count-append cs ds in omega (arith, e)

pub followed-next : (cs : List Change) (i : ℕ) (d : Change) (h : List Receiving) → i < length cs
    → followed (take (i + 1) cs) h ≡ with_one (slot_of (get_or cs i d)) (followed (take i cs) h)
followed-next cs i d h l =
    ap (λ (n : ℕ). followed (take n cs) h) (add-one i) ∙ (ap (λ (ds : List Change). followed ds h) (take-suc cs i d l)
    ∙ followed-append (take i cs) (get_or cs i d ∷ []) h)

pub count-next : (cs : List Change) (i : ℕ) (d : Change) → i < length cs
    → count_installed (take (i + 1) cs) ≡ count_installed (take i cs) + one_installed (get_or cs i d)
count-next cs i d l =
    omega (
      arith,
      ap (λ (n : ℕ). count_installed (take n cs)) (add-one i),
      ap count_installed (take-suc cs i d l),
      count-append (take i cs) (get_or cs i d ∷ []),
    )

pub count-up-to : (cs : List Change) (i : ℕ) → count_installed (take i cs) ≤ count_installed cs
count-up-to cs i =
    let e = ap count_installed (take-append-drop i cs) in
    omega (arith, e, count-append (take i cs) (drop i cs))

-- ---- facts of a reaction

same-place : (s : ℕ) → (s == s) ≡ true
same-place s = grind arith

gather-changes : (s : ℕ) (cs : List Change) (h : List Receiving)
    → gather (slot_change s) (map (change_fact s) cs) h ≡ followed cs h
gather-changes s [] h = refl
gather-changes s (changes.Dropped k ∷ cs) h =
    ap (λ (b : Bool). gather (slot_change s) (map (change_fact s) cs) (with_one (cond b (Some (removed k.key.an)) None) h)) (same-place s)
    ∙ gather-changes s cs (removed k.key.an ∷ h)
gather-changes s (changes.Retired k ∷ cs) h =
    ap (λ (b : Bool). gather (slot_change s) (map (change_fact s) cs) (with_one (cond b (Some (removed k.key.an)) None) h)) (same-place s)
    ∙ gather-changes s cs (removed k.key.an ∷ h)
gather-changes s (changes.Began k cause ∷ cs) h = gather-changes s cs h
gather-changes s (changes.Installed k ∷ cs) h =
    ap (λ (b : Bool). gather (slot_change s) (map (change_fact s) cs) (with_one (cond b (Some (installed k.key.an k.key.sak)) None) h)) (same-place s)
    ∙ gather-changes s cs (installed k.key.an k.key.sak ∷ h)
gather-changes s (changes.Untaken id why ∷ cs) h = gather-changes s cs h

-- the slots follow the facts of a reaction
pub slots-follow : (s hearing out : ℕ) (r : Reaction) (h : List Receiving)
    → gather (slot_change s) (reaction_facts s hearing out r) h ≡ followed r.changes h
slots-follow s hearing out r h =
    gather-reaction (slot_change s) s hearing out r h (λ v. refl) (λ m. refl)
    ∙ ap (gather (slot_change s) (sending s out r)) (gather-changes s r.changes h)
    ∙ gather-unread (slot_change s) (λ octets. facts.Framed out s false octets) r.sent (followed r.changes h)
    (λ octets. refl)

in-sending : (s sending : ℕ) (o : Option (List ℕ)) → installs_in (option_to_list (option_map (λ octets. facts.Framed sending s false octets) o)) ≡ 0
in-sending s sending None = refl
in-sending s sending (Some octets) = refl

in-changes : (s : ℕ) (cs : List Change) (later : List Fact) → installs_in (map (change_fact s) cs ++ later) ≡ count_installed cs + installs_in later
in-changes s [] later = omega arith
in-changes s (changes.Dropped k ∷ cs) later = let e = in-changes s cs later in omega (arith, e)
in-changes s (changes.Retired k ∷ cs) later = let e = in-changes s cs later in omega (arith, e)
in-changes s (changes.Began k cause ∷ cs) later = let e = in-changes s cs later in omega (arith, e)
in-changes s (changes.Installed k ∷ cs) later = let e = in-changes s cs later in omega (arith, e)
in-changes s (changes.Untaken id why ∷ cs) later = let e = in-changes s cs later in omega (arith, e)

-- the facts of a reaction install as many keys as its changes
pub in-reaction : (s hearing out : ℕ) (r : Reaction) → installs_in (reaction_facts s hearing out r) ≡ count_installed r.changes
in-reaction s hearing out r =
    let last = option_to_list (option_map (λ octets. facts.Framed out s false octets) r.sent) in
    let third = map (change_fact s) r.changes ++ last in
    let first = passed-over installs_in (λ v. facts.HeardMka hearing s v) r.heard
    (option_to_list (option_map (λ m. facts.Server s m) r.server) ++ third) (λ v. refl) in
    let second = passed-over installs_in (λ m. facts.Server s m) r.server third (λ m. refl) in
    omega (arith, first, second, in-changes s r.changes last, in-sending s out r.sent)

-- ---- what is lowest under a held key

pub lowest-same : (settings : Settings) (own : Sci) (h : List Receiving) (k : List Keying) (o : Option Key)
    → lowest_held own settings.window h (option_map (held k) o) ≡ lowest_under settings own h o
lowest-same settings own h k None = refl
lowest-same settings own h k (Some key) = refl

-- ---- installs are counted

dropped-count : (h : List Keying) (ks : List Key) → count_installed (map (λ k. changes.Dropped (held h k)) ks) ≡ 0
dropped-count h [] = refl
dropped-count h (k ∷ ks) = let e = dropped-count h ks in omega (arith, e)

retired-count : (h : List Keying) (o : Option Key) → count_installed (option_to_list (option_map (λ k. changes.Retired (held h k)) o)) ≡ 0
retired-count h None = refl
retired-count h (Some k) = refl

ended-count : (h : List Keying) (server : Option Mi) → count_installed (ended h server) ≡ 0
ended-count h None = dropped-count h (received h)
ended-count h (Some server) = retired-count h (retired h)

begun-count : (h : List Keying) (b : Option Beginning) → count_installed (beginning h b).changes ≡ 0
begun-count h None = refl
begun-count h (Some b) = refl

installing-count : (h : List Keying) (r : Option (List Mi)) (k : Key) → count_installed (installing h r k).changes ≡ 1
installing-count h r k =
    let drops = filter (ends (keys_installed r k) h) (received h) in
    count-append (map (λ j. changes.Dropped (held h j)) drops) _ ∙ ap (λ n. n + 1) (dropped-count h drops)

-- ---- a tick

abbrev one : Option Key → ℕ
one None = 0
one (Some k) = 1

count-said : (m : Member) (a : Option Announcement) (p : List Entry) → install_count (keys_of m (with_sent a p)) ≡ install_count (keys_of m p)
unfolding keys_of
count-said m None p = refl
count-said m (Some a) p = refl

count-with : (m : Member) (r : Option (List Mi)) (k : Option Key) (p : List Entry) → install_count (keys_of m (with_install r k p)) ≡ install_count (keys_of m p) + one k
unfolding keys_of
count-with m r None p = omega arith
count-with m r (Some k) p = refl

count-begun : (m : Member) (b : Option Beginning) (p : List Entry) → install_count (keys_of m (with_beginning b p)) ≡ install_count (keys_of m p)
unfolding keys_of
count-begun m None p = refl
count-begun m (Some b) p = refl

count-ticked : (m : Member) (p : List Entry) → install_count (keys_of m (ticked ∷ p)) ≡ install_count (keys_of m p)
unfolding keys_of
count-ticked m p = refl

count-heard : (m : Member) (a : Announcement) (p : List Entry) → install_count (keys_of m (heard a ∷ p)) ≡ install_count (keys_of m p)
unfolding keys_of
count-heard m a p = refl

install-count : (h : List Keying) (r : Option (List Mi)) (k : Option Key) → count_installed (install_changes h r k) ≡ one k
install-count h r None = refl
install-count h r (Some k) = installing-count h r k

-- a tick's changes install what its history does
pub tick-count : (m : Member) (seen : Seen) (sak : Secret) (p : List Entry)
    → install_count (keys_of m (tick_turn m seen sak p).past) ≡ install_count (keys_of m p) + count_installed (tick_turn m seen sak p).reaction.changes
unfolding tick_turn
tick-count m seen sak p =
    let v = view m (ticked ∷ p) in
    let lead = led m v in
    let key = made m v seen sak in
    let r = Some (made_roster m.mi (reports v.live)) in
    let p2 = with_beginning lead (ticked ∷ p) in
    let p3 = with_install r key p2 in
    let past = count-said m (says_now m (lowest_in seen (view m p).keys) p3 (view m p3)) p3 ∙ count-with m r key p2 in
    let before = count-begun m lead (ticked ∷ p) ∙ count-ticked m p in
    let first = ended (view m p).keys v.server in
    let second = (beginning v.keys lead).changes in
    let third = install_changes v.keys r key in
    omega (
      arith,
      past,
      before,
      count-append first (second ++ third),
      ended-count (view m p).keys v.server,
      count-append second third,
      begun-count v.keys lead,
      install-count v.keys r key,
    )

clock-said : (m : Member) (a : Option Announcement) (p : List Entry) → clock (peers_of m (with_sent a p)) ≡ clock (peers_of m p)
unfolding peers_of
clock-said m None p = refl
clock-said m (Some a) p = refl

clock-with : (m : Member) (r : Option (List Mi)) (k : Option Key) (p : List Entry) → clock (peers_of m (with_install r k p)) ≡ clock (peers_of m p)
unfolding peers_of
clock-with m r None p = refl
clock-with m r (Some k) p = refl

clock-begun : (m : Member) (b : Option Beginning) (p : List Entry) → clock (peers_of m (with_beginning b p)) ≡ clock (peers_of m p)
unfolding peers_of
clock-begun m None p = refl
clock-begun m (Some b) p = refl

clock-ticked : (m : Member) (p : List Entry) → clock (peers_of m (ticked ∷ p)) ≡ clock (peers_of m p) + 1
unfolding peers_of
clock-ticked m p = refl

clock-heard : (m : Member) (a : Announcement) (p : List Entry) → clock (peers_of m (heard a ∷ p)) ≡ clock (peers_of m p)
unfolding peers_of
clock-heard m a p = refl

pub tick-clock : (m : Member) (seen : Seen) (sak : Secret) (p : List Entry) → clock (peers_of m (tick_turn m seen sak p).past) ≡ clock (peers_of m p) + 1
unfolding tick_turn
tick-clock m seen sak p =
    let v = view m (ticked ∷ p) in
    let lead = led m v in
    let r = Some (made_roster m.mi (reports v.live)) in
    let p2 = with_beginning lead (ticked ∷ p) in
    let p3 = with_install r (made m v seen sak) p2 in
    clock-said m (says_now m (lowest_in seen (view m p).keys) p3 (view m p3)) p3 ∙ (clock-with m r (made m v seen sak) p2
    ∙ (clock-begun m lead (ticked ∷ p) ∙ clock-ticked m p))

-- ---- a hearing

take-count : (m : Member) (v : View) (h : List Keying) (offer : Option Offer) → count_installed (take_changes h offer (taken_of m v offer)) ≡ one (key_taken (taken_of m v offer))
take-count m v h None = refl
take-count m v h (Some o) = go (taken m.base v.keys o (given_sak m.setup.kek o.given.key))
  where
    go : (answer : Result Key Why) → count_installed (take_changes h (Some o) (Some answer)) ≡ one (key_taken (Some answer))
    go (Ok k) = installing-count h None k
    go (Err why) = refl

hear-count : (m : Member) (a : Announcement) (p : List Entry)
    → install_count (keys_of m (hear_turn m a p).past) ≡ install_count (keys_of m p) + count_installed (hear_turn m a p).reaction.changes
unfolding hear_turn
hear-count m a p =
    let v = view m (heard a ∷ p) in
    let o = outcome_of m p a in
    let offer = offered m v o a in
    let answer = taken_of m v offer in
    let p2 = with_install None (key_taken answer) (heard a ∷ p) in
    let follow = followed_by (view m p2) o a in
    let past = count-begun m follow p2 ∙ count-with m None (key_taken answer) (heard a ∷ p) in
    omega (
      arith,
      past,
      count-heard m a p,
      count-append (take_changes v.keys offer answer) (beginning (view m p2).keys follow).changes,
      take-count m v v.keys offer,
      begun-count (view m p2).keys follow,
    )

hear-clock : (m : Member) (a : Announcement) (p : List Entry) → clock (peers_of m (hear_turn m a p).past) ≡ clock (peers_of m p)
unfolding hear_turn
hear-clock m a p =
    let v = view m (heard a ∷ p) in
    let o = outcome_of m p a in
    let answer = taken_of m v (offered m v o a) in
    let p2 = with_install None (key_taken answer) (heard a ∷ p) in
    clock-begun m (followed_by (view m p2) o a) p2 ∙ (clock-with m None (key_taken answer) (heard a ∷ p) ∙ clock-heard m a p)

pub heard-count : (m : Member) (j : Result Announcement DropReason) (p : List Entry)
    → install_count (keys_of m (heard_turn m j p).past) ≡ install_count (keys_of m p) + count_installed (heard_turn m j p).reaction.changes
heard-count m (Ok a) p = hear-count m a p
heard-count m (Err v) p = omega arith

pub frame-count : (m : Member) (frame : List ℕ) (p : List Entry)
    → install_count (keys_of m (frame_turn m frame p).past) ≡ install_count (keys_of m p) + count_installed (frame_turn m frame p).reaction.changes
frame-count m frame p = heard-count m (judged m.setup frame) p

pub heard-clock : (m : Member) (j : Result Announcement DropReason) (p : List Entry) → clock (peers_of m (heard_turn m j p).past) ≡ clock (peers_of m p)
heard-clock m (Ok a) p = hear-clock m a p
heard-clock m (Err v) p = refl

-- what a hearing counts, by what hearing an announcement does
pub heard-installs : (m : Member) (j : Result Announcement DropReason) (p : List Entry) → ((a : Announcement) → install_count (keys_of m (hear_turn m a p).past) ≤ install_count (keys_of m p) + 1)
    → install_count (keys_of m (heard_turn m j p).past) ≤ install_count (keys_of m p) + 1
heard-installs m (Ok a) p law = law a
heard-installs m (Err v) p law = omega arith

pub heard-sent : (m : Member) (j : Result Announcement DropReason) (p : List Entry) → ((a : Announcement) → last_sent (peers_of m (hear_turn m a p).past) ≡ last_sent (peers_of m p))
    → last_sent (peers_of m (heard_turn m j p).past) ≡ last_sent (peers_of m p)
heard-sent m (Ok a) p law = law a
heard-sent m (Err v) p law = refl

-- ---- an ending

pub ending-count : (m : Member) (p : List Entry) → count_installed (ending m p).changes ≡ 0
unfolding ending view
ending-count m p = dropped-count (keys_of m p) (received (keys_of m p))
