-- Epochs count: each install's epoch is one more than the count of its station's older installs.
use Rattle.std.proofs.Common.{◌≡◌, ◌≢◌, ◌∙◌, ◌+◌, ℕ, Bool, true, false, cond, List, [], ◌∷◌, ◌++◌, length, map}
use Rattle.std.proofs.Common.{Option, Some, None, Result, Ok, Err, refl, sym, ap, subst, arith}
use Rattle.std.specs.Prelude.{◌==◌, option_map, option_and_then, option_to_list, slice_get}
use Rattle.std.specs.List.{filter}
use Rattle.std.proofs.lemmas.Bool.{eqb-true, eqb-false, ne_eqb}
use Rattle.lan_base.specs.declared.address.Mi.{Mi}
use Rattle.lan_base.specs.declared.address.Sci.{Sci}
use Rattle.lan_base.specs.declared.name.Name.{Name}
use Rattle.lan_base.specs.declared.frame.UserFrame.{UserFrame}
use Rattle.aes_block.specs.declared.secret.Secret.{Secret}
use Rattle.gcm_frames.specs.Tags.{is_sec}
use Rattle.mkpdu_codec.specs.declared.announcement.Announcement.{Announcement}
use Rattle.rx_slots.specs.Numbers.{answer}
use Rattle.sak_exchange.specs.declared.change.Change.{Change}
use Rattle.sak_exchange.specs.declared.change.Change.TheVariants as changes
use Rattle.sak_exchange.specs.declared.change.Why.{Why}
use Rattle.sak_exchange.specs.declared.due.Seen.{Seen}
use Rattle.sak_exchange.specs.declared.held_key.Key.{Key}
use Rattle.sak_exchange.specs.declared.offer.Offer.{Offer}
use Rattle.sak_exchange.specs.Beginning.{Beginning, retired}
use Rattle.sak_exchange.specs.Held.{received, ends, held}
use Rattle.sak_exchange.specs.Histories.{Keying, installed, install_count}
use Rattle.sak_exchange.specs.Making.{next_epoch, made_key}
use Rattle.sak_exchange.specs.Outcomes.{beginning, installing}
use Rattle.sak_exchange.specs.Taking.{taken, provided, provided_new, unwrapped_key, is_supported, leaves_none, greatest_of}
use Rattle.sak_exchange.specs.Held.{allows}
use Rattle.sak_exchange.specs.Unwrapping.{given_sak}
use Rattle.mka_station.specs.declared.reaction.Reaction.{Reaction}
use Rattle.mka_station.specs.declared.verdict.DropReason.{DropReason}
use Rattle.mka_station.specs.Lives.{Member, Entry, ticked, heard, keys_of}
use Rattle.mka_station.specs.Views.{View, view}
use Rattle.mka_station.specs.Tick.{tick_turn, ended, led, makes_now, install_changes, roster_at}
use Rattle.mka_station.specs.Hearing.{judged, hear_turn, heard_turn, frame_turn, take_changes, taken_of, offer_at, answer_at, taken_past, follow_at}
use Rattle.mka_station.specs.Restart.{ending}
use Rattle.lan_core.specs.declared.event.Event.{Event}
use Rattle.lan_core.specs.declared.event.Event.TheVariants as events
use Rattle.lan_core.specs.declared.fact.Fact.{Fact}
use Rattle.lan_core.specs.declared.fact.Fact.TheVariants as facts
use Rattle.lan_core.specs.declared.settings.Settings.{Settings}
use Rattle.lan_core.specs.Run.{Run, Profile, happened, stations}
use Rattle.lan_core.specs.Ledgers.{Install, install_of, installs, installs_at, gather, frame_at, next_frame}
use Rattle.lan_core.specs.Lives.{Life, life, begun, keys_in, lived_hearing, lived_reached, lived_ticking, receiving, sak_in, seen_at, drawn_mi, transmitting_at}
use Rattle.lan_core.specs.Claims.{waiting, frame_of_claim}
use Rattle.lan_core.specs.Counted.{AreCounted, LivesCount}
use Rattle.lan_core.specs.Expected.{change_fact, reaction_facts, reached_facts, tick_facts, restart_facts, claim_fact, number_fact, lack, emit_facts, expected}
use Rattle.lan_core.specs.Legal.{IsStep, IsStepped}
use Rattle.lan_core.specs.inside.Seats.{installs_in}
use Rattle.lan_core.proofs.Reactions.{gather-reaction, gather-unread}
use Rattle.lan_core.proofs.FramesNumbered.{mapped, chained}
use Rattle.lan_core.proofs.OwnLedgers.{AreOf, installs_of, installs-of-others, installs-of-own, tick-is-of, reached-is-of, restart-is-of}
use Rattle.lan_core.proofs.SlotsFollow.{in-reaction, tick-count, frame-count, ending-count}

-- ---- changes of keys

-- each install among changes has the next epoch after so many
abbrev AreNext : ℕ → List Change → Type 0
AreNext n [] = Unit {0}
AreNext n (changes.Installed h ∷ cs) = (h.key.epoch ≡ n + 1) × AreNext (n + 1) cs
AreNext n (changes.Dropped h ∷ cs) = AreNext n cs
AreNext n (changes.Retired h ∷ cs) = AreNext n cs
AreNext n (changes.Began h cause ∷ cs) = AreNext n cs
AreNext n (changes.Untaken id why ∷ cs) = AreNext n cs

after_drops : (n : ℕ) (h : List Keying) (ks : List Key) (cs : List Change) → AreNext n cs
    → AreNext n (map (λ k. changes.Dropped (held h k)) ks ++ cs)
after_drops n h [] cs next = next
after_drops n h (k ∷ ks) cs next = after_drops n h ks cs next

after_retired : (n : ℕ) (h : List Keying) (o : Option Key) (cs : List Change) → AreNext n cs
    → AreNext n (option_to_list (option_map (λ k. changes.Retired (held h k)) o) ++ cs)
after_retired n h None cs next = next
after_retired n h (Some k) cs next = next

after_ended : (n : ℕ) (h : List Keying) (server : Option Mi) (cs : List Change) → AreNext n cs
    → AreNext n (ended h server ++ cs)
after_ended n h None cs next = after_drops n h (received h) cs next
after_ended n h (Some server) cs next = after_retired n h (retired h) cs next

after_beginning : (n : ℕ) (h : List Keying) (b : Option Beginning) (cs : List Change) → AreNext n cs
    → AreNext n ((beginning h b).changes ++ cs)
after_beginning n h None cs next = next
after_beginning n h (Some b) cs next = next

by_installing : (n : ℕ) (h : List Keying) (r : Option (List Mi)) (k : Key) → k.epoch ≡ n + 1
    → AreNext n (installing h r k).changes
by_installing n h r k is =
    after_drops n h (filter (ends (installed r k) h) (received h)) _ (is, tt)

before_beginning : (n : ℕ) (h : List Keying) (b : Option Beginning) (cs : List Change) → AreNext n cs
    → AreNext n (cs ++ (beginning h b).changes)
before_beginning n h None [] next = tt
before_beginning n h (Some b) [] next = tt
before_beginning n h b (changes.Installed k ∷ cs) (is, next) = (is, before_beginning (n + 1) h b cs next)
before_beginning n h b (changes.Dropped k ∷ cs) next = before_beginning n h b cs next
before_beginning n h b (changes.Retired k ∷ cs) next = before_beginning n h b cs next
before_beginning n h b (changes.Began k cause ∷ cs) next = before_beginning n h b cs next
before_beginning n h b (changes.Untaken id why ∷ cs) next = before_beginning n h b cs next

-- ---- a tick

by_tick : (m : Member) (seen : Seen) (sak : Secret) (p : List Entry)
    → AreNext (m.base + install_count (keys_of m p)) (tick_turn m seen sak p).reaction.changes
unfolding tick_turn view keys_of
by_tick m seen sak p =
    let before = view m p in
    let now = view m (ticked ∷ p) in
    let n = m.base + install_count (keys_of m p) in
    after_ended n before.keys now.server _
    (after_beginning n now.keys (led m now) _ (go (makes_now m now seen)))
  where
    now : View
    now = view m (ticked ∷ p)

    n : ℕ
    n = m.base + install_count (keys_of m p)

    go : (b : Bool) → AreNext (m.base + install_count (keys_of m p))
        (install_changes (view m (ticked ∷ p)).keys (roster_at m p)
        (cond b (Some (made_key m.base m.mi (view m (ticked ∷ p)).keys m.setup.conf sak)) None))
    go true = by_installing _ (view m (ticked ∷ p)).keys (roster_at m p) _ refl
    go false = tt

-- ---- a hearing

unwrapped-epoch : (epoch : ℕ) (o : Offer) (sak : Option Secret) (k : Key) → unwrapped_key epoch o sak ≡ Ok k
    → k.epoch ≡ epoch
unwrapped-epoch epoch o None k is = absurd (cc is)
unwrapped-epoch epoch o (Some sak) k is = sym (ap epoch_of is)
  where
    epoch_of : Result Key Why → ℕ
    epoch_of (Ok j) = j.epoch
    epoch_of (Err why) = epoch

provided-is : (b : Bool) (why : Why) (rest : Result Key Why) (k : Key) → provided b why rest ≡ Ok k
    → rest ≡ Ok k
provided-is true why rest k is = is
provided-is false why rest k is = absurd (cc is)

provided-new : (kept : Option ℕ) (number : ℕ) (rest : Result Key Why) (k : Key)
    → provided_new kept number rest ≡ Ok k → rest ≡ Ok k
provided-new None number rest k is = is
provided-new (Some n) number rest k is = provided-is _ _ rest k is

-- a key that is taken has the next epoch
pub taken-epoch : (base : ℕ) (h : List Keying) (o : Offer) (sak : Option Secret) (k : Key)
    → taken base h o sak ≡ Ok k → k.epoch ≡ next_epoch base h
taken-epoch base h o sak k is =
    unwrapped-epoch (next_epoch base h) o sak k
    (provided-is (leaves_none o.given.offset) _ _ k
    (provided-is (is_supported o.given.key) _ _ k
    (provided-is (allows h) _ _ k
    (provided-new (greatest_of o.server h) o.given.number _ k
    (provided-is o.elected _ _ k (provided-is o.listed _ _ k is))))))

by_taking : (m : Member) (v : View) (offer : Option Offer)
    → AreNext (m.base + install_count v.keys) (take_changes v.keys offer (taken_of m v offer))
by_taking m v None = tt
by_taking m v (Some o) = go (taken m.base v.keys o (given_sak m.setup.kek o.given.key)) refl
  where
    go : (answer : Result Key Why) → taken m.base v.keys o (given_sak m.setup.kek o.given.key) ≡ answer
        → AreNext (m.base + install_count v.keys) (take_changes v.keys (Some o) (Some answer))
    go (Ok k) is = by_installing _ v.keys None k (taken-epoch m.base v.keys o _ k is)
    go (Err why) is = tt

by_hearing : (m : Member) (a : Announcement) (p : List Entry)
    → AreNext (m.base + install_count (keys_of m p)) (hear_turn m a p).reaction.changes
unfolding hear_turn view keys_of
by_hearing m a p =
    before_beginning (m.base + install_count (keys_of m p)) (view m (taken_past m a p)).keys
    (follow_at m a p)
    (take_changes (view m (heard a ∷ p)).keys (offer_at m a p) (answer_at m a p))
    (by_taking m (view m (heard a ∷ p)) (offer_at m a p))

by_frame : (m : Member) (frame : List ℕ) (p : List Entry)
    → AreNext (m.base + install_count (keys_of m p)) (frame_turn m frame p).reaction.changes
by_frame m frame p = go (judged m.setup frame)
  where
    go : (j : Result Announcement DropReason)
        → AreNext (m.base + install_count (keys_of m p)) (heard_turn m j p).reaction.changes
    go (Ok a) = by_hearing m a p
    go (Err reason) = tt

by_ending : (m : Member) (p : List Entry) (n : ℕ) → AreNext n (ending m p).changes
unfolding ending view
by_ending m p n = drops_alone n (keys_of m p) (received (keys_of m p))
  where
    drops_alone : (n : ℕ) (h : List Keying) (ks : List Key)
        → AreNext n (map (λ k. changes.Dropped (held h k)) ks)
    drops_alone n h [] = tt
    drops_alone n h (k ∷ ks) = drops_alone n h ks

-- ---- the ledger of installs

same_place : (s : ℕ) → (s == s) ≡ true
same_place s = grind arith

counts_on : (s n : ℕ) (cs : List Change) (is : List Install) → AreNext n cs
    → n ≡ length (installs_of s is) → AreCounted is
    → AreCounted (gather install_of (map (change_fact s) cs) is)
counts_on s n [] is next count are = are
counts_on s n (changes.Installed h ∷ cs) is (here, next) count are =
    let i : Install = record {
      station = s;
      id = h.key.id;
      an = h.key.an;
      epoch = h.key.epoch;
      sak = h.key.sak;
    } in
    let more : n + 1 ≡ length (installs_of s (i ∷ is)) = rw (same_place s) (omega arith) in
    counts_on s (n + 1) cs (i ∷ is) next more (omega arith, are)
counts_on s n (changes.Dropped h ∷ cs) is next count are = counts_on s n cs is next count are
counts_on s n (changes.Retired h ∷ cs) is next count are = counts_on s n cs is next count are
counts_on s n (changes.Began h cause ∷ cs) is next count are = counts_on s n cs is next count are
counts_on s n (changes.Untaken id why ∷ cs) is next count are = counts_on s n cs is next count are

by_reaction : (s n hearing out : ℕ) (re : Reaction) (is : List Install) → AreNext n re.changes
    → n ≡ length (installs_of s is) → AreCounted is
    → AreCounted (gather install_of (reaction_facts s hearing out re) is)
by_reaction s n hearing out re is next count are =
    rw (
      gather-reaction install_of s hearing out re is (λ v. refl) (λ server. refl),
      gather-unread install_of (λ octets. facts.Framed out s false octets) re.sent
          (gather install_of (map (change_fact s) re.changes) is) (λ octets. refl),
    )
    (counts_on s n re.changes is next count are)

-- ---- what one event at a station comes to

-- its life goes on with as many installs as its facts show, and they count on
record GoesOn (s : ℕ) (l : Life) (shown : List Fact) (is : List Install) (now : Life) : Type 0 where
  count : now.member.base + install_count (keys_in now)
      ≡ (l.member.base + install_count (keys_in l)) + installs_in shown
  counted : l.member.base + install_count (keys_in l) ≡ length (installs_of s is) → AreCounted is
      → AreCounted (gather install_of shown is)

tick-goes : (settings : Settings) (s : ℕ) (r : Run) (next : ℕ) (sak : Secret) (l : Life)
    (is : List Install)
    → GoesOn s l (tick_facts settings s r next sak l) is (lived_ticking settings s r next sak l)
tick-goes settings s r next sak l is =
    let seen = seen_at settings s r l next in
    let turn = tick_turn l.member seen sak l.past in
    record {
      count = omega (arith, tick-count l.member seen sak l.past, in-reaction s 0 (next_frame r) turn.reaction);
      counted = by_reaction s _ 0 (next_frame r) turn.reaction is (by_tick l.member seen sak l.past);
    }

reach-goes : (settings : Settings) (s : ℕ) (r : Run) (number : ℕ) (octets : List ℕ) (l : Life)
    (is : List Install)
    → GoesOn s l (reached_facts settings s r number octets l) is (lived_hearing l octets)
reach-goes settings s r number octets l is = go (is_sec octets)
  where
    go : (b : Bool) → GoesOn s l (cond b
        (facts.Arrived number s
        (answer l.member.setup.sci settings.window (receiving s r) octets) ∷ [])
        (reaction_facts s number 0 (frame_turn l.member octets l.past).reaction)) is
        (cond b l (record l { past = (frame_turn l.member octets l.past).past }))
    go true = record { count = omega arith; counted = λ count are. are }
    go false = record {
      count = omega (
        arith,
        frame-count l.member octets l.past,
        in-reaction s number 0 (frame_turn l.member octets l.past).reaction,
      );
      counted = by_reaction s _ number 0 (frame_turn l.member octets l.past).reaction is
          (by_frame l.member octets l.past);
    }

-- ---- runs

record Stand (settings : Settings) (r : Run) : Type 0 where
  lives : LivesCount settings r
  counted : AreCounted (installs r)

-- an event at a station: what it comes to there, and it leaves the others
at_station : (settings : Settings) (s : ℕ) (e : Event) (f : List Fact) (r : Run) → AreOf s f
    → ((l : Life) → life settings s (happened e f ∷ r) ≡ Some l
    → l.member.base + install_count (keys_in l) ≡ length (installs_at s r) + installs_in f)
    → ((t : ℕ) → t ≢ s → life settings t (happened e f ∷ r) ≡ life settings t r)
    → AreCounted (gather install_of f (installs r))
    → Stand settings r → Stand settings (happened e f ∷ r)
unfolding installs
at_station settings s e f r are here others counted old =
    record { lives = λ t l is. go t l is (t == s) refl; counted = counted }
  where
    go : (t : ℕ) (l : Life) → life settings t (happened e f ∷ r) ≡ Some l → (b : Bool)
        → (t == s) ≡ b
        → l.member.base + install_count (keys_in l) ≡ length (installs_at t (happened e f ∷ r))
    go t l is true same =
        let place : t ≡ s = eqb-true t s same in
        let at : life settings s (happened e f ∷ r) ≡ Some l =
        subst (λ u. life settings u (happened e f ∷ r) ≡ Some l) place is in
        let own = installs-of-own s f are (installs r) in
        let count : l.member.base + install_count (keys_in l)
        ≡ length (installs_at s (happened e f ∷ r)) = here l at ∙ sym own in
        subst (λ u. l.member.base + install_count (keys_in l)
        ≡ length (installs_at u (happened e f ∷ r))) (sym place) count
    go t l is false differ =
        let other : t ≢ s = eqb-false t s differ in
        let before = old.lives t l (sym (others t other) ∙ is) in
        before ∙ sym (ap (λ (is : List Install). length is)
        (installs-of-others t s other f are (installs r)))

-- an event that changes no life, and shows no install
quiet : (settings : Settings) (e : Event) (f : List Fact) (r : Run)
    → ((t : ℕ) → life settings t (happened e f ∷ r) ≡ life settings t r)
    → gather install_of f (installs r) ≡ installs r → Stand settings r
    → Stand settings (happened e f ∷ r)
unfolding installs
quiet settings e f r same none old = record {
  lives = λ t l is. old.lives t l (sym (same t) ∙ is)
      ∙ ap (λ (is : List Install). length (installs_of t is)) (sym none);
  counted = subst AreCounted (sym none) old.counted;
}

-- ---- what a new life is

begun-counts : (settings : Settings) (s : ℕ) (r : Run) (f : List Fact) (p : Profile) (l : Life)
    → begun settings s r f p ≡ Some l
    → l.member.base + install_count (keys_in l) ≡ length (installs_at s r)
unfolding keys_of
begun-counts settings s r f p l is =
    let is_new = mapped _ (drawn_mi f) l is in
    subst (λ (l : Life). l.member.base + install_count (keys_in l) ≡ length (installs_at s r))
    is_new.2 (omega arith)

placed-counts : (settings : Settings) (s : ℕ) (r : Run) (f : List Fact) (o : Option Profile) (l : Life)
    → option_and_then (begun settings s r f) o ≡ Some l
    → l.member.base + install_count (keys_in l) ≡ length (installs_at s r)
placed-counts settings s r f None l is = absurd (cc is)
placed-counts settings s r f (Some p) l is = begun-counts settings s r f p l is

no-installs : (s : ℕ) (mi : Mi) (l : Life) → installs_in (restart_facts s mi l) ≡ 0
no-installs s mi l = omega (
  arith,
  in-reaction s 0 0 (ending l.member l.past),
  ending-count l.member l.past,
)

-- ---- the events

some-is : {A : Type 0} {a b : A} → Some a ≡ Some b → a ≡ b
some-is is = cc is

-- the life of a station to which something happened
life-here : (f : Life → Life) (s : ℕ) (o other : Option Life) (l : Life) → o ≡ Some l
    → cond (s == s) (option_map f o) other ≡ Some (f l)
life-here f s o other l is =
    ap (λ b. cond b (option_map f o) other) (same_place s) ∙ ap (option_map f) is

life-reached : (s : ℕ) (o : Option Life) (l : Life) (x : Option (List ℕ)) (octets : List ℕ)
    → o ≡ Some l → x ≡ Some octets
    → lived_reached o (cond (s == s) x None) ≡ Some (lived_hearing l octets)
life-reached s o l x octets is brings =
    ap (λ b. lived_reached o (cond b x None)) (same_place s) ∙ ap (lived_reached o) brings
    ∙ ap (λ o. lived_reached o (Some octets)) is

off : (s t : ℕ) → t ≢ s → (s == t) ≡ false
off s t other = ne_eqb s t (λ same. other (sym same))

start-counts : (settings : Settings) (users : List UserFrame) (name : Name) (sci : Sci) (priority : ℕ)
    (f : List Fact) (r : Run) → IsStep settings users (happened (events.Start name sci priority) f) r
    → Stand settings r → Stand settings (happened (events.Start name sci priority) f ∷ r)
unfolding expected life
start-counts settings users name sci priority f r step old =
    let n = length (stations r) in
    let is = mapped (λ mi. facts.Life (length (stations r)) mi ∷ []) (drawn_mi f) f step.shows in
    let are : AreOf (length (stations r)) f = subst (AreOf (length (stations r))) is.2 (refl, tt) in
    let none : installs_in f ≡ 0 = ap installs_in (sym is.2) in
    let kept : gather install_of f (installs r) ≡ installs r =
    ap (λ g. gather install_of g (installs r)) (sym is.2) in
    at_station settings (length (stations r)) (events.Start name sci priority) f r are
    (λ l at. let new = begun-counts settings n r f
    (record { name = name; sci = sci; priority = priority }) l (rw (same_place n) at at) in
    omega (arith, new, none))
    (λ t other. rw (off n t other) refl)
    (subst AreCounted (sym kept) old.counted) old

tick-counts : (settings : Settings) (users : List UserFrame) (s next : ℕ) (f : List Fact) (r : Run)
    → IsStep settings users (happened (events.Tick s next) f) r
    → Stand settings r → Stand settings (happened (events.Tick s next) f ∷ r)
unfolding expected life
tick-counts settings users s next f r step old =
    let is = mapped (tick_facts settings s r next (sak_in f)) (life settings s r) f step.shows in
    let goes = tick-goes settings s r next (sak_in f) is.0 (installs r) in
    let before = old.lives s is.0 is.1 in
    let shown : AreOf s f = subst (AreOf s) is.2 (tick-is-of settings s r next (sak_in f) is.0) in
    at_station settings s (events.Tick s next) f r shown
    (λ l at.
    let now : lived_ticking settings s r next (sak_in f) is.0 ≡ l =
    some-is (sym (life-here (lived_ticking settings s r next (sak_in f)) s (life settings s r)
    (life settings s r) is.0 is.1) ∙ at) in
    let many = ap installs_in is.2 in
    let count = goes.count in
    subst (λ (l : Life). l.member.base + install_count (keys_in l)
    ≡ length (installs_at s r) + installs_in f) now (omega (arith, count, before, many)))
    (λ t other. rw (off s t other) refl)
    (subst (λ g. AreCounted (gather install_of g (installs r))) is.2 (goes.counted before old.counted))
    old

-- octets reach a station
reach-counts : (settings : Settings) (s number : ℕ) (octets : List ℕ) (e : Event) (f : List Fact)
    (r : Run) (l : Life) → life settings s r ≡ Some l
    → reached_facts settings s r number octets l ≡ f
    → life settings s (happened e f ∷ r) ≡ Some (lived_hearing l octets)
    → ((t : ℕ) → t ≢ s → life settings t (happened e f ∷ r) ≡ life settings t r)
    → Stand settings r → Stand settings (happened e f ∷ r)
reach-counts settings s number octets e f r l alive shows here others old =
    let goes = reach-goes settings s r number octets l (installs r) in
    let before = old.lives s l alive in
    let are : AreOf s f = subst (AreOf s) shows (reached-is-of settings s r number octets l) in
    at_station settings s e f r are
    (λ now at.
    let same : lived_hearing l octets ≡ now = some-is (sym here ∙ at) in
    let many = ap installs_in shows in
    let count = goes.count in
    subst (λ (l : Life). l.member.base + install_count (keys_in l)
    ≡ length (installs_at s r) + installs_in f) same (omega (arith, count, before, many)))
    others
    (subst (λ g. AreCounted (gather install_of g (installs r))) shows
    (goes.counted before old.counted))
    old

deliver-counts : (settings : Settings) (users : List UserFrame) (frame s : ℕ) (f : List Fact) (r : Run)
    → IsStep settings users (happened (events.Deliver frame s) f) r
    → Stand settings r → Stand settings (happened (events.Deliver frame s) f ∷ r)
unfolding expected life
deliver-counts settings users frame s f r step old =
    let there = chained (λ x. option_map (reached_facts settings s r frame x.octets) (life settings s r))
    (frame_at r frame) f step.shows in
    let is = mapped (reached_facts settings s r frame there.0.octets) (life settings s r) f there.2 in
    reach-counts settings s frame there.0.octets (events.Deliver frame s) f r is.0 is.1 is.2
    (life-reached s (life settings s r) is.0 (option_map (λ x. x.octets) (frame_at r frame))
    there.0.octets is.1 (ap (option_map (λ x. x.octets)) there.1))
    (λ t other. rw (off s t other) refl) old

inject-counts : (settings : Settings) (users : List UserFrame) (s : ℕ) (octets : List ℕ) (f : List Fact)
    (r : Run) → IsStep settings users (happened (events.Inject s octets) f) r
    → Stand settings r → Stand settings (happened (events.Inject s octets) f ∷ r)
unfolding expected life
inject-counts settings users s octets f r step old =
    let is = mapped (reached_facts settings s r 0 octets) (life settings s r) f step.shows in
    reach-counts settings s 0 octets (events.Inject s octets) f r is.0 is.1 is.2
    (life-reached s (life settings s r) is.0 (Some octets) octets is.1 refl)
    (λ t other. rw (off s t other) refl) old

restart-counts : (settings : Settings) (users : List UserFrame) (s : ℕ) (f : List Fact) (r : Run)
    → IsStep settings users (happened (events.Restart s) f) r
    → Stand settings r → Stand settings (happened (events.Restart s) f ∷ r)
unfolding expected life
restart-counts settings users s f r step old =
    let drew = chained (λ mi. option_map (restart_facts s mi) (life settings s r)) (drawn_mi f) f
    step.shows in
    let is = mapped (restart_facts s drew.0) (life settings s r) f drew.2 in
    let are : AreOf s f = subst (AreOf s) is.2 (restart-is-of s drew.0 is.0) in
    let none : installs_in f ≡ 0 = ap installs_in (sym is.2) ∙ no-installs s drew.0 is.0 in
    let counted = by_reaction s (length (installs_at s r)) 0 0 (ending is.0.member is.0.past)
    (installs r) (by_ending is.0.member is.0.past _) refl old.counted in
    at_station settings s (events.Restart s) f r are
    (λ l at. let new = placed-counts settings s r f (slice_get (stations r) s) l
    (rw (same_place s) at at) in omega (arith, new, none))
    (λ t other. rw (off s t other) refl)
    (subst (λ g. AreCounted (gather install_of g (installs r))) is.2 counted) old

claim-counts : (settings : Settings) (users : List UserFrame) (s user pn : ℕ) (f : List Fact) (r : Run)
    → IsStep settings users (happened (events.Claim s user pn) f) r
    → Stand settings r → Stand settings (happened (events.Claim s user pn) f ∷ r)
unfolding expected life
claim-counts settings users s user pn f r step old =
    let is = mapped (λ l. claim_fact settings s r pn (transmitting_at settings s r) ∷ [])
    (life settings s r) f step.shows in
    quiet settings (events.Claim s user pn) f r (λ t. refl)
    (ap (λ g. gather install_of g (installs r)) (sym is.2)
    ∙ by_number (pn == 0) (transmitting_at settings s r)) old
  where
    by_number : (b : Bool) (k : Option Key)
        → gather install_of (cond b (facts.Unclaimed s (lack settings s r k)) (number_fact s pn k) ∷ [])
        (installs r) ≡ installs r
    by_number true k = refl
    by_number false None = refl
    by_number false (Some k) = refl

emit-counts : (settings : Settings) (users : List UserFrame) (f : List Fact) (r : Run)
    → IsStep settings users (happened events.Emit f) r
    → Stand settings r → Stand settings (happened events.Emit f ∷ r)
unfolding expected life
emit-counts settings users f r step old =
    let there = chained (emit_facts users r) (waiting settings r) f step.shows in
    let is = mapped (λ octets. facts.Framed (next_frame r) there.0.station true octets ∷ [])
    (frame_of_claim users r there.0) f there.2 in
    quiet settings events.Emit f r (λ t. refl)
    (ap (λ g. gather install_of g (installs r)) (sym is.2)) old

event-counts : (settings : Settings) (users : List UserFrame) (e : Event) (f : List Fact) (r : Run)
    → IsStep settings users (happened e f) r → Stand settings r → Stand settings (happened e f ∷ r)
event-counts settings users (events.Start name sci priority) f r step old =
    start-counts settings users name sci priority f r step old
event-counts settings users (events.Tick s next) f r step old =
    tick-counts settings users s next f r step old
event-counts settings users (events.Deliver frame s) f r step old =
    deliver-counts settings users frame s f r step old
event-counts settings users (events.Restart s) f r step old =
    restart-counts settings users s f r step old
event-counts settings users (events.Claim s user pn) f r step old =
    claim-counts settings users s user pn f r step old
event-counts settings users events.Emit f r step old = emit-counts settings users f r step old
event-counts settings users (events.Inject s octets) f r step old =
    inject-counts settings users s octets f r step old

run-counts : (settings : Settings) (users : List UserFrame) (r : Run) → IsStepped settings users r
    → Stand settings r
unfolding life installs
run-counts settings users [] stepped = record { lives = λ s l is. absurd (cc is); counted = tt }
run-counts settings users (x ∷ r) (step, before) =
    event-counts settings users x.event x.facts r step (run-counts settings users r before)

pub epochs-count : (settings : Settings) (users : List UserFrame) (r : Run)
    → IsStepped settings users r → AreCounted (installs r)
epochs-count settings users r stepped = (run-counts settings users r stepped).counted

pub lives-count : (settings : Settings) (users : List UserFrame) (r : Run)
    → IsStepped settings users r → LivesCount settings r
lives-count settings users r stepped = (run-counts settings users r stepped).lives
