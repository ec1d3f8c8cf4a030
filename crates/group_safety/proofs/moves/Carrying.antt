-- What the changes of a life's keys do to what is carried.
use Rattle.std.proofs.Common.{◌≡◌, ◌≢◌, ◌⊎◌, inl, inr, ⊎_elim, ℕ, ◌+◌, ◌<◌, ◌≤◌, Bool, true, false}
use Rattle.std.proofs.Common.{cond, not, List, [], ◌∷◌, ◌++◌, map, Option, Some, None, is_some, Result}
use Rattle.std.proofs.Common.{Ok, Err, refl, ap, sym, ◌∙◌, subst, arith}
use Rattle.std.proofs.lemmas.Bool.{eqb-true, eq-eqb, ne_eqb, lt-ltb, le-leb, and_from}
use Rattle.std.specs.Prelude.{◌==◌, nat_lt, option_map, option_and_then, option_to_list}
use Rattle.std.specs.List.{filter, find, list_any}
use Rattle.lan_base.specs.declared.address.Mi.{Mi}
use Rattle.lan_base.specs.declared.association_number.AssociationNumber.{AssociationNumber}
use Rattle.lan_base.specs.AssociationNumbers.{same_an}
use Rattle.sak_exchange.specs.declared.change.Change.{Change}
use Rattle.sak_exchange.specs.declared.change.Change.TheVariants as changes
use Rattle.sak_exchange.specs.declared.change.Why.{Why}
use Rattle.sak_exchange.specs.declared.offer.Offer.{Offer}
use Rattle.sak_exchange.specs.declared.held_key.Key.{Key}
use Rattle.sak_exchange.specs.Histories.{Keying, clock, installs, install_count, begun_at, has_begun}
use Rattle.sak_exchange.specs.Histories.{last_key, last_begun}
use Rattle.sak_exchange.specs.Histories as keyings
use Rattle.sak_exchange.specs.Held.{KeepsRules, received, ends, held, shown, latest, transmitting}
use Rattle.sak_exchange.specs.Held.{has_epoch, may_begin}
use Rattle.sak_exchange.specs.Beginning.{Beginning, retired}
use Rattle.sak_exchange.specs.Outcomes.{beginning}
use Rattle.sak_exchange.specs.Lives.{Has}
use Rattle.sak_exchange.proofs.Public.{by_test, by_option, first-is, shape, none, one, two}
use Rattle.sak_exchange.proofs.Public.{may-begin as may-begin-is, latest-epoch, begun-upto}
use Rattle.sak_exchange.proofs.Public.{retired-by, ago-begun, same-an-itself}
use Rattle.mka_station.specs.Tick.{ended as ended_by, install_changes}
use Rattle.mka_station.specs.Hearing.{key_taken, take_changes}
use Rattle.lan_core.specs.Order.{most_installs}
use Rattle.group_safety.specs.Transmitting.{Sending, sends, silent_after, Carried, now, names}
use Rattle.group_safety.specs.Transmitting.{installed, may_begin as may_move, begun, ended}
use Rattle.group_safety.specs.Transmitting.{transmits, Carries}
use Rattle.group_safety.proofs.once.Histories.{with_began, with_key}
use Rattle.group_safety.proofs.rollover.KeyFacts.{transmitting-received, transmitting-last}
use Rattle.group_safety.proofs.rollover.KeyFacts.{transmits-later}
use Rattle.group_safety.proofs.rollover.Slots.{NoneHas, AnsDiffer, ans-differ, apart-an, filter-all}

-- ---- changes

abbrev pub moved_by : Change → Carried → Option Carried
moved_by (changes.Dropped j) k = Some (ended j.key.an k)
moved_by (changes.Retired j) k = Some k
moved_by (changes.Began j cause) k = begun j.key.an j.key.epoch k
moved_by (changes.Installed j) k = installed k
moved_by (changes.Untaken id why) k = Some k

unfoldable pub moved_all : List Change → Carried → Option Carried
moved_all [] k = Some k
moved_all (c ∷ cs) k = option_and_then (moved_all cs) (moved_by c k)

pub moved-append : (a b : List Change) (k : Carried) → moved_all (a ++ b) k ≡ option_and_then (moved_all b) (moved_all a k)
unfolding moved_all
moved-append [] b k = refl
moved-append (c ∷ a) b k = by_option (moved_by c k) (λ none. rw none refl) (λ j some. rw some (moved-append a b j))

-- from these keys to those, by these changes
abbrev pub Goes : ℕ → List Keying → List Change → Carried → Type 0
Goes base g cs k = (j : Carried) × (moved_all cs k ≡ Some j) × Carries base g j

pub goes-on : (base : ℕ) (g f : List Keying) (cs ds : List Change) (k : Carried) → Goes base g cs k → ((j : Carried) → Carries base g j → Goes base f ds j) → Goes base f (cs ++ ds) k
goes-on base g f cs ds k first later = let next = later first.0 first.2 in
    (next.0, moved-append cs ds k ∙ (ap (option_and_then (moved_all ds)) first.1 ∙ next.1), next.2)

pub goes-nowhere : (base : ℕ) (h : List Keying) (k : Carried) → Carries base h k → Goes base h [] k
unfolding moved_all
goes-nowhere base h k carries = (k, refl, carries)

-- ---- what transmits

some-shown : (p : Sending) (an : AssociationNumber) (epoch : ℕ) → transmits p ≡ Some (an, epoch) → p ≡ sends an epoch
some-shown p an epoch is = by_test p.present
    (λ t. let e = rw t at is in let pair : (p.an, p.epoch) ≡ (an, epoch) = cc e in λ i. record { epoch = ap (λ (q : AssociationNumber × ℕ). q.1) pair i; present = t i; an = ap (λ (q : AssociationNumber × ℕ). q.0) pair i })
    (λ t. let e = rw t at is in absurd (cc e))

pub none-shown : (p : Sending) → transmits p ≡ None → p.present ≡ false
none-shown p is = by_test p.present (λ t. let e = rw t at is in absurd (cc e)) (λ t. t)

pub carried-some : (base : ℕ) (h : List Keying) (k : Carried) (t : Key) → Carries base h k → transmitting h ≡ Some t → now k ≡ sends t.an t.epoch
carried-some base h k t carries is = some-shown (now k) t.an t.epoch (carries.shows ∙ ap (option_map (λ (key : Key). (key.an, key.epoch))) is)

pub carried-none : (base : ℕ) (h : List Keying) (k : Carried) → Carries base h k → transmitting h ≡ None → (now k).present ≡ false
carried-none base h k carries is = none-shown (now k) (carries.shows ∙ ap (option_map (λ (key : Key). (key.an, key.epoch))) is)

-- ---- keys that are dropped

abbrev has_an : AssociationNumber → List Key → Bool
has_an an ks = list_any (λ j. same_an an j.an) ks

unfoldable drops : List Key → Carried → Carried
drops [] k = k
drops (j ∷ js) k = drops js (ended j.an k)

dropped-moves : (h : List Keying) (ks : List Key) (k : Carried) → moved_all (map (λ j. changes.Dropped (held h j)) ks) k ≡ Some (drops ks k)
unfolding moved_all drops
dropped-moves h [] k = refl
dropped-moves h (j ∷ ks) k = dropped-moves h ks (ended j.an k)

drops-absent : (ks : List Key) (k : Carried) → (now k).present ≡ false → drops ks k ≡ k
unfolding drops
drops-absent [] k absent = refl
drops-absent (j ∷ ks) k absent =
    let none : names (now k) j.an ≡ false = rw absent refl in
    let same : ended j.an k ≡ k = rw none refl in
    ap (drops ks) same ∙ drops-absent ks k absent

drops-other : (ks : List Key) (k : Carried) (an : AssociationNumber) (epoch : ℕ) → now k ≡ sends an epoch → has_an an ks ≡ false → drops ks k ≡ k
unfolding drops
drops-other [] k an epoch is away = refl
drops-other (j ∷ ks) k an epoch is away =
    by_test (same_an an j.an)
    (λ t. let e = rw t at away in absurd (cc e))
    (λ t. let rest = rw t at away in
    let not_it : names (now k) j.an ≡ false = rw is t in
    let same : ended j.an k ≡ k = rw not_it refl in
    ap (drops ks) same ∙ drops-other ks k an epoch is rest)

abbrev gone_after : ℕ → Carried → Carried
gone_after epoch k = record k { points = silent_after epoch ∷ k.points }

drops-this : (ks : List Key) (k : Carried) (an : AssociationNumber) (epoch : ℕ) → now k ≡ sends an epoch → has_an an ks ≡ true → drops ks k ≡ gone_after epoch k
unfolding drops
drops-this [] k an epoch is some = absurd (cc some)
drops-this (j ∷ ks) k an epoch is some =
    by_test (same_an an j.an)
    (λ t. let it : names (now k) j.an ≡ true = rw is t in
    let gone : ended j.an k ≡ gone_after epoch k = rw it (ap (λ (p : Sending). gone_after p.epoch k) is) in
    ap (drops ks) gone ∙ drops-absent ks (gone_after epoch k) refl)
    (λ t. let rest = rw t at some in
    let not_it : names (now k) j.an ≡ false = rw is t in
    let same : ended j.an k ≡ k = rw not_it refl in
    ap (drops ks) same ∙ drops-this ks k an epoch is rest)

none-any : (an : AssociationNumber) (p : Key → Bool) (ks : List Key) → NoneHas an ks → has_an an (filter p ks) ≡ false
unfolding NoneHas
none-any an p [] n = refl
none-any an p (k ∷ ks) n =
    let f : same_an an k.an ≡ false = apart-an an k.an (λ e. n.0 (sym e)) in
    by_test (p k) (λ t. rw (t, f) (none-any an p ks n.1)) (λ t. rw t (none-any an p ks n.1))

has-other : (j t : Key) (ks : List Key) → NoneHas j.an ks → Has t ks → j.an ≡ t.an → ⊥
unfolding NoneHas
has-other j t [] n has e = has
has-other j t (k ∷ ks) n (inl same) e = n.0 (ap (λ (w : Key). w.an) same ∙ sym e)
has-other j t (k ∷ ks) n (inr has) e = has-other j t ks n.1 has e

none-of : (k : Key) (ks : List Key) → AnsDiffer (k ∷ ks) → NoneHas k.an ks
unfolding AnsDiffer
none-of k ks d = d.0

-- among keys of which no two have one number, a key's number is there exactly where it is
ended-has : (p : Key → Bool) (ks : List Key) (t : Key) → AnsDiffer ks → Has t ks → has_an t.an (filter p ks) ≡ p t
unfolding AnsDiffer
ended-has p [] t d has = absurd has
ended-has p (j ∷ ks) t d (inl same) =
    let an_same : same_an t.an j.an ≡ true = subst (λ (w : Key). same_an t.an w.an ≡ true) (sym same) (same-an-itself t.an) in
    by_test (p j)
    (λ y. rw (y, an_same) (sym y ∙ ap p same))
    (λ y. rw y (none-any t.an p ks (subst (λ v. NoneHas v ks) (ap (λ (w : Key). w.an) same) d.0) ∙ (sym y ∙ ap p same)))
ended-has p (j ∷ ks) t d (inr has) =
    let differ : same_an t.an j.an ≡ false = apart-an t.an j.an (λ e. has-other j t ks d.0 has (sym e)) in
    by_test (p j)
    (λ y. rw (y, differ) (ended-has p ks t d.1 has))
    (λ y. rw y (ended-has p ks t d.1 has))

-- what an entry's drops leave of what is carried
abbrev left_of : Carried → Option Key → (Key → Bool) → Carried
left_of k None p = k
left_of k (Some t) p = cond (p t) (gone_after t.epoch k) k

drops-left : (base : ℕ) (h : List Keying) (k : Carried) (p : Key → Bool) → KeepsRules base h → Carries base h k → drops (filter p (received h)) k ≡ left_of k (transmitting h) p
drops-left base h k p kept carries =
    by_option (transmitting h)
    (λ none. drops-absent (filter p (received h)) k (carried-none base h k carries none) ∙ rw none refl)
    (λ t some. let is = carried-some base h k t carries some in
    let has = ended-has p (received h) t (ans-differ base h kept) (transmitting-received h t some) in
    by_test (p t)
    (λ y. drops-this (filter p (received h)) k t.an t.epoch is (has ∙ y) ∙ rw (some, y) refl)
    (λ y. drops-other (filter p (received h)) k t.an t.epoch is (has ∙ y) ∙ rw (some, y) refl))

-- ---- ticks

pair : Option Key → Option (AssociationNumber × ℕ)
pair o = option_map (λ (key : Key). (key.an, key.epoch)) o

-- what is found first stays so among those that are left with it
find-left : (test q : Key → Bool) (ks : List Key) (t : Key) → find test ks ≡ Some t → q t ≡ true → find test (filter q ks) ≡ Some t
find-left test q [] t is keeps = absurd (cc is)
find-left test q (k ∷ ks) t is keeps =
    by_test (test k)
    (λ y. let same : k ≡ t = (let e = rw y at is in cc e) in let kept : q k ≡ true = ap q same ∙ keeps in rw (kept, y) (ap Some same))
    (λ y. let later = rw y at is in by_test (q k) (λ z. rw (z, y) (find-left test q ks t later keeps)) (λ z. rw z (find-left test q ks t later keeps)))

find-none : (test q : Key → Bool) (ks : List Key) → find test ks ≡ None → find test (filter q ks) ≡ None
find-none test q [] is = refl
find-none test q (k ∷ ks) is =
    by_test (test k)
    (λ y. let e = rw y at is in absurd (cc e))
    (λ y. let later = rw y at is in by_test (q k) (λ z. rw (z, y) (find-none test q ks later)) (λ z. rw z (find-none test q ks later)))

-- no key has the epoch, and no two have one
abbrev NoneIsOf : ℕ → List Key → Type 0
NoneIsOf e [] = Unit {0}
NoneIsOf e (k ∷ ks) = (k.epoch ≢ e) × NoneIsOf e ks

abbrev EpochsDiffer : List Key → Type 0
EpochsDiffer [] = Unit {0}
EpochsDiffer (k ∷ ks) = NoneIsOf k.epoch ks × EpochsDiffer ks

epochs-differ : (base : ℕ) (h : List Keying) → KeepsRules base h → EpochsDiffer (received h)
epochs-differ base h kept =
    elim (shape base h kept) [
      | none r ↦ rw r tt
      | one l r last ↦ rw r (tt, tt)
      | two l o r last b ↦ rw r ((λ e. let less = b.less in absurd (omega arith), tt), (tt, tt))
    ]

none-found : (e : ℕ) (q : Key → Bool) (ks : List Key) → NoneIsOf e ks → find (has_epoch e) (filter q ks) ≡ None
none-found e q [] away = refl
none-found e q (k ∷ ks) away =
    let other : (k.epoch == e) ≡ false = ne_eqb k.epoch e away.0 in
    by_test (q k) (λ z. rw (z, other) (none-found e q ks away.1)) (λ z. rw z (none-found e q ks away.1))

-- what is found is gone where it is not left
find-gone : (e : ℕ) (q : Key → Bool) (ks : List Key) (t : Key) → EpochsDiffer ks → find (has_epoch e) ks ≡ Some t → q t ≡ false → find (has_epoch e) (filter q ks) ≡ None
find-gone e q [] t differ is gone = absurd (cc is)
find-gone e q (k ∷ ks) t differ is gone =
    by_test (k.epoch == e)
    (λ y. let same : k ≡ t = (let f = rw y at is in cc f) in
    let not_kept : q k ≡ false = ap q same ∙ gone in
    rw not_kept (none-found e q ks (subst (λ n. NoneIsOf n ks) (eqb-true k.epoch e y) differ.0)))
    (λ y. let later = rw y at is in by_test (q k) (λ z. rw (z, y) (find-gone e q ks t differ.1 later gone)) (λ z. rw z (find-gone e q ks t differ.1 later gone)))

last-begins : (h : List Keying) (e : ℕ) → last_begun h ≡ Some e → has_begun h e ≡ true
last-begins [] e is = absurd (cc is)
last-begins (keyings.ticked s ∷ h) e is = last-begins h e is
last-begins (keyings.installed r k ∷ h) e is = last-begins h e is
last-begins (keyings.began f ∷ h) e is = let same : f ≡ e = cc is in rw (eq-eqb f e same) refl

-- the key that transmits is not retired
transmits-on : (base : ℕ) (h : List Keying) (t : Key) → KeepsRules base h → transmitting h ≡ Some t → ends (keyings.ticked true) h t ≡ false
transmits-on base h t kept is =
    by_test (ends (keyings.ticked true) h t)
    (λ y. let by = retired-by h t.epoch (installs h) y in
    let most = transmits-later base h t by.later kept (ago-begun (clock h + 1) (begun_at h by.later) by.ago) is in
    let less = by.less in absurd (omega arith))
    (λ y. y)

transmitting-ticked : (base : ℕ) (h : List Keying) → KeepsRules base h → transmitting (keyings.ticked true ∷ h) ≡ transmitting h
unfolding transmitting received
transmitting-ticked base h kept = by_option (transmitting h) (λ none. absent none ∙ sym none) (λ t some. present t some ∙ sym some)
  where
    absent : transmitting h ≡ None → transmitting (keyings.ticked true ∷ h) ≡ None
    absent is = by_option (last_begun h) (λ none. rw none refl)
        (λ e some. rw some (find-none (has_epoch e) (λ k. not (ends (keyings.ticked true) h k)) (received h) (rw some at is)))

    present : (t : Key) → transmitting h ≡ Some t → transmitting (keyings.ticked true ∷ h) ≡ Some t
    present t is = by_option (last_begun h) (λ none. let e = rw none at is in absurd (cc e))
        (λ e some. rw some (find-left (has_epoch e) (λ k. not (ends (keyings.ticked true) h k)) (received h) t (rw some at is) (ap not (transmits-on base h t kept is))))

carries-ticked : (base : ℕ) (h : List Keying) (k : Carried) → KeepsRules base h → Carries base h k → Carries base (keyings.ticked true ∷ h) k
carries-ticked base h k kept carries = record {
  installs = carries.installs;
  shows = carries.shows ∙ ap (option_map (λ (key : Key). (key.an, key.epoch))) (sym (transmitting-ticked base h kept));
  last = carries.last;
}

-- what of the key that transmits is left
abbrev kept_one : (Key → Bool) → Option Key → Option Key
kept_one p None = None
kept_one p (Some t) = cond (p t) None (Some t)

module _ (base : ℕ) (h : List Keying) (k : Carried) (p : Key → Bool) (carries : Carries base h k) where
  abbrev left : Carried
  left = left_of k (transmitting h) p

  left-epoch : (now left).epoch ≡ (now k).epoch
  left-epoch = by_option (transmitting h) (λ none. rw none refl)
      (λ t some. by_test (p t) (λ y. rw (some, y) (sym (ap (λ (q : Sending). q.epoch) (carried-some base h k t carries some)))) (λ y. rw (some, y) refl))

  left-installs : left.installs ≡ base + install_count h
  left-installs = by_option (transmitting h) (λ none. rw none carries.installs)
      (λ t some. by_test (p t) (λ y. rw (some, y) carries.installs) (λ y. rw (some, y) carries.installs))

  left-shows : transmits (now left) ≡ option_map (λ (key : Key). (key.an, key.epoch)) (kept_one p (transmitting h))
  left-shows = by_option (transmitting h)
      (λ none. let absent = carried-none base h k carries none in rw (none, absent) refl)
      (λ t some. by_test (p t) (λ y. rw (some, y) refl) (λ y. let is = carried-some base h k t carries some in rw (some, y, is) refl))

  left-last : ((now left).epoch ≤ base) ⊎ (has_begun h (now left).epoch ≡ true)
  left-last = subst (λ (e : ℕ). (e ≤ base) ⊎ (has_begun h e ≡ true)) (sym left-epoch) carries.last

none-left : (o : Option Key) → kept_one (λ _. true) o ≡ None
none-left None = refl
none-left (Some t) = refl

none-kept : (ks : List Key) → filter (λ k. false) ks ≡ []
none-kept [] = refl
none-kept (k ∷ ks) = none-kept ks

pub dropped-none : (h : List Keying) → transmitting (keyings.ticked false ∷ h) ≡ None
unfolding transmitting received
dropped-none h = by_option (last_begun h) (λ none. rw none refl) (λ e some. rw some (ap (find (has_epoch e)) (none-kept (received h))))

-- a tick with no elected server drops every key
pub goes-dropped : (base : ℕ) (h : List Keying) (k : Carried) → KeepsRules base h → Carries base h k → Goes base (keyings.ticked false ∷ h) (map (λ j. changes.Dropped (held h j)) (received h)) k
goes-dropped base h k kept carries = (
  left base h k (λ _. true) carries,
  dropped-moves h (received h) k ∙ ap Some (ap (λ ks. drops ks k) (sym (filter-all (received h))) ∙ drops-left base h k (λ _. true) kept carries),
  record {
    installs = left-installs base h k (λ _. true) carries;
    shows = left-shows base h k (λ _. true) carries ∙ ap (option_map (λ (key : Key). (key.an, key.epoch))) (none-left (transmitting h) ∙ sym (dropped-none h));
    last = left-last base h k (λ _. true) carries;
  },
)

goes-retired : (base : ℕ) (h : List Keying) (k : Carried) → KeepsRules base h → Carries base h k → Goes base (keyings.ticked true ∷ h) (option_to_list (option_map (λ j. changes.Retired (held h j)) (retired h))) k
unfolding moved_all
goes-retired base h k kept carries = (k, by_option (retired h) (λ none. rw none refl) (λ o some. rw some refl), carries-ticked base h k kept carries)

pub goes-ended : (base : ℕ) (h : List Keying) (server : Option Mi) (k : Carried) → KeepsRules base h → Carries base h k → Goes base (keyings.ticked (is_some server) ∷ h) (ended_by h server) k
goes-ended base h None k kept carries = goes-dropped base h k kept carries
goes-ended base h (Some server) k kept carries = goes-retired base h k kept carries

-- ---- a key begins

some-installed : (h : List Keying) (l : Key) → last_key h ≡ Some l → 1 ≤ install_count h
some-installed [] l is = absurd (cc is)
some-installed (keyings.ticked s ∷ h) l is = some-installed h l is
some-installed (keyings.installed r k ∷ h) l is = omega arith
some-installed (keyings.began e ∷ h) l is = some-installed h l is

-- the latest key transmits once it began
begun-transmits : (base : ℕ) (h : List Keying) (l : Key) → KeepsRules base h → latest h ≡ Some l → transmitting (keyings.began l.epoch ∷ h) ≡ Some l
unfolding transmitting received
begun-transmits base h l kept first =
    let at = first-is base h l kept first in
    ap (find (has_epoch l.epoch)) (filter-all (received h) ∙ at.received) ∙ (let same : (l.epoch == l.epoch) ≡ true = eq-eqb l.epoch l.epoch refl in rw same refl)

pub goes-began : (base : ℕ) (h : List Keying) (b : Beginning) (k : Carried) → KeepsRules base h → may_begin h b.key.epoch ≡ true → latest h ≡ Some b.key → Carries base h k
    → Goes base (keyings.began b.key.epoch ∷ h) (beginning h (Some b)).changes k
unfolding moved_all
goes-began base h b k kept may first carries = (
  later,
  rw allowed refl,
  record {
    installs = carries.installs;
    shows = sym (ap (option_map (λ (key : Key). (key.an, key.epoch))) (begun-transmits base h b.key kept first));
    last = inr begins;
  },
)
  where
    later : Carried
    later = record k { points = sends b.key.an b.key.epoch ∷ k.points }

    begins : has_begun (keyings.began b.key.epoch ∷ h) b.key.epoch ≡ true
    begins = rw (eq-eqb b.key.epoch b.key.epoch refl) refl

    unbegun : has_begun h b.key.epoch ≡ false
    unbegun = (may-begin-is h b.key.epoch may).unbegun

    epoch_is : b.key.epoch ≡ base + install_count h
    epoch_is = latest-epoch base h b.key kept first

    above : (now k).epoch < b.key.epoch
    above = ⊎_elim
        (λ low. let some_one = some-installed h b.key (first-is base h b.key kept first).last in let e = epoch_is in omega arith)
        (λ begun. let most = begun-upto base h (now k).epoch kept begun in let e = epoch_is in
        let apart : (now k).epoch ≢ b.key.epoch = (λ e. absurd (cc (sym begun ∙ (ap (has_begun h) e ∙ unbegun)))) in omega arith)
        carries.last

    not_there : names (now k) b.key.an ≡ false
    not_there = by_option (transmitting h)
        (λ none. let absent = carried-none base h k carries none in rw absent refl)
        (λ t some. let is = carried-some base h k t carries some in
        rw is (apart-an t.an b.key.an (λ e. other t some (sym e))))
      where
        other : (t : Key) → transmitting h ≡ Some t → b.key.an ≡ t.an → ⊥
        other t some same =
            let at = first-is base h b.key kept first in
            let among : Has t (b.key ∷ at.rest) = subst (Has t) at.received (transmitting-received h t some) in
            let differ : AnsDiffer (b.key ∷ at.rest) = subst AnsDiffer at.received (ans-differ base h kept) in
            let started = last-begins h t.epoch (transmitting-last h t some).0 in
            ⊎_elim (λ (it : b.key ≡ t). absurd (cc (sym started ∙ (ap (λ (w : Key). has_begun h w.epoch) (sym it) ∙ unbegun))))
            (λ later. has-other b.key t at.rest (none-of b.key at.rest differ) later same) among

    allowed : may_move b.key.an b.key.epoch (now k) k.installs ≡ true
    allowed = and_from _ _ (lt-ltb (now k).epoch b.key.epoch above)
        (and_from _ _ (le-leb b.key.epoch k.installs (let z = carries.installs in let y = epoch_is in omega arith)) (ap not not_there))

pub goes-begun : (base : ℕ) (h : List Keying) (b : Option Beginning) (k : Carried) → KeepsRules base h
    → ((c : Beginning) → b ≡ Some c → (may_begin h c.key.epoch ≡ true) × (latest h ≡ Some c.key))
    → Carries base h k → Goes base (with_began b h) (beginning h b).changes k
goes-begun base h None k kept may carries = goes-nowhere base h k carries
goes-begun base h (Some b) k kept may carries = let m = may b refl in goes-began base h b k kept m.0 m.1 carries

-- ---- a key is installed

-- an install leaves the key that transmits, unless it ends it
transmitting-installed : (base : ℕ) (h : List Keying) (r : Option (List Mi)) (n : Key) → KeepsRules base (keyings.installed r n ∷ h) → transmitting (keyings.installed r n ∷ h) ≡ kept_one (ends (keyings.installed r n) h) (transmitting h)
unfolding transmitting received
transmitting-installed base h r n kept = by_option (transmitting h)
    (λ none. absent none ∙ sym (ap (kept_one p) none))
    (λ t some. by_test (p t)
    (λ y. gone t some y ∙ sym (ap (kept_one p) some ∙ rw y refl))
    (λ y. stays t some y ∙ sym (ap (kept_one p) some ∙ rw y refl)))
  where
    p : Key → Bool
    p = ends (keyings.installed r n) h

    other : (e : ℕ) → last_begun h ≡ Some e → (n.epoch == e) ≡ false
    other e last = ne_eqb n.epoch e (λ same. let most = begun-upto base h e kept.2 (last-begins h e last) in let next = kept.0 in absurd (omega (arith, same)))

    absent : transmitting h ≡ None → transmitting (keyings.installed r n ∷ h) ≡ None
    absent is = by_option (last_begun h) (λ none. rw none refl)
        (λ e some. let o = other e some in rw (some, o) (find-none (has_epoch e) (λ k. not (p k)) (received h) (rw some at is)))

    stays : (t : Key) → transmitting h ≡ Some t → p t ≡ false → transmitting (keyings.installed r n ∷ h) ≡ Some t
    stays t is keeps = by_option (last_begun h) (λ none. let e = rw none at is in absurd (cc e))
        (λ e some. let o = other e some in rw (some, o) (find-left (has_epoch e) (λ k. not (p k)) (received h) t (rw some at is) (ap not keeps)))

    gone : (t : Key) → transmitting h ≡ Some t → p t ≡ true → transmitting (keyings.installed r n ∷ h) ≡ None
    gone t is ended_it = by_option (last_begun h) (λ none. let e = rw none at is in absurd (cc e))
        (λ e some. let o = other e some in rw (some, o) (find-gone e (λ k. not (p k)) (received h) t (epochs-differ base h kept.2) (rw some at is) (ap not ended_it)))

pub goes-installed : (base : ℕ) (h : List Keying) (r : Option (List Mi)) (n : Key) (k : Carried) → KeepsRules base (keyings.installed r n ∷ h) → (base + install_count h) + 1 ≤ most_installs → Carries base h k
    → Goes base (keyings.installed r n ∷ h) (map (λ j. changes.Dropped (held h j)) (filter (ends (keyings.installed r n) h) (received h)) ++ changes.Installed (shown false n) ∷ []) k
unfolding moved_all
goes-installed base h r n k kept room carries = (
  more,
  moved-append (map (λ j. changes.Dropped (held h j)) (filter p (received h))) (changes.Installed (shown false n) ∷ []) k
      ∙ (ap (option_and_then (moved_all (changes.Installed (shown false n) ∷ []))) (dropped-moves h (filter p (received h)) k ∙ ap Some (drops-left base h k p kept.2 carries)) ∙ counted),
  record {
    installs = let z = left-installs base h k p carries in omega arith;
    shows = left-shows base h k p carries ∙ ap (option_map (λ (key : Key). (key.an, key.epoch))) (sym (transmitting-installed base h r n kept));
    last = left-last base h k p carries;
  },
)
  where
    p : Key → Bool
    p = ends (keyings.installed r n) h

    more : Carried
    more = record (left base h k p carries) { installs = (left base h k p carries).installs + 1 }

    counted : moved_all (changes.Installed (shown false n) ∷ []) (left_of k (transmitting h) p) ≡ Some more
    counted = let few : nat_lt (left base h k p carries).installs most_installs ≡ true = lt-ltb _ _ (let z = left-installs base h k p carries in omega arith) in rw few refl

pub goes-key : (base : ℕ) (h : List Keying) (r : Option (List Mi)) (key : Option Key) (k : Carried) → KeepsRules base (with_key r key h) → base + install_count (with_key r key h) ≤ most_installs → Carries base h k
    → Goes base (with_key r key h) (install_changes h r key) k
goes-key base h r None k kept room carries = goes-nowhere base h k carries
goes-key base h r (Some n) k kept room carries = goes-installed base h r n k kept (omega arith) carries

pub goes-taken : (base : ℕ) (h : List Keying) (o : Option Offer) (answer : Option (Result Key Why)) (k : Carried) → KeepsRules base (with_key None (key_taken answer) h) → base + install_count (with_key None (key_taken answer) h) ≤ most_installs
    → ((o ≡ None) → answer ≡ None) → Carries base h k → Goes base (with_key None (key_taken answer) h) (take_changes h o answer) k
unfolding moved_all
goes-taken base h None None k kept room both carries = goes-nowhere base h k carries
goes-taken base h None (Some a) k kept room both carries = let e = both refl in absurd (cc e)
goes-taken base h (Some o) None k kept room both carries = goes-nowhere base h k carries
goes-taken base h (Some o) (Some (Ok n)) k kept room both carries = goes-installed base h None n k kept (omega arith) carries
goes-taken base h (Some o) (Some (Err why)) k kept room both carries = (k, refl, carries)
