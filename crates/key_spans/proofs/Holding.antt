-- What the changes of a life's keys tell of the key under a number is what its history holds there.
use Rattle.std.proofs.Common.{◌≡◌, ◌∙◌, ℕ, ◌+◌, Bool, true, false, cond, List, [], ◌∷◌, ◌++◌, map, Option, Some, None, is_some, Result, Ok, Err, refl, sym, ap, subst, arith}
use Rattle.std.proofs.lemmas.Bool.{eq-eqb}
use Rattle.std.specs.Prelude.{if◌then◌else◌, option_map, option_to_list}
use Rattle.std.specs.List.{filter, find, list_any}
use Rattle.lan_base.specs.declared.address.Mi.{Mi}
use Rattle.lan_base.specs.AssociationNumbers.{same_an}
use Rattle.lan_base.specs.declared.association_number.AssociationNumber.{AssociationNumber}
use Rattle.sak_exchange.specs.declared.change.Change.{Change}
use Rattle.sak_exchange.specs.declared.change.Change.TheVariants as changes
use Rattle.sak_exchange.specs.declared.change.Why.{Why}
use Rattle.sak_exchange.specs.declared.offer.Offer.{Offer}
use Rattle.sak_exchange.specs.declared.held_key.Key.{Key}
use Rattle.sak_exchange.specs.Histories.{Keying, clock, begun_at, has_begun}
use Rattle.sak_exchange.specs.Histories as keyings
use Rattle.sak_exchange.specs.Held.{KeepsRules, received, ends, held, shown, latest, old, transmitting, is_latest, is_retire_time_ago}
use Rattle.sak_exchange.specs.Beginning.{Beginning, retired}
use Rattle.sak_exchange.specs.Lives.{apart}
use Rattle.sak_exchange.specs.Outcomes.{beginning}
use Rattle.sak_exchange.proofs.Public.{by_test, shape, none, one, two, latest-none, latest-one, latest-two, keys-ticked, keys-dropped, keys-began, keys-installed, transmitting-is, begun-upto, are-two, same-an-equal}
use Rattle.mka_station.specs.Tick.{ended, install_changes}
use Rattle.mka_station.specs.Hearing.{key_taken, take_changes}
use Rattle.lan_core.specs.Keys.{held_under}
use Rattle.group_safety.proofs.Public.{with_began, with_key}
use Rattle.key_spans.specs.Held.{named, under}
use Rattle.key_spans.proofs.Telling.{Tell, begins, yields, name_of, sends}

-- a key under a number, where it has it, and else what is told otherwise
abbrev told_key : AssociationNumber → Option Key → Bool → Bool → Option Tell → Option Tell
told_key an None began relieved other = other
told_key an (Some k) began relieved other =
    if same_an k.an an
    then Some (record { id = k.id; epoch = k.epoch; began = began; relieved = relieved }) else other

-- of the latest key and the old one, where the latest has begun or has not: the old one has begun, and
-- the latest takes its place once it begins
abbrev pub told_of : AssociationNumber → Option Key → Option Key → Bool → Option Tell
told_of an l o begun = told_key an l begun false (told_key an o true begun None)

abbrev pub begun_latest : List Keying → Bool
begun_latest h = is_latest h (λ k. has_begun h k.epoch)

abbrev pub told_in : AssociationNumber → List Keying → Option Tell
told_in an h = told_of an (latest h) (old h) (begun_latest h)

-- ---- association numbers

first-other : (x y an : AssociationNumber) → same_an x y ≡ false → same_an y an ≡ true → same_an x an ≡ false
first-other x y an differ is = subst (λ v. same_an x v ≡ false) (same-an-equal y an is) differ

second-other : (x y an : AssociationNumber) → same_an x y ≡ false → same_an x an ≡ true → same_an y an ≡ false
second-other x y an differ is =
    by_test (same_an y an)
    (λ t. let never = first-other x y an differ t in absurd (cc (is, never)))
    (λ t. t)

-- the latest key and the old one have two numbers
abbrev pub AreApart : Option Key → Option Key → Type 0
AreApart (Some l) (Some o) = same_an l.an o.an ≡ false
AreApart _ _ = Unit {0}

pub keys-apart : (base : ℕ) (h : List Keying) → KeepsRules base h → AreApart (latest h) (old h)
keys-apart base h kept = go (latest h) (old h) refl refl
  where
    go : (l o : Option Key) → latest h ≡ l → old h ≡ o → AreApart l o
    go None None first second = tt
    go None (Some o) first second = tt
    go (Some l) None first second = tt
    go (Some l) (Some o) first second = (are-two base h l o kept first second).beside.apart

-- ---- what is told is what is held, and what transmits

pub held-told : (an : AssociationNumber) (h : List Keying)
    → map name_of (option_to_list (told_in an h)) ≡ named (option_map (λ k. k.key) (held_under h an))
held-told an h = go (latest h) (old h) (begun_latest h)
  where
    go : (l o : Option Key) (b : Bool)
        → map name_of (option_to_list (told_of an l o b))
        ≡ named (option_map (λ k. k.key) (option_map (held h)
        (find (λ k. same_an k.an an) (option_to_list l ++ option_to_list o))))
    go None None b = refl
    go None (Some o) b = by_test (same_an o.an an) (λ y. rw y refl) (λ y. rw y refl)
    go (Some l) None b = by_test (same_an l.an an) (λ y. rw y refl) (λ y. rw y refl)
    go (Some l) (Some o) b =
        by_test (same_an l.an an) (λ y. rw y refl)
        (λ y. by_test (same_an o.an an) (λ z. rw (y, z) refl) (λ z. rw (y, z) refl))

pub transmits-told : (an : AssociationNumber) (base : ℕ) (h : List Keying) → KeepsRules base h
    → map name_of (filter sends (option_to_list (told_in an h))) ≡ named (under an (transmitting h))
transmits-told an base h kept =
    go (latest h) (old h) (begun_latest h) (keys-apart base h kept)
    ∙ ap (λ k. named (under an k)) (sym (transmitting-is base h kept))
  where
    go : (l o : Option Key) (b : Bool) → AreApart l o
        → map name_of (filter sends (option_to_list (told_of an l o b))) ≡ named (under an (cond b l o))
    go None None true differ = refl
    go None None false differ = refl
    go None (Some o) true differ = by_test (same_an o.an an) (λ y. rw y refl) (λ y. rw y refl)
    go None (Some o) false differ = by_test (same_an o.an an) (λ y. rw y refl) (λ y. rw y refl)
    go (Some l) None true differ = by_test (same_an l.an an) (λ y. rw y refl) (λ y. rw y refl)
    go (Some l) None false differ = by_test (same_an l.an an) (λ y. rw y refl) (λ y. rw y refl)
    go (Some l) (Some o) true differ =
        by_test (same_an l.an an) (λ y. rw y refl)
        (λ y. by_test (same_an o.an an) (λ z. rw (y, z) refl) (λ z. rw (y, z) refl))
    go (Some l) (Some o) false differ =
        by_test (same_an l.an an)
        (λ y. let z = second-other l.an o.an an differ y in rw (y, z) refl)
        (λ y. by_test (same_an o.an an) (λ z. rw (y, z) refl) (λ z. rw (y, z) refl))

-- ---- changes

module _ (an : AssociationNumber) where
  abbrev pub told_change : Change → Option Tell → Option Tell
  told_change (changes.Dropped k) t = if same_an k.key.an an then None else t
  told_change (changes.Retired k) t = if same_an k.key.an an then None else t
  told_change (changes.Began k cause) t =
      option_map (λ t. if same_an k.key.an an then begins t else yields t) t
  told_change (changes.Installed k) t =
      if same_an k.key.an an
      then Some (record { id = k.key.id; epoch = k.key.epoch; began = false; relieved = false }) else t
  told_change (changes.Untaken id why) t = t

  abbrev pub told_all : List Change → Option Tell → Option Tell
  told_all [] t = t
  told_all (c ∷ cs) t = told_all cs (told_change c t)

  all-append : (a b : List Change) (t : Option Tell) → told_all (a ++ b) t ≡ told_all b (told_all a t)
  all-append [] b t = refl
  all-append (c ∷ a) b t = all-append a b (told_change c t)

  -- from these keys to those, by these changes
  abbrev pub Goes : List Keying → List Change → List Keying → Type 0
  Goes h cs g = told_all cs (told_in an h) ≡ told_in an g

  pub goes-on : (h g f : List Keying) (cs ds : List Change) → Goes h cs g → Goes g ds f → Goes h (cs ++ ds) f
  goes-on h g f cs ds first second = all-append cs ds (told_in an h) ∙ ap (told_all ds) first ∙ second

  abbrev has_an : List Key → Bool
  has_an ks = list_any (λ k. same_an k.an an) ks

  dropped-told : (h : List Keying) (ks : List Key) (t : Option Tell)
      → told_all (map (λ k. changes.Dropped (held h k)) ks) t ≡ cond (has_an ks) None t
  dropped-told h [] t = refl
  dropped-told h (k ∷ ks) t =
      dropped-told h ks (if same_an k.an an then None else t)
      ∙ by_test (same_an k.an an)
      (λ y. by_test (has_an ks) (λ z. rw (y, z) refl) (λ z. rw (y, z) refl))
      (λ y. by_test (has_an ks) (λ z. rw (y, z) refl) (λ z. rw (y, z) refl))

  -- after the end of a life nothing is told
  pub none-left : (h : List Keying) (ks : List Key)
      → told_all (map (λ k. changes.Dropped (held h k)) ks) None ≡ None
  none-left h ks = dropped-told h ks None ∙ by_test (has_an ks) (λ y. rw y refl) (λ y. rw y refl)

  -- ---- a tick

  none-held : (base : ℕ) (h : List Keying) → KeepsRules base h → cond (has_an (received h)) None (told_in an h) ≡ None
  none-held base h kept =
      elim (shape base h kept) [
        | none r ↦ let keys = latest-none h r in rw (keys.0, keys.1, r) refl
        | one l r last ↦ let keys = latest-one h l r last in
            rw (keys.0, keys.1, r) (by_test (same_an l.an an) (λ y. rw y refl) (λ y. rw y refl))
        | two l o r last b ↦ let keys = latest-two h l o r last b.less in
            rw (keys.0, keys.1, r)
            (by_test (same_an l.an an) (λ y. rw y refl)
            (λ y. by_test (same_an o.an an) (λ z. rw (y, z) refl) (λ z. rw (y, z) refl)))
      ]

  goes-dropped : (base : ℕ) (h : List Keying) → KeepsRules base h
      → Goes h (map (λ k. changes.Dropped (held h k)) (received h)) (keyings.ticked false ∷ h)
  goes-dropped base h kept =
      dropped-told h (received h) (told_in an h) ∙ none-held base h kept
      ∙ (let keys = keys-dropped h in rw (keys.latest, keys.old) refl)

  retired-told : (h : List Keying) (l o : Option Key) (b : Bool) → AreApart l o
      → told_all (option_to_list (option_map (λ k. changes.Retired (held h k)) o)) (told_of an l o b)
      ≡ told_of an l None b
  retired-told h None None b differ = refl
  retired-told h (Some l) None b differ = refl
  retired-told h None (Some o) b differ = by_test (same_an o.an an) (λ y. rw y refl) (λ y. rw y refl)
  retired-told h (Some l) (Some o) b differ =
      by_test (same_an o.an an)
      (λ y. let z = first-other l.an o.an an differ y in rw (y, z) refl)
      (λ y. rw y refl)

  abbrev is_over : List Keying → Bool
  is_over h = is_latest h (λ k. is_retire_time_ago (clock h + 1) (begun_at h k.epoch))

  goes-retired : (base : ℕ) (h : List Keying) → KeepsRules base h
      → Goes h (option_to_list (option_map (λ k. changes.Retired (held h k)) (retired h))) (keyings.ticked true ∷ h)
  goes-retired base h kept =
      go (is_over h) ∙ (let keys = keys-ticked base h kept in rw (keys.latest, keys.old) refl)
    where
      go : (over : Bool)
          → told_all (option_to_list (option_map (λ k. changes.Retired (held h k)) (cond over (old h) None)))
          (told_of an (latest h) (old h) (begun_latest h))
          ≡ told_of an (latest h) (cond over None (old h)) (begun_latest h)
      go true = retired-told h (latest h) (old h) (begun_latest h) (keys-apart base h kept)
      go false = refl

  pub goes-ended : (base : ℕ) (h : List Keying) (server : Option Mi) → KeepsRules base h
      → Goes h (ended h server) (keyings.ticked (is_some server) ∷ h)
  goes-ended base h None kept = goes-dropped base h kept
  goes-ended base h (Some server) kept = goes-retired base h kept

  -- ---- a key begins

  began-told : (k : Key) (o : Option Key)
      → option_map (λ t. if same_an k.an an then begins t else yields t) (told_of an (Some k) o false)
      ≡ told_of an (Some k) o true
  began-told k None = by_test (same_an k.an an) (λ y. rw y refl) (λ y. rw y refl)
  began-told k (Some o) =
      by_test (same_an k.an an) (λ y. rw y refl)
      (λ y. by_test (same_an o.an an) (λ z. rw (y, z) refl) (λ z. rw (y, z) refl))

  goes-began : (base : ℕ) (h : List Keying) (b : Beginning) → KeepsRules base h → latest h ≡ Some b.key
      → has_begun h b.key.epoch ≡ false
      → Goes h (beginning h (Some b)).changes (keyings.began b.key.epoch ∷ h)
  goes-began base h b kept first unbegun =
      let told : told_all (beginning h (Some b)).changes (told_in an h)
      ≡ told_of an (Some b.key) (old h) true = rw (first, unbegun) (began-told b.key (old h)) in
      told
      ∙ (let keys = keys-began base h b.key.epoch kept in
      let same = eq-eqb b.key.epoch b.key.epoch refl in rw (keys.latest, keys.old, first, same) refl)

  pub goes-begun : (base : ℕ) (h : List Keying) (b : Option Beginning) → KeepsRules base h
      → ((c : Beginning) → b ≡ Some c → (latest h ≡ Some c.key) × (has_begun h c.key.epoch ≡ false))
      → Goes h (beginning h b).changes (with_began b h)
  goes-begun base h None kept is = refl
  goes-begun base h (Some b) kept is = let both = is b refl in goes-began base h b kept both.0 both.1

  -- ---- a key is installed

  abbrev current : List Keying → Option Key
  current h = cond (begun_latest h) (latest h) (old h)

  unbegun-next : (base : ℕ) (h : List Keying) (r : Option (List Mi)) (k : Key)
      → KeepsRules base (keyings.installed r k ∷ h) → has_begun h k.epoch ≡ false
  unbegun-next base h r k kept =
      by_test (has_begun h k.epoch)
      (λ t. let most = begun-upto base h k.epoch kept.2 t in let next = kept.0 in absurd (omega arith))
      (λ t. t)

  -- what an install under another number leaves
  module _ (base : ℕ) (h : List Keying) (r : Option (List Mi)) (k : Key)
      (kept : KeepsRules base (keyings.installed r k ∷ h)) where
    abbrev Left : Type 0
    Left = cond (has_an (filter (ends (keyings.installed r k) h) (received h))) None (told_in an h)
        ≡ told_key an (apart k.an (current h)) true false None

    left-one : (l : Key) → received h ≡ l ∷ [] → latest h ≡ Some l → old h ≡ None → Left
    left-one l all first second =
        rw (first, second, all)
        (by_test (has_begun h l.epoch)
        (λ begun. by_test (same_an k.an l.an)
        (λ s. by_test (same_an l.an an) (λ y. rw (begun, s, y) refl) (λ y. rw (begun, s, y) refl))
        (λ s. by_test (same_an l.an an) (λ y. rw (begun, s, y) refl) (λ y. rw (begun, s, y) refl)))
        (λ begun. by_test (same_an k.an l.an)
        (λ s. by_test (same_an l.an an) (λ y. rw (begun, s, y) refl) (λ y. rw (begun, s, y) refl))
        (λ s. by_test (same_an l.an an) (λ y. rw (begun, s, y) refl) (λ y. rw (begun, s, y) refl))))

    left-two : (l o : Key) → received h ≡ l ∷ o ∷ [] → latest h ≡ Some l → old h ≡ Some o
        → same_an l.an o.an ≡ false → has_begun h o.epoch ≡ true → has_begun h l.epoch ≡ false → Left
    left-two l o all first second differ started unbegun =
        rw (first, second, all)
        (by_test (same_an k.an o.an)
        (λ s. by_test (same_an k.an l.an)
        (λ f. by_test (same_an l.an an) (λ y. rw (unbegun, started, s, f, y) refl)
        (λ y. by_test (same_an o.an an) (λ z. rw (unbegun, started, s, f, y, z) refl)
        (λ z. rw (unbegun, started, s, f, y, z) refl)))
        (λ f. by_test (same_an l.an an) (λ y. rw (unbegun, started, s, f, y) refl)
        (λ y. by_test (same_an o.an an) (λ z. rw (unbegun, started, s, f, y, z) refl)
        (λ z. rw (unbegun, started, s, f, y, z) refl))))
        (λ s. by_test (same_an k.an l.an)
        (λ f. by_test (same_an l.an an)
        (λ y. let z = second-other l.an o.an an differ y in rw (unbegun, started, s, f, y, z) refl)
        (λ y. rw (unbegun, started, s, f, y) refl))
        (λ f. by_test (same_an l.an an)
        (λ y. let z = second-other l.an o.an an differ y in rw (unbegun, started, s, f, y, z) refl)
        (λ y. rw (unbegun, started, s, f, y) refl))))

    left-under : Left
    left-under =
        elim (shape base h kept.2) [
          | none all ↦ let keys = latest-none h all in rw (keys.0, keys.1, all) refl
          | one l all last ↦ let keys = latest-one h l all last in left-one l all keys.0 keys.1
          | two l o all last b ↦
              let keys = latest-two h l o all last b.less in
              let unbegun = by_test (has_begun h l.epoch)
              (λ t. let never = rw (keys.0, keys.1, t) at kept.1 in absurd (cc never)) (λ t. t) in
              left-two l o all keys.0 keys.1 b.apart b.started unbegun
        ]

    pub goes-installed : Goes h (map (λ j. changes.Dropped (held h j))
        (filter (ends (keyings.installed r k) h) (received h)) ++ changes.Installed (shown false k) ∷ [])
        (keyings.installed r k ∷ h)
    goes-installed =
        all-append (map (λ j. changes.Dropped (held h j)) gone) (changes.Installed (shown false k) ∷ [])
        (told_in an h)
        ∙ ap (told_change (changes.Installed (shown false k))) (dropped-told h gone (told_in an h))
        ∙ installed-told
        ∙ (let keys = keys-installed base h r k kept in
        let unbegun = unbegun-next base h r k kept in rw (keys.latest, keys.old, unbegun) refl)
      where
        gone : List Key
        gone = filter (ends (keyings.installed r k) h) (received h)

        installed-told : told_change (changes.Installed (shown false k)) (cond (has_an gone) None (told_in an h))
            ≡ told_of an (Some k) (apart k.an (current h)) false
        installed-told = by_test (same_an k.an an) (λ y. rw y refl) (λ y. rw y left-under)

  pub goes-key : (base : ℕ) (h : List Keying) (r : Option (List Mi)) (key : Option Key)
      → KeepsRules base (with_key r key h) → Goes h (install_changes h r key) (with_key r key h)
  goes-key base h r None kept = refl
  goes-key base h r (Some k) kept = goes-installed base h r k kept

  pub goes-taken : (base : ℕ) (h : List Keying) (offer : Option Offer) (answer : Option (Result Key Why))
      → KeepsRules base (with_key None (key_taken answer) h) → ((offer ≡ None) → answer ≡ None)
      → Goes h (take_changes h offer answer) (with_key None (key_taken answer) h)
  goes-taken base h None None kept both = refl
  goes-taken base h None (Some a) kept both = let e = both refl in absurd (cc e)
  goes-taken base h (Some o) None kept both = refl
  goes-taken base h (Some o) (Some (Ok k)) kept both = goes-installed base h None k kept
  goes-taken base h (Some o) (Some (Err why)) kept both = refl
