-- The receive slots of a station have the keys that it receives.
use Rattle.std.proofs.Common.{◌≡◌, ◌≢◌, inl, inr, ℕ, ◌+◌, Bool, true, false, cond, not, List, []}
use Rattle.std.proofs.Common.{◌∷◌, ◌++◌, map, refl, ap, sym, ◌∙◌, subst}
use Rattle.std.proofs.Common.{Option, Some, None, is_some, Result, Ok, Err}
use Rattle.std.proofs.lemmas.Bool.{lt-ltb}
use Rattle.std.specs.Prelude.{nat_lt, option_map, option_to_list}
use Rattle.std.specs.List.{filter, find, list_any}
use Rattle.lan_base.specs.declared.association_number.AssociationNumber.{AssociationNumber}
use Rattle.lan_base.specs.AssociationNumbers.{same_an}
use Rattle.aes_block.specs.declared.secret.Secret.{Secret}
use Rattle.rx_slots.specs.Histories.{Receiving, installed, removed, standing_key}
use Rattle.sak_exchange.specs.declared.change.Change.{Change}
use Rattle.sak_exchange.specs.declared.change.Change.TheVariants as changes
use Rattle.sak_exchange.specs.declared.change.Why.{Why}
use Rattle.sak_exchange.specs.declared.offer.Offer.{Offer}
use Rattle.sak_exchange.specs.declared.held_key.Key.{Key}
use Rattle.sak_exchange.specs.Histories.{Keying, clock, installs, begun_at}
use Rattle.sak_exchange.specs.Histories as keyings
use Rattle.sak_exchange.specs.Held.{KeepsRules, received, ends, retires, held, shown, is_retire_time_ago}
use Rattle.sak_exchange.specs.Beginning.{Beginning, retired}
use Rattle.sak_exchange.specs.Outcomes.{beginning}
use Rattle.sak_exchange.specs.Lives.{Has}
use Rattle.sak_exchange.proofs.Public.{by_test, shape, other-an, same-an-equal, same-an-itself}
use Rattle.sak_exchange.proofs.Public.{none, one, two, not-ended, latest-none, latest-one}
use Rattle.sak_exchange.proofs.Public.{latest-two, retired-by, ago-begun}
use Rattle.mka_station.specs.Tick.{ended, install_changes}
use Rattle.mka_station.specs.Hearing.{key_taken, take_changes}
use Rattle.group_safety.proofs.once.Histories.{with_began, with_key}
use Rattle.group_safety.proofs.rollover.KeyFacts.{received-installed}

-- ---- keys by association number

abbrev pub key_under : AssociationNumber → List Key → Option Key
key_under an ks = find (λ k. same_an k.an an) ks

abbrev pub sak_under : AssociationNumber → List Key → Option Secret
sak_under an ks = option_map (λ k. k.sak) (key_under an ks)

pub apart-an : (a b : AssociationNumber) → a ≢ b → same_an a b ≡ false
apart-an a b apart =
    by_test (same_an a b) (λ t. absurd (apart (same-an-equal a b t))) (λ f. f)

-- no key has the number
unfoldable pub NoneHas : AssociationNumber → List Key → Type 0
NoneHas an [] = Unit {0}
NoneHas an (k ∷ ks) = (k.an ≢ an) × NoneHas an ks

unfoldable pub AnsDiffer : List Key → Type 0
AnsDiffer [] = Unit {0}
AnsDiffer (k ∷ ks) = NoneHas k.an ks × AnsDiffer ks

pub ans-differ : (base : ℕ) (h : List Keying) → KeepsRules base h → AnsDiffer (received h)
unfolding NoneHas AnsDiffer
ans-differ base h kept =
    elim (shape base h kept) [
      | none r ↦ rw r tt
      | one l r last ↦ rw r (tt, tt)
      | two l o r last b ↦ rw r ((λ e. other-an l.an o.an b.apart (sym e), tt), (tt, tt))
    ]

none-under : (an : AssociationNumber) (ks : List Key) → NoneHas an ks → key_under an ks ≡ None
unfolding NoneHas
none-under an [] n = refl
none-under an (k ∷ ks) n = let f : (same_an k.an an) ≡ false = apart-an k.an an n.0 in
    rw f (none-under an ks n.1)

abbrev has_an : AssociationNumber → List Key → Bool
has_an an ks = list_any (λ k. same_an k.an an) ks

none-any : (an : AssociationNumber) (p : Key → Bool) (ks : List Key) → NoneHas an ks
    → has_an an (filter p ks) ≡ false
unfolding NoneHas
none-any an p [] n = refl
none-any an p (k ∷ ks) n =
    let f : (same_an k.an an) ≡ false = apart-an k.an an n.0 in
    by_test (p k) (λ t. rw (t, f) (none-any an p ks n.1)) (λ t. rw t (none-any an p ks n.1))

none-filter : (an : AssociationNumber) (p : Key → Bool) (ks : List Key) → NoneHas an ks
    → NoneHas an (filter p ks)
unfolding NoneHas
none-filter an p [] n = tt
none-filter an p (k ∷ ks) n = by_test (p k) (λ t. rw t (n.0, none-filter an p ks n.1))
    (λ t. rw t (none-filter an p ks n.1))

-- what is under a number where some keys are taken away
left-under : (an : AssociationNumber) (p : Key → Bool) (ks : List Key) → AnsDiffer ks
    → key_under an (filter (λ k. not (p k)) ks) ≡ cond (has_an an (filter p ks)) None
    (key_under an ks)
unfolding AnsDiffer
left-under an p [] d = refl
left-under an p (k ∷ ks) d =
    by_test (p k)
    (λ t. by_test (same_an k.an an)
    (λ e. let n = subst (λ v. NoneHas v ks) (same-an-equal k.an an e) d.0 in
    rw (t, e) (none-under an (filter (λ j. not (p j)) ks) (none-filter an (λ j. not (p j)) ks n)))
    (λ e. rw (t, e) (left-under an p ks d.1)))
    (λ t. by_test (same_an k.an an)
    (λ e. let n = subst (λ v. NoneHas v ks) (same-an-equal k.an an e) d.0 in let f =
    none-any an p ks n in rw (t, e, f) refl)
    (λ e. rw (t, e) (left-under an p ks d.1)))

-- ---- changes of slots

-- the slots after keys were removed, the first one first
removals : List Key → List Receiving → List Receiving
removals [] s = s
removals (k ∷ ks) s = removals ks (removed k.an ∷ s)

removed-standing : (an : AssociationNumber) (ks : List Key) (s : List Receiving)
    → standing_key (removals ks s) an ≡ cond (has_an an ks) None (standing_key s an)
unfolding removals
removed-standing an [] s = refl
removed-standing an (k ∷ ks) s =
    removed-standing an ks (removed k.an ∷ s)
    ∙ by_test (same_an k.an an) (λ e. by_test (has_an an ks) (λ f. rw (e, f) refl)
    (λ f. rw (e, f) refl))
    (λ e. by_test (has_an an ks) (λ f. rw (e, f) refl) (λ f. rw (e, f) refl))

-- The slots stand for keys: under each number is the SAK of the received key.
abbrev pub Stands : List Keying → List Receiving → Type 0
Stands h s = (an : AssociationNumber) → standing_key s an ≡ sak_under an (received h)

cond-sak : (b : Bool) (o : Option Key)
    → cond b None (option_map (λ (k : Key). k.sak) o) ≡ option_map (λ k. k.sak) (cond b None o)
cond-sak true o = refl
cond-sak false o = refl

-- taking away what an entry ends
ended-standing : (base : ℕ) (h : List Keying) (x : Keying) (s : List Receiving)
    (an : AssociationNumber)
    → KeepsRules base h → Stands h s
    → standing_key (removals (filter (ends x h) (received h)) s) an ≡ sak_under an
    (filter (λ k. not (ends x h k)) (received h))
ended-standing base h x s an kept stands =
    removed-standing an (filter (ends x h) (received h)) s
    ∙ ap (λ o. cond (has_an an (filter (ends x h) (received h))) None o) (stands an)
    ∙ cond-sak (has_an an (filter (ends x h) (received h))) (key_under an (received h))
    ∙ ap (option_map (λ (k : Key). k.sak))
    (sym (left-under an (ends x h) (received h) (ans-differ base h kept)))

stands-began : (h : List Keying) (e : ℕ) (s : List Receiving) → Stands h s
    → Stands (keyings.began e ∷ h) s
unfolding received
stands-began h e s stands an = stands an ∙ ap (sak_under an) (sym (all-left (received h)))
  where
    all-left : (ks : List Key) → filter (λ k. true) ks ≡ ks
    all-left [] = refl
    all-left (k ∷ ks) = ap (λ t. k ∷ t) (all-left ks)

pub stands-with_began : (b : Option Beginning) (h : List Keying) (s : List Receiving) → Stands h s
    → Stands (with_began b h) s
stands-with_began None h s stands = stands
stands-with_began (Some b) h s stands = stands-began h b.key.epoch s stands

stands-installed : (base : ℕ) (h : List Keying) (r : _) (k : Key) (s : List Receiving) → KeepsRules base h
    → Stands h s
    → Stands (keyings.installed r k ∷ h)
    (installed k.an k.sak ∷ removals (filter (ends (keyings.installed r k) h) (received h)) s)
unfolding received
stands-installed base h r k s kept stands an =
    by_test (same_an k.an an)
    (λ e. rw e refl)
    (λ e. rw e (ended-standing base h (keyings.installed r k) s an kept stands))

pub filter-all : (ks : List Key) → filter (λ k. true) ks ≡ ks
filter-all [] = refl
filter-all (k ∷ ks) = ap (λ t. k ∷ t) (filter-all ks)

stands-dropped : (base : ℕ) (h : List Keying) (s : List Receiving) → KeepsRules base h → Stands h s
    → Stands (keyings.ticked false ∷ h) (removals (received h) s)
unfolding received
stands-dropped base h s kept stands an =
    ap (λ ks. standing_key (removals ks s) an) (sym (filter-all (received h)))
    ∙ ended-standing base h (keyings.ticked false) s an kept stands

-- ---- the key that a tick retires is the one that it ends

has-any : (p : Key → Bool) (ks : List Key) (k : Key) → Has k ks → p k ≡ true → list_any p ks ≡ true
has-any p [] k has e = absurd has
has-any p (j ∷ ks) k (inl same) e = let f : p j ≡ true = ap p same ∙ e in rw f refl
has-any p (j ∷ ks) k (inr has) e = by_test (p j) (λ t. rw t refl) (λ t. rw t (has-any p ks k has e))

ended-two : (base : ℕ) (h : List Keying) (l o : Key) → received h ≡ l ∷ o ∷ []
    → ends (keyings.ticked true) h l ≡ false
    → filter (ends (keyings.ticked true) h) (received h) ≡ cond (ends (keyings.ticked true) h o)
    (o ∷ []) []
ended-two base h l o r on = rw r
    (by_test (ends (keyings.ticked true) h o) (λ t. rw (on, t) refl) (λ t. rw (on, t) refl))

retired-ended : (base : ℕ) (h : List Keying) → KeepsRules base h
    → filter (ends (keyings.ticked true) h) (received h) ≡ option_to_list (retired h)
retired-ended base h kept =
    elim (shape base h kept) [
      | none r ↦ let keys = latest-none h r in rw (r, keys.0) refl
      | one l r last ↦
          let keys = latest-one h l r last in
          let on = not-ended base h l kept last in
          by_test (is_retire_time_ago (clock h + 1) (begun_at h l.epoch))
          (λ t. rw (r, on, keys.0, t, keys.1) refl) (λ t. rw (r, on, keys.0, t) refl)
      | two l o r last b ↦
          let keys = latest-two h l o r last b.less in
          let on = not-ended base h l kept last in
          ended-two base h l o r on
          ∙ by_test (ends (keyings.ticked true) h o)
          (λ t. let by = retired-by h o.epoch (installs h) t in
          let same : by.later ≡ l.epoch =
          b.only by.later (ago-begun (clock h + 1) (begun_at h by.later) by.ago) by.less in
          let ago = subst (λ e. is_retire_time_ago (clock h + 1) (begun_at h e) ≡ true) same by.ago
          in
          rw (t, keys.0, ago, keys.1) refl)
          (λ t. by_test (is_retire_time_ago (clock h + 1) (begun_at h l.epoch))
          (λ ago. let there = received-installed h l (subst (λ ks. Has l ks) (sym r) (inl refl)) in
          let less : nat_lt o.epoch l.epoch ≡ true = lt-ltb o.epoch l.epoch b.less in
          let yes : retires h o.epoch l ≡ true = rw (less, ago) refl in
          let never = has-any (retires h o.epoch) (installs h) l there yes in
          absurd (cc (never, t)))
          (λ ago. rw (t, keys.0, ago) refl))
    ]

stands-retired : (base : ℕ) (h : List Keying) (s : List Receiving) → KeepsRules base h → Stands h s
    → Stands (keyings.ticked true ∷ h) (removals (option_to_list (retired h)) s)
unfolding received
stands-retired base h s kept stands an =
    ap (λ ks. standing_key (removals ks s) an) (sym (retired-ended base h kept))
    ∙ ended-standing base h (keyings.ticked true) s an kept stands

-- ---- by the changes that are shown

-- what a change does to the slots
abbrev pub slot_of : Change → List Receiving → List Receiving
slot_of (changes.Dropped k) s = removed k.key.an ∷ s
slot_of (changes.Retired k) s = removed k.key.an ∷ s
slot_of (changes.Began k cause) s = s
slot_of (changes.Installed k) s = installed k.key.an k.key.sak ∷ s
slot_of (changes.Untaken id why) s = s

unfoldable pub slots_by : List Change → List Receiving → List Receiving
slots_by [] s = s
slots_by (c ∷ cs) s = slots_by cs (slot_of c s)

pub slots-append : (a b : List Change) (s : List Receiving)
    → slots_by (a ++ b) s ≡ slots_by b (slots_by a s)
unfolding slots_by
slots-append [] b s = refl
slots-append (c ∷ a) b s = slots-append a b (slot_of c s)

dropped-slots : (h : List Keying) (ks : List Key) (s : List Receiving)
    → slots_by (map (λ k. changes.Dropped (held h k)) ks) s ≡ removals ks s
unfolding slots_by removals
dropped-slots h [] s = refl
dropped-slots h (k ∷ ks) s = dropped-slots h ks (removed k.an ∷ s)

retired-slots : (h : List Keying) (o : Option Key) (s : List Receiving)
    → slots_by (option_to_list (option_map (λ k. changes.Retired (held h k)) o)) s ≡ removals
    (option_to_list o) s
unfolding slots_by removals
retired-slots h None s = refl
retired-slots h (Some k) s = refl

pub begun-slots : (h : List Keying) (o : Option Beginning) (s : List Receiving)
    → slots_by (beginning h o).changes s ≡ s
unfolding slots_by
begun-slots h None s = refl
begun-slots h (Some b) s = refl

installing-slots : (h : List Keying) (r : _) (k : Key) (s : List Receiving)
    → slots_by (map (λ j. changes.Dropped (held h j))
    (filter (ends (keyings.installed r k) h) (received h)) ++ changes.Installed
    (shown false k) ∷ []) s
    ≡ installed k.an k.sak ∷ removals (filter (ends (keyings.installed r k) h) (received h)) s
unfolding slots_by
installing-slots h r k s =
    slots-append (map (λ j. changes.Dropped (held h j))
    (filter (ends (keyings.installed r k) h) (received h)))
    (changes.Installed (shown false k) ∷ []) s
    ∙ ap (λ t. installed k.an k.sak ∷ t)
    (dropped-slots h (filter (ends (keyings.installed r k) h) (received h)) s)

-- an install, if there is one
pub stands-with_key : (base : ℕ) (h : List Keying) (r : _) (key : Option Key) (s : List Receiving)
    → KeepsRules base h → Stands h s
    → Stands (with_key r key h) (slots_by (install_changes h r key) s)
unfolding slots_by
stands-with_key base h r None s kept stands = stands
stands-with_key base h r (Some k) s kept stands =
    subst (λ t. Stands (keyings.installed r k ∷ h) t) (sym (installing-slots h r k s))
    (stands-installed base h r k s kept stands)

pub stands-taken : (base : ℕ) (h : List Keying) (o : Option Offer)
    (answer : Option (Result Key Why)) (s : List Receiving) → KeepsRules base h → Stands h s
    → ((o ≡ None) → answer ≡ None) → Stands (with_key None (key_taken answer) h)
    (slots_by (take_changes h o answer) s)
unfolding slots_by
stands-taken base h None None s kept stands both = stands
stands-taken base h None (Some a) s kept stands both = let e = both refl in absurd (cc (e))
stands-taken base h (Some o) None s kept stands both = stands
stands-taken base h (Some o) (Some (Ok k)) s kept stands both =
    subst (λ t. Stands (keyings.installed None k ∷ h) t) (sym (installing-slots h None k s))
    (stands-installed base h None k s kept stands)
stands-taken base h (Some o) (Some (Err why)) s kept stands both = stands

-- what a tick ends
pub stands-ended : (base : ℕ) (h : List Keying) (server : _) (s : List Receiving) → KeepsRules base h
    → Stands h s
    → Stands (keyings.ticked (is_some server) ∷ h) (slots_by (ended h server) s)
stands-ended base h None s kept stands =
    subst (λ t. Stands (keyings.ticked false ∷ h) t) (sym (dropped-slots h (received h) s))
    (stands-dropped base h s kept stands)
stands-ended base h (Some server) s kept stands =
    subst (λ t. Stands (keyings.ticked true ∷ h) t) (sym (retired-slots h (retired h) s))
    (stands-retired base h s kept stands)

-- after the end of a life nothing stands
pub stands-none : (h : List Keying) (s : List Receiving) → Stands h s
    → Stands [] (slots_by (map (λ k. changes.Dropped (held h k)) (received h)) s)
unfolding received
stands-none h s stands an =
    ap (λ t. standing_key t an) (dropped-slots h (received h) s)
    ∙ removed-standing an (received h) s
    ∙ ap (λ o. cond (has_an an (received h)) None o) (stands an) ∙ go (received h)
  where
    go : (ks : List Key) → cond (has_an an ks) None (sak_under an ks) ≡ None
    go [] = refl
    go (k ∷ ks) = by_test (same_an k.an an) (λ e. rw e refl) (λ e. rw e (go ks))

none-holds : (ks : List Key) (an : AssociationNumber) (k : Key) → an ≡ k.an → NoneHas an ks
    → Has k ks → ⊥
unfolding NoneHas
none-holds [] an k e n has = has
none-holds (j ∷ ks) an k e n (inl same) = n.0 (ap (λ (w : Key). w.an) same ∙ sym e)
none-holds (j ∷ ks) an k e n (inr has) = none-holds ks an k e n.1 has

-- a received key is the one under its number
pub under-is : (ks : List Key) (k : Key) → AnsDiffer ks → Has k ks → key_under k.an ks ≡ Some k
unfolding AnsDiffer
under-is [] k d has = absurd has
under-is (j ∷ ks) k d (inl same) =
    let e : (same_an j.an k.an) ≡ true = ap (same_an j.an) (sym (ap (λ (w : Key). w.an) same))
    ∙ same-an-itself j.an in
    rw e (ap Some same)
under-is (j ∷ ks) k d (inr has) =
    by_test (same_an j.an k.an)
    (λ t. absurd (none-holds ks j.an k (same-an-equal j.an k.an t) d.0 has))
    (λ t. rw t (under-is ks k d.1 has))
