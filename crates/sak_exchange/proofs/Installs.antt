-- An install: what it ends, and the state after it.
use Rattle.std.proofs.Common.{◌≡◌, ℕ, ◌+◌, ◌-◌, Bool, true, false, cond, not, ◌||◌, List, [], ◌∷◌, ◌++◌, Option, Some, None, is_some, min, refl, ap, sym, ◌∙◌, arith}
use Rattle.std.specs.Prelude.{Result, Ok, Err, nat_lt}
use Rattle.std.proofs.lemmas.Bool.{ltb-true}
use Rattle.std.specs.Option.{option_map}
use Rattle.std.specs.BTreeMap.{is_at}
use Rattle.lan_base.specs.declared.address.Mi.{Mi}
use Rattle.lan_base.specs.declared.association_number.AssociationNumber.{AssociationNumber}
use Rattle.lan_base.specs.AssociationNumbers.{same_an}
use Rattle.lan_base.specs.Identifiers.{same_mi, order}
use Rattle.aes_block.specs.declared.secret.Secret.{Secret}
use Rattle.sak_exchange.specs.declared.change.Change.TheVariants.{Installed}
use Rattle.sak_exchange.specs.declared.change.Why.{Why}
use Rattle.sak_exchange.specs.declared.change.Why.TheVariants.{NotListed, NotServer, Seen, Retiring, Suite, Offset}
use Rattle.sak_exchange.specs.declared.latest.Latest.{Latest}
use Rattle.sak_exchange.specs.declared.offer.Offer.{Offer}
use Rattle.sak_exchange.specs.declared.held_key.Key.{Key}
use Rattle.sak_exchange.specs.Histories.{Keying, installed, clock, last_made_at, install_count, made_count, begun_at, has_begun}
use Rattle.sak_exchange.specs.Held.{latest, old, allows, KeepsRules, shown, held}
use Rattle.sak_exchange.specs.Taking.{greatest_of, provided, provided_new, offered_id, is_supported, leaves_none, offered_key, unwrapped_key, judged, taken}
use Rattle.sak_exchange.specs.Making.{next_epoch}
use Rattle.sak_exchange.specs.Outcomes.{installing}
use Rattle.sak_exchange.specs.Lives.{apart, IsNumbered, IsOver}
use Rattle.sak_exchange.specs.Standing.{State, StandsFor, ticks_since, kept_of, number_in, most_ticks}
use Rattle.sak_exchange.specs.inside.States.{apart_held, drops_latest, drops_former, dropped, install_changes_now, number_after, judged_now, IsInstalled}
use Rattle.sak_exchange.proofs.Cases.{by_test}
use Rattle.sak_exchange.proofs.Epochs.{begun-upto}
use Rattle.sak_exchange.proofs.Shape.{none, one, two, shape, latest-none, latest-one, latest-two}
use Rattle.sak_exchange.proofs.Entries.{current, keys-installed}
use Rattle.sak_exchange.proofs.Members.{same-equal, place-is}
use Rattle.sak_exchange.proofs.Currents.{allows-told, current-told}

-- ---- what the install changes

changes-are : (base : ℕ) (h : List Keying) (r : Option (List Mi)) (k : Key) → KeepsRules base h
    → ((dropped (drops_latest k.an (option_map (kept_of false h) (latest h))) ++ dropped (drops_former k.an (option_map (held h) (old h)))) ++ Installed (shown false k) ∷ []) ≡ (installing h r k).changes
changes-are base h r k kept =
    elim (shape base h kept) [
      | none is ↦ let keys = latest-none h is in rw (keys.0, keys.1, is) refl
      | one l is last ↦ let keys = latest-one h l is last in
          rw (keys.0, keys.1, is) (by_test (same_an k.an l.an || not (has_begun h l.epoch)) (λ t. rw t refl) (λ t. rw t refl))
      | two l o is last b ↦ let keys = latest-two h l o is last b.less in
          rw (keys.0, keys.1, is, b.started) (by_test (same_an k.an l.an || not (has_begun h l.epoch))
          (λ t. by_test (same_an k.an o.an) (λ u. rw (t, u, b.started) refl) (λ u. rw (t, u) refl))
          (λ t. by_test (same_an k.an o.an) (λ u. rw (t, u, b.started) refl) (λ u. rw (t, u) refl)))
    ]

pub changes-installed : (base : ℕ) (own : Mi) (s : State) (h : List Keying) (r : Option (List Mi)) (k : Key) → StandsFor base own false s h → install_changes_now s k ≡ (installing h r k).changes
changes-installed base own s h r k t = rw (t.latest, t.former) (changes-are base h r k t.kept)

-- ---- the state after it

is-absent : (o : Option ℕ) → (is_some o ≡ true → ⊥) → o ≡ None
is-absent None never = refl
is-absent (Some at) never = absurd (never refl)

kept-fresh : (base : ℕ) (h : List Keying) (r : Option (List Mi)) (k : Key) → KeepsRules base h → k.epoch ≡ (base + install_count h) + 1
    → (let l : Latest = record { held = shown false k; since_begun = 0 } in l) ≡ kept_of false (installed r k ∷ h) k
kept-fresh base h r k kept next =
    let unbegun : begun_at h k.epoch ≡ None = is-absent (begun_at h k.epoch) (λ b. let most = begun-upto base h k.epoch kept b in omega arith) in
    rw unbegun refl

apart-held : (h : List Keying) (a : AssociationNumber) (o : Option Key) → apart_held a (option_map (held h) o) ≡ option_map (held h) (apart a o)
apart-held h a None = refl
apart-held h a (Some k) = by_test (same_an a k.an) (λ t. rw t refl) (λ t. rw t refl)

made-more : (h : List Keying) (r : Option (List Mi)) (k : Key) → cond (is_some r) (made_count h + 1) (made_count h) ≡ made_count (installed r k ∷ h)
made-more h None k = refl
made-more h (Some ms) k = refl

made-now : (h : List Keying) (r : Option (List Mi)) (k : Key) → cond (is_some r) (Some 0) (option_map (ticks_since (clock h)) (last_made_at h)) ≡ option_map (ticks_since (clock h)) (last_made_at (installed r k ∷ h))
made-now h None k = refl
made-now h (Some ms) k = let zero_ticks : 0 ≡ min (clock h - clock h) most_ticks = omega arith in ap Some zero_ticks

number-is : (es : List (Mi × ℕ)) (h : List Keying) (r : Option (List Mi)) (k : Key) (q : Mi) → ((s : Mi) → number_in es s ≡ greatest_of s h) → number_after es k.id q ≡ greatest_of q (installed r k ∷ h)
number-is es h r k q is =
    by_test (same_mi k.id.server q)
    (λ t. let same = same-equal k.id.server q t in
    let place : is_at (order k.id.server) q ≡ true = place-is k.id.server q ∙ t in
    let before : number_in es k.id.server ≡ greatest_of q h = is k.id.server ∙ ap (λ (m : Mi). greatest_of m h) same in
    rw (place, t, before) refl)
    (λ t. let place : is_at (order k.id.server) q ≡ false = place-is k.id.server q ∙ t in rw (place, t) (is q))

pub stands-installed : (base : ℕ) (own : Mi) (s t : State) (h : List Keying) (r : Option (List Mi)) (k : Key) → IsInstalled s k r t → KeepsRules base (installed r k ∷ h) → IsNumbered own (installed r k ∷ h)
    → StandsFor base own false s h → StandsFor base own false t (installing h r k).past
stands-installed base own s t h r k i kept numbered x =
    let keys = keys-installed base h r k kept in
    record {
      kept = kept;
      numbered = numbered;
      owner = i.own ∙ x.owner;
      latest = i.latest ∙ ap Some (kept-fresh base h r k x.kept kept.0) ∙ ap (option_map (kept_of false (installed r k ∷ h))) (sym keys.latest);
      former = i.former ∙ ap (apart_held k.an) (current-told base own false s h x) ∙ apart-held h k.an (current h) ∙ ap (option_map (held (installed r k ∷ h))) (sym keys.old);
      roster = i.roster;
      epochs = let now = i.epochs in let before = x.epochs in omega arith;
      numbers = λ q. i.numbers q ∙ number-is s.numbers h r k q x.numbers;
      made = i.made ∙ ap (λ (n : ℕ). cond (is_some r) (n + 1) n) x.made ∙ made-more h r k;
      since_made = i.since_made ∙ ap (λ (o : Option ℕ). cond (is_some r) (Some 0) o) x.since_made ∙ made-now h r k;
      last_an = i.last_an;
    }

-- ---- a key that is taken

pub judged-told : (base : ℕ) (own : Mi) (s : State) (h : List Keying) (o : Offer) (sak : Option Secret) → StandsFor base own false s h → judged_now s o sak ≡ taken base h o sak
judged-told base own s h o sak t = rw (t.numbers o.server, allows-told base own s h t, t.epochs) refl

-- what is known of a key that is taken
pub record IsKeyOfOffer (kept : Option ℕ) (allowed : Bool) (epoch : ℕ) (o : Offer) (k : Key) : Type 0 where
  pub id : k.id ≡ offered_id o
  pub over : IsOver kept o.given.number
  pub may : allowed ≡ true
  pub next : k.epoch ≡ epoch

provided-ok : (b : Bool) (why : Why) (rest : Result Key Why) (k : Key) → provided b why rest ≡ Ok k → (b ≡ true) × (rest ≡ Ok k)
provided-ok true why rest k is = (refl, is)
provided-ok false why rest k is = absurd (cc (is))

new-ok : (kept : Option ℕ) (number : ℕ) (rest : Result Key Why) (k : Key) → provided_new kept number rest ≡ Ok k → IsOver kept number × (rest ≡ Ok k)
new-ok None number rest k is = (tt, is)
new-ok (Some n) number rest k is = let both = provided-ok (nat_lt n number) (Seen n) rest k is in (ltb-true n number both.0, both.1)

key-ok : (epoch : ℕ) (o : Offer) (sak : Option Secret) (k : Key) → unwrapped_key epoch o sak ≡ Ok k → (k.id ≡ offered_id o) × (k.epoch ≡ epoch)
key-ok epoch o None k is = absurd (cc (is))
key-ok epoch o (Some x) k is = let same : Ok (offered_key epoch o x) ≡ Ok k = is in let key : offered_key epoch o x ≡ k = cc (same) in (rw (← key) refl, rw (← key) refl)

pub judged-ok : (kept : Option ℕ) (allowed : Bool) (epoch : ℕ) (o : Offer) (sak : Option Secret) (k : Key) → judged kept allowed epoch o sak ≡ Ok k → IsKeyOfOffer kept allowed epoch o k
judged-ok kept allowed epoch o sak k is =
    let a = provided-ok o.listed NotListed _ k is in
    let b = provided-ok o.elected NotServer _ k a.1 in
    let c = new-ok kept o.given.number _ k b.1 in
    let d = provided-ok allowed Retiring _ k c.1 in
    let e = provided-ok (is_supported o.given.key) Suite _ k d.1 in
    let f = provided-ok (leaves_none o.given.offset) Offset _ k e.1 in
    let g = key-ok epoch o sak k f.1 in
    record { id = g.0; over = c.0; may = d.0; next = g.1 }

-- the key that the code installs, in its history
pub record Takes (base : ℕ) (own : Mi) (h : List Keying) (o : Offer) (sak : Option Secret) (key : Key) : Type 0 where
  pub is : taken base h o sak ≡ Ok key
  pub kept : KeepsRules base (installed None key ∷ h)
  pub numbered : IsNumbered own (installed None key ∷ h)

pub takes : (base : ℕ) (own : Mi) (s : State) (h : List Keying) (o : Offer) (sak : Option Secret) (key : Key) → StandsFor base own false s h → judged_now s o sak ≡ Ok key → Takes base own h o sak key
takes base own s h o sak key t is =
    let found = sym (judged-told base own s h o sak t) ∙ is in
    let known = judged-ok (greatest_of o.server h) (allows h) (next_epoch base h) o sak key found in
    record { is = found; kept = (known.next, known.may, t.kept); numbered = (rw known.id known.over, t.numbered) }

pub refuses : (base : ℕ) (own : Mi) (s : State) (h : List Keying) (o : Offer) (sak : Option Secret) (why : Why) → StandsFor base own false s h → judged_now s o sak ≡ Err why → taken base h o sak ≡ Err why
refuses base own s h o sak why t is = sym (judged-told base own s h o sak t) ∙ is
