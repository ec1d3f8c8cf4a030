-- In a history in which each entry gives a key that the run installed no pair breaks one key under each
-- identifier, nor one identifier of each key.
use Rattle.std.proofs.Common.{◌≡◌, refl, sym, ap, ◌∙◌, subst, inl, inr, ℕ, List, [], ◌∷◌, map}
use Rattle.std.proofs.Common.{Bool, true, false, cond, Option, Some, None}
use Rattle.std.specs.Prelude.{◌==◌, option_map}
use Rattle.std.proofs.lemmas.Bool.{eq-eqb, true≢false}
use Rattle.lan_base.specs.AssociationNumbers.{same_an}
use Rattle.lan_base.specs.Differing.{AllDiffer}
use Rattle.lan_base.specs.declared.frame.UserFrame.{UserFrame}
use Rattle.lan_base.specs.declared.key_id.KeyId.{KeyId}
use Rattle.aes_block.specs.Secrets.{secret_octets}
use Rattle.known_keys.specs.declared.giving.Giving.TheVariants.{Key, Without}
use Rattle.known_keys.specs.declared.named.Named.{Named}
use Rattle.known_keys.specs.History.{Entry, Gave, Set, Showed, Strange, keys}
use Rattle.known_keys.specs.Numbered.{number_in}
use Rattle.known_keys.specs.OneKey.{BreaksKey, BreaksName, BreaksOneKey, given, given_or, same_id, same_named, turned}
use Rattle.peer_lists.proofs.Public.{same_mi-itself}
use Rattle.sak_exchange.proofs.Public.{same-an-itself}
use Rattle.lan_core.specs.declared.settings.Settings.{Settings}
use Rattle.lan_core.specs.Run.{Run}
use Rattle.lan_core.specs.Ledgers.{Install, installs}
use Rattle.group_safety.specs.Once.{makes, OneKey}
use Rattle.group_safety.proofs.Public.{In, contains-in, in-contains, known, run-drawn, run-one_key, same-place, some-same}
use Rattle.clean_audits.proofs.Gifts.{IsSound}
use Rattle.clean_audits.proofs.Told.{AreOurs, number-stays, same-number}

-- ---- what a packet gives

pub record IsGivenOf (r : Run) (told : List Entry) (it : KeyId × Named) : Type 0 where
  pub install : Install
  pub there : In install (installs r)
  pub id : install.id ≡ it.0
  pub an : install.an ≡ it.1.an
  pub number : number_in (keys told) install.sak ≡ Some it.1.key

given-later : (r : Run) (told : List Entry) (entry : Entry) (it : KeyId × Named) → IsGivenOf r told it
    → IsGivenOf r (entry ∷ told) it
given-later r told entry it g = record {
  install = g.install;
  there = g.there;
  id = g.id;
  an = g.an;
  number = number-stays told entry g.install.sak it.1.key g.number;
}

given-of : (r : Run) (told : List Entry) (packet : ℕ) (it : KeyId × Named) → AreOurs r told
    → given told packet ≡ Some it → IsGivenOf r told it
given-of r [] packet it ours e = absurd (cc e)
given-of r (Gave n nanos group id an (Key offset sak) ∷ told) packet it ours e =
    go (number_in (keys entry-told) sak) refl e
    (λ f. given-later r told (Gave n nanos group id an (Key offset sak)) it
    (given-of r told packet it ours.1 f))
  where
    entry-told : List Entry
    entry-told = Gave n nanos group id an (Key offset sak) ∷ told

    here : (m : ℕ) → number_in (keys entry-told) sak ≡ Some m → (id, record { an = an; key = m }) ≡ it
        → IsGivenOf r entry-told it
    here m is same = subst (IsGivenOf r entry-told) same (record {
      install = ours.0.0;
      there = ours.0.1;
      id = ours.0.2;
      an = ours.0.3;
      number = ap (number_in (keys entry-told)) ours.0.4 ∙ is;
    })

    go : (o : Option ℕ) → number_in (keys entry-told) sak ≡ o
        → given_or (option_map (λ key. (n, (id, record { an = an; key = key }))) o) packet (given told packet)
        ≡ Some it
        → (given told packet ≡ Some it → IsGivenOf r entry-told it) → IsGivenOf r entry-told it
    go None is f older = older f
    go (Some m) is f older = pick (n == packet) f
      where
        pick : (b : Bool) → cond b (Some (id, record { an = an; key = m })) (given told packet) ≡ Some it
            → IsGivenOf r entry-told it
        pick true g = here m is (some-same g)
        pick false g = older g
given-of r (Gave n nanos group id an (Without why) ∷ told) packet it ours e = elim ours.0 [ ]
given-of r (Showed n nanos group id an ∷ told) packet it ours e =
    given-later r told (Showed n nanos group id an) it (given-of r told packet it ours.1 e)
given-of r (Set sender an sak ∷ told) packet it ours e = elim ours.0 [ ]
given-of r (Strange sci ∷ told) packet it ours e = elim ours.0 [ ]

-- ---- of two keys of the run

-- one SAK has one identifier
one-id : (settings : Settings) (users : List UserFrame) (r : Run) (i j : Install)
    → IsSound settings users r → In i (installs r) → In j (installs r) → i.sak ≡ j.sak → i.id ≡ j.id
one-id settings users r i j sound hi hj same =
    let k = known settings users r sound.stepped sound.unforged in
    let a = run-drawn settings users r k sound.fresh i (in-contains (installs r) i hi) in
    let b = run-drawn settings users r k sound.fresh j (in-contains (installs r) j hj) in
    let octets : Install → List ℕ = λ m. secret_octets m.sak in
    let differ : AllDiffer (map octets (makes r)) = subst AllDiffer (sym k.plain.drawn) sound.fresh.saks in
    let one : a.0 ≡ b.0 = same-place octets (makes r) differ a.0 b.0
    (contains-in (makes r) a.0 a.1.made_there) (contains-in (makes r) b.0 b.1.made_there)
    (ap secret_octets (a.1.sak ∙ same ∙ sym b.1.sak)) in
    sym a.1.id ∙ ap (λ (m : Install). m.id) one ∙ b.1.id

-- ---- no pair breaks

named-same : (a b : Named) → a.an ≡ b.an → a.key ≡ b.key → same_named a b ≡ true
named-same a b an key =
    rw (ap (same_an a.an) (sym an) ∙ same-an-itself a.an, eq-eqb a.key b.key key) refl

id-same : (a b : KeyId) → a ≡ b → same_id a b ≡ true
id-same a b same =
    subst (λ c. same_id a c ≡ true) same
    (rw (same_mi-itself a.server, eq-eqb a.number a.number refl) refl)

no-name : (settings : Settings) (users : List UserFrame) (r : Run) (told : List Entry) (a b : ℕ)
    → IsSound settings users r → AreOurs r told → BreaksName told a b → ⊥
no-name settings users r told a b sound ours broken =
    let first = given-of r told a (broken.key, broken.one) ours broken.first in
    let second = given-of r told b (broken.key, broken.other) ours broken.second in
    let one : OneKey r = run-one_key settings users r
    (known settings users r sound.stepped sound.unforged) sound.fresh in
    let same = one first.install second.install (in-contains (installs r) first.install first.there)
    (in-contains (installs r) second.install second.there) (first.id ∙ sym second.id) in
    let number : broken.one.key ≡ broken.other.key = some-same (sym first.number
    ∙ ap (number_in (keys told)) same.0 ∙ second.number) in
    true≢false (sym (named-same broken.one broken.other (sym first.an ∙ same.1 ∙ second.an) number)
    ∙ broken.apart)

key-of : (o : Option (KeyId × Named)) (it : ℕ × KeyId) → option_map turned o ≡ Some it
    → (kv : KeyId × Named) × (o ≡ Some kv) × (kv.1.key ≡ it.0) × (kv.0 ≡ it.1)
key-of None it e = absurd (cc e)
key-of (Some kv) it e =
    let same : turned kv ≡ it = some-same e in
    (kv, refl, ap (λ (w : ℕ × KeyId). w.0) same, ap (λ (w : ℕ × KeyId). w.1) same)

no-key : (settings : Settings) (users : List UserFrame) (r : Run) (told : List Entry) (a b : ℕ)
    → IsSound settings users r → AreOurs r told → BreaksKey told a b → ⊥
no-key settings users r told a b sound ours broken =
    let x = key-of (given told a) (broken.key, broken.one) broken.first in
    let y = key-of (given told b) (broken.key, broken.other) broken.second in
    let first = given-of r told a x.0 ours x.1 in
    let second = given-of r told b y.0 ours y.1 in
    let sak = same-number 1 (keys told) first.install.sak second.install.sak broken.key
    (first.number ∙ ap (λ n. Some n) x.2) (second.number ∙ ap (λ n. Some n) y.2) in
    let ids = one-id settings users r first.install second.install sound first.there second.there sak in
    true≢false (sym (id-same broken.one broken.other
    (sym x.3 ∙ sym first.id ∙ ids ∙ second.id ∙ y.3)) ∙ broken.apart)

pub none-breaks : (settings : Settings) (users : List UserFrame) (r : Run) (told : List Entry) (a b : ℕ)
    → IsSound settings users r → AreOurs r told → BreaksOneKey told a b → ⊥
none-breaks settings users r told a b sound ours (inl name) = no-name settings users r told a b sound ours name
none-breaks settings users r told a b sound ours (inr key) = no-key settings users r told a b sound ours key
