-- What the facts of an event move of what transmits, they tell the current word.
use Rattle.std.proofs.Common.{◌≡◌, ◌+◌, ℕ, Bool, true, false, ◌&&◌, ◌==◌, nat_lt, if◌then◌else◌, List, [], ◌∷◌, ◌++◌, map, reverse}
use Rattle.std.proofs.Common.{Option, Some, None, option_map, option_and_then, refl, sym, ap, ◌∙◌, subst}
use Rattle.std.proofs.lemmas.List.{reverse-append, append_assoc}
use Rattle.lan_base.specs.declared.association_number.AssociationNumber.{AssociationNumber}
use Rattle.lan_base.specs.AssociationNumbers.{same_an}
use Rattle.lan_base.specs.declared.frame.UserFrame.{UserFrame}
use Rattle.sak_exchange.specs.declared.held_key.Key.{Key}
use Rattle.sak_exchange.specs.Held.{transmitting}
use Rattle.sak_exchange.proofs.Public.{by_test, other-an, same-an-equal}
use Rattle.association_slots.specs.declared.view.Current.{Current}
use Rattle.association_slots.specs.Views.{absent_after, present_at}
use Rattle.lan_core.specs.declared.fact.Fact.{Fact}
use Rattle.lan_core.specs.declared.fact.Fact.TheVariants as facts
use Rattle.lan_core.specs.declared.settings.Settings.{Settings}
use Rattle.lan_core.specs.Run.{Run, Happening}
use Rattle.lan_core.specs.Lives.{Life, life, keys_in, transmitting_at}
use Rattle.lan_core.specs.Order.{is_event_of, most_installs}
use Rattle.lan_core.specs.Legal.{IsStep, IsStepped}
use Rattle.group_safety.specs.Transmitting.{Sending, Carried, sends, silent_after, newest, names}
use Rattle.group_safety.specs.Transmitting.{installed, may_begin, begun, ended, follow}
use Rattle.group_safety.specs.Transmitting.{CarriesIn, CarriesAt}
use Rattle.worker_races.specs.merge.Table.{IsTold, an_in, an_of, current_of, flipped, is_an, words_of}
use Rattle.worker_races.specs.merge.Table as table
use Rattle.worker_races.proofs.weaving.EventTold.{event-told}

swapped : (a b : AssociationNumber) → same_an a b ≡ same_an b a
swapped a b = by_test (same_an a b)
    (λ y. subst (λ c. same_an a c ≡ same_an c a) (same-an-equal a b y) refl)
    (λ n. by_test (same_an b a) (λ y. absurd (other-an a b n (sym (same-an-equal b a y)))) (λ m. n ∙ sym m))

names-is : (p : Sending) (an : AssociationNumber) → names p an ≡ is_an an (an_in p)
names-is p an = by_test p.present (λ y. rw y (swapped p.an an)) (λ n. rw n refl)

reverse-cons : (w : Current) (ws ps : List Current) → reverse (w ∷ ws) ++ ps ≡ reverse ws ++ (w ∷ ps)
reverse-cons w ws ps = ap (λ l. l ++ ps) (reverse-append (w ∷ []) ws) ∙ append_assoc (reverse ws) (w ∷ []) ps

-- ---- fact by fact

-- the points after some words, newest first, are those words on the ones before
abbrev Adds : List Current → Carried → Carried → Type 0
Adds words k j = map current_of j.points ≡ reverse words ++ map current_of k.points

abbrev Tells : ℕ → List Fact → Carried → Carried → Type 0
Tells s shown k j = Adds (words_of s (newest k.points).epoch (an_in (newest k.points)) shown) k j

module _ (s : ℕ) (later : List Fact) (j : Carried) (rest : (c : Carried) → follow s later c ≡ Some j → Tells s later c j) where
  installed-tells : (k : Carried) (b : Bool)
      → option_and_then (follow s later) (if b then installed k else Some k) ≡ Some j → Tells s later k j
  installed-tells k false is = rest k is
  installed-tells k true is = go (nat_lt k.installs most_installs) is
    where
      go : (c : Bool) → option_and_then (follow s later) (if c then Some (record k { installs = k.installs + 1 }) else None) ≡ Some j
          → Tells s later k j
      go true is = rest (record k { installs = k.installs + 1 }) is
      go false is = absurd (cc is)

  began-tells : (an : AssociationNumber) (epoch : ℕ) (k : Carried) (b : Bool)
      → option_and_then (follow s later) (if b then begun an epoch k else Some k) ≡ Some j
      → Adds (if b then present_at an epoch ∷ words_of s epoch (Some an) later
      else words_of s (newest k.points).epoch (an_in (newest k.points)) later) k j
  began-tells an epoch k false is = rest k is
  began-tells an epoch k true is = go (may_begin an epoch (newest k.points) k.installs) is
    where
      go : (c : Bool)
          → option_and_then (follow s later) (if c then Some (record k { points = sends an epoch ∷ k.points }) else None) ≡ Some j
          → Adds (present_at an epoch ∷ words_of s epoch (Some an) later) k j
      go true is = rest (record k { points = sends an epoch ∷ k.points }) is
          ∙ sym (reverse-cons (present_at an epoch) (words_of s epoch (Some an) later) (map current_of k.points))
      go false is = absurd (cc is)

  dropped-tells : (an : AssociationNumber) (k : Carried) (b : Bool)
      → option_and_then (follow s later) (if b then Some (ended an k) else Some k) ≡ Some j
      → Adds (if b && is_an an (an_in (newest k.points))
      then absent_after (newest k.points).epoch ∷ words_of s (newest k.points).epoch None later
      else words_of s (newest k.points).epoch (an_in (newest k.points)) later) k j
  dropped-tells an k false is = rest k is
  dropped-tells an k true is =
      subst (λ c. Words c) (names-is (newest k.points) an) (go (names (newest k.points) an) is)
    where
      Words : Bool → Type 0
      Words c = Adds (if c then absent_after (newest k.points).epoch ∷ words_of s (newest k.points).epoch None later
          else words_of s (newest k.points).epoch (an_in (newest k.points)) later) k j

      go : (c : Bool)
          → follow s later (if c then record k { points = silent_after (newest k.points).epoch ∷ k.points } else k) ≡ Some j
          → Words c
      go true is = rest (record k { points = silent_after (newest k.points).epoch ∷ k.points }) is
          ∙ sym (reverse-cons (absent_after (newest k.points).epoch) (words_of s (newest k.points).epoch None later)
          (map current_of k.points))
      go false is = rest k is

pub facts-tell : (s : ℕ) (shown : List Fact) (k j : Carried) → follow s shown k ≡ Some j → Tells s shown k j
facts-tell s [] k j is = let same : k ≡ j = cc is in ap (λ (c : Carried). map current_of c.points) (sym same)
facts-tell s (facts.Dropped t id an ∷ later) k j is =
    dropped-tells s later j (λ c follows. facts-tell s later c j follows) an k (t == s) is
facts-tell s (facts.Began t id an epoch cause ∷ later) k j is =
    began-tells s later j (λ c follows. facts-tell s later c j follows) an epoch k (t == s) is
facts-tell s (facts.Installed t id an epoch sak ∷ later) k j is =
    installed-tells s later j (λ c follows. facts-tell s later c j follows) k (t == s) is
facts-tell s (_ ∷ later) k j is = facts-tell s later k j is

-- ---- of a step

first-is : (o : Option Key) → option_map (λ (q : AssociationNumber × ℕ). q.0) (option_map (λ (key : Key). (key.an, key.epoch)) o) ≡ an_of o
first-is None = refl
first-is (Some k) = refl

-- the AN of what is carried is that of the key that transmits
pub an-carried : (settings : Settings) (s : ℕ) (r : Run) (k : Carried) → CarriesAt settings s r k
    → an_in (newest k.points) ≡ an_of (transmitting_at settings s r)
an-carried settings s r k carries = go (life settings s r) carries
  where
    go : (o : Option Life) → CarriesIn o k → an_in (newest k.points) ≡ an_of (option_and_then (λ l. transmitting (keys_in l)) o)
    go None is = ap (λ (c : Carried). an_in (newest c.points)) is
    go (Some l) is = ap (option_map (λ (q : AssociationNumber × ℕ). q.0)) is.shows ∙ first-is (transmitting (keys_in l))

-- at most two words
flipped-few : (top : ℕ) (before after : Option Key) (words : List Current) → IsTold top before after words
    → reverse words ≡ flipped words
flipped-few top before after words told = elim told [
  | table.stays same is ↦ subst (λ ws. reverse ws ≡ flipped ws) (sym is) refl
  | table.ends k was none is ↦ subst (λ ws. reverse ws ≡ flipped ws) (sym is) refl
  | table.begins b sends low is ↦ subst (λ ws. reverse ws ≡ flipped ws) (sym is) refl
  | table.changes k b was sends low is ↦ subst (λ ws. reverse ws ≡ flipped ws) (sym is) refl
]

pub step-tells : (settings : Settings) (users : List UserFrame) (s : ℕ) (r : Run) (x : Happening) (k j : Carried)
    → IsStepped settings users r → IsStep settings users x r → is_event_of s x.event ≡ true → CarriesAt settings s r k
    → follow s x.facts k ≡ Some j
    → map current_of j.points
    ≡ flipped (words_of s (newest k.points).epoch (an_of (transmitting_at settings s r)) x.facts) ++ map current_of k.points
step-tells settings users s r x k j stepped step own carries follows =
    let top : ℕ = (newest k.points).epoch in
    let an = an-carried settings s r k carries in
    facts-tell s x.facts k j follows
    ∙ ap (λ ws. ws ++ map current_of k.points)
    (ap (λ o. reverse (words_of s top o x.facts)) an
    ∙ flipped-few top (transmitting_at settings s r) (transmitting_at settings s (x ∷ r)) _
    (event-told settings s r x top users stepped step own))
