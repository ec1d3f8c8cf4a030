-- A key that begins, where the station leads or follows.
use Rattle.std.proofs.Common.{◌≡◌, ℕ, ◌-◌, Bool, true, false, cond, not, ◌&&◌, List, [], ◌∷◌, Option, Some, None, is_some, is_none, min, nat_le, refl, ap, sym, ◌∙◌, arith}
use Rattle.std.proofs.lemmas.Bool.{eq-eqb, and_parts}
use Rattle.std.specs.Prelude.{◌==◌}
use Rattle.std.specs.Option.{option_map, option_map_or, option_and_then}
use Rattle.lan_base.specs.declared.address.Mi.{Mi}
use Rattle.lan_base.specs.declared.key_id.KeyId.{KeyId}
use Rattle.lan_base.specs.Timers.{life_time}
use Rattle.mkpdu_codec.specs.declared.key_use.Uses.{Uses}
use Rattle.sak_exchange.specs.declared.change.Cause.{Cause}
use Rattle.sak_exchange.specs.declared.change.Cause.TheVariants.{Flag}
use Rattle.sak_exchange.specs.declared.latest.Latest.{Latest}
use Rattle.sak_exchange.specs.declared.report.Report.{Report}
use Rattle.sak_exchange.specs.declared.held_key.Key.{Key}
use Rattle.sak_exchange.specs.Histories.{Keying, began, clock, last_roster, last_made_at, has_begun}
use Rattle.sak_exchange.specs.Held.{latest, old, held, shown}
use Rattle.sak_exchange.specs.Reports.{transmits}
use Rattle.sak_exchange.specs.Beginning.{Beginning, is_latest_made, lead_cause, leads, follows}
use Rattle.sak_exchange.specs.Outcomes.{beginning, leading, following}
use Rattle.sak_exchange.specs.Standing.{State, StandsFor, kept_of, most_ticks}
use Rattle.sak_exchange.specs.inside.States.{lead_cause_now, leads_now, follows_now, beginning_changes, beginning_state}
use Rattle.sak_exchange.proofs.Cases.{by_test, by_option, not-true}
use Rattle.sak_exchange.proofs.Entries.{keys-began}
use Rattle.sak_exchange.proofs.Stays.{old-begun}
use Rattle.sak_exchange.proofs.Ticks.{made-long-ago}

-- a beginning as the code tells it
abbrev pub told : List Keying → Beginning → Latest × Cause
told h b = (kept_of false h b.key, b.cause)

cause-told : (base : ℕ) (own : Mi) (s : State) (h : List Keying) (live : List Report) (k : Key) → StandsFor base own false s h → lead_cause_now s live k.id ≡ lead_cause h live k
cause-told base own s h live k t =
    let ago = ap (λ (o : Option ℕ). option_map_or (nat_le life_time) o false) t.since_made ∙ made-long-ago (clock h) (last_made_at h) in rw ago refl

mapped : (h : List Keying) (b : Bool) (o : Option Cause) (k : Key)
    → cond b (option_map (λ (c : Cause). (kept_of false h k, c)) o) None ≡ option_map (told h) (cond b (option_map (λ (c : Cause). let x : Beginning = record { key = k; cause = c } in x) o) None)
mapped h true None k = refl
mapped h true (Some c) k = refl
mapped h false o k = refl

leads-is : (h : List Keying) (live : List Report) (roster : Option (List Mi)) (cause : KeyId → Option Cause) (made : Bool) (o : Option Key)
    → ((k : Key) → o ≡ Some k → cause k.id ≡ lead_cause h live k) → ((k : Key) → o ≡ Some k → is_some roster ≡ made)
    → option_and_then (λ (l : Latest). cond (is_some roster && not l.held.begun) (option_map (λ c. (l, c)) (cause l.held.key.id)) None) (option_map (kept_of false h) o)
    ≡ option_map (told h) (option_and_then (λ k. cond (made && not (has_begun h k.epoch)) (option_map (λ c. record { key = k; cause = c }) (lead_cause h live k)) None) o)
leads-is h live roster cause made None same by = refl
leads-is h live roster cause made (Some k) same by = rw (same k refl, by k refl) (mapped h (made && not (has_begun h k.epoch)) (lead_cause h live k) k)

made-is : (roster : Option (List Mi)) (o : Option Key) (k : Key) → o ≡ Some k → is_some roster ≡ option_map_or (λ j. is_some roster) o false
made-is roster o k is = rw is refl

pub leads-told : (base : ℕ) (own : Mi) (s : State) (h : List Keying) (live : List Report) → StandsFor base own false s h → leads_now s live ≡ option_map (told h) (leads h live)
leads-told base own s h live t =
    rw (t.latest, t.roster) (leads-is h live (last_roster h) (lead_cause_now s live) (is_latest_made h) (latest h) (λ k is. cause-told base own s h live k t) (λ k is. made-is (last_roster h) (latest h) k is))

none-mapped : {A B : Type 0} (f : A → B) (o : Option A) → is_none (option_map f o) ≡ is_none o
none-mapped f None = refl
none-mapped f (Some a) = refl

-- an option that is tested
pub none-tested : {A : Type 0} (o : Option A) (b : Bool) → is_some o ≡ not b → b ≡ is_none o
none-tested None true is = refl
none-tested None false is = absurd (cc (is))
none-tested (Some a) true is = absurd (cc (is))
none-tested (Some a) false is = refl

-- a station leads with none exactly where the code finds none
pub none-led : (base : ℕ) (own : Mi) (s : State) (h : List Keying) (live : List Report) → StandsFor base own false s h → is_none (leads_now s live) ≡ is_none (leads h live)
none-led base own s h live t = ap is_none (leads-told base own s h live t) ∙ none-mapped (told h) (leads h live)

followed : (h : List Keying) (b : Bool) (k : Key)
    → cond b (Some (kept_of false h k, Flag)) None ≡ option_map (told h) (cond b (Some (let x : Beginning = record { key = k; cause = Flag } in x)) None)
followed h true k = refl
followed h false k = refl

follows-is : (h : List Keying) (u : Uses) (o : Option Key)
    → option_and_then (λ (l : Latest). cond (not l.held.begun && transmits l.held.key.id u) (Some (l, Flag)) None) (option_map (kept_of false h) o)
    ≡ option_map (told h) (option_and_then (λ k. cond (not (has_begun h k.epoch) && transmits k.id u) (Some (record { key = k; cause = Flag })) None) o)
follows-is h u None = refl
follows-is h u (Some k) = followed h (not (has_begun h k.epoch) && transmits k.id u) k

pub follows-told : (base : ℕ) (own : Mi) (s : State) (h : List Keying) (u : Uses) → StandsFor base own false s h → follows_now s u ≡ option_map (told h) (follows h u)
follows-told base own s h u t = rw t.latest (follows-is h u (latest h))

-- ---- what begins is the latest key, which has not

pub record IsDue (h : List Keying) (b : Beginning) : Type 0 where
  pub latest : latest h ≡ Some b.key
  pub unbegun : has_begun h b.key.epoch ≡ false

due-of : (h : List Keying) (k : Key) (c : Option Cause) (b : Beginning) → latest h ≡ Some k → has_begun h k.epoch ≡ false → option_map (λ (d : Cause). let x : Beginning = record { key = k; cause = d } in x) c ≡ Some b → IsDue h b
due-of h k None b is unbegun found = absurd (cc (found))
due-of h k (Some d) b is unbegun found =
    let same : k ≡ b.key = let both = ap (option_map (λ (x : Beginning). x.key)) found in cc (both) in record { latest = is ∙ ap Some same; unbegun = rw (← same) unbegun }

due-if : (h : List Keying) (k : Key) (t : Bool) (c : Option Cause) (b : Beginning) → latest h ≡ Some k → (t ≡ true → has_begun h k.epoch ≡ false)
    → cond t (option_map (λ (d : Cause). let x : Beginning = record { key = k; cause = d } in x) c) None ≡ Some b → IsDue h b
due-if h k true c b is unbegun found = due-of h k c b is (unbegun refl) found
due-if h k false c b is unbegun found = absurd (cc (found))

pub leads-due : (h : List Keying) (live : List Report) (b : Beginning) → leads h live ≡ Some b → IsDue h b
leads-due h live b found =
    by_option (latest h)
    (λ none. let never = rw none at found in absurd (cc (never)))
    (λ k is. due-if h k (is_latest_made h && not (has_begun h k.epoch)) (lead_cause h live k) b is
    (λ t. not-true (has_begun h k.epoch) (and_parts (is_latest_made h) (not (has_begun h k.epoch)) t).1)
    (let e = sym (ap (option_and_then (λ j. cond (is_latest_made h && not (has_begun h j.epoch)) (option_map (λ (d : Cause). let x : Beginning = record { key = j; cause = d } in x) (lead_cause h live j)) None)) is) ∙ found in e))

pub follows-due : (h : List Keying) (u : Uses) (b : Beginning) → follows h u ≡ Some b → IsDue h b
follows-due h u b found =
    by_option (latest h)
    (λ none. let never = rw none at found in absurd (cc (never)))
    (λ k is. due-if h k (not (has_begun h k.epoch) && transmits k.id u) (Some Flag) b is
    (λ t. not-true (has_begun h k.epoch) (and_parts (not (has_begun h k.epoch)) (transmits k.id u) t).0)
    (let e = sym (ap (option_and_then (λ j. cond (not (has_begun h j.epoch) && transmits j.id u) (Some (let x : Beginning = record { key = j; cause = Flag } in x)) None)) is) ∙ found in e))

-- ---- the state after a beginning

pub changes-begun : (h : List Keying) (o : Option Beginning) → beginning_changes (option_map (told h) o) ≡ (beginning h o).changes
changes-begun h None = refl
changes-begun h (Some b) = refl

kept-begun : (h : List Keying) (k : Key) → (let l : Latest = record { held = shown true k; since_begun = 0 } in l) ≡ kept_of false (began k.epoch ∷ h) k
kept-begun h k =
    let this : (k.epoch == k.epoch) ≡ true = eq-eqb k.epoch k.epoch refl in
    let zero_ticks : 0 ≡ min (clock h - clock h) most_ticks = omega arith in
    rw this (ap (λ (n : ℕ). let l : Latest = record { held = shown true k; since_begun = n } in l) zero_ticks)

-- a key that had begun is held as it was
held-begun : (h : List Keying) (e : ℕ) (o : Key) → has_begun h o.epoch ≡ true → held h o ≡ held (began e ∷ h) o
held-begun h e o begun = by_test (e == o.epoch) (λ t. rw (t, begun) refl) (λ t. rw t refl)

old-held : (h : List Keying) (e : ℕ) (o : Option Key) → ((k : Key) → o ≡ Some k → has_begun h k.epoch ≡ true) → option_map (held h) o ≡ option_map (held (began e ∷ h)) o
old-held h e None begun = refl
old-held h e (Some k) begun = ap Some (held-begun h e k (begun k refl))

stands-begun : (base : ℕ) (own : Mi) (s : State) (h : List Keying) (k : Key) → latest h ≡ Some k → has_begun h k.epoch ≡ false → StandsFor base own false s h
    → StandsFor base own false (record s { latest = Some (let l : Latest = record { held = shown true k; since_begun = 0 } in l) }) (began k.epoch ∷ h)
stands-begun base own s h k is unbegun t =
    let keys = keys-began base h k.epoch t.kept in
    let this : (k.epoch == k.epoch) ≡ true = eq-eqb k.epoch k.epoch refl in
    record {
      kept = (rw (is, this, unbegun) refl, t.kept);
      numbered = t.numbered;
      owner = t.owner;
      latest = ap Some (kept-begun h k) ∙ ap (option_map (kept_of false (began k.epoch ∷ h))) (sym (keys.latest ∙ is));
      former = t.former ∙ old-held h k.epoch (old h) (λ o held. old-begun base h o t.kept held) ∙ ap (option_map (held (began k.epoch ∷ h))) (sym keys.old);
      roster = t.roster;
      epochs = t.epochs;
      numbers = t.numbers;
      made = t.made;
      since_made = t.since_made;
      last_an = t.last_an;
    }

pub stands-beginning : (base : ℕ) (own : Mi) (s : State) (h : List Keying) (o : Option Beginning) → ((b : Beginning) → o ≡ Some b → IsDue h b) → StandsFor base own false s h → StandsFor base own false (beginning_state s (option_map (told h) o)) (beginning h o).past
stands-beginning base own s h None due t = t
stands-beginning base own s h (Some b) due t = let d = due b refl in stands-begun base own s h b.key d.latest d.unbegun t

pub stands-led : (base : ℕ) (own : Mi) (s : State) (h : List Keying) (live : List Report) → StandsFor base own false s h → StandsFor base own false (beginning_state s (leads_now s live)) (leading h live).past
stands-led base own s h live t = rw (leads-told base own s h live t) (stands-beginning base own s h (leads h live) (leads-due h live) t)

pub stands-followed : (base : ℕ) (own : Mi) (s : State) (h : List Keying) (u : Uses) → StandsFor base own false s h → StandsFor base own false (beginning_state s (follows_now s u)) (following h u).past
stands-followed base own s h u t = rw (follows-told base own s h u t) (stands-beginning base own s h (follows h u) (follows-due h u) t)

pub changes-led : (base : ℕ) (own : Mi) (s : State) (h : List Keying) (live : List Report) → StandsFor base own false s h → beginning_changes (leads_now s live) ≡ (leading h live).changes
changes-led base own s h live t = ap beginning_changes (leads-told base own s h live t) ∙ changes-begun h (leads h live)

pub changes-followed : (base : ℕ) (own : Mi) (s : State) (h : List Keying) (u : Uses) → StandsFor base own false s h → beginning_changes (follows_now s u) ≡ (following h u).changes
changes-followed base own s h u t = ap beginning_changes (follows-told base own s h u t) ∙ changes-begun h (follows h u)

pub no-beginning : (o : Option (Latest × Cause)) → beginning_changes o ≡ [] → is_some o ≡ false
no-beginning None is = refl
no-beginning (Some b) is = absurd (cc (is))
