-- The counts of ticks, a tick later; and what a tick with or without an elected server leaves.
use Rattle.std.proofs.Common.{option_to_list, ◌≡◌, ℕ, ◌+◌, ◌-◌, ◌≤◌, Bool, true, false, cond, ◌&&◌, List, [], ◌∷◌, ◌++◌, Option, Some, None, is_some, min, refl, ap, sym, ◌∙◌, subst, arith, nat_le}
use Rattle.std.proofs.lemmas.Bool.{eqb-true, eqb-false, eq-eqb, ne_eqb, leb-true, leb-false, le-leb, lt-leb}
use Rattle.std.specs.Prelude.{◌==◌}
use Rattle.std.specs.Option.{option_map, option_map_or}
use Rattle.lan_base.specs.declared.address.Mi.{Mi}
use Rattle.lan_base.specs.Timers.{life_time, retire_time}
use Rattle.sak_exchange.specs.declared.change.Change.TheVariants.{Dropped}
use Rattle.sak_exchange.specs.declared.held_key.HeldKey.{HeldKey}
use Rattle.sak_exchange.specs.declared.latest.Latest.{Latest}
use Rattle.sak_exchange.specs.declared.held_key.Key.{Key}
use Rattle.sak_exchange.specs.Histories.{Keying, ticked, installed, began, clock, last_made_at, begun_at, has_begun}
use Rattle.sak_exchange.specs.Held.{is_retire_time_ago, latest, old, KeepsRules, held}
use Rattle.sak_exchange.specs.Beginning.{is_long_ago, retired}
use Rattle.sak_exchange.specs.Outcomes.{dropping}
use Rattle.sak_exchange.specs.Standing.{State, StandsFor, ticks_since, ticks_since_any, most_ticks, kept_of}
use Rattle.sak_exchange.specs.inside.States.{counted, aged, ticked_now, retires_now, retired_now, after_retiring, drops_now}
use Rattle.sak_exchange.proofs.Cases.{by_test}
use Rattle.sak_exchange.proofs.Shape.{none, one, two, shape, latest-none, latest-one, latest-two}
use Rattle.sak_exchange.proofs.Entries.{is_over, keys-ticked, keys-dropped}

-- ---- counting on

begun-before : (h : List Keying) (e at : ℕ) → begun_at h e ≡ Some at → at ≤ clock h
begun-before [] e at is = absurd (cc (is))
begun-before (ticked s ∷ h) e at is = let before = begun-before h e at is in omega arith
begun-before (installed r k ∷ h) e at is = begun-before h e at is
begun-before (began f ∷ h) e at is =
    by_test (f == e) (λ t. let now = rw t at is in let same : clock h ≡ at = cc (now) in omega arith) (λ t. let earlier = rw t at is in begun-before h e at earlier)

made-before : (h : List Keying) (at : ℕ) → last_made_at h ≡ Some at → at ≤ clock h
made-before [] at is = absurd (cc (is))
made-before (ticked s ∷ h) at is = let before = made-before h at is in omega arith
made-before (installed (Some r) k ∷ h) at is = let same : clock h ≡ at = cc (is) in omega arith
made-before (installed None k ∷ h) at is = made-before h at is
made-before (began e ∷ h) at is = made-before h at is

counts-on : (now at : ℕ) → at ≤ now → counted (ticks_since now at) ≡ ticks_since (now + 1) at
counts-on now at before = omega arith

counts-on-any : (now : ℕ) (o : Option ℕ) → ((at : ℕ) → o ≡ Some at → at ≤ now) → cond (is_some o) (counted (ticks_since_any now o)) 0 ≡ ticks_since_any (now + 1) o
counts-on-any now None before = refl
counts-on-any now (Some at) before = counts-on now at (before at refl)

aged-key : (h : List Keying) (k : Key) → aged (kept_of false h k) ≡ kept_of true h k
aged-key h k =
    let count : cond (has_begun h k.epoch) (counted (ticks_since_any (clock h) (begun_at h k.epoch))) 0 ≡ ticks_since_any (clock h + 1) (begun_at h k.epoch) = counts-on-any (clock h) (begun_at h k.epoch) (begun-before h k.epoch) in
    ap (λ (n : ℕ). let l : Latest = record { held = held h k; since_begun = n } in l) count

aged-latest : (h : List Keying) (o : Option Key) → option_map aged (option_map (kept_of false h) o) ≡ option_map (kept_of true h) o
aged-latest h None = refl
aged-latest h (Some k) = ap Some (aged-key h k)

made-counts-on : (now : ℕ) (o : Option ℕ) → ((at : ℕ) → o ≡ Some at → at ≤ now) → option_map counted (option_map (ticks_since now) o) ≡ option_map (ticks_since (now + 1)) o
made-counts-on now None before = refl
made-counts-on now (Some at) before = ap Some (counts-on now at (before at refl))

pub stands-ticked : (base : ℕ) (own : Mi) (s : State) (h : List Keying) → StandsFor base own false s h → StandsFor base own true (ticked_now s) h
stands-ticked base own s h t = record {
  kept = t.kept;
  numbered = t.numbered;
  owner = t.owner;
  latest = ap (option_map aged) t.latest ∙ aged-latest h (latest h);
  former = t.former;
  roster = t.roster;
  epochs = t.epochs;
  numbers = t.numbers;
  made = t.made;
  since_made = ap (option_map counted) t.since_made ∙ made-counts-on (clock h) (last_made_at h) (made-before h);
  last_an = t.last_an;
}

-- ---- retiring

-- the count at which the old key goes is that of the history
ago-is : (now : ℕ) (o : Option ℕ) → (is_some o && ticks_since_any now o == retire_time) ≡ is_retire_time_ago now o
ago-is now None = refl
ago-is now (Some at) =
    by_test (at + retire_time == now)
    (λ t. let same = eqb-true (at + retire_time) now t in rw t (eq-eqb (min (now - at) most_ticks) retire_time (omega arith)))
    (λ t. let other = eqb-false (at + retire_time) now t in rw t (ne_eqb (min (now - at) most_ticks) retire_time (λ e. other (omega arith))))

over-is : (h : List Keying) (o : Option Key) → option_map_or (λ (l : Latest). l.held.begun && l.since_begun == retire_time) (option_map (kept_of true h) o) false ≡ option_map_or (λ k. is_retire_time_ago (clock h + 1) (begun_at h k.epoch)) o false
over-is h None = refl
over-is h (Some k) = ago-is (clock h + 1) (begun_at h k.epoch)

pub retires-told : (base : ℕ) (own : Mi) (s : State) (h : List Keying) → StandsFor base own true s h → retires_now s ≡ is_over h
retires-told base own s h t = ap (λ (o : Option Latest). option_map_or (λ l. l.held.begun && l.since_begun == retire_time) o false) t.latest ∙ over-is h (latest h)

cond-held : (h : List Keying) (b : Bool) (o : Option Key) → cond b (option_map (held h) o) None ≡ option_map (held h) (cond b o None)
cond-held h true o = refl
cond-held h false o = refl

pub retired-told : (base : ℕ) (own : Mi) (s : State) (h : List Keying) → StandsFor base own true s h → retired_now s ≡ option_map (held h) (retired h)
retired-told base own s h t = rw (retires-told base own s h t, t.former) (cond-held h (is_over h) (old h))

left-held : (h : List Keying) (b : Bool) (o : Option Key) → cond b None (option_map (held h) o) ≡ option_map (held h) (cond b None o)
left-held h true o = refl
left-held h false o = refl

pub stands-retired : (base : ℕ) (own : Mi) (s : State) (h : List Keying) → StandsFor base own true s h → StandsFor base own false (after_retiring s) (ticked true ∷ h)
stands-retired base own s h t =
    let keys = keys-ticked base h t.kept in record {
      kept = t.kept;
      numbered = t.numbered;
      owner = t.owner;
      latest = t.latest ∙ ap (option_map (kept_of true h)) (sym keys.latest);
      former = rw (retires-told base own s h t, t.former) (left-held h (is_over h) (old h)) ∙ ap (option_map (held h)) (sym keys.old);
      roster = t.roster;
      epochs = t.epochs;
      numbers = t.numbers;
      made = t.made;
      since_made = t.since_made;
      last_an = t.last_an;
    }

pub retires-none : (b : Bool) (o : Option HeldKey) → cond b o None ≡ None → o ≡ cond b None o
retires-none true o is = is
retires-none false o is = refl

pub retires-some : (b : Bool) (o : Option HeldKey) (k : HeldKey) → cond b o None ≡ Some k → None ≡ cond b None o
retires-some true o k is = refl
retires-some false o k is = absurd (cc (is))

-- ---- dropping all

shown-dropped : (base : ℕ) (h : List Keying) → KeepsRules base h
    → (option_to_list (option_map (λ (l : Latest). Dropped l.held) (option_map (kept_of true h) (latest h))) ++ option_to_list (option_map Dropped (option_map (held h) (old h)))) ≡ (dropping h).changes
shown-dropped base h kept =
    elim (shape base h kept) [
      | none r ↦ let keys = latest-none h r in rw (keys.0, keys.1, r) refl
      | one l r last ↦ let keys = latest-one h l r last in rw (keys.0, keys.1, r) refl
      | two l o r last b ↦ let keys = latest-two h l o r last b.less in rw (keys.0, keys.1, r) refl
    ]

pub drops-told : (base : ℕ) (own : Mi) (s : State) (h : List Keying) → StandsFor base own true s h → drops_now s ≡ (dropping h).changes
drops-told base own s h t = rw (t.latest, t.former) (shown-dropped base h t.kept)

pub stands-dropped : (base : ℕ) (own : Mi) (s : State) (h : List Keying) → StandsFor base own true s h → StandsFor base own false (record s { latest = None; former = None }) (ticked false ∷ h)
stands-dropped base own s h t =
    let keys = keys-dropped h in record {
      kept = t.kept;
      numbered = t.numbered;
      owner = t.owner;
      latest = ap (option_map (kept_of false (ticked false ∷ h))) (sym keys.latest);
      former = ap (option_map (held (ticked false ∷ h))) (sym keys.old);
      roster = t.roster;
      epochs = t.epochs;
      numbers = t.numbers;
      made = t.made;
      since_made = t.since_made;
      last_an = t.last_an;
    }

-- equal states stand for the same
pub stands-same : {base : ℕ} {own : Mi} {pending : Bool} {h : List Keying} (s t : State) → s ≡ t → StandsFor base own pending s h → StandsFor base own pending t h
stands-same {base} {own} {pending} {h} s t same stands = subst (λ (u : State). StandsFor base own pending u h) same stands

-- ---- the life time

pub long-ago : (now at : ℕ) → nat_le life_time (ticks_since now at) ≡ nat_le (at + life_time) now
long-ago now at =
    by_test (nat_le (at + life_time) now)
    (λ t. let is = leb-true (at + life_time) now t in le-leb life_time (min (now - at) most_ticks) (omega arith) ∙ sym t)
    (λ t. let is = leb-false (at + life_time) now t in lt-leb life_time (min (now - at) most_ticks) (omega arith) ∙ sym t)

pub made-long-ago : (now : ℕ) (o : Option ℕ) → option_map_or (nat_le life_time) (option_map (ticks_since now) o) false ≡ is_long_ago now o
made-long-ago now None = refl
made-long-ago now (Some at) = long-ago now at

pub begun-long-ago : (now : ℕ) (o : Option ℕ) → (is_some o && nat_le life_time (ticks_since_any now o)) ≡ is_long_ago now o
begun-long-ago now None = refl
begun-long-ago now (Some at) = long-ago now at
