-- Whether a key is made, and which.
use Rattle.std.proofs.Common.{◌≡◌, ℕ, Bool, true, false, cond, not, ◌&&◌, ◌||◌, List, [], ◌∷◌, Option, Some, None, is_some, is_none, nat_le, refl, ap, sym, ◌∙◌, subst}
use Rattle.std.proofs.lemmas.Bool.{and_parts}
use Rattle.std.specs.List.{list_any}
use Rattle.std.specs.Option.{option_map, option_map_or}
use Rattle.lan_base.specs.declared.address.Mi.{Mi}
use Rattle.lan_base.specs.declared.association_number.AssociationNumber.{AssociationNumber}
use Rattle.lan_base.specs.declared.association_number.AssociationNumber.TheVariants.{An0}
use Rattle.lan_base.specs.AssociationNumbers.{same_an, behind}
use Rattle.lan_base.specs.Timers.{life_time}
use Rattle.aes_block.specs.declared.secret.Secret.{Secret}
use Rattle.sak_exchange.specs.declared.due.Seen.{Seen}
use Rattle.sak_exchange.specs.declared.due.Rekey.{Rekey}
use Rattle.sak_exchange.specs.declared.latest.Latest.{Latest}
use Rattle.sak_exchange.specs.declared.report.Report.{Report}
use Rattle.sak_exchange.specs.declared.held_key.Key.{Key}
use Rattle.sak_exchange.specs.Histories.{Keying, clock, last_key, last_roster, last_made_at, begun_at, has_begun}
use Rattle.sak_exchange.specs.Held.{latest, old, allows, held}
use Rattle.sak_exchange.specs.Reports.{reports}
use Rattle.sak_exchange.specs.Beginning.{is_long_ago, is_latest_made}
use Rattle.sak_exchange.specs.Making.{lists, is_in_roster, is_spent, is_none_of_own, is_one_left_out, is_latest_spent, is_one_behind, is_key_due, is_rested, makes, is_used, next_an, made_key, made_roster}
use Rattle.sak_exchange.specs.Lives.{both}
use Rattle.sak_exchange.specs.Outcomes.{making}
use Rattle.sak_exchange.specs.Standing.{State, StandsFor, ticks_since, kept_of}
use Rattle.sak_exchange.specs.inside.States.{is_latest_made_now, is_in_roster_now, is_one_left_out_now, is_latest_spent_now, is_one_behind_now, is_key_due_now, is_rested_now, makes_now, has_an, is_used_now, next_an_now, made_key_now, install_changes_now, IsInstalled}
use Rattle.sak_exchange.proofs.Both.{received-both}
use Rattle.sak_exchange.proofs.Currents.{latest-told, allows-told}
use Rattle.sak_exchange.proofs.Ticks.{long-ago, begun-long-ago}
use Rattle.sak_exchange.proofs.Installs.{changes-installed, stands-installed}

made-told : (base : ℕ) (own : Mi) (s : State) (h : List Keying) → StandsFor base own false s h → is_latest_made_now s ≡ is_latest_made h
made-told base own s h t = latest-told base own false s h (λ l. is_some s.roster) (λ k. is_some (last_roster h)) t (λ k. ap is_some t.roster)

pub listed-told : (base : ℕ) (own : Mi) (s : State) (h : List Keying) (m : Mi) → StandsFor base own false s h → is_in_roster_now s m ≡ is_in_roster h m
listed-told base own s h m t = latest-told base own false s h (λ l. lists s.roster m) (λ k. lists (last_roster h) m) t (λ k. ap (λ (r : Option (List Mi)). lists r m) t.roster)

any-same : (f g : Report → Bool) (rs : List Report) → ((r : Report) → f r ≡ g r) → list_any f rs ≡ list_any g rs
any-same f g [] same = refl
any-same f g (r ∷ rs) same = ap (λ (b : Bool). b || list_any f rs) (same r) ∙ ap (λ (b : Bool). g r || b) (any-same f g rs same)

out-told : (base : ℕ) (own : Mi) (s : State) (h : List Keying) (live : List Report) → StandsFor base own false s h → is_one_left_out_now s live ≡ is_one_left_out h live
out-told base own s h live t = any-same (λ r. not (is_in_roster_now s r.mi)) (λ r. not (is_in_roster h r.mi)) live (λ r. ap not (listed-told base own s h r.mi t))

spent-told : (base : ℕ) (own : Mi) (s : State) (h : List Keying) (live : List Report) (seen : Seen) (limit : Rekey) → StandsFor base own false s h → is_latest_spent_now s live seen limit ≡ is_latest_spent h live seen limit
spent-told base own s h live seen limit t =
    latest-told base own false s h (λ l. l.held.begun && is_spent live seen limit l.held.key.id) (λ k. has_begun h k.epoch && is_spent live seen limit k.id) t (λ k. refl)

behind-told : (base : ℕ) (own : Mi) (s : State) (h : List Keying) (live : List Report) → StandsFor base own false s h → is_one_behind_now s live ≡ is_one_behind h live
behind-told base own s h live t =
    latest-told base own false s h (λ l. (l.held.begun && nat_le life_time l.since_begun) && list_any (λ r. not (reports l.held.key.id r.uses)) live)
    (λ k. is_long_ago (clock h) (begun_at h k.epoch) && list_any (λ r. not (reports k.id r.uses)) live) t
    (λ k. ap (λ (b : Bool). b && list_any (λ r. not (reports k.id r.uses)) live) (begun-long-ago (clock h) (begun_at h k.epoch)))

rested-is : (now : ℕ) (o : Option ℕ) → option_map_or (nat_le life_time) (option_map (ticks_since now) o) true ≡ (is_none o || is_long_ago now o)
rested-is now None = refl
rested-is now (Some at) = long-ago now at

rested-told : (base : ℕ) (own : Mi) (s : State) (h : List Keying) (potential : Bool) → StandsFor base own false s h → is_rested_now s potential ≡ is_rested h potential
rested-told base own s h potential t =
    ap (λ (o : Option ℕ). not potential || option_map_or (nat_le life_time) o true) t.since_made ∙ ap (λ (b : Bool). not potential || b) (rested-is (clock h) (last_made_at h))

due-told : (base : ℕ) (own : Mi) (s : State) (h : List Keying) (live : List Report) (seen : Seen) (limit : Rekey) → StandsFor base own false s h → is_key_due_now s live seen limit ≡ is_key_due h live seen limit
due-told base own s h live seen limit t =
    ap (λ (b : Bool). not b || (is_one_left_out_now s live || (is_latest_spent_now s live seen limit || is_one_behind_now s live))) (made-told base own s h t)
    ∙ ap (λ (b : Bool). is_none_of_own h || (b || (is_latest_spent_now s live seen limit || is_one_behind_now s live))) (out-told base own s h live t)
    ∙ ap (λ (b : Bool). is_none_of_own h || (is_one_left_out h live || (b || is_one_behind_now s live))) (spent-told base own s h live seen limit t)
    ∙ ap (λ (b : Bool). is_none_of_own h || (is_one_left_out h live || (is_latest_spent h live seen limit || b))) (behind-told base own s h live t)

pub makes-told : (base : ℕ) (own : Mi) (s : State) (h : List Keying) (live : List Report) (potential : Bool) (seen : Seen) (limit : Rekey) → StandsFor base own false s h → makes_now s live potential seen limit ≡ makes h live potential seen limit
makes-told base own s h live potential seen limit t =
    ap (λ (b : Bool). b && (is_key_due_now s live seen limit && is_rested_now s potential)) (allows-told base own s h t)
    ∙ ap (λ (b : Bool). allows h && (b && is_rested_now s potential)) (due-told base own s h live seen limit t)
    ∙ ap (λ (b : Bool). allows h && (is_key_due h live seen limit && b)) (rested-told base own s h potential t)

-- ---- the association number

or-none : (b : Bool) → b ≡ (b || false)
or-none true = refl
or-none false = refl

used-both : (h : List Keying) (l o : Option Key) (a : AssociationNumber)
    → (has_an a (option_map (λ (x : Latest). x.held) (option_map (kept_of false h) l)) || has_an a (option_map (held h) o)) ≡ list_any (λ k. same_an k.an a) (both l o)
used-both h None None a = refl
used-both h None (Some o) a = or-none (same_an o.an a)
used-both h (Some l) None a = refl
used-both h (Some l) (Some o) a = ap (λ (b : Bool). same_an l.an a || b) (or-none (same_an o.an a))

used-told : (base : ℕ) (own : Mi) (s : State) (h : List Keying) (a : AssociationNumber) → StandsFor base own false s h → is_used_now s a ≡ is_used h a
used-told base own s h a t =
    rw (t.latest, t.former) (used-both h (latest h) (old h) a ∙ ap (λ (ks : List Key). list_any (λ k. same_an k.an a) ks) (sym (received-both base h t.kept)))

-- the next number, given which are used and the last one
next_from : (AssociationNumber → Bool) → Option AssociationNumber → AssociationNumber
next_from used None = An0
next_from used (Some a) = cond (used (behind a)) (cond (used (behind (behind a))) (behind (behind (behind a))) (behind (behind a))) (behind a)

next-of-state : (s : State) (o : Option AssociationNumber) → s.last_an ≡ o → next_an_now s ≡ next_from (is_used_now s) o
unfolding next_from
next-of-state s None is = rw (next_an_now, is) refl
next-of-state s (Some a) is = rw (next_an_now, is) refl

next-of-history : (h : List Keying) (o : Option Key) → last_key h ≡ o → next_an h ≡ next_from (is_used h) (option_map (λ k. k.an) o)
unfolding next_from
next-of-history h None is = rw (next_an, is) refl
next-of-history h (Some k) is = rw (next_an, is) refl

next-same : (f g : AssociationNumber → Bool) (o : Option AssociationNumber) → ((a : AssociationNumber) → f a ≡ g a) → next_from f o ≡ next_from g o
unfolding next_from
next-same f g None same = refl
next-same f g (Some a) same = rw (same (behind a), same (behind (behind a))) refl

next-told : (base : ℕ) (own : Mi) (s : State) (h : List Keying) → StandsFor base own false s h → next_an_now s ≡ next_an h
next-told base own s h t =
    let an : Option AssociationNumber = option_map (λ k. k.an) (last_key h) in
    next-of-state s an t.last_an ∙ next-same (is_used_now s) (is_used h) an (λ a. used-told base own s h a t) ∙ sym (next-of-history h (last_key h) refl)

-- ---- the key that is made

pub key-told : (base : ℕ) (own : Mi) (s : State) (h : List Keying) (conf : Bool) (sak : Secret) → StandsFor base own false s h → made_key_now s conf sak ≡ made_key base own h conf sak
key-told base own s h conf sak t = rw (next-told base own s h t, t.owner, t.made, t.epochs) refl

pub changes-made : (base : ℕ) (own : Mi) (s : State) (h : List Keying) (live : List Report) (conf : Bool) (sak : Secret) → StandsFor base own false s h
    → install_changes_now s (made_key_now s conf sak) ≡ (making base own h live conf sak).changes
changes-made base own s h live conf sak t =
    ap (λ (k : Key). install_changes_now s k) (key-told base own s h conf sak t) ∙ changes-installed base own s h (Some (made_roster own live)) (made_key base own h conf sak) t

pub stands-made : (base : ℕ) (own : Mi) (s t : State) (h : List Keying) (live : List Report) (conf : Bool) (sak : Secret) (due : Bool) → StandsFor base own false s h → (allows h && due) ≡ true
    → IsInstalled s (made_key_now s conf sak) (Some (made_roster s.own live)) t → StandsFor base own false t (making base own h live conf sak).past
stands-made base own s t h live conf sak due x may i =
    let by_key = subst (λ (k : Key). IsInstalled s k (Some (made_roster s.own live)) t) (key-told base own s h conf sak x) i in
    let is = subst (λ (m : Mi). IsInstalled s (made_key base own h conf sak) (Some (made_roster m live)) t) x.owner by_key in
    stands-installed base own s t h (Some (made_roster own live)) (made_key base own h conf sak) is (refl, (and_parts (allows h) due may).0, x.kept) (refl, refl, x.numbered) x
