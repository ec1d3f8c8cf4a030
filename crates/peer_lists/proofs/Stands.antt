-- What the table stands for, call by call.
use Rattle.std.proofs.Common.{◌≡◌, ◌↔◌, IsNone, ℕ, suc, zero, ◌+◌, ◌-◌, ◌%◌, ◌≤◌, Bool, true, false, cond, ◌&&◌, List, [], ◌∷◌, Option, Some, None, Result, map, length, refl, ap, sym, ◌∙◌, subst, arith, slice_get}
use Rattle.std.proofs.lemmas.List.{length-map, length-set, get_or-replicate}
use Rattle.std.proofs.lemmas.Option.{slice_get-map}
use Rattle.std.specs.List.Sorted.{IsBinarySearchResult, IsSearchInRange}
use Rattle.std.specs.Option.{option_map, option_and_then, option_or}
use Rattle.lan_base.specs.declared.address.Mi.{Mi}
use Rattle.peer_lists.specs.declared.heard.Heard.{Heard}
use Rattle.peer_lists.specs.declared.heard.Outcome.TheVariants.{Vouched, Unvouched, Dropped}
use Rattle.peer_lists.specs.declared.heard.PeerRefusal.{PeerRefusal}
use Rattle.peer_lists.specs.declared.heard.Row.{Row}
use Rattle.peer_lists.specs.declared.remembered.Remembered.{Remembered}
use Rattle.lan_base.specs.Timers.{life_time}
use Rattle.lan_base.specs.Identifiers.{same_mi, order}
use Rattle.peer_lists.specs.Histories.{Peering, ticked, sent, heard, clock, recent, last_sent, may_send}
use Rattle.peer_lists.specs.Acceptance.{Own, accepted, refusal, echo, old_number, peers_full, outcome, vouches}
use Rattle.peer_lists.specs.Peers.{known, row_at}
use Rattle.peer_lists.specs.Table.{Table, StandsFor, member, look_up, remembered}
use Rattle.lan_base.specs.Identifiers.{IsAscending}
use Rattle.peer_lists.specs.Showing.{aged_peer, aged_rows, shown}
use Rattle.peer_lists.specs.inside.RowChanges.{put, displaced_peer, displaced_rows, rows_heard, reason_at}
use Rattle.peer_lists.specs.inside.Countdowns.{no_numbers, numbers_after_tick, numbers_after_sent, is_number_recent}
use Rattle.peer_lists.proofs.Identifiers.{by_test, same_mi-equal, same_mi-itself}
use Rattle.peer_lists.proofs.TableRows.{look_up-put, look_up-put_other, put-ascending, map-change, look_up-change, filter-ascending, look_up-filter, passing, row_heard, heard_at-is, reason_at-is}
use Rattle.peer_lists.proofs.Pasts.{reason_after}
use Rattle.peer_lists.proofs.Refusals.{reason-is, rows-known}
use Rattle.peer_lists.proofs.Changes.{is_kept, remembered-tick, remembered-sent, remembered-dropped, remembered-other, remembered-here}
use Rattle.peer_lists.proofs.Shown.{rows-shown}
use Rattle.peer_lists.proofs.Numbers.{NumbersStand, recent-is, left-ticked, left-sent}

pub stands-new : (own : Own) → StandsFor own (record { own = own; rows = []; sent = no_numbers }) []
unfolding remembered accepted
stands-new own = record {
  owner = refl;
  ascending = tt;
  rows = λ m. refl;
  counted = tt;
  last = refl;
  may_send = refl;
  long = refl;
  left = λ n low near. get_or-replicate life_time (n % life_time) 0 0 (omega arith);
}

pub stands-tick : (own : Own) (t : Table) (h : List Peering) → StandsFor own t h → StandsFor own (record { own = t.own; rows = aged_rows t.rows; sent = numbers_after_tick t.sent }) (ticked ∷ h)
stands-tick own t h s =
    let ups : IsAscending (map member (map aged_peer t.rows)) = rw (map-change aged_peer (λ p. refl) t.rows) s.ascending in
    record {
      owner = s.owner;
      ascending = filter-ascending is_kept (map aged_peer t.rows) ups;
      rows = λ m.
          look_up-filter is_kept m (map aged_peer t.rows) ups
          ∙ ap (option_and_then (passing is_kept)) (look_up-change aged_peer (λ p. refl) m t.rows ∙ ap (option_map aged_peer) (s.rows m))
          ∙ sym (remembered-tick own h m);
      counted = s.counted;
      last = s.last;
      may_send = refl;
      long = length-map t.sent.left (λ n. n - 1) ∙ s.long;
      left = λ n low near. left-ticked t.sent.left h (n % life_time) n (s.left n low near);
    }

pub stands-sent : (own : Own) (t : Table) (h : List Peering) (n : ℕ) → n ≡ last_sent h + 1 → may_send h ≡ true → StandsFor own t h → StandsFor own (record { own = t.own; rows = t.rows; sent = numbers_after_sent n t.sent }) (sent n ∷ h)
stands-sent own t h n next now s =
    let last = s.last in
    record {
      owner = s.owner;
      ascending = s.ascending;
      rows = λ m. s.rows m ∙ sym (remembered-sent own n h m);
      counted = (next, now, s.counted);
      last = refl;
      may_send = refl;
      long = length-set t.sent.left (n % life_time) life_time ∙ s.long;
      left = λ m low near. left-sent t.sent.left h n m s.long low near (λ less. s.left m (omega arith) (omega arith));
    }

numbers : (own : Own) (t : Table) (h : List Peering) → StandsFor own t h → NumbersStand t.sent h
numbers own t h s = record { counted = s.counted; last = s.last; left = s.left }

pub recent-stands : (own : Own) (t : Table) (h : List Peering) → StandsFor own t h → (n : ℕ) → is_number_recent t.sent n ≡ recent h n
recent-stands own t h s n = recent-is t.sent h (numbers own t h s) n

refusal-is : (own : Own) (h : List Peering) (x : Heard) → reason_after own h x ≡ option_or (echo own x) (option_or (old_number (clock h) (accepted own h) x) (peers_full (clock h) (accepted own h) x))
unfolding refusal
refusal-is own h x = refl

pub refusal-stands : (own : Own) (t : Table) (h : List Peering) (x : Heard) (place : Result ℕ ℕ) → StandsFor own t h → IsSearchInRange place (length t.rows) → IsBinarySearchResult (λ p. order (member p) x.mi) t.rows place → option_or (echo t.own x) (reason_at place t.rows x) ≡ reason_after own h x
refusal-stands own t h x place s range found =
    rw (s.owner, reason_at-is x t.rows place s.ascending range found, reason-is own h t.rows x s.ascending s.rows) (sym (refusal-is own h x))

pub stands-dropped : (own : Own) (t : Table) (h : List Peering) (x : Heard) (r : PeerRefusal) → reason_after own h x ≡ Some r → StandsFor own t h → StandsFor own t (heard x ∷ h)
stands-dropped own t h x r e s = record {
  owner = s.owner;
  ascending = s.ascending;
  rows = λ m. s.rows m ∙ sym (remembered-dropped own x h r e m);
  counted = s.counted;
  last = s.last;
  may_send = s.may_send;
  long = s.long;
  left = s.left;
}

displaced-keeps : (x : Heard) (p : Remembered) → member (displaced_peer x p) ≡ member p
displaced-keeps x p = by_test (same_mi (member p) x.mi) (λ e. rw e refl) (λ e. rw e refl)

heard-keeps : (v : Bool) (x : Heard) (o : Option Remembered) → member (row_heard v x o) ≡ x.mi
heard-keeps v x None = refl
heard-keeps v x (Some p) = refl

map-itself : {A : Type 0} (o : Option A) → option_map (λ p. p) o ≡ o
map-itself None = refl
map-itself (Some p) = refl

after-ascending : (v : Bool) (x : Heard) (ps : List Remembered) → IsAscending (map member ps) → IsAscending (map member (cond v (displaced_rows x ps) ps))
after-ascending false x ps h = h
after-ascending true x ps h = rw (map-change (displaced_peer x) (displaced-keeps x) ps) h

after-other : (v : Bool) (x : Heard) (m : Mi) (ps : List Remembered) → look_up m (cond v (displaced_rows x ps) ps) ≡ option_map (λ p. cond v (displaced_peer x p) p) (look_up m ps)
after-other false x m ps = sym (map-itself (look_up m ps))
after-other true x m ps = look_up-change (displaced_peer x) (displaced-keeps x) m ps

after-here : (v : Bool) (x : Heard) (r : Remembered) → member r ≡ x.mi → cond v (displaced_peer x r) r ≡ r
after-here false x r e = refl
after-here true x r e = let same : same_mi (member r) x.mi ≡ true = rw e (same_mi-itself x.mi) in rw same refl

rows-heard : (own : Own) (h : List Peering) (x : Heard) (ps : List Remembered) → reason_after own h x ≡ None → ((m : Mi) → look_up m ps ≡ remembered own h m) → (m : Mi)
    → let v = vouches h x in let after = put (row_heard v x (look_up x.mi ps)) ps in look_up m (cond v (displaced_rows x after) after) ≡ remembered own (heard x ∷ h) m
rows-heard own h x ps e rows m =
    let v = vouches h x in
    let row = row_heard v x (look_up x.mi ps) in
    let of : member row ≡ x.mi = heard-keeps v x (look_up x.mi ps) in
    after-other v x m (put row ps)
    ∙ by_test (same_mi x.mi m)
    (λ f.
    let same : x.mi ≡ m = same_mi-equal x.mi m f in
    let found : look_up m (put row ps) ≡ Some row = subst (λ (n : Mi). look_up n (put row ps) ≡ Some row) (of ∙ same) (look_up-put row ps) in
    ap (option_map (λ p. cond v (displaced_peer x p) p)) found ∙ ap Some (after-here v x row of)
    ∙ ap (λ o. Some (row_heard v x o)) (rows x.mi) ∙ sym (remembered-here own x h e) ∙ ap (remembered own (heard x ∷ h)) same)
    (λ f.
    let apart : same_mi (member row) m ≡ false = subst (λ (n : Mi). same_mi n m ≡ false) (sym of) f in
    ap (option_map (λ p. cond v (displaced_peer x p) p)) (look_up-put_other m row ps apart ∙ rows m) ∙ sym (remembered-other own x h e m f))

pub stands-heard : (own : Own) (t : Table) (h : List Peering) (x : Heard) (place : Result ℕ ℕ) → StandsFor own t h → IsSearchInRange place (length t.rows) → IsBinarySearchResult (λ p. order (member p) x.mi) t.rows place → reason_after own h x ≡ None → StandsFor own (record { own = t.own; rows = rows_heard place (vouches h x) x t.rows; sent = t.sent }) (heard x ∷ h)
stands-heard own t h x place s range found e =
    let v = vouches h x in
    let row = row_heard v x (look_up x.mi t.rows) in
    let is = heard_at-is v x t.rows place s.ascending range found in
    record {
      owner = s.owner;
      ascending = rw is (after-ascending v x (put row t.rows) (put-ascending row t.rows s.ascending));
      rows = λ m. rw is (rows-heard own h x t.rows e s.rows m);
      counted = s.counted;
      last = s.last;
      may_send = s.may_send;
      long = s.long;
      left = s.left;
    }

pub outcome-new : (own : Own) (h : List Peering) (x : Heard) → reason_after own h x ≡ None → outcome own h x ≡ cond (vouches h x) Vouched Unvouched
unfolding outcome
outcome-new own h x e = rw (e, outcome) refl

pub outcome-dropped : (own : Own) (h : List Peering) (x : Heard) (r : PeerRefusal) → reason_after own h x ≡ Some r → outcome own h x ≡ Dropped r
unfolding outcome
outcome-dropped own h x r e = rw (e, outcome) refl

pub row-stands : (own : Own) (t : Table) (h : List Peering) → StandsFor own t h → (at : ℕ) → option_map shown (slice_get t.rows at) ≡ row_at own h at
row-stands own t h s at = rows-shown own h t.rows s.ascending s.rows at

-- the rows a tick later, as they are shown
pub later-stands : (own : Own) (t : Table) (h : List Peering) → StandsFor own t h → (at : ℕ) → slice_get (map shown (aged_rows t.rows)) at ≡ row_at own (ticked ∷ h) at
later-stands own t h s at =
    slice_get-map shown (aged_rows t.rows) at
    ∙ row-stands own (record { own = t.own; rows = aged_rows t.rows; sent = numbers_after_tick t.sent }) (ticked ∷ h) (stands-tick own t h s) at

pub len-stands : (own : Own) (t : Table) (h : List Peering) → StandsFor own t h → length t.rows ≡ length (known own h)
len-stands own t h s = sym (length-map t.rows member) ∙ ap length (rows-known own h t.rows s.ascending s.rows)

-- the table's answers to what is heard, told by the values that `hear` comes to know

pub reason-told : (own : Own) (t : Table) (h : List Peering) (x : Heard) (place : Result ℕ ℕ) (ps : List Remembered) (o : Option PeerRefusal) → ps ≡ t.rows → IsSearchInRange place (length ps) → IsBinarySearchResult (λ p. order (member p) x.mi) ps place
    → o ≡ option_or (echo t.own x) (reason_at place t.rows x) → StandsFor own t h → reason_after own h x ≡ o
reason-told own t h x place ps o same range found told s =
    sym (told ∙ refusal-stands own t h x place s (subst (λ (l : List Remembered). IsSearchInRange place (length l)) same range) (subst (λ (l : List Remembered). IsBinarySearchResult (λ p. order (member p) x.mi) l place) same found))

pub vouched-told : (own : Own) (t : Table) (h : List Peering) (x : Heard) (v : Bool) → v ≡ (x.lists && is_number_recent t.sent x.listed) → StandsFor own t h → vouches h x ≡ v
vouched-told own t h x v told s = sym (told ∙ ap (λ b. x.lists && b) (recent-stands own t h s x.listed))

pub answer-told : (own : Own) (h : List Peering) (x : Heard) (v : Bool) → reason_after own h x ≡ None → vouches h x ≡ v → cond v Vouched Unvouched ≡ outcome own h x
answer-told own h x v e f = sym (outcome-new own h x e ∙ ap (λ k. cond k Vouched Unvouched) f)

pub table-told : (own : Own) (t u : Table) (h : List Peering) (x : Heard) (place : Result ℕ ℕ) (ps : List Remembered) (v : Bool) → ps ≡ t.rows → IsSearchInRange place (length ps) → IsBinarySearchResult (λ p. order (member p) x.mi) ps place
    → reason_after own h x ≡ None → vouches h x ≡ v → u ≡ record t { rows = rows_heard place v x t.rows } → StandsFor own t h → StandsFor own u (heard x ∷ h)
table-told own t u h x place ps v same range found e f told s =
    let made = stands-heard own t h x place s (subst (λ (l : List Remembered). IsSearchInRange place (length l)) same range) (subst (λ (l : List Remembered). IsBinarySearchResult (λ p. order (member p) x.mi) l place) same found) e in
    rw (told, ← f) made

none-past : (ps : List Remembered) (at : ℕ) → IsNone (option_map shown (slice_get ps at)) ↔ (length ps ≤ at)
none-past [] at = (λ h. omega arith, λ h. refl)
none-past (p ∷ ps) zero = (λ h. absurd (cc (h)), λ h. absurd (omega arith))
none-past (p ∷ ps) (suc at) = let r = none-past ps at in (λ h. let l = r.0 h in omega arith, λ h. r.1 (omega arith))

pub past-told : (own : Own) (t : Table) (h : List Peering) (at : ℕ) (o : Option Row) → o ≡ option_map shown (slice_get t.rows at) → StandsFor own t h → IsNone o ↔ (length (known own h) ≤ at)
past-told own t h at o e s = rw (e, ← len-stands own t h s) (none-past t.rows at)
