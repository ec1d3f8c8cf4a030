-- The laws of stepped runs that are fresh and unforged.
use Rattle.std.proofs.Common.{◌≡◌, ◌<◌, refl, sym, ap, ◌∙◌, subst, inl, inr, ℕ, zero, suc, List, []}
use Rattle.std.proofs.Common.{◌∷◌, length, map, Bool, true, false, ◌&&◌, Option, Some, is_some}
use Rattle.std.proofs.Common.{IsTrue}
use Rattle.std.specs.Prelude.{Contains, option_map, slice_get, ◌==◌}
use Rattle.std.specs.List.{find}
use Rattle.std.proofs.lemmas.Bool.{and_parts, eqb-true, eq-eqb}
use Rattle.lan_base.specs.declared.frame.UserFrame.{UserFrame}
use Rattle.aes_block.specs.Secrets.{secret_octets}
use Rattle.sak_exchange.proofs.Public.{find-passes}
use Rattle.lan_core.specs.declared.event.Event.{Event}
use Rattle.lan_core.specs.declared.event.Event.TheVariants as events
use Rattle.lan_core.specs.declared.fact.Fact.{Fact}
use Rattle.lan_core.specs.declared.settings.Settings.{Settings}
use Rattle.lan_core.specs.Run.{Run, happened, Profile, stations}
use Rattle.lan_core.specs.Ledgers.{births, Install, installs, install_at, air, Claim, claims}
use Rattle.lan_core.specs.Lives.{life}
use Rattle.lan_core.specs.Claims.{claimed}
use Rattle.lan_core.specs.Legal.{IsStep, IsStepped}
use Rattle.lan_base.specs.Differing.{AllDiffer}
use Rattle.lan_core.specs.Fresh.{drawn_saks, IsFresh, IsUnforgedBy, IsUnforged}
use Rattle.group_safety.specs.Once.{sak_of, sci_of, Use, use_of, Once, OneKey, makes, Drawn}
use Rattle.group_safety.proofs.Members.{In, contains-in, in-contains, in-map, in-from_map}
use Rattle.group_safety.proofs.once.Ledgers.{Handed, Installation, Book, book, mis}
use Rattle.group_safety.proofs.once.Places.{differs-in, differ-by}
use Rattle.group_safety.proofs.once.Currents.{some-same, none-some}
use Rattle.group_safety.proofs.once.Invariant.{Inv}
use Rattle.group_safety.proofs.once.ChangesKeep.{holds}
use Rattle.group_safety.proofs.once.OneKeyEach.{octets_in, made_in, one-key, maker, one-install}
use Rattle.group_safety.proofs.once.OneKeyEach.{number_taken}
use Rattle.group_safety.proofs.once.OneKeyEach.{claims-differ, lived}
use Rattle.group_safety.proofs.once.LiveHeard.{in-find}
use Rattle.group_safety.proofs.once.Nexts.{get-there, in-get}
use Rattle.group_safety.proofs.once.Books.{plain}
use Rattle.group_safety.proofs.once.Living.{IsKnown}
use Rattle.group_safety.proofs.once.TickKept.{tick-kept}
use Rattle.group_safety.proofs.once.ReachKept.{deliver-kept, inject-kept}
use Rattle.group_safety.proofs.once.StartKept.{start-kept, restart-kept}
use Rattle.group_safety.proofs.once.ClaimKept.{claim-kept, emit-kept}

-- ---- a stepped and unforged run is known

event-kept : (settings : Settings) (users : List UserFrame) (e : Event) (f : List Fact) (r : Run)
    → IsStep settings users (happened e f) r → IsUnforgedBy settings r e → IsKnown settings users r
    → IsKnown settings users (happened e f ∷ r)
event-kept settings users (events.Start name sci priority) f r step unforged k =
    start-kept settings users name sci priority f r step k
event-kept settings users (events.Tick s next) f r step unforged k =
    tick-kept settings users s next f r step k
event-kept settings users (events.Deliver frame s) f r step unforged k =
    deliver-kept settings users frame s f r step k
event-kept settings users (events.Restart s) f r step unforged k =
    restart-kept settings users s f r step k
event-kept settings users (events.Claim s user pn) f r step unforged k =
    claim-kept settings users s user pn f r step k
event-kept settings users events.Emit f r step unforged k = emit-kept settings users f r step k
event-kept settings users (events.Inject s octets) f r step unforged k =
    inject-kept settings users s octets f r step unforged k

known-first : (settings : Settings) (users : List UserFrame) → IsKnown settings users []
unfolding births installs makes claims air life stations claimed drawn_saks
known-first settings users = record {
  changes = [];
  allowed = tt;
  shows = record {
    births = refl;
    installs = refl;
    makes = refl;
    claims = refl;
    air = λ f i. elim i [ ];
    lives = λ s l e. absurd (none-some e);
  };
  living = λ s l e. absurd (none-some e);
  plain = record {
    typed = λ p i. elim i [ ];
    apart = tt;
    placed = λ b i. elim i [ ];
    drawn = refl;
    sendable = λ w i. elim i [ ];
    below = λ c i. elim i [ ];
  };
}

pub known : (settings : Settings) (users : List UserFrame) (r : Run)
    → IsStepped settings users r → IsUnforged settings r → IsKnown settings users r
known settings users [] stepped unforged = known-first settings users
known settings users (x ∷ r) (step, before) (honest, earlier) =
    event-kept settings users x.event x.facts r step honest (known settings users r before earlier)

-- ---- the invariant

invariant : (settings : Settings) (users : List UserFrame) (r : Run) (k : IsKnown settings users r)
    → IsFresh r
    → Inv (book k.changes)
invariant settings users r k fresh =
    holds k.changes k.allowed (subst (λ bs. AllDiffer (mis bs)) (sym k.shows.births) fresh.mis)

plain-octets : (is : List Installation)
    → map (λ (i : Install). secret_octets i.sak) (map plain is) ≡ map octets_in is
plain-octets [] = refl
plain-octets (i ∷ is) = ap (λ w. octets_in i ∷ w) (plain-octets is)

saks-differ : (settings : Settings) (users : List UserFrame) (r : Run)
    (k : IsKnown settings users r) → IsFresh r
    → AllDiffer (map octets_in (made_in (book k.changes).installs))
saks-differ settings users r k fresh =
    subst AllDiffer
    (sym k.plain.drawn ∙ ap (map (λ (i : Install). secret_octets i.sak)) (sym k.shows.makes)
    ∙ plain-octets (made_in (book k.changes).installs)) fresh.saks

-- the install behind what the run shows
behind : (settings : Settings) (users : List UserFrame) (r : Run) (k : IsKnown settings users r)
    (i : Install)
    → In i (installs r) → (n : Installation) × In n (book k.changes).installs × (i ≡ plain n)
behind settings users r k i h =
    in-from_map plain (book k.changes).installs i (subst (λ w. In i w) (sym k.shows.installs) h)

pub run-one_key : (settings : Settings) (users : List UserFrame) (r : Run)
    → IsKnown settings users r → IsFresh r → OneKey r
run-one_key settings users r k fresh i j hi hj e =
    let v = invariant settings users r k fresh in
    let m = behind settings users r k i (contains-in (installs r) i hi) in
    let n = behind settings users r k j (contains-in (installs r) j hj) in
    let same = one-key (book k.changes) v m.0 n.0 m.1 n.1
    (ap (λ (w : Install). w.id) (sym m.2) ∙ e ∙ ap (λ (w : Install). w.id) n.2) in (
      ap (λ (w : Install). w.sak) m.2 ∙ ap (λ (w : Handed). w.sak) same
          ∙ ap (λ (w : Install). w.sak) (sym n.2),
      ap (λ (w : Install). w.an) m.2 ∙ ap (λ (w : Handed). w.an) same
          ∙ ap (λ (w : Install). w.an) (sym n.2),
    )

pub run-drawn : (settings : Settings) (users : List UserFrame) (r : Run) → IsKnown settings users r
    → IsFresh r → Drawn r
run-drawn settings users r k fresh i hi =
    let v = invariant settings users r k fresh in
    let n = behind settings users r k i (contains-in (installs r) i hi) in
    let m = maker (book k.changes) v n.0 n.1 in
    let there : In (plain m.0) (makes r) = subst (λ w. In (plain m.0) w) k.shows.makes
    (in-map plain (made_in (book k.changes).installs) m.0 m.1) in
    let sak = ap (λ (w : Handed). w.sak) m.2 ∙ ap (λ (w : Install). w.sak) (sym n.2) in (
      plain m.0,
      record {
        made_there = in-contains (makes r) (plain m.0) there;
        id = ap (λ (w : Handed). w.id) m.2 ∙ ap (λ (w : Install). w.id) (sym n.2);
        an = ap (λ (w : Handed). w.an) m.2 ∙ ap (λ (w : Install). w.an) (sym n.2);
        sak = sak;
        drawn = in-contains (drawn_saks r) (secret_octets i.sak)
            (subst (λ w. In w (drawn_saks r)) (ap secret_octets sak)
            (subst (λ w. In (secret_octets m.0.key.sak) w) k.plain.drawn
            (in-map (λ (i : Install). secret_octets i.sak) (makes r) (plain m.0) there)));
      },
    )

-- ---- what a claim uses

find-some : {X : Type 0} (p : X → Bool) (xs : List X) (x : X) → In x xs → p x ≡ true → (y : X)
    × (find p xs ≡ Some y)
find-some p [] x i e = elim i [ ]
find-some p (y ∷ ys) x (inl same) e =
    let here : p y ≡ true = ap p (sym same) ∙ e in (y, rw here refl)
find-some {X} p (y ∷ ys) x (inr i) e = go (p y) refl (find-some p ys x i e)
  where
    go : (b : Bool) → p y ≡ b → (z : X) × (find p ys ≡ Some z) → (z : X)
        × (find p (y ∷ ys) ≡ Some z)
    go true is later = (y, rw is refl)
    go false is later = (later.0, rw is later.1)

-- the install whose SAK a claim uses
record IsUsed (b : Book) (r : Run) (c : Claim) : Type 0 where
  install : Installation
  place : In install b.installs
  station : install.station ≡ c.station
  epoch : install.epoch ≡ c.epoch
  found : install_at c.station c.epoch r ≡ Some (plain install)

-- the test that finds it
is_under : Claim → Install → Bool
is_under c i = (i.station == c.station) && (i.epoch == c.epoch)

used-there : (b : Book) (r : Run) (c : Claim) (i : Install) (n : Installation) → In n b.installs
    → i ≡ plain n → is_under c i ≡ true → install_at c.station c.epoch r ≡ Some i → IsUsed b r c
unfolding is_under
used-there b r c i n place same passes at =
    let both = and_parts (i.station == c.station) (i.epoch == c.epoch) passes in
    record {
      install = n;
      place = place;
      station = ap (λ (w : Install). w.station) (sym same) ∙ eqb-true i.station c.station both.0;
      epoch = ap (λ (w : Install). w.epoch) (sym same) ∙ eqb-true i.epoch c.epoch both.1;
      found = at ∙ ap Some same;
    }

used : (settings : Settings) (users : List UserFrame) (r : Run) (k : IsKnown settings users r)
    → IsFresh r
    → (c : Claim) → In c (claims r) → IsUsed (book k.changes) r c
unfolding is_under
used settings users r k fresh c h =
    let v = invariant settings users r k fresh in
    let n = v.claimed c (subst (λ w. In c w) (sym k.shows.claims) h) in
    let there : In (plain n.0) (installs r) = subst (λ w. In (plain n.0) w) k.shows.installs
    (in-map plain (book k.changes).installs n.0 n.1) in
    let passes : is_under c (plain n.0) ≡ true =
    rw (eq-eqb n.0.station c.station n.2, eq-eqb n.0.epoch c.epoch n.3) refl in
    let x = find-some (is_under c) (installs r) (plain n.0) there passes in
    let m = behind settings users r k x.0 (in-find (is_under c) (installs r) x.0 x.1) in
    used-there (book k.changes) r c x.0 m.0 m.1 m.2
    (find-passes (is_under c) (installs r) x.0 x.1) x.1

-- the station that claimed is there
claimer : (settings : Settings) (users : List UserFrame) (r : Run) (k : IsKnown settings users r)
    → IsFresh r
    → (c : Claim) → In c (claims r) → (p : Profile) × (slice_get (stations r) c.station ≡ Some p)
claimer settings users r k fresh c h =
    let v = invariant settings users r k fresh in
    let u = used settings users r k fresh c h in
    let b = lived (book k.changes) v u.install u.place in
    let less = k.plain.placed b.0 (subst (λ w. In b.0 w) k.shows.births b.1) in
    get-there (stations r) c.station (subst (λ n. n < length (stations r)) (b.2 ∙ u.station) less)

pub place-apart : {X Y : Type 0} (f : X → Y) (xs : List X) (s t : ℕ) (p q : X) → AllDiffer (map f xs)
    → slice_get xs s ≡ Some p → slice_get xs t ≡ Some q → f p ≡ f q → s ≡ t
place-apart f [] s t p q d hs ht e = absurd (none-some hs)
place-apart f (x ∷ xs) zero zero p q d hs ht e = refl
place-apart f (x ∷ xs) zero (suc t) p q d hs ht e =
    absurd (differs-in (f x) (f q) (map f xs) d.0 (in-map f xs q (in-get xs t q ht))
    (ap f (some-same hs) ∙ e))
place-apart f (x ∷ xs) (suc s) zero p q d hs ht e =
    absurd (differs-in (f x) (f p) (map f xs) d.0 (in-map f xs p (in-get xs s p hs))
    (ap f (some-same ht) ∙ sym e))
place-apart f (x ∷ xs) (suc s) (suc t) p q d hs ht e = ap suc (place-apart f xs s t p q d.1 hs ht e)

pub run-once : (settings : Settings) (users : List UserFrame) (r : Run) → IsKnown settings users r
    → IsFresh r → Once r
run-once settings users r k fresh =
    differ-by (use_of r) number_taken (claims r) same
    (subst (λ cs. AllDiffer (map number_taken cs)) k.shows.claims
    (claims-differ (book k.changes).claims v.falling))
  where
    v : Inv (book k.changes)
    v = invariant settings users r k fresh

    same : (c d : Claim) → In c (claims r) → In d (claims r) → use_of r c ≡ use_of r d
        → number_taken c ≡ number_taken d
    same c d hc hd e =
        let i = used settings users r k fresh c hc in
        let j = used settings users r k fresh d hd in
        let p = claimer settings users r k fresh c hc in
        let q = claimer settings users r k fresh d hd in
        let scis : p.0.sci ≡ q.0.sci = some-same
        (ap (option_map (λ (w : Profile). w.sci)) (sym p.1) ∙ ap (λ (u : Use). u.sci) e
        ∙ ap (option_map (λ (w : Profile). w.sci)) q.1) in
        let station : c.station ≡ d.station = place-apart (λ (w : Profile). w.sci) (stations r)
        c.station d.station p.0 q.0 k.plain.apart p.1 q.1 scis in
        let saks : octets_in i.install ≡ octets_in j.install = some-same
        (ap (option_map (λ (w : Install). secret_octets w.sak)) (sym i.found)
        ∙ ap (λ (u : Use). u.sak) e
        ∙ ap (option_map (λ (w : Install). secret_octets w.sak)) j.found) in
        let one = one-install (book k.changes) (saks-differ settings users r k fresh) v i.install
        j.install i.place j.place
        (i.station ∙ station ∙ sym j.station) saks in
        let epoch : c.epoch ≡ d.epoch = sym i.epoch ∙ ap (λ (w : Installation). w.epoch) one
        ∙ j.epoch in
        let pn : c.pn ≡ d.pn = ap (λ (u : Use). u.pn) e in
        λ t. record { station = station t; epoch = epoch t; pn = pn t }

pub run-claims_known : (settings : Settings) (users : List UserFrame) (r : Run) (c : Claim)
    → IsKnown settings users r → IsFresh r
    → Contains (claims r) c → IsTrue (is_some (sak_of r c)) × IsTrue (is_some (sci_of r c.station))
run-claims_known settings users r c k fresh there =
    let h = contains-in (claims r) c there in
    let i = used settings users r k fresh c h in
    let p = claimer settings users r k fresh c h in (
      ap (λ (o : Option Install). is_some (option_map (λ w. secret_octets w.sak) o)) i.found,
      ap (λ (o : Option Profile). is_some (option_map (λ w. w.sci) o)) p.1,
    )
